-- A run under way: what was taken, answered and printed so far.
use Rattle.std.specs.Prelude.{◌≡◌, ℕ, ◌+◌, ◌-◌, ◌≤◌, Bool, List, [], ◌∷◌, ◌++◌, map, length, take, Option, IfSome, IsSomeAnd, ◌<◌}
use Rattle.std.specs.Io.KnownBytes.{Appends}
use Rattle.ltx_model.specs.declared.commands.Line.{Line}
use Rattle.ltx_model.specs.declared.replies.Entry.{Entry}
use Rattle.ltx_model.specs.declared.replies.Reply.{Reply}
use Rattle.ltx_model.specs.States.{Base, IsSound}
use Rattle.ltx_model.specs.Histories.{state}
use Rattle.ltx_model.specs.Answers.{IsLegalWith, staged}
use Rattle.ltx_top.specs.Built.{built}
use Rattle.ltx_core.specs.Views.{CoreView}
use Rattle.ltx_core.specs.Stands.{StandsFor}
use Rattle.ltx_text.specs.Lines.{LinesState, Cuts, Knows, ends, feeds, fresh}
use Rattle.ltx_top.specs.Transcripts.{entry_text, line_of_piece, history_text}
use Rattle.ltx_top.specs.declared.status.Stop.{Stop}
use Rattle.ltx_top.specs.declared.status.Stop.TheVariants as stops
use Rattle.ltx_top.specs.Runs.{Devices, most_of_script, took, is_bad, has_bad, Cut}

-- where a run begins: its base, and the devices as they are then
pub record Start : Type 0 where
  pub base : Base
  pub old : Devices

-- what a run has in hand: its reader, its core, the text that is not written yet, and whether a line was malformed
pub record Hand : Type 0 where
  pub reader : LinesState
  pub core : CoreView
  pub text : List ℕ
  pub malformed : Bool

-- What was asked of the source since the start, so many calls of which failed: each other one gave a byte or more, or met the
-- end; and so many lines were answered at least as line feeds were taken before the last call.
abbrev pub HasAsked : Devices → Devices → LinesState → ℕ → ℕ → Type 0
HasAsked old now reader answered failed = IfSome old.reads (λ before. IsSomeAnd now.reads (λ after.
    (after.calls ≤ before.calls + reader.taken + ends reader + failed)
    × IfSome old.left (λ bytes. feeds (take (reader.taken - after.last) bytes) ≤ answered)))

-- Since the start, the pieces that the reader gave are the lines of a legal history, for which the core stands, and these
-- pending ones; the text of the history was written, or is in hand; and it is known whether a reply is `bad`.
pub record Progress (start : Start) (now : Devices) (hand : Hand) (pending : List Line) : Type 0 where
  pub history : List Entry
  pub given : List (Option (List ℕ))
  pub cuts : Cuts (fresh most_of_script) hand.reader start.old.left now.left given
  pub lines : map line_of_piece given ≡ map (λ e. e.line) history ++ pending
  pub sound : IsSound start.base
  pub legal : IsLegalWith built start.base history
  pub stands : StandsFor hand.core start.base history
  pub written : List ℕ
  pub out : Appends start.old.written now.written written
  pub whole : written ++ hand.text ≡ history_text history
  pub bad : has_bad history ≡ hand.malformed
  pub within : hand.reader.taken ≤ most_of_script
  pub limit : hand.reader.limit ≡ most_of_script
  pub knows : Knows hand.reader now.left
  pub asked : HasAsked start.old now hand.reader (length history) 0

-- The history of the first lines is legal; of its text a part was written, and this rest was not.
pub record Halted (start : Start) (now : Devices) (rest : List ℕ) : Type 0 where
  pub history : List Entry
  pub given : List (Option (List ℕ))
  pub reader : LinesState
  pub cuts : Cuts (fresh most_of_script) reader start.old.left now.left given
  pub more : List Line
  pub lines : map line_of_piece given ≡ map (λ e. e.line) history ++ more
  pub sound : IsSound start.base
  pub legal : IsLegalWith built start.base history
  pub written : List ℕ
  pub out : Appends start.old.written now.written written
  pub whole : written ++ rest ≡ history_text history
  pub within : reader.taken ≤ most_of_script
  pub asked : HasAsked start.old now reader (length history) 0

-- A line was answered by its reply: the core stands for one entry more, whose text is behind the text before, and it is known
-- whether the reply is `bad`.
pub record Served (old new : CoreView) (line : Line) (before after : List ℕ) (bad : Bool) : Type 0 where
  pub reply : Reply
  pub told : (base : Base) (history : List Entry) → IsSound base → IsLegalWith built base history → StandsFor old base history → reply ≡ staged built (state base history) line
  pub stands : (base : Base) (history : List Entry) → IsSound base → IsLegalWith built base history → StandsFor old base history
      → StandsFor new base (history ++ record { line = line; reply = reply } ∷ [])
  pub text : after ≡ before ++ entry_text (record { line = line; reply = reply })
  pub tells : bad ≡ is_bad reply

-- the core stands for some legal history over a sound base
pub record IsUnderWay (core : CoreView) : Type 0 where
  pub base : Base
  pub history : List Entry
  pub sound : IsSound base
  pub legal : IsLegalWith built base history
  pub stands : StandsFor core base history

-- a step, from what was in hand and pending to what is in hand and pending then, wherever the run began
abbrev pub Steps : Devices → Hand → List Line → Devices → Hand → List Line → Type 0
Steps old hand pending new hand' pending' = (start : Start) → Progress start old hand pending → Progress start new hand' pending'

-- what holds where a run stops before its end, with this text in hand
abbrev pub Ends : Stop → Start → Devices → List ℕ → Type 0
Ends stops.NoMemory start now text = Halted start now text
Ends stops.Source start now text = Cut start.base start.old now × (took start.old.left now.left ≤ most_of_script)
Ends stops.Sink start now text = (rest : List ℕ) × Halted start now rest
Ends stops.TooMuch start now text = Cut start.base start.old now × IfSome start.old.left (λ bytes. most_of_script < took start.old.left now.left)

-- a step that stops the run, with this text in hand then
abbrev pub Halts : Stop → Devices → Hand → List Line → Devices → List ℕ → Type 0
Halts stop old hand pending new text = (start : Start) → Progress start old hand pending → Ends stop start new text
