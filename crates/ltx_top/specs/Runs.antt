-- What a run is worth: the history that it answered, and what it printed of it.
use Rattle.std.specs.Prelude.{◌≡◌, ℕ, ◌+◌, ◌-◌, ◌≤◌, ◌<◌, min, Bool, true, false, List, ◌++◌, map, take, length, Option, Some, None, IfSome, IsSomeAnd}
use Rattle.std.specs.List.{list_any}
use Rattle.std.specs.Io.KnownBytes.{Appends, IsAtEnd}
use Rattle.ltx_model.specs.declared.replies.Entry.{Entry}
use Rattle.ltx_model.specs.declared.replies.Reply.{Reply}
use Rattle.ltx_model.specs.declared.replies.Reply.TheVariants as replies
use Rattle.ltx_model.specs.States.{Base, order}
use Rattle.ltx_model.specs.Histories.{state}
use Rattle.ltx_model.specs.Answers.{IsLegalWith}
use Rattle.ltx_model.specs.Explained.{IsExplained}
use Rattle.ltx_top.specs.Built.{built}
use Rattle.ltx_outside.specs.Reads.{Reads}
use Rattle.ltx_text.specs.Lines.{feeds}
use Rattle.ltx_top.specs.Promises.{KeepsPromises}
use Rattle.ltx_top.specs.Transcripts.{script_lines, history_text, ending_of}

-- the bytes of a script that a run reads at most
abbrev pub most_of_script : ℕ
most_of_script = 4294967295

-- how many bytes were taken from a source, where it tells what it has left
abbrev pub took : Option (List ℕ) → Option (List ℕ) → ℕ
took None new = 0
took (Some old) None = 0
took (Some old) (Some new) = length old - length new

abbrev pub is_bad : Reply → Bool
is_bad (replies.Bad cause) = true
is_bad reply = false

-- some reply of a history is `bad`
abbrev pub has_bad : List Entry → Bool
has_bad history = list_any (λ e. is_bad e.reply) history

-- what a source has left, what it tells of its calls, and what a sink has
pub record Devices : Type 0 where
  pub left : Option (List ℕ)
  pub reads : Option Reads
  pub written : Option (List ℕ)

abbrev pub devices : Option (List ℕ) → Option Reads → Option (List ℕ) → Devices
devices left reads written = record { left = left; reads = reads; written = written }

-- each call of the source but one gave a byte or more; that one met the end, or failed
abbrev pub AsksOnce : Devices → Devices → Type 0
AsksOnce old new = IfSome old.left (λ bytes. IfSome old.reads (λ before. IsSomeAnd new.reads (λ after.
    after.calls ≤ before.calls + took old.left new.left + 1)))

-- at least so many lines were answered as line feeds were taken before the last call of the source
abbrev pub AnswersBefore : Devices → Devices → List Entry → Type 0
AnswersBefore old new history = IfSome old.left (λ bytes. IfSome old.reads (λ before. IsSomeAnd new.reads (λ after.
    feeds (take (took old.left new.left - after.last) bytes) ≤ length history)))

-- A whole run over a base. Its history has an entry for each line of the bytes that the source had, in order, and is legal; the
-- text of the history and then its ending were written; the source is at its end; the order explains the history, and the
-- history keeps what is promised of places, priority and refusals.
pub record Ran (base : Base) (old new : Devices) (bad : Bool) : Type 0 where
  pub history : List Entry
  pub lines : IfSome old.left (λ bytes. map (λ e. e.line) history ≡ script_lines bytes)
  pub legal : IsLegalWith built base history
  pub printed : Appends old.written new.written (history_text history ++ ending_of (state base history))
  pub ended : IsAtEnd new.left
  pub explained : IsExplained base history (order (state base history))
  pub promises : KeepsPromises base history
  pub malformed : has_bad history ≡ bad
  pub asked : AsksOnce old new

-- A run that stopped early. Its history is a legal one of the first lines, those at least whose line feed was taken before the
-- last call of the source, and a front of its text and ending was written; of the ending something only where every line was
-- answered.
pub record Stopped (base : Base) (old new : Devices) : Type 0 where
  pub history : List Entry
  pub lines : IfSome old.left (λ bytes. map (λ e. e.line) history ≡ take (length history) (script_lines bytes))
  pub legal : IsLegalWith built base history
  pub explained : IsExplained base history (order (state base history))
  pub promises : KeepsPromises base history
  pub most : ℕ
  pub printed : Appends old.written new.written (take most (history_text history ++ ending_of (state base history)))
  pub whole : length (history_text history) < most → IfSome old.left (λ bytes. map (λ e. e.line) history ≡ script_lines bytes)
  pub answered : AnswersBefore old new history
  pub asked : AsksOnce old new

-- A run that its source stopped. Each entry was written whole, and each line has one whose line feed was taken and stands among
-- the bytes that a script may have.
pub record Cut (base : Base) (old new : Devices) : Type 0 where
  pub history : List Entry
  pub lines : IfSome old.left (λ bytes. map (λ e. e.line) history ≡ take (length history) (script_lines bytes))
  pub legal : IsLegalWith built base history
  pub explained : IsExplained base history (order (state base history))
  pub promises : KeepsPromises base history
  pub printed : Appends old.written new.written (history_text history)
  pub answered : IfSome old.left (λ bytes. feeds (take (min most_of_script (took old.left new.left)) bytes) ≤ length history)
  pub asked : AsksOnce old new
