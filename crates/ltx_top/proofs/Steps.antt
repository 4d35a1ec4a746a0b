-- What each step of a run makes of the run so far.
use Rattle.std.proofs.Common.{◌≡◌, ℕ, ◌+◌, ◌-◌, ◌<◌, ◌≤◌, min, Bool, true, false, ◌||◌, List, [], ◌∷◌, ◌++◌, map, length, take, drop, Option, Some, None, IfSome, refl, sym, ap, ◌∙◌, subst, append_assoc, arith, inl, inr}
use Rattle.std.proofs.lemmas.List.{append-nil, length-append, length-map, map-append, take-append-drop, take_at}
use Rattle.std.proofs.lemmas.List.Folds.{list_any-append}
use Rattle.std.proofs.lemmas.Grind.{flat_map-append}
use Rattle.std.proofs.lemmas.Bool.{cases_lt}
use Rattle.std.proofs.Math.Seq.{take-add, take-append-add}
use Rattle.std.specs.Prelude.{IsSomeAnd}
use Rattle.std.specs.Io.KnownBytes.{Appends, IsAtEnd}
use Rattle.std.proofs.KnownBytes.{Appends-trans, Appends-nil}
use Rattle.ltx_model.specs.declared.commands.Line.{Line}
use Rattle.ltx_model.specs.declared.replies.Entry.{Entry}
use Rattle.ltx_model.specs.declared.replies.Reply.{Reply}
use Rattle.ltx_model.specs.States.{Base, IsSound, first_state, order}
use Rattle.ltx_model.specs.Histories.{state}
use Rattle.ltx_model.specs.Answers.{IsLegalWith, staged}
use Rattle.ltx_model.specs.Explained.{IsExplained}
use Rattle.ltx_model.specs.Recovery.{blank_base}
use Rattle.ltx_model.proofs.OneMore.{legal-none, legal-push}
use Rattle.ltx_top.specs.Built.{built}
use Rattle.ltx_core.specs.Views.{CoreView}
use Rattle.ltx_core.specs.Stands.{StandsFor}
use Rattle.ltx_laws.proofs.ExplainedHistories.{explained}
use Rattle.ltx_outside.specs.Reads.{Reads}
use Rattle.ltx_text.specs.Lines.{LinesState, AsksOf, Cuts, Knows, NoFeedAhead, ends, feeds, fresh}
use Rattle.ltx_text.proofs.LineLemmas.{Cuts-nothing, Cuts-then, feeds-append}
use Rattle.ltx_text.proofs.LineAsks.{asks_none}
use Rattle.ltx_text.proofs.LineRuns.{given_all, given_below, given_front, given_taken}
use Rattle.ltx_top.specs.Transcripts.{line_of_piece, script_lines, entry_text, history_text, ending_of}
use Rattle.ltx_top.specs.Runs.{Devices, devices, most_of_script, took, is_bad, has_bad, AnswersBefore, AsksOnce, Ran, Stopped, Cut}
use Rattle.ltx_top.proofs.PromisesKept.{keeps}
use Rattle.ltx_top.specs.Progress.{Start, Hand, HasAsked, Progress, Halted, IsUnderWay}

pub blank_sound : IsSound blank_base
blank_sound = record { rising = tt; writers = tt; durable = omega arith; last = omega arith }

explains : (base : Base) (history : List Entry) → IsSound base → IsLegalWith built base history → IsExplained base history (order (state base history))
explains base history sound legal = explained built base history sound legal

-- ---- texts

text_push : (history : List Entry) (e : Entry) → history_text (history ++ e ∷ []) ≡ history_text history ++ entry_text e
text_push history e = flat_map-append entry_text history (e ∷ []) ∙ ap (λ (t : List ℕ). history_text history ++ t) (append-nil (entry_text e))

front_text : (a b : List ℕ) → take (length a) (a ++ b) ≡ a
front_text a b = take_at a b (length a) refl

or_false : (b : Bool) → (b || false) ≡ b
or_false true = refl
or_false false = refl

bad_push : (history : List Entry) (e : Entry) → has_bad (history ++ e ∷ []) ≡ (has_bad history || is_bad e.reply)
bad_push history e = list_any-append (λ x. is_bad x.reply) history (e ∷ []) ∙ ap (λ (b : Bool). has_bad history || b) (or_false (is_bad e.reply))

-- ---- what was taken

took_taken : (limit : ℕ) (now : LinesState) (bytes : List ℕ) (left : Option (List ℕ)) (gave : List (Option (List ℕ))) → Cuts (fresh limit) now (Some bytes) left gave → took (Some bytes) left ≡ now.taken
took_taken limit now bytes None gave cuts = absurd cuts.pieces
took_taken limit now bytes (Some more) gave cuts = omega (arith, ap length cuts.consumed, length-append cuts.bytes more, cuts.counted)

took_within : (now : LinesState) (old new : Option (List ℕ)) (gave : List (Option (List ℕ))) → Cuts (fresh most_of_script) now old new gave → now.taken ≤ most_of_script → took old new ≤ most_of_script
took_within now None new gave cuts within = omega arith
took_within now (Some bytes) new gave cuts within = omega (arith, took_taken most_of_script now bytes new gave cuts, within)

past_of : (old after : Option (List ℕ)) (next : LinesState) (given : List (Option (List ℕ))) → Cuts (fresh most_of_script) next old after given → most_of_script < next.taken → IfSome old (λ bytes. most_of_script < took old after)
past_of None after next given cuts past = tt
past_of (Some bytes) after next given cuts past = omega (arith, took_taken most_of_script next bytes after given cuts, past)

-- the lines of the first pieces are the first lines
first_lines : (now : LinesState) (old new : Option (List ℕ)) (given : List (Option (List ℕ))) (history : List Entry) (more : List Line) → Cuts (fresh most_of_script) now old new given
    → map line_of_piece given ≡ map (λ e. e.line) history ++ more → IfSome old (λ bytes. map (λ e. e.line) history ≡ take (length history) (script_lines bytes))
first_lines now None new given history more cuts lines = tt
first_lines now (Some bytes) new given history more cuts lines =
    let front = given_front most_of_script now bytes new given cuts in
    let whole : script_lines bytes ≡ map (λ (e : Entry). e.line) history ++ (more ++ map line_of_piece front.0) =
    ap (map line_of_piece) front.1 ∙ map-append line_of_piece given front.0 ∙ ap (λ (l : List Line). l ++ map line_of_piece front.0) lines ∙ append_assoc (map (λ (e : Entry). e.line) history) more (map line_of_piece front.0) in
    sym (ap (take (length history)) whole ∙ take_at (map (λ (e : Entry). e.line) history) (more ++ map line_of_piece front.0) (length history) (length-map history (λ (e : Entry). e.line)))

all_lines : (now : LinesState) (old new : Option (List ℕ)) (given : List (Option (List ℕ))) (history : List Entry) → Cuts (fresh most_of_script) now old new given
    → map (λ e. e.line) history ≡ map line_of_piece given → now.held ≡ [] → IsAtEnd new → IfSome old (λ bytes. map (λ e. e.line) history ≡ script_lines bytes)
all_lines now None new given history cuts lines none end = tt
all_lines now (Some bytes) new given history cuts lines none end = lines ∙ ap (map line_of_piece) (given_all most_of_script now bytes new given cuts none end)

-- ---- what was asked

feeds_front : (m n : ℕ) (bytes : List ℕ) → m ≤ n → feeds (take m bytes) ≤ feeds (take n bytes)
feeds_front m n bytes less =
    let whole : take n bytes ≡ take m bytes ++ take (n - m) (drop m bytes) = ap (λ (k : ℕ). take k bytes) (let sum : n ≡ m + (n - m) = omega (arith, less) in sum) ∙ take-add m (n - m) bytes in
    omega (arith, ap feeds whole, feeds-append (take m bytes) (take (n - m) (drop m bytes)))

-- the bytes before the last call are those taken before this step, and those that it took before its last call
feeds_before : (reader next : LinesState) (bytes : List ℕ) (before : Option (List ℕ)) (given : List (Option (List ℕ))) (last n : ℕ) → Cuts (fresh most_of_script) reader (Some bytes) before given → length given ≡ n → feeds reader.held ≡ 0
    → reader.taken ≤ next.taken → IfSome before (λ more. feeds (take (next.taken - reader.taken - last) more) ≡ 0) → feeds (take (next.taken - last) bytes) ≤ n
feeds_before reader next bytes None given last n cuts many none later first = absurd cuts.pieces
feeds_before reader next bytes (Some more) given last n cuts many none later first =
    let k = next.taken - reader.taken - last in
    let here : length cuts.bytes ≡ reader.taken = omega (arith, cuts.counted) in
    let front : take (reader.taken + k) bytes ≡ cuts.bytes ++ take k more =
    ap (λ (n : ℕ). take (n + k) bytes) (sym here) ∙ ap (take (length cuts.bytes + k)) cuts.consumed ∙ take-append-add cuts.bytes more k in
    omega (arith, feeds_front (next.taken - last) (reader.taken + k) bytes (omega (arith, later)), ap feeds front, feeds-append cuts.bytes (take k more), first, cuts.ended, none, many)

-- a step of the reader asks at most what it says, and only where no line is held
pub asked_more : (start : Devices) (left0 left1 : Option (List ℕ)) (reads0 reads1 : Option Reads) (w w' : Option (List ℕ)) (reader next : LinesState) (given : List (Option (List ℕ))) (n failed : ℕ)
    → Cuts (fresh most_of_script) reader start.left left0 given → length given ≡ n → reader.taken ≤ next.taken → (0 < feeds reader.held → (reads1 ≡ reads0) × (next.taken ≡ reader.taken))
    → AsksOf reader next left0 reads0 reads1 failed → HasAsked start (devices left0 reads0 w) reader n 0 → HasAsked start (devices left1 reads1 w') next n failed
asked_more start left0 left1 reads0 reads1 w w' reader next given n failed cuts many later quiet asks asked = by_start start.left start.reads reads0 reads1 cuts quiet asks asked
  where
    first : (old : Option (List ℕ)) (m a : Reads) → Cuts (fresh most_of_script) reader old left0 given → (0 < feeds reader.held → (Some a ≡ Some m) × (next.taken ≡ reader.taken)) → IfSome left0 (λ more. feeds (take (next.taken - reader.taken - a.last) more) ≡ 0)
        → IfSome old (λ bytes. feeds (take (reader.taken - m.last) bytes) ≤ n) → IfSome old (λ bytes. feeds (take (next.taken - a.last) bytes) ≤ n)
    first None m a cuts quiet none kept = tt
    first (Some bytes) m a cuts quiet none kept = elim (cases_lt 0 (feeds reader.held)) [
      | inl held ↦
          let same = quiet held in
          let is : a ≡ m = cc in
          let there : next.taken - a.last ≡ reader.taken - m.last = (λ i. same.1 i - (is i).last) in
          subst (λ (k : ℕ). feeds (take k bytes) ≤ n) (sym there) kept
      | inr nothing ↦ feeds_before reader next bytes left0 given a.last n cuts many (omega (arith, nothing)) later none
    ]

    by_start : (old : Option (List ℕ)) (before between after : Option Reads) → Cuts (fresh most_of_script) reader old left0 given → (0 < feeds reader.held → (after ≡ between) × (next.taken ≡ reader.taken)) → AsksOf reader next left0 between after failed
        → IfSome before (λ b. IsSomeAnd between (λ m. (m.calls ≤ b.calls + reader.taken + ends reader + 0) × IfSome old (λ bytes. feeds (take (reader.taken - m.last) bytes) ≤ n)))
        → IfSome before (λ b. IsSomeAnd after (λ a. (a.calls ≤ b.calls + next.taken + ends next + failed) × IfSome old (λ bytes. feeds (take (next.taken - a.last) bytes) ≤ n)))
    by_start old None between after cuts quiet asks asked = tt
    by_start old (Some b) None after cuts quiet asks asked = absurd asked
    by_start old (Some b) (Some m) None cuts quiet asks asked = absurd asks
    by_start old (Some b) (Some m) (Some a) cuts quiet asks asked = (omega (arith, asks.calls, asked.0, later), first old m a cuts quiet asks.first asked.1)

-- one line more was answered
asked_on : (start now : Devices) (reader : LinesState) (n m failed : ℕ) → n ≤ m → HasAsked start now reader n failed → HasAsked start now reader m failed
asked_on start now reader n m failed less asked = by_start start.left start.reads now.reads asked
  where
    more : (old : Option (List ℕ)) (k : ℕ) → IfSome old (λ bytes. feeds (take k bytes) ≤ n) → IfSome old (λ bytes. feeds (take k bytes) ≤ m)
    more None k p = tt
    more (Some bytes) k p = omega (arith, p, less)

    by_start : (old : Option (List ℕ)) (before after : Option Reads)
        → IfSome before (λ b. IsSomeAnd after (λ a. (a.calls ≤ b.calls + reader.taken + ends reader + failed) × IfSome old (λ bytes. feeds (take (reader.taken - a.last) bytes) ≤ n)))
        → IfSome before (λ b. IsSomeAnd after (λ a. (a.calls ≤ b.calls + reader.taken + ends reader + failed) × IfSome old (λ bytes. feeds (take (reader.taken - a.last) bytes) ≤ m)))
    by_start old None after p = tt
    by_start old (Some b) None p = absurd p
    by_start old (Some b) (Some a) p = (p.0, more old (reader.taken - a.last) p.1)

pub ends_most : (reader : LinesState) → ends reader ≤ 1
ends_most reader = grind arith

-- in terms of what was taken
asked_once : (old now : Devices) (reader : LinesState) (given : List (Option (List ℕ))) (n failed : ℕ) → Cuts (fresh most_of_script) reader old.left now.left given → ends reader + failed ≤ 1 → HasAsked old now reader n failed → AsksOnce old now
asked_once old now reader given n failed cuts few asked = by_start old.left old.reads now.reads cuts asked
  where
    by_start : (left : Option (List ℕ)) (before after : Option Reads) → Cuts (fresh most_of_script) reader left now.left given
        → IfSome before (λ b. IsSomeAnd after (λ a. (a.calls ≤ b.calls + reader.taken + ends reader + failed) × IfSome left (λ bytes. feeds (take (reader.taken - a.last) bytes) ≤ n)))
        → IfSome left (λ bytes. IfSome before (λ b. IsSomeAnd after (λ a. a.calls ≤ b.calls + took left now.left + 1)))
    by_start None before after cuts p = tt
    by_start (Some bytes) None after cuts p = tt
    by_start (Some bytes) (Some b) None cuts p = absurd p
    by_start (Some bytes) (Some b) (Some a) cuts p = omega (arith, p.0, few, took_taken most_of_script reader bytes now.left given cuts)

answers_before : (old now : Devices) (reader : LinesState) (given : List (Option (List ℕ))) (history : List Entry) (failed : ℕ) → Cuts (fresh most_of_script) reader old.left now.left given → HasAsked old now reader (length history) failed → AnswersBefore old now history
answers_before old now reader given history failed cuts asked = by_start old.left old.reads now.reads cuts asked
  where
    by_start : (left : Option (List ℕ)) (before after : Option Reads) → Cuts (fresh most_of_script) reader left now.left given
        → IfSome before (λ b. IsSomeAnd after (λ a. (a.calls ≤ b.calls + reader.taken + ends reader + failed) × IfSome left (λ bytes. feeds (take (reader.taken - a.last) bytes) ≤ length history)))
        → IfSome left (λ bytes. IfSome before (λ b. IsSomeAnd after (λ a. feeds (take (took left now.left - a.last) bytes) ≤ length history)))
    by_start None before after cuts p = tt
    by_start (Some bytes) None after cuts p = tt
    by_start (Some bytes) (Some b) None cuts p = absurd p
    by_start (Some bytes) (Some b) (Some a) cuts p = subst (λ (k : ℕ). feeds (take (k - a.last) bytes) ≤ length history) (sym (took_taken most_of_script reader bytes now.left given cuts)) p.1

-- ---- steps

pub under_way : (start : Start) (now : Devices) (hand : Hand) (pending : List Line) → Progress start now hand pending → IsUnderWay hand.core
under_way start now hand pending p = record { base = start.base; history = p.history; sound = p.sound; legal = p.legal; stands = p.stands }

-- text in hand is written
pub handed : (start : Start) (left : Option (List ℕ)) (reads : Option Reads) (before after : Option (List ℕ)) (reader : LinesState) (core : CoreView) (text rest done : List ℕ) (malformed : Bool) (pending : List Line)
    → Appends before after done → done ++ rest ≡ text
    → Progress start (devices left reads before) (record { reader = reader; core = core; text = text; malformed = malformed }) pending
    → Progress start (devices left reads after) (record { reader = reader; core = core; text = rest; malformed = malformed }) pending
handed start left reads before after reader core text rest done malformed pending out parts p = record {
  history = p.history;
  given = p.given;
  cuts = p.cuts;
  lines = p.lines;
  sound = p.sound;
  legal = p.legal;
  stands = p.stands;
  written = p.written ++ done;
  out = Appends-trans start.old.written before after p.written done p.out out;
  whole = append_assoc p.written done rest ∙ ap (λ (t : List ℕ). p.written ++ t) parts ∙ p.whole;
  bad = p.bad;
  within = p.within;
  limit = p.limit;
  knows = p.knows;
  asked = p.asked;
}

-- a front of the text in hand is written
pub half_handed : (start : Start) (left : Option (List ℕ)) (reads : Option Reads) (before after : Option (List ℕ)) (hand : Hand) (pending : List Line) (n : ℕ)
    → Appends before after (take n hand.text) → Progress start (devices left reads before) hand pending
    → (rest : List ℕ) × Halted start (devices left reads after) rest
half_handed start left reads before after hand pending n out p = (
  drop n hand.text,
  record {
    history = p.history;
    given = p.given;
    reader = hand.reader;
    cuts = p.cuts;
    more = pending;
    lines = p.lines;
    sound = p.sound;
    legal = p.legal;
    written = p.written ++ take n hand.text;
    out = Appends-trans start.old.written before after p.written (take n hand.text) p.out out;
    whole = append_assoc p.written (take n hand.text) (drop n hand.text) ∙ ap (λ (t : List ℕ). p.written ++ t) (take-append-drop n hand.text) ∙ p.whole;
    within = p.within;
    asked = p.asked;
  },
)

-- each piece given so far is an answered line, where none is pending
given_all_answered : (history : List Entry) (given : List (Option (List ℕ))) → map line_of_piece given ≡ map (λ e. e.line) history ++ [] → length given ≡ length history
given_all_answered history given lines =
    sym (length-map given line_of_piece) ∙ ap length (lines ∙ append-nil (map (λ (e : Entry). e.line) history)) ∙ length-map history (λ (e : Entry). e.line)

-- a step of the reader: what it took and gave, and what it asked
pub record ReaderStep (before after : Option (List ℕ)) (reads0 reads1 : Option Reads) (reader next : LinesState) (gave : List (Option (List ℕ))) (failed : ℕ) : Type 0 where
  pub cuts : Cuts reader next before after gave
  pub knows : Knows next after
  pub asks : AsksOf reader next before reads0 reads1 failed
  pub quiet : 0 < feeds reader.held → (reads1 ≡ reads0) × (next.taken ≡ reader.taken)
  pub limit : next.limit ≡ reader.limit

-- a line that is held is let go
pub lent_step : (left : Option (List ℕ)) (reads : Option Reads) (reader next : LinesState) (gave : List (Option (List ℕ))) → Cuts reader next left left gave → Knows next left → next.taken ≡ reader.taken → next.ended ≡ reader.ended → next.limit ≡ reader.limit
    → ReaderStep left left reads reads reader next gave 0
lent_step left reads reader next gave cuts knows taken ended limit = record { cuts = cuts; knows = knows; asks = asks_none reader next left reads taken ended; quiet = λ held. (refl, taken); limit = limit }

asked_by : (start : Start) (before after : Option (List ℕ)) (reads0 reads1 : Option Reads) (w : Option (List ℕ)) (reader next : LinesState) (core : CoreView) (text : List ℕ) (malformed : Bool) (gave : List (Option (List ℕ))) (failed : ℕ)
    → ReaderStep before after reads0 reads1 reader next gave failed → (p : Progress start (devices before reads0 w) (record { reader = reader; core = core; text = text; malformed = malformed }) [])
    → HasAsked start.old (devices after reads1 w) next (length p.history) failed
asked_by start before after reads0 reads1 w reader next core text malformed gave failed s p =
    asked_more start.old before after reads0 reads1 w w reader next p.given (length p.history) failed p.cuts (given_all_answered p.history p.given p.lines) (omega (arith, s.cuts.counted)) s.quiet s.asks p.asked

-- a line came, or none
pub taken_line : (start : Start) (before after : Option (List ℕ)) (reads0 reads1 : Option Reads) (written : Option (List ℕ)) (reader next : LinesState) (core : CoreView) (text : List ℕ) (malformed : Bool) (gave : List (Option (List ℕ))) (pending : List Line)
    → ReaderStep before after reads0 reads1 reader next gave 0 → map line_of_piece gave ≡ pending → next.taken ≤ next.limit
    → Progress start (devices before reads0 written) (record { reader = reader; core = core; text = text; malformed = malformed }) []
    → Progress start (devices after reads1 written) (record { reader = next; core = core; text = text; malformed = malformed }) pending
taken_line start before after reads0 reads1 written reader next core text malformed gave pending s same within p = record {
  history = p.history;
  given = p.given ++ gave;
  cuts = Cuts-then (fresh most_of_script) reader next start.old.left before after p.given gave p.cuts s.cuts;
  lines = map-append line_of_piece p.given gave ∙ (λ i. (p.lines ∙ append-nil (map (λ (e : Entry). e.line) p.history)) i ++ same i);
  sound = p.sound;
  legal = p.legal;
  stands = p.stands;
  written = p.written;
  out = p.out;
  whole = p.whole;
  bad = p.bad;
  within = omega (arith, within, s.limit, p.limit);
  limit = s.limit ∙ p.limit;
  knows = s.knows;
  asked = asked_by start before after reads0 reads1 written reader next core text malformed gave 0 s p;
}

-- the pending line was answered
pub answered_line : (start : Start) (now : Devices) (reader : LinesState) (core next : CoreView) (text : List ℕ) (malformed : Bool) (line : Line) (reply : Reply)
    → ((base : Base) (history : List Entry) → IsSound base → IsLegalWith built base history → StandsFor core base history → reply ≡ staged built (state base history) line)
    → ((base : Base) (history : List Entry) → IsSound base → IsLegalWith built base history → StandsFor core base history → StandsFor next base (history ++ record { line = line; reply = reply } ∷ []))
    → Progress start now (record { reader = reader; core = core; text = text; malformed = malformed }) (line ∷ [])
    → Progress start now (record { reader = reader; core = next; text = text ++ entry_text (record { line = line; reply = reply }); malformed = malformed || is_bad reply }) []
answered_line start now reader core next text malformed line reply is stands p = let e : Entry = record { line = line; reply = reply } in record {
  history = p.history ++ e ∷ [];
  given = p.given;
  cuts = p.cuts;
  lines = p.lines ∙ sym (append-nil (map (λ (x : Entry). x.line) (p.history ++ e ∷ [])) ∙ map-append (λ (x : Entry). x.line) p.history (e ∷ []));
  sound = p.sound;
  legal = legal-push built (first_state start.base) p.history e p.legal (is start.base p.history p.sound p.legal p.stands);
  stands = stands start.base p.history p.sound p.legal p.stands;
  written = p.written;
  out = p.out;
  whole = sym (append_assoc p.written text (entry_text e)) ∙ ap (λ (t : List ℕ). t ++ entry_text e) p.whole ∙ sym (text_push p.history e);
  bad = bad_push p.history e ∙ ap (λ (b : Bool). b || is_bad reply) p.bad;
  within = p.within;
  limit = p.limit;
  knows = p.knows;
  asked = asked_on start.old now reader (length p.history) (length (p.history ++ e ∷ [])) 0 (omega (arith, length-append p.history (e ∷ []))) p.asked;
}

-- a line was lost
pub lost_line : (start : Start) (before after : Option (List ℕ)) (reads0 reads1 : Option Reads) (written : Option (List ℕ)) (reader next : LinesState) (core : CoreView) (text : List ℕ) (malformed : Bool) (gave : List (Option (List ℕ)))
    → ReaderStep before after reads0 reads1 reader next gave 0 → next.taken ≤ next.limit
    → Progress start (devices before reads0 written) (record { reader = reader; core = core; text = text; malformed = malformed }) []
    → Halted start (devices after reads1 written) text
lost_line start before after reads0 reads1 written reader next core text malformed gave s within p = record {
  history = p.history;
  given = p.given ++ gave;
  reader = next;
  cuts = Cuts-then (fresh most_of_script) reader next start.old.left before after p.given gave p.cuts s.cuts;
  more = map line_of_piece gave;
  lines = map-append line_of_piece p.given gave ∙ ap (λ (l : List Line). l ++ map line_of_piece gave) (p.lines ∙ append-nil (map (λ (e : Entry). e.line) p.history));
  sound = p.sound;
  legal = p.legal;
  written = p.written;
  out = p.out;
  whole = p.whole;
  within = omega (arith, within, s.limit, p.limit);
  asked = asked_by start before after reads0 reads1 written reader next core text malformed gave 0 s p;
}

-- the run stops with what it has in hand
pub halt : (start : Start) (now : Devices) (hand : Hand) (pending : List Line) → Progress start now hand pending → Halted start now hand.text
halt start now hand pending p = record {
  history = p.history;
  given = p.given;
  reader = hand.reader;
  cuts = p.cuts;
  more = pending;
  lines = p.lines;
  sound = p.sound;
  legal = p.legal;
  written = p.written;
  out = p.out;
  whole = p.whole;
  within = p.within;
  asked = p.asked;
}

-- ---- the source stops a run, which has nothing in hand

line_of_all : (history : List Entry) (given : List (Option (List ℕ))) → map line_of_piece given ≡ map (λ e. e.line) history ++ [] → map (λ e. e.line) history ≡ map line_of_piece given
line_of_all history given lines = sym (lines ∙ append-nil (map (λ (e : Entry). e.line) history))

answered_taken : (old new : Option (List ℕ)) (next : LinesState) (given : List (Option (List ℕ))) (n : ℕ) → Cuts (fresh most_of_script) next old new given → length given ≡ n → feeds next.held ≡ 0 → next.taken ≤ most_of_script
    → IfSome old (λ bytes. feeds (take (min most_of_script (took old new)) bytes) ≤ n)
answered_taken None new next given n cuts many none within = tt
answered_taken (Some bytes) new next given n cuts many none within =
    let count : min most_of_script (took (Some bytes) new) ≡ next.taken = omega (arith, took_taken most_of_script next bytes new given cuts, within) in
    subst (λ (k : ℕ). feeds (take k bytes) ≤ n) (sym count) (omega (arith, given_taken most_of_script next bytes new given cuts none, many))

answered_below : (old before new : Option (List ℕ)) (reader next : LinesState) (given : List (Option (List ℕ))) (n : ℕ) → Cuts (fresh most_of_script) reader old before given → Cuts (fresh most_of_script) next old new given → length given ≡ n
    → feeds reader.held ≡ 0 → reader.taken ≤ most_of_script → reader.limit ≡ most_of_script → NoFeedAhead reader before → most_of_script < next.taken
    → IfSome old (λ bytes. feeds (take (min most_of_script (took old new)) bytes) ≤ n)
answered_below None before new reader next given n first cuts many none within same below past = tt
answered_below (Some bytes) before new reader next given n first cuts many none within same below past =
    let count : min most_of_script (took (Some bytes) new) ≡ most_of_script = omega (arith, took_taken most_of_script next bytes new given cuts, past) in
    subst (λ (k : ℕ). feeds (take k bytes) ≤ n) (sym count) (omega (arith, given_below most_of_script reader bytes before given first within same none below, many))

module _ (start : Start) (before after : Option (List ℕ)) (reads0 reads1 : Option Reads) (written : Option (List ℕ)) (reader next : LinesState) (core : CoreView) (text : List ℕ) (malformed : Bool) (failed : ℕ)
    (s : ReaderStep before after reads0 reads1 reader next [] failed) (few : ends next + failed ≤ 1) (empty : text ≡ [])
    (p : Progress start (devices before reads0 written) (record { reader = reader; core = core; text = text; malformed = malformed }) []) where
  all_cuts : Cuts (fresh most_of_script) next start.old.left after p.given
  all_cuts = subst (Cuts (fresh most_of_script) next start.old.left after) (append-nil p.given) (Cuts-then (fresh most_of_script) reader next start.old.left before after p.given [] p.cuts s.cuts)

  cut_at : IfSome start.old.left (λ bytes. feeds (take (min most_of_script (took start.old.left after)) bytes) ≤ length p.history) → Cut start.base start.old (devices after reads1 written)
  cut_at answered = record {
    history = p.history;
    lines = first_lines next start.old.left after p.given p.history [] all_cuts p.lines;
    legal = p.legal;
    explained = explains start.base p.history p.sound p.legal;
    promises = keeps start.base p.history p.sound p.legal;
    printed = subst (Appends start.old.written written) (sym (append-nil p.written) ∙ ap (λ (t : List ℕ). p.written ++ t) (sym empty) ∙ p.whole) p.out;
    answered = answered;
    asked = asked_once start.old (devices after reads1 written) next p.given (length p.history) failed all_cuts few (asked_by start before after reads0 reads1 written reader next core text malformed [] failed s p);
  }

  pub source_failed : next.taken ≤ next.limit → feeds next.held ≡ 0 → Cut start.base start.old (devices after reads1 written)
  source_failed within none =
      cut_at (answered_taken start.old.left after next p.given (length p.history) all_cuts (given_all_answered p.history p.given p.lines) none (omega (arith, within, s.limit, p.limit)))

  pub source_passed : next.limit < next.taken → (reader.taken ≤ reader.limit → (feeds reader.held ≡ 0) × NoFeedAhead reader before) → Cut start.base start.old (devices after reads1 written)
  source_passed past below =
      let found = below (omega (arith, p.within, p.limit)) in
      cut_at (answered_below start.old.left before after reader next p.given (length p.history) p.cuts all_cuts (given_all_answered p.history p.given p.lines) found.0 p.within p.limit found.1 (omega (arith, past, s.limit, p.limit)))

  pub took_past : next.limit < next.taken → IfSome start.old.left (λ bytes. most_of_script < took start.old.left after)
  took_past past = past_of start.old.left after next p.given all_cuts (omega (arith, past, s.limit, p.limit))

  pub took_short : next.taken ≤ next.limit → took start.old.left after ≤ most_of_script
  took_short within = took_within next start.old.left after p.given all_cuts (omega (arith, within, s.limit, p.limit))

pub progress_within : (start : Start) (now : Devices) (hand : Hand) (pending : List Line) → Progress start now hand pending → took start.old.left now.left ≤ most_of_script
progress_within start now hand pending p = took_within hand.reader start.old.left now.left p.given p.cuts p.within

pub halted_within : (start : Start) (now : Devices) (rest : List ℕ) → Halted start now rest → took start.old.left now.left ≤ most_of_script
halted_within start now rest h = took_within h.reader start.old.left now.left h.given h.cuts h.within

-- ---- the end

asked_nothing : (old : Devices) → HasAsked old old (fresh most_of_script) 0 0
asked_nothing old = by_start old.left old.reads
  where
    none : (left : Option (List ℕ)) (r : Reads) → IfSome left (λ bytes. feeds (take (0 - r.last) bytes) ≤ 0)
    none None r = tt
    none (Some bytes) r = let zero : 0 - r.last ≡ 0 = omega arith in omega (arith, ap (λ (n : ℕ). feeds (take n bytes)) zero)

    by_start : (left : Option (List ℕ)) (reads : Option Reads) → IfSome reads (λ b. IsSomeAnd reads (λ a. (a.calls ≤ b.calls + 0 + ends (fresh most_of_script) + 0) × IfSome left (λ bytes. feeds (take (0 - a.last) bytes) ≤ 0)))
    by_start left None = tt
    by_start left (Some r) = (omega arith, none left r)

pub started : (base : Base) (now : Devices) (reader : LinesState) (core : CoreView) → IsSound base → reader ≡ fresh most_of_script → StandsFor core base []
    → Progress (record { base = base; old = now }) now (record { reader = reader; core = core; text = []; malformed = false }) []
started base now reader core sound same stands =
    subst (λ (r : LinesState). Progress (record { base = base; old = now }) now (record { reader = r; core = core; text = []; malformed = false }) []) (sym same) (record {
      history = [];
      given = [];
      cuts = Cuts-nothing (fresh most_of_script) now.left;
      lines = refl;
      sound = sound;
      legal = legal-none built (first_state base);
      stands = stands;
      written = [];
      out = Appends-nil now.written;
      whole = refl;
      bad = refl;
      within = omega arith;
      limit = refl;
      knows = λ met. let never : false ≡ true = met in absurd cc;
      asked = asked_nothing now;
    })

-- the ending is in hand behind the text, and all of it is written
pub ran : (start : Start) (left : Option (List ℕ)) (reads : Option Reads) (before after : Option (List ℕ)) (hand : Hand) (text : List ℕ) → hand.reader.held ≡ [] → IsAtEnd left
    → ((base : Base) (history : List Entry) → StandsFor hand.core base history → text ≡ hand.text ++ ending_of (state base history)) → Appends before after text
    → Progress start (devices left reads before) hand [] → Ran start.base start.old (devices left reads after) hand.malformed
ran start left reads before after hand text none end ends out p = record {
  history = p.history;
  lines = all_lines hand.reader start.old.left left p.given p.history p.cuts (line_of_all p.history p.given p.lines) none end;
  legal = p.legal;
  printed = subst (Appends start.old.written after)
      (ap (λ (t : List ℕ). p.written ++ t) (ends start.base p.history p.stands) ∙ sym (append_assoc p.written hand.text (ending_of (state start.base p.history))) ∙ ap (λ (t : List ℕ). t ++ ending_of (state start.base p.history)) p.whole)
      (Appends-trans start.old.written before after p.written text p.out out);
  ended = end;
  explained = explains start.base p.history p.sound p.legal;
  promises = keeps start.base p.history p.sound p.legal;
  malformed = p.bad;
  asked = asked_once start.old (devices left reads after) hand.reader p.given (length p.history) 0 p.cuts (omega (arith, ends_most hand.reader)) p.asked;
}

stopped_at : (start : Start) (now : Devices) (reader : LinesState) (given : List (Option (List ℕ))) (history : List Entry) (more : List Line) (front back : List ℕ) → IsSound start.base
    → Cuts (fresh most_of_script) reader start.old.left now.left given → map line_of_piece given ≡ map (λ e. e.line) history ++ more → IsLegalWith built start.base history → HasAsked start.old now reader (length history) 0
    → Appends start.old.written now.written front → front ++ back ≡ history_text history ++ ending_of (state start.base history)
    → (length (history_text history) < length front → IfSome start.old.left (λ bytes. map (λ e. e.line) history ≡ script_lines bytes)) → Stopped start.base start.old now
stopped_at start now reader given history more front back sound cuts lines legal asked out parts whole = record {
  history = history;
  lines = first_lines reader start.old.left now.left given history more cuts lines;
  legal = legal;
  explained = explains start.base history sound legal;
  promises = keeps start.base history sound legal;
  most = length front;
  printed = subst (Appends start.old.written now.written) (sym (front_text front back) ∙ ap (take (length front)) parts) out;
  whole = whole;
  answered = answers_before start.old now reader given history 0 cuts asked;
  asked = asked_once start.old now reader given (length history) 0 cuts (omega (arith, ends_most reader)) asked;
}

-- a front of the text with the ending was written
pub ending_stopped : (start : Start) (left : Option (List ℕ)) (reads : Option Reads) (before after : Option (List ℕ)) (hand : Hand) (text : List ℕ) (n : ℕ) → hand.reader.held ≡ [] → IsAtEnd left
    → ((base : Base) (history : List Entry) → StandsFor hand.core base history → text ≡ hand.text ++ ending_of (state base history)) → Appends before after (take n text)
    → Progress start (devices left reads before) hand [] → Stopped start.base start.old (devices left reads after)
ending_stopped start left reads before after hand text n none end ends out p =
    stopped_at start (devices left reads after) hand.reader p.given p.history [] (p.written ++ take n text) (drop n text) p.sound p.cuts p.lines p.legal p.asked
    (Appends-trans start.old.written before after p.written (take n text) p.out out)
    (append_assoc p.written (take n text) (drop n text) ∙ ap (λ (t : List ℕ). p.written ++ t) (take-append-drop n text ∙ ends start.base p.history p.stands)
    ∙ sym (append_assoc p.written hand.text (ending_of (state start.base p.history))) ∙ ap (λ (t : List ℕ). t ++ ending_of (state start.base p.history)) p.whole)
    (λ past. all_lines hand.reader start.old.left left p.given p.history p.cuts (line_of_all p.history p.given p.lines) none end)

-- a front of the rest was written, or nothing of it
pub halted_stopped : (start : Start) (left : Option (List ℕ)) (reads : Option Reads) (before after : Option (List ℕ)) (rest : List ℕ) (n : ℕ) → Appends before after (take n rest)
    → Halted start (devices left reads before) rest → Stopped start.base start.old (devices left reads after)
halted_stopped start left reads before after rest n out h =
    let ending = ending_of (state start.base h.history) in
    let front : List ℕ = h.written ++ take n rest in
    let parts : front ++ drop n rest ≡ history_text h.history = append_assoc h.written (take n rest) (drop n rest) ∙ ap (λ (t : List ℕ). h.written ++ t) (take-append-drop n rest) ∙ h.whole in
    stopped_at start (devices left reads after) h.reader h.given h.history h.more (h.written ++ take n rest) (drop n rest ++ ending) h.sound h.cuts h.lines h.legal h.asked
    (Appends-trans start.old.written before after h.written (take n rest) h.out out)
    (append_assoc h.written (take n rest) (drop n rest ++ ending) ∙ ap (λ (t : List ℕ). h.written ++ t) (sym (append_assoc (take n rest) (drop n rest) ending) ∙ ap (λ (t : List ℕ). t ++ ending) (take-append-drop n rest))
    ∙ sym (append_assoc h.written rest ending) ∙ ap (λ (t : List ℕ). t ++ ending) h.whole)
    (λ past. absurd (omega (arith, past, ap length parts, length-append front (drop n rest))))

pub halted_stops : (start : Start) (now : Devices) (rest : List ℕ) → Halted start now rest → Stopped start.base start.old now
halted_stops start now rest h = halted_stopped start now.left now.reads now.written now.written rest 0 (Appends-nil now.written) h

-- nothing was asked, answered or written
pub nothing_stopped : (base : Base) (now : Devices) → IsSound base → Stopped base now now
nothing_stopped base now sound =
    let start : Start = record { base = base; old = now } in
    stopped_at start now (fresh most_of_script) [] [] [] [] (ending_of (state base [])) sound (Cuts-nothing (fresh most_of_script) now.left) refl (legal-none built (first_state base)) (asked_nothing now) (Appends-nil now.written) refl (λ past. absurd (omega (arith, past)))
