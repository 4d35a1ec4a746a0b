-- The answers preserved and changed come to an open short alone, with what the relations say.
use Rattle.std.proofs.Common.{◌≡◌, inl, inr, ℕ, ◌+◌, ◌-◌, Bool, true, false, ◌==◌, nat_le, List, [], ◌∷◌, ◌++◌, Option, Some, None, refl, sym, subst, if◌then◌else◌, Contains}
use Rattle.std.specs.List.{AllByRecursion}
use Rattle.ltx_model.specs.declared.commands.Op.{Op}
use Rattle.ltx_model.specs.declared.commands.Op.TheVariants as ops
use Rattle.ltx_model.specs.declared.commands.Verb.{Verb}
use Rattle.ltx_model.specs.declared.commands.Verb.TheVariants as verbs
use Rattle.ltx_model.specs.declared.commands.Command.TheVariants as commands
use Rattle.ltx_model.specs.declared.commands.Line.{Line}
use Rattle.ltx_model.specs.declared.commands.Line.TheVariants as lines
use Rattle.ltx_model.specs.declared.replies.Entry.{Entry}
use Rattle.ltx_model.specs.declared.replies.Reply.{Reply}
use Rattle.ltx_model.specs.declared.replies.Reply.TheVariants as replies
use Rattle.ltx_model.specs.declared.rows.StoredRow.{StoredRow}
use Rattle.ltx_model.specs.Tables.{has_table}
use Rattle.ltx_model.specs.Keys.{IsRising}
use Rattle.ltx_model.specs.StoredRows.{cell_of}
use Rattle.ltx_model.specs.Operations.{Transaction, operations, table_of}
use Rattle.ltx_model.specs.Rows.{see, run}
use Rattle.ltx_model.specs.States.{Declaration, Kind, IsShort, IsPending, IsLive, Step, Active, transaction_of, Base, IsSound, State, LiveBatch, live_batches, is_of, active_of, latest}
use Rattle.ltx_model.specs.Frames.{sealed, body_length}
use Rattle.ltx_model.specs.Histories.{state}
use Rattle.ltx_model.specs.Shorts.{Held, held_table, holder, Change, first_change}
use Rattle.ltx_model.specs.Batches.{Refusal, ByLate, ByContradicts, first_witness, target, waits}
use Rattle.ltx_model.specs.Answers.{answer, IsLegalWith, verb_reply, begin_short, short_reply, begin_long, long_reply, operation, operation_in, operation_of_short, operation_of_batch, refusal, unless_in, counted, is_full, commit, commit_in, commit_short, checked, commit_live, commit_at, abort, advance, flush, flush_within}
use Rattle.ltx_model.specs.Limits.{last_number, last_epoch, longest_log}
use Rattle.ltx_model.specs.Explained.{effect_of, Answers}
use Rattle.ltx_laws.specs.Priority.{batch_of}
use Rattle.ltx_laws.specs.Refusals.{AsksShortCommit, IsPreservedAnswer, IsChangedAnswer}
use Rattle.ltx_lemmas.proofs.Lists.{find_contains}
use Rattle.ltx_laws.proofs.Transitions.{see_answers}
use Rattle.ltx_laws.proofs.WitnessHolders.{AreRising, holder_held, held_least, held_nowhere}
use Rattle.ltx_lemmas.proofs.FirstChanges.{first_change_is}
use Rattle.ltx_laws.proofs.WitnessStates.{rising_in, steps_rising}
use Rattle.ltx_laws.proofs.PlacesByCommit.{before_legal, entry_is}

-- An entry, in a state whose live batches rise by number and whose open shorts saw rows in order.
module _ (s : State) (entry : Entry) (rising : AreRising (live_batches s)) (in_order : (o : Active) → Contains s.active o → o.kind ≡ IsShort → AllByRecursion (λ (b : Step). IsRising cell_of b.latest) o.steps) where
  -- what a reply that refuses a short tells
  abbrev Tells : Reply → Type 0
  Tells (replies.Preserved table n) = IsPreservedAnswer s entry table n
  Tells (replies.Changed op table key found current) = IsChangedAnswer s entry (record { op = op; cell = record { table = table; key = key }; found = found; current = current })
  Tells reply = Unit {0}

  answer_tells_none : (reply : Reply) → effect_of reply ≡ Answers → Tells reply
  answer_tells_none (replies.Preserved table n) e = cc
  answer_tells_none (replies.Changed op table key found current) e = cc
  answer_tells_none reply e = tt

  counted_tells : (b : Bool) (rows : List StoredRow) (t : Transaction) (op : Op) → Tells (counted b rows t op)
  counted_tells true rows t op = tt
  counted_tells false rows t op = answer_tells_none (see t.number rows (operations t) op) (see_answers t.number rows (operations t) op)

  unless_tells : (b : Bool) (reply : Reply) (snapshot : List Transaction) (t : Transaction) (op : Op) → Tells reply → Tells (operation_of_batch s (unless_in b reply) snapshot t op)
  unless_tells true reply snapshot t op h = counted_tells (is_full t) (run s.base snapshot) t op
  unless_tells false reply snapshot t op h = h

  batch_tells : (d : Declaration) (op : Op) (snapshot : List Transaction) (t : Transaction) → Tells (operation_of_batch s (refusal d op) snapshot t op)
  batch_tells d (ops.Get table key) snapshot t = unless_tells (has_table d.reads table) (replies.Outside table) snapshot t (ops.Get table key) tt
  batch_tells d (ops.Scan table low high) snapshot t = unless_tells (has_table d.reads table) (replies.Outside table) snapshot t (ops.Scan table low high) tt
  batch_tells d (ops.Put table key value) snapshot t = unless_tells (has_table d.writes table) (replies.NotPreserved table) snapshot t (ops.Put table key value) tt
  batch_tells d (ops.Del table key) snapshot t = unless_tells (has_table d.writes table) (replies.NotPreserved table) snapshot t (ops.Del table key) tt

  operation_tells : (session : ℕ) (op : Op) → entry.line ≡ lines.Good (commands.Ask session (verbs.Do op)) → (f : Option Active) → active_of s session ≡ f → Tells (operation s f op)
  operation_tells session op line None is = tt
  operation_tells session op line (Some o) is = by_kind o.kind refl where
    by_holder : o.kind ≡ IsShort → (n : Option ℕ) → holder s (table_of op) ≡ n → Tells (operation_of_short s n (transaction_of o) op)
    by_holder kind (Some n) held = inl (record { session = session; op = op; active = o; line = line; opened = is; kind = kind; place = refl; held = holder_held s rising (table_of op) n held })
    by_holder kind None held = counted_tells (is_full (transaction_of o)) (latest s) (transaction_of o) op

    by_kind : (k : Kind) → o.kind ≡ k → Tells (operation_in s k (transaction_of o) op)
    by_kind IsShort kind = by_holder kind (holder s (table_of op)) refl
    by_kind (IsPending d) kind = tt
    by_kind (IsLive d snapshot) kind = batch_tells d op snapshot (transaction_of o)

  short_tells : (a : AsksShortCommit s entry) → Contains s.active a.active → (h : Option Held) → held_table s (operations (transaction_of a.active)) ≡ h → Tells (commit_short s h a.active)
  short_tells a here (Some h) held = inr (record { short = a; held = held_least s rising (operations (transaction_of a.active)) h held })
  short_tells a here None held = by_change (first_change (latest s) a.active.steps) refl where
    by_change : (c : Option Change) → first_change (latest s) a.active.steps ≡ c → Tells (checked s c)
    by_change None e = tt
    by_change (Some c) e = record { short = a; change = first_change_is (latest s) a.active.steps (in_order a.active here a.kind) c e; unheld = held_nowhere s (operations (transaction_of a.active)) held }

  at_tells : (p : ℕ) (k : Option ℕ) (r : Option Refusal) → Tells (commit_at s p k r)
  at_tells p (Some k) r = tt
  at_tells p None None = tt
  at_tells p None (Some (ByLate w)) = tt
  at_tells p None (Some (ByContradicts w)) = tt

  live_tells : (i : LiveBatch) (t : Option ℕ) → Tells (commit_live s i t)
  live_tells i None = tt
  live_tells i (Some p) = at_tells p (waits s i p (first_witness s i p)) (first_witness s i p)

  commit_tells : (session : ℕ) → entry.line ≡ lines.Good (commands.Ask session verbs.Commit) → (f : Option Active) → active_of s session ≡ f → Tells (commit s f)
  commit_tells session line None is = tt
  commit_tells session line (Some o) is = by_kind o.kind refl where
    by_kind : (k : Kind) → o.kind ≡ k → Tells (commit_in s k o)
    by_kind IsShort kind = short_tells (record { active = o; asks = record { session = session; line = line; opened = is }; kind = kind }) (find_contains (is_of session) s.active o is) (held_table s (operations (transaction_of o))) refl
    by_kind (IsPending d) kind = tt
    by_kind (IsLive d snapshot) kind = live_tells (batch_of o d snapshot) (target s (batch_of o d snapshot))

  begin_short_tells : (f : Option Active) → Tells (begin_short s f)
  begin_short_tells (Some o) = tt
  begin_short_tells None = by_test (s.last == last_number) where
    by_test : (b : Bool) → Tells (short_reply s b)
    by_test true = tt
    by_test false = tt

  begin_long_tells : (f : Option Active) → Tells (begin_long s f)
  begin_long_tells (Some o) = tt
  begin_long_tells None = by_tests (s.epoch == last_epoch) (s.last == last_number) where
    by_tests : (a b : Bool) → Tells (long_reply s a b)
    by_tests true b = tt
    by_tests false true = tt
    by_tests false false = tt

  abort_tells : (f : Option Active) → Tells (abort f)
  abort_tells None = tt
  abort_tells (Some o) = tt

  verb_tells : (session : ℕ) (verb : Verb) → entry.line ≡ lines.Good (commands.Ask session verb) → Tells (verb_reply s session verb)
  verb_tells session verbs.Short line = begin_short_tells (active_of s session)
  verb_tells session (verbs.Long writes reads) line = begin_long_tells (active_of s session)
  verb_tells session (verbs.Do op) line = operation_tells session op line (active_of s session) refl
  verb_tells session verbs.Commit line = commit_tells session line (active_of s session) refl
  verb_tells session verbs.Abort line = abort_tells (active_of s session)

  advance_tells : (b : Bool) → Tells (advance s b)
  advance_tells true = tt
  advance_tells false = tt

  flush_tells : (a : Bool) → Tells (flush s a)
  flush_tells true = tt
  flush_tells false = by_test (nat_le (s.gate + 10 + body_length (sealed s)) longest_log) where
    by_test : (b : Bool) → Tells (flush_within s b)
    by_test true = tt
    by_test false = tt

  line_tells : (line : Line) → entry.line ≡ line → Tells (answer s line)
  unfolding answer
  line_tells (lines.Good commands.Epoch) is = advance_tells (s.epoch == last_epoch)
  line_tells (lines.Good commands.Flush) is = flush_tells (s.epoch - 1 == s.durable)
  line_tells (lines.Good commands.Prune) is = tt
  line_tells (lines.Good (commands.Ask session verb)) is = verb_tells session verb is
  line_tells (lines.Bad cause) is = tt

  entry_tells : (b : Bool) → entry.reply ≡ (if b then answer s entry.line else replies.Later) → Tells entry.reply
  entry_tells true e = subst Tells (sym e) (line_tells entry.line refl)
  entry_tells false e = subst Tells (sym e) tt

-- what each answer tells
module _ (built : State → Line → Bool) (base : Base) (history : List Entry) (entry : Entry) (sound : IsSound base) (legal : IsLegalWith built base (history ++ entry ∷ [])) where
  before : IsLegalWith built base history
  before = before_legal built base history [] entry sound legal

  told : Tells (state base history) entry (rising_in built base history sound before) (steps_rising built base history sound before) entry.reply
  told = entry_tells (state base history) entry (rising_in built base history sound before) (steps_rising built base history sound before) (built (state base history) entry.line) (entry_is built base history [] entry sound legal)

  pub preserved_told : (table n : ℕ) → entry.reply ≡ replies.Preserved table n → IsPreservedAnswer (state base history) entry table n
  preserved_told table n e = subst (Tells (state base history) entry (rising_in built base history sound before) (steps_rising built base history sound before)) e told

  pub changed_told : (op table : ℕ) (key : List ℕ) (found current : Option ℕ) → entry.reply ≡ replies.Changed op table key found current
      → IsChangedAnswer (state base history) entry (record { op = op; cell = record { table = table; key = key }; found = found; current = current })
  changed_told op table key found current e = subst (Tells (state base history) entry (rising_in built base history sound before) (steps_rising built base history sound before)) e told
