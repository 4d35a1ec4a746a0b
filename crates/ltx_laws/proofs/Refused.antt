-- The answers late, contradicts and waiting come to the commit of a live batch alone, with what the relations say.
use Rattle.std.proofs.Common.{◌≡◌, inl, inr, ℕ, ◌+◌, ◌-◌, ◌<◌, Bool, true, false, ◌==◌, nat_le, List, [], ◌∷◌, ◌++◌, Option, Some, None, refl, sym, ap, ◌∙◌, subst, subst₂, if◌then◌else◌}
use Rattle.ltx_model.specs.declared.commands.Op.{Op}
use Rattle.ltx_model.specs.declared.commands.Op.TheVariants as ops
use Rattle.ltx_model.specs.declared.commands.Verb.{Verb}
use Rattle.ltx_model.specs.declared.commands.Verb.TheVariants as verbs
use Rattle.ltx_model.specs.declared.commands.Command.TheVariants as commands
use Rattle.ltx_model.specs.declared.commands.Line.{Line}
use Rattle.ltx_model.specs.declared.commands.Line.TheVariants as lines
use Rattle.ltx_model.specs.declared.replies.Entry.{Entry}
use Rattle.ltx_model.specs.declared.replies.Reply.{Reply}
use Rattle.ltx_model.specs.declared.replies.Reply.TheVariants as replies
use Rattle.ltx_model.specs.declared.rows.StoredRow.{StoredRow}
use Rattle.ltx_model.specs.Tables.{has_table}
use Rattle.ltx_model.specs.Operations.{Transaction, operations, table_of}
use Rattle.ltx_model.specs.Rows.{see, run}
use Rattle.ltx_model.specs.States.{Declaration, Kind, IsShort, IsPending, IsLive, Active, transaction_of, Base, IsSound, State, LiveBatch, active_of, latest}
use Rattle.ltx_model.specs.Frames.{sealed, body_length}
use Rattle.ltx_model.specs.Histories.{state}
use Rattle.ltx_model.specs.Shorts.{Held, held_table, holder, Change, first_change}
use Rattle.ltx_model.specs.Batches.{Witness, Refusal, ByLate, ByContradicts, late_or, first_late, first_contradicted, first_witness, target, waits, IsTarget, IsFirstLate, IsLate, IsFirstContradicted, Waits}
use Rattle.ltx_model.specs.Answers.{answer, staged, IsLegalWith, verb_reply, begin_short, short_reply, begin_long, long_reply, operation, operation_in, operation_of_short, operation_of_batch, refusal, unless_in, counted, is_full, commit, commit_in, commit_short, checked, commit_live, commit_at, abort, advance, flush, flush_within}
use Rattle.ltx_model.specs.Limits.{last_number, last_epoch, longest_log}
use Rattle.ltx_model.specs.Explained.{effect_of, Answers}
use Rattle.ltx_laws.specs.Structure.{Structure}
use Rattle.ltx_laws.specs.Priority.{batch_of}
use Rattle.ltx_laws.specs.Refusals.{AsksBatchCommit, IsLateAnswer, IsContradictsAnswer, IsWaitingAnswer}
use Rattle.ltx_lemmas.proofs.Lists.{some_same, none_some}
use Rattle.ltx_laws.proofs.Transitions.{see_answers}
use Rattle.ltx_laws.proofs.Structures.{structure_of}
use Rattle.ltx_laws.proofs.FirstLate.{first_late_is, none_late}
use Rattle.ltx_laws.proofs.FirstContradicted.{first_contradicted_is}
use Rattle.ltx_laws.proofs.WaitsFor.{agenda_apart_of, target_is, none_overtaken_live, waits_is}
use Rattle.ltx_laws.proofs.Priorities.{answer_commit}
use Rattle.ltx_laws.proofs.PlacesByCommit.{before_legal, entry_is}

-- a reply that only the commit of a live batch gets
abbrev IsBatchReply : Reply → Type 0
IsBatchReply (replies.Late p op table key writer) = Unit {0}
IsBatchReply (replies.Contradicts p op table key reader) = Unit {0}
IsBatchReply (replies.Waiting k) = Unit {0}
IsBatchReply reply = ⊥

no_batch : (reply : Reply) → effect_of reply ≡ Answers → IsBatchReply reply → ⊥
no_batch (replies.Late p op table key writer) e h = cc
no_batch (replies.Contradicts p op table key reader) e h = cc
no_batch (replies.Waiting k) e h = cc
no_batch reply e h = h

-- the line asks to commit a live batch
record IsBatchLine (s : State) (line : Line) : Type 0 where
  session : ℕ
  active : Active
  declared : Declaration
  snapshot : List Transaction
  line_is : line ≡ lines.Good (commands.Ask session verbs.Commit)
  opened : active_of s session ≡ Some active
  kind : active.kind ≡ IsLive declared snapshot

module _ (s : State) where
  counted_reply : (b : Bool) (rows : List StoredRow) (t : Transaction) (op : Op) → IsBatchReply (counted b rows t op) → ⊥
  counted_reply true rows t op h = h
  counted_reply false rows t op h = no_batch (see t.number rows (operations t) op) (see_answers t.number rows (operations t) op) h

  unless_reply : (b : Bool) (reply : Reply) (snapshot : List Transaction) (t : Transaction) (op : Op) → (IsBatchReply reply → ⊥) → IsBatchReply (operation_of_batch s (unless_in b reply) snapshot t op) → ⊥
  unless_reply true reply snapshot t op none h = counted_reply (is_full t) (run s.base snapshot) t op h
  unless_reply false reply snapshot t op none h = none h

  batch_operation : (d : Declaration) (op : Op) (snapshot : List Transaction) (t : Transaction) → IsBatchReply (operation_of_batch s (refusal d op) snapshot t op) → ⊥
  batch_operation d (ops.Get table key) snapshot t h = unless_reply (has_table d.reads table) (replies.Outside table) snapshot t (ops.Get table key) (λ e. e) h
  batch_operation d (ops.Scan table low high) snapshot t h = unless_reply (has_table d.reads table) (replies.Outside table) snapshot t (ops.Scan table low high) (λ e. e) h
  batch_operation d (ops.Put table key value) snapshot t h = unless_reply (has_table d.writes table) (replies.NotPreserved table) snapshot t (ops.Put table key value) (λ e. e) h
  batch_operation d (ops.Del table key) snapshot t h = unless_reply (has_table d.writes table) (replies.NotPreserved table) snapshot t (ops.Del table key) (λ e. e) h

  operation_reply : (f : Option Active) (op : Op) → IsBatchReply (operation s f op) → ⊥
  operation_reply None op h = h
  operation_reply (Some o) op h = by_kind o.kind h where
    by_holder : (n : Option ℕ) → IsBatchReply (operation_of_short s n (transaction_of o) op) → ⊥
    by_holder (Some n) h = h
    by_holder None h = counted_reply (is_full (transaction_of o)) (latest s) (transaction_of o) op h

    by_kind : (k : Kind) → IsBatchReply (operation_in s k (transaction_of o) op) → ⊥
    by_kind IsShort h = by_holder (holder s (table_of op)) h
    by_kind (IsPending d) h = h
    by_kind (IsLive d snapshot) h = batch_operation d op snapshot (transaction_of o) h

  short_commit_reply : (h : Option Held) (o : Active) → IsBatchReply (commit_short s h o) → ⊥
  short_commit_reply (Some held) o e = e
  short_commit_reply None o e = by_change (first_change (latest s) o.steps) e where
    by_change : (c : Option Change) → IsBatchReply (checked s c) → ⊥
    by_change None e = e
    by_change (Some c) e = e

  commit_reply : (session : ℕ) (f : Option Active) → active_of s session ≡ f → IsBatchReply (commit s f) → IsBatchLine s (lines.Good (commands.Ask session verbs.Commit))
  commit_reply session None is h = absurd h
  commit_reply session (Some o) is h = by_kind o.kind refl h where
    by_kind : (k : Kind) → o.kind ≡ k → IsBatchReply (commit_in s k o) → IsBatchLine s (lines.Good (commands.Ask session verbs.Commit))
    by_kind IsShort kind h = absurd (short_commit_reply (held_table s (operations (transaction_of o))) o h)
    by_kind (IsPending d) kind h = absurd h
    by_kind (IsLive d snapshot) kind h = record { session = session; active = o; declared = d; snapshot = snapshot; line_is = refl; opened = is; kind = kind }

  begin_short_reply : (f : Option Active) → IsBatchReply (begin_short s f) → ⊥
  begin_short_reply (Some o) h = h
  begin_short_reply None h = by_test (s.last == last_number) h where
    by_test : (b : Bool) → IsBatchReply (short_reply s b) → ⊥
    by_test true h = h
    by_test false h = h

  begin_long_reply : (f : Option Active) → IsBatchReply (begin_long s f) → ⊥
  begin_long_reply (Some o) h = h
  begin_long_reply None h = by_tests (s.epoch == last_epoch) (s.last == last_number) h where
    by_tests : (a b : Bool) → IsBatchReply (long_reply s a b) → ⊥
    by_tests true b h = h
    by_tests false true h = h
    by_tests false false h = h

  abort_reply : (f : Option Active) → IsBatchReply (abort f) → ⊥
  abort_reply None h = h
  abort_reply (Some o) h = h

  verb_line : (session : ℕ) (verb : Verb) → IsBatchReply (verb_reply s session verb) → IsBatchLine s (lines.Good (commands.Ask session verb))
  verb_line session verbs.Short h = absurd (begin_short_reply (active_of s session) h)
  verb_line session (verbs.Long writes reads) h = absurd (begin_long_reply (active_of s session) h)
  verb_line session (verbs.Do op) h = absurd (operation_reply (active_of s session) op h)
  verb_line session verbs.Commit h = commit_reply session (active_of s session) refl h
  verb_line session verbs.Abort h = absurd (abort_reply (active_of s session) h)

  advance_reply : (b : Bool) → IsBatchReply (advance s b) → ⊥
  advance_reply true h = h
  advance_reply false h = h

  flush_reply : (a : Bool) → IsBatchReply (flush s a) → ⊥
  flush_reply true h = h
  flush_reply false h = by_test (nat_le (s.gate + 10 + body_length (sealed s)) longest_log) h where
    by_test : (b : Bool) → IsBatchReply (flush_within s b) → ⊥
    by_test true h = h
    by_test false h = h

  batch_line : (line : Line) → IsBatchReply (answer s line) → IsBatchLine s line
  unfolding answer
  batch_line (lines.Good commands.Epoch) h = absurd (advance_reply (s.epoch == last_epoch) h)
  batch_line (lines.Good commands.Flush) h = absurd (flush_reply (s.epoch - 1 == s.durable) h)
  batch_line (lines.Good commands.Prune) h = absurd h
  batch_line (lines.Good (commands.Ask session verb)) h = verb_line session verb h
  batch_line (lines.Bad cause) h = absurd h

-- The entry asks to commit a live batch, and its reply is the answer to that.
record IsBatchEntry (s : State) (entry : Entry) : Type 0 where
  batch : AsksBatchCommit s entry
  replied : entry.reply ≡ commit_live s (batch_of batch.active batch.declared batch.snapshot) (target s (batch_of batch.active batch.declared batch.snapshot))

batch_entry : (built : State → Line → Bool) (s : State) (entry : Entry) → entry.reply ≡ staged built s entry.line → IsBatchReply entry.reply → IsBatchEntry s entry
batch_entry built s entry is h = by_built (built s entry.line) is where
  by_line : entry.reply ≡ answer s entry.line → IsBatchLine s entry.line → IsBatchEntry s entry
  by_line e l = record {
    batch = record { active = l.active; declared = l.declared; snapshot = l.snapshot; asks = record { session = l.session; line = l.line_is; opened = l.opened }; kind = l.kind };
    replied = e ∙ ap (answer s) l.line_is ∙ answer_commit s l.session l.active l.declared l.snapshot l.opened l.kind;
  }

  by_built : (b : Bool) → entry.reply ≡ (if b then answer s entry.line else replies.Later) → IsBatchEntry s entry
  by_built true e = by_line e (batch_line s entry.line (subst IsBatchReply e h))
  by_built false e = absurd (subst IsBatchReply e h)

-- a witness that is late, or one that is contradicted where none is late
late_first : (a b : Option Witness) (w : Witness) → late_or a b ≡ Some (ByLate w) → a ≡ Some w
late_first (Some v) b w e = let same : ByLate v ≡ ByLate w = some_same e in cc
late_first None (Some v) w e = let same : ByContradicts v ≡ ByLate w = some_same e in cc
late_first None None w e = absurd (none_some e)

contradicted_first : (a b : Option Witness) (w : Witness) → late_or a b ≡ Some (ByContradicts w) → (a ≡ None) × (b ≡ Some w)
contradicted_first (Some v) b w e = absurd (let same : ByLate v ≡ ByContradicts w = some_same e in let none : ⊥ = cc in none)
contradicted_first None (Some v) w e = (refl, ap Some (let same : ByContradicts v ≡ ByContradicts w = some_same e in let is : v ≡ w = cc in is))
contradicted_first None None w e = absurd (none_some e)

witness_same : (v w : Witness) → v.op ≡ w.op → v.cell.table ≡ w.cell.table → v.cell.key ≡ w.cell.key → v.other ≡ w.other → v ≡ w
witness_same v w a b c d = λ x. record { op = a x; cell = record { table = b x; key = c x }; other = d x }

-- The reply of a batch with a target.
module _ (base : Base) (s : State) (inv : Structure base s) (entry : Entry) (a : AsksBatchCommit s entry) where
  abbrev i : LiveBatch
  i = batch_of a.active a.declared a.snapshot

  late_at : (t : Option ℕ) → target s i ≡ t → (p : ℕ) (w : Witness) → replies.Late p w.op w.cell.table w.cell.key w.other ≡ commit_live s i t → IsLateAnswer s entry p w
  late_at None goal p w e = cc
  late_at (Some q) goal p w e = by_witness (first_witness s i q) refl e where
    by_waits : (r : Refusal) (k : Option ℕ) → first_witness s i q ≡ Some r → waits s i q (Some r) ≡ k → replies.Late p w.op w.cell.table w.cell.key w.other ≡ commit_at s q k (Some r) → IsLateAnswer s entry p w
    by_waits r (Some k) is free e = cc
    by_waits (ByContradicts v) None is free e = cc
    by_waits (ByLate v) None is free e =
        let place : q ≡ p = cc in
        let same : v ≡ w = witness_same v w (cc) (cc) (cc) (cc) in
        record {
          batch = a;
          target = subst (IsTarget s i) place (target_is base s inv i q goal);
          witness = subst₂ (IsFirstLate s i) place same (first_late_is s i q v (late_first (first_late s i q) (first_contradicted s i q) v is));
          alone = none_overtaken_live base s inv i free;
        }

    by_witness : (r : Option Refusal) → first_witness s i q ≡ r → replies.Late p w.op w.cell.table w.cell.key w.other ≡ commit_at s q (waits s i q r) r → IsLateAnswer s entry p w
    by_witness (Some r) is e = by_waits r (waits s i q (Some r)) is refl e
    by_witness None is e = by_elder (waits s i q None) e where
      by_elder : (k : Option ℕ) → replies.Late p w.op w.cell.table w.cell.key w.other ≡ commit_at s q k None → IsLateAnswer s entry p w
      by_elder (Some k) e = cc
      by_elder None e = cc

  contradicts_at : (t : Option ℕ) → target s i ≡ t → (p : ℕ) (w : Witness) → replies.Contradicts p w.op w.cell.table w.cell.key w.other ≡ commit_live s i t → IsContradictsAnswer s entry p w
  contradicts_at None goal p w e = cc
  contradicts_at (Some q) goal p w e = by_witness (first_witness s i q) refl e where
    by_waits : (r : Refusal) (k : Option ℕ) → first_witness s i q ≡ Some r → waits s i q (Some r) ≡ k → replies.Contradicts p w.op w.cell.table w.cell.key w.other ≡ commit_at s q k (Some r) → IsContradictsAnswer s entry p w
    by_waits r (Some k) is free e = cc
    by_waits (ByLate v) None is free e = cc
    by_waits (ByContradicts v) None is free e =
        let place : q ≡ p = cc in
        let same : v ≡ w = witness_same v w (cc) (cc) (cc) (cc) in
        let both = contradicted_first (first_late s i q) (first_contradicted s i q) v is in
        record {
          batch = a;
          target = subst (IsTarget s i) place (target_is base s inv i q goal);
          punctual = λ u late. none_late s i q both.0 u (subst (λ n. IsLate s i n u) (sym place) late);
          witness = subst₂ (IsFirstContradicted s i) place same (first_contradicted_is s i q (agenda_apart_of base s inv) v both.1);
          alone = none_overtaken_live base s inv i free;
        }

    by_witness : (r : Option Refusal) → first_witness s i q ≡ r → replies.Contradicts p w.op w.cell.table w.cell.key w.other ≡ commit_at s q (waits s i q r) r → IsContradictsAnswer s entry p w
    by_witness (Some r) is e = by_waits r (waits s i q (Some r)) is refl e
    by_witness None is e = by_elder (waits s i q None) e where
      by_elder : (k : Option ℕ) → replies.Contradicts p w.op w.cell.table w.cell.key w.other ≡ commit_at s q k None → IsContradictsAnswer s entry p w
      by_elder (Some k) e = cc
      by_elder None e = cc

  waiting_for : (k : ℕ) → Waits s i k → IsWaitingAnswer s entry k
  waiting_for k (inl h) = record { batch = a; waits = inl h; elder = h.overtaken.batch; live = h.overtaken.live; number = h.overtaken.number; smaller = h.overtaken.smaller }
  waiting_for k (inr h) = record { batch = a; waits = inr h; elder = h.batch; live = h.live; number = h.number; smaller = subst (λ n. n < a.active.number) h.number h.reads.smaller }

  waiting_at : (t : Option ℕ) → target s i ≡ t → (k : ℕ) → replies.Waiting k ≡ commit_live s i t → IsWaitingAnswer s entry k
  waiting_at None goal k e = cc
  waiting_at (Some q) goal k e = by_waits (waits s i q (first_witness s i q)) refl e where
    by_witness : (r : Option Refusal) → replies.Waiting k ≡ commit_at s q None r → IsWaitingAnswer s entry k
    by_witness None e = cc
    by_witness (Some (ByLate v)) e = cc
    by_witness (Some (ByContradicts v)) e = cc

    by_waits : (n : Option ℕ) → waits s i q (first_witness s i q) ≡ n → replies.Waiting k ≡ commit_at s q n (first_witness s i q) → IsWaitingAnswer s entry k
    by_waits None is e = by_witness (first_witness s i q) e
    by_waits (Some n) is e = let same : n ≡ k = cc in waiting_for k (waits_is base s inv i q goal k (is ∙ ap Some same))

-- what each answer tells
module _ (built : State → Line → Bool) (base : Base) (history : List Entry) (entry : Entry) (sound : IsSound base) (legal : IsLegalWith built base (history ++ entry ∷ [])) where
  abbrev s : State
  s = state base history

  inv : Structure base s
  inv = structure_of built base history (before_legal built base history [] entry sound legal)

  asked : IsBatchReply entry.reply → IsBatchEntry s entry
  asked h = batch_entry built s entry (entry_is built base history [] entry sound legal) h

  pub late_told : (p op table : ℕ) (key : List ℕ) (writer : ℕ) → entry.reply ≡ replies.Late p op table key writer → IsLateAnswer s entry p (record { op = op; cell = record { table = table; key = key }; other = writer })
  late_told p op table key writer e = let b : IsBatchEntry s entry = asked (subst IsBatchReply (sym e) tt) in
      late_at base s inv entry b.batch (target s (batch_of b.batch.active b.batch.declared b.batch.snapshot)) refl p (record { op = op; cell = record { table = table; key = key }; other = writer }) (sym e ∙ b.replied)

  pub contradicts_told : (p op table : ℕ) (key : List ℕ) (reader : ℕ) → entry.reply ≡ replies.Contradicts p op table key reader → IsContradictsAnswer s entry p (record { op = op; cell = record { table = table; key = key }; other = reader })
  contradicts_told p op table key reader e = let b : IsBatchEntry s entry = asked (subst IsBatchReply (sym e) tt) in
      contradicts_at base s inv entry b.batch (target s (batch_of b.batch.active b.batch.declared b.batch.snapshot)) refl p (record { op = op; cell = record { table = table; key = key }; other = reader }) (sym e ∙ b.replied)

  pub waiting_told : (k : ℕ) → entry.reply ≡ replies.Waiting k → IsWaitingAnswer s entry k
  waiting_told k e = let b : IsBatchEntry s entry = asked (subst IsBatchReply (sym e) tt) in
      waiting_at base s inv entry b.batch (target s (batch_of b.batch.active b.batch.declared b.batch.snapshot)) refl k (sym e ∙ b.replied)
