-- What `durable` prints, and that a commit of an epoch that it reaches is in the order through the durable epoch.
use Rattle.std.proofs.Common.{◌≡◌, ◌⊎◌, inl, inr, ℕ, ◌+◌, ◌-◌, ◌<◌, ◌≤◌, Bool, true, false, ◌==◌, nat_lt, nat_le, List, [], ◌∷◌, ◌++◌, Option, Some, None, refl, sym, ap, ◌∙◌, subst, append_assoc, arith, le_refl, if◌then◌else◌, Contains}
use Rattle.std.proofs.lemmas.Bool.{ltb-false}
use Rattle.ltx_model.specs.declared.commands.Op.{Op}
use Rattle.ltx_model.specs.declared.commands.Op.TheVariants as ops
use Rattle.ltx_model.specs.declared.commands.Verb.{Verb}
use Rattle.ltx_model.specs.declared.commands.Verb.TheVariants as verbs
use Rattle.ltx_model.specs.declared.commands.Command.TheVariants as commands
use Rattle.ltx_model.specs.declared.commands.Line.{Line}
use Rattle.ltx_model.specs.declared.commands.Line.TheVariants as lines
use Rattle.ltx_model.specs.declared.replies.Entry.{Entry}
use Rattle.ltx_model.specs.declared.replies.Reply.{Reply}
use Rattle.ltx_model.specs.declared.replies.Reply.TheVariants as replies
use Rattle.ltx_model.specs.declared.rows.StoredRow.{StoredRow}
use Rattle.ltx_model.specs.Tables.{has_table}
use Rattle.ltx_model.specs.Operations.{Transaction, operations, table_of}
use Rattle.ltx_model.specs.Rows.{see, run}
use Rattle.ltx_model.specs.States.{Declaration, Kind, IsShort, IsPending, IsLive, Active, transaction_of, Base, IsSound, State, first_state, LiveBatch, active_of, latest, serial_through}
use Rattle.ltx_model.specs.Frames.{sealed, body_length}
use Rattle.ltx_model.specs.Histories.{durable_if, reply_changes, after, state, state_from}
use Rattle.ltx_model.specs.Shorts.{Held, held_table, holder, Change, first_change}
use Rattle.ltx_model.specs.Batches.{Refusal, ByLate, ByContradicts, first_witness, target, waits}
use Rattle.ltx_model.specs.Answers.{answer, staged, IsLegalFrom, IsLegalWith, verb_reply, begin_short, short_reply, begin_long, long_reply, operation, operation_in, operation_of_short, operation_of_batch, refusal, unless_in, counted, is_full, commit, commit_in, commit_short, checked, commit_live, commit_at, abort, advance, flush, flush_within}
use Rattle.ltx_model.specs.Limits.{last_number, last_epoch, longest_log}
use Rattle.ltx_model.specs.Explained.{effect_of, Answers}
use Rattle.ltx_model.proofs.OneMore.{after-is, legal-parts, legal-first}
use Rattle.ltx_laws.specs.Commits.{IsCommitOf, IsCommitReply}
use Rattle.ltx_laws.specs.Priority.{batch_of}
use Rattle.ltx_laws.proofs.Transitions.{see_answers, entry_case}
use Rattle.ltx_laws.proofs.DropsFrames.{Grows, grows_cases, stays_open}
use Rattle.ltx_laws.proofs.SlotsKept.{state_more}
use Rattle.ltx_laws.proofs.CommitEpochs.{commit_through}

module _ (s : State) where
  -- a reply that prints an epoch as durable prints the durable one, or the last closed one
  abbrev Tells : Reply → Type 0
  Tells (replies.Durable d) = (d ≡ s.durable) ⊎ (d ≡ s.epoch - 1)
  Tells reply = Unit {0}

  answers_tell : (reply : Reply) → effect_of reply ≡ Answers → Tells reply
  answers_tell (replies.Durable d) e = cc
  answers_tell reply e = tt

  counted_tells : (b : Bool) (rows : List StoredRow) (t : Transaction) (op : Op) → Tells (counted b rows t op)
  counted_tells true rows t op = tt
  counted_tells false rows t op = answers_tell (see t.number rows (operations t) op) (see_answers t.number rows (operations t) op)

  unless_tells : (b : Bool) (reply : Reply) (snapshot : List Transaction) (t : Transaction) (op : Op) → Tells reply → Tells (operation_of_batch s (unless_in b reply) snapshot t op)
  unless_tells true reply snapshot t op h = counted_tells (is_full t) (run s.base snapshot) t op
  unless_tells false reply snapshot t op h = h

  batch_tells : (d : Declaration) (op : Op) (snapshot : List Transaction) (t : Transaction) → Tells (operation_of_batch s (refusal d op) snapshot t op)
  batch_tells d (ops.Get table key) snapshot t = unless_tells (has_table d.reads table) (replies.Outside table) snapshot t (ops.Get table key) tt
  batch_tells d (ops.Scan table low high) snapshot t = unless_tells (has_table d.reads table) (replies.Outside table) snapshot t (ops.Scan table low high) tt
  batch_tells d (ops.Put table key value) snapshot t = unless_tells (has_table d.writes table) (replies.NotPreserved table) snapshot t (ops.Put table key value) tt
  batch_tells d (ops.Del table key) snapshot t = unless_tells (has_table d.writes table) (replies.NotPreserved table) snapshot t (ops.Del table key) tt

  short_tells : (n : Option ℕ) (t : Transaction) (op : Op) → Tells (operation_of_short s n t op)
  short_tells (Some n) t op = tt
  short_tells None t op = counted_tells (is_full t) (latest s) t op

  kind_tells : (k : Kind) (t : Transaction) (op : Op) → Tells (operation_in s k t op)
  kind_tells IsShort t op = short_tells (holder s (table_of op)) t op
  kind_tells (IsPending d) t op = tt
  kind_tells (IsLive d snapshot) t op = batch_tells d op snapshot t

  operation_tells : (f : Option Active) (op : Op) → Tells (operation s f op)
  operation_tells None op = tt
  operation_tells (Some o) op = kind_tells o.kind (transaction_of o) op

  checked_tells : (c : Option Change) → Tells (checked s c)
  checked_tells None = tt
  checked_tells (Some c) = tt

  short_commit_tells : (h : Option Held) (o : Active) → Tells (commit_short s h o)
  short_commit_tells (Some held) o = tt
  short_commit_tells None o = checked_tells (first_change (latest s) o.steps)

  at_tells : (p : ℕ) (k : Option ℕ) (r : Option Refusal) → Tells (commit_at s p k r)
  at_tells p (Some k) r = tt
  at_tells p None (Some (ByLate w)) = tt
  at_tells p None (Some (ByContradicts w)) = tt
  at_tells p None None = tt

  live_tells : (i : LiveBatch) (t : Option ℕ) → Tells (commit_live s i t)
  live_tells i None = tt
  live_tells i (Some p) = at_tells p (waits s i p (first_witness s i p)) (first_witness s i p)

  commit_tells : (f : Option Active) → Tells (commit s f)
  commit_tells None = tt
  commit_tells (Some o) = by_kind o.kind where
    by_kind : (k : Kind) → Tells (commit_in s k o)
    by_kind IsShort = short_commit_tells (held_table s (operations (transaction_of o))) o
    by_kind (IsPending d) = tt
    by_kind (IsLive d snapshot) = live_tells (batch_of o d snapshot) (target s (batch_of o d snapshot))

  begin_short_tells : (f : Option Active) → Tells (begin_short s f)
  begin_short_tells (Some o) = tt
  begin_short_tells None = by_test (s.last == last_number) where
    by_test : (b : Bool) → Tells (short_reply s b)
    by_test true = tt
    by_test false = tt

  begin_long_tells : (f : Option Active) → Tells (begin_long s f)
  begin_long_tells (Some o) = tt
  begin_long_tells None = by_tests (s.epoch == last_epoch) (s.last == last_number) where
    by_tests : (a b : Bool) → Tells (long_reply s a b)
    by_tests true b = tt
    by_tests false true = tt
    by_tests false false = tt

  abort_tells : (f : Option Active) → Tells (abort f)
  abort_tells None = tt
  abort_tells (Some o) = tt

  verb_tells : (session : ℕ) (verb : Verb) → Tells (verb_reply s session verb)
  verb_tells session verbs.Short = begin_short_tells (active_of s session)
  verb_tells session (verbs.Long writes reads) = begin_long_tells (active_of s session)
  verb_tells session (verbs.Do op) = operation_tells (active_of s session) op
  verb_tells session verbs.Commit = commit_tells (active_of s session)
  verb_tells session verbs.Abort = abort_tells (active_of s session)

  advance_tells : (b : Bool) → Tells (advance s b)
  advance_tells true = tt
  advance_tells false = tt

  flush_tells : (a : Bool) → Tells (flush s a)
  flush_tells true = inl refl
  flush_tells false = by_test (nat_le (s.gate + 10 + body_length (sealed s)) longest_log) where
    by_test : (b : Bool) → Tells (flush_within s b)
    by_test true = inr refl
    by_test false = tt

  answer_tells : (line : Line) → Tells (answer s line)
  unfolding answer
  answer_tells (lines.Good commands.Epoch) = advance_tells (s.epoch == last_epoch)
  answer_tells (lines.Good commands.Flush) = flush_tells (s.epoch - 1 == s.durable)
  answer_tells (lines.Good commands.Prune) = tt
  answer_tells (lines.Good (commands.Ask session verb)) = verb_tells session verb
  answer_tells (lines.Bad cause) = tt

  staged_tells : (built : State → Line → Bool) (line : Line) → Tells (staged built s line)
  staged_tells built line = by_test (built s line) where
    by_test : (b : Bool) → Tells (if b then answer s line else replies.Later)
    by_test true = answer_tells line
    by_test false = tt

  -- after that entry the durable epoch is the printed one
  pub durable_then : (built : State → Line → Bool) (entry : Entry) (d : ℕ) → s.durable < s.epoch → entry.reply ≡ staged built s entry.line → entry.reply ≡ replies.Durable d → (after s entry).durable ≡ d
  durable_then built entry d ahead is printed =
      ap (λ (x : State). x.durable) (after-is s entry.line entry.reply ∙ ap (reply_changes s entry.line) printed)
      ∙ by_test (nat_lt s.durable d) refl (subst Tells (sym is ∙ printed) (staged_tells built entry.line)) where
        by_test : (b : Bool) → nat_lt s.durable d ≡ b → (d ≡ s.durable) ⊎ (d ≡ s.epoch - 1) → (durable_if b s d).durable ≡ d
        by_test true e which = refl
        by_test false e (inl same) = sym same
        by_test false e (inr last) = let least : d ≤ s.durable = ltb-false s.durable d e in let h : s.durable ≡ d = omega arith in h

-- the durable epoch never falls, and stays closed
durable_grows : (s after : State) → Grows s after → s.durable < s.epoch → s.durable ≤ after.durable
durable_grows s after g ahead = by_which g.durable where
  by_which : (after.durable ≡ s.durable) ⊎ ((after.durable ≡ s.epoch - 1) × (after.moves ≡ s.moves)) → s.durable ≤ after.durable
  by_which (inl same) = let h : s.durable ≤ after.durable = omega arith in h
  by_which (inr (last, moves)) = let h : s.durable ≤ after.durable = omega arith in h

pub durable_from : (built : State → Line → Bool) (s : State) (history : List Entry) (d : ℕ) → s.durable < s.epoch → d ≤ s.durable → IsLegalFrom built s history → (d ≤ (state_from s history).durable) × ((state_from s history).durable < (state_from s history).epoch)
unfolding IsLegalFrom state_from
durable_from built s [] d ahead under legal = (under, ahead)
durable_from built s (entry ∷ entries) d ahead under legal =
    let g : Grows s (after s entry) = entry_case s (λ line reply s'. Grows s s') (grows_cases s) built entry legal.0 in
    let grows : s.durable ≤ (after s entry).durable = durable_grows s (after s entry) g ahead in
    durable_from built (after s entry) entries d (stays_open s (after s entry) g ahead) (let h : d ≤ (after s entry).durable = omega arith in h) legal.1

pub durable_closed : (built : State → Line → Bool) (base : Base) (history : List Entry) → IsSound base → IsLegalWith built base history → (state base history).durable < (state base history).epoch
durable_closed built base history sound legal = (durable_from built (first_state base) history base.durable (let h : base.durable < base.durable + 1 = omega arith in h) (le_refl base.durable) legal).1

pub durable_printed : (built : State → Line → Bool) (base : Base) (history more : List Entry) (entry : Entry) → IsSound base → IsLegalWith built base (history ++ entry ∷ more)
    → (d : ℕ) → entry.reply ≡ replies.Durable d → d ≤ (state base (history ++ entry ∷ more)).durable
durable_printed built base history more entry sound legal d printed =
    let s : State = state base history in
    let parts = legal-parts built (first_state base) history (entry ∷ more) legal in
    let first = legal-first built s entry more parts.1 in
    let ahead : s.durable < s.epoch = durable_closed built base history sound parts.0 in
    let g : Grows s (after s entry) = entry_case s (λ line reply s'. Grows s s') (grows_cases s) built entry first.0 in
    let now : (after s entry).durable ≡ d = durable_then s built entry d ahead first.0 printed in
    subst (λ (x : State). d ≤ x.durable) (sym (state_more base history more entry))
    (durable_from built (after s entry) more d (stays_open s (after s entry) g ahead) (subst (λ e. d ≤ e) (sym now) (le_refl d)) first.1).0

pub acknowledged_durable : (built : State → Line → Bool) (base : Base) (history middle more : List Entry) (first second : Entry) → IsSound base → IsLegalWith built base (history ++ first ∷ (middle ++ second ∷ more))
    → (o : Active) (epoch d : ℕ) → IsCommitOf (state base history) first o → IsCommitReply first.reply epoch → second.reply ≡ replies.Durable d → epoch ≤ d
    → Contains (serial_through (state base (history ++ first ∷ (middle ++ second ∷ more))) (state base (history ++ first ∷ (middle ++ second ∷ more))).durable) (transaction_of o)
acknowledged_durable built base history middle more first second sound legal o epoch d c printed reply reached =
    let whole : List Entry = history ++ first ∷ (middle ++ second ∷ more) in
    let same : (history ++ first ∷ middle) ++ second ∷ more ≡ whole = append_assoc history (first ∷ middle) (second ∷ more) in
    let durable : d ≤ (state base whole).durable
    = subst (λ l. d ≤ (state base l).durable) same (durable_printed built base (history ++ first ∷ middle) more second sound (subst (IsLegalWith built base) (sym same) legal) d reply) in
    commit_through built base history (middle ++ second ∷ more) first sound legal o epoch (state base whole).durable c printed (let h : epoch ≤ (state base whole).durable = omega arith in h)
