-- Each answer is one that its command gives.
use Rattle.std.proofs.Common.{◌≡◌, ℕ, Bool, true, false, List, Option, Some, None, refl, subst}
use Rattle.ltx_model.specs.declared.commands.Op.{Op}
use Rattle.ltx_model.specs.declared.commands.Op.TheVariants as ops
use Rattle.ltx_model.specs.declared.commands.Verb.{Verb}
use Rattle.ltx_model.specs.declared.commands.Verb.TheVariants as verbs
use Rattle.ltx_model.specs.declared.commands.Command.{Command}
use Rattle.ltx_model.specs.declared.commands.Command.TheVariants as commands
use Rattle.ltx_model.specs.declared.commands.Line.{Line}
use Rattle.ltx_model.specs.declared.commands.Line.TheVariants as lines
use Rattle.ltx_model.specs.declared.replies.Reply.{Reply}
use Rattle.ltx_model.specs.declared.replies.Reply.TheVariants as replies
use Rattle.ltx_model.specs.declared.rows.StoredRow.{StoredRow}
use Rattle.std.specs.Prelude.{◌==◌, ◌-◌, ◌+◌, nat_le, if◌then◌else◌}
use Rattle.ltx_model.specs.Limits.{last_number, last_epoch, longest_log}
use Rattle.ltx_model.specs.Tables.{has_table}
use Rattle.ltx_model.specs.StoredRows.{row_at}
use Rattle.ltx_model.specs.Rows.{reply_on, rows_after_all, see, run, found}
use Rattle.ltx_model.specs.Operations.{Transaction, operations, table_of}
use Rattle.ltx_model.specs.States.{Declaration, Kind, IsShort, IsPending, IsLive, Active, transaction_of, State, LiveBatch, active_of, latest}
use Rattle.ltx_model.specs.Frames.{sealed, body_length}
use Rattle.ltx_model.specs.Shorts.{Held, held_table, holder, Change, first_change}
use Rattle.ltx_model.specs.Batches.{Refusal, ByLate, ByContradicts, target, first_witness, waits}
use Rattle.ltx_model.specs.Answers.{answer, staged, verb_reply, command_reply, begin_short, short_reply, begin_long, long_reply, operation, operation_in, operation_of_short, operation_of_batch, refusal, unless_in, counted, is_full, commit, commit_in, commit_short, checked, commit_live, commit_at, refused_at, abort, advance, flush, flush_within}
use Rattle.ltx_check.specs.declared.asked.Asked.{Asked}
use Rattle.ltx_check.specs.Opens.{gives, asked_by, asked_by_verb, asked_by_operation}

-- a command gives this reply
abbrev Given : Asked → Reply → Type 0
Given asked reply = gives asked reply ≡ true

preserved_given : (op : Op) (table n : ℕ) → Given (asked_by_operation op) (replies.Preserved table n)
preserved_given (ops.Get table key) t n = refl
preserved_given (ops.Scan table low high) t n = refl
preserved_given (ops.Put table key value) t n = refl
preserved_given (ops.Del table key) t n = refl

refusal_given : (d : Declaration) (op : Op) (reply : Reply) (asked : Asked) → refusal d op ≡ Some reply → Given asked reply
refusal_given d (ops.Get table key) reply asked e = by (has_table d.reads table) e where
  by : (b : Bool) → unless_in b (replies.Outside table) ≡ Some reply → Given asked reply
  by true e = cc
  by false e = let same : replies.Outside table ≡ reply = cc in subst (Given asked) same refl
refusal_given d (ops.Scan table low high) reply asked e = by (has_table d.reads table) e where
  by : (b : Bool) → unless_in b (replies.Outside table) ≡ Some reply → Given asked reply
  by true e = cc
  by false e = let same : replies.Outside table ≡ reply = cc in subst (Given asked) same refl
refusal_given d (ops.Put table key value) reply asked e = by (has_table d.writes table) e where
  by : (b : Bool) → unless_in b (replies.NotPreserved table) ≡ Some reply → Given asked reply
  by true e = cc
  by false e = let same : replies.NotPreserved table ≡ reply = cc in subst (Given asked) same refl
refusal_given d (ops.Del table key) reply asked e = by (has_table d.writes table) e where
  by : (b : Bool) → unless_in b (replies.NotPreserved table) ≡ Some reply → Given asked reply
  by true e = cc
  by false e = let same : replies.NotPreserved table ≡ reply = cc in subst (Given asked) same refl

reply_given : (rows : List StoredRow) (op : Op) → Given (asked_by_operation op) (reply_on rows op)
reply_given rows (ops.Get table key) = by (row_at rows (record { table = table; key = key })) where
  by : (r : Option StoredRow) → Given (asked_by_operation (ops.Get table key)) (found r)
  by None = refl
  by (Some row) = refl
reply_given rows (ops.Scan table low high) = refl
reply_given rows (ops.Put table key value) = refl
reply_given rows (ops.Del table key) = refl

see_given : (tx : ℕ) (rows : List StoredRow) (earlier : List Op) (op : Op) → Given (asked_by_operation op) (see tx rows earlier op)
unfolding see
see_given tx rows earlier op = reply_given (rows_after_all tx rows earlier) op

counted_given : (b : Bool) (rows : List StoredRow) (t : Transaction) (op : Op) → Given (asked_by_operation op) (counted b rows t op)
counted_given true rows t op = refl
counted_given false rows t op = see_given t.number rows (operations t) op

short_given : (s : State) (f : Option Active) → Given (asked_by_verb verbs.Short) (begin_short s f)
short_given s (Some o) = refl
short_given s None = by (s.last == last_number) where
  by : (b : Bool) → Given (asked_by_verb verbs.Short) (short_reply s b)
  by true = refl
  by false = refl

long_given : (s : State) (writes reads : ℕ) (f : Option Active) → Given (asked_by_verb (verbs.Long writes reads)) (begin_long s f)
long_given s writes reads (Some o) = refl
long_given s writes reads None = by (s.epoch == last_epoch) (s.last == last_number) where
  by : (a b : Bool) → Given (asked_by_verb (verbs.Long writes reads)) (long_reply s a b)
  by true b = refl
  by false true = refl
  by false false = refl

of_short_given : (s : State) (h : Option ℕ) (t : Transaction) (op : Op) → Given (asked_by_operation op) (operation_of_short s h t op)
of_short_given s (Some n) t op = preserved_given op (table_of op) n
of_short_given s None t op = counted_given (is_full t) (latest s) t op

of_batch_given : (s : State) (d : Declaration) (snapshot : List Transaction) (t : Transaction) (op : Op) (r : Option Reply) → refusal d op ≡ r → Given (asked_by_operation op) (operation_of_batch s r snapshot t op)
of_batch_given s d snapshot t op (Some reply) e = refusal_given d op reply (asked_by_operation op) e
of_batch_given s d snapshot t op None e = counted_given (is_full t) (run s.base snapshot) t op

operation_given : (s : State) (f : Option Active) (op : Op) → Given (asked_by_operation op) (operation s f op)
operation_given s None op = refl
operation_given s (Some o) op = by o.kind where
  by : (k : Kind) → Given (asked_by_operation op) (operation_in s k (transaction_of o) op)
  by IsShort = of_short_given s (holder s (table_of op)) (transaction_of o) op
  by (IsPending d) = refl
  by (IsLive d snapshot) = of_batch_given s d snapshot (transaction_of o) op (refusal d op) refl

IsGivenCommit : Reply → Type 0
IsGivenCommit reply = Given (asked_by_verb verbs.Commit) reply

refused_given : (p : ℕ) (r : Refusal) → IsGivenCommit (refused_at p r)
unfolding IsGivenCommit
refused_given p (ByLate w) = refl
refused_given p (ByContradicts w) = refl

commit_at_given : (s : State) (p : ℕ) (w : Option ℕ) (r : Option Refusal) → IsGivenCommit (commit_at s p w r)
unfolding IsGivenCommit
commit_at_given s p (Some k) r = refl
commit_at_given s p None (Some r) = refused_given p r
commit_at_given s p None None = refl

commit_live_given : (s : State) (i : LiveBatch) (t : Option ℕ) → IsGivenCommit (commit_live s i t)
unfolding IsGivenCommit
commit_live_given s i None = refl
commit_live_given s i (Some p) = commit_at_given s p (waits s i p (first_witness s i p)) (first_witness s i p)

commit_short_given : (s : State) (h : Option Held) (o : Active) → IsGivenCommit (commit_short s h o)
unfolding IsGivenCommit
commit_short_given s (Some h) o = refl
commit_short_given s None o = by (first_change (latest s) o.steps) where
  by : (c : Option Change) → IsGivenCommit (checked s c)
  by None = refl
  by (Some c) = refl

commit_given : (s : State) (f : Option Active) → IsGivenCommit (commit s f)
unfolding IsGivenCommit
commit_given s None = refl
commit_given s (Some o) = by o.kind where
  by : (k : Kind) → IsGivenCommit (commit_in s k o)
  by IsShort = commit_short_given s (held_table s (operations (transaction_of o))) o
  by (IsPending d) = refl
  by (IsLive d snapshot) = let i : LiveBatch = record { tx = transaction_of o; declared = d; snapshot = snapshot } in commit_live_given s i (target s i)

abort_given : (f : Option Active) → Given (asked_by_verb verbs.Abort) (abort f)
abort_given None = refl
abort_given (Some o) = refl

verb_given : (s : State) (session : ℕ) (verb : Verb) → Given (asked_by_verb verb) (verb_reply s session verb)
unfolding IsGivenCommit
verb_given s session verbs.Short = short_given s (active_of s session)
verb_given s session (verbs.Long writes reads) = long_given s writes reads (active_of s session)
verb_given s session (verbs.Do op) = operation_given s (active_of s session) op
verb_given s session verbs.Commit = commit_given s (active_of s session)
verb_given s session verbs.Abort = abort_given (active_of s session)

advance_given : (s : State) (b : Bool) → Given (asked_by (lines.Good commands.Epoch)) (advance s b)
advance_given s true = refl
advance_given s false = refl

flush_given : (s : State) (b : Bool) → Given (asked_by (lines.Good commands.Flush)) (flush s b)
flush_given s true = refl
flush_given s false = by (nat_le (s.gate + 10 + body_length (sealed s)) longest_log) where
  by : (b : Bool) → Given (asked_by (lines.Good commands.Flush)) (flush_within s b)
  by true = refl
  by false = refl

command_given : (s : State) (command : Command) → Given (asked_by (lines.Good command)) (command_reply s command)
command_given s commands.Epoch = advance_given s (s.epoch == last_epoch)
command_given s commands.Flush = flush_given s (s.epoch - 1 == s.durable)
command_given s commands.Prune = refl
command_given s (commands.Ask session verb) = verb_given s session verb

answer_given : (s : State) (line : Line) → Given (asked_by line) (answer s line)
unfolding answer
answer_given s (lines.Good command) = command_given s command
answer_given s (lines.Bad cause) = refl

pub staged_given : (built : State → Line → Bool) (s : State) (line : Line) → gives (asked_by line) (staged built s line) ≡ true
staged_given built s line = by (built s line) where
  by : (b : Bool) → gives (asked_by line) (if b then answer s line else replies.Later) ≡ true
  by true = answer_given s line
  by false = refl
