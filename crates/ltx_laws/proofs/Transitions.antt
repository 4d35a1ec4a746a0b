-- What a reply of a legal history may change: one case for each kind of change, with what the answer tells of the state before it.
use Rattle.std.proofs.Common.{◌≡◌, ◌⊎◌, inl, inr, ℕ, ◌+◌, ◌-◌, Bool, true, false, ◌==◌, nat_le, List, [], ◌∷◌, Option, Some, None, refl, sym, ap, subst, if◌then◌else◌}
use Rattle.ltx_model.specs.declared.commands.Op.{Op}
use Rattle.ltx_model.specs.declared.commands.Op.TheVariants as ops
use Rattle.ltx_model.specs.declared.commands.Verb.{Verb}
use Rattle.ltx_model.specs.declared.commands.Verb.TheVariants as verbs
use Rattle.ltx_model.specs.declared.commands.Command.{Command}
use Rattle.ltx_model.specs.declared.commands.Command.TheVariants as commands
use Rattle.ltx_model.specs.declared.commands.Line.{Line}
use Rattle.ltx_model.specs.declared.commands.Line.TheVariants as lines
use Rattle.ltx_model.specs.declared.replies.Entry.{Entry}
use Rattle.ltx_model.specs.declared.replies.Reply.{Reply}
use Rattle.ltx_model.specs.declared.replies.Reply.TheVariants as replies
use Rattle.ltx_model.specs.declared.rows.StoredRow.{StoredRow}
use Rattle.ltx_model.specs.Tables.{has_table}
use Rattle.ltx_model.specs.Operations.{Transaction, operations, table_of}
use Rattle.ltx_model.specs.StoredRows.{row_at}
use Rattle.ltx_model.specs.Rows.{reply_on, rows_after_all, see, run, found}
use Rattle.ltx_model.specs.Agenda.{CommitShort, CommitHome, CommitBefore}
use Rattle.ltx_model.specs.States.{Declaration, Kind, IsShort, IsPending, IsLive, Active, transaction_of, State, LiveBatch, active_of, latest}
use Rattle.ltx_model.specs.Frames.{sealed, body_length}
use Rattle.ltx_model.specs.Histories.{begun, answered, closed, moved, committed, committed_before, ended, advanced, made_durable, reply_changes, after, state_from}
use Rattle.ltx_model.specs.Shorts.{Held, held_table, holder, Change, first_change}
use Rattle.ltx_model.specs.Batches.{Refusal, ByLate, ByContradicts, target, first_witness, waits, elder_reader}
use Rattle.ltx_model.specs.Answers.{answer, staged, IsLegalFrom, verb_reply, command_reply, begin_short, short_reply, begin_long, long_reply, operation, operation_in, operation_of_short, operation_of_batch, refusal, unless_in, counted, is_full, commit, commit_in, commit_short, commit_live, commit_at, refused_at, abort, advance, flush, flush_within}
use Rattle.ltx_model.specs.Limits.{last_number, last_epoch, longest_log}
use Rattle.ltx_model.specs.Explained.{Answers, Ends, Leaves, effect_of}
use Rattle.ltx_model.proofs.OneMore.{after-is}

-- a line of a session
abbrev pub asks : ℕ → Verb → Line
asks session verb = lines.Good (commands.Ask session verb)

-- an open live batch as the batch that the answers speak of
abbrev pub live_of : Active → Declaration → List Transaction → LiveBatch
live_of o d snapshot = record { tx = transaction_of o; declared = d; snapshot = snapshot }

-- what holds of a line, its reply and the state after it, case by case
pub record Cases (s : State) (P : Line → Reply → State → Type 0) : Type 0 where
  pub nothing : (line : Line) (reply : Reply) → effect_of reply ≡ Leaves → P line reply s
  pub begins_short : (session : ℕ) → active_of s session ≡ None → P (asks session verbs.Short) (replies.Begun (s.last + 1)) (begun s IsShort (s.last + 1) session)
  pub begins_long : (session writes reads : ℕ) → active_of s session ≡ None
      → P (asks session (verbs.Long writes reads)) (replies.BegunAt (s.last + 1) (s.epoch + 1)) (begun s (IsPending (record { writes = writes; reads = reads; from = s.epoch + 1 })) (s.last + 1) session)
  pub answers_short : (session : ℕ) (op : Op) (o : Active) (reply : Reply) → active_of s session ≡ Some o → o.kind ≡ IsShort → holder s (table_of op) ≡ None
      → reply ≡ see o.number (latest s) (operations (transaction_of o)) op → effect_of reply ≡ Answers
      → P (asks session (verbs.Do op)) reply (answered s op reply session)
  pub answers_batch : (session : ℕ) (op : Op) (o : Active) (d : Declaration) (snapshot : List Transaction) (reply : Reply) → active_of s session ≡ Some o → o.kind ≡ IsLive d snapshot → refusal d op ≡ None
      → reply ≡ see o.number (run s.base snapshot) (operations (transaction_of o)) op → effect_of reply ≡ Answers
      → P (asks session (verbs.Do op)) reply (answered s op reply session)
  pub commits_short : (session : ℕ) (o : Active) → active_of s session ≡ Some o → o.kind ≡ IsShort → held_table s (operations (transaction_of o)) ≡ None → first_change (latest s) o.steps ≡ None
      → P (asks session verbs.Commit) (replies.Committed s.epoch) (moved (closed s session) s.epoch (CommitShort (transaction_of o)))
  pub commits_home : (session : ℕ) (o : Active) (d : Declaration) (snapshot : List Transaction) → active_of s session ≡ Some o → o.kind ≡ IsLive d snapshot → target s (live_of o d snapshot) ≡ None
      → P (asks session verbs.Commit) (replies.Committed s.epoch) (moved (closed s session) s.epoch (CommitHome (transaction_of o)))
  pub commits_before : (session : ℕ) (o : Active) (d : Declaration) (snapshot : List Transaction) (p : ℕ) → active_of s session ≡ Some o → o.kind ≡ IsLive d snapshot → target s (live_of o d snapshot) ≡ Some p
      → first_witness s (live_of o d snapshot) p ≡ None → elder_reader s (live_of o d snapshot) p ≡ None
      → P (asks session verbs.Commit) (replies.CommittedBefore s.epoch p) (moved (closed s session) s.epoch (CommitBefore (transaction_of o) p))
  pub ends : (session : ℕ) (verb : Verb) (reply : Reply) (o : Active) → active_of s session ≡ Some o → effect_of reply ≡ Ends → P (asks session verb) reply (ended s o session)
  pub advances : P (lines.Good commands.Epoch) (replies.Advanced (s.epoch + 1)) (advanced s (s.epoch + 1))
  pub flushes : (epoch : ℕ) → (epoch ≡ s.durable) ⊎ (epoch ≡ s.epoch - 1) → P (lines.Good commands.Flush) (replies.Durable epoch) (made_durable s epoch)

-- the reply of a get, scan, put or del is an answer
abbrev pub IsAnswer : Reply → Type 0
IsAnswer reply = effect_of reply ≡ Answers

reply_answers : (rows : List StoredRow) (op : Op) → IsAnswer (reply_on rows op)
reply_answers rows (ops.Get table key) = by_row (row_at rows (record { table = table; key = key })) where
  by_row : (r : Option StoredRow) → IsAnswer (found r)
  by_row None = refl
  by_row (Some row) = refl
reply_answers rows (ops.Scan table low high) = refl
reply_answers rows (ops.Put table key value) = refl
reply_answers rows (ops.Del table key) = refl

pub see_answers : (tx : ℕ) (rows : List StoredRow) (earlier : List Op) (op : Op) → IsAnswer (see tx rows earlier op)
unfolding see
see_answers tx rows earlier op = reply_answers (rows_after_all tx rows earlier) op

module _ (s : State) (P : Line → Reply → State → Type 0) (cases : Cases s P) where
  -- it holds of the line, a reply and what the reply changes
  abbrev Holds : Line → Reply → Type 0
  Holds line reply = P line reply (reply_changes s line reply)

  begin_short_case : (session : ℕ) (o : Option Active) → active_of s session ≡ o → Holds (asks session verbs.Short) (begin_short s o)
  begin_short_case session (Some o) is = cases.nothing (asks session verbs.Short) replies.HasTx refl
  begin_short_case session None is = by_test (s.last == last_number) where
    by_test : (b : Bool) → Holds (asks session verbs.Short) (short_reply s b)
    by_test true = cases.nothing (asks session verbs.Short) replies.LimitTx refl
    by_test false = cases.begins_short session is

  begin_long_case : (session writes reads : ℕ) (o : Option Active) → active_of s session ≡ o → Holds (asks session (verbs.Long writes reads)) (begin_long s o)
  begin_long_case session writes reads (Some o) is = cases.nothing (asks session (verbs.Long writes reads)) replies.HasTx refl
  begin_long_case session writes reads None is = by_tests (s.epoch == last_epoch) (s.last == last_number) where
    by_tests : (a b : Bool) → Holds (asks session (verbs.Long writes reads)) (long_reply s a b)
    by_tests true b = cases.nothing (asks session (verbs.Long writes reads)) replies.LimitEpoch refl
    by_tests false true = cases.nothing (asks session (verbs.Long writes reads)) replies.LimitTx refl
    by_tests false false = cases.begins_long session writes reads is

  -- a reply that answers an operation adds it
  answer_changes : (session : ℕ) (op : Op) (reply : Reply) → IsAnswer reply → reply_changes s (asks session (verbs.Do op)) reply ≡ answered s op reply session
  answer_changes session op (replies.Begun n) e = cc
  answer_changes session op (replies.BegunAt n epoch) e = cc
  answer_changes session op (replies.Found value) e = refl
  answer_changes session op replies.Absent e = refl
  answer_changes session op (replies.Rows rows) e = refl
  answer_changes session op replies.Done e = refl
  answer_changes session op (replies.Committed epoch) e = cc
  answer_changes session op (replies.CommittedBefore epoch p) e = cc
  answer_changes session op replies.Aborted e = cc
  answer_changes session op (replies.Preserved table holder) e = cc
  answer_changes session op (replies.Changed n table key found current) e = cc
  answer_changes session op (replies.Late p n table key writer) e = cc
  answer_changes session op (replies.Contradicts p n table key reader) e = cc
  answer_changes session op reply e = cc

  -- a reply that ends a transaction does so to the session's open one
  end_changes : (session : ℕ) (verb : Verb) (reply : Reply) (o : Active) → effect_of reply ≡ Ends → active_of s session ≡ Some o → reply_changes s (asks session verb) reply ≡ ended s o session
  end_changes session verb replies.Aborted o e is = rw is refl
  end_changes session verb (replies.Preserved table holder) o e is = rw is refl
  end_changes session verb (replies.Changed n table key found current) o e is = rw is refl
  end_changes session verb (replies.Late p n table key writer) o e is = rw is refl
  end_changes session verb (replies.Contradicts p n table key reader) o e is = rw is refl
  end_changes session verb reply o e is = cc

  ends_case : (session : ℕ) (verb : Verb) (reply : Reply) (o : Active) → active_of s session ≡ Some o → effect_of reply ≡ Ends → Holds (asks session verb) reply
  ends_case session verb reply o is e = subst (P (asks session verb) reply) (sym (end_changes session verb reply o e is)) (cases.ends session verb reply o is e)

  counted_case : (session : ℕ) (op : Op) (b : Bool) (rows : List StoredRow) (o : Active)
      → ((reply : Reply) → reply ≡ see o.number rows (operations (transaction_of o)) op → IsAnswer reply → P (asks session (verbs.Do op)) reply (answered s op reply session))
      → Holds (asks session (verbs.Do op)) (counted b rows (transaction_of o) op)
  counted_case session op true rows o answers = cases.nothing (asks session (verbs.Do op)) replies.LimitOps refl
  counted_case session op false rows o answers =
      let reply : Reply = see o.number rows (operations (transaction_of o)) op in
      let is : IsAnswer reply = see_answers o.number rows (operations (transaction_of o)) op in
      subst (P (asks session (verbs.Do op)) reply) (sym (answer_changes session op reply is)) (answers reply refl is)

  of_short_case : (session : ℕ) (op : Op) (o : Active) → active_of s session ≡ Some o → o.kind ≡ IsShort → (h : Option ℕ) → holder s (table_of op) ≡ h
      → Holds (asks session (verbs.Do op)) (operation_of_short s h (transaction_of o) op)
  of_short_case session op o is kind (Some n) h = ends_case session (verbs.Do op) (replies.Preserved (table_of op) n) o is refl
  of_short_case session op o is kind None h = counted_case session op (is_full (transaction_of o)) (latest s) o (λ reply sees answers. cases.answers_short session op o reply is kind h sees answers)

  refused_changes : (session : ℕ) (d : Declaration) (op : Op) (reply : Reply) → refusal d op ≡ Some reply → effect_of reply ≡ Leaves
  refused_changes session d (ops.Get table key) reply e = by_test (has_table d.reads table) e where
    by_test : (b : Bool) → unless_in b (replies.Outside table) ≡ Some reply → effect_of reply ≡ Leaves
    by_test true e = cc
    by_test false e = let same : replies.Outside table ≡ reply = cc in ap effect_of (sym same)
  refused_changes session d (ops.Scan table low high) reply e = by_test (has_table d.reads table) e where
    by_test : (b : Bool) → unless_in b (replies.Outside table) ≡ Some reply → effect_of reply ≡ Leaves
    by_test true e = cc
    by_test false e = let same : replies.Outside table ≡ reply = cc in ap effect_of (sym same)
  refused_changes session d (ops.Put table key value) reply e = by_test (has_table d.writes table) e where
    by_test : (b : Bool) → unless_in b (replies.NotPreserved table) ≡ Some reply → effect_of reply ≡ Leaves
    by_test true e = cc
    by_test false e = let same : replies.NotPreserved table ≡ reply = cc in ap effect_of (sym same)
  refused_changes session d (ops.Del table key) reply e = by_test (has_table d.writes table) e where
    by_test : (b : Bool) → unless_in b (replies.NotPreserved table) ≡ Some reply → effect_of reply ≡ Leaves
    by_test true e = cc
    by_test false e = let same : replies.NotPreserved table ≡ reply = cc in ap effect_of (sym same)

  -- a reply that leaves the open transactions, to a line of a session, changes nothing
  leaves_changes : (session : ℕ) (verb : Verb) (d : Declaration) (op : Op) (reply : Reply) → refusal d op ≡ Some reply → reply_changes s (asks session verb) reply ≡ s
  leaves_changes session verb d (ops.Get table key) reply e = by_test (has_table d.reads table) e where
    by_test : (b : Bool) → unless_in b (replies.Outside table) ≡ Some reply → reply_changes s (asks session verb) reply ≡ s
    by_test true e = cc
    by_test false e = let same : replies.Outside table ≡ reply = cc in ap (reply_changes s (asks session verb)) (sym same)
  leaves_changes session verb d (ops.Scan table low high) reply e = by_test (has_table d.reads table) e where
    by_test : (b : Bool) → unless_in b (replies.Outside table) ≡ Some reply → reply_changes s (asks session verb) reply ≡ s
    by_test true e = cc
    by_test false e = let same : replies.Outside table ≡ reply = cc in ap (reply_changes s (asks session verb)) (sym same)
  leaves_changes session verb d (ops.Put table key value) reply e = by_test (has_table d.writes table) e where
    by_test : (b : Bool) → unless_in b (replies.NotPreserved table) ≡ Some reply → reply_changes s (asks session verb) reply ≡ s
    by_test true e = cc
    by_test false e = let same : replies.NotPreserved table ≡ reply = cc in ap (reply_changes s (asks session verb)) (sym same)
  leaves_changes session verb d (ops.Del table key) reply e = by_test (has_table d.writes table) e where
    by_test : (b : Bool) → unless_in b (replies.NotPreserved table) ≡ Some reply → reply_changes s (asks session verb) reply ≡ s
    by_test true e = cc
    by_test false e = let same : replies.NotPreserved table ≡ reply = cc in ap (reply_changes s (asks session verb)) (sym same)

  of_batch_case : (session : ℕ) (op : Op) (o : Active) (d : Declaration) (snapshot : List Transaction) → active_of s session ≡ Some o → o.kind ≡ IsLive d snapshot → (r : Option Reply) → refusal d op ≡ r
      → Holds (asks session (verbs.Do op)) (operation_of_batch s r snapshot (transaction_of o) op)
  of_batch_case session op o d snapshot is kind (Some reply) r =
      subst (P (asks session (verbs.Do op)) reply) (sym (leaves_changes session (verbs.Do op) d op reply r)) (cases.nothing (asks session (verbs.Do op)) reply (refused_changes session d op reply r))
  of_batch_case session op o d snapshot is kind None r =
      counted_case session op (is_full (transaction_of o)) (run s.base snapshot) o (λ reply sees answers. cases.answers_batch session op o d snapshot reply is kind r sees answers)

  operation_case : (session : ℕ) (op : Op) (f : Option Active) → active_of s session ≡ f → Holds (asks session (verbs.Do op)) (operation s f op)
  operation_case session op None is = cases.nothing (asks session (verbs.Do op)) replies.NoTx refl
  operation_case session op (Some o) is = by_kind o.kind refl where
    by_kind : (k : Kind) → o.kind ≡ k → Holds (asks session (verbs.Do op)) (operation_in s k (transaction_of o) op)
    by_kind IsShort kind = of_short_case session op o is kind (holder s (table_of op)) refl
    by_kind (IsPending d) kind = cases.nothing (asks session (verbs.Do op)) (replies.NotYet d.from) refl
    by_kind (IsLive d snapshot) kind = of_batch_case session op o d snapshot is kind (refusal d op) refl

  -- a commit that is answered with these changes the session's open transaction
  commit_changes : (session epoch : ℕ) (o : Active) (k : Kind) → active_of s session ≡ Some o → o.kind ≡ k
      → reply_changes s (asks session verbs.Commit) (replies.Committed epoch) ≡ committed s (record { session = o.session; kind = k; number = o.number; steps = o.steps }) session
  commit_changes session epoch o k is kind = rw is (rw kind refl)

  before_changes : (session epoch p : ℕ) (o : Active) (k : Kind) → active_of s session ≡ Some o → o.kind ≡ k
      → reply_changes s (asks session verbs.Commit) (replies.CommittedBefore epoch p) ≡ committed_before s p k o session
  before_changes session epoch p o k is kind = rw is (rw kind refl)

  short_commit_case : (session : ℕ) (o : Active) → active_of s session ≡ Some o → o.kind ≡ IsShort → (h : Option Held) → held_table s (operations (transaction_of o)) ≡ h
      → (c : Option Change) → first_change (latest s) o.steps ≡ c → Holds (asks session verbs.Commit) (commit_short s h o)
  short_commit_case session o is kind (Some held) h c e = ends_case session verbs.Commit (replies.Preserved held.table held.holder) o is refl
  short_commit_case session o is kind None h (Some c) e = rw e (ends_case session verbs.Commit (replies.Changed c.op c.cell.table c.cell.key c.found c.current) o is refl)
  short_commit_case session o is kind None h None e = rw e (subst (P (asks session verbs.Commit) (replies.Committed s.epoch)) (sym (commit_changes session s.epoch o IsShort is kind)) (cases.commits_short session o is kind h e))

  refused_case : (session p : ℕ) (o : Active) (r : Refusal) → active_of s session ≡ Some o → Holds (asks session verbs.Commit) (refused_at p r)
  refused_case session p o (ByLate w) is = ends_case session verbs.Commit (replies.Late p w.op w.cell.table w.cell.key w.other) o is refl
  refused_case session p o (ByContradicts w) is = ends_case session verbs.Commit (replies.Contradicts p w.op w.cell.table w.cell.key w.other) o is refl

  commit_at_case : (session : ℕ) (o : Active) (d : Declaration) (snapshot : List Transaction) (p : ℕ) → active_of s session ≡ Some o → o.kind ≡ IsLive d snapshot → target s (live_of o d snapshot) ≡ Some p
      → (r : Option Refusal) → first_witness s (live_of o d snapshot) p ≡ r → (w : Option ℕ) → waits s (live_of o d snapshot) p r ≡ w → Holds (asks session verbs.Commit) (commit_at s p w r)
  commit_at_case session o d snapshot p is kind t r e (Some k) w = cases.nothing (asks session verbs.Commit) (replies.Waiting k) refl
  commit_at_case session o d snapshot p is kind t (Some r) e None w = refused_case session p o r is
  commit_at_case session o d snapshot p is kind t None e None w = subst (P (asks session verbs.Commit) (replies.CommittedBefore s.epoch p)) (sym (before_changes session s.epoch p o (IsLive d snapshot) is kind))
      (cases.commits_before session o d snapshot p is kind t e w)

  commit_live_case : (session : ℕ) (o : Active) (d : Declaration) (snapshot : List Transaction) → active_of s session ≡ Some o → o.kind ≡ IsLive d snapshot → (t : Option ℕ) → target s (live_of o d snapshot) ≡ t
      → Holds (asks session verbs.Commit) (commit_live s (live_of o d snapshot) t)
  commit_live_case session o d snapshot is kind None t = subst (P (asks session verbs.Commit) (replies.Committed s.epoch)) (sym (commit_changes session s.epoch o (IsLive d snapshot) is kind)) (cases.commits_home session o d snapshot is kind t)
  commit_live_case session o d snapshot is kind (Some p) t =
      let r : Option Refusal = first_witness s (live_of o d snapshot) p in
      commit_at_case session o d snapshot p is kind t r refl (waits s (live_of o d snapshot) p r) refl

  commit_case : (session : ℕ) (f : Option Active) → active_of s session ≡ f → Holds (asks session verbs.Commit) (commit s f)
  commit_case session None is = cases.nothing (asks session verbs.Commit) replies.NoTx refl
  commit_case session (Some o) is = by_kind o.kind refl where
    by_kind : (k : Kind) → o.kind ≡ k → Holds (asks session verbs.Commit) (commit_in s k o)
    by_kind IsShort kind = short_commit_case session o is kind (held_table s (operations (transaction_of o))) refl (first_change (latest s) o.steps) refl
    by_kind (IsPending d) kind = cases.nothing (asks session verbs.Commit) (replies.NotYet d.from) refl
    by_kind (IsLive d snapshot) kind = commit_live_case session o d snapshot is kind (target s (live_of o d snapshot)) refl

  abort_case : (session : ℕ) (f : Option Active) → active_of s session ≡ f → Holds (asks session verbs.Abort) (abort f)
  abort_case session None is = cases.nothing (asks session verbs.Abort) replies.NoTx refl
  abort_case session (Some o) is = ends_case session verbs.Abort replies.Aborted o is refl

  verb_case : (session : ℕ) (verb : Verb) → Holds (asks session verb) (verb_reply s session verb)
  verb_case session verbs.Short = begin_short_case session (active_of s session) refl
  verb_case session (verbs.Long writes reads) = begin_long_case session writes reads (active_of s session) refl
  verb_case session (verbs.Do op) = operation_case session op (active_of s session) refl
  verb_case session verbs.Commit = commit_case session (active_of s session) refl
  verb_case session verbs.Abort = abort_case session (active_of s session) refl

  advance_case : (b : Bool) → Holds (lines.Good commands.Epoch) (advance s b)
  advance_case true = cases.nothing (lines.Good commands.Epoch) replies.LimitEpoch refl
  advance_case false = cases.advances

  flush_case : (a b : Bool) → Holds (lines.Good commands.Flush) (if a then replies.Durable s.durable else flush_within s b)
  flush_case true b = cases.flushes s.durable (inl refl)
  flush_case false true = cases.flushes (s.epoch - 1) (inr refl)
  flush_case false false = cases.nothing (lines.Good commands.Flush) replies.LimitLog refl

  flush_is : (a : Bool) → Holds (lines.Good commands.Flush) (flush s a)
  flush_is true = flush_case true true
  flush_is false = flush_case false (nat_le (s.gate + 10 + body_length (sealed s)) longest_log)

  command_case : (command : Command) → Holds (lines.Good command) (command_reply s command)
  command_case commands.Epoch = advance_case (s.epoch == last_epoch)
  command_case commands.Flush = flush_is (s.epoch - 1 == s.durable)
  command_case commands.Prune = cases.nothing (lines.Good commands.Prune) replies.Pruned refl
  command_case (commands.Ask session verb) = verb_case session verb

  answer_case : (line : Line) → Holds line (answer s line)
  unfolding answer
  answer_case (lines.Good command) = command_case command
  answer_case (lines.Bad cause) = cases.nothing (lines.Bad cause) (replies.Bad cause) refl

  pub staged_case : (built : State → Line → Bool) (line : Line) → P line (staged built s line) (reply_changes s line (staged built s line))
  staged_case built line = by_test (built s line) where
    by_test : (b : Bool) → Holds line (if b then answer s line else replies.Later)
    by_test true = answer_case line
    by_test false = cases.nothing line replies.Later refl

  -- it holds of each entry that a legal history may add
  pub entry_case : (built : State → Line → Bool) (entry : Entry) → entry.reply ≡ staged built s entry.line → P entry.line entry.reply (after s entry)
  entry_case built entry is = subst (P entry.line entry.reply) (sym (after-is s entry.line entry.reply))
      (subst (λ r. P entry.line r (reply_changes s entry.line r)) (sym is) (staged_case built entry.line))

-- what holds of a state, and of each state after an entry that a legal history may add, holds along legal histories
pub along : (built : State → Line → Bool) (Q : State → Type 0) → ((s : State) → Q s → Cases s (λ line reply s'. Q s')) → (s : State) (history : List Entry) → Q s → IsLegalFrom built s history → Q (state_from s history)
unfolding IsLegalFrom state_from
along built Q keeps s [] q legal = q
along built Q keeps s (entry ∷ entries) q legal = along built Q keeps (after s entry) entries (entry_case s (λ line reply s'. Q s') (keeps s q) built entry legal.0) legal.1
