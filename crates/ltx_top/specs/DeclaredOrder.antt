-- Where batches and shorts stand in the serial order, by what is printed of them.
use Rattle.std.specs.Prelude.{◌≡◌, ℕ, ◌<◌, List, [], ◌∷◌, ◌++◌, Some, Contains}
use Rattle.ltx_model.specs.declared.replies.Entry.{Entry}
use Rattle.ltx_model.specs.declared.replies.Reply.TheVariants as replies
use Rattle.ltx_model.specs.Operations.{Transaction}
use Rattle.ltx_model.specs.Agenda.{Committed}
use Rattle.ltx_model.specs.States.{Active, Base, Declaration, IsLive, order}
use Rattle.ltx_model.specs.Histories.{state}
use Rattle.ltx_model.specs.Explained.{committed_by, committed_in, opens_from}
use Rattle.ltx_laws.specs.Commits.{IsCommitOf, IsHomeReply, StandsJustBefore}
use Rattle.ltx_laws.specs.Orders.{StandsBefore}
use Rattle.ltx_laws.specs.Printed.{IsPrintedBatch, IsPrintedBatchAt, IsPrintedBefore, IsPrintedCommitIn, IsPrintedShort}

-- Batches stand in the order of their numbers, except those printed as forwarded: of two committed batches against their numbers, the one
-- with the greater number is printed as committed before a target. At each entry of the history that commits, by what is printed: a
-- forwarded batch is placed immediately before its printed target; a batch that commits without a target stands after every
-- transaction whose commit was printed with an epoch below the one that the batch's begin printed, and so after every member of its
-- snapshot; and a short stands after everything that was committed before it.
pub record KeepsDeclaredOrder (base : Base) (history : List Entry) : Type 0 where
  pub against : (a b : ℕ) → IsPrintedBatch history a → IsPrintedBatch history b
      → a < b → StandsBefore (order (state base history)) b a → IsPrintedBefore history b
  pub forwarded : (before later : List Entry) (entry : Entry) → history ≡ before ++ entry ∷ later
      → (t : Transaction) → committed_by (opens_from [] before) entry ≡ Some t
      → (epoch target : ℕ) → entry.reply ≡ replies.CommittedBefore epoch target
      → StandsJustBefore (state base (before ++ entry ∷ [])).agenda (Committed t) target
  pub home : (before later : List Entry) (entry : Entry) → history ≡ before ++ entry ∷ later
      → (t : Transaction) → committed_by (opens_from [] before) entry ≡ Some t → IsHomeReply entry.reply
      → (first : ℕ) → IsPrintedBatchAt history t.number first
      → (u : Transaction) (epoch : ℕ) → IsPrintedCommitIn before u epoch → epoch < first
      → StandsBefore (order (state base history)) u.number t.number
  pub home_snapshot : (before later : List Entry) (entry : Entry) → history ≡ before ++ entry ∷ later
      → (o : Active) → IsCommitOf (state base before) entry o → IsHomeReply entry.reply
      → (d : Declaration) (snapshot : List Transaction) → o.kind ≡ IsLive d snapshot
      → (u : Transaction) → Contains snapshot u
      → StandsBefore (order (state base history)) u.number o.number
  pub short : (before later : List Entry) (entry : Entry) → history ≡ before ++ entry ∷ later
      → (t : Transaction) → committed_by (opens_from [] before) entry ≡ Some t → IsPrintedShort history t.number
      → (u : Transaction) → Contains (committed_in before) u
      → StandsBefore (order (state base history)) u.number t.number
