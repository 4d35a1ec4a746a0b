-- What shorts spare: the tables that live batches preserve.
use Rattle.std.specs.Prelude.{◌≡◌, ℕ, true, false, List, [], ◌∷◌, ◌++◌, Some, Contains}
use Rattle.ltx_model.specs.declared.replies.Entry.{Entry}
use Rattle.ltx_model.specs.declared.replies.Reply.TheVariants as replies
use Rattle.ltx_model.specs.Operations.{Transaction, operations, touches}
use Rattle.ltx_model.specs.States.{IsShort, Active, transaction_of, Base, LiveBatch, live_batches}
use Rattle.ltx_model.specs.Histories.{state}
use Rattle.ltx_model.specs.Explained.{committed_by, opens_from}
use Rattle.ltx_model.specs.Shorts.{IsLeastHeld, holds}
use Rattle.ltx_top.specs.Built.{built}
use Rattle.ltx_laws.specs.Answered.{IsAnswered}
use Rattle.ltx_laws.specs.Printed.{IsPrintedShort}
use Rattle.ltx_laws.specs.Priority.{AsksCommit}

-- At each entry of a history: a short that it commits, by what is printed, touched no table that a live batch preserves then; and a
-- short that asks to commit and touched such a table is refused by name, with the least one and its least holder.
pub record SparesPreserved (base : Base) (history : List Entry) : Type 0 where
  pub untouched : (before later : List Entry) (entry : Entry) → history ≡ before ++ entry ∷ later
      → (t : Transaction) → committed_by (opens_from [] before) entry ≡ Some t → IsPrintedShort history t.number
      → (table : ℕ) → touches (operations t) table ≡ true
      → (b : LiveBatch) → Contains (live_batches (state base before)) b → holds table b ≡ false
  pub refused : (before later : List Entry) (entry : Entry) → history ≡ before ++ entry ∷ later
      → (o : Active) → AsksCommit (state base before) entry o → o.kind ≡ IsShort
      → (table n : ℕ) → IsLeastHeld (state base before) (operations (transaction_of o)) table n
      → IsAnswered built (state base before) entry (replies.Preserved table n)
