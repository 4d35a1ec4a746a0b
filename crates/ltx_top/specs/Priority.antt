-- The priority of batches.
use Rattle.std.specs.Prelude.{◌≡◌, ℕ, List, ◌∷◌, ◌++◌}
use Rattle.ltx_model.specs.declared.replies.Entry.{Entry}
use Rattle.ltx_model.specs.Operations.{Transaction}
use Rattle.ltx_model.specs.States.{Active, Base, Declaration, IsLive}
use Rattle.ltx_model.specs.Histories.{state}
use Rattle.ltx_model.specs.Batches.{Overtakes}
use Rattle.ltx_top.specs.Built.{built}
use Rattle.ltx_laws.specs.Priority.{AsksCommit, IsCommittedAtHome, WasLeast, batch_of}

-- At each entry of a history that asks to commit a live batch: one that overtakes nobody, and one that was the least live batch when it
-- became live, is committed at its own place; so it is not refused, does not wait and is not forwarded.
pub record GivesPriority (base : Base) (history : List Entry) : Type 0 where
  pub unhindered : (before later : List Entry) (entry : Entry) → history ≡ before ++ entry ∷ later
      → (o : Active) (d : Declaration) (snapshot : List Transaction) → AsksCommit (state base before) entry o → o.kind ≡ IsLive d snapshot
      → ((j : ℕ) → Overtakes (state base before) (batch_of o d snapshot) j → ⊥)
      → IsCommittedAtHome built (state base before) entry
  pub least : (before later : List Entry) (entry : Entry) → history ≡ before ++ entry ∷ later
      → (o : Active) (d : Declaration) (snapshot : List Transaction) → AsksCommit (state base before) entry o → o.kind ≡ IsLive d snapshot
      → WasLeast base before o.number
      → IsCommittedAtHome built (state base before) entry
