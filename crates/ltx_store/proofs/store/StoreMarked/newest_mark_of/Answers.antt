use Rattle.std.proofs.Common.{◌≤◌, subst}
use Rattle.ltx_store.proofs.FromMarks.{same_from}
use Rattle.ltx_store.proofs.store.StoreMarked.newest_mark_of.Goals as goal

pub returns : goal.returns
returns c = record { latest = λ mark le. same_from _ _ _ c.self.invariant c.args.self.now c.self.view_is c.args.table mark (subst (λ m. m ≤ mark) c.of_table.ensures le) }
