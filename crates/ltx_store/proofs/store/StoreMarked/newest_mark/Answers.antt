use Rattle.std.proofs.Common.{◌≤◌, subst}
use Rattle.ltx_store.proofs.FromMarks.{latest_from}
use Rattle.ltx_store.proofs.store.StoreMarked.newest_mark.Goals as goal

pub returns : goal.returns
returns c = record { latest = λ mark le. latest_from _ _ _ c.self.invariant c.args.self.now c.self.view_is mark (subst (λ m. m ≤ mark) c.of_all.ensures le) }
