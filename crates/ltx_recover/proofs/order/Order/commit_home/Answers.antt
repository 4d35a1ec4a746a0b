use Rattle.std.proofs.Common.{true, refl}
use Rattle.ltx_recover.proofs.Numbers.{standing, home_kept, home_view}
use Rattle.ltx_recover.proofs.order.Order.commit_home.Goals as goal

pub invariant_of-self : goal.invariant_of-self
invariant_of-self c = home_kept c.put.result _ _ _ c.args.tx _ c.self.invariant (standing _ _ _ c.args.tx true c.self.view_is c.requires) c.put.ensures.here c.put.ensures.others c.put.ensures.err

pub returns-clause-ok : goal.returns-clause-ok
returns-clause-ok c = home_view c.put.result _ _ _ _ c.args.tx _ c.args.writes.now refl c.self.view_is c.put.ensures.here c.put.ensures.others
