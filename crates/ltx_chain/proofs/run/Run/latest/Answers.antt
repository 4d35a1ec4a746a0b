use Rattle.std.proofs.Common.{ap}
use Rattle.ltx_chain.specs.Versions.{Versions}
use Rattle.ltx_chain.proofs.Runs.{newest_is}
use Rattle.ltx_chain.proofs.run.Run.latest.Goals as goal

pub returns-clause-last : goal.returns-clause-last
returns-clause-last c =
    let same = ap (λ (v : Versions). v.items) c.self.view_is in
    let is = newest_is c.self.inside.older.items c.self.inside.newest c.self.invariant in
    cc
