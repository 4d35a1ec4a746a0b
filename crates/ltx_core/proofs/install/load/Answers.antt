use Rattle.std.proofs.Common.{◌≡◌, ◌∷◌, subst, rules}
use Rattle.ltx_core.proofs.Loaded.{IsLoading, one_loaded}
use Rattle.ltx_core.proofs.install.load.Goals as goal

pub loop-row-preserved : goal.loop-row-preserved
loop-row-preserved c =
    let left : c.loop-row.row-iterator.rest.items ≡ c.in-Some.row ∷ c.next.new.self.rest.items = search rules in
    one_loaded c.loop-row.store c.load.new.self c.args.rows c.in-Some.row c.next.new.self.rest.items
    (subst (IsLoading c.loop-row.store c.args.rows) left c.loop-row.invariant) c.in_ok-load.ensures.loaded

pub returns-clause-versions : goal.returns-clause-versions
returns-clause-versions c = c.loop-row.invariant.firsts
