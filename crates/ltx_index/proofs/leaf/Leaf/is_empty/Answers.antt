use Rattle.std.proofs.Common.{arith}
use Rattle.std.proofs.lemmas.Bool.Decides.{nat_tests}
use Rattle.ltx_index.proofs.Places.{length_run}
use Rattle.ltx_index.proofs.leaf.Leaf.is_empty.Goals as goal

pub returns : goal.returns
returns g c =
    let size = length_run c.self.inside.keys c.self.inside.values.items c.self.invariant in
    rw (← c.self.view_is) (λ empty. grind (arith, nat_tests, size), λ none. grind (arith, nat_tests, size))
