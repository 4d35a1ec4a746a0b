use Rattle.ltx_index.proofs.Places.{pair_run}
use Rattle.ltx_index.proofs.leaf.Leaf.of_pair.Goals as goal

pub invariant_of-result : goal.invariant_of-result
invariant_of-result g c =
    rw (c.in-Ok.ensures.keys, c.push_reserved.ensures.items, c.reserve.ensures.items, c.new-values.ensures.items) (pair_run c.args.key c.args.value)
