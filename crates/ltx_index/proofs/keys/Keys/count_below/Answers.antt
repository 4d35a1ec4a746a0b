use Rattle.std.proofs.Common.{rules, ◌∙◌, sym, arith, subst, ◌≤◌, length}
use Rattle.std.proofs.Math.Dec.{ltb}
use Rattle.std.proofs.lemmas.List.Sorted.{IsPartitionPoint-from_clause}
use Rattle.ltx_index.proofs.Heads.{heads_parted, below_heads}
use Rattle.ltx_index.proofs.keys.Keys.count_below.Goals as goal

-- the binary search finds where lesser heads end
pub returns-clause-below : goal.returns-clause-below
returns-clause-below c =
    let keys = c.self.inside.keys.items in
    let heads = c.self.inside.heads.items in
    let parted = heads_parted keys heads c.self.inside.low c.self.invariant c.head-of_from.result in
    let point = IsPartitionPoint-from_clause (λ h. ltb h c.head-of_from.result) heads c.partition_point.result (rw c.deref.ensures.value at c.partition_point.ensures.partitioned) parted (λ a r q k. search rules) in
    rw (← c.self.view_is) (below_heads keys heads c.self.inside.low c.self.invariant c.args.from.now c.head-of_from.result c.partition_point.result c.head-of_from.ensures.low c.head-of_from.ensures.value point)
