use Rattle.std.proofs.Common.{ltb, rules}
use Rattle.std.proofs.lemmas.List.Sorted.{IsPartitionPoint-from_clause, IsPartitionedBy-ltb}
use Rattle.ltx_reads.proofs.Found.{rises, found_at}
use Rattle.ltx_reads.proofs.kept.count_below.Goals as goal

-- the binary search finds where stamps below this one end
pub returns : goal.returns
returns c =
    let parted = IsPartitionedBy-ltb (λ e. e.stamp) _ c.args.stamp (rises _ c.requires) in
    let point = IsPartitionPoint-from_clause (λ e. ltb e.stamp c.args.stamp) _ _ c.partition_point.ensures.partitioned parted (λ a r q k. search rules) in
    found_at c.args.kept.now c.args.stamp c.partition_point.result c.partition_point.ensures.bound c.requires point.0 point.1
