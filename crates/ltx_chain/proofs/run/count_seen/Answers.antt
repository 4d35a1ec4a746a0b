use Rattle.std.proofs.Common.{◌≡◌, leb, take, filter, ap, ◌∙◌, sym, rules, length, length-take-le}
use Rattle.std.proofs.lemmas.List.Sorted.{IsPartitionPoint-from_clause, IsPartitionedBy-leb}
use Rattle.ltx_chain.specs.Versions.{is_at_most}
use Rattle.ltx_chain.proofs.Seen.{rises, take-filter}
use Rattle.ltx_chain.proofs.run.count_seen.Goals as goal

-- the binary search finds where the versions of at most the mark end
seen : (c : goal.After-partition_point) → take c.partition_point.result c.args.versions.now ≡ filter (is_at_most c.args.mark) c.args.versions.now
seen c =
    let parted = IsPartitionedBy-leb (λ v. v.mark) _ c.args.mark (rises _ c.requires) in
    let point = IsPartitionPoint-from_clause (λ v. leb v.mark c.args.mark) _ _ c.partition_point.ensures.partitioned parted (λ a r q k. search rules) in
    take-filter _ _ _ c.partition_point.ensures.bound point.0 point.1

pub returns : goal.returns
returns c = record {
  count = sym (length-take-le _ _ c.partition_point.ensures.bound) ∙ ap length (seen c);
  seen = seen c;
}
