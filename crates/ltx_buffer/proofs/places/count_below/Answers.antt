use Rattle.std.proofs.Common.{rules}
use Rattle.std.proofs.lemmas.List.Sorted.{IsPartitionPoint-from_clause}
use Rattle.ltx_model.specs.Keys.{Cell}
use Rattle.ltx_buffer.specs.Places.{is_below}
use Rattle.ltx_buffer.proofs.Splits.{parted, split}
use Rattle.ltx_buffer.proofs.places.count_below.Goals as goal

-- the closure tells of each write whether its key is below this one
pub returns : goal.returns
returns c =
    let cell : Cell = record { table = c.args.table; key = c.args.key.now } in
    let point = IsPartitionPoint-from_clause (is_below cell) _ _ c.partition_point.ensures.partitioned (parted cell c.args.writes.now c.requires.rising) (λ a r q k. search rules) in
    split cell c.args.writes.now c.partition_point.result c.partition_point.ensures.bound point
