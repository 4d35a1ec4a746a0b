use Rattle.std.proofs.Common.{sym, subst, ap, ◌∙◌, take, rules}
use Rattle.std.proofs.lemmas.List.{take_rest}
use Rattle.ltx_model.specs.Keys.{IsRising}
use Rattle.ltx_model.specs.Operations.{cell_of_write}
use Rattle.ltx_buffer.specs.Places.{IsSplitAt, end_of}
use Rattle.ltx_buffer.proofs.Splits.{between_is, rising_rest}
use Rattle.ltx_buffer.proofs.places.writes_between.Goals as goal

pub count_to_end-requires : goal.count_to_end-requires
count_to_end-requires c = record { rising = subst (IsRising cell_of_write) (sym (take_rest c.args.writes.now _)) (rising_rest _ c.args.writes.now _ c.requires.rising c.count_below.ensures) }

pub returns : goal.returns
returns c =
    let writes = c.args.writes.now in
    let rest = take_rest writes c.count_below.result in
    let first : IsSplitAt (record { table = c.args.table; key = c.args.low.now }) writes c.count_below.result = search rules in
    let second = subst (λ ws. IsSplitAt (end_of c.args.table c.args.high.now) ws c.count_to_end.result) rest c.count_to_end.ensures in
    ap (take c.count_to_end.result) rest ∙ between_is c.args.table c.args.low.now c.args.high.now writes c.count_below.result c.count_to_end.result first second
