use Rattle.std.proofs.Common.{◌≡◌, ◌∷◌, rules}
use Rattle.std.specs.declared.cmp.Ordering.TheVariants.{Less}
use Rattle.ltx_model.specs.Keys.{cell_cmp}
use Rattle.ltx_model.specs.Operations.{cell_of_write}
use Rattle.ltx_frame.proofs.OrderLemmas.{rising_on, rising_behind}
use Rattle.ltx_frame.proofs.bounds.are_rising.Goals as goal

pub loop-first-preserved : goal.loop-first-preserved
loop-first-preserved c =
    let rest = c.loop-first.rest.now in
    let behind = c.in-Some.behind.now in
    let more = c.in-Some-split_first.field-0-1.now in
    let first = c.in-Some.first.now in
    let second = c.in-Some-split_first.second.now in
    let is : rest ≡ first ∷ behind = search rules in
    let next : behind ≡ second ∷ more = search rules in
    let less : cell_cmp (cell_of_write first) (cell_of_write second) ≡ Less = search rules in
    record {
      up = λ rising. c.loop-first.invariant.up (rising_on rest behind more first second is next c.write.ensures less rising);
      down = λ rising. rising_behind rest behind first is (c.loop-first.invariant.down rising);
    }
