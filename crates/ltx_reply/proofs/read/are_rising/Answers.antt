use Rattle.std.proofs.Common.{◌≡◌, ◌∷◌, rules}
use Rattle.std.specs.declared.cmp.Ordering.TheVariants.{Less}
use Rattle.ltx_model.specs.Keys.{key_cmp}
use Rattle.ltx_reply.proofs.Rising.{rise_on, rest_rises}
use Rattle.ltx_reply.proofs.read.are_rising.Goals as goal

pub loop-first-preserved : goal.loop-first-preserved
loop-first-preserved c =
    let rest = c.loop-first.rest.now in
    let behind = c.in-Some.behind.now in
    let more = c.in-Some-split_first.field-0-1.now in
    let first = c.in-Some.first.now in
    let second = c.in-Some-split_first.second.now in
    let is : rest ≡ first ∷ behind = search rules in
    let next : behind ≡ second ∷ more = search rules in
    let less : key_cmp first.key second.key ≡ Less = search rules in
    record {
      up = λ rising. c.loop-first.invariant.up (rise_on rest behind more first second is next less rising);
      down = λ rising. rest_rises rest behind first is (c.loop-first.invariant.down rising);
    }
