use Rattle.std.proofs.Common.{ap, sym, ◌∙◌, set}
use Rattle.ltx_model.specs.Holders.{live_from_now}
use Rattle.ltx_preserve.proofs.Mapped.{one_more_mapped, all_mapped}
use Rattle.ltx_preserve.proofs.preserve.make_live.Goals as goal

pub loop-batch-preserved : goal.loop-batch-preserved
loop-batch-preserved c =
    ap (λ h. set c.loop-batch.entered c.loop-batch.batch-index h) (c.go_live.ensures ∙ ap live_from_now (sym c.batch-item.is))
    ∙ one_more_mapped live_from_now c.args.entered.now c.loop-batch.entered c.loop-batch.batch-index c.batch-item.result c.loop-batch-test.true c.loop-batch.invariant c.batch-item.is

pub returns : goal.returns
returns c = c.loop-batch.invariant ∙ all_mapped live_from_now c.args.entered.now c.loop-batch.batch-index c.loop-batch-test.false
