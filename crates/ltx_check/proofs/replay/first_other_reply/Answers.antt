use Rattle.std.proofs.Common.{◌≡◌, ◌∙◌, [], arith, take, subst}
use Rattle.std.proofs.lemmas.Grind.{common_steps}
use Rattle.ltx_check.specs.Replays.{Finds, RunPlays, RunDiffers}
use Rattle.ltx_check.proofs.Placed.{take_more}
use Rattle.ltx_check.proofs.Gathering.{told_stand}
use Rattle.ltx_check.proofs.Replaying.{replayed_none, replayed_more}
use Rattle.ltx_check.proofs.replay.first_other_reply.Goals as goal

pub loop-tx-init : goal.loop-tx-init
loop-tx-init c = replayed_none c.args.entries.now c.args.order.now c.in_ok-rows.rows c.in_ok-rows.ensures

pub loop-tx-preserved : goal.loop-tx-preserved
loop-tx-preserved c =
    let n = c.tx-item.result in
    replayed_more c.args.entries.now c.args.order.now c.loop-tx.tx-index n c.loop-tx.rows c.play_part.new.rows c.loop-tx.first c.in_ok-found.found
    (take_more c.args.order.now c.loop-tx.tx-index n (omega (arith, c.loop-tx-test.true)) c.tx-item.is) (told_stand c.args.entries.now n) c.loop-tx.invariant
    c.places_of.result.now (c.places_of.ensures ∙ c.in_ok-parts.ensures n) c.in_ok-found.ensures c.least-first.result c.least-first.ensures

pub returns : goal.returns
returns c =
    let all : take c.loop-tx.tx-index c.args.order.now ≡ c.args.order.now = grind (arith, common_steps) in
    subst (λ l. Finds (RunPlays c.args.entries.now [] l) (RunDiffers c.args.entries.now [] l) c.loop-tx.first) all c.loop-tx.invariant.finds
