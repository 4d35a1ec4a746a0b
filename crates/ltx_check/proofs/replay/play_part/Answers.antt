use Rattle.std.proofs.Common.{◌∙◌, ap, refl, arith, get_or}
use Rattle.ltx_check.specs.Replays.{least_of}
use Rattle.ltx_check.proofs.Replaying.{playing_none, playing_more, playing_all}
use Rattle.ltx_check.proofs.replay.play_part.Goals as goal

pub loop-place-init : goal.loop-place-init
loop-place-init c = playing_none c.args.entries.now c.args.places.now c.args.rows.now

pub loop-place-preserved : goal.loop-place-preserved
loop-place-preserved c =
    playing_more c.args.entries.now c.args.places.now c.loop-place.place-index (get_or c.args.places.now c.loop-place.place-index 0) c.args.rows.now c.loop-place.rows c.play_entry.new.rows c.loop-place.first c.in_ok-same.same
    (omega (arith, c.loop-place-test.true)) refl c.loop-place.invariant c.in_ok-same.ensures.same c.in_ok-same.ensures.other c.in_ok-same.ensures.rows
    c.least-first.result (c.least-first.ensures ∙ ap (least_of c.loop-place.first) c.unless.ensures)

pub returns : goal.returns
returns c = playing_all c.args.entries.now c.args.places.now c.loop-place.place-index c.args.rows.now c.loop-place.rows c.loop-place.first (omega (arith, c.loop-place-test.false)) c.loop-place.invariant
