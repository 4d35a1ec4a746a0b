use Rattle.ltx_check.proofs.Replaying.{IsPlaying}
use Rattle.ltx_check.proofs.replay.play_part.Given as goal

abbrev pub invariant-loop-place : goal.invariant-loop-place
invariant-loop-place l = IsPlaying l.entries l.places l.place-index l.fn.rows l.rows l.first
