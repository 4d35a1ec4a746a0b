use Rattle.std.proofs.Common.{◌≡◌, ◌+◌, take}
use Rattle.ltx_agenda.specs.Lanes.{total}
use Rattle.ltx_agenda.proofs.flat.spot_of.Given as goal

abbrev pub invariant-loop-lane : goal.invariant-loop-lane
invariant-loop-lane l = l.place ≡ total (take l.lane l.lens) + l.left
