use Rattle.std.proofs.Common.{◌≡◌, ◌+◌, take}
use Rattle.ltx_agenda.specs.Lanes.{total}
use Rattle.ltx_agenda.proofs.flat.lengthen.Given as goal

abbrev pub invariant-loop-lane : goal.invariant-loop-lane
invariant-loop-lane l = record {
  lens : l.lens ≡ l.fn.lens;
  left : l.place ≡ total (take l.lane l.fn.lens) + l.left;
}
