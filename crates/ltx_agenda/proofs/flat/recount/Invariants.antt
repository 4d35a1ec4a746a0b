use Rattle.std.proofs.Common.{◌≡◌, take}
use Rattle.ltx_agenda.specs.Lanes.{total}
use Rattle.ltx_agenda.proofs.Walks.{kept_to}
use Rattle.ltx_agenda.proofs.flat.recount.Given as goal

abbrev pub invariant-loop-lane : goal.invariant-loop-lane
invariant-loop-lane l = record {
  lens : l.lens ≡ kept_to l.lane l.flat l.fn.lens l.tx;
  from : l.from ≡ total (take l.lane l.fn.lens);
}
