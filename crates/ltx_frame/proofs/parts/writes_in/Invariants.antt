use Rattle.std.proofs.Common.{◌≡◌, ◌-◌}
use Rattle.ltx_frame.specs.Readings.{write_at, items_at}
use Rattle.ltx_frame.proofs.Loops.{with_front}
use Rattle.ltx_frame.proofs.parts.writes_in.Given as goal

abbrev pub invariant-loop : goal.invariant-loop
invariant-loop l = with_front l.writes.items (items_at write_at (l.count - l.counter) l.rest) ≡ items_at write_at l.count l.bytes
