use Rattle.std.proofs.Common.{◌≡◌, ◌+◌, drop, length}
use Rattle.ltx_model.specs.Listings.{without}
use Rattle.ltx_agenda.proofs.flat.left_of.Given as goal

abbrev pub invariant-loop-member : goal.invariant-loop-member
invariant-loop-member l = l.left + length (without (drop l.member-index l.part) l.tx) ≡ length (without l.part l.tx)
