use Rattle.std.proofs.Common.{◌≡◌, ◌++◌, map, option_map, take, drop}
use Rattle.ltx_open.specs.Views.{gone_live}
use Rattle.ltx_open.proofs.opens.Opens.go_live.Given as goal

-- the slots so far are changed, and the others are as before
abbrev pub invariant-loop-slot : goal.invariant-loop-slot
invariant-loop-slot l = l.slot-items ≡ map (option_map (gone_live l.mark)) (take l.slot-index l.initial.slot-items) ++ drop l.slot-index l.initial.slot-items
