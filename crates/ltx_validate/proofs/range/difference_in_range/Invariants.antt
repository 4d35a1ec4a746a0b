use Rattle.std.proofs.Common.{option_map}
use Rattle.ltx_validate.specs.Turns.{IsOnWay, turns_left}
use Rattle.ltx_validate.proofs.range.difference_in_range.Given as goal

-- what was walked so far has the writers that it had
abbrev pub invariant-loop-turn : goal.invariant-loop-turn
invariant-loop-turn g l = IsOnWay (g.L.Latest.rows l.latest) l.table l.low l.high l.looks l.own l.left (option_map (λ r. (r.0.now, r.1)) l.row)

-- the looks and the rows that are left
abbrev pub decreases-loop-turn : goal.decreases-loop-turn
decreases-loop-turn g l = turns_left (g.L.Latest.rows l.latest) l.table l.left (option_map (λ r. (r.0.now, r.1)) l.row)
