use Rattle.std.proofs.Common.{option_map}
use Rattle.ltx_forward.proofs.WrittenWay.{IsOnWay, writes_left}
use Rattle.ltx_forward.proofs.range.earliest_in_range.Given as goal

-- those who wrote the keys so far were looked at
abbrev pub invariant-loop-next : goal.invariant-loop-next
invariant-loop-next l = IsOnWay l.records l.agenda.list l.looking.tx l.looking.mark l.looking.after l.table l.low l.high l.own (option_map (λ key. key.now) l.next) l.fn.best l.found

-- the writes of the keys that are left
abbrev pub decreases-loop-next : goal.decreases-loop-next
decreases-loop-next l = writes_left l.records (option_map (λ key. key.now) l.next)
