use Rattle.std.proofs.Common.{◌≡◌, drop}
use Rattle.std.specs.List.{find}
use Rattle.std.specs.List.Sorted.{IsStrictlySortedBy}
use Rattle.ltx_model.specs.Keys.{key_cmp}
use Rattle.ltx_forward.specs.Lates.{stands_from, is_late_look}
use Rattle.ltx_forward.proofs.late.late_in_range.Given as goal

-- the looks so far are not late
abbrev pub invariant-loop-look : goal.invariant-loop-look
invariant-loop-look l =
    IsStrictlySortedBy key_cmp l.own → find (is_late_look (stands_from l.agenda.list l.p) l.own) l.looks ≡ find (is_late_look (stands_from l.agenda.list l.p) l.own) (drop l.look-index l.looks)
