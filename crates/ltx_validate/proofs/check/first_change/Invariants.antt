use Rattle.std.proofs.Common.{◌≡◌, ◌≤◌, drop, length}
use Rattle.ltx_validate.proofs.Outcomes.{ArePassed}
use Rattle.ltx_validate.proofs.check.first_change.Given as goal

-- the notes so far have passed, and the marks of the others are to come
abbrev pub invariant-loop-mark : goal.invariant-loop-mark
invariant-loop-mark g l = record {
  left : l.marks ≡ drop l.place l.fn.tx.marks;
  within : l.place ≤ length l.fn.tx.notes;
  passed : ArePassed (λ mark. g.L.Marked.rows_at mark l.latest) (g.L.Latest.rows l.latest) l.place l.notes l.fn.tx.marks;
}

-- the marks that are left
abbrev pub decreases-loop-mark : goal.decreases-loop-mark
decreases-loop-mark g l = length l.marks
