use Rattle.std.proofs.Common.{rules, ◌∙◌, sym}
use Rattle.ltx_validate.proofs.Points.{row_past}
use Rattle.ltx_validate.proofs.range.next_row.Goals.{in_default-via-in-Some+else-is_below, in_default-via-in_default}
use Rattle.ltx_validate.proofs.range.next_row.Goals as goal

pub returns-in_default : goal.returns-in_default
returns-in_default g c = elim c.in_default.branch [
  | in_default-via-in-Some+else-is_below w ↦ row_past (g.L.Latest.rows c.args.latest.now) c.args.table c.args.high.now c.args.from.now c.args.strict w.in-Some.key.now w.in-Some.writer (search rules) (sym w.is_below.ensures ∙ w.if-is_below.false)
  | in_default-via-in_default w ↦ λ key reached below. search rules
]
