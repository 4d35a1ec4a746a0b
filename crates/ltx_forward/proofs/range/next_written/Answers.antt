use Rattle.std.proofs.Common.{rules, ◌∙◌, sym}
use Rattle.ltx_forward.proofs.WrittenWay.{past_end}
use Rattle.ltx_forward.proofs.range.next_written.Goals.{in_default-via-in-Some+else-is_below, in_default-via-in_default}
use Rattle.ltx_forward.proofs.range.next_written.Goals as goal

pub returns-in_default : goal.returns-in_default
returns-in_default c = elim c.in_default.branch [
  | in_default-via-in-Some+else-is_below w ↦ past_end c.args.records.now c.args.table c.args.high.now c.args.from.now c.args.strict w.in-Some.key.now (search rules) (sym w.is_below.ensures ∙ w.if-is_below.false)
  | in_default-via-in_default w ↦ λ key reached below written. search rules
]
