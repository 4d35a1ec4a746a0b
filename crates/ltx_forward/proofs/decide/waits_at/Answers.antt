use Rattle.std.proofs.Common.{sym, ◌∙◌, ap}
use Rattle.ltx_forward.specs.Refusals.{waits_by}
use Rattle.ltx_forward.proofs.decide.waits_at.Goals as goal

pub returns-then-refused : goal.returns-then-refused
returns-then-refused c s i records asked = c.overtaken_live.ensures s i c.args.writes.now records c.args.agenda.now asked ∙ sym (ap (waits_by s i c.args.p) c.if-refused.true)

pub returns-else-refused : goal.returns-else-refused
returns-else-refused c s i records asked = c.elder_reader.ensures s i records asked ∙ sym (ap (waits_by s i c.args.p) c.if-refused.false)
