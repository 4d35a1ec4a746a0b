use Rattle.ltx_forward.proofs.TableSets.{overtaken_told}
use Rattle.ltx_forward.proofs.wait.is_overtaken.Goals as goal

pub returns : goal.returns
returns c notes are = overtaken_told c.args.live.now.tx c.args.number c.args.live.now.writes c.args.looked_into notes are c.preserves.ensures.range c.preserves.result c.preserves.ensures.holds
