use Rattle.std.proofs.Common.{rules, arith}
use Rattle.ltx_model.proofs.TableSets.{least_is}
use Rattle.ltx_model.proofs.tables.TableSet.least.Goals as goal

pub returns-clause-least : goal.returns-clause-least
returns-clause-least c = let least = least_is c.self.inside.bits (omega (arith, c.if-self-eq0.false)) (omega arith) in search rules
