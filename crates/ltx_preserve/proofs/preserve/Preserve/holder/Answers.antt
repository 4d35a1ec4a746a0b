use Rattle.ltx_preserve.proofs.Holding.{told}
use Rattle.ltx_preserve.proofs.preserve.Preserve.holder.Goals as goal

pub returns : goal.returns
returns c = told c.args.table c.args.self.now c.kept.result c.kept.ensures
