use Rattle.std.proofs.Common.{sym}
use Rattle.ltx_index.proofs.Places.{read_some, read_none}
use Rattle.ltx_index.proofs.head.byte.Goals as goal

pub returns-in-Some : goal.returns-in-Some
returns-in-Some c = sym (read_some (λ x. x.now) c.args.bytes.now c.args.at 0 c.get.result c.in-Some.byte c.get.ensures.lookup c.in-Some.is)

pub returns-in-None : goal.returns-in-None
returns-in-None c = sym (read_none (λ x. x.now) c.args.bytes.now c.args.at 0 c.get.result c.get.ensures.lookup c.in-None.is)
