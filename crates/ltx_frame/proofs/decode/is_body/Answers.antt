use Rattle.std.proofs.Common.{arith}
use Rattle.ltx_frame.proofs.Bodies.{body_is}
use Rattle.ltx_frame.proofs.decode.is_body.Goals as goal

pub returns : goal.returns
returns c = λ f e. body_is c.args.body.now f (λ i. omega (arith, c.type_inv.body i)) e
