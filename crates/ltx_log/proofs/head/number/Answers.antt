use Rattle.std.proofs.Common.{arith}
use Rattle.ltx_log.proofs.Heads.{spelled}
use Rattle.ltx_log.proofs.head.number.Goals as goal

pub returns : goal.returns
returns c = record { spelled = spelled c.args.bytes.now _ c.requires.long (λ i. omega (arith, c.type_inv.bytes i)) c.read_u64.ensures }
