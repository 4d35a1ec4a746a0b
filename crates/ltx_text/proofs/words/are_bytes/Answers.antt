use Rattle.std.proofs.Common.{arith}
use Rattle.ltx_text.proofs.WordReadings.{are_bytes}
use Rattle.ltx_text.proofs.words.are_bytes.Goals as goal

pub returns : goal.returns
returns c = are_bytes c.args.bytes.now (λ i. omega (arith, c.type_inv.bytes i))
