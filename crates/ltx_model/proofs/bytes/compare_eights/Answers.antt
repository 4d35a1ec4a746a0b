use Rattle.std.proofs.Common.{arith, ◌∙◌, ap₂, nat_cmp}
use Rattle.ltx_model.proofs.Words.{eights}
use Rattle.ltx_model.proofs.bytes.compare_eights.Goals as goal

pub returns : goal.returns
returns c = c.cmp.ensures ∙ ap₂ nat_cmp c.from_be_bytes.ensures c.from_be_bytes-2.ensures ∙ eights c.args.x.now c.args.y.now (omega arith) (omega arith) (λ i. omega (arith, c.fits-x)) (λ i. omega (arith, c.fits-y))
