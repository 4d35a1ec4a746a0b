use Rattle.std.proofs.Common.{ℕ, arith}
use Rattle.std.proofs.lemmas.List.{length-take, length-drop}
use Rattle.ltx_text.proofs.BlockLemmas.{part_skipped}
use Rattle.ltx_text.proofs.block.Block.skip.Goals as goal

pub returns : goal.returns
returns c =
    let b = c.args.self.now in
    part_skipped b.bytes.items b.start b.end c.args.count (omega (arith, length-take {A = ℕ}, length-drop {A = ℕ}))
