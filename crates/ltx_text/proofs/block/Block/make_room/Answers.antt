use Rattle.std.proofs.Common.{◌∙◌, List, ℕ, ap, length, min}
use Rattle.ltx_text.specs.Block.{held}
use Rattle.ltx_text.proofs.BlockLemmas.{take-least}
use Rattle.ltx_text.proofs.block.Block.make_room.Goals as goal

pub returns-clause-held : goal.returns-clause-held
returns-clause-held c =
    let xs = held c.args.self.now in
    c.move_to_front.ensures.held ∙ c.keep.ensures ∙ take-least 4097 c.min-kept.result xs (c.min-kept.ensures ∙ ap (λ (t : List ℕ). min (length t) 4097) c.held.ensures.value)
