use Rattle.std.proofs.Common.{◌≡◌, remove, sym, ap, ◌∙◌}
use Rattle.ltx_index.specs.Heads.{low_of}
use Rattle.ltx_index.proofs.Heads.{headed_remove}
use Rattle.ltx_index.proofs.keys.Keys.remove.Goals as goal

pub invariant_of-self : goal.invariant_of-self
invariant_of-self c =
    let heads = c.self.inside.heads.items in
    rw (c.remove.ensures.items, c.remove-self-inside.ensures.items) (headed_remove c.self.inside.keys.items heads c.self.inside.low c.self.invariant c.args.at c.low_of-self-inside.result (c.low_of-self-inside.ensures ∙ ap low_of (c.deref.ensures.value ∙ c.remove-self-inside.ensures.items)))
