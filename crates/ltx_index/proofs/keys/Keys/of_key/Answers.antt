use Rattle.std.proofs.Common.{◌≡◌, ◌++◌, [], ◌∷◌, sym, ap, ◌∙◌, subst}
use Rattle.ltx_index.specs.Heads.{AreLow, head_of}
use Rattle.ltx_index.proofs.Heads.{headed_one}
use Rattle.ltx_index.proofs.keys.Keys.of_key.Goals as goal

pub invariant_of-result : goal.invariant_of-result
invariant_of-result c =
    rw (c.push_reserved-2.ensures.items, c.push_reserved.ensures.items, c.reserve.ensures.items, c.reserve-else-is_err.ensures.items, c.new-keys.ensures.items, c.new-heads.ensures.items) (headed_one c.args.key c.head-low.result (subst AreLow c.bytes.ensures.value c.head-low.ensures.low) (c.head-low.ensures.value ∙ ap head_of c.bytes.ensures.value))
