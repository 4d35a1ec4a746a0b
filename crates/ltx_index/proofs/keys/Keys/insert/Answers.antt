use Rattle.std.proofs.Common.{◌≡◌, insert, refl, sym, ap, ◌∙◌, subst}
use Rattle.ltx_index.specs.Heads.{AreLow, head_of, low_of}
use Rattle.ltx_index.proofs.Heads.{headed_insert}
use Rattle.ltx_index.proofs.keys.Keys.insert.Goals as goal

pub invariant_of-self-2 : goal.invariant_of-self-2
invariant_of-self-2 c =
    let keys = c.self.inside.keys.items in
    let heads = c.self.inside.heads.items in
    let of_key : c.head-of_key.result ≡ head_of c.args.key = c.head-of_key.ensures.value ∙ ap head_of c.bytes.ensures.value in
    let bytes = subst AreLow c.bytes.ensures.value c.head-of_key.ensures.low in
    let more : c.put_reserved.new.items.items ≡ insert heads c.args.at (head_of c.args.key) = rw (c.put_reserved.ensures, c.reserve-else-is_err.ensures.items, of_key) refl in
    let keys_are : c.put_reserved-2.new.items.items ≡ insert keys c.args.at c.args.key = rw (c.put_reserved-2.ensures, c.reserve.ensures.items) refl in
    let first : c.low_of-self-inside.result ≡ low_of (insert heads c.args.at (head_of c.args.key)) = c.low_of-self-inside.ensures ∙ ap low_of (c.deref.ensures.value ∙ more) in
    rw (keys_are, more) (headed_insert keys heads c.self.inside.low c.self.invariant c.args.at c.args.key c.low_of-self-inside.result (rw (← c.self.view_is) at c.requires.gap) bytes first)
