use Rattle.std.proofs.Common.{◌≡◌, take, drop, rules, sym, ap, ◌∙◌}
use Rattle.ltx_index.specs.Heads.{low_of}
use Rattle.ltx_index.proofs.Heads.{headed_take, headed_drop}
use Rattle.ltx_index.proofs.keys.Keys.split_off.Goals as goal

pub invariant_of-result : goal.invariant_of-result
invariant_of-result c =
    let keys = c.self.inside.keys.items in
    let heads = c.self.inside.heads.items in
    let upper_keys : c.in_ok-keys.keys.items ≡ drop c.args.at keys = search rules in
    let upper_heads : c.in-Ok.heads.items ≡ drop c.args.at heads = search rules in
    rw (upper_keys, upper_heads) (headed_drop keys heads c.self.inside.low c.self.invariant c.args.at c.low_of.result (c.low_of.ensures ∙ ap low_of (c.deref-in-Ok.ensures.value ∙ upper_heads)))

pub invariant_of-self-in-Ok : goal.invariant_of-self-in-Ok
invariant_of-self-in-Ok c =
    let keys = c.self.inside.keys.items in
    let heads = c.self.inside.heads.items in
    let lower_keys : c.split_off.new.self.items ≡ take c.args.at keys = search rules in
    let lower_heads : c.split_off-2.new.self.items ≡ take c.args.at heads = search rules in
    rw (lower_keys, lower_heads) (headed_take keys heads c.self.inside.low c.self.invariant c.args.at c.low_of-self-inside.result (c.low_of-self-inside.ensures ∙ ap low_of (c.deref.ensures.value ∙ lower_heads)))
