use Rattle.std.proofs.Common.{[], ◌∙◌}
use Rattle.ltx_index.proofs.Places.{read_some}
use Rattle.ltx_index.proofs.Leaves.{leaves_split, pairs_split}
use Rattle.ltx_index.proofs.index.Index.make_room.Goals as goal

pub invariant_of-self-in-Some-split_full-2 : goal.invariant_of-self-in-Some-split_full-2
invariant_of-self-in-Some-split_full-2 g c =
    let leaves = c.self.inside.leaves.items in
    let leaf = read_some (λ x. x.now) leaves c.home-at.result [] c.get_mut.result c.in-Some.leaf (rw c.reserve.ensures.items at c.get_mut.ensures.item) c.in-Some.is in
    let within = (rw c.reserve.ensures.items at c.in-Some.ensures.item).3.0 in
    let halves = rw c.in-Ok-Some.field-0-is at c.in-Ok-Some.ensures in
    rw (c.insert_leaf.ensures, c.reserve.ensures.items) (leaves_split leaves c.self.invariant c.home-at.result c.split_full.new.self c.in-Ok-Some.upper within (leaf ∙ halves.halves) halves.filled.0 halves.filled.1)

pub returns-in-Ok-Some : goal.returns-in-Ok-Some
returns-in-Ok-Some g c =
    let leaves = c.self.inside.leaves.items in
    let leaf = read_some (λ x. x.now) leaves c.home-at.result [] c.get_mut.result c.in-Some.leaf (rw c.reserve.ensures.items at c.get_mut.ensures.item) c.in-Some.is in
    let within = (rw c.reserve.ensures.items at c.in-Some.ensures.item).3.0 in
    rw (← c.self.view_is, c.insert_leaf.ensures, c.reserve.ensures.items) (pairs_split leaves c.self.invariant c.home-at.result c.split_full.new.self c.in-Ok-Some.upper within (leaf ∙ (rw c.in-Ok-Some.field-0-is at c.in-Ok-Some.ensures).halves))
