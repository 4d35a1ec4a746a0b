use Rattle.std.proofs.Common.{[], sym, ap, ◌∙◌, slice_set}
use Rattle.std.specs.List.{remove}
use Rattle.ltx_index.specs.Pairs.{value_at}
use Rattle.ltx_index.proofs.Places.{read_some, read_none}
use Rattle.ltx_index.proofs.Leaves.{some_left, value_at-home, taken, taken_nowhere, taken_last, in_order-now, leaves_taken, leaves_taken_last}
use Rattle.ltx_index.proofs.index.Index.remove.Goals as goal

-- there is no leaf
pub returns-in_err-leaf : goal.returns-in_err-leaf
returns-in_err-leaf g c =
    let leaves = c.self.inside.leaves.items in
    let home = rw (c.deref.ensures.value, c.bytes.ensures.value) at c.home-at.ensures in
    let none = read_none (λ x. x.now) leaves c.home-at.result [] c.get_mut.result c.get_mut.ensures.item c.in_err-leaf.was in
    rw (← c.self.view_is, c.from_residual.ensures) record {
      value = sym (value_at-home c.args.key.now leaves c.home-at.result home ∙ ap (λ leaf. value_at leaf c.args.key.now) none);
      taken = taken_nowhere leaves c.self.invariant c.args.key.now c.home-at.result home none;
      in_order = c.self.invariant.in_order;
    }

-- the leaf has no such key
pub returns-in_err-value : goal.returns-in_err-value
returns-in_err-value g c =
    let leaves = c.self.inside.leaves.items in
    let home = rw (c.deref.ensures.value, c.bytes.ensures.value) at c.home-at.ensures in
    let leaf = read_some (λ x. x.now) leaves c.home-at.result [] c.get_mut.result c.in_ok-leaf.leaf c.get_mut.ensures.item c.in_ok-leaf.was in
    let out = taken leaves c.self.invariant c.args.key.now c.home-at.result home c.in_ok-leaf.leaf.now c.remove.new.self leaf c.remove.ensures.taken in
    rw (← c.self.view_is, c.from_residual-in_err-value.ensures) record {
      value = c.in_err-value.ensures.value ∙ ap (λ leaf. value_at leaf c.args.key.now) (sym leaf) ∙ sym (value_at-home c.args.key.now leaves c.home-at.result home);
      taken = out;
      in_order = in_order-now leaves c.self.invariant c.args.key.now c.home-at.result home (slice_set leaves c.home-at.result c.remove.new.self) out;
    }

-- the leaf keeps others
pub invariant_of-self-then-not-is_empty : goal.invariant_of-self-then-not-is_empty
invariant_of-self-then-not-is_empty g c =
    let leaves = c.self.inside.leaves.items in
    let home = rw (c.deref.ensures.value, c.bytes.ensures.value) at c.home-at.ensures in
    let leaf = read_some (λ x. x.now) leaves c.home-at.result [] c.get_mut.result c.in_ok-leaf.leaf c.get_mut.ensures.item c.in_ok-leaf.was in
    leaves_taken leaves c.self.invariant c.args.key.now c.home-at.result home c.in_ok-leaf.leaf.now c.remove.new.self leaf c.remove.ensures.taken (some_left c.remove.new.self c.is_empty.result c.is_empty.ensures.1 c.if-not-is_empty.true)

pub returns-then-not-is_empty : goal.returns-then-not-is_empty
returns-then-not-is_empty g c =
    let leaves = c.self.inside.leaves.items in
    let home = rw (c.deref.ensures.value, c.bytes.ensures.value) at c.home-at.ensures in
    let leaf = read_some (λ x. x.now) leaves c.home-at.result [] c.get_mut.result c.in_ok-leaf.leaf c.get_mut.ensures.item c.in_ok-leaf.was in
    let out = taken leaves c.self.invariant c.args.key.now c.home-at.result home c.in_ok-leaf.leaf.now c.remove.new.self leaf c.remove.ensures.taken in
    rw (← c.self.view_is) record {
      value = c.in_ok-value.ensures.value ∙ ap (λ leaf. value_at leaf c.args.key.now) (sym leaf) ∙ sym (value_at-home c.args.key.now leaves c.home-at.result home);
      taken = out;
      in_order = in_order-now leaves c.self.invariant c.args.key.now c.home-at.result home (slice_set leaves c.home-at.result c.remove.new.self) out;
    }

-- that was its last pair
pub invariant_of-self-2 : goal.invariant_of-self-2
invariant_of-self-2 g c =
    let leaves = c.self.inside.leaves.items in
    let home = rw (c.deref.ensures.value, c.bytes.ensures.value) at c.home-at.ensures in
    let leaf = read_some (λ x. x.now) leaves c.home-at.result [] c.get_mut.result c.in_ok-leaf.leaf c.get_mut.ensures.item c.in_ok-leaf.was in
    let within = c.in_ok-leaf.ensures.item.3.0 in
    rw c.remove-2.ensures.items (leaves_taken_last leaves c.self.invariant c.args.key.now c.home-at.result home c.in_ok-leaf.leaf.now c.remove.new.self within leaf c.remove.ensures.taken (c.is_empty.ensures.0 c.if-not-is_empty.false))

pub returns : goal.returns
returns g c =
    let leaves = c.self.inside.leaves.items in
    let home = rw (c.deref.ensures.value, c.bytes.ensures.value) at c.home-at.ensures in
    let leaf = read_some (λ x. x.now) leaves c.home-at.result [] c.get_mut.result c.in_ok-leaf.leaf c.get_mut.ensures.item c.in_ok-leaf.was in
    let within = c.in_ok-leaf.ensures.item.3.0 in
    let out = taken_last leaves c.self.invariant c.args.key.now c.home-at.result home c.in_ok-leaf.leaf.now c.remove.new.self within leaf c.remove.ensures.taken (c.is_empty.ensures.0 c.if-not-is_empty.false) in
    rw (← c.self.view_is, c.remove-2.ensures.items) record {
      value = c.in_ok-value.ensures.value ∙ ap (λ leaf. value_at leaf c.args.key.now) (sym leaf) ∙ sym (value_at-home c.args.key.now leaves c.home-at.result home);
      taken = out;
      in_order = in_order-now leaves c.self.invariant c.args.key.now c.home-at.result home (remove (slice_set leaves c.home-at.result c.remove.new.self) c.home-at.result) out;
    }
