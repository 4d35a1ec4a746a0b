use Rattle.std.proofs.Common.{[], refl, sym, ap, ◌∙◌, slice_set}
use borrow.Follows.Closed.{read_of}
use Rattle.std.specs.Option.{ghost_name_of}
use Rattle.std.proofs.lemmas.List.{set-get_or}
use Rattle.ltx_index.specs.Pairs.{value_at, with_value}
use Rattle.ltx_index.specs.Leaves.{pairs_of}
use Rattle.ltx_index.proofs.Places.{read_some, read_none}
use Rattle.ltx_index.proofs.Leaves.{value_at-home, with_value-home, leaves-with_value, leaves_same}
use Rattle.ltx_index.proofs.index.Index.get_mut.Goals as goal

pub invariant_of-self-lent : goal.invariant_of-self-lent
invariant_of-self-lent g c lent =
    let leaves = c.self.inside.leaves.items in
    let home = rw (c.deref.ensures.value, c.bytes.ensures.value) at c.home-at.ensures in
    let leaf = read_some (λ x. x.now) leaves c.home-at.result [] c.get_mut.result c.in-Some.leaf c.get_mut.ensures.item c.in-Some.is in
    rw (← leaf) ((λ w. leaves-with_value leaves c.self.invariant c.args.key.now c.home-at.result home w), leaves_same leaves c.self.invariant c.home-at.result)

pub returns-in-Some : goal.returns-in-Some
returns-in-Some g c =
    let leaves = c.self.inside.leaves.items in
    let key = c.args.key.now in
    let at = c.home-at.result in
    let home = rw (c.deref.ensures.value, c.bytes.ensures.value) at c.home-at.ensures in
    let leaf = read_some (λ x. x.now) leaves at [] c.get_mut.result c.in-Some.leaf c.get_mut.ensures.item c.in-Some.is in
    let lent = λ (w : g.row.V.Denot). ap (λ leaf. pairs_of (slice_set leaves at (with_value leaf key w))) (sym leaf) ∙ sym (with_value-home key w leaves at home) in
    let kept = ap (λ leaf. pairs_of (slice_set leaves at leaf)) (sym leaf) ∙ ap pairs_of (set-get_or leaves at []) in
    rw (← c.self.view_is) (
      λ t. read_of (ghost_name_of c.get_mut-in-Some.result) (λ (w : g.row.V.Denot). lent w t) (kept t),
      record {
        lends = tt;
        value = c.get_mut-in-Some.ensures.value ∙ ap (λ leaf. value_at leaf key) (sym leaf) ∙ sym (value_at-home key leaves at home);
        in_order = c.self.invariant.in_order;
      },
    )

pub returns-in-None : goal.returns-in-None
returns-in-None g c =
    let leaves = c.self.inside.leaves.items in
    let home = rw (c.deref.ensures.value, c.bytes.ensures.value) at c.home-at.ensures in
    let none = read_none (λ x. x.now) leaves c.home-at.result [] c.get_mut.result c.get_mut.ensures.item c.in-None.is in
    rw (← c.self.view_is) (
      refl,
      record {
        lends = tt;
        value = sym (value_at-home c.args.key.now leaves c.home-at.result home ∙ ap (λ leaf. value_at leaf c.args.key.now) none);
        in_order = c.self.invariant.in_order;
      },
    )
