use Rattle.std.proofs.Common.{refl, sym}
use borrow.Follows.Closed.{read_of}
use Rattle.std.specs.Option.{ghost_name_of}
use Rattle.std.specs.List.{zip}
use Rattle.ltx_index.proofs.Places.{value_at-lent, value_at-gap, with_value-found, in_order_pairs}
use Rattle.ltx_index.proofs.leaf.Leaf.get_mut.Goals as goal

pub returns-in-Ok : goal.returns-in-Ok
returns-in-Ok g c =
    let keys = c.self.inside.keys in
    let values = c.self.inside.values.items in
    let found = c.in-Ok.ensures.found in
    rw (← c.self.view_is) (
      λ t. read_of (ghost_name_of c.get_mut.result) (λ (w : g.row.V.Denot). sym (with_value-found c.args.key.now keys values c.in-Ok.at w found) t) (zip keys values),
      record {
        lends = tt;
        value = value_at-lent keys values c.self.invariant (λ x. x.now) c.args.key.now c.in-Ok.at c.get_mut.result found c.get_mut.ensures.item;
        in_order = in_order_pairs keys values c.self.invariant;
      },
    )

pub returns-in-Err : goal.returns-in-Err
returns-in-Err g c =
    let keys = c.self.inside.keys in
    let values = c.self.inside.values.items in
    let gap = c.in-Err.ensures.absent in
    rw (← c.self.view_is) (
      refl,
      record {
        lends = tt;
        value = sym (value_at-gap c.args.key.now keys values c.in-Err.field-0 gap);
        in_order = in_order_pairs keys values c.self.invariant;
      },
    )
