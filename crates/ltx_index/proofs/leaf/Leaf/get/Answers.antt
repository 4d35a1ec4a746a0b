use Rattle.std.proofs.Common.{sym}
use Rattle.ltx_index.proofs.Places.{value_at-lent, value_at-gap, in_order_pairs}
use Rattle.ltx_index.proofs.leaf.Leaf.get.Goals as goal

pub returns-in-Ok : goal.returns-in-Ok
returns-in-Ok g c =
    let keys = c.self.inside.keys in
    let values = c.self.inside.values.items in
    rw (← c.self.view_is) record {
      value = value_at-lent keys values c.self.invariant (λ x. x.now) c.args.key.now c.in-Ok.at c.get.result (c.in-Ok.ensures.found) (rw c.deref.ensures.value at c.get.ensures.lookup);
      in_order = in_order_pairs keys values c.self.invariant;
    }

pub returns-in-Err : goal.returns-in-Err
returns-in-Err g c =
    let keys = c.self.inside.keys in
    let values = c.self.inside.values.items in
    rw (← c.self.view_is) record {
      value = sym (value_at-gap c.args.key.now keys values c.in-Err.field-0 (c.in-Err.ensures.absent));
      in_order = in_order_pairs keys values c.self.invariant;
    }
