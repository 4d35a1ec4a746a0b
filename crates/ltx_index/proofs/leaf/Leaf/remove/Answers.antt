use Rattle.std.proofs.Common.{refl, sym}
use Rattle.ltx_index.proofs.Places.{in_order_pairs, value_at-read, value_at-gap, without_key-found, without_key-gap, run_remove}
use Rattle.ltx_index.proofs.leaf.Leaf.remove.Goals as goal

pub invariant_of-self : goal.invariant_of-self
invariant_of-self g c =
    let found = c.in-Ok.ensures.found in
    rw (c.remove.ensures, c.remove-in-Ok.ensures.items) (run_remove _ _ c.self.invariant c.in-Ok.at found.in_range)

pub returns-in-Ok : goal.returns-in-Ok
returns-in-Ok g c =
    let keys = c.self.inside.keys in
    let values = c.self.inside.values.items in
    let found = c.in-Ok.ensures.found in
    let run = run_remove keys values c.self.invariant c.in-Ok.at found.in_range in
    rw (c.remove.ensures, c.remove-in-Ok.ensures.items, ← c.self.view_is) record {
      value = sym (value_at-read keys values c.self.invariant c.args.key.now c.in-Ok.at c.remove-in-Ok.result found c.remove-in-Ok.ensures.value);
      taken = sym (without_key-found c.args.key.now keys values c.in-Ok.at c.self.invariant.as_many found);
      absent = tt;
      in_order = in_order_pairs _ _ run;
    }

pub returns-in-Err : goal.returns-in-Err
returns-in-Err g c =
    let keys = c.self.inside.keys in
    let values = c.self.inside.values.items in
    let gap = c.in-Err.ensures.absent in
    rw (← c.self.view_is) record {
      value = sym (value_at-gap c.args.key.now keys values c.in-Err.field-0 gap);
      taken = sym (without_key-gap c.args.key.now keys values c.in-Err.field-0 gap);
      absent = refl;
      in_order = in_order_pairs keys values c.self.invariant;
    }
