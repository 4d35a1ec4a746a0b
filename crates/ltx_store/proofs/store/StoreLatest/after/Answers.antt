use Rattle.std.proofs.Common.{◌∙◌, arith}
use Rattle.ltx_store.proofs.Places.{IsPlace}
use Rattle.ltx_store.proofs.InPlace.{found_in_place, none_in_place}
use Rattle.ltx_store.proofs.store.StoreLatest.after.Goals as goal

pub returns : goal.returns
returns c =
    let p : IsPlace c.args.self.now c.self.inside.tables.items c.from.result c.args.table c.index.result.now =
    record { kept_is = c.self.view_is; tables = c.self.invariant.tables_are; at = c.from.ensures ∙ c.number.ensures.value; within = omega arith; is = c.index.ensures } in
    record {
      found = found_in_place p c.args.from.now c.args.strict (λ f. f.0.now) (λ f. f.1) c.next_put.result c.next_put.ensures.found;
      none = none_in_place p c.args.from.now c.args.strict c.next_put.result c.next_put.ensures.none;
    }
