use Rattle.std.proofs.Common.{◌∙◌, arith}
use Rattle.ltx_store.proofs.Places.{IsPlace, made_after, tables_with, each_made}
use Rattle.ltx_store.proofs.store.Store.reserve_write.Goals as goal

pub invariant_of-self : goal.invariant_of-self
invariant_of-self c =
    let p : IsPlace c.args.self.now c.self.inside.tables.items c.from.result c.args.write.now.table c.index_mut.result.now =
    record { kept_is = c.self.view_is; tables = c.self.invariant.tables_are; at = c.from.ensures ∙ c.number.ensures.value; within = omega arith; is = c.index_mut.ensures.value } in
    record {
      tables_are = tables_with c.self.inside.tables.items c.from.result c.reserve.new.table c.self.invariant.tables_are c.reserve.ensures.in_order;
      marks = each_made _ c.self.invariant.marks p c.args.write.now.key c.reserve.new.table c.reserve.result c.reserve.ensures.made c.reserve.ensures.kept;
      within = c.self.invariant.within;
    }

pub returns : goal.returns
returns c =
    let p : IsPlace c.args.self.now c.self.inside.tables.items c.from.result c.args.write.now.table c.index_mut.result.now =
    record { kept_is = c.self.view_is; tables = c.self.invariant.tables_are; at = c.from.ensures ∙ c.number.ensures.value; within = omega arith; is = c.index_mut.ensures.value } in
    let after = made_after c.args.write.now.key c.reserve.new.table c.reserve.result p c.reserve.ensures.made c.reserve.ensures.kept in
    record { made = after.0; same = after.1 }
