use Rattle.std.proofs.Common.{◌∙◌, Some, arith}
use Rattle.ltx_store.proofs.Places.{IsPlace, loaded_after, tables_after, each_loaded}
use Rattle.ltx_store.proofs.store.Store.load.Goals as goal

pub invariant_of-self : goal.invariant_of-self
invariant_of-self c =
    let p : IsPlace c.args.self.now c.self.inside.tables.items c.from.result c.args.row.table c.index_mut.result.now =
    record { kept_is = c.self.view_is; tables = c.self.invariant.tables_are; at = c.from.ensures ∙ c.number.ensures.value; within = omega arith; is = c.index_mut.ensures.value } in
    record {
      tables_are = tables_after c.self.inside.tables.items c.from.result c.index_mut.result.now c.load.new.table c.load.result c.self.invariant.tables_are c.index_mut.ensures.value c.load.ensures.in_order c.load.ensures.kept;
      marks = each_loaded _ c.self.invariant.marks p c.args.row.key c.args.row.writer (Some c.args.row.value) c.load.new.table c.load.result c.load.ensures.loaded c.load.ensures.kept;
      within = c.self.invariant.within;
    }

pub returns : goal.returns
returns c =
    let p : IsPlace c.args.self.now c.self.inside.tables.items c.from.result c.args.row.table c.index_mut.result.now =
    record { kept_is = c.self.view_is; tables = c.self.invariant.tables_are; at = c.from.ensures ∙ c.number.ensures.value; within = omega arith; is = c.index_mut.ensures.value } in
    let after = loaded_after c.args.row c.load.new.table c.load.result p c.load.ensures.loaded c.load.ensures.kept in
    record { loaded = after.0; kept = after.1 }
