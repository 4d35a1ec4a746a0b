use Rattle.std.proofs.Common.{◌≡◌, ◌<◌, ◌∙◌, sym, subst, arith}
use Rattle.ltx_model.specs.Operations.{cell_of_write}
use Rattle.ltx_chain.specs.Versions.{AreBelow}
use Rattle.ltx_store.specs.Kept.{room_of, items_of, rows_at, latest_rows, rows_with, row_of_write}
use Rattle.ltx_store.proofs.FromMarks.{each_higher, raised, reached, still_within}
use Rattle.ltx_store.proofs.Places.{IsPlace, chain_in_place, kept_rising, installed_in_store, tables_with, each_installed}
use Rattle.ltx_store.proofs.Changes.{rows_installed, rows_before, latest_installed}
use Rattle.ltx_store.proofs.store.Store.install.Goals as goal

pub install-requires : goal.install-requires
install-requires c =
    let p : IsPlace c.args.self.now c.self.inside.tables.items c.from.result c.args.write.table c.index_mut.result.now =
    record { kept_is = c.self.view_is; tables = c.self.invariant.tables_are; at = c.from.ensures ∙ c.number.ensures.value; within = omega arith; is = c.index_mut.ensures.value } in
    record {
      room = subst (λ o. 0 < room_of o) (chain_in_place p c.args.write.key) c.requires.room;
      above = subst (λ o. AreBelow c.args.mark (items_of o)) (chain_in_place p c.args.write.key) c.requires.above;
    }

pub invariant_of-self : goal.invariant_of-self
invariant_of-self c =
    let p : IsPlace c.args.self.now c.self.inside.tables.items c.from.result c.args.write.table c.index_mut.result.now =
    record { kept_is = c.self.view_is; tables = c.self.invariant.tables_are; at = c.from.ensures ∙ c.number.ensures.value; within = omega arith; is = c.index_mut.ensures.value } in
    let up = c.raise.ensures in
    record {
      tables_are = tables_with c.self.inside.tables.items c.from.result c.install.new.table c.self.invariant.tables_are c.install.ensures.in_order;
      marks = each_installed _ (each_higher _ _ _ (raised _ _ c.args.write.table c.args.mark up.here up.others) c.self.invariant.marks) p c.args.write.key _ c.install.new.table (reached _ _ c.args.write.table c.args.mark up.here up.others) c.install.ensures.installed;
      within = still_within _ _ c.args.write.table c.args.mark up.here up.others _ _ up.all c.self.invariant.within;
    }

pub returns : goal.returns
returns c =
    let p : IsPlace c.args.self.now c.self.inside.tables.items c.from.result c.args.write.table c.index_mut.result.now =
    record { kept_is = c.self.view_is; tables = c.self.invariant.tables_are; at = c.from.ensures ∙ c.number.ensures.value; within = omega arith; is = c.index_mut.ensures.value } in
    let is = installed_in_store p c.args.write.key (record { writer = c.args.writer; mark = c.args.mark; put = c.args.write.put }) c.install.new.table c.install.ensures.installed in
    let w = c.args.write in
    let kept = c.args.self.now in
    record {
      installed = is;
      rows = λ m le. subst (λ l. rows_at m l ≡ rows_with (cell_of_write w) (row_of_write c.args.writer w) (rows_at m kept)) (sym is) (rows_installed c.args.writer c.args.mark w kept (kept_rising p) m le);
      before = λ m less. subst (λ l. rows_at m l ≡ rows_at m kept) (sym is) (rows_before c.args.writer c.args.mark w kept (kept_rising p) m less);
      latest = subst (λ l. latest_rows l ≡ rows_with (cell_of_write w) (row_of_write c.args.writer w) (latest_rows kept)) (sym is) (latest_installed c.args.writer c.args.mark w kept (kept_rising p));
    }
