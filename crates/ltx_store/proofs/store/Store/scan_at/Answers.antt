use Rattle.std.proofs.Common.{◌≡◌, ◌∙◌, IfOk, sym, subst, arith}
use Rattle.ltx_store.proofs.Places.{IsPlace, kept_rising}
use Rattle.ltx_store.proofs.InPlace.{rows_in_place, looks_in_place}
use Rattle.ltx_store.proofs.store.Store.scan_at.Goals as goal

pub returns : goal.returns
returns c =
    let p : IsPlace c.args.self.now c.self.inside.tables.items c.from.result c.args.table c.index.result.now =
    record { kept_is = c.self.view_is; tables = c.self.invariant.tables_are; at = c.from.ensures ∙ c.number.ensures.value; within = omega arith; is = c.index.ensures } in
    record {
      rows = subst (λ r. IfOk c.scan.result (λ s. s.rows.items ≡ r)) (sym (rows_in_place p c.args.low.now c.args.high.now c.args.mark)) c.scan.ensures.rows;
      looks = subst (λ r. IfOk c.scan.result (λ s. s.looks.items ≡ r)) (sym (looks_in_place p c.args.low.now c.args.high.now c.args.mark)) c.scan.ensures.looks;
      in_order = kept_rising p;
    }
