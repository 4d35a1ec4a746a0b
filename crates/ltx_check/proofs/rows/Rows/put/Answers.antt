use Rattle.std.proofs.Common.{◌∙◌, arith}
use Rattle.ltx_check.proofs.RowSteps.{IsTable, put_rows}
use Rattle.ltx_check.proofs.rows.Rows.put.Goals as goal

pub returns : goal.returns
returns c =
    let p : IsTable c.args.self.now c.self.inside.tables.items c.from.result c.args.table c.index_mut.result.now =
    record { all = c.self.invariant; same = c.self.view_is; at = c.from.ensures ∙ c.number.ensures.value; low = omega arith; is = c.index_mut.ensures.value } in
    put_rows p c.put.result c.args.key.now c.args.value.now c.put.new.table c.put.ensures
