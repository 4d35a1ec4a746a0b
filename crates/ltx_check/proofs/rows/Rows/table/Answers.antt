use Rattle.std.proofs.Common.{◌∙◌, arith}
use Rattle.ltx_check.proofs.RowSteps.{IsTable, table_is}
use Rattle.ltx_check.proofs.rows.Rows.table.Goals as goal

pub returns : goal.returns
returns c =
    let p : IsTable c.args.self.now c.self.inside.tables.items c.from.result c.args.table c.index.result.now =
    record { all = c.self.invariant; same = c.self.view_is; at = c.from.ensures ∙ c.number.ensures.value; low = omega arith; is = c.index.ensures } in
    table_is p
