use Rattle.std.proofs.Common.{◌≡◌, sym, subst, ap, ◌∙◌, filter}
use Rattle.ltx_model.specs.Keys.{IsRising}
use Rattle.ltx_model.specs.Operations.{cell_of_write}
use Rattle.ltx_buffer.specs.Own.{Own, is_between}
use Rattle.ltx_buffer.specs.Places.{key_in}
use Rattle.ltx_buffer.proofs.Rows.{merged_given, rising_given}
use Rattle.ltx_buffer.proofs.Splits.{rising_between}
use Rattle.ltx_buffer.proofs.buffer.Buffer.merge.Goals as goal

-- the writes of the range
own_is : (c : goal.After-merge) → c.writes_between-own.result.now ≡ filter (is_between c.args.table c.args.low.now c.args.high.now) c.args.self.now.writes
own_is c = c.writes_between-own.ensures ∙ ap (filter (is_between c.args.table c.args.low.now c.args.high.now)) (c.deref.ensures.value ∙ ap (λ (o : Own). o.writes) c.self.view_is)

own_rises : (c : goal.After-merge) → IsRising (key_in c.args.table) c.writes_between-own.result.now
own_rises c =
    subst (IsRising (key_in c.args.table)) (sym c.writes_between-own.ensures)
    (rising_between c.args.table c.args.low.now c.args.high.now _ (subst (IsRising cell_of_write) (sym c.deref.ensures.value) c.self.invariant))

pub returns-clause-merged : goal.returns-clause-merged
returns-clause-merged c =
    merged_given c.args.table c.args.rows.items c.writes_between-own.result.now _ (own_is c) c.merge.result c.merge.ensures (own_rises c) c.requires.rising

pub returns-clause-rising : goal.returns-clause-rising
returns-clause-rising c = rising_given c.args.table c.args.rows.items c.writes_between-own.result.now c.merge.result c.merge.ensures (own_rises c) c.requires.rising
