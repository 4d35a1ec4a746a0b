use Rattle.std.proofs.Common.{true, refl}
use Rattle.ltx_model.specs.declared.writes.Write.{Write}
use Rattle.ltx_forward.proofs.TableSets.{tables_none, tables_more}
use Rattle.ltx_forward.proofs.wait.tables_of.Goals as goal

pub loop-write-init : goal.loop-write-init
loop-write-init c = tables_none (λ (w : Write). true) (λ (w : Write). w.table) _ c.empty-tables.ensures.members

pub loop-write-preserved : goal.loop-write-preserved
loop-write-preserved c = tables_more (λ (w : Write). true) (λ (w : Write). w.table) c.args.writes.now c.loop-write.write-index c.write-item.result c.loop-write.tables _ c.loop-write-test.true c.write-item.is c.loop-write.invariant refl c.with-tables.ensures.members c.with-tables.ensures.range
