-- What a run promises of the history that it prints.
use Rattle.std.specs.Prelude.{List}
use Rattle.ltx_model.specs.declared.replies.Entry.{Entry}
use Rattle.ltx_model.specs.States.{Base}
use Rattle.ltx_top.specs.DeclaredOrder.{KeepsDeclaredOrder}
use Rattle.ltx_top.specs.Priority.{GivesPriority}
use Rattle.ltx_top.specs.Refused.{HasTrueWitnesses}
use Rattle.ltx_top.specs.SerialOrder.{KeepsSerialOrder}
use Rattle.ltx_top.specs.Spared.{SparesPreserved}

-- The serial order explains each moment and is stable; batches stand in declared order except those printed as forwarded; shorts
-- spare what live batches preserve; batches have priority; and each refusal prints a true witness.
pub record KeepsPromises (base : Base) (history : List Entry) : Type 0 where
  pub serial_order : KeepsSerialOrder base history
  pub declared_order : KeepsDeclaredOrder base history
  pub spared : SparesPreserved base history
  pub priority : GivesPriority base history
  pub refusals : HasTrueWitnesses base history
