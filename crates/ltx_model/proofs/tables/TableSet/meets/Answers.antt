use Rattle.std.proofs.Common.{arith}
use Rattle.ltx_model.proofs.TableSets.{meet-common, common-meet}
use Rattle.ltx_model.proofs.tables.TableSet.meets.Goals as goal

pub returns-clause-common : goal.returns-clause-common
returns-clause-common c =
    let forth = meet-common c.self.inside.bits c.other.inside.bits (omega arith) in
    let back = common-meet c.self.inside.bits c.other.inside.bits in
    rw (← c.self.view_is, ← c.other.view_is) (forth, back)
