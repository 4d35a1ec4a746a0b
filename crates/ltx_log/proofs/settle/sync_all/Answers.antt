use Rattle.ltx_log.proofs.Exits.{sync_since}
use Rattle.ltx_log.proofs.settle.sync_all.Goals as goal

pub returns-clause-since : goal.returns-clause-since
returns-clause-since g c = sync_since c.sync.result _ _ _ c.sync.ensures.synced c.sync.ensures.unsynced
