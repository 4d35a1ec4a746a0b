use Rattle.ltx_log.proofs.Images.{write_exit, sync_exit}
use Rattle.ltx_log.proofs.settle.settle.Goals as goal

pub returns-in_err-write_at-clause-since : goal.returns-in_err-write_at-clause-since
returns-in_err-write_at-clause-since g c = write_exit c.args.at c.args.piece.now _ _ _ _ c.requires.within c.requires.still c.write_at.ensures.torn

pub returns-clause-since : goal.returns-clause-since
returns-clause-since g c =
    sync_exit c.args.at c.args.piece.now c.sync.result _ _ _ _ _ c.requires.within c.requires.still c.in_ok-write_at.ensures.bytes c.in_ok-write_at.ensures.wrote c.sync.ensures.synced c.sync.ensures.unsynced
