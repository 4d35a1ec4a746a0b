use Rattle.ltx_log.proofs.Starts.{front_blank, front_lacks, blank_since, still_opens}
use Rattle.std.proofs.Common.{refl}
use Rattle.ltx_log.proofs.opening.begin.Goals as goal

pub make_log-requires-clause-lacks : goal.make_log-requires-clause-lacks
make_log-requires-clause-lacks g c =
    front_lacks c.args.size c.args.front.now _ c.lack_of.result c.lack_of.ensures c.requires.front
    (front_blank c.args.size c.args.front.now _ c.kind_of.result c.in-Blank.is c.kind_of.ensures.kind c.requires.front)

pub returns-in-Foreign-clause-since : goal.returns-in-Foreign-clause-since
returns-in-Foreign-clause-since g c = still_opens _ _ _ refl c.requires.still

pub returns-in-Ok-clause-since : goal.returns-in-Ok-clause-since
returns-in-Ok-clause-since g c =
    blank_since _ _ _ (front_blank c.args.size c.args.front.now _ c.kind_of.result c.in-Blank.is c.kind_of.ensures.kind c.requires.front) c.make_log.ensures.since

pub returns-in-Err-clause-since : goal.returns-in-Err-clause-since
returns-in-Err-clause-since g c =
    blank_since _ _ _ (front_blank c.args.size c.args.front.now _ c.kind_of.result c.in-Blank.is c.kind_of.ensures.kind c.requires.front) c.make_log.ensures.since

pub returns-in-Log-clause-since : goal.returns-in-Log-clause-since
returns-in-Log-clause-since g c = still_opens _ _ _ c.read_frames.ensures.images c.requires.still
