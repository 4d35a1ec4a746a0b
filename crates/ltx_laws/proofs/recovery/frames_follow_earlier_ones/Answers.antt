use Rattle.ltx_laws.proofs.FollowingFrames.{list_follows, lawful_follows, rows_follow}
use Rattle.ltx_laws.proofs.recovery.frames_follow_earlier_ones.Goals as goal

pub returns : goal.returns
returns c = record { list = list_follows; lawful = lawful_follows; rows = rows_follow }
