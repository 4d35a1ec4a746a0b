use Rattle.ltx_laws.proofs.FloorMembers.{settled_stay, kept_were_kept, settled_at_once}
use Rattle.ltx_laws.proofs.floor.settled_members_stay_settled.Goals as goal

pub returns : goal.returns
returns c = record { settled = settled_stay; kept = kept_were_kept; alone = settled_at_once }
