use Rattle.ltx_laws.proofs.VersionRows.{newest_is_snapshot, chain_before_slot}
use Rattle.ltx_laws.proofs.versions.newest_version_at_a_slot_is_the_snapshot_row.Goals as goal

pub returns : goal.returns
returns c = record { row = newest_is_snapshot; first = chain_before_slot }
