use Rattle.ltx_laws.proofs.VersionRows.{newest_is_latest}
use Rattle.ltx_laws.proofs.versions.newest_version_is_the_latest_row.Goals as goal

pub returns : goal.returns
returns c = newest_is_latest
