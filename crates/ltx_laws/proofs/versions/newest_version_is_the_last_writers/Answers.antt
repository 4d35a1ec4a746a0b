use Rattle.ltx_laws.proofs.VersionRows.{newest_is_last, newest_is_last_before}
use Rattle.ltx_laws.proofs.versions.newest_version_is_the_last_writers.Goals as goal

pub returns : goal.returns
returns c = record { now = newest_is_last; snapshot = newest_is_last_before }
