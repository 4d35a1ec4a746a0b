use Rattle.ltx_laws.proofs.VersionRows.{installed_in_time, installed_in_agenda, installed_writers}
use Rattle.ltx_laws.proofs.versions.installed_versions_rise.Goals as goal

pub returns : goal.returns
returns c = record { written = installed_writers; time = installed_in_time; agenda = installed_in_agenda }
