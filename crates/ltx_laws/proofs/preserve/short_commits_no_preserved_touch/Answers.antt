use Rattle.ltx_laws.proofs.Preserved.{short_touches_none}
use Rattle.ltx_laws.proofs.preserve.short_commits_no_preserved_touch.Goals as goal

pub returns : goal.returns
returns c = record { untouched = short_touches_none }
