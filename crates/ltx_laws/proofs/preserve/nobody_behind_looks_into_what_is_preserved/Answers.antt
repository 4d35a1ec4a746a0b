use Rattle.ltx_laws.proofs.Preserved.{nobody_behind}
use Rattle.ltx_laws.proofs.preserve.nobody_behind_looks_into_what_is_preserved.Goals as goal

pub returns : goal.returns
returns c = record { unread = nobody_behind }
