use Rattle.ltx_store.proofs.FromMarks.{all_zero}
use Rattle.ltx_store.proofs.newest.Newest.new.Goals as goal

pub returns-clause-tables : goal.returns-clause-tables
returns-clause-tables c = all_zero 64
