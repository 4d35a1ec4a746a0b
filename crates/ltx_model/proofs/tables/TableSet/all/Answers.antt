use Rattle.ltx_model.proofs.TableSets.{all_has}
use Rattle.ltx_model.proofs.tables.TableSet.all.Goals as goal

pub returns-clause-members : goal.returns-clause-members
returns-clause-members c = all_has
