use Rattle.ltx_core.proofs.NewCores.{has_tells}
use Rattle.ltx_core.proofs.state.Core.has_tx.Goals as goal

pub returns : goal.returns
returns c = record { value = λ base history stands. has_tells _ _ c.self.view_is c.args.session _ c.has.ensures base history stands.at }
