use Rattle.ltx_core.proofs.Flushed.{sealed_frame}
use Rattle.ltx_open.proofs.Results.{if_ok}
use Rattle.ltx_core.proofs.state.Core.sealed.Goals as goal

pub returns : goal.returns
returns c = record { frame = if_ok _ _ (λ frame is base history stands. sealed_frame _ _ c.self.view_is _ is base history stands) c.sealed.result c.sealed.ensures.frame }
