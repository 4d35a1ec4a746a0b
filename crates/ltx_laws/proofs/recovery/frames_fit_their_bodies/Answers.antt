use Rattle.ltx_laws.proofs.SealedFrames.{sealed_fits, written_fit}
use Rattle.ltx_laws.proofs.recovery.frames_fit_their_bodies.Goals as goal

pub returns : goal.returns
returns c = record { sealed = sealed_fits; written = written_fit }
