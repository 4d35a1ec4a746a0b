use Rattle.std.proofs.Common.{refl}
use Rattle.ltx_core.proofs.Flushed.{flushed_core, flushed_stands}
use Rattle.ltx_core.proofs.state.Core.flushed.Goals as goal

pub invariant_of-self : goal.invariant_of-self
invariant_of-self c = flushed_core _ _ c.forget.new.self c.self.invariant c.forget.ensures.closed c.forget.ensures.present c.forget.ensures.last c.forget.ensures.room

pub returns : goal.returns
returns c = record { stands = flushed_stands _ _ c.self.view_is _ c.forget.new.self c.requires.closed refl c.forget.ensures.closed c.forget.ensures.present }
