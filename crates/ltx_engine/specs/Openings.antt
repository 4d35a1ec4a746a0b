-- What an opening finds: the core over what the log gives back, and the frames behind its open gates.
use Rattle.std.specs.Prelude.{◌≡◌, ℕ, ◌<◌, List, [], Option, IfSome}
use Rattle.ltx_model.specs.States.{Base, IsSound}
use Rattle.ltx_model.specs.Contents.{Placed, frames_in}
use Rattle.ltx_model.specs.Recovery.{AreLawfulFrames, recovered, IsRecovered}
use Rattle.ltx_core.specs.Views.{CoreView}
use Rattle.ltx_core.specs.Stands as core_stands
use Rattle.ltx_log.specs.Running.{EachNow}
use Rattle.ltx_engine.specs.Views.{EngineView}
use Rattle.ltx_engine.specs.Stands.{StandsFor}

-- the core, the frames of the log, the place of its closed gate, and the last frame's epoch, or 0
pub record Found : Type 0 where
  pub core : CoreView
  pub frames : List Placed
  pub gate : ℕ
  pub epoch : ℕ

-- what the frames give back
abbrev pub base_found : Found → Base
base_found f = recovered (frames_in f.frames) f.gate

-- The core stands for what the frames give back, which is a sound base, and for no entry yet.
pub record IsFound (f : Found) : Type 0 where
  pub sound : IsSound (base_found f)
  pub lawful : AreLawfulFrames 0 [] (frames_in f.frames)
  pub stands : core_stands.StandsFor f.core (base_found f) []
  pub epoch_is : f.epoch ≡ (base_found f).durable
  pub limit : f.gate < 1099511627776

-- The engine stands for a sound base and no entry yet. Where the disk told what it held, that recovers the base, and so does each image now.
pub record IsOpenedOn (content : Option (List ℕ)) (engine : EngineView) : Type 0 where
  pub base : Base
  pub sound : IsSound base
  pub recovered : IfSome content (λ bytes. IsRecovered bytes base)
  pub images : EachNow (λ bytes image. IsRecovered image base) engine.log.content engine.log.crashes
  pub stands : StandsFor engine base []
