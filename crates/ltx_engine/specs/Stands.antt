-- An engine stands for a base and a history.
use Rattle.std.specs.Prelude.{◌≡◌, ℕ, false, List, [], ◌++◌, IfSome}
use Rattle.ltx_model.specs.declared.replies.Entry.{Entry}
use Rattle.ltx_model.specs.States.{Base}
use Rattle.ltx_model.specs.Histories.{state}
use Rattle.ltx_model.specs.Logs.{frames_of}
use Rattle.ltx_model.specs.Contents.{Placed, frames_in}
use Rattle.ltx_model.specs.Recovery.{AreLawfulFrames, recovered}
use Rattle.ltx_log.specs.Running.{IsLogTo}
use Rattle.ltx_core.specs.Stands as core_stands
use Rattle.ltx_engine.specs.Views.{EngineView}

-- Frames that give the base back, and behind them those that the history writes, in order.
pub record AreFramesOf (base : Base) (history : List Entry) (frames : List Placed) : Type 0 where
  pub earlier : List Placed
  pub later : List Placed
  pub parts : frames ≡ earlier ++ later
  pub lawful : AreLawfulFrames 0 [] (frames_in earlier)
  pub given : recovered (frames_in earlier) base.gate ≡ base
  pub written : frames_in later ≡ frames_of base history

-- The bytes are a log of such frames, whose closed gate and last epoch are these.
pub record IsWritten (base : Base) (history : List Entry) (gate last : ℕ) (bytes : List ℕ) : Type 0 where
  pub frames : List Placed
  pub log : IsLogTo bytes frames gate last
  pub are : AreFramesOf base history frames

-- The core is where the history leads from the base, the log's closed gate is the state's, and as long as no append met a fault of the
-- disk, the log has the frames of the base and of the history, where the disk tells its content.
pub record StandsFor (engine : EngineView) (base : Base) (history : List Entry) : Type 0 where
  pub core : core_stands.StandsFor engine.core base history
  pub gate : engine.log.gate ≡ (state base history).gate
  pub frames : engine.log.closed ≡ false → IfSome engine.log.content (IsWritten base history engine.log.gate engine.log.last)
