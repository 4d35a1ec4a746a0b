-- What a crash may leave of a run: of each image since a moment, and of each image now.
use Rattle.std.specs.Prelude.{ℕ, List, Option}
use Rattle.ltx_model.specs.declared.replies.Entry.{Entry}
use Rattle.ltx_model.specs.States.{Base}
use Rattle.ltx_model.specs.Disks.{Crashes}
use Rattle.ltx_log.specs.Images.{EachSince}
use Rattle.ltx_log.specs.Running.{EachNow}
use Rattle.ltx_engine.specs.Images.{IsThrough, HoldsAcknowledged}

-- Each image since a moment, where the disk told its bytes and images then, recovers the rows through one closed epoch.
abbrev pub Survives : Base → List Entry → Option (List ℕ) → Option Crashes → Option Crashes → Type 0
Survives base history content old new = EachSince (λ bytes image. IsThrough base history image) content old new

-- each image now has every acknowledged commit
abbrev pub Holds : Base → List Entry → Option (List ℕ) → Option Crashes → Type 0
Holds base history content new = EachNow (λ bytes image. HoldsAcknowledged base history image) content new
