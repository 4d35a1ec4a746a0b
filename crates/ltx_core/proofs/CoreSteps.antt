-- What holds of every core goes on to hold: after a step, and where it keeps the same.
use Rattle.std.proofs.Common.{◌≡◌, [], ◌∷◌, ◌++◌, subst}
use Rattle.ltx_model.specs.declared.commands.Command.{Command}
use Rattle.ltx_model.specs.declared.commands.Line.TheVariants.{Good}
use Rattle.ltx_model.specs.declared.replies.Reply.{Reply}
use Rattle.ltx_core.specs.Built.{built}
use Rattle.ltx_core.specs.Views.{CoreView, IsWithin}
use Rattle.ltx_core.specs.Same.{IsSame}
use Rattle.ltx_core.specs.Stands.{IsStanding}
use Rattle.ltx_core.specs.Steps.{IsStep, Steps, IsCore}
use Rattle.ltx_model.specs.States.{first_state}
use Rattle.ltx_model.proofs.OneMore.{legal-push}
use Rattle.ltx_core.proofs.StandsStill.{stands_same}

pub core_step : (old : CoreView) (command : Command) (reply : Reply) (new : CoreView) → Steps old command reply new → IsStanding old → IsWithin new → IsCore new
core_step old command reply new steps standing within =
    let step : IsStep new standing.base standing.history (Good command) reply = steps standing.base standing.history standing.sound standing.legal standing.stands in
    record {
      within = within;
      standing = record {
        base = standing.base;
        history = standing.history ++ record { line = Good command; reply = reply } ∷ [];
        sound = standing.sound;
        legal = legal-push built (first_state standing.base) standing.history (record { line = Good command; reply = reply }) standing.legal step.reply_is;
        stands = step.stands;
      };
    }

pub core_same : (old new : CoreView) → IsSame old new → IsStanding old → IsWithin new → IsCore new
core_same old new same standing within = record {
  within = within;
  standing = record { base = standing.base; history = standing.history; sound = standing.sound; legal = standing.legal; stands = stands_same old new standing.base standing.history same standing.stands };
}

-- by the fields of a core
pub core_step_from : (v w : CoreView) → v ≡ w → (command : Command) (reply : Reply) (new : CoreView) → Steps w command reply new → IsStanding v → IsWithin new → IsCore new
core_step_from v w same command reply new steps standing within = core_step w command reply new steps (subst IsStanding same standing) within

pub core_same_from : (v w : CoreView) → v ≡ w → (new : CoreView) → IsSame w new → IsStanding v → IsWithin new → IsCore new
core_same_from v w same new keeps standing within = core_same w new keeps (subst IsStanding same standing) within
