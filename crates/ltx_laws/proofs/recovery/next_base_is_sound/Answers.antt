use Rattle.ltx_laws.proofs.NextBases.{next_sound, greatest_bounded}
use Rattle.ltx_laws.proofs.recovery.next_base_is_sound.Goals as goal

pub returns : goal.returns
returns c = record { sound = next_sound; greatest = greatest_bounded }
