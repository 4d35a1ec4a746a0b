use Rattle.ltx_lemmas.proofs.Serials.{serial_push, serial_home, serial_before, serial_without}
use Rattle.ltx_lemmas.proofs.places.order_after_commit.Goals as goal

pub returns : goal.returns
returns c = record { short = serial_push; home = serial_home; before = serial_before; leaves = serial_without }
