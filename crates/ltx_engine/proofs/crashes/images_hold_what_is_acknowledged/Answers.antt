use Rattle.ltx_engine.proofs.Survivals.{holds_base, holds_durable, holds_either}
use Rattle.ltx_engine.proofs.crashes.images_hold_what_is_acknowledged.Goals as goal

pub returns : goal.returns
returns c = record { first = holds_base; durable = holds_durable; either = holds_either }
