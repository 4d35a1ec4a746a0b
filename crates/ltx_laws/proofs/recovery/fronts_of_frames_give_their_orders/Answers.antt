use Rattle.ltx_laws.proofs.FrameFronts.{last_epoch_durable, front_order, front_rows}
use Rattle.ltx_laws.proofs.recovery.fronts_of_frames_give_their_orders.Goals as goal

pub returns : goal.returns
returns c = record { last = last_epoch_durable; order = front_order; rows = front_rows }
