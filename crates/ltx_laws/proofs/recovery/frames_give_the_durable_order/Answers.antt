use Rattle.ltx_laws.proofs.PlayedFrames.{order_played, rows_played}
use Rattle.ltx_laws.proofs.LaterFrames.{frames_first, later_order_played, later_rows_played}
use Rattle.ltx_laws.proofs.recovery.frames_give_the_durable_order.Goals as goal

pub returns : goal.returns
returns c = record { order = order_played; rows = rows_played; first = frames_first; later_order = later_order_played; later_rows = later_rows_played }
