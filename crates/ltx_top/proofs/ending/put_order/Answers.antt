use Rattle.std.proofs.Common.{◌≡◌, length, take, flat_map, subst}
use Rattle.ltx_top.specs.Transcripts.{spaced_number}
use Rattle.ltx_text.proofs.Fronts.{front_of}
use Rattle.ltx_top.proofs.ending.put_order.Goals as goal

pub returns-in_err-put_number-clause-front : goal.returns-in_err-put_number-clause-front
returns-in_err-put_number-clause-front c =
    front_of c.args.out.now.items (flat_map spaced_number (take c.loop-tx.tx-index c.args.order.now)) c.put_number.new.out.items
    (subst (λ l. take (length l) c.put_number.new.out.items ≡ l) c.loop-tx.invariant c.put_number.ensures.front)
