use Rattle.std.proofs.Common.{◌≡◌, length, take, flat_map, subst}
use Rattle.ltx_model.specs.Spellings.{write_bytes}
use Rattle.ltx_frame.proofs.Fronts.{front_of}
use Rattle.ltx_frame.proofs.pieces.put_each.Goals as goal

pub returns-in_err-put_write-clause-front : goal.returns-in_err-put_write-clause-front
returns-in_err-put_write-clause-front c =
    front_of c.args.out.now.items (flat_map write_bytes (take c.loop-write.write-index c.args.writes.now)) c.put_write.new.out.items
    (subst (λ l. take (length l) c.put_write.new.out.items ≡ l) c.loop-write.invariant c.put_write.ensures.front)
