use Rattle.std.proofs.Common.{◌≡◌, length, take, flat_map, subst}
use Rattle.ltx_reply.specs.Texts.{row_text}
use Rattle.ltx_text.proofs.Fronts.{front_of}
use Rattle.ltx_reply.proofs.pieces.put_rows.Goals as goal

-- src/pieces.rt:89:9
pub returns-in_err-put_row-clause-front : goal.returns-in_err-put_row-clause-front
returns-in_err-put_row-clause-front c =
    front_of c.args.out.now.items (flat_map row_text (take c.loop-row.row-index c.args.rows.now)) c.put_row.new.out.items
    (subst (λ l. take (length l) c.put_row.new.out.items ≡ l) c.loop-row.invariant c.put_row.ensures.front)
