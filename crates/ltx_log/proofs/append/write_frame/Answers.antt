use Rattle.ltx_log.proofs.Exits.{piece_since, gate_since}
use Rattle.ltx_log.proofs.append.write_frame.Goals as goal

pub returns-in-Ok-clause-since : goal.returns-in-Ok-clause-since
returns-in-Ok-clause-since g c = λ last f spelled.
    gate_since c.args.gate last f c.args.piece.now spelled _ _ _ _ _ c.requires.gate_closed c.in-Ok.ensures.bytes c.settle.ensures.since c.settle-in-Ok.ensures.since

pub returns-in-Err-clause-since : goal.returns-in-Err-clause-since
returns-in-Err-clause-since g c = λ last f spelled. piece_since c.args.gate last f c.args.piece.now spelled _ _ _ c.requires.gate_closed c.settle.ensures.since
