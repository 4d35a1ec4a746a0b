use Rattle.std.proofs.Common.{arith}
use Rattle.ltx_log.proofs.Heads.{short_head, long_head}
use Rattle.ltx_log.proofs.head.head_at.Goals as goal

pub returns-then-size-gate-clause-head : goal.returns-then-size-gate-clause-head
returns-then-size-gate-clause-head g c =
    short_head _ c.args.size c.args.gate c.read_at.new.buffer c.requires.size c.requires.within c.if-size-gate.true c.in_ok-read_at.ensures.bytes

pub returns-clause-head : goal.returns-clause-head
returns-clause-head g c =
    long_head _ c.args.size c.args.gate c.read_at-2.new.buffer c.number.result c.requires.size c.if-size-gate.false c.in_ok-read_at-2.ensures.bytes
    (omega (arith, c.number.type_inv)) c.number.ensures.spelled
