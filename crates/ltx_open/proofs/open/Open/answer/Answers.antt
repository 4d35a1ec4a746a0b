use Rattle.std.proofs.Common.{◌≡◌, rules, Some, None}
use Rattle.ltx_model.specs.declared.writes.Write.{Write}
use Rattle.ltx_model.specs.Operations.{write_of}
use Rattle.ltx_open.proofs.GetsAtMark.{write_gives}
use Rattle.ltx_open.proofs.open.Open.answer.Goals as goal

pub returns-in_ok-copy-in-Put-2-clause-done : goal.returns-in_ok-copy-in-Put-2-clause-done
returns-in_ok-copy-in-Put-2-clause-done c =
    let w : Write = record { table = c.in-Put.table; key = c.in_ok-copy-in-Put.field-0; put = Some c.in_ok-copy-in-Put-2.field-0 } in
    let is : write_of c.args.op.now ≡ Some w = search rules in
    write_gives c.args.store.now c.args.mark c.args.self.now c.write-in-Put.new.self w c.args.op.now c.write-in-Put.result is c.write-in-Put.ensures.answer c.requires.marked c.write-in-Put.ensures.number c.write-in-Put.ensures.stage c.write-in-Put.ensures.noted c.write-in-Put.ensures.own

pub returns-in_ok-copy-in-Del-clause-done : goal.returns-in_ok-copy-in-Del-clause-done
returns-in_ok-copy-in-Del-clause-done c =
    let w : Write = record { table = c.in-Del.table; key = c.in_ok-copy-in-Del.field-0; put = None } in
    let is : write_of c.args.op.now ≡ Some w = search rules in
    write_gives c.args.store.now c.args.mark c.args.self.now c.write-in-Del.new.self w c.args.op.now c.write-in-Del.result is c.write-in-Del.ensures.answer c.requires.marked c.write-in-Del.ensures.number c.write-in-Del.ensures.stage c.write-in-Del.ensures.noted c.write-in-Del.ensures.own
