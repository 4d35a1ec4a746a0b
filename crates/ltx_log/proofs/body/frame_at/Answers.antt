use Rattle.std.proofs.Common.{rules, arith}
use Rattle.ltx_log.proofs.Standing.{no_length, no_body, no_frame, a_frame, next_of}
use Rattle.ltx_log.proofs.body.frame_at.Goals as goal

pub returns-in_default-clause-frame : goal.returns-in_default-clause-frame
returns-in_default-clause-frame g c = no_length c.args.gate c.args.before _ c.args.told (search rules) c.requires.length_told

pub returns-in-Ok-None-clause-frame : goal.returns-in-Ok-None-clause-frame
returns-in-Ok-None-clause-frame g c =
    let none = rw c.in-Ok-None.field-0-is at c.in-Ok-None.ensures.body in
    no_body c.args.gate c.args.before _ c.args.told c.in-Some.count c.in-Some.is c.requires.length_told none

pub returns-in-Ok-None-frame_of-clause-frame : goal.returns-in-Ok-None-frame_of-clause-frame
returns-in-Ok-None-frame_of-clause-frame g c =
    let found = rw c.in-Ok-Some.field-0-is at c.in-Ok-Some.ensures.body in
    let empty = rw c.in-Ok-None-frame_of.field-0-is at c.in-Ok-None-frame_of.ensures.none in
    let none = rw c.deref.ensures.value at empty in
    no_frame c.args.gate c.args.before _ c.args.told c.in-Some.count c.in-Ok-Some.body.items c.in-Some.is c.requires.length_told found none

pub overflow_add-result-in-Ok-Some-frame_of : goal.overflow_add-result-in-Ok-Some-frame_of
overflow_add-result-in-Ok-Some-frame_of g c =
    let room = rw c.in-Ok-Some.field-0-is at c.in-Ok-Some.ensures.room in
    omega (arith, room.2)

pub returns-clause-frame : goal.returns-clause-frame
returns-clause-frame g c =
    let found = rw c.in-Ok-Some.field-0-is at c.in-Ok-Some.ensures.body in
    let read = rw c.in-Ok-Some-frame_of.field-0-is at c.in-Ok-Some-frame_of.ensures.found in
    let frame = rw c.deref.ensures.value at read in
    a_frame c.args.gate c.args.before _ c.args.told c.in-Some.count c.in-Ok-Some.body.items c.in-Ok-Some-frame_of.frame c.in-Some.is c.requires.open_gate c.requires.length_told found frame.0 frame.1

pub returns-clause-next : goal.returns-clause-next
returns-clause-next g c =
    let room = rw c.in-Ok-Some.field-0-is at c.in-Ok-Some.ensures.room in
    let read = rw c.in-Ok-Some-frame_of.field-0-is at c.in-Ok-Some-frame_of.ensures.found in
    let frame = rw c.deref.ensures.value at read in
    (next_of c.args.gate c.args.before c.in-Some.count c.in-Ok-Some.body.items c.in-Ok-Some-frame_of.frame room.0 frame.0, omega (arith, room.1), omega (arith, room.2))
