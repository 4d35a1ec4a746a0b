use Rattle.ltx_core.proofs.commit_at.move_to.Goals as goal

pub move_before-requires-clause-member : goal.move_before-requires-clause-member
move_before-requires-clause-member c = (c.requires.moves c.in-Before.target c.in-Before.is).member

pub move_before-requires-clause-target : goal.move_before-requires-clause-target
move_before-requires-clause-target c = (c.requires.moves c.in-Before.target c.in-Before.is).target

pub move_before-requires-clause-differ : goal.move_before-requires-clause-differ
move_before-requires-clause-differ c = (c.requires.moves c.in-Before.target c.in-Before.is).differ

pub move_before-requires-clause-room : goal.move_before-requires-clause-room
move_before-requires-clause-room c = (c.requires.moves c.in-Before.target c.in-Before.is).room
