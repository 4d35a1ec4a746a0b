use Rattle.std.proofs.Common.{◌≡◌, Some, None, rules}
use Rattle.ltx_frame.specs.Events.{frame_of}
use Rattle.ltx_frame.specs.Readings.{body_at}
use Rattle.ltx_frame.proofs.Bodies.{none_spelled, made_none, made_again}
use Rattle.ltx_frame.proofs.decode.decode_frame.Goals as goal

pub returns-in-Err-NoFrame-clause-none : goal.returns-in-Err-NoFrame-clause-none
returns-in-Err-NoFrame-clause-none c =
    let none : body_at c.args.body.now ≡ None = search rules in
    none_spelled c.args.body.now none

pub returns-in-Err-NoFrame-clause-again : goal.returns-in-Err-NoFrame-clause-again
returns-in-Err-NoFrame-clause-again c =
    let none : body_at c.args.body.now ≡ None = search rules in
    λ f spells. absurd (none_spelled c.args.body.now none f spells)

pub returns-clause-none : goal.returns-clause-none
returns-clause-none c =
    let read : body_at c.args.body.now ≡ Some (frame_of c.in-Ok.read.0 c.in-Ok.read.1.items) = search rules in
    made_none c.args.body.now (frame_of c.in-Ok.read.0 c.in-Ok.read.1.items) c.new.result c.ok.result read c.new.ensures.within.1 c.ok.ensures.value

pub returns-clause-again : goal.returns-clause-again
returns-clause-again c =
    let read : body_at c.args.body.now ≡ Some (frame_of c.in-Ok.read.0 c.in-Ok.read.1.items) = search rules in
    made_again c.args.body.now (frame_of c.in-Ok.read.0 c.in-Ok.read.1.items) c.new.result c.ok.result read c.new.ensures.within.1 c.new.ensures.value c.ok.ensures.value
