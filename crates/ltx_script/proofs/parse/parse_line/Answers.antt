use Rattle.std.proofs.Common.{option_copied}
use Rattle.ltx_text.specs.Cuts.{words_after}
use Rattle.ltx_script.proofs.Answered.{long_answer, good_answer, bad_answer}
use Rattle.ltx_script.proofs.parse.parse_line.Goals as goal

pub returns-then-line-gt-MOST_BYTES : goal.returns-then-line-gt-MOST_BYTES
returns-then-line-gt-MOST_BYTES c =
    let a = long_answer c.args.line.now c.if-line-gt-MOST_BYTES.true in
    record { found = a.found; cause = a.cause; again = a.again; exact = a.exact }

pub returns-in-Ok : goal.returns-in-Ok
returns-in-Ok c =
    let a = good_answer c.args.line.now c.cut.result.0.now (words_after (option_copied c.cut.result.1)) c.command_of.new.command
    c.if-line-gt-MOST_BYTES.false c.cut.ensures.parts c.in-Ok.ensures in
    record { found = a.found; cause = a.cause; again = a.again; exact = a.exact }

pub returns : goal.returns
returns c =
    let a = bad_answer c.args.line.now c.cut.result.0.now (words_after (option_copied c.cut.result.1)) c.in-Err-Cause.cause c.first_cause.result
    c.if-line-gt-MOST_BYTES.false c.cut.ensures.parts (rw c.in-Err-Cause.field-0-is at c.in-Err-Cause.ensures) c.first_cause.ensures in
    record { found = a.found; cause = a.cause; again = a.again; exact = a.exact }
