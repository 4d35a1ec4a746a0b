use Rattle.std.proofs.Common.{[]}
use Rattle.ltx_text.proofs.LineLemmas.{Cuts-then}
use Rattle.ltx_text.proofs.LineGiven.{gave_last, gave_line}
use Rattle.ltx_text.proofs.lines.Lines.take_line.Goals as goal

pub returns-in-Some-clause-cuts : goal.returns-in-Some-clause-cuts
returns-in-Some-clause-cuts g c =
    let first = rw c.in-Some.is at c.in_ok-at.ensures.found in
    Cuts-then _ _ _ _ _ _ [] _ c.fill.ensures.cuts
    (gave_line c.give_line.result _ c.give_line.new.self _ c.in-Some.at first c.give_line.ensures.piece c.give_line.ensures.state c.give_line.ensures.err)

pub returns-in-None-clause-cuts : goal.returns-in-None-clause-cuts
returns-in-None-clause-cuts g c =
    let end = rw c.in-None.is at c.in_ok-at.ensures.found in
    Cuts-then _ _ _ _ _ _ [] _ c.fill.ensures.cuts
    (gave_last c.give_last.result _ c.give_last.new.self _ end.2 end.1 c.give_last.ensures.piece c.give_last.ensures.state c.give_last.ensures.err)
