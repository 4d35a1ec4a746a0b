use Rattle.ltx_text.proofs.LineLemmas.{Cuts-nothing, Cuts-then}
use Rattle.ltx_text.proofs.LineGiven.{lent_line}
use Rattle.ltx_text.proofs.LineRuns.{given_all, given_below, given_front, given_taken, fewer_to_go}
use Rattle.ltx_text.proofs.lines.pieces_come_in_order.Goals as goal

pub returns : goal.returns
returns c = record { none = Cuts-nothing; more = Cuts-then; lent = lent_line; fewer = fewer_to_go; front = given_front; all = given_all; taken = given_taken; below = given_below }
