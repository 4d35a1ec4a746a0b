use Rattle.std.proofs.Common.{◌≡◌, length, option_copied}
use Rattle.ltx_reply.specs.Readings.{rows_in}
use Rattle.ltx_text.specs.Cuts.{words_of, words_after}
use Rattle.ltx_reply.proofs.RowsRead.{joined}
use Rattle.ltx_reply.proofs.kinds.rows_in.Given as goal

abbrev pub invariant-loop-behind : goal.invariant-loop-behind
invariant-loop-behind l = rows_in (words_after (option_copied l.fn.rest)) ≡ joined l.rows.items (rows_in (words_of l.text))

abbrev pub decreases-loop-behind : goal.decreases-loop-behind
decreases-loop-behind l = length l.text
