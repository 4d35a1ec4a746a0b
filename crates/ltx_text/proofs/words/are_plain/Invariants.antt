use Rattle.std.proofs.Common.{◌≡◌, length}
use Rattle.std.specs.List.{list_all}
use Rattle.ltx_text.specs.Words.{is_plain}
use Rattle.ltx_text.proofs.words.are_plain.Given as goal

abbrev pub invariant-loop-eight : goal.invariant-loop-eight
invariant-loop-eight l = list_all is_plain l.rest ≡ list_all is_plain l.bytes

abbrev pub decreases-loop-eight : goal.decreases-loop-eight
decreases-loop-eight l = length l.rest
