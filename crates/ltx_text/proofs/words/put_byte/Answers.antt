use Rattle.std.proofs.Common.{arith}
use Rattle.std.proofs.lemmas.Grind.{common_steps}
use Rattle.ltx_text.proofs.WordLemmas.{plain_spelling, escaped_spelling}
use Rattle.ltx_text.proofs.words.put_byte.Goals as goal

pub returns-in_ok-push-clause-ok : goal.returns-in_ok-push-clause-ok
returns-in_ok-push-clause-ok c = grind (arith, common_steps, plain_spelling)

pub returns-in_ok-extend_from_slice-clause-ok : goal.returns-in_ok-extend_from_slice-clause-ok
returns-in_ok-extend_from_slice-clause-ok c = grind (arith, common_steps, escaped_spelling)
