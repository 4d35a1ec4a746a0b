use Rattle.std.proofs.Common.{subst, sym, ◌∙◌}
use Rattle.ltx_model.specs.Limits.{AreBytes}
use Rattle.ltx_text.proofs.WordLemmas.{word_spelling_injective}
use Rattle.ltx_text.proofs.WordReadings.{no_bytes, bytes_again}
use Rattle.ltx_text.proofs.words.decode_word.Goals as goal

pub returns-in_default-clause-exact : goal.returns-in_default-clause-exact
returns-in_default-clause-exact c = let h = rw c.in_default.is at c.in_ok-bytes.ensures.none in no_bytes c.args.word.now h

pub returns-clause-again : goal.returns-clause-again
returns-clause-again c =
    let h = rw c.in-Some.is at c.in_ok-bytes.ensures.found in
    λ bytes low is. word_spelling_injective c.in-Some.bytes.items bytes (sym h ∙ is)

pub returns-clause-exact : goal.returns-clause-exact
returns-clause-exact c =
    let h = rw c.in-Some.is at c.in_ok-bytes.ensures.found in
    bytes_again c.args.word.now c.in-Some.bytes.items (subst AreBytes c.deref.ensures.value c.are_bytes.ensures) h
