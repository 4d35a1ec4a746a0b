use Rattle.std.proofs.Common.{◌∙◌, ◌<◌, ◌++◌, ℕ, List, ap, sym, length, rules}
use Rattle.ltx_text.proofs.WordLemmas.{plain_word}
use Rattle.ltx_text.proofs.words.put_word.Goals as goal

pub returns-then-are_plain-clause-ok : goal.returns-then-are_plain-clause-ok
returns-then-are_plain-clause-ok c =
    let bytes = c.args.bytes.now in
    let some : 0 < length bytes = search rules in
    let word = plain_word bytes some (sym c.are_plain.ensures ∙ c.if-are_plain.true) in
    c.in_ok-extend_from_slice.ensures.items ∙ ap (λ (t : List ℕ). c.args.out.now.items ++ t) (sym word)
