use Rattle.std.proofs.Common.{◌∙◌, ap, sym, option_copied}
use Rattle.ltx_text.specs.Cuts.{words_after}
use Rattle.ltx_script.specs.Readers.{last_word}
use Rattle.ltx_script.proofs.LastWord.{plain_last}
use Rattle.ltx_script.proofs.cuts.last_word.Goals as goal

pub returns-then-are_plain : goal.returns-then-are_plain
returns-then-are_plain c =
    ap (λ r. last_word (words_after (option_copied r))) c.in-Some.is ∙ plain_last c.in-Some.text.now (sym c.if-are_plain.ensures)
