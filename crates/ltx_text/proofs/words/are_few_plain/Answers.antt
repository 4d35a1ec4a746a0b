use Rattle.std.proofs.Common.{◌∙◌}
use Rattle.ltx_text.specs.Words.{is_plain}
use Rattle.ltx_text.proofs.WordLemmas.{ends_tell}
use Rattle.ltx_text.proofs.words.are_few_plain.Goals as goal

pub returns : goal.returns
returns c =
    let first = c.in-Some.ensures.cases in
    let last = c.in-Some-last_chunk.ensures.cases in
    c.are_eight_plain.ensures ∙ ends_tell is_plain _ _ c.args.bytes.now first.same last.1.same first.enough c.requires
