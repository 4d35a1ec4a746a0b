use Rattle.std.proofs.Common.{◌≡◌, [], ◌∷◌, sym, ap, ◌∙◌, rules}
use Rattle.ltx_reads.specs.Merges.{merged}
use Rattle.ltx_reads.proofs.Merged.{merged_nothing, no_items}
use Rattle.ltx_reads.proofs.merge.Merge.next.Goals as goal

pub returns-in_default-split_first-clause-some : goal.returns-in_default-split_first-clause-some
returns-in_default-split_first-clause-some c =
    let first : c.self.inside.first.now ≡ c.in-Some.x.now ∷ c.in-Some.past_x.now = search rules in
    let second : c.self.inside.second.now ≡ [] = no_items c.self.inside.second.now c.in_default-split_first.ensures.cases in
    sym c.self.view_is ∙ (λ i. merged (first i) (second i)) ∙ ap (λ l. c.in-Some.x.now ∷ l) (sym (merged_nothing c.in-Some.past_x.now) ∙ ap (merged c.in-Some.past_x.now) (sym second))
