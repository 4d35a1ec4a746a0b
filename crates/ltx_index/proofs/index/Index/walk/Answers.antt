use Rattle.std.proofs.Common.{◌≡◌, ◌∷◌, [], drop, rules, sym, ◌∙◌, ap, ◌++◌}
use Rattle.std.proofs.lemmas.List.{nil_from_length}
use Rattle.ltx_index.specs.Leaves.{pairs_of}
use Rattle.ltx_index.proofs.Leaves.{pairs_from-home, pairs_from-nowhere}
use Rattle.ltx_index.proofs.index.Index.walk.Goals as goal

pub returns-in-Some-clause-pairs : goal.returns-in-Some-clause-pairs
returns-in-Some-clause-pairs g c =
    let leaves = c.self.inside.leaves.items in
    let home = rw c.deref.ensures.value at c.home-at.ensures in
    let rest : drop c.home-at.result leaves ≡ c.in-Some.leaf.now ∷ c.in-Some.later.now = search rules in
    rw (← c.self.view_is) (c.along.ensures ∙ ap (λ pairs. pairs ++ pairs_of c.in-Some.later.now) c.parts_from.ensures.parts ∙ sym (pairs_from-home c.args.from.now c.args.strict leaves c.home-at.result c.in-Some.leaf.now c.in-Some.later.now home rest))

pub returns-in-None-clause-pairs : goal.returns-in-None-clause-pairs
returns-in-None-clause-pairs g c =
    let leaves = c.self.inside.leaves.items in
    let home = rw c.deref.ensures.value at c.home-at.ensures in
    let rest : drop c.home-at.result leaves ≡ [] = sym (rw c.deref-2.ensures.value at c.behind.ensures) ∙ nil_from_length c.behind.result.now c.in-None.ensures.cases in
    rw (← c.self.view_is) (c.along-in-None.ensures ∙ sym (pairs_from-nowhere c.args.from.now c.args.strict leaves c.home-at.result home rest))
