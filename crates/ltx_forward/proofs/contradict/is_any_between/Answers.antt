use Rattle.std.proofs.Common.{◌≤◌, ℕ, List, take, sym, subst, arith, Contains}
use Rattle.ltx_model.specs.Listings.{place_of}
use Rattle.ltx_forward.proofs.EarliestReaders.{front_more, front_all, none_more}
use Rattle.ltx_forward.proofs.contradict.is_any_between.Goals.{else-not-before-via-then-not-before+else-before, else-not-before-via-else-not-before}
use Rattle.ltx_forward.proofs.contradict.is_any_between.Goals as goal

pub loop-member-preserved : goal.loop-member-preserved
loop-member-preserved c =
    let list : List ℕ = c.args.agenda.now.list in
    let own : place_of list c.args.p ≤ place_of list c.member-item.result → place_of list c.args.r ≤ place_of list c.member-item.result = elim c.else-not-before.branch [
      | else-not-before-via-then-not-before+else-before w ↦ λ least. grind (arith, w.before-then-not-before.ensures, w.if-before.false)
      | else-not-before-via-else-not-before w ↦ λ least. grind (arith, c.before-in-loop-member.ensures, w.if-not-before.false, least)
    ] in
    subst (λ ns. (n : ℕ) → Contains ns n → place_of list c.args.p ≤ place_of list n → place_of list c.args.r ≤ place_of list n)
    (sym (front_more c.args.members.now c.loop-member.member-index c.member-item.result c.loop-member-test.true c.member-item.is))
    (none_more list c.args.p c.args.r (take c.loop-member.member-index c.args.members.now) c.member-item.result c.loop-member.invariant own)

pub returns : goal.returns
returns c =
    let list : List ℕ = c.args.agenda.now.list in
    let none : (n : ℕ) → Contains c.args.members.now n → place_of list c.args.p ≤ place_of list n → place_of list c.args.r ≤ place_of list n =
    subst (λ ns. (n : ℕ) → Contains ns n → place_of list c.args.p ≤ place_of list n → place_of list c.args.r ≤ place_of list n)
    (front_all c.args.members.now c.loop-member.member-index c.loop-member-test.false) c.loop-member.invariant in
    ((λ e. let no : ⊥ = cc in absurd no), (λ found. let behind = none found.0 found.1 found.2 in let ahead = found.3 in absurd (let no : ⊥ = omega (arith, behind, ahead) in no)))
