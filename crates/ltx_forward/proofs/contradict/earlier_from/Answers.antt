use Rattle.std.proofs.Common.{◌≡◌, ◌<◌, ◌≤◌, ℕ, List, Some, refl, sym, ◌∙◌, subst, arith}
use Rattle.ltx_model.specs.Listings.{place_of}
use Rattle.ltx_lemmas.proofs.Lists.{some_same}
use Rattle.ltx_forward.proofs.EarliestReaders.{earliest_is}
use Rattle.ltx_forward.proofs.contradict.earlier_from.Goals.{in_default-via-in-Some+else-not-before, in_default-via-in_default}
use Rattle.ltx_forward.proofs.contradict.earlier_from.Goals as goal

pub returns-in_default : goal.returns-in_default
returns-in_default c ns found =
    let list : List ℕ = c.args.agenda.now.list in
    let from : place_of list c.args.p ≤ place_of list c.args.member = grind (arith, c.before-2.ensures, c.if-before.false) in
    let earlier : (n : ℕ) → c.args.earliest ≡ Some n → place_of list c.args.member < place_of list n = λ n is. elim c.in_default.branch [
      | in_default-via-in-Some+else-not-before w ↦ subst (λ k. place_of list c.args.member < place_of list k) (some_same (sym w.in-Some.is ∙ is)) (w.if-not-before.ensures.0 refl)
      | in_default-via-in_default w ↦ absurd (w.in_default.not-Some n is)
    ] in
    earliest_is list c.args.p ns c.args.earliest c.args.member from earlier found
