use Rattle.std.proofs.Common.{◌≡◌, arith}
use Rattle.std.proofs.lemmas.Bool.Decides.{nat_tests}
use Rattle.ltx_agenda.proofs.Joined.{place_here, place_on, place_past}
use Rattle.ltx_agenda.proofs.flat.place.Goals as goal

pub returns-then-eq : goal.returns-then-eq
returns-then-eq c =
    let eq = c.eq.ensures in
    let is = c.if-eq.true in
    let same : c.index-flat-place.result ≡ c.args.tx = grind (arith, nat_tests) in
    place_here c.args.flat.now c.loop-place.place c.args.tx c.index-flat-place.result c.loop-place-test.true c.index-flat-place.is same c.loop-place.invariant

pub loop-place-preserved : goal.loop-place-preserved
loop-place-preserved c =
    let eq = c.eq.ensures in
    let is = c.if-eq.false in
    let differ : c.index-flat-place.result ≡ c.args.tx → ⊥ = grind (arith, nat_tests) in
    place_on c.args.flat.now c.loop-place.place c.args.tx c.index-flat-place.result c.loop-place-test.true c.index-flat-place.is differ c.loop-place.invariant

pub returns : goal.returns
returns c = place_past c.args.flat.now c.loop-place.place c.args.tx c.loop-place-test.false c.loop-place.auto.place-end c.loop-place.invariant
