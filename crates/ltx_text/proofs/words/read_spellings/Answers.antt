use Rattle.std.proofs.Common.{◌<◌, ap, arith, length, rules}
use Rattle.ltx_text.proofs.WordLemmas.{broken_text, spelling_lengthens}
use Rattle.ltx_text.proofs.words.read_spellings.Goals as goal

pub returns-in_default-clause-none : goal.returns-in_default-clause-none
returns-in_default-clause-none c =
    let some : 0 < length c.loop-rest.rest.now = search rules in
    λ bytes low. broken_text c.loop-rest.bytes.items c.loop-rest.rest.now c.args.text.now bytes c.loop-rest.invariant some c.in_default.ensures.none low

pub loop-rest-smaller : goal.loop-rest-smaller
loop-rest-smaller c =
    omega (arith, ap length c.in-Some.ensures.found, spelling_lengthens c.in-Some.byte c.in-Some.after.now)
