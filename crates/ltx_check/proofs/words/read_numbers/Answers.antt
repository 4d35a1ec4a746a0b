use Rattle.std.proofs.Common.{◌<◌, length, arith, rules}
use Rattle.std.proofs.lemmas.Grind.{common_steps}
use Rattle.ltx_check.specs.Words.{NoNumber}
use Rattle.ltx_check.proofs.Numbers.{one_pushed, no_numbers}
use Rattle.ltx_check.proofs.words.read_numbers.Goals as goal

pub returns-in-None-clause-none : goal.returns-in-None-clause-none
returns-in-None-clause-none c =
    let rest = c.loop-rest.rest.now in
    let some : 0 < length rest = grind (arith, common_steps) in
    let none : NoNumber rest = search rules in
    no_numbers c.args.text.now rest c.loop-rest.numbers.items c.loop-rest.invariant some none

pub loop-rest-preserved : goal.loop-rest-preserved
loop-rest-preserved c =
    one_pushed c.args.text.now c.loop-rest.rest.now _ c.loop-rest.numbers.items _ c.in-Some.tx (search rules) c.loop-rest.invariant (search rules) (search rules) (search rules)
