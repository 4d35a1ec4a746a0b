use Rattle.std.proofs.Common.{◌≡◌, ◌+◌, ◌≤◌, arith, rules}
use Rattle.ltx_script.proofs.Spellings.{member_start, member_step, member_end}
use Rattle.ltx_text.proofs.Fronts.{kept_front}
use Rattle.ltx_script.proofs.sets.put_tables.Goals as goal

pub returns-in_err-put_member-clause-front : goal.returns-in_err-put_member-clause-front
returns-in_err-put_member-clause-front c =
    kept_front _ _ _ _ c.loop-n.invariant.text c.put_member.ensures.front

pub loop-n-init : goal.loop-n-init
loop-n-init c = record {
  text = let same : c.from.result ≡ c.args.least = search rules in let next : c.number-n.result + 1 ≡ c.args.least + 1 = search rules in member_start _ _ _ _ c.from.result _ same next c.in_ok-put_decimal.ensures.ok;
  above = omega arith;
}

pub loop-n-preserved : goal.loop-n-preserved
loop-n-preserved c = record {
  text = let same : c.in-Some.table ≡ c.loop-n.n = search rules in member_step _ _ _ _ _ _ c.in-Some.table c.loop-n.invariant.text c.loop-n.invariant.above same c.in_ok-put_member.ensures.ok;
  above = omega (arith, c.loop-n.invariant.above);
}

pub returns-clause-ok : goal.returns-clause-ok
returns-clause-ok c =
    let within : c.loop-n.n ≤ 64 = search rules in
    member_end _ _ _ _ _ c.loop-n.invariant.above c.loop-n-test.false within c.loop-n.invariant.text
