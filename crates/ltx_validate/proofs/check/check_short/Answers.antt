use Rattle.std.proofs.lemmas.Result.{IfOk-weaker}
use Rattle.ltx_validate.specs.Verdicts.{verdict_of}
use Rattle.ltx_validate.proofs.HeldTables.{unheld, least_held, judged}
use Rattle.ltx_validate.proofs.check.check_short.Goals as goal

pub returns-in-Some : goal.returns-in-Some
returns-in-Some g c = record {
  verdict = λ steps are marked holder holders.
      least_held c.args.preserve.now c.args.tx.now.notes c.touched.result c.touched.ensures.members c.touched.ensures.within steps are holder holders _ _ c.in-Some.ensures.some;
}

pub returns : goal.returns
returns g c = record {
  verdict = IfOk-weaker c.first_change.result _ _ (λ verdict is steps are marked holder holders.
      judged holder (g.L.Latest.rows c.args.latest.now) steps (verdict_of verdict)
      (unheld c.args.preserve.now c.args.tx.now.notes c.touched.result c.touched.ensures.members c.touched.ensures.within steps are holder holders c.in_default.ensures.none) (is steps are marked)) c.first_change.ensures;
}
