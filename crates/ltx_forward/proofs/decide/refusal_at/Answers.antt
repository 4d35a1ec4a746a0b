use Rattle.std.proofs.Common.{subst}
use Rattle.ltx_forward.specs.Witnesses.{IsFoundLate, IsFoundContradicted}
use Rattle.ltx_forward.proofs.Decided.{refusal_late, refusal_contradicts, refusal_none}
use Rattle.ltx_forward.proofs.decide.refusal_at.Goals as goal

pub returns-in-Some : goal.returns-in-Some
returns-in-Some c s i writes lives asked target =
    refusal_late s i c.args.p c.late.result c.in-Some.witness c.late.ensures (subst (IsFoundLate s i c.args.p) c.in-Some.is (c.in_ok-witness.ensures s i writes lives c.args.records.now asked target))

pub returns-in-Some-2 : goal.returns-in-Some-2
returns-in-Some-2 c s i writes lives asked target =
    refusal_contradicts s i c.args.p c.contradicts.result c.in-Some-2.witness c.contradicts.ensures (subst (IsFoundLate s i c.args.p) c.in_default.is (c.in_ok-witness.ensures s i writes lives c.args.records.now asked target))
    (subst (IsFoundContradicted s i c.args.p) c.in-Some-2.is (c.in_ok-witness-2.ensures s i writes lives asked target))

pub returns : goal.returns
returns c s i writes lives asked target =
    refusal_none s i c.args.p (subst (IsFoundLate s i c.args.p) c.in_default.is (c.in_ok-witness.ensures s i writes lives c.args.records.now asked target))
    (subst (IsFoundContradicted s i c.args.p) c.in_default-2.is (c.in_ok-witness-2.ensures s i writes lives asked target))
