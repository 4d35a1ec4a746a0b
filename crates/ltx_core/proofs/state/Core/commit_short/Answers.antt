use Rattle.std.proofs.Common.{ap}
use Rattle.ltx_validate.specs.Verdicts.{verdict_of}
use Rattle.ltx_core.proofs.CommitFields.{held_steps, held_core, changed_steps, changed_core, may_commit}
use Rattle.ltx_core.proofs.state.Core.commit_short.Goals as goal

pub accept-requires : goal.accept-requires
accept-requires c = record {
  passes = may_commit _ _ c.self.view_is c.args.session c.requires.short c.in-Some.open.now c.in-Some.ensures (verdict_of c.in_ok-verdict.field-0) c.in_ok-verdict.ensures (ap verdict_of c.in-Pass.is);
}

pub invariant_of-self : goal.invariant_of-self
invariant_of-self c =
    held_core _ _ c.self.view_is c.args.session c.requires.short c.in-Some.open.now c.in-Some.ensures (verdict_of c.in_ok-verdict.field-0) c.in_ok-verdict.ensures c.take.new.self c.take.ensures.left _ (ap verdict_of c.in-Preserved.is) c.self.invariant

pub invariant_of-self-in-Changed : goal.invariant_of-self-in-Changed
invariant_of-self-in-Changed c =
    changed_core _ _ c.self.view_is c.args.session c.requires.short c.in-Some.open.now c.in-Some.ensures (verdict_of c.in_ok-verdict.field-0) c.in_ok-verdict.ensures c.take-in-Changed.new.self c.take-in-Changed.ensures.left _
    (ap verdict_of c.in-Changed.is) c.self.invariant

pub returns-in-Preserved-clause-ok : goal.returns-in-Preserved-clause-ok
returns-in-Preserved-clause-ok c =
    held_steps _ _ c.self.view_is c.args.session c.requires.short c.in-Some.open.now c.in-Some.ensures (verdict_of c.in_ok-verdict.field-0) c.in_ok-verdict.ensures c.take.new.self c.take.ensures.left _ (ap verdict_of c.in-Preserved.is)

pub returns-in-Changed-clause-ok : goal.returns-in-Changed-clause-ok
returns-in-Changed-clause-ok c =
    changed_steps _ _ c.self.view_is c.args.session c.requires.short c.in-Some.open.now c.in-Some.ensures (verdict_of c.in_ok-verdict.field-0) c.in_ok-verdict.ensures c.take-in-Changed.new.self c.take-in-Changed.ensures.left _
    (ap verdict_of c.in-Changed.is)
