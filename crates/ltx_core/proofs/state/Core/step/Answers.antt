use Rattle.ltx_core.proofs.LogSteps.{stands_for_same, stands_for_same_back}
use Rattle.ltx_open.proofs.Results.{if_ok, on_err_so}
use Rattle.ltx_core.proofs.state.Core.step.Goals as goal

pub returns-clause-reply : goal.returns-clause-reply
returns-clause-reply c = if_ok _ _ (λ reply does base history sound legal stands. (does.steps base history sound legal stands.at).reply_is) c.apply.result c.apply.ensures.ok

pub returns-clause-stands : goal.returns-clause-stands
returns-clause-stands c =
    if_ok _ _ (λ reply does base history sound legal stands. record { at = (does.steps base history sound legal stands.at).stands; logged = does.logs base history sound legal stands }) c.apply.result c.apply.ensures.ok

pub returns-clause-kept : goal.returns-clause-kept
returns-clause-kept c = on_err_so _ _ (λ same base history. stands_for_same c.args.self.now c.apply.new.self base history same) c.apply.result c.apply.ensures.err

pub returns-clause-kept_back : goal.returns-clause-kept_back
returns-clause-kept_back c = on_err_so _ _ (λ same base history. stands_for_same_back c.args.self.now c.apply.new.self base history same) c.apply.result c.apply.ensures.err
