use Rattle.std.proofs.Common.{refl, ap, subst}
use Rattle.ltx_forward.specs.Asked.{decision_of}
use Rattle.ltx_core.specs.Decided.{IsDecided}
use Rattle.ltx_core.proofs.PlacedCommits.{waiting_steps}
use Rattle.ltx_core.proofs.state.Core.carry_out.Goals as goal

pub commit_at-requires-clause-decided : goal.commit_at-requires-clause-decided
commit_at-requires-clause-decided c = subst (IsDecided c.args.self.now c.args.session) (ap decision_of c.in-Commit.is) c.requires.decided

pub returns-in-Waiting-clause-ok : goal.returns-in-Waiting-clause-ok
returns-in-Waiting-clause-ok c = waiting_steps c.args.self.now c.args.session c.requires.live c.in-Waiting.tx (subst (IsDecided c.args.self.now c.args.session) (ap decision_of c.in-Waiting.is) c.requires.decided)

pub refuse-requires-clause-refused : goal.refuse-requires-clause-refused
refuse-requires-clause-refused c = record { place = c.in-Late.target; refusal = _; decided = subst (IsDecided c.args.self.now c.args.session) (ap decision_of c.in-Late.is) c.requires.decided; reply_is = refl }

pub refuse-requires-in-Contradicts-clause-refused : goal.refuse-requires-in-Contradicts-clause-refused
refuse-requires-in-Contradicts-clause-refused c =
    record { place = c.in-Contradicts.target; refusal = _; decided = subst (IsDecided c.args.self.now c.args.session) (ap decision_of c.in-Contradicts.is) c.requires.decided; reply_is = refl }
