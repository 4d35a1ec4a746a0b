use Rattle.std.proofs.Common.{length, refl, ap, ◌∙◌}
use Rattle.ltx_core.specs.Recorded.{areas_of_live}
use Rattle.ltx_core.proofs.PlacedCommits.{areas_all, askable, decided_so}
use Rattle.ltx_core.proofs.state.Core.commit_decided.Goals as goal

pub live_areas-requires : goal.live_areas-requires
live_areas-requires c = record { all = ap length c.deref.ensures.value ∙ areas_all _ c.self.invariant.standing }

pub decide-requires : goal.decide-requires
decide-requires c = record { asked = askable _ _ c.self.view_is c.args.session c.requires.live c.in-Some.open.now c.in-Some.ensures c.deref-2.result.now (c.deref-2.ensures.value ∙ c.in_ok-lives.ensures ∙ ap (areas_of_live c.self.inside.preserve) c.deref.ensures.value) c.self.inside.agenda refl c.self.invariant.standing }

pub carry_out-requires-clause-decided : goal.carry_out-requires-clause-decided
carry_out-requires-clause-decided c =
    decided_so _ _ c.self.view_is c.args.session c.requires.live c.in-Some.open.now c.in-Some.ensures c.deref-2.result.now (c.deref-2.ensures.value ∙ c.in_ok-lives.ensures ∙ ap (areas_of_live c.self.inside.preserve) c.deref.ensures.value) c.self.inside.agenda refl c.in_ok-decision.decision c.in_ok-decision.ensures
