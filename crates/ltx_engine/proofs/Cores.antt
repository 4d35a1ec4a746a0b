-- What a core that stands for a history has of its state.
use Rattle.std.proofs.Common.{◌≡◌, ◌+◌, ◌<◌, List, [], ◌∷◌, ◌++◌, sym, ap, ◌∙◌, subst, arith}
use Rattle.ltx_model.specs.declared.replies.Entry.{Entry}
use Rattle.ltx_model.specs.States.{Base, State, first_state}
use Rattle.ltx_model.specs.Histories.{after, state}
use Rattle.ltx_model.proofs.OneMore.{state-push}
use Rattle.ltx_core.specs.Views.{Counters, CoreView}
use Rattle.ltx_core.specs.Logged.{IsLogged}
use Rattle.ltx_core.specs.Stands.{StandsAt, StandsFor}

module _ (core : CoreView) (base : Base) (history : List Entry) (stands : StandsFor core base history) where
  abbrev s : State
  s = state base history

  pub core_epoch : core.counters.epoch ≡ s.epoch
  core_epoch = ap (λ (c : Counters). c.epoch) stands.at.counters

  pub core_durable : core.log.durable ≡ s.durable
  core_durable = stands.logged.durable

  -- a frame must be written
  pub must_there : core.log.durable + 1 < core.counters.epoch → s.durable + 1 < s.epoch
  must_there must = omega (arith, must, core_epoch, core_durable)

  -- an entry that changes nothing
  pub core_quiet : (entry : Entry) → after s entry ≡ s → StandsFor core base (history ++ entry ∷ [])
  core_quiet entry same =
      let there : s ≡ state base (history ++ entry ∷ []) = sym (state-push (first_state base) history entry ∙ same) in
      record { at = subst (StandsAt core) there stands.at; logged = subst (IsLogged core.log) there stands.logged }
