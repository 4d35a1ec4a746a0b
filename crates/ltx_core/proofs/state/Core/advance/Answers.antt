use Rattle.std.proofs.Common.{◌++◌, map, refl, ap, ◌∙◌, inr}
use Rattle.ltx_model.specs.Frames.{SlotEvent}
use Rattle.ltx_core.specs.Epochs.{pending_numbers}
use Rattle.ltx_core.proofs.Begun.{for_view, stays_for_view}
use Rattle.ltx_core.proofs.Advanced.{advance_full, advance_answered, advanced_core, standing_slots}
use Rattle.ltx_core.proofs.state.Core.advance.Goals as goal

pub returns-then-self : goal.returns-then-self
returns-then-self c = stays_for_view _ _ _ _ c.self.view_is (advance_full _ c.if-self.true) (inr tt)

pub append_slots-requires-clause-fresh : goal.append_slots-requires-clause-fresh
append_slots-requires-clause-fresh c = standing_slots _ c.self.invariant.standing

pub invariant_of-self : goal.invariant_of-self
invariant_of-self c =
    advanced_core _ _ c.self.invariant c.if-self.false
    (record {
      counters = refl;
      list = c.append_slots.ensures.list;
      room = c.append_slots.ensures.room;
      commits = refl;
      batch = refl;
      store = refl;
      preserve = c.go_live_all.ensures;
      opens = c.go_live.ensures;
      records = refl;
      areas = refl;
      durable = refl;
      closed = c.keep_slots.ensures.closed ∙ c.close.ensures.closed;
      present = c.keep_slots.ensures.present ∙ ap (λ es. es ++ map SlotEvent (pending_numbers c.self.inside.preserve)) c.close.ensures.present;
      spare = c.keep_slots.ensures.room ∙ c.close.ensures.room;
      last = c.keep_slots.ensures.last ∙ c.close.ensures.last;
    })

pub returns : goal.returns
returns c =
    for_view _ _ _ _ _ c.self.view_is
    (advance_answered _ _ c.self.invariant.within.marks c.if-self.false
    (record {
      counters = refl;
      list = c.append_slots.ensures.list;
      room = c.append_slots.ensures.room;
      commits = refl;
      batch = refl;
      store = refl;
      preserve = c.go_live_all.ensures;
      opens = c.go_live.ensures;
      records = refl;
      areas = refl;
      durable = refl;
      closed = c.keep_slots.ensures.closed ∙ c.close.ensures.closed;
      present = c.keep_slots.ensures.present ∙ ap (λ es. es ++ map SlotEvent (pending_numbers c.self.inside.preserve)) c.close.ensures.present;
      spare = c.keep_slots.ensures.room ∙ c.close.ensures.room;
      last = c.keep_slots.ensures.last ∙ c.close.ensures.last;
    }))
