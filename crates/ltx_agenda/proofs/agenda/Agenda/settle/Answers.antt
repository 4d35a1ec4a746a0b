use Rattle.std.proofs.Common.{ap, ◌∙◌}
use Rattle.ltx_agenda.specs.Placed.{Listed}
use Rattle.ltx_agenda.proofs.Settling.{all_settled, lanes_settled}
use Rattle.ltx_agenda.proofs.agenda.Agenda.settle.Goals as goal

pub invariant_of-self : goal.invariant_of-self
invariant_of-self c =
    all_settled _ _ _ _ _ _ _ c.self.invariant c.empty_into.new.self c.empty_into.new.flat.items _ c.close_lanes-self-inside.new.lens.items _ c.close_lanes-self-inside.result
    c.close_lanes-self-inside.ensures.as_many c.close_lanes-self-inside.ensures.listed c.empty_into.ensures.items c.empty_into.ensures.capacity c.close_lanes-self-inside.ensures.lens c.close_lanes-self-inside.ensures.capacity c.close_lanes-self-inside.ensures.open
    c.empty_into.ensures.list c.empty_into.ensures.ends c.empty_into.ensures.room

pub returns-clause-lanes : goal.returns-clause-lanes
returns-clause-lanes c =
    lanes_settled c.self.inside.settled.items c.self.inside.lens.items c.self.inside.lanes c.empty_into.new.self c.self.inside.open c.empty_into.new.flat.items c.close_lanes-self-inside.new.lens.items c.self.invariant.fits
    c.close_lanes-self-inside.ensures.as_many c.close_lanes-self-inside.ensures.listed c.empty_into.ensures.items c.close_lanes-self-inside.ensures.lens c.empty_into.ensures.runs c.empty_into.ensures.ends ∙ ap (λ (v : Listed). v.lanes) c.self.view_is
