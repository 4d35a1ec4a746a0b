use Rattle.std.proofs.Common.{ap, ◌∙◌, sym}
use Rattle.ltx_model.specs.Listings.{insert_before, without}
use Rattle.ltx_agenda.specs.Lanes.{lanes_without, lanes_insert}
use Rattle.ltx_agenda.specs.Placed.{Listed}
use Rattle.ltx_agenda.proofs.Settling.{lane_moved, list_lane_moved, lanes_moved}
use Rattle.ltx_agenda.proofs.agenda.Agenda.move_before.Goals as goal

pub invariant_of-self : goal.invariant_of-self
invariant_of-self c =
    lane_moved _ _ _ _ _ _ _ c.self.invariant c.args.tx c.args.target c.move_before.new.self (sym c.has.ensures.value ∙ c.if-has.true) c.move_before.ensures.list c.move_before.ensures.room c.move_before.ensures.ends

pub returns-then-has-2-clause-list : goal.returns-then-has-2-clause-list
returns-then-has-2-clause-list c =
    list_lane_moved _ _ _ _ _ _ _ c.self.invariant c.args.tx c.args.target c.move_before.new.self (sym c.has.ensures.value ∙ c.if-has.true) (sym c.has-then-has.ensures.value ∙ c.if-has-2.true) c.move_before.ensures.list
    ∙ ap (λ (v : Listed). insert_before c.args.tx c.args.target (without v.list c.args.tx)) c.self.view_is

pub returns-then-has-2-clause-lanes : goal.returns-then-has-2-clause-lanes
returns-then-has-2-clause-lanes c =
    let in_lanes = sym c.has.ensures.value ∙ c.if-has.true in
    let target = sym c.has-then-has.ensures.value ∙ c.if-has-2.true in
    lanes_moved c.self.inside.settled.items c.self.inside.lens.items c.self.inside.lanes c.move_before.new.self c.args.tx c.args.target (c.self.invariant.apart_from c.args.tx in_lanes) (c.self.invariant.apart_from c.args.target target)
    c.has.ensures.as_many c.move_before.ensures.rows c.move_before.ensures.ends ∙ ap (λ (v : Listed). lanes_insert c.args.tx c.args.target (lanes_without v.lanes c.args.tx)) c.self.view_is
