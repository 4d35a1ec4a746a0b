use Rattle.std.proofs.Common.{◌≡◌, ◌<◌, ◌++◌, [], ◌∷◌, true, false, ap, ◌∙◌, sym, subst}
use Rattle.ltx_model.specs.Listings.{is_member}
use Rattle.ltx_agenda.specs.Lanes.{at_end}
use Rattle.ltx_agenda.specs.Placed.{Listed}
use Rattle.ltx_agenda.proofs.Settling.{lane_appended, lanes_slot}
use Rattle.ltx_agenda.proofs.agenda.Agenda.append_slot.Goals as goal

pub invariant_of-self : goal.invariant_of-self
invariant_of-self c =
    let room : 0 < c.self.inside.room = subst (λ (v : Listed). 0 < v.room) (sym c.self.view_is) c.requires.room in
    lane_appended _ _ _ _ _ _ _ c.self.invariant c.args.tx true c.append.new.self room (subst (λ (v : Listed). is_member v.list c.args.tx ≡ false) (sym c.self.view_is) c.requires.absent) c.append.ensures.list c.append.ensures.room c.append.ensures.ends

pub returns-clause-lanes : goal.returns-clause-lanes
returns-clause-lanes c =
    lanes_slot c.self.inside.settled.items c.self.inside.lens.items c.self.inside.lanes c.append.new.self c.args.tx c.append.ensures.as_many c.append.ensures.rows c.append.ensures.ends
    ∙ ap (λ (v : Listed). at_end v.lanes c.args.tx ++ [] ∷ []) c.self.view_is
