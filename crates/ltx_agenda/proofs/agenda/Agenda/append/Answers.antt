use Rattle.std.proofs.Common.{◌≡◌, ◌<◌, ◌++◌, [], ◌∷◌, false, ap, ◌∙◌, sym, subst, arith}
use Rattle.ltx_model.specs.Listings.{is_member}
use Rattle.ltx_agenda.specs.Lanes.{at_end, cut, lanes_from}
use Rattle.ltx_agenda.specs.Runs.{rows_of}
use Rattle.ltx_agenda.specs.Placed.{Listed}
use Rattle.ltx_agenda.proofs.InLanes.{flat_appended}
use Rattle.ltx_agenda.proofs.Settling.{lane_appended, lanes_short}
use Rattle.ltx_agenda.proofs.agenda.Agenda.append.Goals as goal

pub invariant_of-self-else-is_empty : goal.invariant_of-self-else-is_empty
invariant_of-self-else-is_empty c =
    let room : 0 < c.self.inside.room = subst (λ (v : Listed). 0 < v.room) (sym c.self.view_is) c.requires.room in
    lane_appended _ _ _ _ _ _ _ c.self.invariant c.args.tx false c.append.new.self room (subst (λ (v : Listed). is_member v.list c.args.tx ≡ false) (sym c.self.view_is) c.requires.absent) c.append.ensures.list c.append.ensures.room c.append.ensures.ends

pub returns-then-is_empty-clause-lanes : goal.returns-then-is_empty-clause-lanes
returns-then-is_empty-clause-lanes c =
    let fits = c.self.invariant.fits in
    let none = c.is_empty.ensures.ends c.if-is_empty.true in
    ap (λ xs. cut xs c.self.inside.lens.items (lanes_from c.self.inside.lanes.ends (rows_of c.self.inside.lanes.runs))) c.push_reserved.ensures.items
    ∙ ap (λ es. cut (c.self.inside.settled.items ++ c.args.tx ∷ []) c.self.inside.lens.items (lanes_from es (rows_of c.self.inside.lanes.runs))) none
    ∙ flat_appended c.self.inside.settled.items c.self.inside.lens.items c.args.tx (omega arith)
    ∙ ap (λ es. at_end (cut c.self.inside.settled.items c.self.inside.lens.items (lanes_from es (rows_of c.self.inside.lanes.runs))) c.args.tx) (sym none)
    ∙ ap (λ (v : Listed). at_end v.lanes c.args.tx) c.self.view_is

pub returns-else-is_empty-clause-lanes : goal.returns-else-is_empty-clause-lanes
returns-else-is_empty-clause-lanes c =
    lanes_short c.self.inside.settled.items c.self.inside.lens.items c.self.inside.lanes c.append.new.self c.args.tx c.append.ensures.as_many c.append.ensures.rows c.append.ensures.ends ∙ ap (λ (v : Listed). at_end v.lanes c.args.tx) c.self.view_is
