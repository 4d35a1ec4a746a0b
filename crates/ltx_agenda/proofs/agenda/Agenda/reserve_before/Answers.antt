use Rattle.std.proofs.Common.{sym, subst}
use Rattle.ltx_agenda.specs.Placed.{Listed, HasRoomBefore}
use Rattle.ltx_agenda.proofs.agenda.Agenda.reserve_before.Goals as goal

pub returns-in_ok-reserve_before-clause-kept : goal.returns-in_ok-reserve_before-clause-kept
returns-in_ok-reserve_before-clause-kept c = λ n room. c.in_ok-reserve_before.ensures.kept n (subst (λ (v : Listed). HasRoomBefore v.runs n) (sym c.self.view_is) room)
