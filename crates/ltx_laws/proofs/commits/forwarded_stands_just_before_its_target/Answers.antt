use Rattle.std.proofs.Common.{[], sym, subst}
use Rattle.ltx_model.specs.Agenda.{Committed}
use Rattle.ltx_model.specs.States.{transaction_of}
use Rattle.ltx_laws.specs.Commits.{StandsJustBefore}
use Rattle.ltx_laws.proofs.PlacesByCommit.{before_placed, state_then}
use Rattle.ltx_laws.proofs.commits.forwarded_stands_just_before_its_target.Goals as goal

pub returns : goal.returns
returns c = record {
  placed = λ built base history entry sound legal o target commit printed.
      subst (λ s. StandsJustBefore s.agenda (Committed (transaction_of o)) target) (sym (state_then built base history [] entry sound legal)) (before_placed built base history [] entry sound legal o commit target printed);
}
