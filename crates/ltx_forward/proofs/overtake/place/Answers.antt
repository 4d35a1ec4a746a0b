use Rattle.std.proofs.Common.{sym, ap, ◌∙◌, subst}
use Rattle.ltx_model.specs.Decisions.{place_by, IsPlace}
use Rattle.ltx_forward.proofs.Placeable.{placeable}
use Rattle.ltx_forward.proofs.overtake.place.Goals.{in-Some, in-None}
use Rattle.ltx_forward.proofs.overtake.place.Goals as goal

pub target_of-requires : goal.target_of-requires
target_of-requires c = record { placeable = placeable c.args.tx.now c.args.writes.now c.args.lives.now c.args.records.now c.args.agenda.now c.requires.asked }

pub returns-clause-value : goal.returns-clause-value
returns-clause-value c s i asked = elim c.match-branch-2.branch [
  | in-Some w ↦ w.result-is ∙ ap place_by (sym w.in-Some.is ∙ c.in_ok-target.ensures.target s i c.args.writes.now asked)
  | in-None w ↦ w.result-is ∙ ap place_by (sym w.in-None.is ∙ c.in_ok-target.ensures.target s i c.args.writes.now asked)
]

pub returns-clause-relation : goal.returns-clause-relation
returns-clause-relation c s i asked = elim c.match-branch-2.branch [
  | in-Some w ↦ subst (IsPlace s i) (sym (w.result-is ∙ ap place_by (sym w.in-Some.is))) (c.in_ok-target.ensures.place s i c.args.writes.now asked)
  | in-None w ↦ subst (IsPlace s i) (sym (w.result-is ∙ ap place_by (sym w.in-None.is))) (c.in_ok-target.ensures.place s i c.args.writes.now asked)
]
