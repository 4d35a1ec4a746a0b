use Rattle.std.proofs.Common.{◌≡◌, IfOk, ℕ, List, Option, subst}
use Rattle.ltx_model.specs.Notes.{AreNotes}
use Rattle.ltx_model.specs.States.{Step}
use Rattle.ltx_model.specs.Verdicts.{IsVerdict}
use Rattle.ltx_store.specs.Kept.{rows_at, latest_rows}
use Rattle.ltx_validate.specs.Verdicts.{verdict_of, AreMarkedAt, AreHolders}
use Rattle.ltx_open.specs.declared.stage.Stage.TheVariants as stages
use Rattle.ltx_open.specs.Views.{OpenView}
use Rattle.ltx_open.proofs.open.Open.verdict.Goals as goal

pub returns : goal.returns
returns c = subst (λ (a : OpenView). IfOk c.verdict.result (λ verdict. a.stage ≡ stages.Short → (steps : List Step) → AreNotes steps a.notes.notes → AreMarkedAt (λ mark. rows_at mark c.args.store.now) steps a.notes.marks → (holder : ℕ → Option ℕ) → AreHolders c.args.preserve.now holder
    → IsVerdict holder (latest_rows c.args.store.now) steps (verdict_of verdict))) c.self.view_is c.verdict.ensures
