-- A verdict on the same notes and marks.
use Rattle.std.proofs.Common.{◌≡◌, ℕ, List, Option, Result, Ok, Err, IfOk, subst}
use Rattle.ltx_model.specs.declared.looked.Noted.{Noted}
use Rattle.ltx_model.specs.declared.memory.NoMemory.{NoMemory}
use Rattle.ltx_model.specs.Holders.{Holder}
use Rattle.ltx_model.specs.Notes.{AreNotes}
use Rattle.ltx_model.specs.States.{Step}
use Rattle.ltx_model.specs.Verdicts.{IsVerdict}
use Rattle.ltx_store.specs.Kept.{Kept, rows_at, latest_rows}
use Rattle.ltx_validate.specs.declared.check.Verdict.{Verdict}
use Rattle.ltx_validate.specs.Verdicts.{verdict_of, AreMarkedAt, AreHolders}

-- what a verdict says of steps with these notes and marks
abbrev pub Judges : List Kept → List Holder → List Noted → List ℕ → Verdict → Type 0
Judges store holders notes marks verdict = (steps : List Step) → AreNotes steps notes → AreMarkedAt (λ mark. rows_at mark store) steps marks → (holder : ℕ → Option ℕ) → AreHolders holders holder → IsVerdict holder (latest_rows store) steps (verdict_of verdict)

pub judged_so : (r : Result Verdict NoMemory) (P : Type 0) (store : List Kept) (holders : List Holder) (notes more : List Noted) (marks others : List ℕ) → notes ≡ more → marks ≡ others
    → IfOk r (Judges store holders notes marks) → IfOk r (λ verdict. P → Judges store holders more others verdict)
judged_so (Ok v) P store holders notes more marks others same level judged =
    λ p. subst (λ ms. Judges store holders more ms v) level (subst (λ ns. Judges store holders ns marks v) same judged)
judged_so (Err e) P store holders notes more marks others same level judged = tt
