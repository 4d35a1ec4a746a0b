-- What a verdict on a short says of its steps, and what its notes, marks and holders must be for that.
use Rattle.std.specs.Prelude.{◌≡◌, ℕ, ◌<◌, List, [], ◌∷◌, Option, None}
use Rattle.ltx_model.specs.declared.rows.StoredRow.{StoredRow}
use Rattle.ltx_model.specs.Holders.{Holder, IsHeldBy}
use Rattle.ltx_model.specs.States.{Step}
use Rattle.ltx_model.specs.Verdicts as model
use Rattle.ltx_validate.specs.declared.check.Verdict.{Verdict}
use Rattle.ltx_validate.specs.declared.check.Verdict.TheVariants as verdicts

-- the verdict, with the held table or the change that it names
abbrev pub verdict_of : Verdict → model.Verdict
verdict_of verdicts.Pass = model.Passes
verdict_of (verdicts.Preserved table holder) = model.RefusedAsHeld (record { table = table; holder = holder })
verdict_of (verdicts.Changed op table key found current) = model.RefusedAsChanged (record { op = op; cell = record { table = table; key = key }; found = found; current = current })

-- the rows at the mark of each step's note are those on which the step was answered
abbrev pub AreMarkedAt : (ℕ → List StoredRow) → List Step → List ℕ → Type 0
AreMarkedAt rows_at [] [] = Unit {0}
AreMarkedAt rows_at (b ∷ bs) (m ∷ ms) = (rows_at m ≡ b.latest) × AreMarkedAt rows_at bs ms
AreMarkedAt rows_at bs ms = ⊥

-- these are the least holders of the tables
abbrev pub AreHolders : List Holder → (ℕ → Option ℕ) → Type 0
AreHolders hs holder = (table : ℕ) → table < 64 → IsHeldBy hs table (holder table)

-- nobody holds a table
abbrev pub nobody : ℕ → Option ℕ
nobody table = None
