-- The first witnesses against the place of a live batch.
use Rattle.std.specs.Prelude.{ℕ, Option, Some, None}
use Rattle.ltx_model.specs.States.{State, LiveBatch}
use Rattle.ltx_model.specs.Batches as batches
use Rattle.ltx_model.specs.Batches.{IsLate, IsFirstLate, IsContradicted, IsFirstContradicted}
use Rattle.ltx_forward.specs.declared.witness.Witness.{Witness}

-- a witness, as the definitions see it
abbrev pub seen : Witness → batches.Witness
seen w = record { op = w.op; cell = record { table = w.table; key = w.key }; other = w.other }

-- the first late witness at the place before p, or that there is none
abbrev pub IsFoundLate : State → LiveBatch → ℕ → Option Witness → Type 0
IsFoundLate s i p None = (w : batches.Witness) → IsLate s i p w → ⊥
IsFoundLate s i p (Some w) = IsFirstLate s i p (seen w)

-- the first contradicted witness at the place before p, or that there is none
abbrev pub IsFoundContradicted : State → LiveBatch → ℕ → Option Witness → Type 0
IsFoundContradicted s i p None = (w : batches.Witness) → IsContradicted s i p w → ⊥
IsFoundContradicted s i p (Some w) = IsFirstContradicted s i p (seen w)
