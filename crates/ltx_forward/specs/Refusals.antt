-- The first witness at a place as a refusal, and whom a batch waits for by whether there is one.
use Rattle.std.specs.Prelude.{◌≡◌, ℕ, Bool, true, false, Option, Some, None}
use Rattle.ltx_model.specs.States.{State, LiveBatch}
use Rattle.ltx_model.specs.Batches.{Refusal, HasWitness, overtaken_live, elder_reader}
use Rattle.ltx_model.specs.Decisions.{RefuseAt, IsFirstRefusal}
use Rattle.ltx_forward.specs.declared.decide.Decision.{Decision}
use Rattle.ltx_forward.specs.Asked.{decision_of}

-- The decision is a refusal with the first witness at the place before p.
pub record IsRefusalAt (s : State) (i : LiveBatch) (p : ℕ) (decision : Decision) : Type 0 where
  pub refusal : Refusal
  pub is : decision_of decision ≡ RefuseAt p refusal
  pub first : IsFirstRefusal s i p refusal

-- the refusal with the first witness at the place before p, or that no witness stands there
abbrev pub IsFoundRefusal : State → LiveBatch → ℕ → Option Decision → Type 0
IsFoundRefusal s i p None = HasWitness s i p → ⊥
IsFoundRefusal s i p (Some decision) = IsRefusalAt s i p decision

-- whom the batch waits for at the place before p, where a witness stands there and where none does
abbrev pub waits_by : State → LiveBatch → ℕ → Bool → Option ℕ
waits_by s i p true = overtaken_live s i
waits_by s i p false = elder_reader s i p
