-- The witnesses of batches in the states of legal histories.
use Rattle.std.proofs.Common.{◌≡◌, ℕ, Bool, List, Some, None}
use Rattle.ltx_model.specs.declared.commands.Line.{Line}
use Rattle.ltx_model.specs.declared.replies.Entry.{Entry}
use Rattle.ltx_model.specs.States.{Base, IsSound, State, LiveBatch}
use Rattle.ltx_model.specs.Histories.{state}
use Rattle.ltx_model.specs.Answers.{IsLegalWith}
use Rattle.ltx_model.specs.Batches.{target, Overtakes, IsTarget, first_late, IsLate, IsFirstLate, first_contradicted, IsContradicted, IsFirstContradicted, Witness, first_witness, HasWitness, waits, Waits}
use Rattle.ltx_laws.proofs.LiveStates.{structured}
use Rattle.ltx_laws.proofs.FirstLate.{first_late_is, none_late}
use Rattle.ltx_laws.proofs.FirstContradicted.{first_contradicted_is, none_contradicted}
use Rattle.ltx_laws.proofs.WaitsFor.{apart, target_is, waits_is, no_witness_stands}
use Rattle.ltx_laws.proofs.WitnessBatches.{none_overtaken, target_found_is, first_late_found, first_contradicted_found, waits_found}

module _ (built : State → Line → Bool) (base : Base) (history : List Entry) (sound : IsSound base) (legal : IsLegalWith built base history) (i : LiveBatch) where
  pub target_given : (p : ℕ) → target (state base history) i ≡ Some p → IsTarget (state base history) i p
  target_given = target_is base (state base history) (structured built base history sound legal) i

  pub target_found : (p : ℕ) → IsTarget (state base history) i p → target (state base history) i ≡ Some p
  target_found = target_found_is base (state base history) (structured built base history sound legal) i

  pub target_nowhere : target (state base history) i ≡ None → (p : ℕ) → Overtakes (state base history) i p → ⊥
  target_nowhere = none_overtaken base (state base history) (structured built base history sound legal) i

  pub late_given : (p : ℕ) (w : Witness) → first_late (state base history) i p ≡ Some w → IsFirstLate (state base history) i p w
  late_given p = first_late_is (state base history) i p

  pub late_found : (p : ℕ) (w : Witness) → IsFirstLate (state base history) i p w → first_late (state base history) i p ≡ Some w
  late_found p = first_late_found base (state base history) (structured built base history sound legal) i p

  pub late_nowhere : (p : ℕ) → first_late (state base history) i p ≡ None → (w : Witness) → IsLate (state base history) i p w → ⊥
  late_nowhere p = none_late (state base history) i p

  pub contradicted_given : (p : ℕ) (w : Witness) → first_contradicted (state base history) i p ≡ Some w → IsFirstContradicted (state base history) i p w
  contradicted_given p = first_contradicted_is (state base history) i p (apart base (state base history) (structured built base history sound legal) i)

  pub contradicted_found : (p : ℕ) (w : Witness) → IsFirstContradicted (state base history) i p w → first_contradicted (state base history) i p ≡ Some w
  contradicted_found p = first_contradicted_found base (state base history) (structured built base history sound legal) i p

  pub contradicted_nowhere : (p : ℕ) → first_contradicted (state base history) i p ≡ None → (w : Witness) → IsContradicted (state base history) i p w → ⊥
  contradicted_nowhere p = none_contradicted (state base history) i p (apart base (state base history) (structured built base history sound legal) i)

  pub waits_given : (p k : ℕ) → target (state base history) i ≡ Some p → waits (state base history) i p (first_witness (state base history) i p) ≡ Some k → Waits (state base history) i k
  waits_given p k goal = waits_is base (state base history) (structured built base history sound legal) i p goal k

  pub waits_found_at : (p k : ℕ) → target (state base history) i ≡ Some p → Waits (state base history) i k → waits (state base history) i p (first_witness (state base history) i p) ≡ Some k
  waits_found_at = waits_found base (state base history) (structured built base history sound legal) i

  pub witness_nowhere : (p : ℕ) → first_witness (state base history) i p ≡ None → HasWitness (state base history) i p → ⊥
  witness_nowhere p = no_witness_stands base (state base history) (structured built base history sound legal) i p
