-- What a refused opening leaves.
use Rattle.std.proofs.Common.{◌≡◌, ◌++◌, ◌∷◌, [], ⊎_elim, inl, inr, ℕ, List, Option, sym, ◌∙◌}
use Rattle.ltx_model.specs.Contents.{Placed}
use Rattle.ltx_model.specs.Recovery.{Unlawful, IsFirstUnlawful}
use Rattle.ltx_log.specs.declared.fault.OpenFault.{OpenFault}
use Rattle.ltx_log.specs.declared.fault.OpenFault.TheVariants as logs
use Rattle.ltx_log.specs.Causes as log_causes
use Rattle.ltx_log.specs.Running.{FindsOrMakes}
use Rattle.ltx_recover.specs.declared.fault.RecoverFault.{RecoverFault}
use Rattle.ltx_recover.specs.declared.fault.RecoverFault.TheVariants as recoveries
use Rattle.ltx_recover.specs.Frames.{IsAtFirst}
use Rattle.ltx_engine.specs.Causes.{LeavesContent, UnlessDiskFault}
use Rattle.ltx_engine.specs.declared.fault.EngineOpenFault.TheVariants as opening
use Rattle.ltx_engine.specs.Faults.{of_log, of_recovery}

-- ---- a fault of the log

pub log_leaves : (old new : Option (List ℕ)) (fault : OpenFault) → log_causes.UnlessDiskFault (new ≡ old) fault → LeavesContent old new (of_log fault)
log_leaves old new logs.NotALog same = same
log_leaves old new (logs.Damaged at) same = same
log_leaves old new logs.DiskFault same = tt
log_leaves old new logs.NoMemory same = inl same

pub log_unless : (P : Type 0) (fault : OpenFault) → log_causes.UnlessDiskFault P fault → UnlessDiskFault P (of_log fault)
log_unless P logs.NotALog holds = holds
log_unless P (logs.Damaged at) holds = holds
log_unless P logs.DiskFault holds = tt
log_unless P logs.NoMemory holds = holds

-- ---- a fault of recovery

no_event : (front back : List Placed) (placed : Placed) → [] ≡ front ++ placed ∷ back → ⊥
no_event [] back placed same = cc
no_event (p ∷ ps) back placed same = cc

none_unlawful : (frames : List Placed) (u : Unlawful) → frames ≡ [] → IsFirstUnlawful frames u → ⊥
none_unlawful frames u none first = no_event first.front first.back first.placed (sym none ∙ first.parts)

pub may_make : (old new : Option (List ℕ)) (frames : List Placed) → FindsOrMakes old new frames → LeavesContent old new opening.NoMemory
may_make old new frames found = ⊎_elim (λ same. inl same) (λ made. inr (record { blank = made.blank; made = made.made })) found

pub recovery_leaves : (old new : Option (List ℕ)) (frames : List Placed) (fault : RecoverFault) → FindsOrMakes old new frames → IsAtFirst frames fault → LeavesContent old new (of_recovery fault)
recovery_leaves old new frames (recoveries.Damaged at event) found first = ⊎_elim (λ same. same) (λ made. absurd (none_unlawful frames _ made.none first)) found
recovery_leaves old new frames recoveries.NoMemory found first = may_make old new frames found

pub recovery_unless : (P : Type 0) (fault : RecoverFault) → P → UnlessDiskFault P (of_recovery fault)
recovery_unless P (recoveries.Damaged at event) holds = holds
recovery_unless P recoveries.NoMemory holds = holds
