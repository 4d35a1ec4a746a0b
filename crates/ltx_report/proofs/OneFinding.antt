-- What is found on a disk, and that nothing else can be found on it.
use Rattle.std.proofs.Common.{◌≡◌, ℕ, List, [], Option, Some, None, inl, inr, ⊎_elim, refl, sym, ap, ◌∙◌, subst, arith}
use Rattle.std.specs.Prelude.{Bool, true, false, IfSome, slice_get}
use Rattle.ltx_model.specs.States.{Base, base_of}
use Rattle.ltx_model.specs.Restored.{Restored}
use Rattle.ltx_model.specs.Frames.{Frame}
use Rattle.ltx_model.specs.Contents.{Placed, first_gate, frames_in, IsBlank, IsLog, IsForeign, IsLogOf, IsFaultyAt}
use Rattle.ltx_model.specs.Recovery.{Unlawful, IsFirstUnlawful, IsUnlawfulAt, recovered, blank_base, IsRecovered, IsRecoveredLog}
use Rattle.ltx_recover.specs.Frames.{IsBaseOf}
use Rattle.ltx_log.specs.Readings.{IsReadAs}
use Rattle.ltx_log.proofs.OneLog.{log_once}
use Rattle.ltx_report.specs.declared.found.Found.{Found}
use Rattle.ltx_report.specs.declared.found.Found.TheVariants as founds
use Rattle.ltx_report.specs.declared.found.Refusal.TheVariants as refusals
use Rattle.ltx_report.specs.Findings.{IsFoundOn, IsOnly, Restores, GivesFrames}
use Rattle.ltx_report.proofs.OneReading.{no_fault, fault_once, unlawful_once, no_unlawful}

-- ---- what frames give is found on the disk

base_same : (r : Restored) (fs : List Frame) (gate : ℕ) → IsBaseOf r (recovered fs gate) → base_of r gate ≡ recovered fs gate
unfolding recovered
base_same r fs gate e = λ i. record { rows = e.rows i; durable = e.epoch i; last = e.last i; gate = gate }

blank_gives : recovered [] first_gate ≡ blank_base
unfolding recovered
blank_gives = refl

none_unlawful : (u : Unlawful) → IsFirstUnlawful [] u → ⊥
none_unlawful u first = no_unlawful [] u tt first

on_blank : (bytes : List ℕ) (found : Found) → IsBlank bytes → GivesFrames [] found → IsFoundOn bytes found
on_blank bytes (founds.Recovered r) blank gives = record { gate = first_gate; recovered = inl (blank, base_same r [] first_gate (gives.base first_gate) ∙ blank_gives) }
on_blank bytes (founds.Refused refusals.NotALog) blank gives = absurd gives
on_blank bytes (founds.Refused (refusals.Damaged at None)) blank gives = absurd gives
on_blank bytes (founds.Refused (refusals.Damaged at (Some event))) blank gives = absurd (none_unlawful (record { at = at; event = event }) gives)

on_log : (bytes : List ℕ) (frames : List Placed) (gate : ℕ) (found : Found) → IsLogOf bytes frames gate → GivesFrames frames found → IsFoundOn bytes found
on_log bytes frames gate (founds.Recovered r) log gives = record {
  gate = gate;
  recovered = inr (record { frames = frames; gate = gate; log = log; lawful = gives.lawful; base_is = base_same r (frames_in frames) gate (gives.base gate) });
}
on_log bytes frames gate (founds.Refused refusals.NotALog) log gives = absurd gives
on_log bytes frames gate (founds.Refused (refusals.Damaged at None)) log gives = absurd gives
on_log bytes frames gate (founds.Refused (refusals.Damaged at (Some event))) log gives = record { frames = frames; gate = gate; log = log; first = gives }

read_gives : (bytes : List ℕ) (blank : Bool) (frames : List Placed) (gate : ℕ) (found : Found) → IsReadAs bytes blank frames gate → GivesFrames frames found → IsFoundOn bytes found
read_gives bytes true frames gate found read gives = on_blank bytes found read.0 (subst (λ (ps : List Placed). GivesFrames ps found) read.1 gives)
read_gives bytes false frames gate found read gives = on_log bytes frames gate found read gives

pub told_gives : (o : Option (List ℕ)) (blank : Bool) (frames : List Placed) (gate : ℕ) (found : Found) → IfSome o (λ bytes. IsReadAs bytes blank frames gate) → GivesFrames frames found → IfSome o (λ bytes. IsFoundOn bytes found)
told_gives None blank frames gate found read gives = tt
told_gives (Some bytes) blank frames gate found read gives = read_gives bytes blank frames gate found read gives

-- ---- nothing else is

byte_once : (a b : ℕ) (o : Option ℕ) → o ≡ Some a → o ≡ Some b → a ≡ b
byte_once a b o is other = let same : Some a ≡ Some b = sym is ∙ other in cc

blank_no_log : (bytes : List ℕ) → IsBlank bytes → IsLog bytes → ⊥
blank_no_log bytes blank log = ⊎_elim
    (λ short. omega (arith, short, log.long))
    (λ more. ⊎_elim
    (λ header. let same : 0 ≡ 1 = byte_once 0 1 (slice_get bytes 0) header.1 log.open_gate in omega (arith, same))
    (λ unopened. unopened.shut log.open_gate)
    more)
    blank

base_once : (bytes : List ℕ) (a b : Base) → IsRecovered bytes a → IsRecovered bytes b → a ≡ b
base_once bytes a b first second = ⊎_elim
    (λ blank. ⊎_elim
    (λ still. blank.1 ∙ sym still.1)
    (λ log. absurd (blank_no_log bytes blank.0 log.log.log))
    second)
    (λ log. ⊎_elim
    (λ blank. absurd (blank_no_log bytes blank.0 log.log.log))
    (λ other. logs log other)
    second)
    first where
      logs : IsRecoveredLog bytes a → IsRecoveredLog bytes b → a ≡ b
      logs log other =
          let same = log_once bytes log.frames other.frames log.gate other.gate log.log other.log in
          log.base_is ∙ ap (λ (ps : List Placed). recovered (frames_in ps) log.gate) same.0 ∙ ap (recovered (frames_in other.frames)) same.1 ∙ sym other.base_is

restored_once : (bytes : List ℕ) (r s : Restored) → Restores bytes r → Restores bytes s → r ≡ s
restored_once bytes r s first second =
    let same : base_of r first.gate ≡ base_of s second.gate = base_once bytes (base_of r first.gate) (base_of s second.gate) first.recovered second.recovered in
    λ i. record { rows = (same i).rows; epoch = (same i).durable; last = (same i).last }

no_foreign : (bytes : List ℕ) (r : Restored) → IsForeign bytes → Restores bytes r → ⊥
no_foreign bytes r foreign restores = ⊎_elim (λ blank. foreign.0 blank.0) (λ log. foreign.1 log.log.log) restores.recovered

not_faulty : (bytes : List ℕ) (r : Restored) (at : ℕ) → Restores bytes r → IsFaultyAt bytes at → ⊥
not_faulty bytes r at restores faulty = ⊎_elim (λ blank. blank_no_log bytes blank.0 faulty.log) (λ log. no_fault bytes log.frames log.gate at log.log faulty) restores.recovered

not_unlawful : (bytes : List ℕ) (r : Restored) (u : Unlawful) → Restores bytes r → IsUnlawfulAt bytes u → ⊥
not_unlawful bytes r u restores unlawful = ⊎_elim (λ blank. blank_no_log bytes blank.0 unlawful.log.log) (λ log. logs log) restores.recovered where
  logs : IsRecoveredLog bytes (base_of r restores.gate) → ⊥
  logs log =
      let same = log_once bytes unlawful.frames log.frames unlawful.gate log.gate unlawful.log log.log in
      no_unlawful log.frames u log.lawful (subst (λ (ps : List Placed). IsFirstUnlawful ps u) same.0 unlawful.first)

unlawful_same : (bytes : List ℕ) (u v : Unlawful) → IsUnlawfulAt bytes u → IsUnlawfulAt bytes v → u ≡ v
unlawful_same bytes u v first second =
    let same = log_once bytes first.frames second.frames first.gate second.gate first.log second.log in
    unlawful_once second.frames u v (subst (λ (ps : List Placed). IsFirstUnlawful ps u) same.0 first.first) second.first

pub found_once : (bytes : List ℕ) (a b : Found) → IsFoundOn bytes a → IsFoundOn bytes b → a ≡ b
found_once bytes (founds.Recovered r) (founds.Recovered s) first second = ap founds.Recovered (restored_once bytes r s first second)
found_once bytes (founds.Recovered r) (founds.Refused refusals.NotALog) first second = absurd (no_foreign bytes r second first)
found_once bytes (founds.Recovered r) (founds.Refused (refusals.Damaged at None)) first second = absurd (not_faulty bytes r at first second)
found_once bytes (founds.Recovered r) (founds.Refused (refusals.Damaged at (Some event))) first second = absurd (not_unlawful bytes r (record { at = at; event = event }) first second)
found_once bytes (founds.Refused refusals.NotALog) (founds.Recovered s) first second = absurd (no_foreign bytes s first second)
found_once bytes (founds.Refused refusals.NotALog) (founds.Refused refusals.NotALog) first second = refl
found_once bytes (founds.Refused refusals.NotALog) (founds.Refused (refusals.Damaged at None)) first second = absurd (first.1 second.log)
found_once bytes (founds.Refused refusals.NotALog) (founds.Refused (refusals.Damaged at (Some event))) first second = absurd (first.1 second.log.log)
found_once bytes (founds.Refused (refusals.Damaged at None)) (founds.Recovered s) first second = absurd (not_faulty bytes s at second first)
found_once bytes (founds.Refused (refusals.Damaged at None)) (founds.Refused refusals.NotALog) first second = absurd (second.1 first.log)
found_once bytes (founds.Refused (refusals.Damaged at None)) (founds.Refused (refusals.Damaged other None)) first second = ap (λ (k : ℕ). founds.Refused (refusals.Damaged k None)) (fault_once bytes at other first second)
found_once bytes (founds.Refused (refusals.Damaged at None)) (founds.Refused (refusals.Damaged other (Some event))) first second = absurd (no_fault bytes second.frames second.gate at second.log first)
found_once bytes (founds.Refused (refusals.Damaged at (Some event))) (founds.Recovered s) first second = absurd (not_unlawful bytes s (record { at = at; event = event }) second first)
found_once bytes (founds.Refused (refusals.Damaged at (Some event))) (founds.Refused refusals.NotALog) first second = absurd (second.1 first.log.log)
found_once bytes (founds.Refused (refusals.Damaged at (Some event))) (founds.Refused (refusals.Damaged other None)) first second = absurd (no_fault bytes first.frames first.gate other first.log second)
found_once bytes (founds.Refused (refusals.Damaged at (Some event))) (founds.Refused (refusals.Damaged other (Some number))) first second =
    ap (λ (u : Unlawful). founds.Refused (refusals.Damaged u.at (Some u.event))) (unlawful_same bytes (record { at = at; event = event }) (record { at = other; event = number }) first second)

pub told_only : (o : Option (List ℕ)) (found : Found) → IfSome o (λ bytes. IsFoundOn bytes found) → IfSome o (IsOnly found)
told_only None found holds = tt
told_only (Some bytes) found holds = λ other also. found_once bytes other found also holds
