-- What a check of a transcript is worth: the verdict on the bytes that were read, and what was printed of it.
use Rattle.std.specs.Prelude.{◌≤◌, ◌<◌, ℕ, List, [], ◌∷◌, ◌++◌, take, length, codes, Option, IfSome, Result, Ok, Err}
use Rattle.std.specs.Io.KnownBytes.{Appends, Consumes, IsAtEnd}
use Rattle.ltx_check.specs.declared.verdict.Fault.{Fault}
use Rattle.ltx_check.specs.declared.verdict.Fault.TheVariants as faults
use Rattle.ltx_check.specs.declared.verdict.Verdict.{Verdict}
use Rattle.ltx_check.specs.declared.verdict.Verdict.TheVariants as verdicts
use Rattle.ltx_check.specs.Verdicts.{IsVerdict}
use Rattle.ltx_top.specs.declared.status.Stop.{Stop}
use Rattle.ltx_top.specs.declared.status.Stop.TheVariants as stops
use Rattle.ltx_top.specs.Runs.{took}
use Rattle.ltx_top.specs.Transcripts.{spaced_number}

-- the bytes of a transcript that a check reads at most
abbrev pub most_of_transcript : ℕ
most_of_transcript = 268435456

-- so many bytes were taken where a reading stopped, for this reason; it is never the sink's
abbrev pub PassesAt : Stop → ℕ → Type 0
PassesAt stops.NoMemory n = n ≤ most_of_transcript
PassesAt stops.Source n = n ≤ most_of_transcript
PassesAt stops.Sink n = ⊥
PassesAt stops.TooMuch n = most_of_transcript < n

-- a fault as it is printed
abbrev pub fault_text : Fault → List ℕ
fault_text faults.Text = codes "text"
fault_text faults.Open = codes "open"
fault_text faults.Order = codes "order"
fault_text faults.Replay = codes "replay"
fault_text faults.Marks = codes "marks"

-- a verdict as it is printed: `yes`, or `no` with the line and the fault
abbrev pub verdict_text : Verdict → List ℕ
verdict_text verdicts.Yes = codes "yes" ++ 10 ∷ []
verdict_text (verdicts.No line fault) = codes "no" ++ spaced_number line ++ 32 ∷ fault_text fault ++ 10 ∷ []

-- The source was read to its end, and its bytes have this verdict, where it tells them.
pub record Judged (old new : Option (List ℕ)) (verdict : Verdict) : Type 0 where
  pub bytes : List ℕ
  pub taken : Consumes old new bytes
  pub ended : IsAtEnd new
  pub within : length bytes ≤ most_of_transcript
  pub holds : IsVerdict bytes verdict

-- The sink failed: a front of the verdict was written.
pub record HalfTold (left left' written written' : Option (List ℕ)) : Type 0 where
  pub verdict : Verdict
  pub judged : Judged left left' verdict
  pub most : ℕ
  pub printed : Appends written written' (take most (verdict_text verdict))

-- a check stopped behind its reading: for want of memory, or by a fault of the sink
abbrev pub IsLate : Stop → Type 0
IsLate stops.NoMemory = Unit {0}
IsLate stops.Source = ⊥
IsLate stops.Sink = Unit {0}
IsLate stops.TooMuch = ⊥

-- what was written of the verdict on these bytes where a check stopped behind its reading
abbrev pub HalfJudged : Stop → List ℕ → Option (List ℕ) → Option (List ℕ) → Type 0
HalfJudged stops.NoMemory bytes written written' = Unit {0}
HalfJudged stops.Source bytes written written' = ⊥
HalfJudged stops.Sink bytes written written' = (verdict : Verdict) × IsVerdict bytes verdict × (most : ℕ) × Appends written written' (take most (verdict_text verdict))
HalfJudged stops.TooMuch bytes written written' = ⊥

-- what holds where a check stopped before its end
abbrev pub StopsCheck : Stop → Option (List ℕ) → Option (List ℕ) → Option (List ℕ) → Option (List ℕ) → Type 0
StopsCheck stops.NoMemory left left' written written' = took left left' ≤ most_of_transcript
StopsCheck stops.Source left left' written written' = took left left' ≤ most_of_transcript
StopsCheck stops.Sink left left' written written' = HalfTold left left' written written'
StopsCheck stops.TooMuch left left' written written' = IfSome left (λ bytes. most_of_transcript < took left left')

-- the number of a check with this verdict, and of one that stopped
abbrev pub check_status : Result Verdict Stop → ℕ
check_status (Ok verdicts.Yes) = 0
check_status (Ok (verdicts.No line fault)) = 11
check_status (Err stops.NoMemory) = 3
check_status (Err stops.Source) = 4
check_status (Err stops.Sink) = 5
check_status (Err stops.TooMuch) = 9
