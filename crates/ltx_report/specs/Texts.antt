-- The lines that are printed of a disk.
use Rattle.std.specs.Prelude.{◌≡◌, ℕ, List, [], ◌∷◌, ◌++◌, codes, Option, Some, None}
use Rattle.ltx_text.specs.Decimals.{decimal_of}
use Rattle.ltx_reply.specs.Recoveries.{faulty_text, unlawful_text, foreign_text}
use Rattle.ltx_outside.specs.Faults.{Rose}
use Rattle.ltx_report.specs.declared.fault.PrintFault.{PrintFault}
use Rattle.ltx_report.specs.declared.fault.PrintFault.TheVariants as faults
use Rattle.ltx_report.specs.declared.found.Refusal.{Refusal}
use Rattle.ltx_report.specs.declared.found.Refusal.TheVariants as refusals

-- `through D last N` and a line feed
abbrev pub through_line : ℕ → ℕ → List ℕ
through_line epoch last = codes "through " ++ decimal_of epoch ++ codes " last " ++ decimal_of last ++ 10 ∷ []

-- a log is damaged at this place, or at an event of the frame there
abbrev pub damaged_text : ℕ → Option ℕ → List ℕ
damaged_text at None = faulty_text at
damaged_text at (Some event) = unlawful_text (record { at = at; event = event })

-- the line of a disk that gives no rows
abbrev pub refusal_text : Refusal → List ℕ
refusal_text refusals.NotALog = foreign_text
refusal_text (refusals.Damaged at event) = damaged_text at event

-- why a text was not printed whole, and what became of the sink's count: a failed call, or want of memory
abbrev pub IsPrintCause : ℕ → ℕ → PrintFault → Type 0
IsPrintCause old new faults.Sink = Rose old new
IsPrintCause old new faults.NoMemory = new ≡ old
