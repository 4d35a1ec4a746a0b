-- What a run has in hand.
use Rattle.std.specs.Prelude.{ℕ, List, [], Option}
use Rattle.ltx_model.specs.declared.commands.Line.{Line}
use Rattle.ltx_outside.specs.Reads.{Reads}
use Rattle.ltx_text.specs.Lines.{LinesState}
use Rattle.ltx_top.specs.declared.responder.Responder.{Responder}
use Rattle.ltx_top.specs.declared.runner.Runner.{Runner}
use Rattle.ltx_top.specs.declared.status.Stop.{Stop}
use Rattle.ltx_top.specs.Runs.{Devices, devices}
use Rattle.ltx_top.specs.Progress.{Hand, Halts, Progress, Start, Steps}

-- a reader and what answers its lines
abbrev pub hand_with : LinesState → Responder → Hand
hand_with reader r = record { reader = reader; core = r.core; text = r.text.items; malformed = r.malformed }

abbrev pub hand_of : Runner → Hand
hand_of s = hand_with s.lines s.responder

-- a run that began at this start goes on, with no line pending
abbrev pub GoesOn : Start → Devices → Runner → Type 0
GoesOn start now run = Progress start now (hand_of run) []

-- a run goes on, wherever it began
abbrev pub IsGoing : Devices → Runner → Type 0
IsGoing now run = (start : Start) × GoesOn start now run

-- the pending lines are answered, whatever the source and the reader are, while the sink goes from w to w'
abbrev pub Responds : Option (List ℕ) → Responder → List Line → Option (List ℕ) → Responder → Type 0
Responds w old pending w' new = (left : Option (List ℕ)) (reads : Option Reads) (reader : LinesState)
    → Steps (devices left reads w) (hand_with reader old) pending (devices left reads w') (hand_with reader new) []

-- the run stops at the pending lines
abbrev pub RespondsNot : Stop → Option (List ℕ) → Responder → List Line → Option (List ℕ) → Responder → Type 0
RespondsNot stop w old pending w' new = (left : Option (List ℕ)) (reads : Option Reads) (reader : LinesState)
    → Halts stop (devices left reads w) (hand_with reader old) pending (devices left reads w') new.text.items

-- the same of a run, its reader with it, whatever the source is
abbrev pub Answers : Option (List ℕ) → Runner → List Line → Option (List ℕ) → Runner → Type 0
Answers w old pending w' new = (left : Option (List ℕ)) (reads : Option Reads)
    → Steps (devices left reads w) (hand_of old) pending (devices left reads w') (hand_of new) []

abbrev pub AnswersNot : Stop → Option (List ℕ) → Runner → List Line → Option (List ℕ) → Runner → Type 0
AnswersNot stop w old pending w' new = (left : Option (List ℕ)) (reads : Option Reads)
    → Halts stop (devices left reads w) (hand_of old) pending (devices left reads w') new.responder.text.items
