-- What a call of a reader of lines gave.
use Rattle.std.specs.Prelude.{ℕ, List, [], ◌∷◌, Option, Some, None, ⊤}
use Rattle.std.specs.declared.result.Result.{Result}
use Rattle.std.specs.Prelude.{Ok, Err}
use Rattle.ltx_text.specs.declared.piece.Piece.{Piece}
use Rattle.ltx_text.specs.declared.piece.Piece.TheVariants.{Line, TooLong, End}
use Rattle.ltx_text.specs.declared.piece.TextFault.{TextFault}
use Rattle.ltx_text.specs.declared.piece.TextFault.TheVariants.{ReadFault, TooMuch, NoMemory}

-- the pieces that a result gives: one for a line, which is its bytes or nothing, and none at the end or at a fault
abbrev pub given : Result Piece TextFault → List (Option (List ℕ))
given (Ok (Line line)) = Some line.items ∷ []
given (Ok TooLong) = None ∷ []
given (Ok End) = []
given (Err fault) = []

-- how many calls of the source failed
abbrev pub faults_among : {T : Type 0} → Result T TextFault → ℕ
faults_among (Ok x) = 0
faults_among (Err ReadFault) = 1
faults_among (Err TooMuch) = 0
faults_among (Err NoMemory) = 0

-- a fact about the line, where the result is one
abbrev pub OnLine : Result Piece TextFault → (List ℕ → Type 0) → Type 0
OnLine (Ok (Line line)) P = P line.items
OnLine (Ok TooLong) P = ⊤
OnLine (Ok End) P = ⊤
OnLine (Err fault) P = ⊤

-- a fact that holds where the result is the end
abbrev pub OnEnd : Result Piece TextFault → Type 0 → Type 0
OnEnd (Ok (Line line)) P = ⊤
OnEnd (Ok TooLong) P = ⊤
OnEnd (Ok End) P = P
OnEnd (Err fault) P = ⊤
