-- What a reading of a transcript is worth.
use Rattle.std.specs.Prelude.{◌≡◌, ℕ, List, [], ◌∷◌}
use Rattle.ltx_model.specs.declared.replies.Entry.{Entry}
use Rattle.ltx_model.specs.Limits.{IsCount}
use Rattle.ltx_check.specs.declared.reading.Ending.{Ending}
use Rattle.ltx_check.specs.declared.reading.Ending.TheVariants as endings
use Rattle.ltx_check.specs.declared.reading.Reading.{Reading}
use Rattle.ltx_check.specs.declared.reading.Reading.TheVariants as readings
use Rattle.ltx_check.specs.Texts.{IsEntry, AreTxs, order_line, durable_line}
use Rattle.ltx_check.specs.Cuts.{ended}
use Rattle.ltx_check.specs.Lines.{entry_text, Breaks, Says, IsTextFault}

-- the first line is that of no entry
abbrev pub BeginsNoEntry : List (List ℕ) → Type 0
BeginsNoEntry lines = (entry : Entry) (more : List (List ℕ)) → IsEntry entry → lines ≡ entry_text entry ∷ more → ⊥

-- the lines are the two last ones of a transcript
pub record AreLast (lines : List (List ℕ)) (order : List ℕ) (durable : ℕ) : Type 0 where
  pub numbers : AreTxs order
  pub epoch : IsCount durable
  pub parts : lines ≡ ended (order_line order) ∷ ended (durable_line durable) ∷ []

-- what stands behind the entries was read
abbrev pub Ends : List (List ℕ) → Ending → Type 0
Ends lines (endings.Whole order durable) = AreLast lines order.items durable
Ends lines (endings.Broken place) = Breaks lines place

-- a text was read
abbrev pub Reads : List ℕ → Reading → Type 0
Reads text (readings.Whole transcript) = Says text transcript.entries.items transcript.order.items transcript.durable
Reads text (readings.Broken number) = IsTextFault text number
