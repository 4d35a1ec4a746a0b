-- Where the lines of a transcript stand, and the first line that is not what belongs at its place.
use Rattle.std.specs.Prelude.{◌≡◌, ℕ, ◌+◌, List, [], ◌∷◌, ◌++◌, length, map}
use Rattle.ltx_model.specs.declared.replies.Entry.{Entry}
use Rattle.ltx_model.specs.Limits.{IsCount}
use Rattle.ltx_check.specs.Cuts.{lines_of, ended}
use Rattle.ltx_check.specs.Texts.{entry_line, IsEntry, AreEntries, order_line, AreTxs, durable_line}

-- the line of an entry, with its line feed
abbrev pub entry_text : Entry → List ℕ
entry_text entry = ended (entry_line entry)

-- the line is that of an entry
abbrev pub IsEntryText : List ℕ → Type 0
IsEntryText line = (entry : Entry) × IsEntry entry × (line ≡ entry_text entry)

-- the line is that of some order
abbrev pub IsOrderText : List ℕ → Type 0
IsOrderText line = (order : List ℕ) × AreTxs order × (line ≡ ended (order_line order))

-- the line is that of some durable epoch
abbrev pub IsDurableText : List ℕ → Type 0
IsDurableText line = (epoch : ℕ) × IsCount epoch × (line ≡ ended (durable_line epoch))

-- What a text says: a history, the serial order and the durable epoch.
pub record Says (text : List ℕ) (history : List Entry) (order : List ℕ) (durable : ℕ) : Type 0 where
  pub entries : AreEntries history
  pub numbers : AreTxs order
  pub epoch : IsCount durable
  pub lines : lines_of text ≡ map entry_text history ++ ended (order_line order) ∷ ended (durable_line durable) ∷ []

-- Behind the entries, the line with this number is the first that is not what belongs there: the order, which no entry
-- begins like, then the durable epoch, then nothing. A line that is missing has the number after the last.
pub data Breaks : List (List ℕ) → ℕ → Type 0 where
  no_order : Breaks [] 1
  other_order : {line : List ℕ} {more : List (List ℕ)} → (IsEntryText line → ⊥) → (IsOrderText line → ⊥) → Breaks (line ∷ more) 1
  no_durable : {order : List ℕ} → IsOrderText order → Breaks (order ∷ []) 2
  other_durable : {order line : List ℕ} {more : List (List ℕ)} → IsOrderText order → (IsDurableText line → ⊥) → Breaks (order ∷ line ∷ more) 2
  too_much : {order durable line : List ℕ} {more : List (List ℕ)} → IsOrderText order → IsDurableText durable → Breaks (order ∷ durable ∷ line ∷ more) 3

-- The line with this number is the first of a text that is not what belongs at its place.
pub record IsTextFault (text : List ℕ) (number : ℕ) : Type 0 where
  pub history : List Entry
  pub entries : AreEntries history
  pub rest : List (List ℕ)
  pub lines : lines_of text ≡ map entry_text history ++ rest
  pub place : ℕ
  pub breaks : Breaks rest place
  pub counted : number ≡ length history + place
