-- The replay of a transcript: which answered operations belong to which transaction, and which of them get another reply in the order.
use Rattle.std.specs.Prelude.{◌≡◌, ◌⊎◌, ◌≤◌, ◌&&◌, ℕ, ◌+◌, Bool, true, false, ◌==◌, List, [], ◌∷◌, map, Option, Some, None, option_map, unwrap_or, is_some, min, slice_get}
use Rattle.std.specs.List.{AllByRecursion, find, cons_option}
use Rattle.std.specs.Ordering.{nat_cmp}
use Rattle.std.specs.BTreeMap.{BTreeMap, get}
use Rattle.ltx_model.specs.declared.commands.Op.{Op}
use Rattle.ltx_model.specs.declared.replies.Entry.{Entry}
use Rattle.ltx_model.specs.declared.replies.Reply.{Reply}
use Rattle.ltx_model.specs.declared.rows.StoredRow.{StoredRow}
use Rattle.ltx_model.specs.Operations.{Answered, Transaction}
use Rattle.ltx_model.specs.Rows.{reply_on, rows_after, rows_after_all, rows_after_transaction}
use Rattle.ltx_model.specs.Histories.{session_of, operation_of}
use Rattle.ltx_model.specs.Explained.{Open, is_session, Effect, Begins, Answers, Commits, Ends, Leaves, effect_of, opens_after}
use Rattle.ltx_check.specs.declared.desk.Seat.{Seat}
use Rattle.ltx_check.specs.Opens.{Desk, seat_of}
use Rattle.ltx_check.specs.Tables.{Pairs, AreRows}

-- an answered operation, and the place of its entry in the history, counted from 0
pub record Told : Type 0 where
  pub place : ℕ
  pub answered : Answered

-- the operation that a reply with this effect answers
abbrev pub answer_by : Effect → Option Op → Reply → Option Answered
answer_by (Begins n) op reply = None
answer_by Answers None reply = None
answer_by Answers (Some op) reply = Some (record { op = op; reply = reply })
answer_by Commits op reply = None
answer_by Ends op reply = None
answer_by Leaves op reply = None

-- an open transaction, if there is one, has this number
abbrev pub has_number : ℕ → Option Open → Bool
has_number n None = false
has_number n (Some o) = o.tx.number == n

-- an answered operation at its place, where the test passes
abbrev pub told_if : Bool → ℕ → Option Answered → Option Told
told_if true place None = None
told_if true place (Some a) = Some (record { place = place; answered = a })
told_if false place a = None

-- what an entry answers in the transaction with this number, where that one is open in the session of its line
abbrev pub told_in : ℕ → ℕ → Option ℕ → List Open → Entry → Option Told
told_in n place None opens entry = None
told_in n place (Some session) opens entry = told_if (has_number n (find (is_session session) opens)) place (answer_by (effect_of entry.reply) (operation_of entry.line) entry.reply)

abbrev pub told_by : ℕ → ℕ → List Open → Entry → Option Told
told_by n place opens entry = told_in n place (session_of entry.line) opens entry

-- the answered operations of the transaction with this number, among entries from a place on, where these transactions are open
unfoldable pub told_from : ℕ → ℕ → List Open → List Entry → List Told
told_from n place opens [] = []
told_from n place opens (entry ∷ entries) = cons_option (told_by n place opens entry) (told_from n (place + 1) (opens_after opens entry) entries)

-- the answered operations of a history that belong to the transaction with this number
abbrev pub told_of : List Entry → ℕ → List Told
told_of history n = told_from n 0 [] history

-- the transaction of a history with this number
abbrev pub transaction_in : List Entry → ℕ → Transaction
transaction_in history n = record { number = n; answered = map (λ x. x.answered) (told_of history n) }

-- Played one after another on these rows, the operation at this place gets another reply than it was given.
abbrev pub Differs : ℕ → List StoredRow → List Told → ℕ → Type 0
Differs n rows [] place = ⊥
Differs n rows (x ∷ xs) place =
    ((place ≡ x.place) × (reply_on rows x.answered.op ≡ x.answered.reply → ⊥)) ⊎ Differs n (rows_after n rows x.answered.op) xs place

-- The transactions of a history with these numbers run one after another on these rows, and the operation at this place gets another reply.
abbrev pub RunDiffers : List Entry → List StoredRow → List ℕ → ℕ → Type 0
RunDiffers history rows [] place = ⊥
RunDiffers history rows (n ∷ order) place =
    Differs n rows (told_of history n) place ⊎ RunDiffers history (rows_after_transaction rows (transaction_in history n)) order place

-- The entry with this number is the first whose operation gets another reply when the order runs from the empty map.
pub record IsReplayFault (history : List Entry) (order : List ℕ) (number : ℕ) : Type 0 where
  pub place : ℕ
  pub differs : RunDiffers history [] order place
  pub first : (other : ℕ) → RunDiffers history [] order other → place ≤ other
  pub counted : number ≡ place + 1

-- ---- where what was told of each number stands

-- the places kept for a number
abbrev pub places_at : BTreeMap ℕ (List ℕ) → ℕ → List ℕ
places_at parts n = unwrap_or (get nat_cmp parts n) []

-- a place, where the test passes
abbrev pub place_if : Bool → ℕ → List ℕ
place_if true place = place ∷ []
place_if false place = []

-- it is this number
abbrev pub is_number : ℕ → Option ℕ → Bool
is_number n None = false
is_number n (Some m) = m == n

-- the number in a seat, where the test passes
abbrev pub number_if : Bool → Option Seat → Option ℕ
number_if true seat = option_map (λ s. s.number) seat
number_if false seat = None

-- a reply with this effect answers an operation
abbrev pub is_answering : Effect → Bool
is_answering (Begins n) = false
is_answering Answers = true
is_answering Commits = false
is_answering Ends = false
is_answering Leaves = false

-- the entry's reply answers the operation that its line asks
abbrev pub is_answer : Entry → Bool
is_answer entry = is_some (operation_of entry.line) && is_answering (effect_of entry.reply)

-- the number of the transaction in which an entry is answered, by what is open in the session of its line
abbrev pub answered_number_in : Option ℕ → Desk → Entry → Option ℕ
answered_number_in None desk entry = None
answered_number_in (Some session) desk entry = number_if (is_answer entry) (seat_of desk.seats session)

abbrev pub answered_number : Desk → Entry → Option ℕ
answered_number desk entry = answered_number_in (session_of entry.line) desk entry

-- ---- what a replay finds

-- Either nothing differs, and then each operation gets its reply, or this is the least place that differs.
abbrev pub Finds : Type 0 → (ℕ → Type 0) → Option ℕ → Type 0
Finds gives differs None = gives
Finds gives differs (Some place) = differs place × ((other : ℕ) → differs other → place ≤ other)

-- played one after another on these rows, each operation gets the reply that it was given
abbrev pub Plays : ℕ → List StoredRow → List Told → Type 0
Plays n rows [] = Unit {0}
Plays n rows (x ∷ xs) = (reply_on rows x.answered.op ≡ x.answered.reply) × Plays n (rows_after n rows x.answered.op) xs

-- the transactions with these numbers run one after another, and each operation gets the reply that it was given
abbrev pub RunPlays : List Entry → List StoredRow → List ℕ → Type 0
RunPlays history rows [] = Unit {0}
RunPlays history rows (n ∷ order) = Plays n rows (told_of history n) × RunPlays history (rows_after_transaction rows (transaction_in history n)) order

-- the entry at the place of an answered operation asks and answers it
pub record IsToldIn (history : List Entry) (x : Told) : Type 0 where
  pub entry : Entry
  pub here : slice_get history x.place ≡ Some entry
  pub asks : operation_of entry.line ≡ Some x.answered.op
  pub answers : entry.reply ≡ x.answered.reply

-- the rows after operations of a transaction
abbrev pub rows_told : ℕ → List StoredRow → List Told → List StoredRow
rows_told n rows xs = rows_after_all n rows (map (λ a. a.op) (map (λ x. x.answered) xs))

-- What playing the operations at these places did: what differs was found, and the rows are those after the operations.
abbrev pub PlayedPart : List Entry → List ℕ → List Pairs → List Pairs → Option ℕ → Type 0
PlayedPart history places old new found =
    (n : ℕ) (rows : List StoredRow) (xs : List Told) → places ≡ map (λ x. x.place) xs → AllByRecursion (IsToldIn history) xs → AreRows old rows
    → Finds (Plays n rows xs) (Differs n rows xs) found × AreRows new (rows_told n rows xs)

-- the least of two places, where there are any
abbrev pub least_of : Option ℕ → Option ℕ → Option ℕ
least_of None b = b
least_of (Some a) None = Some a
least_of (Some a) (Some b) = Some (min a b)

-- a place, where the reply is another one
abbrev pub unless : Bool → ℕ → Option ℕ
unless true place = None
unless false place = Some place
