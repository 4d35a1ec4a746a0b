-- Which replies may stand where: what each command may be answered, and what is open in each session.
use Rattle.std.specs.Prelude.{◌≡◌, ℕ, ◌+◌, Bool, true, false, not, ◌||◌, ◌==◌, nat_le, max, List, [], ◌∷◌, ◌++◌, length, Option, Some, None, is_some, is_none, option_map}
use Rattle.std.specs.List.{find}
use Rattle.ltx_model.specs.declared.commands.Op.{Op}
use Rattle.ltx_model.specs.declared.commands.Op.TheVariants.{Get, Scan, Put, Del}
use Rattle.ltx_model.specs.declared.commands.Verb.{Verb}
use Rattle.ltx_model.specs.declared.commands.Verb.TheVariants as verbs
use Rattle.ltx_model.specs.declared.commands.Command.TheVariants as commands
use Rattle.ltx_model.specs.declared.commands.Line.{Line}
use Rattle.ltx_model.specs.declared.commands.Line.TheVariants as lines
use Rattle.ltx_model.specs.declared.replies.Entry.{Entry}
use Rattle.ltx_model.specs.declared.replies.Reply.{Reply}
use Rattle.ltx_model.specs.declared.replies.Reply.TheVariants as replies
use Rattle.ltx_model.specs.Lists.{without_first}
use Rattle.ltx_model.specs.Histories.{session_of}
use Rattle.ltx_check.specs.declared.desk.Seat.{Seat}
use Rattle.ltx_check.specs.declared.asked.Asked.{Asked}
use Rattle.ltx_check.specs.declared.asked.Asked.TheVariants as asks

-- ---- commands and their replies

-- what an operation is
abbrev pub asked_by_operation : Op → Asked
asked_by_operation (Get table key) = asks.Get
asked_by_operation (Scan table low high) = asks.Scan
asked_by_operation (Put table key value) = asks.Write
asked_by_operation (Del table key) = asks.Write

abbrev pub asked_by_verb : Verb → Asked
asked_by_verb verbs.Short = asks.Short
asked_by_verb (verbs.Long writes reads) = asks.Long
asked_by_verb (verbs.Do op) = asked_by_operation op
asked_by_verb verbs.Commit = asks.Commit
asked_by_verb verbs.Abort = asks.Abort

abbrev pub asked_by : Line → Asked
asked_by (lines.Good commands.Epoch) = asks.Control
asked_by (lines.Good commands.Flush) = asks.Control
asked_by (lines.Good commands.Prune) = asks.Control
asked_by (lines.Good (commands.Ask session verb)) = asked_by_verb verb
asked_by (lines.Bad cause) = asks.Control

-- it is this command
abbrev pub is_short : Asked → Bool
is_short asks.Short = true
is_short asked = false

abbrev pub is_long : Asked → Bool
is_long asks.Long = true
is_long asked = false

abbrev pub is_get : Asked → Bool
is_get asks.Get = true
is_get asked = false

abbrev pub is_scan : Asked → Bool
is_scan asks.Scan = true
is_scan asked = false

abbrev pub is_write : Asked → Bool
is_write asks.Write = true
is_write asked = false

abbrev pub is_commit : Asked → Bool
is_commit asks.Commit = true
is_commit asked = false

abbrev pub is_abort : Asked → Bool
is_abort asks.Abort = true
is_abort asked = false

-- Whether a reply that begins, answers or ends a transaction comes to such a command. `preserved` comes to operations and to commits.
abbrev pub gives : Asked → Reply → Bool
gives asked (replies.Begun n) = is_short asked
gives asked (replies.BegunAt n epoch) = is_long asked
gives asked (replies.Found value) = is_get asked
gives asked replies.Absent = is_get asked
gives asked (replies.Rows rows) = is_scan asked
gives asked replies.Done = is_write asked
gives asked (replies.Committed epoch) = is_commit asked
gives asked (replies.CommittedBefore epoch target) = is_commit asked
gives asked replies.Aborted = is_abort asked
gives asked (replies.Preserved table holder) = is_get asked || is_scan asked || is_write asked || is_commit asked
gives asked (replies.Changed op table key found current) = is_commit asked
gives asked (replies.Late target op table key writer) = is_commit asked
gives asked (replies.Contradicts target op table key reader) = is_commit asked
gives asked reply = true

-- ---- what is open

-- what is open, one seat for each open transaction, and the greatest number begun
pub record Desk : Type 0 where
  pub seats : List Seat
  pub last : ℕ

-- at first nothing is open
abbrev pub first_desk : Desk
first_desk = record { seats = []; last = 0 }

-- it is the seat of this session
abbrev pub is_seat : ℕ → Seat → Bool
is_seat session seat = seat.session == session

-- the seat of a session, where a transaction is open in it
abbrev pub seat_of : List Seat → ℕ → Option Seat
seat_of seats session = find (is_seat session) seats

-- the seats without that of a session
abbrev pub without_seat : ℕ → List Seat → List Seat
without_seat session seats = without_first (is_seat session) seats

-- a transaction begins in a session
abbrev pub begins : ℕ → ℕ → Bool → Desk → Desk
begins session number short desk = record {
  seats = without_seat session desk.seats ++ record { session = session; number = number; short = short } ∷ [];
  last = max desk.last number;
}

-- the transaction of a session ends
abbrev pub ends : ℕ → Desk → Desk
ends session desk = record { seats = without_seat session desk.seats; last = desk.last }

-- what is open after a reply in a session
abbrev pub desk_after_reply : ℕ → Reply → Desk → Desk
desk_after_reply session (replies.Begun n) desk = begins session n true desk
desk_after_reply session (replies.BegunAt n epoch) desk = begins session n false desk
desk_after_reply session (replies.Committed epoch) desk = ends session desk
desk_after_reply session (replies.CommittedBefore epoch target) desk = ends session desk
desk_after_reply session replies.Aborted desk = ends session desk
desk_after_reply session (replies.Preserved table holder) desk = ends session desk
desk_after_reply session (replies.Changed op table key found current) desk = ends session desk
desk_after_reply session (replies.Late target op table key writer) desk = ends session desk
desk_after_reply session (replies.Contradicts target op table key reader) desk = ends session desk
desk_after_reply session reply desk = desk

-- what is open after an entry, whose line may be in no session
abbrev pub desk_after_in : Option ℕ → Reply → Desk → Desk
desk_after_in None reply desk = desk
desk_after_in (Some session) reply desk = desk_after_reply session reply desk

abbrev pub desk_after : Desk → Entry → Desk
desk_after desk entry = desk_after_in (session_of entry.line) entry.reply desk

-- the number of the transaction that a reply commits, where its session has this seat
abbrev pub commits_number : Option Seat → Reply → Option ℕ
commits_number seat (replies.Committed epoch) = option_map (λ s. s.number) seat
commits_number seat (replies.CommittedBefore epoch target) = option_map (λ s. s.number) seat
commits_number seat reply = None

-- in the session of a line, if it has one
abbrev pub commits_number_in : Option ℕ → Desk → Reply → Option ℕ
commits_number_in None desk reply = None
commits_number_in (Some session) desk reply = commits_number (seat_of desk.seats session) reply

-- the number of the transaction that an entry commits
abbrev pub committed_number : Desk → Entry → Option ℕ
committed_number desk entry = commits_number_in (session_of entry.line) desk entry.reply

-- ---- what may not stand

-- a short has this seat
abbrev pub is_seat_of_short : Option Seat → Bool
is_seat_of_short None = false
is_seat_of_short (Some seat) = seat.short

-- A reply may not stand where its session has this seat, and this is the greatest number begun: a begin beside an open
-- transaction, or with a number that is not above it; an answer or an end without an open transaction; a target for a short.
abbrev pub is_misplaced : Option Seat → ℕ → Reply → Bool
is_misplaced seat last (replies.Begun n) = is_some seat || nat_le n last
is_misplaced seat last (replies.BegunAt n epoch) = is_some seat || nat_le n last
is_misplaced seat last (replies.Found value) = is_none seat
is_misplaced seat last replies.Absent = is_none seat
is_misplaced seat last (replies.Rows rows) = is_none seat
is_misplaced seat last replies.Done = is_none seat
is_misplaced seat last (replies.Committed epoch) = is_none seat
is_misplaced seat last (replies.CommittedBefore epoch target) = is_none seat || is_seat_of_short seat
is_misplaced seat last replies.Aborted = is_none seat
is_misplaced seat last (replies.Preserved table holder) = is_none seat
is_misplaced seat last (replies.Changed op table key found current) = is_none seat
is_misplaced seat last (replies.Late target op table key writer) = is_none seat
is_misplaced seat last (replies.Contradicts target op table key reader) = is_none seat
is_misplaced seat last reply = false

-- in the session of a line, if it has one
abbrev pub is_misplaced_in : Option ℕ → Desk → Reply → Bool
is_misplaced_in None desk reply = false
is_misplaced_in (Some session) desk reply = is_misplaced (seat_of desk.seats session) desk.last reply

-- the entry may not stand where this is open
abbrev pub is_open_fault : Desk → Entry → Bool
is_open_fault desk entry = not (gives (asked_by entry.line) entry.reply) || is_misplaced_in (session_of entry.line) desk entry.reply

-- what is open after entries
unfoldable pub desk_from : Desk → List Entry → Desk
desk_from desk [] = desk
desk_from desk (entry ∷ entries) = desk_from (desk_after desk entry) entries

-- each entry may stand where it does
unfoldable pub AreWellPlaced : Desk → List Entry → Type 0
AreWellPlaced desk [] = Unit {0}
AreWellPlaced desk (entry ∷ entries) = (is_open_fault desk entry ≡ false) × AreWellPlaced (desk_after desk entry) entries

-- a history of which each entry may stand where it does
abbrev pub IsWellPlaced : List Entry → Type 0
IsWellPlaced history = AreWellPlaced first_desk history

-- The entry with this number is the first that may not stand where it does.
pub record IsOpenFault (history : List Entry) (number : ℕ) : Type 0 where
  pub before : List Entry
  pub entry : Entry
  pub after : List Entry
  pub parts : history ≡ before ++ entry ∷ after
  pub placed : IsWellPlaced before
  pub fault : is_open_fault (desk_from first_desk before) entry ≡ true
  pub counted : number ≡ length before + 1
