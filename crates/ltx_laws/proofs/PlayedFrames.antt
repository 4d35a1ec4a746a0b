-- The events of the frames that flushes write, played, give the order and the rows through the durable epoch.
use Rattle.std.proofs.Common.{◌≡◌, ℕ, Bool, true, false, cond, not, ◌==◌, List, [], ◌∷◌, ◌++◌, map, refl, sym, ap, ◌∙◌}
use Rattle.std.specs.List.{cons_option}
use Rattle.ltx_model.specs.declared.commands.Line.{Line}
use Rattle.ltx_model.specs.declared.replies.Entry.{Entry}
use Rattle.ltx_model.specs.declared.rows.StoredRow.{StoredRow}
use Rattle.ltx_model.specs.Operations.{Transaction, writes_of, operations}
use Rattle.ltx_model.specs.Agenda.{Member, LiveSlot, Committed, has_number, without_member, insert_before, commit_at_slot, agenda_from, serial, Move, Slot, CommitShort, CommitHome, CommitBefore, Leave, Timed}
use Rattle.ltx_model.specs.States.{Base, IsSound, State, serial_through, rows_through}
use Rattle.ltx_model.specs.Histories.{state}
use Rattle.ltx_model.specs.Frames.{event_of, writes_in}
use Rattle.ltx_model.specs.Answers.{IsLegalWith}
use Rattle.ltx_model.specs.Rows.{rows_after_writes, rows_after_last_writes}
use Rattle.ltx_model.specs.Logs.{frames_of, events_in, events_of, moves_through}
use Rattle.ltx_model.specs.Played.{Played, PlayedSlot, PlayedCommit, is_played, commit_there, without_played, put_before, after_events, played_list, committed_numbers, rows_after_played}
use Rattle.ltx_laws.specs.Drops.{AreLawful, is_leave, without_leaves, logged_agenda}
use Rattle.ltx_laws.proofs.DropsHistories.{timely_of, logged_through}
use Rattle.ltx_laws.proofs.DropsFrames.{frames_through, writes_through}

-- a member of the agenda as one of the list
abbrev pub as_played : Member → Played
as_played (LiveSlot n) = PlayedSlot n
as_played (Committed t) = PlayedCommit t.number (writes_in t)

pub played_home : (t : Transaction) (ms : List Member) → map as_played (map (commit_at_slot t) ms) ≡ map (commit_there t.number (writes_in t)) (map as_played ms)
played_home t [] = refl
played_home t (m ∷ ms) = (λ i. one m i ∷ played_home t ms i) where
  one : (m : Member) → as_played (commit_at_slot t m) ≡ commit_there t.number (writes_in t) (as_played m)
  one (LiveSlot n) = by_test (n == t.number) where
    by_test : (b : Bool) → as_played (cond b (Committed t) (LiveSlot n)) ≡ cond b (PlayedCommit t.number (writes_in t)) (PlayedSlot n)
    by_test true = refl
    by_test false = refl
  one (Committed u) = by_test (u.number == t.number) where
    by_test : (b : Bool) → as_played (cond b (Committed t) (Committed u)) ≡ cond b (PlayedCommit t.number (writes_in t)) (PlayedCommit u.number (writes_in u))
    by_test true = refl
    by_test false = refl

pub played_has : (n : ℕ) (m : Member) → is_played n (as_played m) ≡ has_number n m
played_has n (LiveSlot k) = refl
played_has n (Committed t) = refl

pub played_without : (n : ℕ) (ms : List Member) → map as_played (without_member ms n) ≡ without_played n (map as_played ms)
played_without n [] = refl
played_without n (m ∷ ms) = by_test (has_number n m) (played_without n ms) ∙ ap (λ b. cond (not b) (as_played m ∷ without_played n (map as_played ms)) (without_played n (map as_played ms))) (sym (played_has n m)) where
  by_test : (b : Bool) → map as_played (without_member ms n) ≡ without_played n (map as_played ms)
      → map as_played (cond (not b) (m ∷ without_member ms n) (without_member ms n)) ≡ cond (not b) (as_played m ∷ without_played n (map as_played ms)) (without_played n (map as_played ms))
  by_test true e = e
  by_test false e = ap (λ l. as_played m ∷ l) e

pub played_before : (x : Member) (p : ℕ) (ms : List Member) → map as_played (insert_before x p ms) ≡ put_before (as_played x) p (map as_played ms)
played_before x p [] = refl
played_before x p (m ∷ ms) = by_test (has_number p m) (played_before x p ms) ∙ ap (λ b. cond b (as_played x ∷ as_played m ∷ map as_played ms) (as_played m ∷ put_before (as_played x) p (map as_played ms))) (sym (played_has p m)) where
  by_test : (b : Bool) → map as_played (insert_before x p ms) ≡ put_before (as_played x) p (map as_played ms)
      → map as_played (cond b (x ∷ m ∷ ms) (m ∷ insert_before x p ms)) ≡ cond b (as_played x ∷ as_played m ∷ map as_played ms) (as_played m ∷ put_before (as_played x) p (map as_played ms))
  by_test true e = refl
  by_test false e = ap (λ l. as_played m ∷ l) e

pub played_push : (ms : List Member) (x : Member) → map as_played (ms ++ x ∷ []) ≡ map as_played ms ++ as_played x ∷ []
played_push [] x = refl
played_push (m ∷ ms) x = ap (λ l. as_played m ∷ l) (played_push ms x)

-- the events of moves, played, give the list that the moves without the drops give
pub played_is : (ms : List Member) (moves : List Timed) → after_events (map as_played ms) (events_of moves) ≡ map as_played (agenda_from ms (without_leaves moves))
played_is ms [] = refl
played_is ms (m ∷ moves) = by_move m.move (λ next. played_is next moves) where
  by_move : (v : Move) → ((next : List Member) → after_events (map as_played next) (events_of moves) ≡ map as_played (agenda_from next (without_leaves moves)))
      → after_events (map as_played ms) (cons_option (event_of m.epoch v) (events_of moves))
      ≡ map as_played (agenda_from ms (cond (not (is_leave v)) (record { epoch = m.epoch; move = v } ∷ without_leaves moves) (without_leaves moves)))
  by_move (Slot n) rest = ap (λ l. after_events l (events_of moves)) (sym (played_push ms (LiveSlot n))) ∙ rest (ms ++ LiveSlot n ∷ [])
  by_move (CommitShort t) rest = ap (λ l. after_events l (events_of moves)) (sym (played_push ms (Committed t))) ∙ rest (ms ++ Committed t ∷ [])
  by_move (CommitHome t) rest = ap (λ l. after_events l (events_of moves)) (sym (played_home t ms)) ∙ rest (map (commit_at_slot t) ms)
  by_move (CommitBefore t target) rest =
      ap (λ l. after_events l (events_of moves)) (ap (put_before (as_played (Committed t)) target) (sym (played_without t.number ms)) ∙ sym (played_before (Committed t) target (without_member ms t.number)))
      ∙ rest (insert_before (Committed t) target (without_member ms t.number))
  by_move (Leave n) rest = rest ms

played_numbers : (ms : List Member) → committed_numbers (map as_played ms) ≡ map (λ t. t.number) (serial ms)
played_numbers [] = refl
played_numbers (LiveSlot n ∷ ms) = played_numbers ms
played_numbers (Committed t ∷ ms) = ap (λ l. t.number ∷ l) (played_numbers ms)

played_rows : (rows : List StoredRow) (ms : List Member) → rows_after_played rows (map as_played ms) ≡ rows_after_last_writes rows (serial ms)
played_rows rows [] = refl
played_rows rows (LiveSlot n ∷ ms) = played_rows rows ms
played_rows rows (Committed t ∷ ms) = played_rows (rows_after_writes t.number rows (writes_of (operations t))) ms

module _ (built : State → Line → Bool) (base : Base) (history : List Entry) (sound : IsSound base) (legal : IsLegalWith built base history) where
  abbrev s : State
  s = state base history

  list_is : played_list (events_in (frames_of base history)) ≡ map as_played (logged_agenda (moves_through s.durable s.moves))
  list_is = ap played_list (frames_through built base history sound legal) ∙ played_is [] (moves_through s.durable s.moves)

  pub order_played : committed_numbers (played_list (events_in (frames_of base history))) ≡ map (λ t. t.number) (serial_through s s.durable)
  order_played = ap committed_numbers list_is ∙ played_numbers (logged_agenda (moves_through s.durable s.moves)) ∙ ap (map (λ (t : Transaction). t.number)) (logged_through built base history sound legal s.durable)

  pub rows_played : rows_after_played base.rows (played_list (events_in (frames_of base history))) ≡ rows_through s s.durable
  rows_played =
      ap (rows_after_played base.rows) list_is ∙ played_rows base.rows (logged_agenda (moves_through s.durable s.moves))
      ∙ ap (rows_after_last_writes base.rows) (logged_through built base history sound legal s.durable) ∙ writes_through built base history sound legal s.durable

  pub moves_lawful : AreLawful [] s.moves
  moves_lawful = (timely_of built base history legal).lawful
