-- The events of the frames that flushes write are lawful one after another, and the frames' epochs rise.
use Rattle.std.proofs.Common.{◌≡◌, ◌⊎◌, inl, inr, ℕ, ◌+◌, ◌-◌, ◌<◌, ◌≤◌, Bool, true, false, cond, not, ◌&&◌, ◌||◌, nat_lt, List, [], ◌∷◌, ◌++◌, map, filter, refl, sym, ap, ◌∙◌, subst, arith, Contains}
use Rattle.std.proofs.lemmas.Bool.{both_ways, eqb-true, false_from_ne_true, or_right, ltb-true, ltb-false}
use Rattle.std.specs.List.{cons_option, list_any, AllByRecursion}
use Rattle.ltx_model.specs.declared.commands.Line.{Line}
use Rattle.ltx_model.specs.declared.replies.Entry.{Entry}
use Rattle.ltx_model.specs.Lists.{before_first}
use Rattle.ltx_model.specs.Agenda.{Member, LiveSlot, Committed, number_of, has_number, is_member, part_before, without_member, agenda_from, Move, Slot, CommitShort, CommitHome, CommitBefore, Leave, Timed, has_slot}
use Rattle.ltx_model.specs.States.{Base, IsSound, State, first_state}
use Rattle.ltx_model.specs.Histories.{after, state}
use Rattle.ltx_model.specs.Frames.{LogEvent, Frame, event_of, sealed, writes_in}
use Rattle.ltx_model.specs.Answers.{IsLegalFrom, IsLegalWith}
use Rattle.ltx_model.specs.Logs.{frames_of, frames_from, events_in, events_of, moves_through}
use Rattle.ltx_model.specs.Played.{PlayedSlot, PlayedCommit, is_played, put_before, AreLawfulEvents, IsCommitAbove, IsCommitUpTo, DoEpochsRise, IsClosed, AreCommitsNew}
use Rattle.ltx_laws.specs.Orders.{IsPrefix}
use Rattle.ltx_laws.specs.Drops.{has_left, logged_agenda, IsLawful, AreLawful}
use Rattle.ltx_lemmas.proofs.Lists.{true_false, any_item, any_contains, all_map, filter_here, filter_item, map_here, contains_none}
use Rattle.ltx_laws.proofs.Places.{and_left, and_right}
use Rattle.ltx_laws.proofs.Transitions.{entry_case}
use Rattle.ltx_laws.proofs.DropsLists.{is_kept, IsLoggedAfter, slot_stays, logs_more, logs_same, logged_step, lawful_front}
use Rattle.ltx_laws.proofs.DropsHistories.{timely_of, through_first}
use Rattle.ltx_laws.proofs.DropsFrames.{Grows, grows_cases, sealed_events, stays_open, frames_through}
use Rattle.ltx_laws.proofs.PlayedFrames.{as_played, played_has, played_home, played_without, played_before, played_push}

played_member : (n : ℕ) (ms : List Member) → list_any (is_played n) (map as_played ms) ≡ is_member ms n
played_member n [] = refl
played_member n (m ∷ ms) = (λ i. played_has n m i || played_member n ms i)

played_ahead : (n p : ℕ) (ms : List Member) → list_any (is_played p) (before_first (is_played n) (map as_played ms)) ≡ is_member (part_before n ms) p
played_ahead n p [] = refl
played_ahead n p (m ∷ ms) = ap (λ b. list_any (is_played p) (cond b [] (as_played m ∷ before_first (is_played n) (map as_played ms)))) (played_has n m) ∙ by_test (has_number n m) (played_ahead n p ms) where
  by_test : (b : Bool) → list_any (is_played p) (before_first (is_played n) (map as_played ms)) ≡ is_member (part_before n ms) p
      → list_any (is_played p) (cond b [] (as_played m ∷ before_first (is_played n) (map as_played ms))) ≡ is_member (cond b [] (m ∷ part_before n ms)) p
  by_test true e = refl
  by_test false e = (λ i. played_has p m i || e i)

-- who stands before n where some numbers are left out stands before it, if n is none of them
before_all : (out : ℕ → Bool) (n p : ℕ) → out n ≡ false → (ms : List Member) → is_member (part_before n (filter (is_kept out) ms)) p ≡ true → is_member (part_before n ms) p ≡ true
before_all out n p stays [] e = e
before_all out n p stays (m ∷ ms) e = by_tests (has_number n m) refl (out (number_of m)) refl e (before_all out n p stays ms) where
  by_own : (b : Bool) → (b || is_member (part_before n (filter (is_kept out) ms)) p) ≡ true → (is_member (part_before n (filter (is_kept out) ms)) p ≡ true → is_member (part_before n ms) p ≡ true) → (b || is_member (part_before n ms) p) ≡ true
  by_own true e rec = refl
  by_own false e rec = rec e

  by_tests : (b : Bool) → has_number n m ≡ b → (c : Bool) → out (number_of m) ≡ c → is_member (part_before n (cond (not c) (m ∷ filter (is_kept out) ms) (filter (is_kept out) ms))) p ≡ true
      → (is_member (part_before n (filter (is_kept out) ms)) p ≡ true → is_member (part_before n ms) p ≡ true) → is_member (cond b [] (m ∷ part_before n ms)) p ≡ true
  by_tests true is true gone e rec = absurd (both_ways (out n) stays (sym (ap out (eqb-true (number_of m) n is)) ∙ gone))
  by_tests true is false gone e rec = absurd (true_false (sym e ∙ ap (λ b. is_member (cond b [] (m ∷ part_before n (filter (is_kept out) ms))) p) is))
  by_tests false is true gone e rec = or_right (has_number p m) (is_member (part_before n ms) p) (rec e)
  by_tests false is false gone e rec = by_own (has_number p m) (sym (ap (λ b. is_member (cond b [] (m ∷ part_before n (filter (is_kept out) ms))) p) is) ∙ e) rec

-- The list beside the agenda, after moves that are lawful.
module _ (past : List Timed) (h : IsLoggedAfter past) where
  abbrev agenda : List Member
  agenda = agenda_from [] past

  abbrev logged : List Member
  logged = logged_agenda past

  new_in : (n : ℕ) → is_member agenda n ≡ false → has_slot past n ≡ false → list_any (is_played n) (map as_played logged) ≡ false
  new_in n new free = played_member n logged ∙ false_from_ne_true (is_member logged n) (λ e.
      let found = any_item (has_number n) logged e in
      let number : number_of found.0 ≡ n = eqb-true (number_of found.0) n found.2 in
      let stays : has_left past n ≡ false = false_from_ne_true (has_left past n) (λ gone. both_ways (has_slot past n) free (h.slotted n gone)) in
      let here : Contains agenda found.0 = subst (λ l. Contains l found.0) h.same (filter_here (is_kept (has_left past)) logged found.0 found.1 (ap not (ap (has_left past) number ∙ stays))) in
      both_ways (is_member agenda n) new (any_contains (has_number n) agenda found.0 here found.2))

  slot_in : (n : ℕ) → Contains agenda (LiveSlot n) → Contains (map as_played logged) (PlayedSlot n)
  slot_in n here = map_here as_played logged (LiveSlot n) (filter_item (is_kept (has_left past)) logged (LiveSlot n) (subst (λ l. Contains l (LiveSlot n)) (sym h.same) here)).0

  ahead_in : (n p : ℕ) → Contains agenda (LiveSlot n) → is_member (part_before n agenda) p ≡ true → list_any (is_played p) (before_first (is_played n) (map as_played logged)) ≡ true
  ahead_in n p here ahead = played_ahead n p logged ∙ before_all (has_left past) n p (slot_stays past 0 logged agenda h n here) logged (subst (λ l. is_member (part_before n l) p ≡ true) (sym h.same) ahead)

-- the events of lawful moves are lawful
lawful_from : (past moves : List Timed) → IsLoggedAfter past → AreLawful past moves → AreLawfulEvents (map as_played (logged_agenda past)) (events_of moves)
lawful_from past [] h lawful = tt
lawful_from past (m ∷ moves) h lawful = by_move m.move lawful.0 (lawful_from (past ++ m ∷ []) moves (logged_step past m.epoch h m.move lawful.0) lawful.1) where
  by_move : (v : Move) → IsLawful past (agenda_from [] past) v → AreLawfulEvents (map as_played (logged_agenda (past ++ record { epoch = m.epoch; move = v } ∷ []))) (events_of moves)
      → AreLawfulEvents (map as_played (logged_agenda past)) (cons_option (event_of m.epoch v) (events_of moves))
  by_move (Slot n) is rest = (
    new_in past h n is.0 is.1,
    subst (λ l. AreLawfulEvents l (events_of moves)) (ap (map as_played) (logs_more past m.epoch (Slot n) refl) ∙ played_push (logged_agenda past) (LiveSlot n)) rest,
  )
  by_move (CommitShort t) is rest = (
    new_in past h t.number is.0 is.1,
    subst (λ l. AreLawfulEvents l (events_of moves)) (ap (map as_played) (logs_more past m.epoch (CommitShort t) refl) ∙ played_push (logged_agenda past) (Committed t)) rest,
  )
  by_move (CommitHome t) is rest = (
    (slot_in past h t.number is, tt),
    subst (λ l. AreLawfulEvents l (events_of moves)) (ap (map as_played) (logs_more past m.epoch (CommitHome t) refl) ∙ played_home t (logged_agenda past)) rest,
  )
  by_move (CommitBefore t p) is rest = (
    (slot_in past h t.number is.0, ahead_in past h t.number p is.0 is.1),
    subst (λ l. AreLawfulEvents l (events_of moves))
        (ap (map as_played) (logs_more past m.epoch (CommitBefore t p) refl) ∙ played_before (Committed t) p (without_member (logged_agenda past) t.number) ∙ ap (put_before (PlayedCommit t.number (writes_in t)) p) (played_without t.number (logged_agenda past))) rest,
  )
  by_move (Leave n) is rest = subst (λ l. AreLawfulEvents (map as_played l) (events_of moves)) (logs_same past m.epoch n) rest

first_logged : IsLoggedAfter []
first_logged = record { same = refl; apart = tt; slotted = λ n e. absurd (true_false (sym e)); committed = λ t c. absurd (contains_none (Committed t) c) }

-- the epoch of a commit is above one epoch and at most another
abbrev IsWithin : ℕ → ℕ → LogEvent → Type 0
IsWithin lower upper e = IsCommitAbove lower e × IsCommitUpTo upper e

-- the epochs of frames rise, and the commits of each lie between
abbrev AreInTime : ℕ → List Frame → Type 0
AreInTime before [] = Unit {0}
AreInTime before (f ∷ fs) = (before < f.epoch) × AllByRecursion (IsWithin before f.epoch) f.events × AreInTime f.epoch fs

frames_rise : (before : ℕ) (fs : List Frame) → AreInTime before fs → DoEpochsRise before fs
frames_rise before [] timed = tt
frames_rise before (f ∷ fs) timed = (timed.0, frames_rise f.epoch fs timed.2)

frames_closed : (before : ℕ) (fs : List Frame) → AreInTime before fs → AllByRecursion IsClosed fs
frames_closed before [] timed = tt
frames_closed before (f ∷ fs) timed = (all_map (IsWithin before f.epoch) (IsCommitUpTo f.epoch) (λ e within. within.1) f.events timed.1, frames_closed f.epoch fs timed.2)

frames_new : (before : ℕ) (fs : List Frame) → AreInTime before fs → AreCommitsNew before fs
frames_new before [] timed = tt
frames_new before (f ∷ fs) timed = (all_map (IsWithin before f.epoch) (IsCommitAbove before) (λ e within. within.0) f.events timed.1, frames_new f.epoch fs timed.2)

-- the commits of moves between two epochs
within_moves : (lower epoch : ℕ) (moves : List Timed) → AllByRecursion (IsWithin lower (epoch - 1)) (events_of (filter (λ m. nat_lt lower m.epoch && nat_lt m.epoch epoch) moves))
within_moves lower epoch [] = tt
within_moves lower epoch (m ∷ moves) = by_test (nat_lt lower m.epoch && nat_lt m.epoch epoch) refl (within_moves lower epoch moves) where
  by_move : (v : Move) → lower < m.epoch → m.epoch ≤ epoch - 1 → AllByRecursion (IsWithin lower (epoch - 1)) (events_of (filter (λ x. nat_lt lower x.epoch && nat_lt x.epoch epoch) moves)) → AllByRecursion (IsWithin lower (epoch - 1)) (cons_option (event_of m.epoch v) (events_of (filter (λ x. nat_lt lower x.epoch && nat_lt x.epoch epoch) moves)))
  by_move (Slot n) low high all = ((tt, tt), all)
  by_move (CommitShort t) low high all = ((low, high), all)
  by_move (CommitHome t) low high all = ((low, high), all)
  by_move (CommitBefore t p) low high all = ((low, high), all)
  by_move (Leave n) low high all = all

  by_test : (b : Bool) → (nat_lt lower m.epoch && nat_lt m.epoch epoch) ≡ b → AllByRecursion (IsWithin lower (epoch - 1)) (events_of (filter (λ x. nat_lt lower x.epoch && nat_lt x.epoch epoch) moves)) → AllByRecursion (IsWithin lower (epoch - 1)) (events_of (cond b (m ∷ filter (λ x. nat_lt lower x.epoch && nat_lt x.epoch epoch) moves) (filter (λ x. nat_lt lower x.epoch && nat_lt x.epoch epoch) moves)))
  by_test false is all = all
  by_test true is all =
      let low : lower < m.epoch = ltb-true lower m.epoch (and_left (nat_lt lower m.epoch) (nat_lt m.epoch epoch) is) in
      let under : m.epoch < epoch = ltb-true m.epoch epoch (and_right (nat_lt lower m.epoch) (nat_lt m.epoch epoch) is) in
      by_move m.move low (let high : m.epoch ≤ epoch - 1 = omega arith in high) all

pub sealed_epoch : (s : State) → (sealed s).epoch ≡ s.epoch - 1
unfolding sealed
sealed_epoch s = refl

sealed_within : (s : State) → AllByRecursion (IsWithin s.durable (sealed s).epoch) (sealed s).events
sealed_within s = subst (λ e. AllByRecursion (IsWithin s.durable e) (sealed s).events) (sym (sealed_epoch s)) (subst (AllByRecursion (IsWithin s.durable (s.epoch - 1))) (sym (sealed_events s)) (within_moves s.durable s.epoch s.moves))

pub sealed_closed : (s : State) → IsClosed (sealed s)
sealed_closed s = all_map (IsWithin s.durable (sealed s).epoch) (IsCommitUpTo (sealed s).epoch) (λ e within. within.1) (sealed s).events (sealed_within s)

-- the frames of entries
timed_from : (built : State → Line → Bool) (s : State) (history : List Entry) → s.durable < s.epoch → IsLegalFrom built s history → AreInTime s.durable (frames_from s history)
unfolding IsLegalFrom
timed_from built s [] ahead legal = tt
timed_from built s (entry ∷ entries) ahead legal =
    let g : Grows s (after s entry) = entry_case s (λ line reply s'. Grows s s') (grows_cases s) built entry legal.0 in
    by_test (nat_lt s.durable (after s entry).durable) refl g.durable (timed_from built (after s entry) entries (stays_open s (after s entry) g ahead) legal.1) where
      by_test : (b : Bool) → nat_lt s.durable (after s entry).durable ≡ b → ((after s entry).durable ≡ s.durable) ⊎ (((after s entry).durable ≡ s.epoch - 1) × ((after s entry).moves ≡ s.moves))
          → AreInTime (after s entry).durable (frames_from (after s entry) entries) → AreInTime s.durable (cond b (sealed s ∷ frames_from (after s entry) entries) (frames_from (after s entry) entries))
      by_test true is (inl same) rest = let less : s.durable < (after s entry).durable = ltb-true s.durable (after s entry).durable is in absurd (let no : ⊥ = omega arith in no)
      by_test true is (inr (last, moves)) rest =
          let less : s.durable < (after s entry).durable = ltb-true s.durable (after s entry).durable is in
          let epoch : (after s entry).durable ≡ (sealed s).epoch = last ∙ sym (sealed_epoch s) in
          (subst (λ e. s.durable < e) epoch less, sealed_within s, subst (λ e. AreInTime e (frames_from (after s entry) entries)) epoch rest)
      by_test false is (inl same) rest = subst (λ e. AreInTime e (frames_from (after s entry) entries)) same rest
      by_test false is (inr (last, moves)) rest =
          let least : (after s entry).durable ≤ s.durable = ltb-false s.durable (after s entry).durable is in
          let same : (after s entry).durable ≡ s.durable = omega arith in
          subst (λ e. AreInTime e (frames_from (after s entry) entries)) same rest

module _ (built : State → Line → Bool) (base : Base) (history : List Entry) (sound : IsSound base) (legal : IsLegalWith built base history) where
  abbrev s : State
  s = state base history

  durable_lawful : AreLawful [] (moves_through s.durable s.moves)
  durable_lawful =
      let t = timely_of built base history legal in
      let first : IsPrefix (moves_through s.durable s.moves) s.moves = through_first s.durable s.moves t.rising in
      lawful_front [] (moves_through s.durable s.moves) first.rest (subst (AreLawful []) first.parts t.lawful)

  pub events_lawful : AreLawfulEvents [] (events_in (frames_of base history))
  events_lawful = subst (AreLawfulEvents []) (sym (frames_through built base history sound legal)) (lawful_from [] (moves_through s.durable s.moves) first_logged durable_lawful)

  frames_timed : AreInTime base.durable (frames_of base history)
  frames_timed = timed_from built (first_state base) history (let h : base.durable < base.durable + 1 = omega arith in h) legal

  pub epochs_rise : DoEpochsRise base.durable (frames_of base history)
  epochs_rise = frames_rise base.durable (frames_of base history) frames_timed

  pub all_closed : AllByRecursion IsClosed (frames_of base history)
  all_closed = frames_closed base.durable (frames_of base history) frames_timed

  pub commits_new : AreCommitsNew base.durable (frames_of base history)
  commits_new = frames_new base.durable (frames_of base history) frames_timed
