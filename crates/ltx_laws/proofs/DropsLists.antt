-- The list that the moves without the drops give: without the numbers that left it is the agenda, and it has the same committed members.
use Rattle.std.proofs.Common.{◌≡◌, ◌⊎◌, inl, inr, ℕ, Bool, true, false, cond, not, ◌&&◌, ◌||◌, ◌==◌, List, [], ◌∷◌, ◌++◌, map, filter, Contains, refl, sym, ap, ◌∙◌, subst, append_assoc, append-nil}
use Rattle.std.proofs.lemmas.Bool.{both_ways, eqb-true, eq-eqb, ne_eqb, or_from, not-true, false_from_ne_true}
use Rattle.std.specs.List.{list_any}
use Rattle.ltx_model.specs.Operations.{Transaction}
use Rattle.ltx_model.specs.Agenda.{Member, LiveSlot, Committed, number_of, has_number, is_member, without_member, insert_before, commit_at_slot, agenda_after, agenda_from, Move, Slot, CommitShort, CommitHome, CommitBefore, Leave, Timed, is_slot, serial, has_slot}
use Rattle.ltx_lemmas.specs.Places.{is_before, AreApart}
use Rattle.ltx_lemmas.proofs.Lists.{true_false, all_from, any_append, any_contains, any_item, filter_append, filter_item, filter_here, filter_same, filter_twice, contains_here, contains_later, contains_cases, contains_none, contains_parts, map_item}
use Rattle.ltx_lemmas.proofs.Members.{same_number, apart_one, apart_push, apart_home, apart_without, apart_insert, member_without_same, home_number, before_member, insert_item}
use Rattle.ltx_laws.specs.Drops.{leaves, is_leave, without_leaves, logged_agenda, has_left, IsLawful, AreLawful}
use Rattle.ltx_laws.proofs.Agendas.{agenda_more}

-- who is kept when some numbers are left out
abbrev pub is_kept : (ℕ → Bool) → Member → Bool
is_kept out m = not (out (number_of m))

module _ (out : ℕ → Bool) where
  -- filter and move: the members with other numbers are put before another that is kept
  filter_insert : (x : Member) (p : ℕ) (ms : List Member) → out (number_of x) ≡ false → out p ≡ false → filter (is_kept out) (insert_before x p ms) ≡ insert_before x p (filter (is_kept out) ms)
  filter_insert x p [] new target = refl
  filter_insert x p (m ∷ ms) new target = by_tests (has_number p m) refl (out (number_of m)) refl (filter_insert x p ms new target) where
    by_tests : (b : Bool) → has_number p m ≡ b → (c : Bool) → out (number_of m) ≡ c → filter (is_kept out) (insert_before x p ms) ≡ insert_before x p (filter (is_kept out) ms)
        → filter (is_kept out) (cond b (x ∷ m ∷ ms) (m ∷ insert_before x p ms)) ≡ insert_before x p (cond (not c) (m ∷ filter (is_kept out) ms) (filter (is_kept out) ms))
    by_tests true is true gone e = absurd (both_ways (out p) target (sym (ap out (eqb-true (number_of m) p is)) ∙ gone))
    by_tests true is false gone e =
        ap (λ b. cond (not b) (x ∷ filter (is_kept out) (m ∷ ms)) (filter (is_kept out) (m ∷ ms))) new
        ∙ ap (λ b. x ∷ cond (not b) (m ∷ filter (is_kept out) ms) (filter (is_kept out) ms)) gone
        ∙ sym (ap (λ b. cond b (x ∷ m ∷ filter (is_kept out) ms) (m ∷ insert_before x p (filter (is_kept out) ms))) is)
    by_tests false is true gone e = ap (λ b. cond (not b) (m ∷ filter (is_kept out) (insert_before x p ms)) (filter (is_kept out) (insert_before x p ms))) gone ∙ e
    by_tests false is false gone e =
        ap (λ b. cond (not b) (m ∷ filter (is_kept out) (insert_before x p ms)) (filter (is_kept out) (insert_before x p ms))) gone
        ∙ ap (λ l. m ∷ l) e
        ∙ sym (ap (λ b. cond b (x ∷ m ∷ filter (is_kept out) ms) (m ∷ insert_before x p (filter (is_kept out) ms))) is)

  filter_home : (t : Transaction) (ms : List Member) → filter (is_kept out) (map (commit_at_slot t) ms) ≡ map (commit_at_slot t) (filter (is_kept out) ms)
  filter_home t [] = refl
  filter_home t (m ∷ ms) =
      ap (λ n. cond (not (out n)) (commit_at_slot t m ∷ filter (is_kept out) (map (commit_at_slot t) ms)) (filter (is_kept out) (map (commit_at_slot t) ms))) (home_number t m)
      ∙ by_test (out (number_of m)) (filter_home t ms) where
        by_test : (b : Bool) → filter (is_kept out) (map (commit_at_slot t) ms) ≡ map (commit_at_slot t) (filter (is_kept out) ms)
            → cond (not b) (commit_at_slot t m ∷ filter (is_kept out) (map (commit_at_slot t) ms)) (filter (is_kept out) (map (commit_at_slot t) ms)) ≡ map (commit_at_slot t) (cond (not b) (m ∷ filter (is_kept out) ms) (filter (is_kept out) ms))
        by_test true e = e
        by_test false e = ap (λ l. commit_at_slot t m ∷ l) e

  filter_without : (n : ℕ) (ms : List Member) → filter (is_kept out) (without_member ms n) ≡ without_member (filter (is_kept out) ms) n
  filter_without n ms =
      filter_twice (is_kept out) (λ m. not (has_number n m)) ms
      ∙ filter_same (λ m. not (has_number n m) && is_kept out m) (λ m. is_kept out m && not (has_number n m)) ms (all_from (λ m. (not (has_number n m) && is_kept out m) ≡ (is_kept out m && not (has_number n m))) ms (λ m c. and_swap (not (has_number n m)) (is_kept out m)))
      ∙ sym (filter_twice (λ m. not (has_number n m)) (is_kept out) ms) where
        and_swap : (a b : Bool) → (a && b) ≡ (b && a)
        and_swap true true = refl
        and_swap true false = refl
        and_swap false true = refl
        and_swap false false = refl

  -- what is left out has no committed member: the order is the same
  serial_kept : (ms : List Member) → ((t : Transaction) → Contains ms (Committed t) → out t.number ≡ false) → serial (filter (is_kept out) ms) ≡ serial ms
  serial_kept [] kept = refl
  serial_kept (LiveSlot n ∷ ms) kept = by_test (out n) (serial_kept ms (λ t c. kept t (contains_later (LiveSlot n) ms (Committed t) c))) where
    by_test : (b : Bool) → serial (filter (is_kept out) ms) ≡ serial ms → serial (cond (not b) (LiveSlot n ∷ filter (is_kept out) ms) (filter (is_kept out) ms)) ≡ serial ms
    by_test true e = e
    by_test false e = e
  serial_kept (Committed u ∷ ms) kept =
      ap (λ b. serial (cond (not b) (Committed u ∷ filter (is_kept out) ms) (filter (is_kept out) ms))) (kept u (contains_here (Committed u) ms)) ∙ ap (λ l. u ∷ l) (serial_kept ms (λ t c. kept t (contains_later (Committed u) ms (Committed t) c)))

-- The logged list G beside the agenda.
pub record AreLogged (past : List Timed) (agenda logged : List Member) : Type 0 where
  pub same : filter (is_kept (has_left past)) logged ≡ agenda
  pub apart : AreApart agenda
  -- a batch that left had a slot
  pub slotted : (n : ℕ) → has_left past n ≡ true → has_slot past n ≡ true
  -- the committed ones have not left
  pub committed : (t : Transaction) → Contains logged (Committed t) → has_left past t.number ≡ false

or_false : (b : Bool) → (b || false) ≡ b
or_false true = refl
or_false false = refl

module _ (past : List Timed) (epoch : ℕ) (logged : List Member) where
  abbrev later : Move → List Timed
  later m = past ++ record { epoch = epoch; move = m } ∷ []

  left_push : (m : Move) (n : ℕ) → has_left (later m) n ≡ (has_left past n || leaves n m)
  left_push m n = any_append (λ x. leaves n x.move) past (record { epoch = epoch; move = m } ∷ []) ∙ ap (λ b. has_left past n || b) (or_false (leaves n m))

  -- a move that is no drop
  left_same : (m : Move) → ((n : ℕ) → leaves n m ≡ false) → (n : ℕ) → has_left (later m) n ≡ has_left past n
  left_same m none n = left_push m n ∙ ap (λ b. has_left past n || b) (none n) ∙ or_false (has_left past n)

  slot_more : (m : Move) (n : ℕ) → has_slot past n ≡ true → has_slot (later m) n ≡ true
  slot_more m n e = any_append (λ x. is_slot n x.move) past (record { epoch = epoch; move = m } ∷ []) ∙ ap (λ b. b || list_any (λ (x : Timed). is_slot n x.move) (record { epoch = epoch; move = m } ∷ [])) e

  kept_same : (m : Move) → ((n : ℕ) → leaves n m ≡ false) → (ms : List Member) → filter (is_kept (has_left (later m))) ms ≡ filter (is_kept (has_left past)) ms
  kept_same m none ms = filter_same (is_kept (has_left (later m))) (is_kept (has_left past)) ms (all_from (λ x. is_kept (has_left (later m)) x ≡ is_kept (has_left past) x) ms (λ x c. ap not (left_same m none (number_of x))))

  module _ (agenda : List Member) (h : AreLogged past agenda logged) where
    -- one that has no slot has not left
    unslotted : (n : ℕ) → has_slot past n ≡ false → has_left past n ≡ false
    unslotted n new = false_from_ne_true (has_left past n) (λ gone. both_ways (has_slot past n) new (h.slotted n gone))

    -- a member of the agenda has not left
    member_stays : (n : ℕ) → is_member agenda n ≡ true → has_left past n ≡ false
    member_stays n here =
        let (m, there, number) = any_item (has_number n) agenda here in
        let kept = filter_item (is_kept (has_left past)) logged m (subst (λ l. Contains l m) (sym h.same) there) in
        ap (has_left past) (sym (eqb-true (number_of m) n number)) ∙ not-true (has_left past (number_of m)) kept.1

    pub slot_stays : (n : ℕ) → Contains agenda (LiveSlot n) → has_left past n ≡ false
    slot_stays n here = member_stays n (any_contains (has_number n) agenda (LiveSlot n) here (same_number n))

    pushed : (m : Move) (x : Member) → ((n : ℕ) → leaves n m ≡ false) → is_member agenda (number_of x) ≡ false → has_slot past (number_of x) ≡ false → AreLogged (later m) (agenda ++ x ∷ []) (logged ++ x ∷ [])
    pushed m x none new free =
        let stays : has_left past (number_of x) ≡ false = unslotted (number_of x) free in
        record {
          same = kept_same m none (logged ++ x ∷ []) ∙ filter_append (is_kept (has_left past)) logged (x ∷ []) ∙ ap (λ b. filter (is_kept (has_left past)) logged ++ cond (not b) (x ∷ []) []) stays ∙ ap (λ l. l ++ x ∷ []) h.same;
          apart = apart_push agenda x h.apart new;
          slotted = λ n gone. slot_more m n (h.slotted n (sym (left_same m none n) ∙ gone));
          committed = λ t c. left_same m none t.number ∙ by_part t (contains_parts logged (x ∷ []) (Committed t) c) stays;
        } where
          by_part : (t : Transaction) → Contains logged (Committed t) ⊎ Contains (x ∷ []) (Committed t) → has_left past (number_of x) ≡ false → has_left past t.number ≡ false
          by_part t (inl c) stays = h.committed t c
          by_part t (inr c) stays = by_place (contains_cases x [] (Committed t) c) where
            by_place : (x ≡ Committed t) ⊎ Contains [] (Committed t) → has_left past t.number ≡ false
            by_place (inl e) = subst (λ y. has_left past (number_of y) ≡ false) e stays
            by_place (inr d) = absurd (contains_none (Committed t) d)

    home : (t : Transaction) → Contains agenda (LiveSlot t.number) → AreLogged (later (CommitHome t)) (map (commit_at_slot t) agenda) (map (commit_at_slot t) logged)
    home t slot = record {
      same = kept_same (CommitHome t) (λ n. refl) (map (commit_at_slot t) logged) ∙ filter_home (has_left past) t logged ∙ ap (map (commit_at_slot t)) h.same;
      apart = apart_home t agenda h.apart;
      slotted = λ n gone. slot_more (CommitHome t) n (h.slotted n (sym (left_same (CommitHome t) (λ k. refl) n) ∙ gone));
      committed = λ u c. left_same (CommitHome t) (λ k. refl) u.number ∙ by_item u (map_item (commit_at_slot t) logged (Committed u) c);
    } where
      by_item : (u : Transaction) → (m : Member) × Contains logged m × (commit_at_slot t m ≡ Committed u) → has_left past u.number ≡ false
      by_item u (m, c, e) = by_test (has_number t.number m) refl e where
        by_test : (b : Bool) → has_number t.number m ≡ b → cond b (Committed t) m ≡ Committed u → has_left past u.number ≡ false
        by_test true is e = subst (λ n. has_left past n ≡ false) (ap number_of e) (slot_stays t.number slot)
        by_test false is e = h.committed u (subst (Contains logged) e c)

    before : (t : Transaction) (p : ℕ) → Contains agenda (LiveSlot t.number) → is_before agenda p t.number ≡ true
        → AreLogged (later (CommitBefore t p)) (insert_before (Committed t) p (without_member agenda t.number)) (insert_before (Committed t) p (without_member logged t.number))
    before t p slot ahead = record {
      same =
          kept_same (CommitBefore t p) (λ n. refl) (insert_before (Committed t) p (without_member logged t.number))
          ∙ filter_insert (has_left past) (Committed t) p (without_member logged t.number) (slot_stays t.number slot) (member_stays p (before_member agenda p t.number ahead))
          ∙ ap (insert_before (Committed t) p) (filter_without (has_left past) t.number logged ∙ ap (λ ms. without_member ms t.number) h.same);
      apart = apart_insert (Committed t) p (without_member agenda t.number) (apart_without agenda t.number h.apart) (member_without_same agenda t.number);
      slotted = λ n gone. slot_more (CommitBefore t p) n (h.slotted n (sym (left_same (CommitBefore t p) (λ k. refl) n) ∙ gone));
      committed = λ u c. left_same (CommitBefore t p) (λ k. refl) u.number ∙ by_insert u (without_member logged t.number) (insert_item (Committed t) p (without_member logged t.number) (Committed u) c);
    } where
      by_insert : (u : Transaction) (ms : List Member) → (◌≡◌ {A = Member} (Committed t) (Committed u)) ⊎ Contains (without_member logged t.number) (Committed u) → has_left past u.number ≡ false
      by_insert u ms (inl e) = subst (λ n. has_left past n ≡ false) (ap number_of e) (slot_stays t.number slot)
      by_insert u ms (inr c) = h.committed u (filter_item (λ m. not (has_number t.number m)) logged (Committed u) c).0

    drop : (n : ℕ) → Contains agenda (LiveSlot n) → has_slot past n ≡ true → AreLogged (later (Leave n)) (without_member agenda n) logged
    drop n slot slotted = record {
      same =
          filter_same (is_kept (has_left (later (Leave n)))) (λ m. is_kept (has_left past) m && not (has_number n m)) logged
          (all_from (λ m. is_kept (has_left (later (Leave n))) m ≡ (is_kept (has_left past) m && not (has_number n m))) logged
          (λ m c. ap not (left_push (Leave n) (number_of m) ∙ ap (λ b. has_left past (number_of m) || b) (eq_swap n (number_of m))) ∙ not_or (has_left past (number_of m)) (has_number n m)))
          ∙ sym (filter_twice (λ m. not (has_number n m)) (is_kept (has_left past)) logged)
          ∙ ap (λ ms. without_member ms n) h.same;
      apart = apart_without agenda n h.apart;
      slotted = λ k gone. by_left k (sym (left_push (Leave n) k) ∙ gone);
      committed = λ t c. left_push (Leave n) t.number ∙ or_from (has_left past t.number) (n == t.number) (h.committed t c) (ne_eqb n t.number (λ same. no_clash t c same));
    } where
      eq_swap : (a b : ℕ) → (a == b) ≡ (b == a)
      eq_swap a b = by_test (a == b) refl where
        by_test : (r : Bool) → (a == b) ≡ r → (a == b) ≡ (b == a)
        by_test true e = e ∙ sym (eq-eqb b a (sym (eqb-true a b e)))
        by_test false e = e ∙ sym (ne_eqb b a (λ same. both_ways (a == b) e (eq-eqb a b (sym same))))

      not_or : (a b : Bool) → not (a || b) ≡ (not a && not b)
      not_or true b = refl
      not_or false b = refl

      by_left : (k : ℕ) → (has_left past k || (n == k)) ≡ true → has_slot (later (Leave n)) k ≡ true
      by_left k e = slot_more (Leave n) k (by_test (has_left past k) refl e) where
        by_test : (b : Bool) → has_left past k ≡ b → (b || (n == k)) ≡ true → has_slot past k ≡ true
        by_test true is e = h.slotted k is
        by_test false is e = subst (λ j. has_slot past j ≡ true) (eqb-true n k e) slotted

      no_clash : (t : Transaction) → Contains logged (Committed t) → n ≡ t.number → ⊥
      no_clash t c same =
          let there : Contains agenda (Committed t) = subst (λ l. Contains l (Committed t)) h.same (filter_here (is_kept (has_left past)) logged (Committed t) c (ap not (h.committed t c))) in
          let e : ◌≡◌ {A = Member} (Committed t) (LiveSlot n) = apart_one agenda (Committed t) (LiveSlot n) h.apart there slot (sym same) in
          let no : ⊥ = cc in no

-- the logged list after one move more
pub logs_more : (past : List Timed) (epoch : ℕ) (m : Move) → is_leave m ≡ false → logged_agenda (past ++ record { epoch = epoch; move = m } ∷ []) ≡ agenda_after (logged_agenda past) m
logs_more past epoch m stays =
    let new : Timed = record { epoch = epoch; move = m } in
    ap (agenda_from []) (filter_append (λ (x : Timed). not (is_leave x.move)) past (new ∷ []) ∙ ap (λ b. without_leaves past ++ cond (not b) (new ∷ []) []) stays) ∙ agenda_more [] (without_leaves past) new

pub logs_same : (past : List Timed) (epoch n : ℕ) → logged_agenda (past ++ record { epoch = epoch; move = Leave n } ∷ []) ≡ logged_agenda past
logs_same past epoch n = ap (agenda_from []) (filter_append (λ (x : Timed). not (is_leave x.move)) past (record { epoch = epoch; move = Leave n } ∷ []) ∙ append-nil (without_leaves past))

abbrev pub IsLoggedAfter : List Timed → Type 0
IsLoggedAfter past = AreLogged past (agenda_from [] past) (logged_agenda past)

-- one lawful move more
module _ (past : List Timed) (epoch : ℕ) (h : IsLoggedAfter past) where
  moved_on : (m : Move) → is_leave m ≡ false → AreLogged (past ++ record { epoch = epoch; move = m } ∷ []) (agenda_after (agenda_from [] past) m) (agenda_after (logged_agenda past) m) → IsLoggedAfter (past ++ record { epoch = epoch; move = m } ∷ [])
  moved_on m stays g =
      subst (λ ms. AreLogged (past ++ record { epoch = epoch; move = m } ∷ []) ms (logged_agenda (past ++ record { epoch = epoch; move = m } ∷ []))) (sym (agenda_more [] past (record { epoch = epoch; move = m })))
      (subst (AreLogged (past ++ record { epoch = epoch; move = m } ∷ []) (agenda_after (agenda_from [] past) m)) (sym (logs_more past epoch m stays)) g)

  pub logged_step : (m : Move) → IsLawful past (agenda_from [] past) m → IsLoggedAfter (past ++ record { epoch = epoch; move = m } ∷ [])
  logged_step (Slot n) lawful = moved_on (Slot n) refl (pushed past epoch (logged_agenda past) (agenda_from [] past) h (Slot n) (LiveSlot n) (λ k. refl) lawful.0 lawful.1)
  logged_step (CommitShort t) lawful = moved_on (CommitShort t) refl (pushed past epoch (logged_agenda past) (agenda_from [] past) h (CommitShort t) (Committed t) (λ k. refl) lawful.0 lawful.1)
  logged_step (CommitHome t) lawful = moved_on (CommitHome t) refl (home past epoch (logged_agenda past) (agenda_from [] past) h t lawful)
  logged_step (CommitBefore t p) lawful = moved_on (CommitBefore t p) refl (before past epoch (logged_agenda past) (agenda_from [] past) h t p lawful.0 lawful.1)
  logged_step (Leave n) lawful =
      subst (λ ms. AreLogged (past ++ record { epoch = epoch; move = Leave n } ∷ []) ms (logged_agenda (past ++ record { epoch = epoch; move = Leave n } ∷ []))) (sym (agenda_more [] past (record { epoch = epoch; move = Leave n })))
      (subst (AreLogged (past ++ record { epoch = epoch; move = Leave n } ∷ []) (without_member (agenda_from [] past) n)) (sym (logs_same past epoch n)) (drop past epoch (logged_agenda past) (agenda_from [] past) h n lawful.0 lawful.1))

logged_from : (past moves : List Timed) → IsLoggedAfter past → AreLawful past moves → IsLoggedAfter (past ++ moves)
logged_from past [] h lawful = subst IsLoggedAfter (sym (append-nil past)) h
logged_from past (m ∷ ms) h lawful = subst IsLoggedAfter (append_assoc past (m ∷ []) ms) (logged_from (past ++ m ∷ []) ms (logged_step past m.epoch h m.move lawful.0) lawful.1)

pub logged_all : (moves : List Timed) → AreLawful [] moves → IsLoggedAfter moves
logged_all moves lawful = logged_from [] moves (record { same = refl; apart = tt; slotted = λ n e. absurd (true_false (sym e)); committed = λ t c. absurd (contains_none (Committed t) c) }) lawful

-- The moves without the drops give the order.
pub logged_serial : (moves : List Timed) → AreLawful [] moves → serial (logged_agenda moves) ≡ serial (agenda_from [] moves)
logged_serial moves lawful = let h = logged_all moves lawful in sym (serial_kept (has_left moves) (logged_agenda moves) h.committed) ∙ ap serial h.same

-- moves that begin lawful ones, and one more
pub lawful_front : (past xs ys : List Timed) → AreLawful past (xs ++ ys) → AreLawful past xs
lawful_front past [] ys lawful = tt
lawful_front past (x ∷ xs) ys lawful = (lawful.0, lawful_front (past ++ x ∷ []) xs ys lawful.1)

lawful_push_from : (past xs : List Timed) (m : Timed) → AreLawful past xs → IsLawful (past ++ xs) (agenda_from [] (past ++ xs)) m.move → AreLawful past (xs ++ m ∷ [])
lawful_push_from past [] m lawful is = (subst (λ l. IsLawful l (agenda_from [] l) m.move) (append-nil past) is, tt)
lawful_push_from past (x ∷ xs) m lawful is = (lawful.0, lawful_push_from (past ++ x ∷ []) xs m lawful.1 (subst (λ l. IsLawful l (agenda_from [] l) m.move) (sym (append_assoc past (x ∷ []) xs)) is))

pub lawful_push : (moves : List Timed) (m : Timed) → AreLawful [] moves → IsLawful moves (agenda_from [] moves) m.move → AreLawful [] (moves ++ m ∷ [])
lawful_push moves m lawful is = lawful_push_from [] moves m lawful is
