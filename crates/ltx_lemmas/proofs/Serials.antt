-- The serial order: the committed members of the agenda, after each move.
use Rattle.std.proofs.Common.{◌≡◌, ◌≢◌, ◌⊎◌, inl, inr, ℕ, Bool, true, false, cond, not, ◌||◌, ◌==◌, List, [], ◌∷◌, ◌++◌, map, Option, Some, None, refl, sym, ap, ◌∙◌, subst}
use Rattle.std.proofs.lemmas.Bool.{eqb-true, eq-eqb, ne_eqb, both_ways, or_parts}
use Rattle.std.specs.List.{cons_option, Contains}
use Rattle.ltx_model.specs.Operations.{Transaction}
use Rattle.ltx_model.specs.Agenda.{Member, LiveSlot, Committed, number_of, has_number, is_member, committed_of, without_member, insert_before, commit_at_slot, part_before, part_from, serial}
use Rattle.ltx_lemmas.specs.Places.{AreApart}
use Rattle.ltx_lemmas.proofs.Lists.{true_false, some_same, none_some, given_append, given_item, given_here, parts_join, before_contains, from_contains, contains_here, contains_later, contains_cases, contains_none, any_contains}
use Rattle.ltx_lemmas.proofs.Members.{same_number, apart_tail, apart_one, member_without_other}

-- committed members
pub serial_here : (ms : List Member) (t : Transaction) → Contains ms (Committed t) → Contains (serial ms) t
serial_here ms t c = given_here committed_of ms (Committed t) t c refl

committed_is : (m : Member) (t : Transaction) → committed_of m ≡ Some t → m ≡ Committed t
committed_is (LiveSlot n) t e = absurd (none_some e)
committed_is (Committed u) t e = ap Committed (some_same e)

pub serial_member : (ms : List Member) (t : Transaction) → Contains (serial ms) t → Contains ms (Committed t)
serial_member ms t c = let found = given_item committed_of ms t c in subst (Contains ms) (committed_is found.0 t found.2) found.1

pub serial_is_member : (ms : List Member) (t : Transaction) → Contains (serial ms) t → is_member ms t.number ≡ true
serial_is_member ms t c = any_contains (has_number t.number) ms (Committed t) (serial_member ms t c) (same_number t.number)

-- the order as a whole is its part before a member and its part from it on
pub serial_append : (ms ns : List Member) → serial (ms ++ ns) ≡ serial ms ++ serial ns
serial_append ms ns = given_append committed_of ms ns

pub serial_parts : (p : ℕ) (ms : List Member) → serial (part_before p ms) ++ serial (part_from p ms) ≡ serial ms
serial_parts p ms = sym (serial_append (part_before p ms) (part_from p ms)) ∙ ap serial (parts_join (has_number p) ms)

-- one more at the end
pub serial_slot : (ms : List Member) (n : ℕ) → serial (ms ++ LiveSlot n ∷ []) ≡ serial ms
serial_slot [] n = refl
serial_slot (LiveSlot m ∷ ms) n = serial_slot ms n
serial_slot (Committed u ∷ ms) n = ap (λ l. u ∷ l) (serial_slot ms n)

pub serial_push : (ms : List Member) (t : Transaction) → serial (ms ++ Committed t ∷ []) ≡ serial ms ++ t ∷ []
serial_push [] t = refl
serial_push (LiveSlot n ∷ ms) t = serial_push ms t
serial_push (Committed u ∷ ms) t = ap (λ l. u ∷ l) (serial_push ms t)

-- one put before another
pub serial_insert : (t : Transaction) (p : ℕ) (ms : List Member) → is_member ms p ≡ true → serial (insert_before (Committed t) p ms) ≡ serial (part_before p ms) ++ t ∷ serial (part_from p ms)
serial_insert t p [] here = absurd (true_false (sym here))
serial_insert t p (m ∷ ms) here = by_test (has_number p m) here (serial_insert t p ms) where
  by_member : (o : Option Transaction) → serial (insert_before (Committed t) p ms) ≡ serial (part_before p ms) ++ t ∷ serial (part_from p ms)
      → cons_option o (serial (insert_before (Committed t) p ms)) ≡ cons_option o (serial (part_before p ms)) ++ t ∷ serial (part_from p ms)
  by_member None e = e
  by_member (Some u) e = ap (λ l. u ∷ l) e

  by_test : (b : Bool) → (b || is_member ms p) ≡ true → (is_member ms p ≡ true → serial (insert_before (Committed t) p ms) ≡ serial (part_before p ms) ++ t ∷ serial (part_from p ms))
      → serial (cond b (Committed t ∷ m ∷ ms) (m ∷ insert_before (Committed t) p ms)) ≡ serial (cond b [] (m ∷ part_before p ms)) ++ t ∷ serial (cond b (m ∷ ms) (part_from p ms))
  by_test true h later = refl
  by_test false h later = by_member (committed_of m) (later h)

-- a live slot taken out: the order and its parts stay
pub slot_without : (n : ℕ) (ms : List Member) → is_member ms n ≡ false → without_member ms n ≡ ms
slot_without n [] new = refl
slot_without n (m ∷ ms) new = let others = or_parts (has_number n m) (is_member ms n) new in ap (λ b. cond (not b) (m ∷ without_member ms n) (without_member ms n)) others.0 ∙ ap (λ l. m ∷ l) (slot_without n ms others.1)

pub serial_without : (n : ℕ) (ms : List Member) → AreApart ms → Contains ms (LiveSlot n) → serial (without_member ms n) ≡ serial ms
serial_without n [] apart c = absurd (contains_none (LiveSlot n) c)
serial_without n (m ∷ ms) apart c = by_place (contains_cases m ms (LiveSlot n) c) (apart_tail m ms apart) (serial_without n ms) where
  by_place : (m ≡ LiveSlot n) ⊎ Contains ms (LiveSlot n) → (is_member ms (number_of m) ≡ false) × AreApart ms → (AreApart ms → Contains ms (LiveSlot n) → serial (without_member ms n) ≡ serial ms)
      → serial (cond (not (has_number n m)) (m ∷ without_member ms n) (without_member ms n)) ≡ cons_option (committed_of m) (serial ms)
  by_place (inl e) tail later =
      let new : is_member ms n ≡ false = subst (λ z. is_member ms (number_of z) ≡ false) e tail.0 in
      let gone : has_number n m ≡ true = ap (has_number n) e ∙ same_number n in
      ap (λ b. serial (cond (not b) (m ∷ without_member ms n) (without_member ms n))) gone ∙ ap serial (slot_without n ms new) ∙ sym (ap (λ z. cons_option (committed_of z) (serial ms)) e)
  by_place (inr d) tail later =
      let kept : has_number n m ≡ false = ne_eqb (number_of m) n (λ same. let no : ⊥ = both_ways (is_member ms (number_of m)) tail.0 (any_contains (has_number (number_of m)) ms (LiveSlot n) d (eq-eqb n (number_of m) (sym same))) in no) in
      ap (λ b. serial (cond (not b) (m ∷ without_member ms n) (without_member ms n))) kept ∙ ap (cons_option (committed_of m)) (later tail.1 d)

part_before_without : (p n : ℕ) (ms : List Member) → p ≢ n → part_before p (without_member ms n) ≡ without_member (part_before p ms) n
part_before_without p n [] other = refl
part_before_without p n (m ∷ ms) other = by_tests (has_number n m) refl (has_number p m) refl (part_before_without p n ms other) where
  by_tests : (r : Bool) → has_number n m ≡ r → (b : Bool) → has_number p m ≡ b → part_before p (without_member ms n) ≡ without_member (part_before p ms) n
      → part_before p (cond (not r) (m ∷ without_member ms n) (without_member ms n)) ≡ without_member (cond b [] (m ∷ part_before p ms)) n
  by_tests true gone true is e = absurd (other (sym (eqb-true (number_of m) p is) ∙ eqb-true (number_of m) n gone))
  by_tests true gone false is e = e ∙ sym (ap (λ r. cond (not r) (m ∷ without_member (part_before p ms) n) (without_member (part_before p ms) n)) gone)
  by_tests false gone true is e = ap (λ b. cond b [] (m ∷ part_before p (without_member ms n))) is
  by_tests false gone false is e =
      ap (λ b. cond b [] (m ∷ part_before p (without_member ms n))) is ∙ ap (λ l. m ∷ l) e ∙ sym (ap (λ r. cond (not r) (m ∷ without_member (part_before p ms) n) (without_member (part_before p ms) n)) gone)

part_from_without : (p n : ℕ) (ms : List Member) → p ≢ n → part_from p (without_member ms n) ≡ without_member (part_from p ms) n
part_from_without p n [] other = refl
part_from_without p n (m ∷ ms) other = by_tests (has_number n m) refl (has_number p m) refl (part_from_without p n ms other) where
  by_tests : (r : Bool) → has_number n m ≡ r → (b : Bool) → has_number p m ≡ b → part_from p (without_member ms n) ≡ without_member (part_from p ms) n
      → part_from p (cond (not r) (m ∷ without_member ms n) (without_member ms n)) ≡ without_member (cond b (m ∷ ms) (part_from p ms)) n
  by_tests true gone true is e = absurd (other (sym (eqb-true (number_of m) p is) ∙ eqb-true (number_of m) n gone))
  by_tests true gone false is e = e
  by_tests false gone true is e = ap (λ b. cond b (m ∷ without_member ms n) (part_from p (without_member ms n))) is ∙ sym (ap (λ r. cond (not r) (m ∷ without_member ms n) (without_member ms n)) gone)
  by_tests false gone false is e = ap (λ b. cond b (m ∷ without_member ms n) (part_from p (without_member ms n))) is ∙ e

-- the order without a live slot, where the slot may be in the list or not
serial_without_part : (n : ℕ) (ms : List Member) → ((t : Transaction) → Contains ms (Committed t) → t.number ≢ n) → serial (without_member ms n) ≡ serial ms
serial_without_part n [] others = refl
serial_without_part n (m ∷ ms) others = by_member m others (serial_without_part n ms) where
  by_member : (x : Member) → ((t : Transaction) → Contains (x ∷ ms) (Committed t) → t.number ≢ n) → (((t : Transaction) → Contains ms (Committed t) → t.number ≢ n) → serial (without_member ms n) ≡ serial ms)
      → serial (without_member (x ∷ ms) n) ≡ serial (x ∷ ms)
  by_member (LiveSlot k) others later = by_test (k == n) (later (λ t c. others t (contains_later (LiveSlot k) ms (Committed t) c))) where
    by_test : (b : Bool) → serial (without_member ms n) ≡ serial ms → serial (cond (not b) (LiveSlot k ∷ without_member ms n) (without_member ms n)) ≡ serial ms
    by_test true e = e
    by_test false e = e
  by_member (Committed u) others later =
      ap (λ b. serial (cond (not b) (Committed u ∷ without_member ms n) (without_member ms n))) (ne_eqb u.number n (others u (contains_here (Committed u) ms)))
      ∙ ap (λ l. u ∷ l) (later (λ t c. others t (contains_later (Committed u) ms (Committed t) c)))

-- no committed member has the number of a live slot
pub slot_not_committed : (n : ℕ) (ms : List Member) → AreApart ms → Contains ms (LiveSlot n) → (t : Transaction) → Contains ms (Committed t) → t.number ≢ n
slot_not_committed n ms apart slot t c same = let e : ◌≡◌ {A = Member} (Committed t) (LiveSlot n) = apart_one ms (Committed t) (LiveSlot n) apart c slot same in let no : ⊥ = cc in no

pub serial_before_without : (p n : ℕ) (ms : List Member) → AreApart ms → Contains ms (LiveSlot n) → p ≢ n → serial (part_before p (without_member ms n)) ≡ serial (part_before p ms)
serial_before_without p n ms apart slot other =
    ap serial (part_before_without p n ms other) ∙ serial_without_part n (part_before p ms) (λ t c. slot_not_committed n ms apart slot t (before_contains (has_number p) ms (Committed t) c))

pub serial_from_without : (p n : ℕ) (ms : List Member) → AreApart ms → Contains ms (LiveSlot n) → p ≢ n → serial (part_from p (without_member ms n)) ≡ serial (part_from p ms)
serial_from_without p n ms apart slot other =
    ap serial (part_from_without p n ms other) ∙ serial_without_part n (part_from p ms) (λ t c. slot_not_committed n ms apart slot t (from_contains (has_number p) ms (Committed t) c))

-- A batch commits before another member: the order gets it between the parts before that member and from it on.
pub serial_before : (t : Transaction) (p : ℕ) (ms : List Member) → AreApart ms → Contains ms (LiveSlot t.number) → p ≢ t.number → is_member ms p ≡ true
    → serial (insert_before (Committed t) p (without_member ms t.number)) ≡ serial (part_before p ms) ++ t ∷ serial (part_from p ms)
serial_before t p ms apart slot other here =
    serial_insert t p (without_member ms t.number) (member_without_other ms t.number p other ∙ here)
    ∙ ap (λ l. l ++ t ∷ serial (part_from p (without_member ms t.number))) (serial_before_without p t.number ms apart slot other)
    ∙ ap (λ l. serial (part_before p ms) ++ t ∷ l) (serial_from_without p t.number ms apart slot other)

home_elsewhere : (t : Transaction) (ms : List Member) → is_member ms t.number ≡ false → map (commit_at_slot t) ms ≡ ms
home_elsewhere t [] new = refl
home_elsewhere t (m ∷ ms) new =
    let others = or_parts (has_number t.number m) (is_member ms t.number) new in
    ap (λ b. cond b (Committed t) m ∷ map (commit_at_slot t) ms) others.0 ∙ ap (λ l. m ∷ l) (home_elsewhere t ms others.1)

-- A batch commits at its slot: the order gets it between the parts before its slot and from it on.
pub serial_home : (t : Transaction) (ms : List Member) → AreApart ms → Contains ms (LiveSlot t.number)
    → serial (map (commit_at_slot t) ms) ≡ serial (part_before t.number ms) ++ t ∷ serial (part_from t.number ms)
serial_home t [] apart slot = absurd (contains_none (LiveSlot t.number) slot)
serial_home t (m ∷ ms) apart slot = by_place (contains_cases m ms (LiveSlot t.number) slot) (apart_tail m ms apart) (serial_home t ms) where
  n : ℕ
  n = t.number

  by_member : (o : Option Transaction) → serial (map (commit_at_slot t) ms) ≡ serial (part_before n ms) ++ t ∷ serial (part_from n ms)
      → cons_option o (serial (map (commit_at_slot t) ms)) ≡ cons_option o (serial (part_before n ms)) ++ t ∷ serial (part_from n ms)
  by_member None e = e
  by_member (Some u) e = ap (λ l. u ∷ l) e

  by_place : (m ≡ LiveSlot n) ⊎ Contains ms (LiveSlot n) → (is_member ms (number_of m) ≡ false) × AreApart ms
      → (AreApart ms → Contains ms (LiveSlot n) → serial (map (commit_at_slot t) ms) ≡ serial (part_before n ms) ++ t ∷ serial (part_from n ms))
      → serial (commit_at_slot t m ∷ map (commit_at_slot t) ms) ≡ serial (part_before n (m ∷ ms)) ++ t ∷ serial (part_from n (m ∷ ms))
  by_place (inl e) tail later =
      let new : is_member ms n ≡ false = subst (λ z. is_member ms (number_of z) ≡ false) e tail.0 in
      let here : has_number n m ≡ true = ap (has_number n) e ∙ same_number n in
      ap (λ b. serial (cond b (Committed t) m ∷ map (commit_at_slot t) ms)) here
      ∙ ap (λ l. t ∷ serial l) (home_elsewhere t ms new)
      ∙ sym (ap (λ z. t ∷ cons_option (committed_of z) (serial ms)) e)
      ∙ sym (ap (λ b. serial (cond b [] (m ∷ part_before n ms)) ++ t ∷ serial (cond b (m ∷ ms) (part_from n ms))) here)
  by_place (inr d) tail later =
      let kept : has_number n m ≡ false = ne_eqb (number_of m) n (λ same. let no : ⊥ = both_ways (is_member ms (number_of m)) tail.0 (any_contains (has_number (number_of m)) ms (LiveSlot n) d (eq-eqb n (number_of m) (sym same))) in no) in
      ap (λ b. serial (cond b (Committed t) m ∷ map (commit_at_slot t) ms)) kept
      ∙ by_member (committed_of m) (later tail.1 d)
      ∙ sym (ap (λ b. serial (cond b [] (m ∷ part_before n ms)) ++ t ∷ serial (cond b (m ∷ ms) (part_from n ms))) kept)
