-- The list of numbers with the member of each: what is asked of it, and what each move makes of it.
use Rattle.std.proofs.Common.{◌≡◌, ◌≢◌, ◌⊎◌, inl, inr, ℕ, zero, suc, Bool, true, false, cond, not, ◌||◌, ◌&&◌, ◌==◌, nat_lt, List, [], ◌∷◌, ◌++◌, map, Option, Some, None, refl, sym, ap, ◌∙◌, arith}
use Rattle.std.proofs.Common.{Result, Ok, Err, OnOk, OnErr, IsTrue, ◌↔◌, ◌<◌, ◌≤◌}
use Rattle.std.specs.Option.{is_some}
use Rattle.ltx_model.specs.declared.memory.NoMemory.{NoMemory}
use Rattle.std.specs.List.{list_any}
use Rattle.std.proofs.lemmas.Bool.{eqb-true, eq-eqb, ne_eqb, both_ways, or_right, or_parts, cases_eq, cases_lt}
use Rattle.std.proofs.lemmas.Bool.Decides.{nat_tests}
use Rattle.ltx_model.specs.declared.writes.Write.{Write}
use Rattle.ltx_model.specs.Lists.{before_first}
use Rattle.ltx_model.specs.Listings.{is_member, without, insert_before, place_of}
use Rattle.ltx_model.specs.Played.{Played, PlayedSlot, PlayedCommit, number_played, is_played, commit_there, without_played, put_before}
use Rattle.ltx_model.specs.Recovery.{is_played_slot}
use Rattle.ltx_recover.specs.declared.member.Member.{Member}
use Rattle.ltx_recover.specs.declared.member.Member.TheVariants as members
use Rattle.ltx_recover.specs.Orders.{shown, played_of, IsOrder}

number_shown : (n : ℕ) (o : Option Member) → number_played (shown n o) ≡ n
number_shown n None = refl
number_shown n (Some members.Slot) = refl
number_shown n (Some (members.Committed writes)) = refl

-- ---- what is asked of the list

pub any_played : (of : ℕ → Option Member) (ns : List ℕ) (t : ℕ) → list_any (is_played t) (played_of of ns) ≡ is_member ns t
any_played of [] t = refl
any_played of (n ∷ ns) t = ap (λ k. (k == t) || list_any (is_played t) (played_of of ns)) (number_shown n (of n)) ∙ ap (λ b. (n == t) || b) (any_played of ns t)

-- nothing is known of it, or it is a slot
abbrev pub not_committed : Option Member → Bool
not_committed None = true
not_committed (Some members.Slot) = true
not_committed (Some (members.Committed writes)) = false

slot_shown : (n m : ℕ) (o : Option Member) → is_played_slot n (shown m o) ≡ ((m == n) && not_committed o)
slot_shown n m None = sym (and_true (m == n)) where
  and_true : (b : Bool) → (b && true) ≡ b
  and_true true = refl
  and_true false = refl
slot_shown n m (Some members.Slot) = sym (and_true (m == n)) where
  and_true : (b : Bool) → (b && true) ≡ b
  and_true true = refl
  and_true false = refl
slot_shown n m (Some (members.Committed writes)) = sym (and_false (m == n)) where
  and_false : (b : Bool) → (b && false) ≡ false
  and_false true = refl
  and_false false = refl

one_or_other : (c b : Bool) → (c || (b && c)) ≡ c
one_or_other true b = refl
one_or_other false true = refl
one_or_other false false = refl

pub any_slot : (of : ℕ → Option Member) (ns : List ℕ) (n : ℕ) → list_any (is_played_slot n) (played_of of ns) ≡ (is_member ns n && not_committed (of n))
any_slot of [] n = refl
any_slot of (m ∷ ms) n = ap (λ b. b || list_any (is_played_slot n) (played_of of ms)) (slot_shown n m (of m)) ∙ ap (λ b. ((m == n) && not_committed (of m)) || b) (any_slot of ms n) ∙ by_test (m == n) refl where
  by_test : (b : Bool) → (m == n) ≡ b → ((b && not_committed (of m)) || (is_member ms n && not_committed (of n))) ≡ ((b || is_member ms n) && not_committed (of n))
  by_test true e = ap (λ k. not_committed (of k) || (is_member ms n && not_committed (of n))) (eqb-true m n e) ∙ one_or_other (not_committed (of n)) (is_member ms n)
  by_test false e = refl

-- a slot is known and not committed
abbrev pub slot_test : Option Member → Bool
slot_test None = false
slot_test (Some members.Slot) = true
slot_test (Some (members.Committed writes)) = false

pub has_slot_is : (of : ℕ → Option Member) (ns : List ℕ) → IsOrder of ns → (n : ℕ) → slot_test (of n) ≡ list_any (is_played_slot n) (played_of of ns)
has_slot_is of ns order n = by_member (of n) (order.known n) ∙ sym (any_slot of ns n) where
  by_member : (o : Option Member) → is_some o ≡ is_member ns n → slot_test o ≡ (is_member ns n && not_committed o)
  by_member None e = ap (λ b. b && true) e
  by_member (Some members.Slot) e = ap (λ b. b && true) e
  by_member (Some (members.Committed writes)) e = ap (λ b. b && false) e

pub target_before : (of : ℕ → Option Member) (ns : List ℕ) (t n : ℕ) → list_any (is_played t) (before_first (is_played n) (played_of of ns)) ≡ nat_lt (place_of ns t) (place_of ns n)
target_before of [] t n = refl
target_before of (m ∷ ms) t n =
    ap (λ k. list_any (is_played t) (cond (k == n) [] (shown m (of m) ∷ before_first (is_played n) (played_of of ms)))) (number_shown m (of m)) ∙ by_test (m == n) (target_before of ms t n) where
      by_target : (b : Bool) → list_any (is_played t) (before_first (is_played n) (played_of of ms)) ≡ nat_lt (place_of ms t) (place_of ms n) → (b || list_any (is_played t) (before_first (is_played n) (played_of of ms))) ≡ nat_lt (cond b zero (suc (place_of ms t))) (suc (place_of ms n))
      by_target true rest = grind (arith, nat_tests)
      by_target false rest = rest ∙ grind (arith, nat_tests)

      by_test : (b : Bool) → list_any (is_played t) (before_first (is_played n) (played_of of ms)) ≡ nat_lt (place_of ms t) (place_of ms n)
          → list_any (is_played t) (cond b [] (shown m (of m) ∷ before_first (is_played n) (played_of of ms))) ≡ nat_lt (cond (m == t) zero (suc (place_of ms t))) (cond b zero (suc (place_of ms n)))
      by_test true rest = grind (arith, nat_tests)
      by_test false rest = ap (λ k. (k == t) || list_any (is_played t) (before_first (is_played n) (played_of of ms))) (number_shown m (of m)) ∙ by_target (m == t) rest

-- ---- who stands in the list after a move

or_false : (b : Bool) → (b || false) ≡ b
or_false true = refl
or_false false = refl

pub member_push : (ns : List ℕ) (x n : ℕ) → is_member (ns ++ x ∷ []) n ≡ (is_member ns n || (x == n))
member_push [] x n = or_false (x == n)
member_push (m ∷ ms) x n = by_test (m == n) (member_push ms x n) where
  by_test : (b : Bool) → is_member (ms ++ x ∷ []) n ≡ (is_member ms n || (x == n)) → (b || is_member (ms ++ x ∷ []) n) ≡ ((b || is_member ms n) || (x == n))
  by_test true rest = refl
  by_test false rest = rest

member_without : (ns : List ℕ) (x n : ℕ) → n ≢ x → is_member (without ns x) n ≡ is_member ns n
member_without [] x n apart = refl
member_without (m ∷ ms) x n apart = by_test (m == x) refl (member_without ms x n apart) where
  by_test : (b : Bool) → (m == x) ≡ b → is_member (without ms x) n ≡ is_member ms n → is_member (cond (not b) (m ∷ without ms x) (without ms x)) n ≡ ((m == n) || is_member ms n)
  by_test true e rest = rest ∙ sym (ap (λ b. b || is_member ms n) (ne_eqb m n (λ same. apart (sym same ∙ eqb-true m x e))))
  by_test false e rest = ap (λ b. (m == n) || b) rest

member_insert : (x t : ℕ) (ns : List ℕ) (n : ℕ) → is_member ns t ≡ true → is_member (insert_before x t ns) n ≡ ((x == n) || is_member ns n)
member_insert x t [] n e = absurd (let no : ⊥ = cc in no)
member_insert x t (m ∷ ms) n e = by_test (m == t) e (member_insert x t ms n) where
  swap : (a b c : Bool) → (a || (b || c)) ≡ (b || (a || c))
  swap true true c = refl
  swap true false c = refl
  swap false b c = refl

  by_test : (b : Bool) → (b || is_member ms t) ≡ true → (is_member ms t ≡ true → is_member (insert_before x t ms) n ≡ ((x == n) || is_member ms n))
      → is_member (cond b (x ∷ m ∷ ms) (m ∷ insert_before x t ms)) n ≡ ((x == n) || ((m == n) || is_member ms n))
  by_test true h rest = refl
  by_test false h rest = ap (λ b. (m == n) || b) (rest h) ∙ swap (m == n) (x == n) (is_member ms n)

abbrev pub AreOthers : ℕ → (ℕ → Option Member) → (ℕ → Option Member) → Type 0
AreOthers x of g = (n : ℕ) → n ≢ x → g n ≡ of n

pub order_push : (of g : ℕ → Option Member) (ns : List ℕ) (x : ℕ) (m : Member) → IsOrder of ns → g x ≡ Some m → AreOthers x of g → IsOrder g (ns ++ x ∷ [])
order_push of g ns x m order here others = record { known = λ n. by_case n (cases_eq n x) } where
  by_case : (n : ℕ) → (n ≡ x) ⊎ (n ≡ x → ⊥) → is_some (g n) ≡ is_member (ns ++ x ∷ []) n
  by_case n (inl same) = ap is_some (ap g same ∙ here) ∙ sym (member_push ns x n ∙ or_right (is_member ns n) (x == n) (eq-eqb x n (sym same)))
  by_case n (inr apart) = ap is_some (others n apart) ∙ order.known n ∙ sym (member_push ns x n ∙ ap (λ b. is_member ns n || b) (ne_eqb x n (λ same. apart (sym same))) ∙ or_false (is_member ns n))

pub order_home : (of g : ℕ → Option Member) (ns : List ℕ) (x : ℕ) (m : Member) → IsOrder of ns → is_member ns x ≡ true → g x ≡ Some m → AreOthers x of g → IsOrder g ns
order_home of g ns x m order member here others = record { known = λ n. by_case n (cases_eq n x) } where
  by_case : (n : ℕ) → (n ≡ x) ⊎ (n ≡ x → ⊥) → is_some (g n) ≡ is_member ns n
  by_case n (inl same) = ap is_some (ap g same ∙ here) ∙ sym (ap (is_member ns) same ∙ member)
  by_case n (inr apart) = ap is_some (others n apart) ∙ order.known n

pub order_move : (of g : ℕ → Option Member) (ns : List ℕ) (x t : ℕ) (m : Member) → IsOrder of ns → is_member ns t ≡ true → x ≢ t → g x ≡ Some m → AreOthers x of g → IsOrder g (insert_before x t (without ns x))
order_move of g ns x t m order member differ here others = record { known = λ n. by_case n (cases_eq n x) } where
  moved : (n : ℕ) → is_member (insert_before x t (without ns x)) n ≡ ((x == n) || is_member (without ns x) n)
  moved n = member_insert x t (without ns x) n (member_without ns x t (λ same. differ (sym same)) ∙ member)

  by_case : (n : ℕ) → (n ≡ x) ⊎ (n ≡ x → ⊥) → is_some (g n) ≡ is_member (insert_before x t (without ns x)) n
  by_case n (inl same) = ap is_some (ap g same ∙ here) ∙ sym (moved n ∙ ap (λ b. b || is_member (without ns x) n) (eq-eqb x n (sym same)))
  by_case n (inr apart) = ap is_some (others n apart) ∙ order.known n ∙ sym (moved n ∙ ap (λ b. b || is_member (without ns x) n) (ne_eqb x n (λ same. apart (sym same))) ∙ member_without ns x n apart)

-- ---- the list after a move

played_others : (of g : ℕ → Option Member) (ns : List ℕ) (x : ℕ) → is_member ns x ≡ false → AreOthers x of g → played_of g ns ≡ played_of of ns
played_others of g [] x new others = refl
played_others of g (m ∷ ms) x new others =
    let parts = or_parts (m == x) (is_member ms x) new in
    let apart : m ≢ x = λ same. let no : ⊥ = both_ways (m == x) parts.0 (eq-eqb m x same) in no in
    λ i. shown m (others m apart i) ∷ played_others of g ms x parts.1 others i

map_push : (g : ℕ → Option Member) (ns : List ℕ) (x : ℕ) → played_of g (ns ++ x ∷ []) ≡ played_of g ns ++ shown x (g x) ∷ []
map_push g [] x = refl
map_push g (m ∷ ms) x = ap (λ ps. shown m (g m) ∷ ps) (map_push g ms x)

pub played_push : (of g : ℕ → Option Member) (ns : List ℕ) (x : ℕ) (m : Member) → is_member ns x ≡ false → g x ≡ Some m → AreOthers x of g → played_of g (ns ++ x ∷ []) ≡ played_of of ns ++ shown x (Some m) ∷ []
played_push of g ns x m new here others = map_push g ns x ∙ (λ i. played_others of g ns x new others i ++ shown x (here i) ∷ [])

pub played_home : (of g : ℕ → Option Member) (ns : List ℕ) (x : ℕ) (m : Member) (ws : List Write) → shown x (Some m) ≡ PlayedCommit x ws → g x ≡ Some m → AreOthers x of g → played_of g ns ≡ map (commit_there x ws) (played_of of ns)
played_home of g [] x m ws is here others = refl
played_home of g (k ∷ ks) x m ws is here others = λ i. one (cases_eq k x) i ∷ played_home of g ks x m ws is here others i where
  one : (k ≡ x) ⊎ (k ≡ x → ⊥) → shown k (g k) ≡ commit_there x ws (shown k (of k))
  one (inl same) = (λ i. shown (same i) (g (same i))) ∙ ap (shown x) here ∙ is ∙ sym (ap (λ b. cond b (PlayedCommit x ws) (shown k (of k))) (ap (λ n. n == x) (number_shown k (of k)) ∙ eq-eqb k x same))
  one (inr apart) = ap (shown k) (others k apart) ∙ sym (ap (λ b. cond b (PlayedCommit x ws) (shown k (of k))) (ap (λ n. n == x) (number_shown k (of k)) ∙ ne_eqb k x apart))

played_without : (of g : ℕ → Option Member) (ns : List ℕ) (x : ℕ) → AreOthers x of g → played_of g (without ns x) ≡ without_played x (played_of of ns)
played_without of g [] x others = refl
played_without of g (k ∷ ks) x others = by_case (cases_eq k x) (played_without of g ks x others) ∙ sym (ap (λ n. cond (not (n == x)) (shown k (of k) ∷ without_played x (played_of of ks)) (without_played x (played_of of ks))) (number_shown k (of k))) where
  by_case : (k ≡ x) ⊎ (k ≡ x → ⊥) → played_of g (without ks x) ≡ without_played x (played_of of ks)
      → played_of g (cond (not (k == x)) (k ∷ without ks x) (without ks x)) ≡ cond (not (k == x)) (shown k (of k) ∷ without_played x (played_of of ks)) (without_played x (played_of of ks))
  by_case (inl same) rest = rw (eq-eqb k x same) rest
  by_case (inr apart) rest = rw (ne_eqb k x apart) (λ i. shown k (others k apart i) ∷ rest i)

played_insert : (g : ℕ → Option Member) (ns : List ℕ) (x t : ℕ) → played_of g (insert_before x t ns) ≡ put_before (shown x (g x)) t (played_of g ns)
played_insert g [] x t = refl
played_insert g (k ∷ ks) x t = by_test (k == t) (played_insert g ks x t) ∙ sym (ap (λ n. cond (n == t) (shown x (g x) ∷ played_of g (k ∷ ks)) (shown k (g k) ∷ put_before (shown x (g x)) t (played_of g ks))) (number_shown k (g k))) where
  by_test : (b : Bool) → played_of g (insert_before x t ks) ≡ put_before (shown x (g x)) t (played_of g ks)
      → played_of g (cond b (x ∷ k ∷ ks) (k ∷ insert_before x t ks)) ≡ cond b (shown x (g x) ∷ played_of g (k ∷ ks)) (shown k (g k) ∷ put_before (shown x (g x)) t (played_of g ks))
  by_test true rest = refl
  by_test false rest = ap (λ ps. shown k (g k) ∷ ps) rest

pub played_move : (of g : ℕ → Option Member) (ns : List ℕ) (x t : ℕ) (m : Member) (ws : List Write) → shown x (Some m) ≡ PlayedCommit x ws → g x ≡ Some m → AreOthers x of g
    → played_of g (insert_before x t (without ns x)) ≡ put_before (PlayedCommit x ws) t (without_played x (played_of of ns))
played_move of g ns x t m ws is here others = played_insert g (without ns x) x t ∙ (λ i. put_before ((ap (shown x) here ∙ is) i) t (played_without of g ns x others i))

-- ---- what the clauses need

pub standing : (of : ℕ → Option Member) (ns : List ℕ) (ps : List Played) (t : ℕ) (b : Bool) → played_of of ns ≡ ps → list_any (is_played t) ps ≡ b → is_member ns t ≡ b
standing of ns ps t b view h = sym (any_played of ns t) ∙ ap (list_any (is_played t)) view ∙ h

pub home_kept : (r : Result (Unit {0}) NoMemory) (of g : ℕ → Option Member) (ns : List ℕ) (x : ℕ) (m : Member) → IsOrder of ns → is_member ns x ≡ true → OnOk r (g x ≡ Some m) → OnOk r (AreOthers x of g) → OnErr r ((n : ℕ) → g n ≡ of n) → IsOrder g ns
home_kept (Ok v) of g ns x m order member here others same = order_home of g ns x m order member here others
home_kept (Err e) of g ns x m order member here others same = record { known = λ n. ap is_some (same n) ∙ order.known n }

pub home_view : (r : Result (Unit {0}) NoMemory) (of g : ℕ → Option Member) (ns : List ℕ) (ps : List Played) (x : ℕ) (m : Member) (ws : List Write) → shown x (Some m) ≡ PlayedCommit x ws → played_of of ns ≡ ps → OnOk r (g x ≡ Some m) → OnOk r (AreOthers x of g)
    → OnOk r (played_of g ns ≡ map (commit_there x ws) ps)
home_view (Ok v) of g ns ps x m ws is view here others = played_home of g ns x m ws is here others ∙ ap (map (commit_there x ws)) view
home_view (Err e) of g ns ps x m ws is view here others = tt

pub slot_is : (of : ℕ → Option Member) (ns : List ℕ) (ps : List Played) (n : ℕ) (o : Option Member) → IsOrder of ns → played_of of ns ≡ ps → o ≡ of n → slot_test o ≡ list_any (is_played_slot n) ps
slot_is of ns ps n o order view is = ap slot_test is ∙ has_slot_is of ns order n ∙ ap (list_any (is_played_slot n)) view

pub target_is : (of : ℕ → Option Member) (ns : List ℕ) (ps : List Played) (t n : ℕ) (b : Bool) → played_of of ns ≡ ps → IsTrue b ↔ (place_of ns t < place_of ns n) → b ≡ list_any (is_played t) (before_first (is_played n) ps)
target_is of ns ps t n b view h = tested b h ∙ sym (target_before of ns t n) ∙ ap (λ l. list_any (is_played t) (before_first (is_played n) l)) view where
  tested : (b : Bool) → IsTrue b ↔ (place_of ns t < place_of ns n) → b ≡ nat_lt (place_of ns t) (place_of ns n)
  tested true h = let less = h.0 refl in grind (arith, nat_tests)
  tested false h = by_case (cases_lt (place_of ns t) (place_of ns n)) where
    by_case : (place_of ns t < place_of ns n) ⊎ (place_of ns n ≤ place_of ns t) → false ≡ nat_lt (place_of ns t) (place_of ns n)
    by_case (inl less) = let is : false ≡ true = h.1 less in cc
    by_case (inr most) = grind (arith, nat_tests)

-- ---- targets

before_none : (p : Played → Bool) (ps : List Played) → list_any p (before_first p ps) ≡ false
before_none p [] = refl
before_none p (x ∷ xs) = by_test (p x) refl (before_none p xs) where
  by_test : (b : Bool) → p x ≡ b → list_any p (before_first p xs) ≡ false → list_any p (cond b [] (x ∷ before_first p xs)) ≡ false
  by_test true e rest = refl
  by_test false e rest = ap (λ b. b || list_any p (before_first p xs)) e ∙ rest

pub target_differs : (ps : List Played) (n t : ℕ) → list_any (is_played t) (before_first (is_played n) ps) ≡ true → n ≢ t
target_differs ps n t e same = let no : ⊥ = both_ways (list_any (is_played t) (before_first (is_played n) ps)) (ap (λ k. list_any (is_played k) (before_first (is_played n) ps)) (sym same) ∙ before_none (is_played n) ps) e in no

pub target_stands : (p q : Played → Bool) (ps : List Played) → list_any p (before_first q ps) ≡ true → list_any p ps ≡ true
target_stands p q [] e = e
target_stands p q (x ∷ xs) e = by_test (q x) e (target_stands p q xs) where
  by_test : (b : Bool) → list_any p (cond b [] (x ∷ before_first q xs)) ≡ true → (list_any p (before_first q xs) ≡ true → list_any p xs ≡ true) → (p x || list_any p xs) ≡ true
  by_test true e rest = absurd (let no : ⊥ = cc in no)
  by_test false e rest = by_own (p x) e rest where
    by_own : (b : Bool) → (b || list_any p (before_first q xs)) ≡ true → (list_any p (before_first q xs) ≡ true → list_any p xs ≡ true) → (b || list_any p xs) ≡ true
    by_own true e rest = refl
    by_own false e rest = rest e

pub target_gone : (p q : Played → Bool) (ps : List Played) → list_any p ps ≡ false → list_any p (before_first q ps) ≡ false
target_gone p q ps e = by_test (list_any p (before_first q ps)) refl where
  by_test : (b : Bool) → list_any p (before_first q ps) ≡ b → list_any p (before_first q ps) ≡ false
  by_test true is = absurd (let no : ⊥ = both_ways (list_any p ps) e (target_stands p q ps is) in no)
  by_test false is = is

pub slot_stands : (n : ℕ) (ps : List Played) → list_any (is_played_slot n) ps ≡ true → list_any (is_played n) ps ≡ true
slot_stands n [] e = e
slot_stands n (PlayedSlot m ∷ ps) e = by_test (m == n) e (slot_stands n ps) where
  by_test : (b : Bool) → (b || list_any (is_played_slot n) ps) ≡ true → (list_any (is_played_slot n) ps ≡ true → list_any (is_played n) ps ≡ true) → (b || list_any (is_played n) ps) ≡ true
  by_test true e rest = refl
  by_test false e rest = rest e
slot_stands n (PlayedCommit m ws ∷ ps) e = or_right (m == n) (list_any (is_played n) ps) (slot_stands n ps e)
