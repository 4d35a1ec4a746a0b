-- Moves and agendas: what one more move leaves of slots, members, snapshots and the serial order. No state.
use Rattle.std.proofs.Common.{◌≡◌, ◌≢◌, ℕ, Bool, true, false, cond, not, ◌||◌, ◌==◌, List, [], ◌∷◌, ◌++◌, map, refl, sym, ap, ◌∙◌, subst, ne_eqb, eq-eqb, append-nil, IsPermutation}
use Rattle.std.specs.List.{list_any, AllByRecursion}
use Rattle.std.proofs.lemmas.List.Sorted.{IsPermutation-trans, IsPermutation-append_left, IsPermutation-to_front, IsPermutation-sym, IsPermutation-middle}
use Rattle.ltx_model.specs.Operations.{Transaction}
use Rattle.ltx_model.specs.Agenda.{Member, LiveSlot, Committed, number_of, committed_of, has_number, is_member, without_member, insert_before, commit_at_slot, agenda_after, agenda_from, serial, Timed, is_slot, commits_batch, moves_since, moves_until, has_slot, commits_after}
use Rattle.ltx_model.specs.Lists.{IsPairwise}
use Rattle.ltx_lemmas.proofs.Lists.{any_append, any_map, any_agree, any_none_all, any_not_all, before_within, before_past, given_append, true_false, all_map}
use Rattle.ltx_laws.proofs.Pairs.{same_number, all_of}

pub or_false : (a : Bool) → (a || false) ≡ a
or_false true = refl
or_false false = refl

pub or_true : (a : Bool) → (a || true) ≡ true
or_true true = refl
or_true false = refl

pub or_left : (a b : Bool) → a ≡ true → (a || b) ≡ true
or_left a b e = rw e refl

module _ {A : Type 0} (test : A → Bool) where
  pub any_push : (xs : List A) (y : A) → list_any test (xs ++ y ∷ []) ≡ (list_any test xs || test y)
  any_push xs y = any_append test xs (y ∷ []) ∙ ap (λ b. list_any test xs || b) (or_false (test y))

  pub any_push_not : (xs : List A) (y : A) → test y ≡ false → list_any test (xs ++ y ∷ []) ≡ list_any test xs
  any_push_not xs y e = any_push xs y ∙ ap (λ b. list_any test xs || b) e ∙ or_false (list_any test xs)

  pub any_kept : (xs ys : List A) → list_any test xs ≡ true → list_any test (xs ++ ys) ≡ true
  any_kept xs ys e = any_append test xs ys ∙ or_left (list_any test xs) (list_any test ys) e

-- moves
pub until_more : (n : ℕ) (moves more : List Timed) → has_slot moves n ≡ true → moves_until n (moves ++ more) ≡ moves_until n moves
until_more n moves more e = before_within (λ m. is_slot n m.move) moves more e

pub until_new : (n : ℕ) (moves : List Timed) (m : Timed) → has_slot moves n ≡ false → is_slot n m.move ≡ true → moves_until n (moves ++ m ∷ []) ≡ moves
until_new n moves m e is = before_past (λ m. is_slot n m.move) moves (m ∷ []) (any_not_all (λ m. is_slot n m.move) moves e) ∙ rw is (append-nil moves)

pub since_more : (n : ℕ) (moves more : List Timed) → has_slot moves n ≡ true → moves_since n (moves ++ more) ≡ moves_since n moves ++ more
since_more n [] more e = cc
since_more n (m ∷ ms) more e = by_test (is_slot n m.move) e (since_more n ms more) where
  by_test : (b : Bool) → (b || has_slot ms n) ≡ true → (has_slot ms n ≡ true → moves_since n (ms ++ more) ≡ moves_since n ms ++ more)
      → cond b (ms ++ more) (moves_since n (ms ++ more)) ≡ cond b ms (moves_since n ms) ++ more
  by_test true e later = refl
  by_test false e later = later e

pub since_new : (n : ℕ) (moves : List Timed) (m : Timed) → has_slot moves n ≡ false → is_slot n m.move ≡ true → moves_since n (moves ++ m ∷ []) ≡ []
since_new n [] m e is = rw is refl
since_new n (x ∷ xs) m e is = by_test (is_slot n x.move) e (λ h. since_new n xs m h is) where
  by_test : (b : Bool) → (b || has_slot xs n) ≡ false → (has_slot xs n ≡ false → moves_since n (xs ++ m ∷ []) ≡ []) → cond b (xs ++ m ∷ []) (moves_since n (xs ++ m ∷ [])) ≡ []
  by_test true e later = cc
  by_test false e later = later e

pub agenda_more : (ms : List Member) (moves : List Timed) (m : Timed) → agenda_from ms (moves ++ m ∷ []) ≡ agenda_after (agenda_from ms moves) m.move
agenda_more ms [] m = refl
agenda_more ms (x ∷ xs) m = agenda_more (agenda_after ms x.move) xs m

pub commits_after_more : (moves : List Timed) (m : Timed) (n c : ℕ) → has_slot moves n ≡ true → commits_batch c m.move ≡ false → commits_after (moves ++ m ∷ []) n c ≡ commits_after moves n c
commits_after_more moves m n c e not = ap (list_any (λ m. commits_batch c m.move)) (since_more n moves (m ∷ []) e) ∙ any_push_not (λ m. commits_batch c m.move) (moves_since n moves) m not

pub commits_after_now : (moves : List Timed) (m : Timed) (n c : ℕ) → has_slot moves n ≡ true → commits_batch c m.move ≡ true → commits_after (moves ++ m ∷ []) n c ≡ true
commits_after_now moves m n c e is = ap (list_any (λ m. commits_batch c m.move)) (since_more n moves (m ∷ []) e) ∙ any_push (λ m. commits_batch c m.move) (moves_since n moves) m ∙ rw is (or_true (commits_after moves n c))

-- members
pub number_home : (t : Transaction) (m : Member) → number_of (commit_at_slot t m) ≡ number_of m
number_home t m = by_test (has_number t.number m) refl where
  by_test : (b : Bool) → has_number t.number m ≡ b → number_of (cond b (Committed t) m) ≡ number_of m
  by_test true is = sym (same_number (number_of m) t.number is)
  by_test false is = refl

pub member_home : (t : Transaction) (n : ℕ) (ms : List Member) → is_member (map (commit_at_slot t) ms) n ≡ is_member ms n
member_home t n ms = any_map (has_number n) (commit_at_slot t) ms ∙ any_agree (λ m. has_number n (commit_at_slot t m)) (has_number n) ms (all_of (λ m. has_number n (commit_at_slot t m) ≡ has_number n m) (λ m. ap (λ k. k == n) (number_home t m)) ms)

pub member_without : (n k : ℕ) → n ≢ k → (ms : List Member) → is_member (without_member ms k) n ≡ is_member ms n
member_without n k apart [] = refl
member_without n k apart (m ∷ ms) = by_test (has_number k m) refl (member_without n k apart ms) where
  by_test : (b : Bool) → has_number k m ≡ b → is_member (without_member ms k) n ≡ is_member ms n → list_any (has_number n) (cond (not b) (m ∷ without_member ms k) (without_member ms k)) ≡ (has_number n m || is_member ms n)
  by_test true is rest = rest ∙ sym (ap (λ b. b || is_member ms n) (ne_eqb (number_of m) n (λ e. apart (sym e ∙ same_number (number_of m) k is))))
  by_test false is rest = ap (λ b. has_number n m || b) rest

pub gone : (k : ℕ) (ms : List Member) → AllByRecursion (λ m. number_of m ≢ k) (without_member ms k)
gone k [] = tt
gone k (m ∷ ms) = by_test (has_number k m) refl (gone k ms) where
  by_test : (b : Bool) → has_number k m ≡ b → AllByRecursion (λ m. number_of m ≢ k) (without_member ms k) → AllByRecursion (λ m. number_of m ≢ k) (cond (not b) (m ∷ without_member ms k) (without_member ms k))
  by_test true is rest = rest
  by_test false is rest = (λ e. true_false (sym (eq-eqb (number_of m) k e) ∙ is), rest)

pub member_insert : (x : Member) (p n : ℕ) → number_of x ≢ n → (ms : List Member) → is_member (insert_before x p ms) n ≡ is_member ms n
member_insert x p n apart [] = refl
member_insert x p n apart (m ∷ ms) = by_test (has_number p m) (member_insert x p n apart ms) where
  by_test : (b : Bool) → is_member (insert_before x p ms) n ≡ is_member ms n → list_any (has_number n) (cond b (x ∷ m ∷ ms) (m ∷ insert_before x p ms)) ≡ (has_number n m || is_member ms n)
  by_test true rest = ap (λ b. b || (has_number n m || is_member ms n)) (ne_eqb (number_of x) n apart)
  by_test false rest = ap (λ b. has_number n m || b) rest

pub member_push : (ms : List Member) (x : Member) (n : ℕ) → number_of x ≢ n → is_member (ms ++ x ∷ []) n ≡ is_member ms n
member_push ms x n apart = any_push_not (has_number n) ms x (ne_eqb (number_of x) n apart)

pub not_member : (ms : List Member) (n : ℕ) → is_member ms n ≡ false → AllByRecursion (λ m. number_of m ≢ n) ms
not_member [] n e = tt
not_member (m ∷ ms) n e = by_test (has_number n m) refl e (not_member ms n) where
  by_test : (b : Bool) → has_number n m ≡ b → (b || is_member ms n) ≡ false → (is_member ms n ≡ false → AllByRecursion (λ m. number_of m ≢ n) ms) → AllByRecursion (λ m. number_of m ≢ n) (m ∷ ms)
  by_test true is e later = cc
  by_test false is e later = (λ same. true_false (sym (eq-eqb (number_of m) n same) ∙ is), later e)

pub member_not : (ms : List Member) (n : ℕ) → AllByRecursion (λ m. number_of m ≢ n) ms → is_member ms n ≡ false
member_not ms n all = any_none_all (has_number n) ms (all_map (λ m. number_of m ≢ n) (λ m. has_number n m ≡ false) (λ m. ne_eqb (number_of m) n) ms all)

-- a committed member has another number
abbrev pub IsOther : ℕ → Member → Type 0
IsOther k (LiveSlot n) = Unit {0}
IsOther k (Committed u) = u.number ≢ k

pub serial_slot : (ms : List Member) (n : ℕ) → serial (ms ++ LiveSlot n ∷ []) ≡ serial ms
serial_slot ms n = given_append committed_of ms (LiveSlot n ∷ []) ∙ append-nil (serial ms)

pub serial_short : (ms : List Member) (t : Transaction) → serial (ms ++ Committed t ∷ []) ≡ serial ms ++ t ∷ []
serial_short ms t = given_append committed_of ms (Committed t ∷ [])

pub serial_without : (k : ℕ) (ms : List Member) → AllByRecursion (IsOther k) ms → serial (without_member ms k) ≡ serial ms
serial_without k [] others = refl
serial_without k (LiveSlot n ∷ ms) others = by_test (n == k) (serial_without k ms others.1) where
  by_test : (b : Bool) → serial (without_member ms k) ≡ serial ms → serial (cond (not b) (LiveSlot n ∷ without_member ms k) (without_member ms k)) ≡ serial ms
  by_test true rest = rest
  by_test false rest = rest
serial_without k (Committed u ∷ ms) others = rw (ne_eqb u.number k others.0) (ap (λ l. u ∷ l) (serial_without k ms others.1))

-- A transaction is put somewhere into a list.
pub record IsInserted (t : Transaction) (old new : List Transaction) : Type 0 where
  pub front : List Transaction
  pub back : List Transaction
  pub before : old ≡ front ++ back
  pub after : new ≡ front ++ t ∷ back

pub inserted_at_front : (t : Transaction) (old : List Transaction) → IsInserted t old (t ∷ old)
inserted_at_front t old = record { front = []; back = old; before = refl; after = refl }

pub inserted_later : (t u : Transaction) (old new : List Transaction) → IsInserted t old new → IsInserted t (u ∷ old) (u ∷ new)
inserted_later t u old new i = record { front = u ∷ i.front; back = i.back; before = ap (λ l. u ∷ l) i.before; after = ap (λ l. u ∷ l) i.after }

pub inserted_at_end : (t : Transaction) (old : List Transaction) → IsInserted t old (old ++ t ∷ [])
inserted_at_end t old = record { front = old; back = []; before = sym (append-nil old); after = refl }

pub inserted_permutes : (t : Transaction) (commits old new : List Transaction) → IsInserted t old new → IsPermutation commits old → IsPermutation (commits ++ t ∷ []) new
inserted_permutes t commits old new i p =
    let one : IsPermutation (commits ++ t ∷ []) (old ++ t ∷ []) = IsPermutation-append_left (t ∷ []) commits old p in
    let two : IsPermutation (old ++ t ∷ []) (t ∷ old) = IsPermutation-to_front old t in
    let three : IsPermutation (t ∷ (i.front ++ i.back)) (i.front ++ t ∷ i.back) = IsPermutation-sym (i.front ++ t ∷ i.back) (t ∷ (i.front ++ i.back)) (IsPermutation-middle i.front t i.back) in
    let four : IsPermutation (t ∷ old) new = subst (λ l. IsPermutation (t ∷ l) new) (sym i.before) (subst (IsPermutation (t ∷ (i.front ++ i.back))) (sym i.after) three) in
    IsPermutation-trans (commits ++ t ∷ []) (old ++ t ∷ []) new one (IsPermutation-trans (old ++ t ∷ []) (t ∷ old) new two four)

pub home_same : (t : Transaction) (ms : List Member) → AllByRecursion (λ m. number_of m ≢ t.number) ms → map (commit_at_slot t) ms ≡ ms
home_same t [] all = refl
home_same t (m ∷ ms) all = rw (ne_eqb (number_of m) t.number all.0) (ap (λ l. m ∷ l) (home_same t ms all.1))

pub home_inserted : (t : Transaction) (ms : List Member) → AllByRecursion (IsOther t.number) ms → IsPairwise (λ x y. number_of x ≢ number_of y) ms → is_member ms t.number ≡ true → IsInserted t (serial ms) (serial (map (commit_at_slot t) ms))
home_inserted t [] others apart e = cc
home_inserted t (LiveSlot n ∷ ms) others apart e = by_test (n == t.number) refl e (home_inserted t ms others.1 apart.1) where
  by_test : (b : Bool) → (n == t.number) ≡ b → (b || is_member ms t.number) ≡ true → (is_member ms t.number ≡ true → IsInserted t (serial ms) (serial (map (commit_at_slot t) ms)))
      → IsInserted t (serial ms) (serial (cond b (Committed t) (LiveSlot n) ∷ map (commit_at_slot t) ms))
  by_test true is e later =
      let same : n ≡ t.number = same_number n t.number is in
      let rest : map (commit_at_slot t) ms ≡ ms = home_same t ms (all_map (λ y. n ≢ number_of y) (λ y. number_of y ≢ t.number) (λ y ne is. ne (same ∙ sym is)) ms apart.0) in
      rw rest (inserted_at_front t (serial ms))
  by_test false is e later = later e
home_inserted t (Committed u ∷ ms) others apart e =
    let no : (u.number == t.number) ≡ false = ne_eqb u.number t.number others.0 in
    let later : is_member ms t.number ≡ true = sym (ap (λ b. b || is_member ms t.number) no) ∙ e in
    rw no (inserted_later t u (serial ms) (serial (map (commit_at_slot t) ms)) (home_inserted t ms others.1 apart.1 later))

pub before_inserted : (t : Transaction) (p : ℕ) (ms : List Member) → is_member ms p ≡ true → IsInserted t (serial ms) (serial (insert_before (Committed t) p ms))
before_inserted t p [] e = cc
before_inserted t p (m ∷ ms) e = by_test (has_number p m) e (before_inserted t p ms) where
  kept : (m : Member) → IsInserted t (serial ms) (serial (insert_before (Committed t) p ms)) → IsInserted t (serial (m ∷ ms)) (serial (m ∷ insert_before (Committed t) p ms))
  kept (LiveSlot n) i = i
  kept (Committed u) i = inserted_later t u (serial ms) (serial (insert_before (Committed t) p ms)) i

  by_test : (b : Bool) → (b || is_member ms p) ≡ true → (is_member ms p ≡ true → IsInserted t (serial ms) (serial (insert_before (Committed t) p ms))) → IsInserted t (serial (m ∷ ms)) (serial (cond b (Committed t ∷ m ∷ ms) (m ∷ insert_before (Committed t) p ms)))
  by_test true e later = inserted_at_front t (serial (m ∷ ms))
  by_test false e later = kept m (later e)
