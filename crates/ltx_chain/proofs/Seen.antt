-- Versions with rising marks: where those of at most a mark end, and what is seen after a change.
use Rattle.std.proofs.Common.{◌≡◌, ℕ, zero, suc, ◌-◌, ◌<◌, ◌≤◌, Bool, true, false, cond, List, [], ◌∷◌, ◌++◌, ◌||◌, length, take, drop, Option, Some, None, filter, refl, sym, ap, ◌∙◌, arith, append-nil}
use Rattle.std.specs.Prelude.{slice_get}
use Rattle.std.specs.List.{AllByRecursion, AllWithin, list_any}
use Rattle.std.specs.List.Sorted.{IsNonDecreasingBy}
use Rattle.std.specs.Option.{option_or}
use Rattle.std.proofs.lemmas.List.Elements.{All-from_recursion, filter-append}
use Rattle.std.proofs.lemmas.Bool.Decides.{nat_tests}
use Rattle.ltx_chain.specs.declared.chain.Version.{Version}
use Rattle.ltx_chain.specs.Versions.{AreBelow, IsRising, latest, visible, is_at_most, kept_from}

-- rising marks in the form of a binary search
pub rises : (xs : List Version) → IsRising xs → IsNonDecreasingBy (λ v. v.mark) xs
rises [] r i j d le lt = absurd (omega arith)
rises (x ∷ xs) r zero zero d le lt = omega arith
rises (x ∷ xs) r zero (suc j) d le lt = let above = All-from_recursion _ xs r.0 j d (omega arith) in omega arith
rises (x ∷ xs) r (suc i) zero d le lt = absurd (omega arith)
rises (x ∷ xs) r (suc i) (suc j) d le lt = rises xs r.1 i j d (omega arith) (omega arith)

-- where the items that pass a test end before those that fail it, the former are those that pass
pub take-filter : {A : Type 0} (p : A → Bool) (xs : List A) (n : ℕ) → n ≤ length xs → AllWithin (λ y. p y ≡ true) xs 0 n → AllWithin (λ y. p y ≡ false) xs n (length xs) → take n xs ≡ filter p xs
take-filter p [] zero le pass fail = refl
take-filter p [] (suc n) le pass fail = refl
take-filter p (x ∷ xs) zero le pass fail =
    rw (fail 0 x (omega arith) (omega arith)) (take-filter p xs zero (omega arith) (λ k d a b. absurd (omega arith)) (λ k d a b. fail (suc k) d (omega arith) (omega arith)))
take-filter p (x ∷ xs) (suc n) le pass fail =
    rw (pass 0 x (omega arith) (omega arith)) (ap (λ ys. x ∷ ys) (take-filter p xs n (omega arith) (λ k d a b. pass (suc k) d (omega arith) (omega arith)) (λ k d a b. fail (suc k) d (omega arith) (omega arith))))

-- a version more is the latest
pub latest-append : (xs : List Version) (v : Version) → latest (xs ++ v ∷ []) ≡ Some v
latest-append [] v = refl
latest-append (x ∷ xs) v = rw (latest-append xs v) refl

or_some : (a o : Option Version) (v : Version) → option_or (option_or a (Some v)) o ≡ option_or a (Some v)
or_some None o v = refl
or_some (Some w) o v = refl

-- the last version by its place
pub latest_at : (xs : List Version) → latest xs ≡ slice_get xs (length xs - 1)
latest_at [] = refl
latest_at (x ∷ []) = refl
latest_at (x ∷ y ∷ ys) =
    let e : suc (suc (length ys)) - 1 ≡ suc (suc (length ys) - 1) = omega arith in
    rw (or_some (latest ys) (Some x) y, e) (latest_at (y ∷ ys))

-- it is seen from its mark on, and hides nothing below
pub visible-append : (mark : ℕ) (xs : List Version) (v : Version) → visible mark (xs ++ v ∷ []) ≡ cond (is_at_most mark v) (Some v) (visible mark xs)
visible-append mark xs v = rw (filter-append (is_at_most mark) xs (v ∷ [])) (by_test (is_at_most mark v)) where
  by_test : (b : Bool) → latest (filter (is_at_most mark) xs ++ cond b (v ∷ []) []) ≡ cond b (Some v) (visible mark xs)
  by_test true = latest-append (filter (is_at_most mark) xs) v
  by_test false = ap latest (append-nil (filter (is_at_most mark) xs))

pub rising_push : (xs : List Version) (v : Version) → IsRising xs → AreBelow v.mark xs → IsRising (xs ++ v ∷ [])
rising_push [] v r below = (tt, tt)
rising_push (x ∷ xs) v r below = (above xs r.0, rising_push xs v r.1 below.1) where
  above : (ys : List Version) → AllByRecursion (λ w. x.mark < w.mark) ys → AllByRecursion (λ w. x.mark < w.mark) (ys ++ v ∷ [])
  above [] all = (below.0, tt)
  above (y ∷ ys) all = (all.0, above ys all.1)

pub rising_drop : (n : ℕ) (xs : List Version) → IsRising xs → IsRising (drop n xs)
rising_drop zero xs r = r
rising_drop (suc n) [] r = r
rising_drop (suc n) (x ∷ xs) r = rising_drop n xs r.1

-- what is seen at a mark hides what stands before it, at later marks too
hides : (mark m : ℕ) (vs : List Version) (o : Option Version) → mark ≤ m → list_any (is_at_most mark) vs ≡ true → option_or (visible m vs) o ≡ visible m vs
hides mark m [] o le any = cc
hides mark m (v ∷ vs) o le any = by_tests (is_at_most m v) (is_at_most mark v) refl refl any (hides mark m vs o le) where
  by_tests : (b c : Bool) → is_at_most m v ≡ b → is_at_most mark v ≡ c → (c || list_any (is_at_most mark) vs) ≡ true
      → (list_any (is_at_most mark) vs ≡ true → option_or (visible m vs) o ≡ visible m vs)
      → option_or (latest (cond b (v ∷ filter (is_at_most m) vs) (filter (is_at_most m) vs))) o ≡ latest (cond b (v ∷ filter (is_at_most m) vs) (filter (is_at_most m) vs))
  by_tests true c is_b is_c any rest = or_some (visible m vs) o v
  by_tests false true is_b is_c any rest = absurd (grind (arith, nat_tests))
  by_tests false false is_b is_c any rest = rest any

-- what is dropped at a mark is seen at no mark from that on
pub visible-kept_from : (mark m : ℕ) (xs : List Version) → mark ≤ m → visible m (kept_from mark xs) ≡ visible m xs
visible-kept_from mark m [] le = refl
visible-kept_from mark m (v ∷ vs) le = by_test (list_any (is_at_most mark) vs) refl (visible-kept_from mark m vs le) where
  hidden : (b : Bool) → list_any (is_at_most mark) vs ≡ true → visible m vs ≡ latest (cond b (v ∷ filter (is_at_most m) vs) (filter (is_at_most m) vs))
  hidden true any = sym (hides mark m vs (Some v) le any)
  hidden false any = refl

  stays : (b : Bool) → visible m (kept_from mark vs) ≡ visible m vs
      → latest (cond b (v ∷ filter (is_at_most m) (kept_from mark vs)) (filter (is_at_most m) (kept_from mark vs))) ≡ latest (cond b (v ∷ filter (is_at_most m) vs) (filter (is_at_most m) vs))
  stays true rest = ap (λ o. option_or o (Some v)) rest
  stays false rest = rest

  by_test : (b : Bool) → list_any (is_at_most mark) vs ≡ b → visible m (kept_from mark vs) ≡ visible m vs
      → visible m (cond b (kept_from mark vs) (v ∷ kept_from mark vs)) ≡ visible m (v ∷ vs)
  by_test true any rest = rest ∙ hidden (is_at_most m v) any
  by_test false none rest = stays (is_at_most m v) rest

none_pass : (mark : ℕ) (xs : List Version) → list_any (is_at_most mark) xs ≡ false → filter (is_at_most mark) xs ≡ []
none_pass mark [] none = refl
none_pass mark (x ∷ xs) none = by_test (is_at_most mark x) none (none_pass mark xs) where
  by_test : (b : Bool) → (b || list_any (is_at_most mark) xs) ≡ false → (list_any (is_at_most mark) xs ≡ false → filter (is_at_most mark) xs ≡ [])
      → cond b (x ∷ filter (is_at_most mark) xs) (filter (is_at_most mark) xs) ≡ []
  by_test true none rest = cc
  by_test false none rest = rest none

-- one that passes, and a number below all marks
one_passes : (mark n : ℕ) (xs : List Version) → AllByRecursion (λ w. n < w.mark) xs → list_any (is_at_most mark) xs ≡ true → (n ≤ mark) × (0 < length (filter (is_at_most mark) xs))
one_passes mark n [] all any = cc
one_passes mark n (x ∷ xs) all any = by_test (is_at_most mark x) refl any (one_passes mark n xs all.1) where
  by_test : (b : Bool) → is_at_most mark x ≡ b → (b || list_any (is_at_most mark) xs) ≡ true
      → (list_any (is_at_most mark) xs ≡ true → (n ≤ mark) × (0 < length (filter (is_at_most mark) xs)))
      → (n ≤ mark) × (0 < length (cond b (x ∷ filter (is_at_most mark) xs) (filter (is_at_most mark) xs)))
  by_test true is any rest = let below = all.0 in (grind (arith, nat_tests), omega arith)
  by_test false is any rest = rest any

-- what is kept from a mark on begins with what is seen at it
pub kept_from_drop : (mark : ℕ) (xs : List Version) → IsRising xs → kept_from mark xs ≡ drop (length (filter (is_at_most mark) xs) - 1) xs
kept_from_drop mark [] r = refl
kept_from_drop mark (v ∷ vs) r = by_test (list_any (is_at_most mark) vs) refl (kept_from_drop mark vs r.1) where
  seen : List Version
  seen = filter (is_at_most mark) vs

  more : (n : ℕ) → n ≡ suc (length seen - 1) → kept_from mark vs ≡ drop (length seen - 1) vs → kept_from mark vs ≡ drop n (v ∷ vs)
  more n is rest = rw is rest

  first : (b : Bool) → seen ≡ [] → kept_from mark vs ≡ vs → v ∷ kept_from mark vs ≡ drop (length (cond b (v ∷ seen) seen) - 1) (v ∷ vs)
  first true none rest = rw none (ap (λ l. v ∷ l) rest)
  first false none rest = rw none (ap (λ l. v ∷ l) rest)

  by_test : (b : Bool) → list_any (is_at_most mark) vs ≡ b → kept_from mark vs ≡ drop (length seen - 1) vs
      → cond b (kept_from mark vs) (v ∷ kept_from mark vs) ≡ drop (length (filter (is_at_most mark) (v ∷ vs)) - 1) (v ∷ vs)
  by_test true any rest =
      let one = one_passes mark v.mark vs r.0 any in
      let passes : is_at_most mark v ≡ true = grind (arith, nat_tests) in
      rw passes (more _ (omega arith) rest)
  by_test false none rest = let no = none_pass mark vs none in first (is_at_most mark v) no (rest ∙ ap (λ l. drop (length l - 1) vs) no)

-- from the highest mark on the latest version is seen
pub visible_latest : (mark : ℕ) (xs : List Version) → AllByRecursion (λ v. v.mark ≤ mark) xs → visible mark xs ≡ latest xs
visible_latest mark [] all = refl
visible_latest mark (x ∷ xs) all =
    let seen : is_at_most mark x ≡ true = let first = all.0 in grind (arith, nat_tests) in
    rw (seen, visible_latest mark xs all.1) refl
