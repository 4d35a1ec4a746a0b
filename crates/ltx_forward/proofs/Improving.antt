-- The earliest of members, as more of them are looked at.
use Rattle.std.proofs.Common.{◌≡◌, ◌⊎◌, inl, inr, ℕ, ◌+◌, ◌<◌, ◌≤◌, List, [], ◌∷◌, ◌++◌, length, take, get_or, Option, Some, None, refl, sym, ap, ◌∙◌, subst, arith, Contains}
use Rattle.std.proofs.lemmas.List.{take_more}
use Rattle.ltx_model.specs.Listings.{place_of}
use Rattle.std.specs.List.{AllByRecursion}
use Rattle.ltx_lemmas.proofs.Lists.{all_push, contains_none, contains_here, contains_front, contains_back, contains_parts, contains_cases, some_same, none_some}
use Rattle.ltx_forward.specs.Earliest.{Improves, IsAtMost}

at_most_itself : (list : List ℕ) (best : Option ℕ) (n : ℕ) → best ≡ Some n → IsAtMost list best n
at_most_itself list None n e = absurd (none_some e)
at_most_itself list (Some b) n e = let same : b ≡ n = some_same e in subst (λ m. place_of list b ≤ place_of list m) same (omega arith)

-- what stands at or after the best one stands at or after a better one
at_most_trans : (list : List ℕ) (best found : Option ℕ) → ((n : ℕ) → best ≡ Some n → IsAtMost list found n) → (n : ℕ) → IsAtMost list best n → IsAtMost list found n
at_most_trans list None found kept n least = absurd least
at_most_trans list (Some b) found kept n least = by_found found (kept b refl) where
  by_found : (found : Option ℕ) → IsAtMost list found b → IsAtMost list found n
  by_found None h = absurd h
  by_found (Some f) h = omega (arith, h, least)

-- none more
pub improves_none : (list : List ℕ) (More : ℕ → Type 0) (best : Option ℕ) → ((n : ℕ) → More n → ⊥) → Improves list More best best
improves_none list More best none = record {
  bound = λ n more. absurd (none n more);
  kept = λ n e. at_most_itself list best n e;
  origin = λ n e. inl e;
  member = λ is. is;
}

-- some more and then others
pub improves_both : (list : List ℕ) (First Second All : ℕ → Type 0) (a b c : Option ℕ) → Improves list First a b → Improves list Second b c
    → ((n : ℕ) → All n → First n ⊎ Second n) → ((n : ℕ) → First n → All n) → ((n : ℕ) → Second n → All n) → Improves list All a c
improves_both list First Second All a b c one two split first second = record {
  bound = λ n all. by_part n (split n all);
  kept = λ n e. at_most_trans list b c two.kept n (one.kept n e);
  origin = λ n e. by_origin n (two.origin n e);
  member = λ is. two.member (one.member is);
} where
  by_part : (n : ℕ) → First n ⊎ Second n → IsAtMost list c n
  by_part n (inl h) = at_most_trans list b c two.kept n (one.bound n h)
  by_part n (inr h) = two.bound n h

  by_first : (n : ℕ) → (a ≡ Some n) ⊎ First n → (a ≡ Some n) ⊎ All n
  by_first n (inl e) = inl e
  by_first n (inr h) = inr (first n h)

  by_origin : (n : ℕ) → (b ≡ Some n) ⊎ Second n → (a ≡ Some n) ⊎ All n
  by_origin n (inl e) = by_first n (one.origin n e)
  by_origin n (inr h) = inr (second n h)

-- the same ones otherwise said
pub improves_same : (list : List ℕ) (First All : ℕ → Type 0) (a b : Option ℕ) → Improves list First a b → ((n : ℕ) → All n → First n) → ((n : ℕ) → First n → All n) → Improves list All a b
improves_same list First All a b one split first =
    improves_both list First (λ n. ⊥) All a b b one (improves_none list (λ n. ⊥) b (λ n no. no)) (λ n all. inl (split n all)) first (λ n no. absurd no)

-- ---- items of a list, one after another

-- an item of the first places
pub taken_more : {A : Type 0} (xs : List A) (k : ℕ) (x y : A) → k < length xs → x ≡ get_or xs k x → Contains (take (k + 1) xs) y → Contains (take k xs) y ⊎ (x ≡ y)
taken_more xs k x y below is c = by_part (contains_parts (take k xs) (x ∷ []) y (subst (λ l. Contains l y) (take_more xs k x below ∙ ap (λ z. take k xs ++ z ∷ []) (sym is)) c)) where
  by_last : (x ≡ y) ⊎ Contains [] y → Contains (take k xs) y ⊎ (x ≡ y)
  by_last (inl e) = inr e
  by_last (inr d) = absurd (contains_none y d)

  by_part : Contains (take k xs) y ⊎ Contains (x ∷ []) y → Contains (take k xs) y ⊎ (x ≡ y)
  by_part (inl d) = inl d
  by_part (inr d) = by_last (contains_cases x [] y d)

pub taken_kept : {A : Type 0} (xs : List A) (k : ℕ) (x y : A) → k < length xs → x ≡ get_or xs k x → Contains (take k xs) y → Contains (take (k + 1) xs) y
taken_kept xs k x y below is c = subst (λ l. Contains l y) (sym (take_more xs k x below ∙ ap (λ z. take k xs ++ z ∷ []) (sym is))) (contains_front (take k xs) (x ∷ []) y c)

pub taken_new : {A : Type 0} (xs : List A) (k : ℕ) (x : A) → k < length xs → x ≡ get_or xs k x → Contains (take (k + 1) xs) x
taken_new xs k x below is = subst (λ l. Contains l x) (sym (take_more xs k x below ∙ ap (λ z. take k xs ++ z ∷ []) (sym is))) (contains_back (take k xs) (x ∷ []) x (contains_here x []))

-- what holds of the first items and of the next one
pub all_taken : {A : Type 0} (P : A → Type 0) (xs : List A) (k : ℕ) (x : A) → k < length xs → x ≡ get_or xs k x → AllByRecursion P (take k xs) → P x → AllByRecursion P (take (k + 1) xs)
all_taken P xs k x below is all one = subst (AllByRecursion P) (sym (take_more xs k x below ∙ ap (λ z. take k xs ++ z ∷ []) (sym is))) (all_push P (take k xs) x all one)

-- one of the items is looked at: what it gives is looked at with what the items before it gave
module _ {A : Type 0} (list : List ℕ) (Gives : A → ℕ → Type 0) (xs : List A) where
  -- some of the first k items gives n
  pub record Given (k n : ℕ) : Type 0 where
    pub item : A
    pub here : Contains (take k xs) item
    pub gives : Gives item n

  pub given_start : (best : Option ℕ) → Improves list (Given 0) best best
  given_start best = improves_none list (Given 0) best (λ n g. contains_none g.item g.here)

  pub given_more : (k : ℕ) (x : A) (a b c : Option ℕ) → k < length xs → x ≡ get_or xs k x → Improves list (Given k) a b → Improves list (Gives x) b c → Improves list (Given (k + 1)) a c
  given_more k x a b c below is one two = improves_both list (Given k) (Gives x) (Given (k + 1)) a b c one two
      (λ n g. by_part n g (taken_more xs k x g.item below is g.here))
      (λ n g. record { item = g.item; here = taken_kept xs k x g.item below is g.here; gives = g.gives })
      (λ n h. record { item = x; here = taken_new xs k x below is; gives = h })
    where
      by_part : (n : ℕ) (g : Given (k + 1) n) → Contains (take k xs) g.item ⊎ (x ≡ g.item) → Given k n ⊎ Gives x n
      by_part n g (inl c) = inl (record { item = g.item; here = c; gives = g.gives })
      by_part n g (inr e) = inr (subst (λ y. Gives y n) (sym e) g.gives)

  -- an item that gives nothing
  pub given_less : (k : ℕ) (x : A) (a b : Option ℕ) → k < length xs → x ≡ get_or xs k x → Improves list (Given k) a b → ((n : ℕ) → Gives x n → ⊥) → Improves list (Given (k + 1)) a b
  given_less k x a b below is one none = given_more k x a b b below is one (improves_none list (Gives x) b none)
