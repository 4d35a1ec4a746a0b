-- What a history commits under a number is what it answered under that number, since no number is begun twice.
use Rattle.std.proofs.Common.{◌≡◌, ℕ, ◌<◌, ◌≤◌, Bool, true, false, cond, List, [], ◌∷◌, ◌++◌, Some, None, refl, sym, ap, subst, ◌∙◌, arith}
use Rattle.std.specs.List.{AllByRecursion, find}
use Rattle.ltx_model.specs.Lists.{change_first, without_first, IsPairwise}
use Rattle.ltx_model.specs.Operations.{Answered, Transaction}
use Rattle.ltx_model.specs.Explained.{Open, is_session, with_answer}

module _ {A : Type 0} where
  pub all_map : (P Q : A → Type 0) → ((x : A) → P x → Q x) → (xs : List A) → AllByRecursion P xs → AllByRecursion Q xs
  all_map P Q f [] all = tt
  all_map P Q f (x ∷ xs) all = (f x all.0, all_map P Q f xs all.1)

  pub all_snoc : (P : A → Type 0) (xs : List A) (x : A) → AllByRecursion P xs → P x → AllByRecursion P (xs ++ x ∷ [])
  all_snoc P [] x all one = (one, tt)
  all_snoc P (y ∷ xs) x all one = (all.0, all_snoc P xs x all.1 one)

  pub pairwise_snoc : (R : A → A → Type 0) (xs : List A) (x : A) → IsPairwise R xs → AllByRecursion (λ y. R y x) xs → IsPairwise R (xs ++ x ∷ [])
  pairwise_snoc R [] x pairs all = (tt, tt)
  pairwise_snoc R (y ∷ xs) x pairs all = (all_snoc (R y) xs x pairs.0 all.0, pairwise_snoc R xs x pairs.1 all.1)

  module _ (test : A → Bool) where
    pub all_without : (P : A → Type 0) (xs : List A) → AllByRecursion P xs → AllByRecursion P (without_first test xs)
    all_without P [] all = tt
    all_without P (x ∷ xs) all = by (test x) (all_without P xs all.1) where
      by : (b : Bool) → AllByRecursion P (without_first test xs) → AllByRecursion P (cond b xs (x ∷ without_first test xs))
      by true rest = all.1
      by false rest = (all.0, rest)

    pub pairwise_without : (R : A → A → Type 0) (xs : List A) → IsPairwise R xs → IsPairwise R (without_first test xs)
    pairwise_without R [] pairs = tt
    pairwise_without R (x ∷ xs) pairs = by (test x) (pairwise_without R xs pairs.1) where
      by : (b : Bool) → IsPairwise R (without_first test xs) → IsPairwise R (cond b xs (x ∷ without_first test xs))
      by true rest = pairs.1
      by false rest = (all_without (R x) xs pairs.0, rest)

    pub all_find : (P : A → Type 0) (xs : List A) (o : A) → AllByRecursion P xs → find test xs ≡ Some o → P o
    all_find P [] o all found = cc
    all_find P (x ∷ xs) o all found = by (test x) found (all_find P xs o all.1) where
      by : (b : Bool) → cond b (Some x) (find test xs) ≡ Some o → (find test xs ≡ Some o → P o) → P o
      by true is rest = let same : x ≡ o = cc in subst P same all.0
      by false is rest = rest is

    pub others_apart : (R : A → A → Type 0) → ((a b : A) → R a b → R b a) → (xs : List A) (o : A) → IsPairwise R xs → find test xs ≡ Some o → AllByRecursion (R o) (without_first test xs)
    others_apart R turn [] o pairs found = cc
    others_apart R turn (x ∷ xs) o pairs found = by (test x) found (others_apart R turn xs o pairs.1) where
      by : (b : Bool) → cond b (Some x) (find test xs) ≡ Some o → (find test xs ≡ Some o → AllByRecursion (R o) (without_first test xs)) → AllByRecursion (R o) (cond b xs (x ∷ without_first test xs))
      by true is rest = let same : x ≡ o = cc in subst (λ y. AllByRecursion (R y) xs) same pairs.0
      by false is rest = (turn x o (all_find (R x) xs o pairs.0 is), rest is)

    pub change_none : (f : A → A) (xs : List A) → find test xs ≡ None → change_first test f xs ≡ xs
    change_none f [] found = refl
    change_none f (x ∷ xs) found = by (test x) found (change_none f xs) where
      by : (b : Bool) → cond b (Some x) (find test xs) ≡ None → (find test xs ≡ None → change_first test f xs ≡ xs) → cond b (f x ∷ xs) (x ∷ change_first test f xs) ≡ x ∷ xs
      by true is rest = cc
      by false is rest = ap (λ l. x ∷ l) (rest is)

    -- what a change keeps
    pub all_changed : (P : A → Type 0) (f : A → A) → ((x : A) → P x → P (f x)) → (xs : List A) → AllByRecursion P xs → AllByRecursion P (change_first test f xs)
    all_changed P f keeps [] all = tt
    all_changed P f keeps (x ∷ xs) all = by (test x) (all_changed P f keeps xs all.1) where
      by : (b : Bool) → AllByRecursion P (change_first test f xs) → AllByRecursion P (cond b (f x ∷ xs) (x ∷ change_first test f xs))
      by true rest = (keeps x all.0, all.1)
      by false rest = (all.0, rest)

    pub pairwise_changed : (R : A → A → Type 0) (f : A → A) → ((x y : A) → R x y → R (f x) y) → ((x y : A) → R x y → R x (f y)) → (xs : List A) → IsPairwise R xs → IsPairwise R (change_first test f xs)
    pairwise_changed R f left right [] pairs = tt
    pairwise_changed R f left right (x ∷ xs) pairs = by (test x) (pairwise_changed R f left right xs pairs.1) where
      by : (b : Bool) → IsPairwise R (change_first test f xs) → IsPairwise R (cond b (f x ∷ xs) (x ∷ change_first test f xs))
      by true rest = (all_map (R x) (R (f x)) (left x) xs pairs.0, pairs.1)
      by false rest = (all_changed (R x) f (right x) xs pairs.0, rest)

    -- the changed one gets the new fact, and each other one keeps its own
    pub all_updated : (P Q : A → Type 0) (R : A → A → Type 0) (f : A → A) → ((a b : A) → R a b → R b a) → (xs : List A) (o : A) → AllByRecursion P xs → IsPairwise R xs → find test xs ≡ Some o
        → (P o → Q (f o)) → ((x : A) → R o x → P x → Q x) → AllByRecursion Q (change_first test f xs)
    all_updated P Q R f turn [] o all pairs found here there = tt
    all_updated P Q R f turn (x ∷ xs) o all pairs found here there = by (test x) found (λ is. all_updated P Q R f turn xs o all.1 pairs.1 is here there) where
      others : (y : A) → y ≡ o → (zs : List A) → AllByRecursion (R y) zs → AllByRecursion P zs → AllByRecursion Q zs
      others y same [] apart kept = tt
      others y same (z ∷ zs) apart kept = (there z (subst (λ w. R w z) same apart.0) kept.0, others y same zs apart.1 kept.1)

      by : (b : Bool) → cond b (Some x) (find test xs) ≡ Some o → (find test xs ≡ Some o → AllByRecursion Q (change_first test f xs)) → AllByRecursion Q (cond b (f x ∷ xs) (x ∷ change_first test f xs))
      by true is rest = let same : x ≡ o = cc in (subst (λ y. Q (f y)) (sym same) (here (subst P same all.0)), others x same xs pairs.0 all.1)
      by false is rest = (there x (turn x o (all_find (R x) xs o pairs.0 is)) all.0, rest is)

-- two have not the same number
abbrev pub AreApart : Open → Open → Type 0
AreApart a b = a.tx.number ≡ b.tx.number → ⊥

abbrev pub AreOther : Transaction → Transaction → Type 0
AreOther a b = a.number ≡ b.number → ⊥

-- these transactions are open, these are committed, and of each number this was answered
pub record Kept (told : ℕ → List Answered) (opens : List Open) (done : List Transaction) (last : ℕ) : Type 0 where
  pub open_told : AllByRecursion (λ o. (o.tx.answered ≡ told o.tx.number) × (o.tx.number ≤ last)) opens
  pub done_told : AllByRecursion (λ t. (t.answered ≡ told t.number) × (t.number ≤ last)) done
  pub open_apart : IsPairwise AreApart opens
  pub done_apart : IsPairwise AreOther done
  pub apart : AllByRecursion (λ t. AllByRecursion (λ o. t.number ≡ o.tx.number → ⊥) opens) done
  pub unborn : (n : ℕ) → last < n → told n ≡ []

pub kept_none : (told : ℕ → List Answered) → ((n : ℕ) → told n ≡ []) → Kept told [] [] 0
kept_none told none = record { open_told = tt; done_told = tt; open_apart = tt; done_apart = tt; apart = tt; unborn = λ n low. none n }

pub kept_same : (told new : ℕ → List Answered) (opens : List Open) (done : List Transaction) (last : ℕ) → ((n : ℕ) → new n ≡ told n) → Kept told opens done last → Kept new opens done last
kept_same told new opens done last same k = record {
  open_told = all_map _ _ (λ o h. (h.0 ∙ sym (same o.tx.number), h.1)) opens k.open_told;
  done_told = all_map _ _ (λ t h. (h.0 ∙ sym (same t.number), h.1)) done k.done_told;
  open_apart = k.open_apart;
  done_apart = k.done_apart;
  apart = k.apart;
  unborn = λ n low. same n ∙ k.unborn n low;
}

module _ (told : ℕ → List Answered) (opens : List Open) (done : List Transaction) (last session : ℕ) where
  pub kept_end : Kept told opens done last → Kept told (without_first (is_session session) opens) done last
  kept_end k = record {
    open_told = all_without (is_session session) _ opens k.open_told;
    done_told = k.done_told;
    open_apart = pairwise_without (is_session session) AreApart opens k.open_apart;
    done_apart = k.done_apart;
    apart = all_map _ _ (λ t h. all_without (is_session session) _ opens h) done k.apart;
    unborn = k.unborn;
  }

  pub kept_begin : (n : ℕ) → last < n → Kept told opens done last → Kept told (without_first (is_session session) opens ++ record { session = session; tx = record { number = n; answered = [] } } ∷ []) done n
  kept_begin n low k =
      let rest = kept_end k in
      let rests = without_first (is_session session) opens in
      let new : Open = record { session = session; tx = record { number = n; answered = [] } } in
      record {
        open_told = all_snoc _ rests new (all_map _ _ (λ o h. (h.0, omega (arith, h.1, low))) rests rest.open_told) (sym (k.unborn n low), omega arith);
        done_told = all_map _ _ (λ t h. (h.0, omega (arith, h.1, low))) done k.done_told;
        open_apart = pairwise_snoc AreApart rests new rest.open_apart (all_map _ _ (λ o h same. omega (arith, h.1, low, same)) rests rest.open_told);
        done_apart = k.done_apart;
        apart = all_both done rest.apart k.done_told;
        unborn = λ m high. k.unborn m (omega (arith, high, low));
      }
    where
      all_both : (ts : List Transaction) → AllByRecursion (λ t. AllByRecursion (λ o. t.number ≡ o.tx.number → ⊥) (without_first (is_session session) opens)) ts → AllByRecursion (λ t. (t.answered ≡ told t.number) × (t.number ≤ last)) ts
          → AllByRecursion (λ t. AllByRecursion (λ o. t.number ≡ o.tx.number → ⊥) (without_first (is_session session) opens ++ record { session = session; tx = record { number = n; answered = [] } } ∷ [])) ts
      all_both [] a b = tt
      all_both (t ∷ ts) a b = (all_snoc _ (without_first (is_session session) opens) (record { session = session; tx = record { number = n; answered = [] } }) a.0 (λ same. omega (arith, b.0.1, low, same)), all_both ts a.1 b.1)

  pub kept_commit : (o : Open) → find (is_session session) opens ≡ Some o → Kept told opens done last → Kept told (without_first (is_session session) opens) (done ++ o.tx ∷ []) last
  kept_commit o found k =
      let rest = kept_end k in
      record {
        open_told = rest.open_told;
        done_told = all_snoc _ done o.tx k.done_told (all_find (is_session session) _ opens o k.open_told found);
        open_apart = rest.open_apart;
        done_apart = pairwise_snoc AreOther done o.tx k.done_apart (all_map _ _ (λ t h. all_find (is_session session) _ opens o h found) done k.apart);
        apart = all_snoc _ done o.tx rest.apart (others_apart (is_session session) AreApart (λ a b apart same. apart (sym same)) opens o k.open_apart found);
        unborn = k.unborn;
      }

  pub kept_answer : (new : ℕ → List Answered) (o : Open) (a : Answered) → find (is_session session) opens ≡ Some o → new o.tx.number ≡ told o.tx.number ++ a ∷ []
      → ((n : ℕ) → (o.tx.number ≡ n → ⊥) → new n ≡ told n) → Kept told opens done last → Kept new (change_first (is_session session) (with_answer a) opens) done last
  kept_answer new o a found here there k = record {
    open_told = all_updated (is_session session) _ _ AreApart (with_answer a) (λ x y apart same. apart (sym same)) opens o k.open_told k.open_apart found
        (λ h. (ap (λ l. l ++ a ∷ []) h.0 ∙ sym here, h.1)) (λ x apart h. (h.0 ∙ sym (there x.tx.number apart), h.1));
    done_told = both done k.done_told k.apart;
    open_apart = pairwise_changed (is_session session) AreApart (with_answer a) (λ x y apart. apart) (λ x y apart. apart) opens k.open_apart;
    done_apart = k.done_apart;
    apart = all_map _ _ (λ t h. all_changed (is_session session) _ (with_answer a) (λ x apart. apart) opens h) done k.apart;
    unborn = λ n low. there n (λ same. omega (arith, low, same, (all_find (is_session session) _ opens o k.open_told found).1)) ∙ k.unborn n low;
  }
    where
      both : (ts : List Transaction) → AllByRecursion (λ t. (t.answered ≡ told t.number) × (t.number ≤ last)) ts → AllByRecursion (λ t. AllByRecursion (λ x. t.number ≡ x.tx.number → ⊥) opens) ts
          → AllByRecursion (λ t. (t.answered ≡ new t.number) × (t.number ≤ last)) ts
      both [] kept apart = tt
      both (t ∷ ts) kept apart = ((kept.0.0 ∙ sym (there t.number (λ same. all_find (is_session session) _ opens o apart.0 found (sym same))), kept.0.1), both ts kept.1 apart.1)
