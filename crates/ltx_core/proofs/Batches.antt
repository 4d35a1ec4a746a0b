-- The batches among open transactions, as they are entered: what is left of them where one ends, and which members of the agenda are theirs.
use Rattle.std.proofs.Common.{◌≡◌, ◌≢◌, ◌⊎◌, inl, inr, Contains, ℕ, ◌<◌, Bool, true, false, cond, not, ◌==◌, List, [], ◌∷◌, Option, Some, None, refl, sym, ap, ◌∙◌, ne_eqb, arith}
use Rattle.std.specs.List.{find, cons_option, AllByRecursion}
use Rattle.std.proofs.lemmas.Bool.{eqb-true, eq-eqb}
use Rattle.ltx_model.specs.Lists.{without_first, IsPairwise}
use Rattle.ltx_model.specs.Agenda.{Member, LiveSlot, Committed, number_of, has_number, without_member}
use Rattle.ltx_model.specs.Holders.{Holder, is_holder, is_entered, removed, holder_of}
use Rattle.ltx_model.specs.States.{Kind, IsShort, IsPending, IsLive, Active, is_of}
use Rattle.ltx_lemmas.proofs.Lists.{some_same, none_some, true_false, contains_cases, all_contains, all_find}
use Rattle.ltx_lemmas.proofs.Members.{same_number}
use Rattle.ltx_core.specs.Stands.{IsSlotOf, batches_of}

-- a short is not entered, so its end leaves the batches as they are
pub without_short : (session : ℕ) (active : List Active) (o : Active) → find (is_of session) active ≡ Some o → o.kind ≡ IsShort → batches_of (without_first (is_of session) active) ≡ batches_of active
without_short session [] o is short = refl
without_short session (x ∷ xs) o is short = by_test (is_of session x) is (λ there. without_short session xs o there short) where
  by_test : (b : Bool) → cond b (Some x) (find (is_of session) xs) ≡ Some o → (find (is_of session) xs ≡ Some o → batches_of (without_first (is_of session) xs) ≡ batches_of xs)
      → batches_of (cond b xs (x ∷ without_first (is_of session) xs)) ≡ cons_option (holder_of x.kind x.number) (batches_of xs)
  by_test true here later = sym (ap (λ (k : Kind). cons_option (holder_of k x.number) (batches_of xs)) (ap (λ (u : Active). u.kind) (some_same here) ∙ short))
  by_test false here later = ap (cons_option (holder_of x.kind x.number)) (later here)

-- the number of what is entered
pub entered_number : (kind : Kind) (n : ℕ) (h : Holder) → holder_of kind n ≡ Some h → h.number ≡ n
entered_number IsShort n h is = absurd (none_some is)
entered_number (IsPending d) n h is = ap (λ (x : Holder). x.number) (sym (some_same is))
entered_number (IsLive d snapshot) n h is = ap (λ (x : Holder). x.number) (sym (some_same is))

-- one of another number stays
removed_other : (n : ℕ) (o : Option Holder) (hs : List Holder) → ((h : Holder) → o ≡ Some h → h.number ≢ n) → removed n (cons_option o hs) ≡ cons_option o (removed n hs)
removed_other n None hs apart = refl
removed_other n (Some h) hs apart = ap (λ b. cond b hs (h ∷ removed n hs)) (ne_eqb h.number n (apart h refl))

removed_first : (n : ℕ) (o : Option Holder) (h : Holder) (hs : List Holder) → o ≡ Some h → h.number ≡ n → removed n (cons_option o hs) ≡ hs
removed_first n None h hs is number = absurd (none_some is)
removed_first n (Some g) h hs is number = ap (λ b. cond b hs (g ∷ removed n hs)) (ap (is_holder n) (some_same is) ∙ ap (λ k. k == n) number ∙ same_number n)

-- a batch that ends is removed from them
pub without_batch : (session : ℕ) (active : List Active) (o : Active) (h : Holder) → IsPairwise (λ a b. a.number < b.number) active → find (is_of session) active ≡ Some o → holder_of o.kind o.number ≡ Some h
    → batches_of (without_first (is_of session) active) ≡ removed o.number (batches_of active)
without_batch session [] o h pairs is entered = absurd (none_some is)
without_batch session (x ∷ xs) o h pairs is entered = by_test (is_of session x) is (λ there. without_batch session xs o h pairs.1 there entered) where
  by_test : (b : Bool) → cond b (Some x) (find (is_of session) xs) ≡ Some o → (find (is_of session) xs ≡ Some o → batches_of (without_first (is_of session) xs) ≡ removed o.number (batches_of xs))
      → batches_of (cond b xs (x ∷ without_first (is_of session) xs)) ≡ removed o.number (cons_option (holder_of x.kind x.number) (batches_of xs))
  by_test true here later =
      let same : x ≡ o = some_same here in
      sym (removed_first o.number (holder_of x.kind x.number) h (batches_of xs) (ap (λ (u : Active). holder_of u.kind u.number) same ∙ entered) (entered_number o.kind o.number h entered))
  by_test false there later =
      let less : x.number < o.number = all_find (λ u. x.number < u.number) (is_of session) xs o pairs.0 there in
      ap (cons_option (holder_of x.kind x.number)) (later there)
      ∙ sym (removed_other o.number (holder_of x.kind x.number) (batches_of xs) (λ g is same. let number : g.number ≡ x.number = entered_number x.kind x.number g is in let wrong : ⊥ = omega arith in wrong))

-- who else is entered
pub entered_removed : (n k : ℕ) (hs : List Holder) → k ≢ n → is_entered (removed n hs) k ≡ is_entered hs k
entered_removed n k [] apart = refl
entered_removed n k (h ∷ hs) apart = by_test (is_holder n h) refl (entered_removed n k hs apart) where
  by_test : (b : Bool) → is_holder n h ≡ b → is_entered (removed n hs) k ≡ is_entered hs k → is_entered (cond b hs (h ∷ removed n hs)) k ≡ is_entered (h ∷ hs) k
  by_test true is later = let number : h.number ≡ n = eqb-true h.number n is in sym (rw (ne_eqb h.number k (λ same. apart (sym same ∙ number))) refl)
  by_test false is later = rw later refl

-- the slots are still those of batches that have begun
pub slots_without : (n : ℕ) (hs : List Holder) (ms : List Member) → AllByRecursion (IsSlotOf hs) ms → AllByRecursion (IsSlotOf (removed n hs)) (without_member ms n)
slots_without n hs [] all = tt
slots_without n hs (m ∷ ms) all = by_test (has_number n m) refl (slots_without n hs ms all.1) where
  other : (m : Member) → number_of m ≢ n → IsSlotOf hs m → IsSlotOf (removed n hs) m
  other (LiveSlot k) apart is = entered_removed n k hs apart ∙ is
  other (Committed t) apart is = entered_removed n t.number hs apart ∙ is

  by_test : (b : Bool) → has_number n m ≡ b → AllByRecursion (IsSlotOf (removed n hs)) (without_member ms n) → AllByRecursion (IsSlotOf (removed n hs)) (cond (not b) (m ∷ without_member ms n) (without_member ms n))
  by_test true is later = later
  by_test false is later = (other m (λ same. true_false (sym (eq-eqb (number_of m) n same) ∙ is)) all.0, later)

-- the others have other numbers
pub others_numbers : (session : ℕ) (active : List Active) (o u : Active) → IsPairwise (λ a b. a.number < b.number) active → find (is_of session) active ≡ Some o → Contains (without_first (is_of session) active) u → u.number ≢ o.number
others_numbers session [] o u pairs is among same = none_some is
others_numbers session (x ∷ xs) o u pairs is among same = by_test (is_of session x) is among (λ there later. others_numbers session xs o u pairs.1 there later same) where
  by_test : (b : Bool) → cond b (Some x) (find (is_of session) xs) ≡ Some o → Contains (cond b xs (x ∷ without_first (is_of session) xs)) u
      → (find (is_of session) xs ≡ Some o → Contains (without_first (is_of session) xs) u → ⊥) → ⊥
  by_test true here among later =
      let less : x.number < u.number = all_contains (λ v. x.number < v.number) xs u pairs.0 among in
      let number : x.number ≡ o.number = ap (λ (v : Active). v.number) (some_same here) in
      omega (arith, same)
  by_test false there among later = by_place (contains_cases x (without_first (is_of session) xs) u among) where
    by_place : (x ≡ u) ⊎ Contains (without_first (is_of session) xs) u → ⊥
    by_place (inl e) =
        let less : x.number < o.number = all_find (λ v. x.number < v.number) (is_of session) xs o pairs.0 there in
        let number : x.number ≡ u.number = ap (λ (v : Active). v.number) e in
        omega (arith, same)
    by_place (inr rest) = later there rest
