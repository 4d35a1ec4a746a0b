-- The areas of the batches that have begun, and the live ones among them: what is left of them, and what they are in the state.
use Rattle.std.proofs.Common.{◌≡◌, ◌≢◌, ℕ, suc, ◌<◌, Bool, true, false, cond, not, ◌==◌, List, [], ◌∷◌, ◌++◌, map, filter, length, Option, Some, None, refl, sym, ap, ◌∙◌, subst, ne_eqb, nat_lt, arith}
use Rattle.std.proofs.lemmas.Bool.Decides.{nat_tests}
use Rattle.std.specs.List.{find, filter_map, cons_option, AllByRecursion}
use Rattle.ltx_model.specs.Lists.{change_first, without_first, IsPairwise}
use Rattle.ltx_model.specs.Operations.{Transaction}
use Rattle.ltx_model.specs.States.{Kind, IsShort, IsPending, IsLive, Step, Active, LiveBatch, as_live, transaction_of, is_of}
use Rattle.ltx_model.specs.Histories.{with_step, made_live}
use Rattle.ltx_model.specs.Holders.{holder_of}
use Rattle.ltx_model.specs.Decisions.{live_of}
use Rattle.ltx_lemmas.proofs.Lists.{some_same, none_some, given_append, all_find}
use Rattle.ltx_lemmas.proofs.Members.{same_number}
use Rattle.ltx_laws.proofs.StructureSlots.{live_in}
use Rattle.ltx_forward.specs.declared.decide.Live.{Live}
use Rattle.ltx_forward.specs.Asked.{told}
use Rattle.ltx_core.specs.Recorded.{are_several_live, areas_without, areas_of_live}
use Rattle.ltx_core.specs.Stands.{area_of, areas_of, batches_of}

-- the live batches among open transactions, and their numbers
abbrev pub lives_in : List Active → List LiveBatch
lives_in active = filter_map (λ o. as_live o.kind (transaction_of o)) active

abbrev pub numbers_in : List Active → List ℕ
numbers_in active = map (λ b. b.tx.number) (lives_in active)

-- who ended is out of them, where it was no live batch and no batch
module _ {A : Type 0} (given : Kind → ℕ → Option A) where
  abbrev all_given : List Active → List A
  all_given active = filter_map (λ o. given o.kind o.number) active

  pub without_nobody : (session : ℕ) (active : List Active) (o : Active) → find (is_of session) active ≡ Some o → given o.kind o.number ≡ None → all_given (without_first (is_of session) active) ≡ all_given active
  without_nobody session [] o is none = refl
  without_nobody session (x ∷ xs) o is none = by_test (is_of session x) is (λ there. without_nobody session xs o there none) where
    by_test : (b : Bool) → cond b (Some x) (find (is_of session) xs) ≡ Some o → (find (is_of session) xs ≡ Some o → all_given (without_first (is_of session) xs) ≡ all_given xs)
        → all_given (cond b xs (x ∷ without_first (is_of session) xs)) ≡ cons_option (given x.kind x.number) (all_given xs)
    by_test true here later = sym (ap (λ g. cons_option g (all_given xs)) (ap (λ (u : Active). given u.kind u.number) (some_same here) ∙ none))
    by_test false here later = ap (cons_option (given x.kind x.number)) (later here)

  -- a step more leaves them
  pub given_stepped : (test : Active → Bool) (step : Step) (os : List Active) → all_given (change_first test (with_step step) os) ≡ all_given os
  given_stepped test step [] = refl
  given_stepped test step (o ∷ os) = by_test (test o) (given_stepped test step os) where
    by_test : (b : Bool) → all_given (change_first test (with_step step) os) ≡ all_given os → all_given (cond b (with_step step o ∷ os) (o ∷ change_first test (with_step step) os)) ≡ all_given (o ∷ os)
    by_test true later = refl
    by_test false later = ap (cons_option (given o.kind o.number)) later

-- the number of a live batch
abbrev pub live_number : Kind → ℕ → Option ℕ
live_number IsShort n = None
live_number (IsPending d) n = None
live_number (IsLive d snapshot) n = Some n

pub numbers_are : (active : List Active) → numbers_in active ≡ filter_map (λ o. live_number o.kind o.number) active
numbers_are [] = refl
numbers_are (o ∷ os) = by_kind o.kind (numbers_are os) where
  by_kind : (k : Kind) → numbers_in os ≡ filter_map (λ u. live_number u.kind u.number) os
      → map (λ b. b.tx.number) (cons_option (as_live k (transaction_of o)) (lives_in os)) ≡ cons_option (live_number k o.number) (filter_map (λ u. live_number u.kind u.number) os)
  by_kind IsShort rest = rest
  by_kind (IsPending d) rest = rest
  by_kind (IsLive d snapshot) rest = ap (λ ns. o.number ∷ ns) rest

-- the areas
pub areas_short : (session : ℕ) (active : List Active) (o : Active) → find (is_of session) active ≡ Some o → o.kind ≡ IsShort → areas_of (without_first (is_of session) active) ≡ areas_of active
areas_short session active o is short = without_nobody area_of session active o is (ap (λ k. area_of k o.number) short)

pub areas_stepped : (test : Active → Bool) (step : Step) (os : List Active) → areas_of (change_first test (with_step step) os) ≡ areas_of os
areas_stepped test step os = given_stepped area_of test step os

pub areas_more : (active : List Active) (o : Active) → areas_of (active ++ o ∷ []) ≡ areas_of active ++ areas_of (o ∷ [])
areas_more active o = given_append (λ (u : Active). area_of u.kind u.number) active (o ∷ [])

pub areas_live : (snapshot : List Transaction) (os : List Active) → areas_of (map (live_in snapshot) os) ≡ areas_of os
areas_live snapshot [] = refl
areas_live snapshot (o ∷ os) = by_kind o.kind (areas_live snapshot os) where
  by_kind : (k : Kind) → areas_of (map (live_in snapshot) os) ≡ areas_of os → cons_option (area_of (made_live snapshot k) o.number) (areas_of (map (live_in snapshot) os)) ≡ cons_option (area_of k o.number) (areas_of os)
  by_kind IsShort rest = rest
  by_kind (IsPending d) rest = ap (λ l. record { tx = o.number; writes = d.writes; reads = d.reads } ∷ l) rest
  by_kind (IsLive d old) rest = ap (λ l. record { tx = o.number; writes = d.writes; reads = d.reads } ∷ l) rest

area_number : (kind : Kind) (n : ℕ) (l : Live) → area_of kind n ≡ Some l → l.tx ≡ n
area_number IsShort n l is = absurd (none_some is)
area_number (IsPending d) n l is = ap (λ (x : Live). x.tx) (sym (some_same is))
area_number (IsLive d snapshot) n l is = ap (λ (x : Live). x.tx) (sym (some_same is))

-- that of another number stays
area_other : (n : ℕ) (o : Option Live) (ls : List Live) → ((l : Live) → o ≡ Some l → l.tx ≢ n) → areas_without n (cons_option o ls) ≡ cons_option o (areas_without n ls)
area_other n None ls apart = refl
area_other n (Some l) ls apart = ap (λ b. cond (not b) (l ∷ areas_without n ls) (areas_without n ls)) (ne_eqb l.tx n (apart l refl))

area_gone : (n : ℕ) (o : Option Live) (l : Live) (ls : List Live) → o ≡ Some l → l.tx ≡ n → areas_without n (cons_option o ls) ≡ areas_without n ls
area_gone n None l ls is number = absurd (none_some is)
area_gone n (Some g) l ls is number = ap (λ b. cond (not b) (g ∷ areas_without n ls) (areas_without n ls)) (ap (λ (x : Live). x.tx == n) (some_same is) ∙ ap (λ k. k == n) number ∙ same_number n)

-- and so do those of later begins
areas_above : (n : ℕ) (os : List Active) → AllByRecursion (λ u. n < u.number) os → areas_without n (areas_of os) ≡ areas_of os
areas_above n [] all = refl
areas_above n (o ∷ os) all =
    let less : n < o.number = all.0 in
    area_other n (area_of o.kind o.number) (areas_of os) (λ l is same. let number : l.tx ≡ o.number = area_number o.kind o.number l is in let wrong : ⊥ = omega arith in wrong)
    ∙ ap (cons_option (area_of o.kind o.number)) (areas_above n os all.1)

pub areas_batch : (session : ℕ) (active : List Active) (o : Active) (l : Live) → IsPairwise (λ a b. a.number < b.number) active → find (is_of session) active ≡ Some o → area_of o.kind o.number ≡ Some l
    → areas_of (without_first (is_of session) active) ≡ areas_without o.number (areas_of active)
areas_batch session [] o l pairs is area = absurd (none_some is)
areas_batch session (x ∷ xs) o l pairs is area = by_test (is_of session x) is (λ there. areas_batch session xs o l pairs.1 there area) where
  by_test : (b : Bool) → cond b (Some x) (find (is_of session) xs) ≡ Some o → (find (is_of session) xs ≡ Some o → areas_of (without_first (is_of session) xs) ≡ areas_without o.number (areas_of xs))
      → areas_of (cond b xs (x ∷ without_first (is_of session) xs)) ≡ areas_without o.number (cons_option (area_of x.kind x.number) (areas_of xs))
  by_test true here later =
      let same : x ≡ o = some_same here in
      sym (area_gone o.number (area_of x.kind x.number) l (areas_of xs) (ap (λ (u : Active). area_of u.kind u.number) same ∙ area) (area_number o.kind o.number l area)
      ∙ areas_above o.number xs (subst (λ (u : Active). AllByRecursion (λ v. u.number < v.number) xs) same pairs.0))
  by_test false there later =
      let less : x.number < o.number = all_find (λ u. x.number < u.number) (is_of session) xs o pairs.0 there in
      ap (cons_option (area_of x.kind x.number)) (later there)
      ∙ sym (area_other o.number (area_of x.kind x.number) (areas_of xs) (λ g is same. let number : g.tx ≡ x.number = area_number x.kind x.number g is in let wrong : ⊥ = omega arith in wrong))

-- as many areas as batches
pub areas_length : (os : List Active) → length (areas_of os) ≡ length (batches_of os)
areas_length [] = refl
areas_length (o ∷ os) = by_kind o.kind (areas_length os) where
  by_kind : (k : Kind) → length (areas_of os) ≡ length (batches_of os) → length (cons_option (area_of k o.number) (areas_of os)) ≡ length (cons_option (holder_of k o.number) (batches_of os))
  by_kind IsShort rest = rest
  by_kind (IsPending d) rest = ap suc rest
  by_kind (IsLive d snapshot) rest = ap suc rest

-- the live ones are those of the state
pub lives_are : (os : List Active) → map told (areas_of_live (batches_of os) (areas_of os)) ≡ map live_of (lives_in os)
lives_are [] = refl
lives_are (o ∷ os) = by_kind o.kind (lives_are os) where
  by_kind : (k : Kind) → map told (areas_of_live (batches_of os) (areas_of os)) ≡ map live_of (lives_in os)
      → map told (areas_of_live (cons_option (holder_of k o.number) (batches_of os)) (cons_option (area_of k o.number) (areas_of os))) ≡ map live_of (cons_option (as_live k (transaction_of o)) (lives_in os))
  by_kind IsShort rest = rest
  by_kind (IsPending d) rest = rest
  by_kind (IsLive d snapshot) rest = ap (λ l. record { number = o.number; writes = d.writes; reads = d.reads } ∷ l) rest

-- as many live ones are entered
pub live_count : (os : List Active) → length (filter (λ h. h.live) (batches_of os)) ≡ length (numbers_in os)
live_count [] = refl
live_count (o ∷ os) = by_kind o.kind (live_count os) where
  by_kind : (k : Kind) → length (filter (λ h. h.live) (batches_of os)) ≡ length (numbers_in os)
      → length (filter (λ h. h.live) (cons_option (holder_of k o.number) (batches_of os))) ≡ length (map (λ b. b.tx.number) (cons_option (as_live k (transaction_of o)) (lives_in os)))
  by_kind IsShort rest = rest
  by_kind (IsPending d) rest = rest
  by_kind (IsLive d snapshot) rest = ap suc rest

-- a live one is out of them when it ended
length_without : (session : ℕ) (os : List Active) (o : Active) → find (is_of session) os ≡ Some o → live_number o.kind o.number ≡ Some o.number → length (numbers_in os) ≡ suc (length (numbers_in (without_first (is_of session) os)))
length_without session [] o is live = absurd (none_some is)
length_without session (x ∷ xs) o is live = ap length (numbers_are (x ∷ xs)) ∙ by_test (is_of session x) is (λ there. length_without session xs o there live) where
  by_test : (b : Bool) → cond b (Some x) (find (is_of session) xs) ≡ Some o → (find (is_of session) xs ≡ Some o → length (numbers_in xs) ≡ suc (length (numbers_in (without_first (is_of session) xs))))
      → length (cons_option (live_number x.kind x.number) (filter_map (λ (u : Active). live_number u.kind u.number) xs)) ≡ suc (length (numbers_in (cond b xs (x ∷ without_first (is_of session) xs))))
  by_test true here later =
      ap (λ g. length (cons_option g (filter_map (λ (u : Active). live_number u.kind u.number) xs))) (ap (λ (u : Active). live_number u.kind u.number) (some_same here) ∙ live) ∙ ap suc (ap length (sym (numbers_are xs)))
  by_test false there later =
      let shorter : length (numbers_in xs) ≡ suc (length (numbers_in (without_first (is_of session) xs))) = later there in
      by_kind x.kind shorter where
        by_kind : (k : Kind) → length (numbers_in xs) ≡ suc (length (numbers_in (without_first (is_of session) xs)))
            → length (cons_option (live_number k x.number) (filter_map (λ (u : Active). live_number u.kind u.number) xs)) ≡ suc (length (map (λ b. b.tx.number) (cons_option (as_live k (transaction_of x)) (lives_in (without_first (is_of session) xs)))))
        by_kind IsShort less = ap length (sym (numbers_are xs)) ∙ less
        by_kind (IsPending d) less = ap length (sym (numbers_are xs)) ∙ less
        by_kind (IsLive d snapshot) less = ap suc (ap length (sym (numbers_are xs)) ∙ less)

nothing_of : (bs : List LiveBatch) → length (map (λ b. b.tx.number) bs) ≡ 0 → bs ≡ []
nothing_of [] none = refl
nothing_of (b ∷ bs) none = cc

-- where it was the only one, none is live any more
pub lives_none : (session : ℕ) (os : List Active) (o : Active) → find (is_of session) os ≡ Some o → live_number o.kind o.number ≡ Some o.number → are_several_live (batches_of os) ≡ false → lives_in (without_first (is_of session) os) ≡ []
lives_none session os o is live alone = nothing_of (lives_in (without_first (is_of session) os)) (by_length (length (numbers_in (without_first (is_of session) os))) one) where
  one : nat_lt 1 (suc (length (numbers_in (without_first (is_of session) os)))) ≡ false
  one = ap (nat_lt 1) (sym (length_without session os o is live) ∙ sym (live_count os)) ∙ alone

  by_length : (k : ℕ) → nat_lt 1 (suc k) ≡ false → k ≡ 0
  by_length k few = grind (arith, nat_tests)
