-- The committed members that stand before a live batch's slot and did not commit after it: a move of another one leaves this list.
use Rattle.std.proofs.Common.{◌≡◌, ◌≢◌, ℕ, Bool, true, false, cond, not, ◌==◌, List, [], ◌∷◌, ◌++◌, map, filter, refl, sym, ap, ◌∙◌, subst, ne_eqb}
use Rattle.std.specs.List.{AllByRecursion}
use Rattle.ltx_model.specs.Operations.{Transaction}
use Rattle.ltx_model.specs.Agenda.{Member, LiveSlot, Committed, has_number, is_member, without_member, insert_before, commit_at_slot, serial, part_before}
use Rattle.ltx_lemmas.proofs.Lists.{before_within}
use Rattle.ltx_laws.proofs.Pairs.{same_number}
use Rattle.ltx_laws.proofs.Agendas.{IsOther}

pub part_push : (n : ℕ) (ms : List Member) (x : Member) → is_member ms n ≡ true → part_before n (ms ++ x ∷ []) ≡ part_before n ms
part_push n ms x e = before_within (has_number n) ms (x ∷ []) e

-- The transaction k commits or leaves; n is another live batch. The tests p before and q after the move agree on all others.
module _ (k n : ℕ) (apart : k ≢ n) (p q : Transaction → Bool) (same : (u : Transaction) → u.number ≢ k → q u ≡ p u) where
  -- what is left of a list: the committed members before n that pass
  abbrev Passing : (Transaction → Bool) → List Member → List Transaction
  Passing test ms = filter test (serial (part_before n ms))

  kept : (m : Member) (xs ys : List Member) → IsOther k m → Passing q xs ≡ Passing p ys → Passing q (m ∷ xs) ≡ Passing p (m ∷ ys)
  kept (LiveSlot j) xs ys other e = by_test (j == n) where
    by_test : (b : Bool) → filter q (serial (cond b [] (LiveSlot j ∷ part_before n xs))) ≡ filter p (serial (cond b [] (LiveSlot j ∷ part_before n ys)))
    by_test true = refl
    by_test false = e
  kept (Committed u) xs ys other e = by_test (u.number == n) where
    by_pass : (b : Bool) → p u ≡ b → filter q (u ∷ serial (part_before n xs)) ≡ filter p (u ∷ serial (part_before n ys))
    by_pass true is = let then : q u ≡ true = same u other ∙ is in rw (is, then) (ap (λ l. u ∷ l) e)
    by_pass false is = let then : q u ≡ false = same u other ∙ is in rw (is, then) e

    by_test : (b : Bool) → filter q (serial (cond b [] (Committed u ∷ part_before n xs))) ≡ filter p (serial (cond b [] (Committed u ∷ part_before n ys)))
    by_test true = refl
    by_test false = by_pass (p u) refl

  -- the slot of k is no committed member, and is not n's
  slot_of : (m : Member) (ms : List Member) → IsOther k m → has_number k m ≡ true → Passing p (m ∷ ms) ≡ Passing p ms
  slot_of (LiveSlot j) ms other is = let no : (j == n) ≡ false = ne_eqb j n (λ e. apart (sym (same_number j k is) ∙ e)) in rw no refl
  slot_of (Committed u) ms other is = absurd (other (same_number u.number k is))

  pub passing_without : (ms : List Member) → AllByRecursion (IsOther k) ms → Passing q (without_member ms k) ≡ Passing p ms
  passing_without [] others = refl
  passing_without (m ∷ ms) others = by_test (has_number k m) refl (passing_without ms others.1) where
    by_test : (b : Bool) → has_number k m ≡ b → Passing q (without_member ms k) ≡ Passing p ms → Passing q (cond (not b) (m ∷ without_member ms k) (without_member ms k)) ≡ Passing p (m ∷ ms)
    by_test true is rest = rest ∙ sym (slot_of m ms others.0 is)
    by_test false is rest = kept m (without_member ms k) ms others.0 rest

  passing_same : (ms : List Member) → AllByRecursion (IsOther k) ms → Passing q ms ≡ Passing p ms
  passing_same [] others = refl
  passing_same (m ∷ ms) others = kept m ms ms others.0 (passing_same ms others.1)

  module _ (t : Transaction) (own : t.number ≡ k) (out : q t ≡ false) where
    -- the committed one itself does not pass
    itself : (xs : List Member) → Passing q (Committed t ∷ xs) ≡ Passing q xs
    itself xs = let no : (t.number == n) ≡ false = ne_eqb t.number n (λ e. apart (sym own ∙ e)) in rw (no, out) refl

    pub passing_home : (ms : List Member) → AllByRecursion (IsOther k) ms → Passing q (map (commit_at_slot t) ms) ≡ Passing p ms
    passing_home [] others = refl
    passing_home (m ∷ ms) others = by_test (has_number t.number m) refl (passing_home ms others.1) where
      by_test : (b : Bool) → has_number t.number m ≡ b → Passing q (map (commit_at_slot t) ms) ≡ Passing p ms → Passing q (cond b (Committed t) m ∷ map (commit_at_slot t) ms) ≡ Passing p (m ∷ ms)
      by_test true is rest = itself (map (commit_at_slot t) ms) ∙ rest ∙ sym (slot_of m ms others.0 (subst (λ j. has_number j m ≡ true) own is))
      by_test false is rest = kept m (map (commit_at_slot t) ms) ms others.0 rest

    pub passing_before : (target : ℕ) (ms : List Member) → AllByRecursion (IsOther k) ms → Passing q (insert_before (Committed t) target (without_member ms k)) ≡ Passing p ms
    passing_before target [] others = refl
    passing_before target (m ∷ ms) others = by_test (has_number k m) refl (passing_before target ms others.1) where
      by_target : (b : Bool) → Passing q (insert_before (Committed t) target (without_member ms k)) ≡ Passing p ms
          → Passing q (cond b (Committed t ∷ m ∷ without_member ms k) (m ∷ insert_before (Committed t) target (without_member ms k))) ≡ Passing p (m ∷ ms)
      by_target true rest = itself (m ∷ without_member ms k) ∙ kept m (without_member ms k) ms others.0 (passing_without ms others.1)
      by_target false rest = kept m (insert_before (Committed t) target (without_member ms k)) ms others.0 rest

      by_test : (b : Bool) → has_number k m ≡ b → Passing q (insert_before (Committed t) target (without_member ms k)) ≡ Passing p ms
          → Passing q (insert_before (Committed t) target (cond (not b) (m ∷ without_member ms k) (without_member ms k))) ≡ Passing p (m ∷ ms)
      by_test true is rest = rest ∙ sym (slot_of m ms others.0 is)
      by_test false is rest = by_target (has_number target m) rest
