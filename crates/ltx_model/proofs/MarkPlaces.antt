-- Marks and numbers of commits as they are computed, and as relations.
use Rattle.std.proofs.Common.{◌≡◌, ℕ, suc, ◌+◌, Bool, true, false, cond, ◌||◌, ◌==◌, List, [], ◌∷◌, ◌++◌, length, Some, None, option_map, refl, sym, ap, ◌∙◌, subst, arith}
use Rattle.std.proofs.lemmas.Bool.{eq-eqb}
use Rattle.std.specs.List.{AllByRecursion}
use Rattle.ltx_model.specs.Operations.{Transaction}
use Rattle.ltx_model.specs.Agenda.{Timed, is_slot, has_slot, commits_of, moves_until}
use Rattle.ltx_model.specs.Marks.{mark_of_slot, IsMarkOfSlot, place_in, number_of_commit, IsNumberOfCommit}

-- the moves before a slot, the slot and the moves behind it
record IsSplit (n : ℕ) (moves : List Timed) : Type 0 where
  slot : Timed
  back : List Timed
  parts : moves ≡ moves_until n moves ++ slot ∷ back
  is : is_slot n slot.move ≡ true
  first : AllByRecursion (λ m. is_slot n m.move ≡ false) (moves_until n moves)

split_at : (n : ℕ) (moves : List Timed) → has_slot moves n ≡ true → IsSplit n moves
split_at n [] e = absurd (let none : ⊥ = cc in none)
split_at n (m ∷ ms) e = by_test (is_slot n m.move) refl e (split_at n ms) where
  by_test : (b : Bool) → is_slot n m.move ≡ b → (b || has_slot ms n) ≡ true → (has_slot ms n ≡ true → IsSplit n ms) → IsSplit n (m ∷ ms)
  by_test true is e rest = record {
    slot = m;
    back = ms;
    parts = sym (ap (λ b. cond b [] (m ∷ moves_until n ms) ++ m ∷ ms) is);
    is = is;
    first = subst (AllByRecursion (λ x. is_slot n x.move ≡ false)) (sym (ap (λ b. cond b [] (m ∷ moves_until n ms)) is)) tt;
  }
  by_test false is e rest =
      let h : IsSplit n ms = rest e in
      record {
        slot = h.slot;
        back = h.back;
        parts = ap (λ l. m ∷ l) h.parts ∙ sym (ap (λ b. cond b [] (m ∷ moves_until n ms) ++ h.slot ∷ h.back) is);
        is = h.is;
        first = subst (AllByRecursion (λ x. is_slot n x.move ≡ false)) (sym (ap (λ b. cond b [] (m ∷ moves_until n ms)) is)) (is, h.first);
      }

-- a mark that is computed is one
pub mark_given : (moves : List Timed) (n mark : ℕ) → mark_of_slot moves n ≡ Some mark → IsMarkOfSlot moves n mark
mark_given moves n mark e = by_test (has_slot moves n) refl e where
  by_test : (b : Bool) → has_slot moves n ≡ b → cond b (Some (length (commits_of (moves_until n moves)))) None ≡ Some mark → IsMarkOfSlot moves n mark
  by_test true has e =
      let h : IsSplit n moves = split_at n moves has in
      record { front = moves_until n moves; slot = h.slot; back = h.back; parts = h.parts; is = h.is; first = h.first; mark_is = (let same : length (commits_of (moves_until n moves)) ≡ mark = cc e in same) }
  by_test false has e = absurd (let none : ⊥ = cc e in none)

placed : (front back : List Transaction) (t : Transaction) (n : ℕ) → AllByRecursion (λ u. (u.number == n) ≡ false) front → t.number ≡ n → place_in (front ++ t ∷ back) n ≡ Some (length front + 1)
placed [] back t n first same = ap (λ b. cond b (Some 1) (option_map suc (place_in back n))) (eq-eqb t.number n same)
placed (u ∷ front) back t n first same =
    let h : suc (length front + 1) ≡ suc (length front) + 1 = omega arith in
    ap (λ b. cond b (Some 1) (option_map suc (place_in (front ++ t ∷ back) n))) first.0 ∙ ap (option_map suc) (placed front back t n first.1 same) ∙ ap (λ k. Some k) h

-- the number of a commit is the one that is computed
pub number_found : (moves : List Timed) (n number : ℕ) → IsNumberOfCommit moves n number → number_of_commit moves n ≡ Some number
number_found moves n number r = ap (λ ts. place_in ts n) r.parts ∙ placed r.front r.back r.tx n r.first r.same ∙ ap (λ k. Some k) r.number_is
