-- The last version of a key, and whether a later member of the agenda wrote it.
use Rattle.std.proofs.Common.{◌≡◌, ℕ, zero, suc, ◌<◌, ◌≤◌, Bool, true, false, not, ◌&&◌, ◌||◌, ◌==◌, ◌↔◌, IsTrue, cond, List, [], ◌∷◌, Some, None, option_map, refl, sym, ap, ◌∙◌, nat_lt, arith}
use Rattle.std.proofs.lemmas.Bool.Decides.{nat_tests}
use Rattle.ltx_model.specs.Lists.{before_first}
use Rattle.ltx_model.specs.Keys.{Cell}
use Rattle.ltx_model.specs.Listings.{is_member, place_of}
use Rattle.ltx_model.specs.Decisions.{stands_before, is_installed}
use Rattle.ltx_lemmas.proofs.Lists.{all_map, true_false}
use Rattle.ltx_chain.specs.declared.chain.Version.{Version}
use Rattle.ltx_chain.specs.Versions.{AreBelow, latest, visible}
use Rattle.ltx_chain.proofs.Seen.{visible_latest}
use Rattle.ltx_store.specs.Kept.{Kept, versions_at}
use Rattle.ltx_core.specs.Installed.{last_writer, AreByMembers}
use Rattle.ltx_core.proofs.Loaded.{all_latest}

-- who stands before a number has a lesser place
pub before_place : (list : List ℕ) (n v : ℕ) → is_member (before_first (λ m. m == v) list) n ≡ nat_lt (place_of list n) (place_of list v)
before_place [] n v = refl
before_place (m ∷ ms) n v = by_tests (m == v) (m == n) (before_place ms n v) where
  by_tests : (b d : Bool) → is_member (before_first (λ x. x == v) ms) n ≡ nat_lt (place_of ms n) (place_of ms v)
      → is_member (cond b [] (m ∷ before_first (λ x. x == v) ms)) n ≡ nat_lt (cond (m == n) zero (suc (place_of ms n))) (cond b zero (suc (place_of ms v)))
  by_tests true d rest = grind (arith, nat_tests)
  by_tests false d rest = by_own (m == n) rest where
    by_own : (e : Bool) → is_member (before_first (λ x. x == v) ms) n ≡ nat_lt (place_of ms n) (place_of ms v)
        → (e || is_member (before_first (λ x. x == v) ms) n) ≡ nat_lt (cond e zero (suc (place_of ms n))) (suc (place_of ms v))
    by_own true rest = grind (arith, nat_tests)
    by_own false rest = rest ∙ grind (arith, nat_tests)

-- a test that tells which of two places is less
pub by_places : (b : Bool) (x y : ℕ) → IsTrue b ↔ (x < y) → b ≡ nat_lt x y
by_places true x y told = let less : x < y = told.0 refl in grind (arith, nat_tests)
by_places false x y told = by_test (nat_lt x y) refl where
  by_test : (c : Bool) → nat_lt x y ≡ c → false ≡ c
  by_test true less = absurd (true_false (sym (told.1 (let l : x < y = grind (arith, nat_tests) in l))))
  by_test false none = refl

-- below a mark all versions are seen at it
below_seen : (mark : ℕ) (vs : List Version) → AreBelow mark vs → visible mark vs ≡ latest vs
below_seen mark vs below = visible_latest mark vs (all_map (λ v. v.mark < mark) (λ v. v.mark ≤ mark) (λ v less. omega arith) vs below)

module _ (list : List ℕ) (kept : List Kept) (cell : Cell) (mark n : ℕ) (below : AreBelow mark (versions_at kept cell)) where
  -- a key without a version
  pub later_none : None ≡ visible mark (versions_at kept cell) → false ≡ not (is_installed list (last_writer kept cell) n)
  later_none is = sym (ap (λ o. not (is_installed list (option_map (λ (v : Version). v.writer) o) n)) (sym (below_seen mark (versions_at kept cell) below) ∙ sym is))

  module _ (v : Version) (is : Some v ≡ visible mark (versions_at kept cell)) (members : AreByMembers list (versions_at kept cell)) where
    last : latest (versions_at kept cell) ≡ Some v
    last = sym (below_seen mark (versions_at kept cell) below) ∙ sym is

    known : is_member list v.writer ≡ nat_lt 0 v.mark
    known = all_latest (λ u. is_member list u.writer ≡ nat_lt 0 u.mark) (versions_at kept cell) v members last

    told : (b : Bool) → stands_before list n v.writer ≡ b → b ≡ not (is_installed list (last_writer kept cell) n)
    told b e = sym (ap (λ o. not (is_installed list (option_map (λ (u : Version). u.writer) o) n)) last ∙ twice (stands_before list n v.writer) ∙ e) where
      twice : (c : Bool) → not (not c) ≡ c
      twice true = refl
      twice false = refl

    -- a row of the base
    pub later_base : v.mark ≡ 0 → false ≡ not (is_installed list (last_writer kept cell) n)
    later_base zero_mark =
        let none : nat_lt 0 v.mark ≡ false = grind (arith, nat_tests) in
        told false (ap (λ b. b && is_member (before_first (λ m. m == v.writer) list) n) (known ∙ none))

    -- a version of a member
    pub later_member : 0 < v.mark → is_member list v.writer ≡ true
    later_member above = known ∙ (let some : nat_lt 0 v.mark ≡ true = grind (arith, nat_tests) in some)

    pub later_told : 0 < v.mark → (b : Bool) → b ≡ nat_lt (place_of list n) (place_of list v.writer) → b ≡ not (is_installed list (last_writer kept cell) n)
    later_told above b is = told b (ap (λ c. c && is_member (before_first (λ m. m == v.writer) list) n) (later_member above) ∙ before_place list n v.writer ∙ sym is)
