-- Preserve and area, read off the guards: nobody committed after a live batch looks into a table that it preserves, and no batch
-- with a greater number before it writes a table of its area.
use Rattle.std.proofs.Common.{◌≡◌, ◌≢◌, ◌⊎◌, inl, inr, ℕ, ◌<◌, Bool, true, false, cond, ◌||◌, ◌==◌, List, [], ◌∷◌, Some, refl, sym, subst, Contains}
use Rattle.std.specs.List.{AllByRecursion}
use Rattle.ltx_model.specs.Operations.{Transaction}
use Rattle.ltx_model.specs.Agenda.{Member, LiveSlot, Committed, committed_of, is_member, serial, part_before, part_from, Timed, has_slot}
use Rattle.ltx_model.specs.States.{Declaration, IsLive, Active, Base, State, is_of, active_of}
use Rattle.ltx_model.specs.Lists.{IsPairwise}
use Rattle.ltx_laws.specs.Structure.{IsKnown, Structure}
use Rattle.ltx_laws.specs.Guards.{LooksIntoNone, WritesNone, IsGuarded, GuardsAs}
use Rattle.ltx_lemmas.proofs.Lists.{all_map, all_contains, all_find, given_item, some_same, none_some, contains_cases, contains_none}
use Rattle.ltx_laws.proofs.Pairs.{same_number}
use Rattle.ltx_laws.proofs.Structures.{live_stands, live_target_ahead}
use Rattle.ltx_laws.proofs.GuardedStates.{IsGuardedState}
use Rattle.ltx_laws.proofs.Explained.{IsUnread, AreAhead}

-- a transaction of the serial order is a committed member
pub serial_member : (ms : List Member) (t : Transaction) → Contains (serial ms) t → Contains ms (Committed t)
serial_member ms t here = let found = given_item committed_of ms t here in by_member found.0 found.1 found.2 where
  by_member : (m : Member) → Contains ms m → committed_of m ≡ Some t → Contains ms (Committed t)
  by_member (LiveSlot n) at e = absurd (none_some e)
  by_member (Committed u) at e = subst (λ v. Contains ms (Committed v)) (some_same e) at

-- the guards of a live batch, whose number no committed member has
module _ (moves : List Timed) (n : ℕ) (d : Declaration) where
  abbrev pub IsNotOwn : Member → Type 0
  IsNotOwn (LiveSlot k) = Unit {0}
  IsNotOwn (Committed t) = t.number ≢ n

  pub unread_after : (ms : List Member) → AllByRecursion IsNotOwn ms → IsPairwise (IsGuarded moves n d) ms → (t : Transaction) → Contains (serial (part_from n ms)) t → LooksIntoNone d.writes t
  unread_after [] own pairs t here = absurd (contains_none t here)
  unread_after (LiveSlot k ∷ ms) own pairs t here = by_test (k == n) refl here (unread_after ms own.1 pairs.1 t) where
    by_test : (b : Bool) → (k == n) ≡ b → Contains (serial (cond b (LiveSlot k ∷ ms) (part_from n ms))) t → (Contains (serial (part_from n ms)) t → LooksIntoNone d.writes t) → LooksIntoNone d.writes t
    by_test true is here later = all_contains (IsGuarded moves n d (LiveSlot k)) ms (Committed t) pairs.0 (serial_member ms t here) (same_number k n is)
    by_test false is here later = later here
  unread_after (Committed u ∷ ms) own pairs t here = by_test (u.number == n) refl here (unread_after ms own.1 pairs.1 t) where
    by_test : (b : Bool) → (u.number == n) ≡ b → Contains (serial (cond b (Committed u ∷ ms) (part_from n ms))) t → (Contains (serial (part_from n ms)) t → LooksIntoNone d.writes t) → LooksIntoNone d.writes t
    by_test true is here later = absurd (own.0 (same_number u.number n is))
    by_test false is here later = later here

  -- a committed member that stands before its slot
  before_slot : (u : Transaction) (xs : List Member) → AllByRecursion IsNotOwn xs → is_member xs n ≡ true → AllByRecursion (IsGuarded moves n d (Committed u)) xs → has_slot moves u.number ≡ true → n < u.number → WritesNone d.reads u
  before_slot u [] own member all s l = cc
  before_slot u (LiveSlot k ∷ xs) own member all s l = by_test (k == n) refl member (before_slot u xs own.1) where
    by_test : (b : Bool) → (k == n) ≡ b → (b || is_member xs n) ≡ true → (is_member xs n ≡ true → AllByRecursion (IsGuarded moves n d (Committed u)) xs → has_slot moves u.number ≡ true → n < u.number → WritesNone d.reads u) → WritesNone d.reads u
    by_test true is member later = all.0 (same_number k n is) s l
    by_test false is member later = later member all.1 s l
  before_slot u (Committed v ∷ xs) own member all s l = by_test (v.number == n) refl member (before_slot u xs own.1) where
    by_test : (b : Bool) → (v.number == n) ≡ b → (b || is_member xs n) ≡ true → (is_member xs n ≡ true → AllByRecursion (IsGuarded moves n d (Committed u)) xs → has_slot moves u.number ≡ true → n < u.number → WritesNone d.reads u) → WritesNone d.reads u
    by_test true is member later = absurd (own.0 (same_number v.number n is))
    by_test false is member later = later member all.1 s l

  -- a batch with a greater number that stands before it
  pub unwritten_before : (ms : List Member) → AllByRecursion IsNotOwn ms → is_member ms n ≡ true → IsPairwise (IsGuarded moves n d) ms → (t : Transaction) → Contains (serial (part_before n ms)) t → has_slot moves t.number ≡ true → n < t.number → WritesNone d.reads t
  unwritten_before [] own member pairs t here slotted less = absurd (contains_none t here)
  unwritten_before (LiveSlot k ∷ ms) own member pairs t here slotted less = by_test (k == n) refl member here (unwritten_before ms own.1) where
    by_test : (b : Bool) → (k == n) ≡ b → (b || is_member ms n) ≡ true → Contains (serial (cond b [] (LiveSlot k ∷ part_before n ms))) t
        → (is_member ms n ≡ true → IsPairwise (IsGuarded moves n d) ms → (t : Transaction) → Contains (serial (part_before n ms)) t → has_slot moves t.number ≡ true → n < t.number → WritesNone d.reads t) → WritesNone d.reads t
    by_test true is member here later = absurd (contains_none t here)
    by_test false is member here later = later member pairs.1 t here slotted less
  unwritten_before (Committed u ∷ ms) own member pairs t here slotted less = by_test (u.number == n) refl member here (unwritten_before ms own.1) where
    by_test : (b : Bool) → (u.number == n) ≡ b → (b || is_member ms n) ≡ true → Contains (serial (cond b [] (Committed u ∷ part_before n ms))) t
        → (is_member ms n ≡ true → IsPairwise (IsGuarded moves n d) ms → (t : Transaction) → Contains (serial (part_before n ms)) t → has_slot moves t.number ≡ true → n < t.number → WritesNone d.reads t) → WritesNone d.reads t
    by_test true is member here later = absurd (own.0 (same_number u.number n is))
    by_test false is member here later = by_cases (contains_cases u (serial (part_before n ms)) t here) where
      by_cases : (u ≡ t) ⊎ Contains (serial (part_before n ms)) t → WritesNone d.reads t
      by_cases (inl same) = subst (λ v. has_slot moves v.number ≡ true → n < v.number → WritesNone d.reads v) same (before_slot u ms own.1 member pairs.0) slotted less
      by_cases (inr there) = later member pairs.1 t there slotted less

module _ (base : Base) (s : State) (h : IsGuardedState base s) (session : ℕ) (o : Active) (is : active_of s session ≡ Some o) (d : Declaration) (snapshot : List Transaction) (kind : o.kind ≡ IsLive d snapshot) where
  not_own : (m : Member) → IsKnown s.active s.moves m → IsNotOwn s.moves o.number d m
  not_own (LiveSlot k) known = tt
  not_own (Committed t) known = λ e. all_find (λ (u : Active). u.number ≢ t.number) (is_of session) s.active o known is (sym e)

  own : AllByRecursion (IsNotOwn s.moves o.number d) s.agenda
  own = all_map (IsKnown s.active s.moves) (IsNotOwn s.moves o.number d) not_own s.agenda h.structure.members.known

  pairs : IsPairwise (IsGuarded s.moves o.number d) s.agenda
  pairs = subst (λ k. GuardsAs s.agenda s.moves k o.number) kind (all_find (λ u. GuardsAs s.agenda s.moves u.kind u.number) (is_of session) s.active o h.guards is)

  pub live_unread : (t : Transaction) → Contains (serial (part_from o.number s.agenda)) t → LooksIntoNone d.writes t
  live_unread t here = unread_after s.moves o.number d s.agenda own pairs t here

  pub live_unwritten : (t : Transaction) → Contains (serial (part_before o.number s.agenda)) t → has_slot s.moves t.number ≡ true → o.number < t.number → WritesNone d.reads t
  live_unwritten t here slotted less = unwritten_before s.moves o.number d s.agenda own (live_stands base s h.structure session o is d snapshot kind).member pairs t here slotted less

pub are_unread : (base : Base) (s : State) → IsGuardedState base s → IsUnread s
are_unread base s h session o d snapshot is kind t here = live_unread base s h session o is d snapshot kind t here

pub are_ahead : (base : Base) (s : State) → Structure base s → AreAhead s
are_ahead base s inv session o d snapshot p is kind e = live_target_ahead base s inv session o is d snapshot kind p e
