-- The floor is what the relation says, both ways, and the members before it are those before its place.
use Rattle.std.proofs.Common.{◌≡◌, ◌≢◌, inl, inr, ℕ, Bool, true, false, cond, ◌==◌, List, [], ◌∷◌, ◌++◌, Option, Some, None, option_map, refl, sym, ap, ◌∙◌, subst, append-nil, Contains}
use Rattle.std.proofs.lemmas.Bool.{eq-eqb, false_from_ne_true}
use Rattle.std.specs.List.{find, AllByRecursion}
use Rattle.ltx_model.specs.declared.commands.Line.{Line}
use Rattle.ltx_model.specs.declared.replies.Entry.{Entry}
use Rattle.ltx_model.specs.Operations.{Transaction}
use Rattle.ltx_model.specs.Agenda.{Member, LiveSlot, Committed, number_of, has_number, is_member, part_before, commits_after}
use Rattle.ltx_model.specs.States.{Kind, IsShort, IsPending, IsLive, Active, Base, IsSound, State, LiveBatch, live_batches}
use Rattle.ltx_model.specs.Histories.{state}
use Rattle.ltx_model.specs.Batches.{counts_for_floor, floor, before_floor}
use Rattle.ltx_model.specs.Answers.{IsLegalWith}
use Rattle.ltx_lemmas.specs.Places.{AreApart}
use Rattle.ltx_lemmas.proofs.Lists.{true_false, none_some, any_item, any_contains, all_contains, find_contains, find_passes, find_none, find_splits, before_contains, before_past, before_none}
use Rattle.ltx_laws.specs.Structure.{if_live, is_live_as, IsKnown, Structure}
use Rattle.ltx_laws.specs.Floors.{CountsForFloor, IsFloor}
use Rattle.ltx_laws.proofs.Pairs.{same_number}
use Rattle.ltx_laws.proofs.Places.{found_first}
use Rattle.ltx_laws.proofs.Spared.{live_here}
use Rattle.ltx_laws.proofs.Transitions.{live_of}
use Rattle.ltx_laws.proofs.LiveStates.{structured, open_batch}
use Rattle.ltx_laws.proofs.ReadsPlaces.{front_fails}
use Rattle.ltx_laws.proofs.ReadsKept.{apart_members}
use Rattle.ltx_laws.proofs.Floors.{floor_is}
use Rattle.ltx_laws.proofs.FloorLive.{lives_floor}
use Rattle.ltx_laws.proofs.WitnessBatches.{one_place}

module _ (base : Base) (s : State) (inv : Structure base s) where
  known_in : (m : Member) → Contains s.agenda m → IsKnown s.active s.moves m
  known_in m here = all_contains (IsKnown s.active s.moves) s.agenda m inv.members.known here

  -- a member that the search counts
  counts_is : (m : Member) → IsKnown s.active s.moves m → counts_for_floor s m ≡ true → CountsForFloor s (number_of m)
  counts_is (LiveSlot n) known e = let found = any_item (is_live_as n) s.active known.live in by_kind found.0 found.1 found.0.kind refl found.2 where
    by_kind : (o : Active) → Contains s.active o → (k : Kind) → o.kind ≡ k → if_live k (o.number == n) ≡ true → CountsForFloor s n
    by_kind o here IsShort kind is = absurd (true_false (sym is))
    by_kind o here (IsPending d) kind is = absurd (true_false (sym is))
    by_kind o here (IsLive d snapshot) kind is = (live_of o d snapshot, live_here s o d snapshot here kind, inl (same_number o.number n is))
  counts_is (Committed t) known e = let found = any_item (λ (b : LiveBatch). commits_after s.moves b.tx.number t.number) (live_batches s) e in (found.0, found.1, inr found.2)

  counts_from : (m : Member) → IsKnown s.active s.moves m → CountsForFloor s (number_of m) → counts_for_floor s m ≡ true
  counts_from (LiveSlot n) known c = refl
  counts_from (Committed t) known (b, live, inl same) =
      let h = open_batch s b live in
      absurd (all_contains (λ (u : Active). u.number ≢ t.number) s.active h.active known h.here (ap (λ (x : Transaction). x.number) h.tx ∙ same))
  counts_from (Committed t) known (b, live, inr is) = any_contains (λ (b : LiveBatch). commits_after s.moves b.tx.number t.number) (live_batches s) b live is

  counts_at : (n : ℕ) (m : Member) → Contains s.agenda m → has_number n m ≡ true → CountsForFloor s n → counts_for_floor s m ≡ true
  counts_at n m here is c = counts_from m (known_in m here) (subst (CountsForFloor s) (sym (same_number (number_of m) n is)) c)

  is_floor : (f : ℕ) → floor s ≡ Some f → IsFloor s f
  is_floor f e =
      let found = floor_is (find (counts_for_floor s) s.agenda) f e in
      let here : Contains s.agenda found.0 = find_contains (counts_for_floor s) s.agenda found.0 found.1 in
      record {
        counts = subst (CountsForFloor s) found.2 (counts_is found.0 (known_in found.0 here) (find_passes (counts_for_floor s) s.agenda found.0 found.1));
        member = any_contains (has_number f) s.agenda found.0 here (eq-eqb (number_of found.0) f found.2);
        first = λ n c. false_from_ne_true (is_member (part_before f s.agenda) n) (λ ahead.
            let at = any_item (has_number n) (part_before f s.agenda) ahead in
            true_false (sym (counts_at n at.0 (before_contains (has_number f) s.agenda at.0 at.1) at.2 c)
            ∙ all_contains (λ x. counts_for_floor s x ≡ false) (part_before f s.agenda) at.0 (found_first (counts_for_floor s) f s.agenda found.0 found.1 found.2) at.1));
      }

  no_floor : floor s ≡ None → (n : ℕ) → CountsForFloor s n → ⊥
  no_floor e n c = lives_floor base s inv e c.0 c.1

  floor_from : (f : ℕ) → IsFloor s f → floor s ≡ Some f
  floor_from f h = by_floor (floor s) refl where
    by_floor : (o : Option ℕ) → floor s ≡ o → floor s ≡ Some f
    by_floor None e = absurd (no_floor e f h.counts)
    by_floor (Some q) e = let g : IsFloor s q = is_floor q e in e ∙ ap Some (one_place s.agenda q f g.member h.member (g.first f h.counts) (h.first q g.counts))

  -- the members before it
  before_is : (f : ℕ) → floor s ≡ Some f → before_floor s ≡ part_before f s.agenda
  before_is f e =
      let (m, found, number) = floor_is (find (counts_for_floor s) s.agenda) f e in
      let (rest, whole, from) = find_splits (counts_for_floor s) s.agenda m found in
      let front : List Member = before_floor s in
      let fails : AllByRecursion (λ y. has_number f y ≡ false) front = subst (λ n. AllByRecursion (λ y. has_number n y ≡ false) front) number (front_fails front m rest (subst AreApart whole (apart_members base s inv))) in
      let none : part_before f (m ∷ rest) ≡ [] = ap (λ b. cond b [] (m ∷ part_before f rest)) (eq-eqb (number_of m) f number) in
      sym (ap (part_before f) whole ∙ before_past (has_number f) front (m ∷ rest) fails ∙ ap (λ l. front ++ l) none ∙ append-nil front)

  before_all : floor s ≡ None → before_floor s ≡ s.agenda
  before_all e = by_find (find (counts_for_floor s) s.agenda) refl e where
    by_find : (o : Option Member) → find (counts_for_floor s) s.agenda ≡ o → option_map number_of o ≡ None → before_floor s ≡ s.agenda
    by_find (Some m) is e = absurd (none_some (sym e))
    by_find None is e = before_none (counts_for_floor s) s.agenda (find_none (counts_for_floor s) s.agenda is)

module _ (built : State → Line → Bool) (base : Base) (history : List Entry) (sound : IsSound base) (legal : IsLegalWith built base history) where
  abbrev there : State
  there = state base history

  inv : Structure base there
  inv = structured built base history sound legal

  pub floor_earliest : (f : ℕ) → floor there ≡ Some f → IsFloor there f
  floor_earliest = is_floor base there inv

  pub floor_found : (f : ℕ) → IsFloor there f → floor there ≡ Some f
  floor_found = floor_from base there inv

  pub floor_none : floor there ≡ None → (n : ℕ) → CountsForFloor there n → ⊥
  floor_none = no_floor base there inv

  pub before_floor_is : (f : ℕ) → floor there ≡ Some f → before_floor there ≡ part_before f there.agenda
  before_floor_is = before_is base there inv

  pub before_no_floor : floor there ≡ None → before_floor there ≡ there.agenda
  before_no_floor = before_all base there inv
