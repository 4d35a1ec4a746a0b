-- The first late witness: what the function gives is late and the first one, and where it gives none, none is late.
use Rattle.std.proofs.Common.{◌≡◌, ◌⊎◌, inl, inr, ℕ, ◌<◌, Bool, true, false, List, [], ◌∷◌, Option, Some, None, option_map, option_and_then, refl, sym, ap, ◌∙◌, subst, subst₂, Contains}
use Rattle.std.specs.List.{find, list_any}
use Rattle.ltx_model.specs.declared.commands.Op.{Op}
use Rattle.ltx_model.specs.Lists.{Numbered, numbered}
use Rattle.ltx_model.specs.Keys.{Cell}
use Rattle.ltx_model.specs.Operations.{Transaction, operations, looks_up, writes_key}
use Rattle.ltx_model.specs.States.{State, LiveBatch}
use Rattle.ltx_model.specs.Shorts.{IsNotAfter}
use Rattle.ltx_model.specs.Batches.{batch_operations, last_writer, Witness, IsLate, IsFirstLate, cells_written_by, is_from_some, is_late_key, late_witness, late_of, first_late}
use Rattle.ltx_lemmas.proofs.Lists.{all_contains, any_not_all, contains_back, contains_here, find_passes, some_same, none_some, true_false}
use Rattle.ltx_lemmas.proofs.Searches.{is_in, first_none, FirstGiven, first_given, none_passes, is_in_written_by, last_writer_silent}
use Rattle.ltx_laws.proofs.Places.{and_left, and_right, both}
use Rattle.ltx_laws.proofs.Firsts.{numbered_rising, in_parts, behind_greater, first_key, written_by_rising}

-- a witness of an operation: the key that was chosen, and its last writer
late_given : (i : LiveBatch) (number : ℕ) (chosen : Option Cell) (w : Witness) → option_and_then (late_witness i number) chosen ≡ Some w → (chosen ≡ Some w.cell) × (w.op ≡ number) × (last_writer i w.cell ≡ Some w.other)
late_given i number None w e = absurd (none_some e)
late_given i number (Some c) w e = by_writer (last_writer i c) refl e where
  by_writer : (o : Option ℕ) → last_writer i c ≡ o → option_map (λ (n : ℕ). let v : Witness = record { op = number; cell = c; other = n } in v) o ≡ Some w → (Some c ≡ Some w.cell) × (w.op ≡ number) × (last_writer i w.cell ≡ Some w.other)
  by_writer None is h = absurd (none_some h)
  by_writer (Some n) is h =
      let v : Witness = record { op = number; cell = c; other = n } in
      let same : v ≡ w = some_same h in
      (ap (λ (x : Witness). Some x.cell) same, sym (ap (λ (x : Witness). x.op) same), ap (λ (x : Witness). last_writer i x.cell) (sym same) ∙ is ∙ ap (λ (x : Witness). Some x.other) same)

module _ (s : State) (i : LiveBatch) (p : ℕ) where
  abbrev cells : List Cell
  cells = cells_written_by [] i.snapshot

  abbrev ops : List (Numbered Op)
  ops = numbered (batch_operations i)

  -- a key that is late is among those that the snapshot wrote
  last_written : (q : Cell) (n : ℕ) → last_writer i q ≡ Some n → is_in q cells ≡ true
  last_written q n e = is_in_written_by q [] i.snapshot ∙ by_any (list_any (λ (t : Transaction). writes_key (operations t) q) i.snapshot) refl where
    by_any : (b : Bool) → list_any (λ (t : Transaction). writes_key (operations t) q) i.snapshot ≡ b → list_any (λ (t : Transaction). writes_key (operations t) q) i.snapshot ≡ true
    by_any true is = is
    by_any false is = absurd (none_some (sym (last_writer_silent None q i.snapshot (any_not_all (λ (t : Transaction). writes_key (operations t) q) i.snapshot is)) ∙ e))

  -- a late witness passes the test of its key, at its operation
  late_passes : (v : Witness) (h : IsLate s i p v) → is_late_key s i p h.looks.at.earlier h.looks.at.item v.cell ≡ true
  late_passes v h = both (looks_up v.cell h.looks.at.earlier h.looks.at.item) (is_from_some s p (last_writer i v.cell)) h.looks.looks (ap (is_from_some s p) h.last ∙ h.after)

  -- so the operation gives one
  late_found : (v : Witness) (h : IsLate s i p v) → late_of s i p cells h.looks.at ≡ None → ⊥
  late_found v h none = by_find (find (is_late_key s i p h.looks.at.earlier h.looks.at.item) cells) refl none where
    by_writer : (c : Cell) (o : Option ℕ) → last_writer i c ≡ o → is_from_some s p o ≡ true → option_map (λ (n : ℕ). let x : Witness = record { op = h.looks.at.number; cell = c; other = n } in x) o ≡ None → ⊥
    by_writer c None is from e = true_false (sym from)
    by_writer c (Some n) is from e = none_some (sym e)

    by_find : (f : Option Cell) → find (is_late_key s i p h.looks.at.earlier h.looks.at.item) cells ≡ f → option_and_then (late_witness i h.looks.at.number) f ≡ None → ⊥
    by_find None is e = true_false (sym (late_passes v h) ∙ none_passes (is_late_key s i p h.looks.at.earlier h.looks.at.item) v.cell cells is (last_written v.cell v.other h.last))
    by_find (Some c) is e = by_writer c (last_writer i c) refl (and_right (looks_up c h.looks.at.earlier h.looks.at.item) (is_from_some s p (last_writer i c)) (find_passes (is_late_key s i p h.looks.at.earlier h.looks.at.item) cells c is)) e

  pub none_late : first_late s i p ≡ None → (v : Witness) → IsLate s i p v → ⊥
  unfolding first_late
  none_late none v h = late_found v h (all_contains (λ o. late_of s i p cells o ≡ None) ops h.looks.at (first_none (late_of s i p cells) ops none) h.looks.here)

  pub first_late_is : (w : Witness) → first_late s i p ≡ Some w → IsFirstLate s i p w
  unfolding first_late
  first_late_is w e =
      let g : FirstGiven (late_of s i p cells) ops w = first_given (late_of s i p cells) ops w e in
      let item : Numbered Op = g.item in
      let given = late_given i item.number (find (is_late_key s i p item.earlier item.item) cells) w g.gives in
      let passes : is_late_key s i p item.earlier item.item w.cell ≡ true = find_passes (is_late_key s i p item.earlier item.item) cells w.cell given.0 in
      let here : Contains ops item = subst (λ l. Contains l item) (sym g.parts) (contains_back g.front (item ∷ g.back) item (contains_here item g.back)) in
      record {
        late = record {
          looks = record { at = item; here = here; same = sym given.1; looks = and_left (looks_up w.cell item.earlier item.item) (is_from_some s p (last_writer i w.cell)) passes };
          last = given.2;
          after = sym (ap (is_from_some s p) given.2) ∙ and_right (looks_up w.cell item.earlier item.item) (is_from_some s p (last_writer i w.cell)) passes;
        };
        first = λ v h. by_place w g given.0 given.1 v h (in_parts g.front g.item g.back h.looks.at (subst (λ l. Contains l h.looks.at) g.parts h.looks.here));
      } where
        by_place : (w : Witness) (g : FirstGiven (late_of s i p cells) ops w) → find (is_late_key s i p g.item.earlier g.item.item) cells ≡ Some w.cell → w.op ≡ g.item.number → (v : Witness) (h : IsLate s i p v)
            → Contains g.front h.looks.at ⊎ ((g.item ≡ h.looks.at) ⊎ Contains g.back h.looks.at) → IsNotAfter w.op w.cell v.op v.cell
        by_place w g found op v h (inl front) = absurd (late_found v h (all_contains (λ o. late_of s i p cells o ≡ None) g.front h.looks.at g.none front))
        by_place w g found op v h (inr (inl same)) = inr (
          op ∙ ap (λ (o : Numbered Op). o.number) same ∙ h.looks.same,
          first_key (is_late_key s i p g.item.earlier g.item.item) w.cell v.cell cells (written_by_rising [] i.snapshot tt) found (last_written v.cell v.other h.last)
              (subst (λ (o : Numbered Op). is_late_key s i p o.earlier o.item v.cell ≡ true) (sym same) (late_passes v h)),
        )
        by_place w g found op v h (inr (inr back)) = inl (subst₂ (λ a b. a < b) (sym op) h.looks.same (behind_greater ops (numbered_rising (batch_operations i)) g.front g.item g.back g.parts h.looks.at back))
