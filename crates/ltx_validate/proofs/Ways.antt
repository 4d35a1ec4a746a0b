-- The steps of a walk, as the code takes them, and that each leaves fewer turns.
use Rattle.std.proofs.Common.{◌≡◌, ◌≢◌, ◌⊎◌, inl, inr, ℕ, ◌<◌, ◌≤◌, Bool, true, false, cond, not, ◌&&◌, ◌==◌, nat_eq, List, [], ◌∷◌, length, filter, Option, Some, None, IfSome, is_some, refl, sym, ap, ◌∙◌, subst, arith}
use Rattle.std.specs.List.Sorted.{IsStrictlySortedBy}
use Rattle.std.specs.Option.{option_eq}
use Rattle.std.specs.declared.cmp.Ordering.{Ordering}
use Rattle.std.specs.declared.cmp.Ordering.TheVariants.{Less, Equal, Greater}
use Rattle.std.specs.Ordering.{nat_cmp, is_eq, is_lt, is_le, ordering_then}
use Rattle.std.proofs.lemmas.Bool.{and_parts, both_ways, eqb-true, eq-eqb}
use Rattle.ltx_model.specs.declared.rows.StoredRow.{StoredRow}
use Rattle.ltx_model.specs.declared.writes.Look.{Look}
use Rattle.ltx_model.specs.declared.looked.Reach.TheVariants.{Range}
use Rattle.ltx_model.specs.Keys.{key_cmp, same_cell}
use Rattle.ltx_model.specs.StoredRows.{cell_of, writer_at}
use Rattle.ltx_model.specs.Notes.{is_one_of}
use Rattle.ltx_model.specs.Shorts.{same_writer}
use Rattle.ltx_validate.specs.Differences.{at, IsOrdered, IsLeastDifference, Tells}
use Rattle.ltx_validate.specs.Turns.{Turning, turn_by, turn_of, NextRow, IsOnWay, rows_from, turns_left}
use Rattle.ltx_model.proofs.Orderings.{is_less}
use Rattle.ltx_model.proofs.KeyOrder.{key_turned, key_itself, same_keys, key_total}
use Rattle.ltx_model.proofs.CellOrder.{same_cell_same}
use Rattle.ltx_validate.proofs.Walks.{walk_start, walk_end, walk_differs, walk_more, row_kept}

-- the two tests of writers are one
pub same_is : (a b : Option ℕ) → option_eq nat_eq a b ≡ same_writer a b
same_is None None = refl
same_is None (Some n) = refl
same_is (Some m) None = refl
same_is (Some m) (Some n) = refl

same_equal : (a b : Option ℕ) → same_writer a b ≡ true → a ≡ b
same_equal None None e = refl
same_equal None (Some n) e = cc
same_equal (Some m) None e = cc
same_equal (Some m) (Some n) e = ap Some (eqb-true m n e)

equal_same : (a : Option ℕ) → same_writer a a ≡ true
equal_same None = refl
equal_same (Some n) = eq-eqb n n refl

-- what a test for a change says
changed_parts : (a b : Option ℕ) (own changed : Bool) → changed ≡ (not (same_writer a b) && not own) → changed ≡ true → (a ≢ b) × (own ≡ false)
changed_parts a b own changed is e = by_tests (same_writer a b) own refl refl (sym is ∙ e) where
  by_tests : (s o : Bool) → same_writer a b ≡ s → own ≡ o → (not s && not o) ≡ true → (a ≢ b) × (own ≡ false)
  by_tests true o differ foreign h = cc
  by_tests false true differ foreign h = cc
  by_tests false false differ foreign h = ((λ same. both_ways (same_writer a b) differ (ap (same_writer a) (sym same) ∙ equal_same a)), foreign)

unchanged_parts : (a b : Option ℕ) (own changed : Bool) → changed ≡ (not (same_writer a b) && not own) → changed ≡ false → (a ≡ b) ⊎ (own ≡ true)
unchanged_parts a b own changed is e = by_tests (same_writer a b) own refl refl (sym is ∙ e) where
  by_tests : (s o : Bool) → same_writer a b ≡ s → own ≡ o → (not s && not o) ≡ false → (a ≡ b) ⊎ (own ≡ true)
  by_tests true o same whose h = inl (same_equal a b same)
  by_tests false true differ foreign h = inr foreign
  by_tests false false differ foreign h = cc

next_is_written : (rows : List StoredRow) (table : ℕ) (high from : List ℕ) (strict : Bool) (next : Option (List ℕ × ℕ)) → NextRow rows table high from strict next → IfSome next (λ row. writer_at rows (at table row.0) ≡ Some row.1)
next_is_written rows table high from strict None n = tt
next_is_written rows table high from strict (Some row) n = n.written

-- fewer items pass a narrower test
module _ {A : Type 0} (p q : A → Bool) (narrow : (x : A) → q x ≡ true → p x ≡ true) where
  fewer : (xs : List A) → length (filter q xs) ≤ length (filter p xs)
  fewer [] = omega arith
  fewer (x ∷ xs) = by_tests (q x) (p x) refl refl (fewer xs) where
    by_tests : (b c : Bool) → q x ≡ b → p x ≡ c → length (filter q xs) ≤ length (filter p xs) → length (cond b (x ∷ filter q xs) (filter q xs)) ≤ length (cond c (x ∷ filter p xs) (filter p xs))
    by_tests true true e f le = omega (arith, le)
    by_tests true false e f le = absurd (both_ways (p x) f (narrow x e))
    by_tests false true e f le = omega (arith, le)
    by_tests false false e f le = le

  fewer_here : (x : A) (xs : List A) → q x ≡ false → p x ≡ true → length (filter q (x ∷ xs)) < length (filter p (x ∷ xs))
  fewer_here x xs e f = rw (e, f) (let le = fewer xs in omega (arith, le))

  fewer_later : (x : A) (xs : List A) → length (filter q xs) < length (filter p xs) → length (filter q (x ∷ xs)) < length (filter p (x ∷ xs))
  fewer_later x xs less = by_tests (q x) (p x) refl refl where
    by_tests : (b c : Bool) → q x ≡ b → p x ≡ c → length (cond b (x ∷ filter q xs) (filter q xs)) < length (cond c (x ∷ filter p xs) (filter p xs))
    by_tests true true e f = omega (arith, less)
    by_tests true false e f = absurd (both_ways (p x) f (narrow x e))
    by_tests false true e f = omega (arith, less)
    by_tests false false e f = less

module _ (table : ℕ) where
  -- the row stands at the key or above it
  abbrev stands_from : List ℕ → StoredRow → Bool
  stands_from key r = (r.table == table) && is_le (key_cmp key r.key)

  -- no row stands from here on
  abbrev nowhere : StoredRow → Bool
  nowhere r = false

  at_itself : (key : List ℕ) (r : StoredRow) → same_cell (cell_of r) (at table key) ≡ true → stands_from key r ≡ true
  at_itself key r e =
      let same = same_cell_same (cell_of r) (at table key) e in
      let tables : (r.table == table) ≡ true = eq-eqb r.table table (ap (λ c. c.table) same) in
      let keys : is_le (key_cmp key r.key) ≡ true = ap (λ c. is_le (key_cmp key c.key)) same ∙ ap is_le (key_itself key) in
      rw (tables, keys) refl

  not_above : (key k : List ℕ) (r : StoredRow) → key_cmp key k ≡ Less → same_cell (cell_of r) (at table key) ≡ true → stands_from k r ≡ false
  not_above key k r less e =
      let same = same_cell_same (cell_of r) (at table key) e in
      let tables : (r.table == table) ≡ true = eq-eqb r.table table (ap (λ c. c.table) same) in
      let keys : is_le (key_cmp k r.key) ≡ false = ap (λ c. is_le (key_cmp k c.key)) same ∙ ap is_le (key_turned key k Less less) in
      rw (tables, keys) refl

  narrower : (key k : List ℕ) → key_cmp key k ≡ Less → (r : StoredRow) → stands_from k r ≡ true → stands_from key r ≡ true
  narrower key k less r e =
      let both = and_parts (r.table == table) (is_le (key_cmp k r.key)) e in
      rw (both.0, by_order (key_cmp k r.key) refl both.1) refl where
        by_order : (o : Ordering) → key_cmp k r.key ≡ o → is_le o ≡ true → is_le (key_cmp key r.key) ≡ true
        by_order Less is h = ap is_le (key_total.trans key k r.key less is)
        by_order Equal is h = ap is_le (ap (key_cmp key) (sym (same_keys k r.key is)) ∙ less)
        by_order Greater is h = cc

  -- a test that a written row fails, and the test for those from its key on
  written_fewer : (q : StoredRow → Bool) (rows : List StoredRow) (key : List ℕ) (writer : ℕ) → ((r : StoredRow) → q r ≡ true → stands_from key r ≡ true) → ((r : StoredRow) → same_cell (cell_of r) (at table key) ≡ true → q r ≡ false)
      → writer_at rows (at table key) ≡ Some writer → length (filter q rows) < length (filter (stands_from key) rows)
  written_fewer q [] key writer narrow fails e = cc
  written_fewer q (r ∷ rows) key writer narrow fails e = by_cell (same_cell (cell_of r) (at table key)) refl e (written_fewer q rows key writer narrow fails) where
    by_cell : (b : Bool) → same_cell (cell_of r) (at table key) ≡ b → Rattle.std.specs.Option.option_map (λ row. row.writer) (cond b (Some r) (Rattle.ltx_model.specs.StoredRows.row_at rows (at table key))) ≡ Some writer
        → (writer_at rows (at table key) ≡ Some writer → length (filter q rows) < length (filter (stands_from key) rows)) → length (filter q (r ∷ rows)) < length (filter (stands_from key) (r ∷ rows))
    by_cell true is h later = fewer_here (stands_from key) q narrow r rows (fails r is) (at_itself key r is)
    by_cell false is h later = fewer_later (stands_from key) q narrow r rows (later h)

module _ (rows : List StoredRow) (table : ℕ) (high : List ℕ) where
  none_from : (xs : List StoredRow) → length (filter (nowhere table) xs) ≡ 0
  none_from [] = refl
  none_from (x ∷ xs) = none_from xs

  -- fewer rows stand from a row above
  rows_fewer : (key : List ℕ) (writer : ℕ) (more : Option (List ℕ × ℕ)) → writer_at rows (at table key) ≡ Some writer → NextRow rows table high key true more → rows_from rows table more < rows_from rows table (Some (key, writer))
  rows_fewer key writer None written n = let less = written_fewer table (nowhere table) rows key writer (λ r e. cc) (λ r e. refl) written in let none = none_from rows in omega (arith, less, none)
  rows_fewer key writer (Some row) written n =
      let less : key_cmp key row.0 ≡ Less = is_less (key_cmp key row.0) n.reached in
      written_fewer table (stands_from table row.0) rows key writer (narrower table key row.0 less) (λ r e. not_above table key row.0 r less e) written

  -- a key_turned at a row leaves fewer rows
  pub fewer_rows : (left : List Look) (next : Option (List ℕ × ℕ)) (t : Turning) (more : Option (List ℕ × ℕ)) → IfSome next (λ row. writer_at rows (at table row.0) ≡ Some row.1) → turn_of left next ≡ Some t → is_some t.current ≡ true
      → NextRow rows table high t.key true more → turns_left rows table t.left more < turns_left rows table left next
  fewer_rows [] None t more written e some n = cc
  fewer_rows [] (Some row) t more written e some n =
      let left : t.left ≡ [] = cc in
      let key : row.0 ≡ t.key = cc in
      let less = rows_fewer row.0 row.1 more written (subst (λ k. NextRow rows table high k true more) (sym key) n) in
      rw left (omega (arith, less))
  fewer_rows (look ∷ rest) None t more written e some n = absurd (let none : t.current ≡ None = cc in both_ways (is_some t.current) (ap is_some none) some)
  fewer_rows (look ∷ rest) (Some row) t more written e some n = by_order (key_cmp look.key row.0) refl e where
    by_order : (o : Ordering) → key_cmp look.key row.0 ≡ o → Some (turn_by o look rest row) ≡ Some t → turns_left rows table t.left more < turns_left rows table (look ∷ rest) (Some row)
    by_order Less is h = absurd (let none : t.current ≡ None = cc in both_ways (is_some t.current) (ap is_some none) some)
    by_order Equal is h =
        let left : t.left ≡ rest = cc in
        let here : look.key ≡ t.key = cc in
        let key : row.0 ≡ t.key = sym (same_keys look.key row.0 is) ∙ here in
        let less = rows_fewer row.0 row.1 more written (subst (λ k. NextRow rows table high k true more) (sym key) n) in
        rw left (omega (arith, less))
    by_order Greater is h =
        let left : t.left ≡ look ∷ rest = cc in
        let key : row.0 ≡ t.key = cc in
        let less = rows_fewer row.0 row.1 more written (subst (λ k. NextRow rows table high k true more) (sym key) n) in
        rw left (omega (arith, less))

  -- a key_turned at a look alone leaves fewer looks
  pub fewer_looks : (left : List Look) (next : Option (List ℕ × ℕ)) (t : Turning) → turn_of left next ≡ Some t → is_some t.current ≡ false → turns_left rows table t.left next < turns_left rows table left next
  fewer_looks [] None t e none = cc
  fewer_looks [] (Some row) t e none = absurd (let some : t.current ≡ Some row.1 = cc in both_ways (is_some t.current) none (ap is_some some))
  fewer_looks (look ∷ rest) None t e none = let left : t.left ≡ rest = cc in rw left (omega arith)
  fewer_looks (look ∷ rest) (Some row) t e none = by_order (key_cmp look.key row.0) e where
    by_order : (o : Ordering) → Some (turn_by o look rest row) ≡ Some t → turns_left rows table t.left (Some row) < turns_left rows table (look ∷ rest) (Some row)
    by_order Less h = let left : t.left ≡ rest = cc in rw left (omega arith)
    by_order Equal h = absurd (let some : t.current ≡ Some row.1 = cc in both_ways (is_some t.current) none (ap is_some some))
    by_order Greater h = absurd (let some : t.current ≡ Some row.1 = cc in both_ways (is_some t.current) none (ap is_some some))

module _ (rows : List StoredRow) (table : ℕ) (low high : List ℕ) (looks : List Look) (own : List (List ℕ)) where
  pub way_start : (next : Option (List ℕ × ℕ)) → NextRow rows table high low false next → IsOnWay rows table low high looks own looks next
  way_start next n = record { next_is = next_is_written rows table high low false next n; walk = λ ordered. walk_start rows table low high looks own next n ordered }

  module _ (left : List Look) (next : Option (List ℕ × ℕ)) (way : IsOnWay rows table low high looks own left next) where
    pub way_end : turn_of left next ≡ None → IsOrdered (Range low high looks own) → Tells rows table (Range low high looks own) None
    way_end e ordered = walk_end rows table low high looks own left next (way.walk ordered) e

    module _ (t : Turning) (changed : Bool) (is_turn : turn_of left next ≡ Some t) (test : IsStrictlySortedBy key_cmp own → changed ≡ (not (same_writer t.found t.current) && not (is_one_of own t.key))) where
      pub way_differs : changed ≡ true → IsOrdered (Range low high looks own) → IsLeastDifference rows table (Range low high looks own) (record { key = t.key; found = t.found; current = t.current })
      way_differs e ordered =
          let parts = changed_parts t.found t.current (is_one_of own t.key) changed (test ordered.2) e in
          walk_differs rows table low high looks own left next (way.walk ordered) t is_turn parts.0 parts.1

      pub way_more : changed ≡ false → (more : Option (List ℕ × ℕ)) → NextRow rows table high t.key true more → IsOnWay rows table low high looks own t.left more
      way_more e more n = record {
        next_is = next_is_written rows table high t.key true more n;
        walk = λ ordered. walk_more rows table low high looks own left next (way.walk ordered) t is_turn (unchanged_parts t.found t.current (is_one_of own t.key) changed (test ordered.2) e) more n;
      }

      pub way_kept : changed ≡ false → is_some t.current ≡ false → IsOnWay rows table low high looks own t.left next
      way_kept e none = record {
        next_is = way.next_is;
        walk = λ ordered.
            let w = way.walk ordered in
            walk_more rows table low high looks own left next w t is_turn (unchanged_parts t.found t.current (is_one_of own t.key) changed (test ordered.2) e) next (row_kept rows table low high looks own left next w t is_turn (no_writer t.current none));
      } where
        no_writer : (o : Option ℕ) → is_some o ≡ false → o ≡ None
        no_writer None e = refl
        no_writer (Some n) e = cc
