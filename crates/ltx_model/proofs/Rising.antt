-- Items in strictly rising order of their cells: what puts, filters and joins leave, and that look-ups determine them.
use Rattle.std.proofs.Common.{◌≡◌, Bool, true, false, cond, not, List, [], ◌∷◌, ◌++◌, Some, None, refl, sym, ap, ◌∙◌, subst}
use Rattle.std.specs.List.{AllByRecursion, filter}
use Rattle.std.specs.declared.cmp.Ordering.{Ordering}
use Rattle.std.specs.declared.cmp.Ordering.TheVariants.{Less, Equal, Greater}
use Rattle.std.specs.Ordering.{is_eq}
use Rattle.std.proofs.lemmas.Option.{none-some, same_Some}
use Rattle.ltx_model.specs.Keys.{Cell, cell_cmp, same_cell, item_at, put_in_order, AreAbove, IsRising}
use Rattle.ltx_model.proofs.CellOrder.{cell_total, cell_turned, same_cells, same_cell_same, same_cell_symm, same_cell_refl}
use Rattle.ltx_model.proofs.ItemsAt.{item_at-filter}

module _ {A : Type 0} (cell : A → Cell) where
  -- what is above a cell is above each lesser one
  pub above_later : (c d : Cell) (xs : List A) → cell_cmp c d ≡ Less → AreAbove cell d xs → AreAbove cell c xs
  above_later c d [] less above = tt
  above_later c d (x ∷ xs) less above = (cell_total.trans c d (cell x) less above.0, above_later c d xs less above.1)

  pub above_same : (c d : Cell) (xs : List A) → c ≡ d → AreAbove cell d xs → AreAbove cell c xs
  above_same c d xs same above = subst (λ e. AreAbove cell e xs) (sym same) above

  pub above_append : (c : Cell) (xs ys : List A) → AreAbove cell c xs → AreAbove cell c ys → AreAbove cell c (xs ++ ys)
  above_append c [] ys first second = second
  above_append c (x ∷ xs) ys first second = (first.0, above_append c xs ys first.1 second)

  pub above_put : (c : Cell) (x : A) (ys : List A) → AreAbove cell c ys → cell_cmp c (cell x) ≡ Less → AreAbove cell c (put_in_order cell x ys)
  above_put c x [] above less = (less, tt)
  above_put c x (y ∷ ys) above less = by_cmp (cell_cmp (cell x) (cell y)) refl (above_put c x ys above.1 less) where
    by_cmp : (o : Ordering) → cell_cmp (cell x) (cell y) ≡ o → AreAbove cell c (put_in_order cell x ys) → AreAbove cell c (put_in_order cell x (y ∷ ys))
    by_cmp Less e rest = rw e (less, above)
    by_cmp Equal e rest = rw e (less, above.1)
    by_cmp Greater e rest = rw e (above.0, rest)

  pub above_filter : (c : Cell) (test : A → Bool) (ys : List A) → AreAbove cell c ys → AreAbove cell c (filter test ys)
  above_filter c test [] above = tt
  above_filter c test (y ∷ ys) above = by_test (test y) (above_filter c test ys above.1) where
    by_test : (b : Bool) → AreAbove cell c (filter test ys) → AreAbove cell c (cond b (y ∷ filter test ys) (filter test ys))
    by_test true rest = (above.0, rest)
    by_test false rest = rest

  -- order is kept
  pub rising_put : (x : A) (ys : List A) → IsRising cell ys → IsRising cell (put_in_order cell x ys)
  rising_put x [] rising = (tt, tt)
  rising_put x (y ∷ ys) rising = by_cmp (cell_cmp (cell x) (cell y)) refl (rising_put x ys rising.1) where
    by_cmp : (o : Ordering) → cell_cmp (cell x) (cell y) ≡ o → IsRising cell (put_in_order cell x ys) → IsRising cell (put_in_order cell x (y ∷ ys))
    by_cmp Less e rest = rw e ((e, above_later (cell x) (cell y) ys e rising.0), rising)
    by_cmp Equal e rest = rw e (above_same (cell x) (cell y) ys (same_cells (cell x) (cell y) e) rising.0, rising.1)
    by_cmp Greater e rest = rw e (above_put (cell y) x ys rising.0 (cell_turned (cell x) (cell y) Greater e), rest)

  pub rising_filter : (test : A → Bool) (ys : List A) → IsRising cell ys → IsRising cell (filter test ys)
  rising_filter test [] rising = tt
  rising_filter test (y ∷ ys) rising = by_test (test y) (rising_filter test ys rising.1) where
    by_test : (b : Bool) → IsRising cell (filter test ys) → IsRising cell (cond b (y ∷ filter test ys) (filter test ys))
    by_test true rest = (above_filter (cell y) test ys rising.0, rest)
    by_test false rest = rest

  pub rising_append : (xs ys : List A) → IsRising cell xs → IsRising cell ys → AllByRecursion (λ x. AreAbove cell (cell x) ys) xs → IsRising cell (xs ++ ys)
  rising_append [] ys first second across = second
  rising_append (x ∷ xs) ys first second across = (above_append (cell x) xs ys first.0 across.0, rising_append xs ys first.1 second across.1)

  -- what stands above a cell, when an item of that cell is put, looked for or taken out
  pub put_above : (x : A) (ys : List A) → AreAbove cell (cell x) ys → put_in_order cell x ys ≡ x ∷ ys
  put_above x [] above = refl
  put_above x (y ∷ ys) above = rw above.0 refl

  pub item_at-above : (c : Cell) (xs : List A) → AreAbove cell c xs → item_at cell xs c ≡ None
  item_at-above c [] above = refl
  item_at-above c (y ∷ ys) above = rw (same_cell_symm c (cell y) false (ap is_eq above.0)) (item_at-above c ys above.1)

  pub filter_above : (c : Cell) (xs : List A) → AreAbove cell c xs → filter (λ x. not (same_cell (cell x) c)) xs ≡ xs
  filter_above c [] above = refl
  filter_above c (y ∷ ys) above = rw (same_cell_symm c (cell y) false (ap is_eq above.0)) (ap (λ l. y ∷ l) (filter_above c ys above.1))

  -- Items in rising order are determined by their look-ups.
  pub same_items : (xs ys : List A) → IsRising cell xs → IsRising cell ys → ((q : Cell) → item_at cell xs q ≡ item_at cell ys q) → xs ≡ ys
  same_items [] [] rx ry h = refl
  same_items [] (y ∷ ys) rx ry h = absurd (none-some y (h (cell y) ∙ rw (same_cell_refl (cell y)) refl))
  same_items (x ∷ xs) [] rx ry h = absurd (none-some x (sym (h (cell x)) ∙ rw (same_cell_refl (cell x)) refl))
  same_items (x ∷ xs) (y ∷ ys) rx ry h = by_cmp (cell_cmp (cell x) (cell y)) refl (same_items xs ys rx.1 ry.1) where
    at_x : Some x ≡ item_at cell (y ∷ ys) (cell x)
    at_x = sym (rw (same_cell_refl (cell x)) refl) ∙ h (cell x)

    at_y : item_at cell (x ∷ xs) (cell y) ≡ Some y
    at_y = h (cell y) ∙ rw (same_cell_refl (cell y)) refl

    tails : cell x ≡ cell y → (q : Cell) → item_at cell xs q ≡ item_at cell ys q
    tails same q = by_test (same_cell (cell x) q) refl where
      by_test : (b : Bool) → same_cell (cell x) q ≡ b → item_at cell xs q ≡ item_at cell ys q
      by_test true e = let p = same_cell_same (cell x) q e in item_at-above q xs (above_same q (cell x) xs (sym p) rx.0) ∙ sym (item_at-above q ys (above_same q (cell y) ys (sym p ∙ same) ry.0))
      by_test false e = sym (rw e refl) ∙ h q ∙ rw (ap (λ c. same_cell c q) (sym same) ∙ e) refl

    by_cmp : (o : Ordering) → cell_cmp (cell x) (cell y) ≡ o → (((q : Cell) → item_at cell xs q ≡ item_at cell ys q) → xs ≡ ys) → x ∷ xs ≡ y ∷ ys
    by_cmp Less e rest = absurd (none-some x (sym (at_x ∙ item_at-above (cell x) (y ∷ ys) (e, above_later (cell x) (cell y) ys e ry.0))))
    by_cmp Greater e rest = absurd (let less = cell_turned (cell x) (cell y) Greater e in none-some y (sym (item_at-above (cell y) (x ∷ xs) (less, above_later (cell y) (cell x) xs less rx.0)) ∙ at_y))
    by_cmp Equal e rest =
        let same : cell x ≡ cell y = same_cells (cell x) (cell y) e in
        let heads : x ≡ y = same_Some _ _ (at_x ∙ rw (ap (λ c. same_cell c (cell x)) (sym same) ∙ same_cell_refl (cell x)) refl) in
        λ i. heads i ∷ rest (tails same) i

  -- so are those whose cells pass a test, by the look-ups of such cells
  pub same_filter : (test : Cell → Bool) (xs ys : List A) → IsRising cell xs → IsRising cell ys → ((q : Cell) → test q ≡ true → item_at cell xs q ≡ item_at cell ys q)
      → filter (λ x. test (cell x)) xs ≡ filter (λ x. test (cell x)) ys
  same_filter test xs ys rx ry h = same_items (filter (λ x. test (cell x)) xs) (filter (λ x. test (cell x)) ys) (rising_filter (λ x. test (cell x)) xs rx) (rising_filter (λ x. test (cell x)) ys ry)
      (λ q. item_at-filter cell test xs q ∙ by_test q (test q) refl ∙ sym (item_at-filter cell test ys q)) where
        by_test : (q : Cell) (b : Bool) → test q ≡ b → cond b (item_at cell xs q) None ≡ cond b (item_at cell ys q) None
        by_test q true e = h q e
        by_test q false e = refl
