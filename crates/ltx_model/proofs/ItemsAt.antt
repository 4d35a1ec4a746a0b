-- What stands at a cell after an item is put in its place, or where some items are taken out.
use Rattle.std.proofs.Common.{◌≡◌, Bool, true, false, cond, List, [], ◌∷◌, Option, Some, None, refl, sym, ap, ◌∙◌}
use Rattle.std.specs.declared.cmp.Ordering.{Ordering}
use Rattle.std.specs.declared.cmp.Ordering.TheVariants.{Less, Equal, Greater}
use Rattle.std.specs.List.{filter}
use Rattle.std.specs.Ordering.{is_eq}
use Rattle.ltx_model.specs.Keys.{Cell, cell_cmp, same_cell, item_at, put_in_order}
use Rattle.ltx_model.proofs.CellOrder.{same_cells, same_cell_same}

module _ {A : Type 0} (cell : A → Cell) where
  put_by_cmp : (o : Ordering) (x y : A) (ys : List A) (q : Cell) → cell_cmp (cell x) (cell y) ≡ o
      → item_at cell (put_in_order cell x ys) q ≡ cond (same_cell (cell x) q) (Some x) (item_at cell ys q)
      → item_at cell (put_in_order cell x (y ∷ ys)) q ≡ cond (same_cell (cell x) q) (Some x) (item_at cell (y ∷ ys) q)
  put_by_cmp Less x y ys q e ih = rw e refl
  put_by_cmp Equal x y ys q e ih = rw e (by_test (same_cell (cell x) q) refl) where
    by_test : (b : Bool) → same_cell (cell x) q ≡ b → cond b (Some x) (item_at cell ys q) ≡ cond b (Some x) (cond (same_cell (cell y) q) (Some y) (item_at cell ys q))
    by_test true is = refl
    by_test false is = rw (sym (ap (λ c. same_cell c q) (same_cells (cell x) (cell y) e)) ∙ is) refl
  put_by_cmp Greater x y ys q e ih = rw e (by_test (same_cell (cell y) q) refl) where
    by_test : (b : Bool) → same_cell (cell y) q ≡ b → cond b (Some y) (item_at cell (put_in_order cell x ys) q) ≡ cond (same_cell (cell x) q) (Some x) (cond b (Some y) (item_at cell ys q))
    by_test false is = ih
    by_test true is = rw (ap (λ c. same_cell (cell x) c) (sym (same_cell_same (cell y) q is)) ∙ ap is_eq e) refl

  -- what stands at a cell after an item is put in its place
  pub item_at-put : (x : A) (xs : List A) (q : Cell) → item_at cell (put_in_order cell x xs) q ≡ cond (same_cell (cell x) q) (Some x) (item_at cell xs q)
  item_at-put x [] q = refl
  item_at-put x (y ∷ ys) q = put_by_cmp (cell_cmp (cell x) (cell y)) x y ys q refl (item_at-put x ys q)

  -- what stands at a cell among the items whose cells pass a test
  pub item_at-filter : (test : Cell → Bool) (xs : List A) (q : Cell) → item_at cell (filter (λ x. test (cell x)) xs) q ≡ cond (test q) (item_at cell xs q) None
  item_at-filter test [] q = sym (cond_none (test q)) where
    cond_none : (b : Bool) → ◌≡◌ {A = Option A} (cond b None None) None
    cond_none true = refl
    cond_none false = refl
  item_at-filter test (y ∷ ys) q = by_tests (test (cell y)) (same_cell (cell y) q) refl refl (item_at-filter test ys q) where
    by_tests : (b d : Bool) → test (cell y) ≡ b → same_cell (cell y) q ≡ d → item_at cell (filter (λ x. test (cell x)) ys) q ≡ cond (test q) (item_at cell ys q) None
        → item_at cell (cond b (y ∷ filter (λ x. test (cell x)) ys) (filter (λ x. test (cell x)) ys)) q ≡ cond (test q) (cond d (Some y) (item_at cell ys q)) None
    by_tests true true is same rest = rw (same, sym (ap test (same_cell_same (cell y) q same)) ∙ is) refl
    by_tests true false is same rest = rw same rest
    by_tests false true is same rest = rest ∙ rw (sym (ap test (same_cell_same (cell y) q same)) ∙ is) refl
    by_tests false false is same rest = rest

  -- the item at a cell has that cell
  pub item_at-is : (xs : List A) (q : Cell) (x : A) → item_at cell xs q ≡ Some x → cell x ≡ q
  item_at-is [] q x is = cc
  item_at-is (y ∷ ys) q x is = by_test (same_cell (cell y) q) refl is (item_at-is ys q x) where
    by_test : (b : Bool) → same_cell (cell y) q ≡ b → cond b (Some y) (item_at cell ys q) ≡ Some x → (item_at cell ys q ≡ Some x → cell x ≡ q) → cell x ≡ q
    by_test true same is rest = let here : y ≡ x = cc in ap cell (sym here) ∙ same_cell_same (cell y) q same
    by_test false same is rest = rest is
