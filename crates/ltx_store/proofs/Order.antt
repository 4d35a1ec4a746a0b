-- The order of cells, and lists that are kept in it.
use Rattle.std.proofs.Common.{◌≡◌, true, List, [], ◌∷◌, refl, sym, ap, ◌∙◌, subst}
use Rattle.std.specs.declared.cmp.Ordering.{Ordering}
use Rattle.std.specs.declared.cmp.Ordering.TheVariants.{Less, Equal, Greater}
use Rattle.std.specs.Ordering.{nat_cmp, is_eq, ordering_then, ordering_reverse}
use Rattle.std.specs.Cmp.{IsTotalOrder, on_total, then_total, nat_cmp_total, tied_itself}
use Rattle.std.specs.Cmp.Lexicographic.{nat_list_cmp_total}
use Rattle.std.specs.FinMap.{nat_cmp-IsAntisymmetric, slice_cmp-IsAntisymmetric}
use Rattle.ltx_model.specs.Keys.{Cell, key_cmp, cell_cmp, same_cell, AreAbove}

pub cell_total : IsTotalOrder cell_cmp
cell_total = then_total (on_total (λ (c : Cell). c.table) nat_cmp_total) (on_total (λ (c : Cell). c.key) nat_list_cmp_total)

then_equal : (a b : Ordering) → ordering_then a b ≡ Equal → (a ≡ Equal) × (b ≡ Equal)
then_equal Less b e = cc
then_equal Equal b e = (refl, e)
then_equal Greater b e = cc

-- cells that tie are one
pub tied_cells : (a b : Cell) → cell_cmp a b ≡ Equal → a ≡ b
tied_cells a b e =
    let both = then_equal (nat_cmp a.table b.table) (key_cmp a.key b.key) e in
    let tables : a.table ≡ b.table = nat_cmp-IsAntisymmetric a.table b.table both.0 in
    let keys : a.key ≡ b.key = slice_cmp-IsAntisymmetric nat_cmp-IsAntisymmetric a.key b.key both.1 in
    λ i. record { table = tables i; key = keys i }

pub cell_itself : (c : Cell) → cell_cmp c c ≡ Equal
cell_itself c = tied_itself cell_total c

pub turned : (a b : Cell) (o : Ordering) → cell_cmp a b ≡ o → cell_cmp b a ≡ ordering_reverse o
turned a b o e = cell_total.antisymm b a ∙ ap ordering_reverse e

is_eq_equal : (o : Ordering) → is_eq o ≡ true → o ≡ Equal
is_eq_equal Less e = cc
is_eq_equal Equal e = refl
is_eq_equal Greater e = cc

pub same_cell_is : (a b : Cell) → same_cell a b ≡ true → a ≡ b
same_cell_is a b e = tied_cells a b (is_eq_equal (cell_cmp a b) e)

module _ {A : Type 0} (cell : A → Cell) where
  -- what is above a cell is above each lesser one
  pub above_lower : (a b : Cell) (xs : List A) → cell_cmp a b ≡ Less → AreAbove cell b xs → AreAbove cell a xs
  above_lower a b [] less all = tt
  above_lower a b (x ∷ xs) less all = (cell_total.trans a b (cell x) less all.0, above_lower a b xs less all.1)

  pub above_same : (a b : Cell) (xs : List A) → a ≡ b → AreAbove cell b xs → AreAbove cell a xs
  above_same a b xs same all = subst (λ c. AreAbove cell c xs) (sym same) all
