-- The order of cells, by table and then by key: it is total, and cells that tie are one.
use Rattle.std.proofs.Common.{◌≡◌, ℕ, Bool, true, false, List, refl, sym, ap, ◌∙◌, subst}
use Rattle.std.specs.declared.cmp.Ordering.{Ordering}
use Rattle.std.specs.declared.cmp.Ordering.TheVariants.{Less, Equal, Greater}
use Rattle.std.specs.Ordering.{nat_cmp, is_eq, is_le, ordering_then, ordering_reverse}
use Rattle.std.specs.FinMap.{nat_cmp-IsAntisymmetric}
use Rattle.std.specs.Cmp.{IsTotalOrder, on_total, then_total, nat_cmp_total, tied_itself}
use Rattle.std.specs.Cmp.Lexicographic.{nat_list_cmp_total}
use Rattle.std.proofs.lemmas.Bool.{both_ways}
use Rattle.ltx_model.specs.Keys.{Cell, key_cmp, cell_cmp, same_cell}
use Rattle.ltx_model.proofs.Orderings.{is_equal, then_equal, number_itself}
use Rattle.ltx_model.proofs.KeyOrder.{same_keys}

pub cell_total : IsTotalOrder cell_cmp
cell_total = then_total (on_total (λ (c : Cell). c.table) nat_cmp_total) (on_total (λ (c : Cell). c.key) nat_list_cmp_total)

pub cell_itself : (c : Cell) → cell_cmp c c ≡ Equal
cell_itself c = tied_itself cell_total c

pub same_cells : (a b : Cell) → cell_cmp a b ≡ Equal → a ≡ b
same_cells a b e =
    let both = then_equal (nat_cmp a.table b.table) (key_cmp a.key b.key) e in
    let tables : a.table ≡ b.table = nat_cmp-IsAntisymmetric a.table b.table both.0 in
    let keys : a.key ≡ b.key = same_keys a.key b.key both.1 in
    λ i. record { table = tables i; key = keys i }

-- the order the other way round
pub cell_turned : (a b : Cell) (o : Ordering) → cell_cmp a b ≡ o → cell_cmp b a ≡ ordering_reverse o
cell_turned a b o e = cell_total.antisymm b a ∙ ap ordering_reverse e

-- cells that are not above each other are one
pub cells_one : (a b : Cell) → is_le (cell_cmp a b) ≡ true → is_le (cell_cmp b a) ≡ true → a ≡ b
cells_one a b h g = by_cmp (cell_cmp a b) refl h where
  by_cmp : (o : Ordering) → cell_cmp a b ≡ o → is_le o ≡ true → a ≡ b
  by_cmp Equal e f = same_cells a b e
  by_cmp Greater e f = cc
  by_cmp Less e f = absurd (let no : ⊥ = both_ways (is_le (cell_cmp b a)) (ap is_le (cell_turned a b Less e)) g in no)

-- in one table the keys tell the order
pub in_one_table : (table : ℕ) (a b : List ℕ) → cell_cmp (record { table = table; key = a }) (record { table = table; key = b }) ≡ key_cmp a b
in_one_table table a b = ap (λ o. ordering_then o (key_cmp a b)) (number_itself table)

-- the test whether two cells are one
pub same_cell_same : (a b : Cell) → same_cell a b ≡ true → a ≡ b
same_cell_same a b e = same_cells a b (is_equal (cell_cmp a b) e)

pub same_cell_refl : (c : Cell) → same_cell c c ≡ true
same_cell_refl c = ap is_eq (cell_itself c)

pub same_cell_from : (a b : Cell) → a ≡ b → same_cell a b ≡ true
same_cell_from a b e = subst (λ c. same_cell a c ≡ true) e (same_cell_refl a)

-- it says the same the other way round
pub same_cell_symm : (a b : Cell) (r : Bool) → same_cell a b ≡ r → same_cell b a ≡ r
same_cell_symm a b true e = same_cell_from b a (sym (same_cell_same a b e))
same_cell_symm a b false e = by_test (same_cell b a) refl where
  by_test : (r : Bool) → same_cell b a ≡ r → same_cell b a ≡ false
  by_test false is = is
  by_test true is = absurd (let no : ⊥ = both_ways (same_cell a b) e (same_cell_from a b (sym (same_cell_same b a is))) in no)
