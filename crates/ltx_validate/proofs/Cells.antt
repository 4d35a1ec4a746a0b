-- Keys of tables that tie are one.
use Rattle.std.proofs.Common.{◌≡◌, ℕ, List, true, refl, ap}
use Rattle.std.specs.declared.cmp.Ordering.{Ordering}
use Rattle.std.specs.declared.cmp.Ordering.TheVariants.{Less, Equal, Greater}
use Rattle.std.specs.Ordering.{nat_cmp, ordering_then}
use Rattle.std.specs.FinMap.{nat_cmp-IsAntisymmetric}
use Rattle.std.specs.Cmp.{nat_cmp_total, tied_itself}
use Rattle.ltx_model.specs.Keys.{Cell, key_cmp, cell_cmp, same_cell}
use Rattle.ltx_model.proofs.Orderings.{is_equal}
use Rattle.ltx_model.proofs.KeyOrder.{same_keys}

then_equal : (a b : Ordering) → ordering_then a b ≡ Equal → (a ≡ Equal) × (b ≡ Equal)
then_equal Less b e = cc
then_equal Equal b e = (refl, e)
then_equal Greater b e = cc

pub same_cell_same : (a b : Cell) → same_cell a b ≡ true → a ≡ b
same_cell_same a b e =
    let both = then_equal (nat_cmp a.table b.table) (key_cmp a.key b.key) (is_equal (cell_cmp a b) e) in
    let tables : a.table ≡ b.table = nat_cmp-IsAntisymmetric a.table b.table both.0 in
    let keys : a.key ≡ b.key = same_keys a.key b.key both.1 in
    λ i. record { table = tables i; key = keys i }

pub number_itself : (n : ℕ) → nat_cmp n n ≡ Equal
number_itself n = tied_itself nat_cmp_total n

-- in one table the keys tell the order
pub in_table : (table : ℕ) (a b : List ℕ) → cell_cmp (record { table = table; key = a }) (record { table = table; key = b }) ≡ key_cmp a b
in_table table a b = ap (λ o. ordering_then o (key_cmp a b)) (number_itself table)
