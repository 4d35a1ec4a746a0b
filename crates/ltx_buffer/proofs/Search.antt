-- A key among writes in rising order: what a binary search ends at, and what an edit at that place makes of the writes.
use Rattle.std.proofs.Common.{◌≡◌, ℕ, zero, suc, ◌+◌, ◌<◌, [], ◌∷◌, List, length, take, drop, get_or, set, insert, Some, None, Ok, Err, Result, IfOk, IfErr, refl, sym, ap, subst, ◌∙◌, arith}
use Rattle.std.specs.List.{AllByRecursion}
use Rattle.std.specs.List.Sorted.{IsStrictlySortedBy, IsSortedBy, IsSearchInRange, IsBinarySearchResult}
use Rattle.std.specs.Ordering.{ordering_reverse, is_lt, is_eq}
use Rattle.std.specs.declared.cmp.Ordering.{Ordering}
use Rattle.std.specs.declared.cmp.Ordering.TheVariants.{Less, Equal, Greater}
use Rattle.std.proofs.lemmas.List.{length-take, length-drop, get_or-take, get_or-drop}
use Rattle.std.proofs.lemmas.List.Elements.{recursion_from_All}
use Rattle.std.proofs.lemmas.List.Sorted.{searchable_from_sorted}
use Rattle.std.proofs.lemmas.Map.Keys.{Less-from_sorted}
use Rattle.ltx_model.specs.declared.writes.Write.{Write}
use Rattle.ltx_model.specs.Keys.{Cell, cell_cmp, same_cell, put_in_order, AreAbove, IsRising}
use Rattle.ltx_model.specs.Operations.{cell_of_write}
use Rattle.ltx_buffer.specs.Own.{write_at}
use Rattle.ltx_buffer.specs.Places.{IsFoundAt, IsGapAt}
use Rattle.ltx_model.proofs.CellOrder.{same_cells, cell_total, cell_turned}

module _ (cell : Cell) where
  is_here : (write : Write) (o : Ordering) → cell_cmp cell (cell_of_write write) ≡ o → same_cell (cell_of_write write) cell ≡ is_eq (ordering_reverse o)
  is_here write o e = ap is_eq (cell_turned cell (cell_of_write write) o e)

  found_tail : (x : Write) (xs : List Write) (i : ℕ) → IsFoundAt cell (x ∷ xs) (suc i) → IsFoundAt cell xs i
  found_tail x xs i f = record { within = omega (arith, f.within); below = f.below.1; here = f.here }

  gap_tail : (x : Write) (xs : List Write) (i : ℕ) → IsGapAt cell (x ∷ xs) (suc i) → IsGapAt cell xs i
  gap_tail x xs i f = record { within = omega (arith, f.within); below = f.below.1; above = f.above }

  -- where the key's write stands
  pub write_at_found : (writes : List Write) (i : ℕ) (write : Write) → IsFoundAt cell writes i → write ≡ get_or writes i write → write_at writes cell ≡ Some write
  write_at_found [] i write f is = absurd (omega (arith, f.within))
  write_at_found (x ∷ xs) zero write f is = rw (is_here x Equal (f.here write)) (ap Some (sym is))
  write_at_found (x ∷ xs) (suc i) write f is = rw (is_here x Greater f.below.0) (write_at_found xs i write (found_tail x xs i f) is)

  -- where it does not stand
  write_at-above : (writes : List Write) → AreAbove cell_of_write cell writes → write_at writes cell ≡ None
  write_at-above [] above = refl
  write_at-above (x ∷ xs) above = rw (is_here x Less above.0) (write_at-above xs above.1)

  pub write_at_gap : (writes : List Write) (i : ℕ) → IsGapAt cell writes i → write_at writes cell ≡ None
  write_at_gap writes zero f = write_at-above writes f.above
  write_at_gap [] (suc i) f = refl
  write_at_gap (x ∷ xs) (suc i) f = rw (is_here x Greater f.below.0) (write_at_gap xs i (gap_tail x xs i f))

module _ (write : Write) where
  pub put_found : (writes : List Write) (i : ℕ) → IsFoundAt (cell_of_write write) writes i → put_in_order cell_of_write write writes ≡ set writes i write
  put_found [] i f = absurd (omega (arith, f.within))
  put_found (x ∷ xs) zero f = rw (f.here x) refl
  put_found (x ∷ xs) (suc i) f = rw (f.below.0, put_found xs i (found_tail (cell_of_write write) x xs i f)) refl

  pub put_gap : (writes : List Write) (i : ℕ) → IsGapAt (cell_of_write write) writes i → put_in_order cell_of_write write writes ≡ insert writes i write
  put_gap [] zero f = refl
  put_gap [] (suc i) f = absurd (omega (arith, f.within))
  put_gap (x ∷ xs) zero f = rw f.above.0 refl
  put_gap (x ∷ xs) (suc i) f = rw (f.below.0, put_gap xs i (gap_tail (cell_of_write write) x xs i f)) refl

-- the order of writes is that of their keys
abbrev by_cell : Write → Write → Ordering
by_cell a b = cell_cmp (cell_of_write a) (cell_of_write b)

sorted_writes : (writes : List Write) → IsRising cell_of_write writes → IsStrictlySortedBy by_cell writes
unfolding IsStrictlySortedBy
sorted_writes [] rising = tt
sorted_writes (x ∷ xs) rising = (rising.0, sorted_writes xs rising.1)

module _ (writes : List Write) (rising : IsRising cell_of_write writes) where
  -- the writes before a place are below its write
  pub later_above : (i j : ℕ) (d : Write) → i < j → j < length writes → cell_cmp (cell_of_write (get_or writes j d)) (cell_of_write (get_or writes i d)) ≡ Greater
  later_above i j d lt within = cell_turned (cell_of_write (get_or writes i d)) (cell_of_write (get_or writes j d)) Less (Less-from_sorted by_cell writes i j d (sorted_writes writes rising) lt within)

  never_falls : IsSortedBy (λ a b. is_lt (cell_cmp (cell_of_write a) (cell_of_write b))) writes
  never_falls k d low high = ap is_lt (later_above k (k + 1) d (omega arith) high)

  -- what holds at each place before this one holds of the writes before it
  from_places : (P : Write → Type 0) (place : ℕ) → ((j : ℕ) (d : Write) → j < place → P (get_or writes j d)) → AllByRecursion P (take place writes)
  from_places P place each = recursion_from_All P (take place writes) (λ j d lt.
      let small : j < place = omega (arith, length-take place writes, lt) in
      rw (get_or-take place writes j d small) (each j d small))

  -- a search by key ends at the key's write, or at its gap
  pub searched : (cell : Cell) (r : Result ℕ ℕ) → IsSearchInRange r (length writes) → IsBinarySearchResult (λ write. cell_cmp (cell_of_write write) cell) writes r
      → record { found : IfOk r (IsFoundAt cell writes); absent : IfErr r (IsGapAt cell writes) }
  searched cell (Ok place) within tied =
      let here : (d : Write) → cell_of_write (get_or writes place d) ≡ cell = λ d. same_cells (cell_of_write (get_or writes place d)) cell (tied d) in
      record {
        found = record {
          within = within;
          below = from_places (λ write. cell_cmp cell (cell_of_write write) ≡ Greater) place (λ j d lt. subst (λ c. cell_cmp c (cell_of_write (get_or writes j d)) ≡ Greater) (here d) (later_above j place d lt within));
          here = λ d. cell_turned (cell_of_write (get_or writes place d)) cell Equal (tied d);
        };
        absent = tt;
      }
  searched cell (Err place) within parted =
      let parts = parted (searchable_from_sorted cell_total cell_of_write writes cell never_falls) in
      record {
        found = tt;
        absent = record {
          within = within;
          below = from_places (λ write. cell_cmp cell (cell_of_write write) ≡ Greater) place (λ j d lt. cell_turned (cell_of_write (get_or writes j d)) cell Less (parts.0 j d (omega arith) lt));
          above = recursion_from_All _ (drop place writes) (λ j d lt.
              rw (get_or-drop place writes j d) (cell_turned (cell_of_write (get_or writes (place + j) d)) cell Greater (parts.1 (place + j) d (omega arith) (omega (arith, length-drop place writes, lt)))));
        };
      }
