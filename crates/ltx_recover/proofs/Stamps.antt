-- Writes one after another: what stands at a key behind them is told by those of the key alone, so a sort that keeps these in order keeps the rows.
use Rattle.std.proofs.Common.{◌≡◌, ◌⊎◌, inl, inr, ℕ, suc, ◌+◌, ◌<◌, drop, Bool, true, false, cond, not, ◌&&◌, List, [], ◌∷◌, ◌++◌, length, get_or, map, Option, Some, None, refl, sym, ap, ◌∙◌, subst, arith}
use Rattle.std.proofs.lemmas.List.{drop_more}
use Rattle.std.specs.List.{AllByRecursion, filter}
use Rattle.std.specs.List.Sorted.{IsSortedBy, IsStableBy, ties}
use Rattle.std.specs.declared.cmp.Ordering.{Ordering}
use Rattle.std.specs.declared.cmp.Ordering.TheVariants.{Less, Equal, Greater}
use Rattle.std.specs.Ordering.{is_eq, is_lt}
use Rattle.ltx_model.specs.declared.rows.StoredRow.{StoredRow}
use Rattle.ltx_model.specs.declared.writes.Write.{Write}
use Rattle.ltx_model.specs.Keys.{Cell, cell_cmp, same_cell, put_in_order, IsRising}
use Rattle.ltx_model.specs.StoredRows.{cell_of, row_at}
use Rattle.ltx_model.specs.Rows.{without, rows_after_put, rows_after_writes}
use Rattle.ltx_model.specs.Played.{Played, PlayedSlot, PlayedCommit, rows_after_played}
use Rattle.ltx_model.proofs.CellOrder.{cell_total, cell_turned, same_cell_same}
use Rattle.ltx_model.proofs.Rising.{rising_put, rising_filter, same_items}
use Rattle.ltx_model.proofs.RowsAt.{row_at-put, row_at-without}
use Rattle.ltx_recover.specs.Stamps.{Stamped, stamped_by, stamped_all, cell_at, rows_with, rows_with_all, row_put, row_left, row_unless, AreInCellOrder, begins_at}

-- ---- the writes of the list's committed members

writes_stamped : (n : ℕ) (rows : List StoredRow) (ws : List Write) (ss : List Stamped) → rows_with_all rows (stamped_by n ws ++ ss) ≡ rows_with_all (rows_after_writes n rows ws) ss
writes_stamped n rows [] ss = refl
writes_stamped n rows (w ∷ ws) ss = writes_stamped n (rows_with rows (record { writer = n; write = w })) ws ss

pub played_stamped : (rows : List StoredRow) (ps : List Played) → rows_with_all rows (stamped_all ps) ≡ rows_after_played rows ps
played_stamped rows [] = refl
played_stamped rows (PlayedSlot n ∷ ps) = played_stamped rows ps
played_stamped rows (PlayedCommit n ws ∷ ps) = writes_stamped n rows ws (stamped_all ps) ∙ played_stamped (rows_after_writes n rows ws) ps

-- ---- what stands at a key

-- the row that a write leaves at its key
row_kept : ℕ → Cell → Option (List ℕ) → Option StoredRow
row_kept n cell None = None
row_kept n cell (Some value) = Some (record { table = cell.table; key = cell.key; value = value; writer = n })

row_of_stamp : Stamped → Option StoredRow
row_of_stamp s = row_kept s.writer (cell_at s) s.write.put

row_at-with : (rows : List StoredRow) (s : Stamped) (q : Cell) → row_at (rows_with rows s) q ≡ cond (same_cell (cell_at s) q) (row_of_stamp s) (row_at rows q)
unfolding row_of_stamp row_kept
row_at-with rows s q = by_put s.write.put where
  by_put : (put : Option (List ℕ)) → row_at (rows_after_put s.writer rows (cell_at s) put) q ≡ cond (same_cell (cell_at s) q) (row_kept s.writer (cell_at s) put) (row_at rows q)
  by_put None = row_at-without rows (cell_at s) q
  by_put (Some value) = row_at-put (record { table = s.write.table; key = s.write.key; value = value; writer = s.writer }) rows q

rising_with : (rows : List StoredRow) (s : Stamped) → IsRising cell_of rows → IsRising cell_of (rows_with rows s)
rising_with rows s rising = by_put s.write.put where
  by_put : (put : Option (List ℕ)) → IsRising cell_of (rows_after_put s.writer rows (cell_at s) put)
  by_put None = rising_filter cell_of (λ row. not (same_cell (cell_of row) (cell_at s))) rows rising
  by_put (Some value) = rising_put cell_of (record { table = s.write.table; key = s.write.key; value = value; writer = s.writer }) rows rising

pub rising_with_all : (rows : List StoredRow) (ss : List Stamped) → IsRising cell_of rows → IsRising cell_of (rows_with_all rows ss)
rising_with_all rows [] rising = rising
rising_with_all rows (s ∷ ss) rising = rising_with_all (rows_with rows s) ss (rising_with rows s rising)

-- what the last of these writes leaves
last_of : Option StoredRow → List Stamped → Option StoredRow
last_of o [] = o
last_of o (s ∷ ss) = last_of (row_of_stamp s) ss

is_at : Cell → Stamped → Bool
is_at q s = same_cell (cell_at s) q

row_at-with_all : (rows : List StoredRow) (ss : List Stamped) (q : Cell) → row_at (rows_with_all rows ss) q ≡ last_of (row_at rows q) (filter (is_at q) ss)
unfolding last_of is_at
row_at-with_all rows [] q = refl
row_at-with_all rows (s ∷ ss) q = row_at-with_all (rows_with rows s) ss q ∙ ap (λ o. last_of o (filter (is_at q) ss)) (row_at-with rows s q) ∙ by_test (same_cell (cell_at s) q) where
  by_test : (b : Bool) → last_of (cond b (row_of_stamp s) (row_at rows q)) (filter (is_at q) ss) ≡ last_of (row_at rows q) (cond b (s ∷ filter (is_at q) ss) (filter (is_at q) ss))
  by_test true = refl
  by_test false = refl

-- writes that are the same at each key leave the same rows
same_rows : (rows : List StoredRow) (ss ts : List Stamped) → IsRising cell_of rows → ((q : Cell) → filter (is_at q) ss ≡ filter (is_at q) ts) → rows_with_all rows ss ≡ rows_with_all rows ts
same_rows rows ss ts rising same = same_items cell_of _ _ (rising_with_all rows ss rising) (rising_with_all rows ts rising) (λ q. row_at-with_all rows ss q ∙ ap (last_of (row_at rows q)) (same q) ∙ sym (row_at-with_all rows ts q))

-- ---- a stable sort by key

-- one comes first, by the key that it writes
abbrev pub comes_first : {X : Type 0} → (X → Stamped) → X → X → Bool
comes_first view x y = is_lt (cell_cmp (cell_at (view x)) (cell_at (view y)))

module _ {X : Type 0} (view : X → Stamped) where
  ties_same : (x y : X) → ties (comes_first view) x y ≡ same_cell (cell_at (view y)) (cell_at (view x))
  ties_same x y = by_cmp (cell_cmp (cell_at (view x)) (cell_at (view y))) refl where
    by_cmp : (o : Ordering) → cell_cmp (cell_at (view x)) (cell_at (view y)) ≡ o
        → (not (is_lt (cell_cmp (cell_at (view x)) (cell_at (view y)))) && not (is_lt (cell_cmp (cell_at (view y)) (cell_at (view x))))) ≡ is_eq (cell_cmp (cell_at (view y)) (cell_at (view x)))
    by_cmp Less e = rw (e, cell_turned _ _ Less e) refl
    by_cmp Equal e = rw (e, cell_turned _ _ Equal e) refl
    by_cmp Greater e = rw (e, cell_turned _ _ Greater e) refl

  filter_map_at : (q : Cell) (xs : List X) → filter (is_at q) (map view xs) ≡ map view (filter (λ x. is_at q (view x)) xs)
  filter_map_at q [] = refl
  filter_map_at q (x ∷ xs) = by_test (is_at q (view x)) (filter_map_at q xs) where
    by_test : (b : Bool) → filter (is_at q) (map view xs) ≡ map view (filter (λ x. is_at q (view x)) xs)
        → cond b (view x ∷ filter (is_at q) (map view xs)) (filter (is_at q) (map view xs)) ≡ map view (cond b (x ∷ filter (λ x. is_at q (view x)) xs) (filter (λ x. is_at q (view x)) xs))
    by_test true rest = ap (λ l. view x ∷ l) rest
    by_test false rest = rest

  filter_same : (p q : X → Bool) (xs : List X) → ((x : X) → p x ≡ q x) → filter p xs ≡ filter q xs
  filter_same p q [] same = refl
  filter_same p q (x ∷ xs) same = λ i. cond (same x i) (x ∷ filter_same p q xs same i) (filter_same p q xs same i)

  -- some item passes the test, or none does
  some_or_none : (p : X → Bool) (xs : List X) → ((x : X) × (p x ≡ true)) ⊎ (filter p xs ≡ [])
  some_or_none p [] = inr refl
  some_or_none p (x ∷ xs) = by_test (p x) refl (some_or_none p xs) where
    by_test : (b : Bool) → p x ≡ b → ((x : X) × (p x ≡ true)) ⊎ (filter p xs ≡ []) → ((x : X) × (p x ≡ true)) ⊎ (cond b (x ∷ filter p xs) (filter p xs) ≡ [])
    by_test true e rest = inl (x, e)
    by_test false e rest = rest

  module _ (xs ys : List X) (stable : IsStableBy (comes_first view) xs ys) where
    of_some : (q : Cell) (x : X) → is_at q (view x) ≡ true → filter (λ x. is_at q (view x)) ys ≡ filter (λ x. is_at q (view x)) xs
    unfolding is_at
    of_some q x here =
        let cell = same_cell_same (cell_at (view x)) q here in
        let tied : (y : X) → is_at q (view y) ≡ ties (comes_first view) x y = λ y. ap (same_cell (cell_at (view y))) (sym cell) ∙ sym (ties_same x y) in
        filter_same _ _ ys tied ∙ stable x ∙ sym (filter_same _ _ xs tied)

    same_at : (q : Cell) → filter (λ x. is_at q (view x)) ys ≡ filter (λ x. is_at q (view x)) xs
    same_at q = by_case (some_or_none (λ x. is_at q (view x)) xs) (some_or_none (λ x. is_at q (view x)) ys) where
      by_case : ((x : X) × (is_at q (view x) ≡ true)) ⊎ (filter (λ x. is_at q (view x)) xs ≡ []) → ((x : X) × (is_at q (view x) ≡ true)) ⊎ (filter (λ x. is_at q (view x)) ys ≡ [])
          → filter (λ x. is_at q (view x)) ys ≡ filter (λ x. is_at q (view x)) xs
      by_case (inl found) other = of_some q found.0 found.1
      by_case (inr none) (inl found) = of_some q found.0 found.1
      by_case (inr none) (inr nor) = nor ∙ sym none

    pub sorted_rows : rows_with_all [] (map view ys) ≡ rows_with_all [] (map view xs)
    sorted_rows = same_rows [] (map view ys) (map view xs) tt (λ q. filter_map_at q ys ∙ ap (map view) (same_at q) ∙ sym (filter_map_at q xs))

  pub in_cell_order : (xs : List X) → IsSortedBy (comes_first view) xs → AreInCellOrder (map view xs)
  in_cell_order [] sorted = tt
  in_cell_order (x ∷ []) sorted = tt
  in_cell_order (x ∷ (y ∷ xs)) sorted = (sorted 0 x (omega arith) (omega arith), in_cell_order (y ∷ xs) (λ k d low high. later k d (sorted (suc k) d (omega arith) (omega arith)))) where
    later : (k : ℕ) (d : X) → is_lt (cell_cmp (cell_at (view (get_or (x ∷ (y ∷ xs)) (suc k + 1) d))) (cell_at (view (get_or (x ∷ (y ∷ xs)) (suc k) d)))) ≡ false
        → is_lt (cell_cmp (cell_at (view (get_or (y ∷ xs) (k + 1) d))) (cell_at (view (get_or (y ∷ xs) k d)))) ≡ false
    later k d h = let next : suc k + 1 ≡ suc (k + 1) = omega arith in subst (λ i. is_lt (cell_cmp (cell_at (view (get_or (x ∷ (y ∷ xs)) i d))) (cell_at (view (get_or (x ∷ (y ∷ xs)) (suc k) d)))) ≡ false) next h

-- ---- one pass along writes in the order of their keys

-- all rows are below this cell
abbrev pub AreRowsBelow : Cell → List StoredRow → Type 0
AreRowsBelow c rows = AllByRecursion (λ row. cell_cmp (cell_of row) c ≡ Less) rows

-- they are below the first of these writes
abbrev pub AreRowsBefore : List Stamped → List StoredRow → Type 0
AreRowsBefore [] rows = Unit {0}
AreRowsBefore (s ∷ ss) rows = AreRowsBelow (cell_at s) rows

put_behind : (x : StoredRow) (rows : List StoredRow) → AreRowsBelow (cell_of x) rows → put_in_order cell_of x rows ≡ rows ++ x ∷ []
put_behind x [] less = refl
put_behind x (y ∷ ys) less = rw (cell_turned (cell_of y) (cell_of x) Less less.0) (ap (λ l. y ∷ l) (put_behind x ys less.1))

without_behind : (c : Cell) (rows : List StoredRow) → AreRowsBelow c rows → without rows c ≡ rows
without_behind c [] less = refl
without_behind c (y ∷ ys) less = rw less.0 (ap (λ l. y ∷ l) (without_behind c ys less.1))

append_none : (rows : List StoredRow) → rows ++ [] ≡ rows
append_none [] = refl
append_none (y ∷ ys) = ap (λ l. y ∷ l) (append_none ys)

with_behind : (rows : List StoredRow) (s : Stamped) → AreRowsBelow (cell_at s) rows → rows_with rows s ≡ rows ++ row_left s
with_behind rows s less = by_put s.write.put where
  by_put : (put : Option (List ℕ)) → rows_after_put s.writer rows (cell_at s) put ≡ rows ++ row_put s.writer (cell_at s) put
  by_put None = without_behind (cell_at s) rows less ∙ sym (append_none rows)
  by_put (Some value) = put_behind (record { table = s.write.table; key = s.write.key; value = value; writer = s.writer }) rows less

-- a write of the same key hides the one before
with_again : (rows : List StoredRow) (s t : Stamped) → IsRising cell_of rows → cell_at t ≡ cell_at s → rows_with (rows_with rows s) t ≡ rows_with rows t
with_again rows s t rising same = same_items cell_of _ _ (rising_with _ t (rising_with rows s rising)) (rising_with rows t rising) (λ q. row_at-with (rows_with rows s) t q ∙ at q ∙ sym (row_at-with rows t q)) where
  by_test : (q : Cell) (b : Bool) → same_cell (cell_at t) q ≡ b → cond b (row_of_stamp t) (row_at (rows_with rows s) q) ≡ cond b (row_of_stamp t) (row_at rows q)
  by_test q true e = refl
  by_test q false e = row_at-with rows s q ∙ ap (λ b. cond b (row_of_stamp s) (row_at rows q)) (ap (λ c. same_cell c q) (sym same) ∙ e)

  at : (q : Cell) → cond (same_cell (cell_at t) q) (row_of_stamp t) (row_at (rows_with rows s) q) ≡ cond (same_cell (cell_at t) q) (row_of_stamp t) (row_at rows q)
  at q = by_test q (same_cell (cell_at t) q) refl

-- Some writes gave these rows, which are below all that is still to come.
pub record IsPass (all : List Stamped) (rows : List StoredRow) (rest : List Stamped) : Type 0 where
  pub whole : rows_with_all rows rest ≡ rows_with_all [] all
  pub rising : IsRising cell_of rows
  pub sorted : AreInCellOrder rest
  pub before : AreRowsBefore rest rows

pub pass_starts : (all : List Stamped) → AreInCellOrder all → IsPass all [] all
pass_starts all sorted = record { whole = refl; rising = tt; sorted = sorted; before = none all } where
  none : (ss : List Stamped) → AreRowsBefore ss []
  none [] = tt
  none (s ∷ ss) = tt

below_append : (c : Cell) (xs ys : List StoredRow) → AreRowsBelow c xs → AreRowsBelow c ys → AreRowsBelow c (xs ++ ys)
below_append c [] ys first second = second
below_append c (x ∷ xs) ys first second = (first.0, below_append c xs ys first.1 second)

below_later : (c d : Cell) (xs : List StoredRow) → cell_cmp c d ≡ Less → AreRowsBelow c xs → AreRowsBelow d xs
below_later c d [] less before = tt
below_later c d (x ∷ xs) less before = (cell_total.trans (cell_of x) c d before.0 less, below_later c d xs less before.1)

left_below : (d : Cell) (s : Stamped) → cell_cmp (cell_at s) d ≡ Less → AreRowsBelow d (row_left s)
left_below d s less = by_put s.write.put where
  by_put : (put : Option (List ℕ)) → AreRowsBelow d (row_put s.writer (cell_at s) put)
  by_put None = tt
  by_put (Some value) = (less, tt)

less_from : (a b : Cell) → is_lt (cell_cmp b a) ≡ false → same_cell b a ≡ false → cell_cmp a b ≡ Less
less_from a b up apart = by_cmp (cell_cmp b a) refl up apart where
  by_cmp : (o : Ordering) → cell_cmp b a ≡ o → is_lt o ≡ false → is_eq o ≡ false → cell_cmp a b ≡ Less
  by_cmp Less e f g = cc
  by_cmp Equal e f g = cc
  by_cmp Greater e f g = cell_turned b a Greater e

pub pass_step : (all : List Stamped) (rows new : List StoredRow) (s : Stamped) (ss : List Stamped) → IsPass all rows (s ∷ ss) → new ≡ rows ++ row_unless (begins_at (cell_at s) ss) s → IsPass all new ss
pass_step all rows new s [] pass is =
    let same : rows_with rows s ≡ new = with_behind rows s pass.before ∙ sym is in
    record { whole = sym same ∙ pass.whole; rising = subst (IsRising cell_of) same (rising_with rows s pass.rising); sorted = tt; before = tt }
pass_step all rows new s (t ∷ ts) pass is = by_test (same_cell (cell_at t) (cell_at s)) refl is where
  by_test : (b : Bool) → same_cell (cell_at t) (cell_at s) ≡ b → new ≡ rows ++ row_unless b s → IsPass all new (t ∷ ts)
  by_test true e is =
      let one : cell_at t ≡ cell_at s = same_cell_same (cell_at t) (cell_at s) e in
      let same : rows ≡ new = sym (is ∙ append_none rows) in
      subst (λ l. IsPass all l (t ∷ ts)) same (record {
        whole = ap (λ l. rows_with_all l ts) (sym (with_again rows s t pass.rising one)) ∙ pass.whole;
        rising = pass.rising;
        sorted = pass.sorted.1;
        before = subst (λ c. AreRowsBelow c rows) (sym one) pass.before;
      })
  by_test false e is =
      let same : rows_with rows s ≡ new = with_behind rows s pass.before ∙ sym is in
      let less : cell_cmp (cell_at s) (cell_at t) ≡ Less = less_from (cell_at s) (cell_at t) pass.sorted.0 e in
      record {
        whole = ap (λ l. rows_with_all l (t ∷ ts)) (sym same) ∙ pass.whole;
        rising = subst (IsRising cell_of) same (rising_with rows s pass.rising);
        sorted = pass.sorted.1;
        before = subst (AreRowsBelow (cell_at t)) (sym is) (below_append (cell_at t) rows (row_left s) (below_later (cell_at s) (cell_at t) rows less pass.before) (left_below (cell_at t) s less));
      }

pub pass_on : {X : Type 0} (view : X → Stamped) (all : List Stamped) (rows new : List StoredRow) (xs : List X) (i : ℕ) (x : X) → i < length xs → x ≡ get_or xs i x → IsPass all rows (map view (drop i xs))
    → new ≡ rows ++ row_unless (begins_at (cell_at (view x)) (map view (drop (i + 1) xs))) (view x) → IsPass all new (map view (drop (i + 1) xs))
pass_on view all rows new xs i x within is pass left =
    let next : drop i xs ≡ x ∷ drop (i + 1) xs = drop_more xs i x within ∙ ap (λ y. y ∷ drop (i + 1) xs) (sym is) in
    pass_step all rows new (view x) (map view (drop (i + 1) xs)) (subst (λ l. IsPass all rows (map view l)) next pass) left
