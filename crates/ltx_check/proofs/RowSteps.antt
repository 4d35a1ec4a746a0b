-- The tables of a replay: what each operation gets and leaves.
use Rattle.std.proofs.Common.{◌≡◌, ◌<◌, ◌+◌, ℕ, zero, suc, Bool, true, false, ◌==◌, List, [], ◌∷◌, ◌++◌, map, length, get_or, set, take, drop, Option, Some, None, option_map, Result, Ok, Err, refl, sym, ap, subst, ◌∙◌, arith, append_assoc, append-nil, length-drop, drop-cons}
use Rattle.std.specs.Prelude.{is_none, IfSome, IfNone}
use Rattle.std.specs.Result.{OnOk}
use Rattle.std.specs.List.{AllByRecursion}
use Rattle.std.specs.Ordering.{is_eq}
use Rattle.std.proofs.lemmas.Bool.{eqb-true, eqb-false}
use Rattle.std.proofs.lemmas.List.{get_or-set_same, get_or-set_other, append_cancel_left, take-append-drop}
use Rattle.ltx_model.specs.declared.memory.NoMemory.{NoMemory}
use Rattle.ltx_model.specs.declared.commands.Op.TheVariants.{Get, Scan, Put, Del}
use Rattle.ltx_model.specs.declared.replies.Reply.TheVariants as replies
use Rattle.ltx_model.specs.declared.rows.Row.{Row}
use Rattle.ltx_model.specs.declared.rows.StoredRow.{StoredRow}
use Rattle.ltx_model.specs.Keys.{key_cmp}
use Rattle.ltx_model.specs.StoredRows.{cell_of, row_at}
use Rattle.ltx_model.specs.Rows.{found, reply_on, rows_after}
use Rattle.ltx_model.proofs.KeyOrder.{key_itself, same_keys}
use Rattle.ltx_model.proofs.Orderings.{is_equal}
use Rattle.ltx_model.proofs.Rising.{rising_put, rising_filter}
use Rattle.ltx_index.specs.Pairs.{IsInOrder, value_at, with_pair, without_key, pairs_from}
use Rattle.ltx_check.specs.Tables.{Pairs, AreRows, pairs_in, found_value, row_of_pair, rows_between_pairs, under}
use Rattle.ltx_check.proofs.RowPairs.{value_in, rows_in, pairs_put, pairs_put_other, pairs_without, pairs_without_other}
use Rattle.ltx_index.proofs.Lookups.{in_order-pairs_from}
use Rattle.ltx_check.proofs.Ranges.{range_is}
use Rattle.ltx_check.proofs.Placed.{take_more}

-- ---- bytes

pub same_yes : (a b : List ℕ) (r : Bool) → r ≡ is_eq (key_cmp a b) → r ≡ true → a ≡ b
same_yes a b r is so = same_keys a b (is_equal (key_cmp a b) (sym is ∙ so))

pub same_no : (a b : List ℕ) (r : Bool) → r ≡ is_eq (key_cmp a b) → r ≡ false → a ≡ b → ⊥
same_no a b r is other same =
    let so : is_eq (key_cmp a b) ≡ true = ap is_eq (sym (ap (key_cmp a) same) ∙ key_itself a) in
    let e : true ≡ false = sym so ∙ sym is ∙ other in cc

-- ---- tables

any_default : (ts : List Pairs) (i : ℕ) (p q : Pairs) → i < length ts → get_or ts i p ≡ get_or ts i q
any_default [] i p q low = absurd (omega (arith, low))
any_default (t ∷ ts) zero p q low = refl
any_default (t ∷ ts) (suc i) p q low = any_default ts i p q (omega (arith, low))

-- the place of a table
pub record IsTable (held ts : List Pairs) (i n : ℕ) (pairs : Pairs) : Type 0 where
  pub all : length ts ≡ 64
  pub same : ts ≡ held
  pub at : i ≡ n
  pub low : n < 64
  pub is : pairs ≡ get_or ts i pairs

module _ {held ts : List Pairs} {i n : ℕ} {pairs : Pairs} (p : IsTable held ts i n pairs) where
  in_range : i < length ts
  in_range = omega (arith, p.all, p.at, p.low)

  pub table_is : (rows : List StoredRow) → AreRows held rows → pairs ≡ pairs_in n rows
  table_is rows are =
      let first : get_or ts i [] ≡ get_or held n [] = λ k. get_or (p.same k) (p.at k) [] in
      p.is ∙ any_default ts i pairs [] in_range ∙ first ∙ are.each n p.low

  module _ (new : Pairs) (after : List StoredRow) (rows : List StoredRow) (are : AreRows held rows) where
    set_each : new ≡ pairs_in n after → ((t : ℕ) → (n ≡ t → ⊥) → pairs_in t after ≡ pairs_in t rows) → (t : ℕ) → t < 64 → get_or (set ts i new) t [] ≡ pairs_in t after
    set_each here others t low = by (n == t) refl where
      by : (b : Bool) → (n == t) ≡ b → get_or (set ts i new) t [] ≡ pairs_in t after
      by true is =
          let same : n ≡ t = eqb-true n t is in
          ap (λ k. get_or (set ts i new) k []) (sym (p.at ∙ same)) ∙ get_or-set_same ts i new [] in_range ∙ here ∙ ap (λ k. pairs_in k after) same
      by false is =
          let apart : n ≡ t → ⊥ = eqb-false n t is in
          get_or-set_other ts i t new [] (λ e. apart (sym (e ∙ p.at))) ∙ ap (λ l. get_or l t []) p.same ∙ are.each t low ∙ sym (others t apart)

  pub put_rows : (r : Result (Unit {0}) NoMemory) (key value : List ℕ) (new : Pairs) → OnOk r (new ≡ with_pair pairs key value)
      → OnOk r ((tx : ℕ) (rows : List StoredRow) → AreRows held rows → AreRows (set ts i new) (rows_after tx rows (Put n key value)))
  put_rows (Err e) key value new is = tt
  put_rows (Ok u) key value new is = λ tx rows are.
      let row : StoredRow = record { table = n; key = key; value = value; writer = tx } in
      record {
        rising = rising_put cell_of row rows are.rising;
        each = set_each new (rows_after tx rows (Put n key value)) rows are
            (is ∙ ap (λ l. with_pair l key value) (table_is rows are) ∙ sym (pairs_put row rows are.rising))
            (λ t apart. pairs_put_other row rows t apart);
      }

  pub delete_rows : (key : List ℕ) (new : Pairs) → new ≡ without_key pairs key → (tx : ℕ) (rows : List StoredRow) → AreRows held rows → AreRows (set ts i new) (rows_after tx rows (Del n key))
  delete_rows key new is tx rows are = record {
    rising = rising_filter cell_of _ rows are.rising;
    each = set_each new (rows_after tx rows (Del n key)) rows are
        (is ∙ ap (λ l. without_key l key) (table_is rows are) ∙ sym (pairs_without rows n key are.rising))
        (λ t apart. pairs_without_other rows (record { table = n; key = key }) t apart);
  }

-- ---- replies

found_same : (o : Option StoredRow) → found o ≡ found_value (option_map (λ r. r.value) o)
found_same None = refl
found_same (Some row) = refl

pub get_reply : (rows : List StoredRow) (table : ℕ) (key : List ℕ) (pairs : Pairs) → pairs ≡ pairs_in table rows → reply_on rows (Get table key) ≡ found_value (value_at pairs key)
get_reply rows table key pairs is = found_same (row_at rows (record { table = table; key = key })) ∙ ap found_value (value_in rows table key) ∙ ap (λ l. found_value (value_at l key)) (sym is)

pub scan_reply : (rows : List StoredRow) (table : ℕ) (low high : List ℕ) (pairs : Pairs) → pairs ≡ pairs_in table rows → reply_on rows (Scan table low high) ≡ replies.Rows (rows_between_pairs low high pairs)
scan_reply rows table low high pairs is = ap replies.Rows (rows_in rows table low high ∙ ap (rows_between_pairs low high) (sym is))

-- ---- no rows

pub empty_push : (ts : List Pairs) (p : Pairs) → AllByRecursion (λ pairs. pairs ≡ []) ts → p ≡ [] → AllByRecursion (λ pairs. pairs ≡ []) (ts ++ p ∷ [])
empty_push [] p all none = (none, tt)
empty_push (t ∷ ts) p all none = (all.0, empty_push ts p all.1 none)

none_at : (ts : List Pairs) → AllByRecursion (λ pairs. pairs ≡ []) ts → (t : ℕ) → get_or ts t [] ≡ []
none_at [] all t = refl
none_at (p ∷ ts) all zero = all.0
none_at (p ∷ ts) all (suc t) = none_at ts all.1 t

pub no_rows : (ts : List Pairs) → AllByRecursion (λ pairs. pairs ≡ []) ts → AreRows ts []
no_rows ts all = record { rising = tt; each = λ t low. none_at ts all t }

-- ---- rows of a scan, one after another

-- these rows were met, and this is left of the walk
pub record Walked (low high : List ℕ) (table left : Pairs) (rows : List Row) (i : ℕ) : Type 0 where
  pub order : IsInOrder left
  pub met : rows_between_pairs low high table ≡ take i rows ++ map row_of_pair (under high left)

pub walk_start : (low high : List ℕ) (table left : Pairs) (rows : List Row) → left ≡ pairs_from table low false → IsInOrder table → Walked low high table left rows 0
walk_start low high table left rows is order = subst (λ (l : Pairs). Walked low high table l rows 0) (sym is) (record {
  order = in_order-pairs_from low false table order;
  met = ap (map row_of_pair) (sym (range_is high low table));
})

module _ {low high : List ℕ} {table left : Pairs} {rows : List Row} {i : ℕ} (w : Walked low high table left rows i) where
  rest_is : rows_between_pairs low high table ≡ rows → map row_of_pair (under high left) ≡ drop i rows
  rest_is same = append_cancel_left (take i rows) (map row_of_pair (under high left)) (drop i rows) (sym w.met ∙ same ∙ sym (take-append-drop i rows))

  module _ (row : Row) (low_i : i < length rows) (is : row ≡ get_or rows i row) where
    pub walk_more : (p : List ℕ × List ℕ) (new : Pairs) → (IsInOrder left → under high left ≡ p ∷ under high new) → (IsInOrder left → IsInOrder new) → row_of_pair p ≡ row → Walked low high table new rows (i + 1)
    walk_more p new some order same = record {
      order = order w.order;
      met = w.met ∙ ap (λ l. take i rows ++ map row_of_pair l) (some w.order) ∙ ap (λ r. take i rows ++ r ∷ map row_of_pair (under high new)) same
          ∙ sym (append_assoc (take i rows) (row ∷ []) (map row_of_pair (under high new))) ∙ ap (λ l. l ++ map row_of_pair (under high new)) (sym (take_more rows i row low_i is));
    }

    pub walk_other : (p : List ℕ × List ℕ) (new : Pairs) → (IsInOrder left → under high left ≡ p ∷ under high new) → (row_of_pair p ≡ row → ⊥) → rows_between_pairs low high table ≡ rows → ⊥
    walk_other p new some other same =
        let rest : row_of_pair p ∷ map row_of_pair (under high new) ≡ row ∷ drop (suc i) rows =
        sym (ap (map row_of_pair) (some w.order)) ∙ rest_is same ∙ drop-cons rows i row low_i ∙ ap (λ r. r ∷ drop (suc i) rows) (sym is) in
        let heads : row_of_pair p ≡ row = cc in
        other heads

  pub walk_short : i < length rows → (IsInOrder left → under high left ≡ []) → rows_between_pairs low high table ≡ rows → ⊥
  walk_short low_i none same =
      let rest : [] ≡ drop i rows = sym (ap (map row_of_pair) (none w.order)) ∙ rest_is same in
      let long : 0 ≡ length (drop i rows) = ap length rest in
      omega (arith, long, length-drop i rows, low_i)

  module _ {X : Type 0} (pair : X → List ℕ × List ℕ) (new : Pairs) where
    pub walk_yes : (o : Option X) (r : Bool) → take i rows ≡ rows → r ≡ is_none o → IfNone o (IsInOrder left → under high left ≡ []) → r ≡ true → rows_between_pairs low high table ≡ rows
    walk_yes None r all is none so = w.met ∙ ap (λ l. take i rows ++ map row_of_pair l) (none w.order) ∙ append-nil (take i rows) ∙ all
    walk_yes (Some x) r all is none so = let e : true ≡ false = sym so ∙ is in cc

    pub walk_no : (o : Option X) (r : Bool) → take i rows ≡ rows → r ≡ is_none o → IfSome o (λ x. IsInOrder left → under high left ≡ pair x ∷ under high new) → r ≡ false → rows_between_pairs low high table ≡ rows → ⊥
    walk_no None r all is some so same = let e : true ≡ false = sym is ∙ so in cc
    walk_no (Some x) r all is some so same =
        let rest : row_of_pair (pair x) ∷ map row_of_pair (under high new) ≡ [] =
        sym (ap (map row_of_pair) (some w.order)) ∙ append_cancel_left (take i rows) (map row_of_pair (under high left)) [] (sym w.met ∙ same ∙ sym all ∙ sym (append-nil (take i rows))) in
        cc
