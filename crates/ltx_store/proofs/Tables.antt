-- The keys of all tables as one list.
use Rattle.std.proofs.Common.{◌≡◌, ℕ, zero, suc, ◌+◌, ◌<◌, Bool, true, false, cond, List, [], ◌∷◌, ◌++◌, length, Some, option_map, refl, sym, ap, ◌∙◌, arith, slice_set, get_or}
use Rattle.std.specs.List.{AllByRecursion}
use Rattle.std.specs.List.Sorted.{IsStrictlySortedBy}
use Rattle.std.specs.Map.{keys_of, lookup}
use Rattle.std.specs.BTreeMap.{insert_entry, is_at}
use Rattle.std.specs.declared.cmp.Ordering.{Ordering}
use Rattle.std.specs.declared.cmp.Ordering.TheVariants.{Less, Equal, Greater}
use Rattle.std.specs.Ordering.{is_eq, nat_cmp, match_ordering}
use Rattle.std.specs.Cmp.{nat_cmp_total, tied_itself, eq_by_cmp_equiv}
use Rattle.std.specs.Cmp.Lexicographic.{nat_list_cmp_total}
use Rattle.std.specs.FinMap.{nat_cmp-IsAntisymmetric, slice_cmp-IsAntisymmetric}
use Rattle.std.proofs.lemmas.Bool.Decides.{nat_tests}
use Rattle.ltx_model.specs.Keys.{Cell, key_cmp, cell_cmp, same_cell, put_in_order, put_at, AreAbove, IsRising}
use Rattle.ltx_chain.specs.Versions.{Versions}
use Rattle.ltx_store.specs.Kept.{Kept, cell_of_kept, kept_at, chain_at, of_table, of_tables}
use Rattle.ltx_model.proofs.Rising.{put_above, item_at-above}
use Rattle.ltx_model.proofs.CellOrder.{cell_turned}

-- the pairs of a table
abbrev Pairs : Type 0
Pairs = List (List ℕ × Versions)

-- two numbers in order
lesser : (m n : ℕ) → m < n → nat_cmp m n ≡ Less
lesser m n less = grind (arith, nat_tests)

greater : (m n : ℕ) → n < m → nat_cmp m n ≡ Greater
greater m n less = grind (arith, nat_tests)

level : (n : ℕ) → nat_cmp n n ≡ Equal
level n = tied_itself nat_cmp_total n

-- what a table of a higher number keeps is above a cell, and what one of a lower number keeps below it
table_above : (c : Cell) (t : ℕ) (pairs : Pairs) → c.table < t → AreAbove cell_of_kept c (of_table t pairs)
table_above c t [] less = tt
table_above c t (p ∷ ps) less = (rw (lesser c.table t less) refl, table_above c t ps less)

abbrev AreUnder : Cell → List Kept → Type 0
AreUnder c kept = AllByRecursion (λ e. cell_cmp c (cell_of_kept e) ≡ Greater) kept

table_under : (c : Cell) (t : ℕ) (pairs : Pairs) → t < c.table → AreUnder c (of_table t pairs)
table_under c t [] less = tt
table_under c t (p ∷ ps) less = (rw (greater c.table t less) refl, table_under c t ps less)

above_append : (c : Cell) (xs ys : List Kept) → AreAbove cell_of_kept c xs → AreAbove cell_of_kept c ys → AreAbove cell_of_kept c (xs ++ ys)
above_append c [] ys a b = b
above_append c (x ∷ xs) ys a b = (a.0, above_append c xs ys a.1 b)

tables_above : (c : Cell) (t : ℕ) (ts : List Pairs) → c.table < t → AreAbove cell_of_kept c (of_tables t ts)
tables_above c t [] less = tt
tables_above c t (pairs ∷ ts) less = above_append c (of_table t pairs) (of_tables (t + 1) ts) (table_above c t pairs less) (tables_above c (t + 1) ts (omega arith))

-- a key in a list of two parts
find_append_above : (c : Cell) (xs ys : List Kept) → AreAbove cell_of_kept c ys → chain_at (xs ++ ys) c ≡ chain_at xs c
find_append_above c [] ys all = ap (option_map (λ e. e.versions)) (item_at-above cell_of_kept c ys all)
find_append_above c (x ∷ xs) ys all = by_test (same_cell (cell_of_kept x) c) (find_append_above c xs ys all) where
  by_test : (b : Bool) → chain_at (xs ++ ys) c ≡ chain_at xs c → option_map (λ (e : Kept). e.versions) (cond b (Some x) (kept_at (xs ++ ys) c)) ≡ option_map (λ (e : Kept). e.versions) (cond b (Some x) (kept_at xs c))
  by_test true rest = refl
  by_test false rest = rest

find_append_under : (c : Cell) (xs ys : List Kept) → AreUnder c xs → chain_at (xs ++ ys) c ≡ chain_at ys c
find_append_under c [] ys all = refl
find_append_under c (x ∷ xs) ys all = rw (cell_turned c (cell_of_kept x) Greater all.0) (find_append_under c xs ys all.1)

-- a key of a table
chain_in_table : (t : ℕ) (key : List ℕ) (pairs : Pairs) → chain_at (of_table t pairs) (record { table = t; key = key }) ≡ lookup (is_at (key_cmp key)) pairs
chain_in_table t key [] = refl
chain_in_table t key (p ∷ ps) = rw (level t, (eq_by_cmp_equiv nat_list_cmp_total).symm p.0 key) (by_test (is_eq (key_cmp key p.0)) (chain_in_table t key ps)) where
  by_test : (b : Bool) → chain_at (of_table t ps) (record { table = t; key = key }) ≡ lookup (is_at (key_cmp key)) ps
      → option_map (λ (e : Kept). e.versions) (cond b (Some (record { table = t; key = p.0; versions = p.1 })) (kept_at (of_table t ps) (record { table = t; key = key }))) ≡ cond b (Some p.1) (lookup (is_at (key_cmp key)) ps)
  by_test true rest = refl
  by_test false rest = rest

-- the versions of a key are those of its table's pair
pub chain_at-of_tables : (t i n : ℕ) (key : List ℕ) (ts : List Pairs) (pairs : Pairs) → n ≡ t + i → i < length ts → pairs ≡ get_or ts i pairs
    → chain_at (of_tables t ts) (record { table = n; key = key }) ≡ lookup (is_at (key_cmp key)) pairs
chain_at-of_tables t i n key [] pairs at in_range is = absurd (omega arith)
chain_at-of_tables t zero n key (ps ∷ ts) pairs at in_range is =
    let same : n ≡ t = omega arith in
    find_append_above (record { table = n; key = key }) (of_table t ps) (of_tables (t + 1) ts) (tables_above (record { table = n; key = key }) (t + 1) ts (omega arith))
    ∙ ap (λ m. chain_at (of_table t ps) (record { table = m; key = key })) same ∙ chain_in_table t key ps ∙ ap (lookup (is_at (key_cmp key))) (sym is)
chain_at-of_tables t (suc i) n key (ps ∷ ts) pairs at in_range is =
    find_append_under (record { table = n; key = key }) (of_table t ps) (of_tables (t + 1) ts) (table_under (record { table = n; key = key }) t ps (omega arith))
    ∙ chain_at-of_tables (t + 1) i n key ts pairs (omega arith) (omega arith) is

-- a key in its place in a list of two parts
put_append_above : (e : Kept) (xs ys : List Kept) → AreAbove cell_of_kept (cell_of_kept e) ys → put_in_order cell_of_kept e (xs ++ ys) ≡ put_in_order cell_of_kept e xs ++ ys
put_append_above e [] ys all = put_above cell_of_kept e ys all
put_append_above e (x ∷ xs) ys all = by_cmp (cell_cmp (cell_of_kept e) (cell_of_kept x)) (put_append_above e xs ys all) where
  by_cmp : (o : Ordering) → put_in_order cell_of_kept e (xs ++ ys) ≡ put_in_order cell_of_kept e xs ++ ys
      → put_at o e x (xs ++ ys) (put_in_order cell_of_kept e (xs ++ ys)) ≡ put_at o e x xs (put_in_order cell_of_kept e xs) ++ ys
  by_cmp Less rest = refl
  by_cmp Equal rest = refl
  by_cmp Greater rest = ap (λ l. x ∷ l) rest

put_append_under : (e : Kept) (xs ys : List Kept) → AreUnder (cell_of_kept e) xs → put_in_order cell_of_kept e (xs ++ ys) ≡ xs ++ put_in_order cell_of_kept e ys
put_append_under e [] ys all = refl
put_append_under e (x ∷ xs) ys all = rw all.0 (ap (λ l. x ∷ l) (put_append_under e xs ys all.1))

-- a key in its place in its table
put_in_table : (t : ℕ) (key : List ℕ) (v : Versions) (pairs : Pairs) → put_in_order cell_of_kept (record { table = t; key = key; versions = v }) (of_table t pairs) ≡ of_table t (insert_entry key_cmp pairs key v)
put_in_table t key v [] = refl
put_in_table t key v (p ∷ ps) = rw (level t) (by_cmp (key_cmp key p.0) refl (put_in_table t key v ps)) where
  e : Kept
  e = record { table = t; key = key; versions = v }

  y : Kept
  y = record { table = t; key = p.0; versions = p.1 }

  by_cmp : (o : Ordering) → key_cmp key p.0 ≡ o → put_in_order cell_of_kept e (of_table t ps) ≡ of_table t (insert_entry key_cmp ps key v)
      → put_at o e y (of_table t ps) (put_in_order cell_of_kept e (of_table t ps)) ≡ of_table t (match_ordering o ((key, v) ∷ p ∷ ps) ((p.0, v) ∷ ps) (p ∷ insert_entry key_cmp ps key v))
  by_cmp Less is rest = refl
  by_cmp Equal is rest = ap (λ k. let f : Kept = record { table = t; key = k; versions = v } in f ∷ of_table t ps) (slice_cmp-IsAntisymmetric nat_cmp-IsAntisymmetric key p.0 is)
  by_cmp Greater is rest = ap (λ l. y ∷ l) rest

-- a table with a key in its place
pub put-of_tables : (t i n : ℕ) (key : List ℕ) (v : Versions) (ts : List Pairs) (pairs : Pairs) → n ≡ t + i → i < length ts → pairs ≡ get_or ts i pairs
    → of_tables t (slice_set ts i (insert_entry key_cmp pairs key v)) ≡ put_in_order cell_of_kept (record { table = n; key = key; versions = v }) (of_tables t ts)
put-of_tables t i n key v [] pairs at in_range is = absurd (omega arith)
put-of_tables t zero n key v (ps ∷ ts) pairs at in_range is =
    let e : Kept = record { table = n; key = key; versions = v } in
    let same : t ≡ n = omega arith in
    ap (λ l. of_table t (insert_entry key_cmp l key v) ++ of_tables (t + 1) ts) is
    ∙ ap (λ l. l ++ of_tables (t + 1) ts) (sym (put_in_table t key v ps))
    ∙ ap (λ m. put_in_order cell_of_kept (record { table = m; key = key; versions = v }) (of_table t ps) ++ of_tables (t + 1) ts) same
    ∙ sym (put_append_above e (of_table t ps) (of_tables (t + 1) ts) (tables_above (cell_of_kept e) (t + 1) ts (omega arith)))
put-of_tables t (suc i) n key v (ps ∷ ts) pairs at in_range is =
    let e : Kept = record { table = n; key = key; versions = v } in
    ap (λ l. of_table t ps ++ l) (put-of_tables (t + 1) i n key v ts pairs (omega arith) (omega arith) is)
    ∙ sym (put_append_under e (of_table t ps) (of_tables (t + 1) ts) (table_under (cell_of_kept e) t ps (omega arith)))

-- tables in order are one list in order
rising_append : (xs ys : List Kept) → IsRising cell_of_kept xs → IsRising cell_of_kept ys → AllByRecursion (λ x. AreAbove cell_of_kept (cell_of_kept x) ys) xs → IsRising cell_of_kept (xs ++ ys)
rising_append [] ys a b all = b
rising_append (x ∷ xs) ys a b all = (above_append (cell_of_kept x) xs ys a.0 all.0, rising_append xs ys a.1 b all.1)

keys_above : (t : ℕ) (key : List ℕ) (pairs : Pairs) → AllByRecursion (λ k. key_cmp key k ≡ Less) (keys_of pairs) → AreAbove cell_of_kept (record { table = t; key = key }) (of_table t pairs)
keys_above t key [] all = tt
keys_above t key (p ∷ ps) all = (rw (level t) all.0, keys_above t key ps all.1)

table_rising : (t : ℕ) (pairs : Pairs) → IsStrictlySortedBy key_cmp (keys_of pairs) → IsRising cell_of_kept (of_table t pairs)
unfolding IsStrictlySortedBy
table_rising t [] r = tt
table_rising t (p ∷ ps) r = (keys_above t p.0 ps r.0, table_rising t ps r.1)

table_below : (t m : ℕ) (pairs : Pairs) (ts : List Pairs) → t < m → AllByRecursion (λ x. AreAbove cell_of_kept (cell_of_kept x) (of_tables m ts)) (of_table t pairs)
table_below t m [] ts less = tt
table_below t m (p ∷ ps) ts less = (tables_above (record { table = t; key = p.0 }) m ts less, table_below t m ps ts less)

pub rising-of_tables : (t : ℕ) (ts : List Pairs) → AllByRecursion (λ pairs. IsStrictlySortedBy key_cmp (keys_of pairs)) ts → IsRising cell_of_kept (of_tables t ts)
rising-of_tables t [] all = tt
rising-of_tables t (ps ∷ ts) all =
    rising_append (of_table t ps) (of_tables (t + 1) ts) (table_rising t ps all.0) (rising-of_tables (t + 1) ts all.1) (table_below t (t + 1) ps ts (omega arith))
