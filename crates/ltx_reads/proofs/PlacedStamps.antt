-- Stamps at keys after a change of one key.
use Rattle.std.proofs.Common.{◌≡◌, ◌≢◌, ◌⊎◌, inl, inr, ℕ, zero, suc, ◌+◌, ◌<◌, ◌≤◌, Bool, true, false, ◌==◌, ◌&&◌, if◌then◌else◌, List, [], ◌∷◌, ◌++◌, length, get_or, Option, Some, None, Result, Ok, Err, refl, sym, ap, ◌∙◌, subst, arith, slice_set}
use Rattle.std.specs.Option.{IsSome}
use Rattle.std.specs.Result.{OnOk, OnErr}
use Rattle.std.specs.BTreeMap.{is_at}
use Rattle.std.proofs.lemmas.Map.Steps.{set_value_same}
use Rattle.std.specs.declared.cmp.Ordering.{Ordering}
use Rattle.std.specs.declared.cmp.Ordering.TheVariants.{Less, Equal, Greater}
use Rattle.std.specs.Ordering.{is_eq, nat_cmp, ordering_then}
use Rattle.std.proofs.lemmas.Bool.{cases_eq, eq-eqb, ne_eqb}
use Rattle.std.specs.FinMap.{nat_cmp-IsAntisymmetric}
use Rattle.ltx_model.proofs.Orderings.{number_itself}
use Rattle.std.proofs.lemmas.List.{get_or-set_same, get_or-set_other, set-get_or}
use Rattle.ltx_model.specs.declared.memory.NoMemory.{NoMemory}
use Rattle.ltx_model.specs.Keys.{Cell, key_cmp, same_cell}
use Rattle.ltx_index.specs.Pairs.{IsInOrder, value_at, with_pair, with_value}
use Rattle.ltx_index.proofs.Lookups.{are_same, from_are_same, value_at-with_pair, value_at-with_value}
use Rattle.ltx_reads.specs.Stamped.{with_stamp}
use Rattle.ltx_reads.specs.Places.{Pairs, or_nothing, stamps_in, table_at, stamps_at, scans_at, IsStampedIn, IsStampedBy, HasSameStamps, MayHaveStamp}

-- ---- one table

some_stands : (o : Option (List ℕ)) (v : List ℕ) → Some v ≡ o → IsSome o
some_stands o v is = subst (λ p. IsSome p) is refl

picked : (b : Bool) (v : List ℕ) (o : Option (List ℕ)) → or_nothing (if b then Some v else o) ≡ (if b then v else or_nothing o)
picked true v o = refl
picked false v o = refl

same_key_stamps : (pairs : Pairs) (key q : List ℕ) → are_same key q ≡ true → stamps_in pairs q ≡ stamps_in pairs key
same_key_stamps pairs key q e = ap (stamps_in pairs) (sym (from_are_same key q e))

both_picked : (b : Bool) (x y z : List ℕ) → (b ≡ true → x ≡ y) → (if b then x else z) ≡ (if b then y else z)
both_picked true x y z e = e refl
both_picked false x y z e = refl

-- a stamp more, where the key stands
pub stamped_there : (pairs : Pairs) (key v w : List ℕ) (s : ℕ) → Some v ≡ value_at pairs key → w ≡ with_stamp v s → IsStampedIn key s pairs (with_value pairs key w)
stamped_there pairs key v w s stands is q =
    ap or_nothing (value_at-with_value pairs key q w (some_stands (value_at pairs key) v stands)) ∙ picked (are_same key q) w (value_at pairs q)
    ∙ both_picked (are_same key q) w (with_stamp (stamps_in pairs q) s) (stamps_in pairs q) (λ e. is ∙ ap (λ l. with_stamp l s) (ap or_nothing stands ∙ sym (same_key_stamps pairs key q e)))

-- a first stamp, where it does not stand
pub stamped_new : (pairs : Pairs) (key : List ℕ) (s : ℕ) → value_at pairs key ≡ None → IsStampedIn key s pairs (with_pair pairs key (s ∷ []))
stamped_new pairs key s none q =
    ap or_nothing (value_at-with_pair key (s ∷ []) q pairs) ∙ picked (are_same key q) (s ∷ []) (value_at pairs q)
    ∙ both_picked (are_same key q) (s ∷ []) (with_stamp (stamps_in pairs q) s) (stamps_in pairs q) (λ e. sym (ap (λ l. with_stamp l s) (same_key_stamps pairs key q e ∙ ap or_nothing none)))

module _ (pairs : Pairs) (key : List ℕ) (s : ℕ) (r : Result (Unit {0}) NoMemory) where
  pub stamped_there_or : (v w : List ℕ) → Some v ≡ value_at pairs key → OnOk r (w ≡ with_stamp v s) → OnOk r (IsStampedIn key s pairs (with_value pairs key w))
  stamped_there_or v w stands = by_result r where
    by_result : (r : Result (Unit {0}) NoMemory) → OnOk r (w ≡ with_stamp v s) → OnOk r (IsStampedIn key s pairs (with_value pairs key w))
    by_result (Ok u) is = stamped_there pairs key v w s stands is
    by_result (Err e) is = tt

  pub kept_there : (v w : List ℕ) → Some v ≡ value_at pairs key → OnErr r (w ≡ v) → OnErr r (with_value pairs key w ≡ pairs)
  kept_there v w stands = by_result r where
    by_result : (r : Result (Unit {0}) NoMemory) → OnErr r (w ≡ v) → OnErr r (with_value pairs key w ≡ pairs)
    by_result (Ok u) is = tt
    by_result (Err e) is = ap (with_value pairs key) is ∙ set_value_same (is_at (key_cmp key)) pairs v (sym stands)

  pub stamped_new_or : (v : List ℕ) (new : Pairs) → value_at pairs key ≡ None → v ≡ s ∷ [] → OnOk r (new ≡ with_pair pairs key v) → OnOk r (IsStampedIn key s pairs new)
  stamped_new_or v new none one = by_result r where
    by_result : (r : Result (Unit {0}) NoMemory) → OnOk r (new ≡ with_pair pairs key v) → OnOk r (IsStampedIn key s pairs new)
    by_result (Ok u) is = subst (IsStampedIn key s pairs) (sym (is ∙ ap (with_pair pairs key) one)) (stamped_new pairs key s none)
    by_result (Err e) is = tt

-- ---- all tables

-- an empty table more changes nothing
pub same_more : (ts : List Pairs) (cell : Cell) → stamps_at (ts ++ [] ∷ []) cell ≡ stamps_at ts cell
same_more ts cell = ap (λ l. stamps_in l cell.key) (at ts cell.table) where
  at : (ts : List Pairs) (i : ℕ) → get_or (ts ++ [] ∷ []) i [] ≡ get_or ts i []
  at [] zero = refl
  at [] (suc i) = refl
  at (x ∷ xs) zero = refl
  at (x ∷ xs) (suc i) = at xs i

tests_apart : (i t : ℕ) (o : Ordering) → (i ≡ t → ⊥) → is_eq (ordering_then (nat_cmp i t) o) ≡ false
tests_apart i t o differ = by_cmp (nat_cmp i t) refl where
  by_cmp : (r : Ordering) → nat_cmp i t ≡ r → is_eq (ordering_then r o) ≡ false
  by_cmp Less is = refl
  by_cmp Greater is = refl
  by_cmp Equal is = absurd (differ (nat_cmp-IsAntisymmetric i t is))

-- a stamp at a key of one table
pub stamped_in_place : (ts : List Pairs) (i : ℕ) (key : List ℕ) (s : ℕ) (pairs new : Pairs) → i < length ts → pairs ≡ get_or ts i pairs → IsStampedIn key s pairs new
    → IsStampedBy (same_cell (record { table = i; key = key })) s (stamps_at ts) (stamps_at (slice_set ts i new))
stamped_in_place ts i key s pairs new within is stamped cell = elim (cases_eq cell.table i) [
  | inl same ↦
      let here : table_at (slice_set ts i new) cell.table ≡ new = ap (λ t. get_or (slice_set ts i new) t []) same ∙ get_or-set_same ts i new [] within in
      let before : table_at ts cell.table ≡ pairs = ap (λ t. get_or ts t []) same ∙ get_or_any ts i [] pairs within ∙ sym is in
      ap (λ l. stamps_in l cell.key) here ∙ stamped cell.key
      ∙ ap (λ l. if is_eq (key_cmp key cell.key) then with_stamp (stamps_in l cell.key) s else stamps_in l cell.key) (sym before)
      ∙ ap (λ b. if b then with_stamp (stamps_at ts cell) s else stamps_at ts cell) (sym (ap (λ o. is_eq (ordering_then o (key_cmp key cell.key))) (ap (nat_cmp i) same ∙ number_itself i)))
  | inr differ ↦
      ap (λ l. stamps_in l cell.key) (get_or-set_other ts i cell.table new [] differ)
      ∙ ap (λ b. if b then with_stamp (stamps_at ts cell) s else stamps_at ts cell) (sym (tests_apart i cell.table (key_cmp key cell.key) (λ e. differ (sym e))))
] where
  get_or_any : (xs : List Pairs) (i : ℕ) (d e : Pairs) → i < length xs → get_or xs i d ≡ get_or xs i e
  get_or_any [] i d e less = absurd (omega arith)
  get_or_any (x ∷ xs) zero d e less = refl
  get_or_any (x ∷ xs) (suc i) d e less = get_or_any xs i d e (omega arith)

-- the table put back as it was
pub same_in_place : (ts : List Pairs) (i : ℕ) (pairs new : Pairs) → pairs ≡ get_or ts i pairs → new ≡ pairs → HasSameStamps (stamps_at ts) (stamps_at (slice_set ts i new))
same_in_place ts i pairs new is same cell = ap (λ l. stamps_at l cell) (ap (slice_set ts i) (same ∙ is) ∙ set-get_or ts i pairs)

-- ---- calls after one another

-- where nothing changed before
pub stamped_after : (test : Cell → Bool) (s : ℕ) (old mid new : Cell → List ℕ) → HasSameStamps old mid → IsStampedBy test s mid new → IsStampedBy test s old new
stamped_after test s old mid new same stamped cell = stamped cell ∙ ap (λ l. if test cell then with_stamp l s else l) (same cell)

pub same_after : (old mid new : Cell → List ℕ) → HasSameStamps old mid → HasSameStamps mid new → HasSameStamps old new
same_after old mid new first second cell = second cell ∙ first cell

module _ (ts mid : List Pairs) (i : ℕ) (key : List ℕ) (s : ℕ) (pairs new : Pairs) (r : Result (Unit {0}) NoMemory) (same : HasSameStamps (stamps_at ts) (stamps_at mid)) (within : i < length mid) (is : pairs ≡ get_or mid i pairs) where
  pub pushed_or : OnOk r (IsStampedIn key s pairs new) → OnOk r (IsStampedBy (same_cell (record { table = i; key = key })) s (stamps_at ts) (stamps_at (slice_set mid i new)))
  pushed_or = by_result r where
    by_result : (r : Result (Unit {0}) NoMemory) → OnOk r (IsStampedIn key s pairs new) → OnOk r (IsStampedBy (same_cell (record { table = i; key = key })) s (stamps_at ts) (stamps_at (slice_set mid i new)))
    by_result (Ok u) stamped = stamped_after (same_cell (record { table = i; key = key })) s (stamps_at ts) (stamps_at mid) (stamps_at (slice_set mid i new)) same (stamped_in_place mid i key s pairs new within is stamped)
    by_result (Err e) stamped = tt

  pub not_pushed : OnErr r (new ≡ pairs) → OnErr r (HasSameStamps (stamps_at ts) (stamps_at (slice_set mid i new)))
  not_pushed = by_result r where
    by_result : (r : Result (Unit {0}) NoMemory) → OnErr r (new ≡ pairs) → OnErr r (HasSameStamps (stamps_at ts) (stamps_at (slice_set mid i new)))
    by_result (Ok u) kept = tt
    by_result (Err e) kept = same_after (stamps_at ts) (stamps_at mid) (stamps_at (slice_set mid i new)) same (same_in_place mid i pairs new is kept)

-- ---- stamps of tables

-- a table more without stamps changes nothing
pub same_scans : (ts : List (List ℕ)) (cell : Cell) → scans_at (ts ++ [] ∷ []) cell ≡ scans_at ts cell
same_scans ts cell = at ts cell.table where
  at : (ts : List (List ℕ)) (i : ℕ) → get_or (ts ++ [] ∷ []) i [] ≡ get_or ts i []
  at [] zero = refl
  at [] (suc i) = refl
  at (x ∷ xs) zero = refl
  at (x ∷ xs) (suc i) = at xs i

scanned_in_place : (ts : List (List ℕ)) (i : ℕ) (s : ℕ) (v new : List ℕ) → i < length ts → v ≡ get_or ts i v → new ≡ with_stamp v s → IsStampedBy (λ cell. i == cell.table) s (scans_at ts) (scans_at (slice_set ts i new))
scanned_in_place ts i s v new within is stamped cell = elim (cases_eq cell.table i) [
  | inl same ↦
      let before : get_or ts cell.table [] ≡ v = ap (λ t. get_or ts t []) same ∙ get_or_any ts i [] v within ∙ sym is in
      ap (λ t. get_or (slice_set ts i new) t []) same ∙ get_or-set_same ts i new [] within ∙ stamped ∙ ap (λ l. with_stamp l s) (sym before)
      ∙ ap (λ b. if b then with_stamp (scans_at ts cell) s else scans_at ts cell) (sym (eq-eqb i cell.table (sym same)))
  | inr differ ↦
      get_or-set_other ts i cell.table new [] differ
      ∙ ap (λ b. if b then with_stamp (scans_at ts cell) s else scans_at ts cell) (sym (ne_eqb i cell.table (λ e. differ (sym e))))
] where
  get_or_any : (xs : List (List ℕ)) (i : ℕ) (d e : List ℕ) → i < length xs → get_or xs i d ≡ get_or xs i e
  get_or_any [] i d e less = absurd (omega arith)
  get_or_any (x ∷ xs) zero d e less = refl
  get_or_any (x ∷ xs) (suc i) d e less = get_or_any xs i d e (omega arith)

same_scans_in_place : (ts : List (List ℕ)) (i : ℕ) (v new : List ℕ) → v ≡ get_or ts i v → new ≡ v → HasSameStamps (scans_at ts) (scans_at (slice_set ts i new))
same_scans_in_place ts i v new is same cell = ap (λ l. scans_at l cell) (ap (slice_set ts i) (same ∙ is) ∙ set-get_or ts i v)

module _ (ts mid : List (List ℕ)) (i : ℕ) (s : ℕ) (v new : List ℕ) (r : Result (Unit {0}) NoMemory) (same : HasSameStamps (scans_at ts) (scans_at mid)) (within : i < length mid) (is : v ≡ get_or mid i v) where
  pub scanned_or : OnOk r (new ≡ with_stamp v s) → OnOk r (IsStampedBy (λ cell. i == cell.table) s (scans_at ts) (scans_at (slice_set mid i new)))
  scanned_or = by_result r where
    by_result : (r : Result (Unit {0}) NoMemory) → OnOk r (new ≡ with_stamp v s) → OnOk r (IsStampedBy (λ cell. i == cell.table) s (scans_at ts) (scans_at (slice_set mid i new)))
    by_result (Ok u) stamped = stamped_after (λ cell. i == cell.table) s (scans_at ts) (scans_at mid) (scans_at (slice_set mid i new)) same (scanned_in_place mid i s v new within is stamped)
    by_result (Err e) stamped = tt

  pub not_scanned : OnErr r (new ≡ v) → OnErr r (HasSameStamps (scans_at ts) (scans_at (slice_set mid i new)))
  not_scanned = by_result r where
    by_result : (r : Result (Unit {0}) NoMemory) → OnErr r (new ≡ v) → OnErr r (HasSameStamps (scans_at ts) (scans_at (slice_set mid i new)))
    by_result (Ok u) kept = tt
    by_result (Err e) kept = same_after (scans_at ts) (scans_at mid) (scans_at (slice_set mid i new)) same (same_scans_in_place mid i v new is kept)

-- the test of a cell by its parts
pub cell_parts : (t : ℕ) (k : List ℕ) (cell : Cell) → same_cell (record { table = t; key = k }) cell ≡ ((t == cell.table) && is_eq (key_cmp k cell.key))
cell_parts t k cell = elim (cases_eq t cell.table) [
  | inl same ↦
      ap (λ o. is_eq (ordering_then o (key_cmp k cell.key))) (ap (nat_cmp t) (sym same) ∙ number_itself t) ∙ sym (ap (λ b. b && is_eq (key_cmp k cell.key)) (eq-eqb t cell.table same))
  | inr differ ↦ tests_apart t cell.table (key_cmp k cell.key) differ ∙ sym (ap (λ b. b && is_eq (key_cmp k cell.key)) (ne_eqb t cell.table differ))
]
