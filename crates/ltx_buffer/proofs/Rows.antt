-- Rows of a table under writes of its keys: what the first write and the first row make of the whole.
use Rattle.std.proofs.Common.{◌≡◌, ◌≢◌, ℕ, zero, suc, ◌+◌, ◌<◌, ◌≤◌, arith, get_or, Bool, true, false, not, List, [], ◌∷◌, ◌++◌, length, take, drop, filter, slice_get, Option, Some, None, IfSome, IfOk, Ok, Err, Result, Vec, Global, refl, sym, ap, subst, ◌∙◌, append_assoc}
use Rattle.std.specs.List.{AllByRecursion}
use Rattle.std.specs.Ordering.{nat_cmp, is_eq, is_lt, ordering_then, ordering_reverse}
use Rattle.std.specs.declared.cmp.Ordering.{Ordering}
use Rattle.std.specs.declared.cmp.Ordering.TheVariants.{Less, Equal, Greater}
use Rattle.std.specs.Cmp.{eq_by_cmp_equiv}
use Rattle.std.proofs.lemmas.Cmp.{nat_cmp_total}
use Rattle.std.proofs.lemmas.List.{take_more}
use Rattle.ltx_model.specs.declared.memory.NoMemory.{NoMemory}
use Rattle.ltx_model.specs.declared.rows.Row.{Row}
use Rattle.ltx_model.specs.declared.writes.Write.{Write}
use Rattle.ltx_model.specs.Keys.{Cell, key_cmp, cell_cmp, same_cell, put_in_order, AreAbove, IsRising}
use Rattle.ltx_buffer.specs.Own.{cell_in, rows_with, rows_under}
use Rattle.ltx_buffer.specs.Places.{key_in, rows_put, begins_with}
use Rattle.ltx_model.proofs.CellOrder.{same_cells, cell_turned, in_one_table}
use Rattle.ltx_model.proofs.Rising.{above_later, rising_put, rising_filter, put_above, filter_above}
use Rattle.ltx_model.proofs.Orderings.{is_equal}

rows_put-cons : (w : Write) (ws : List Write) → rows_put (w ∷ ws) ≡ rows_put (w ∷ []) ++ rows_put ws
rows_put-cons w ws = by_put w.put refl where
  by_put : (put : Option (List ℕ)) → w.put ≡ put → rows_put (w ∷ ws) ≡ rows_put (w ∷ []) ++ rows_put ws
  by_put None e = rw e refl
  by_put (Some value) e = rw e refl

pub rows_put-append : (ws vs : List Write) → rows_put (ws ++ vs) ≡ rows_put ws ++ rows_put vs
rows_put-append [] vs = refl
rows_put-append (w ∷ ws) vs = by_put w.put refl (rows_put-append ws vs) where
  by_put : (put : Option (List ℕ)) → w.put ≡ put → rows_put (ws ++ vs) ≡ rows_put ws ++ rows_put vs → rows_put (w ∷ (ws ++ vs)) ≡ rows_put (w ∷ ws) ++ rows_put vs
  by_put None e rest = rw e rest
  by_put (Some value) e rest = rw e (ap (λ rs. record { key = w.key; value = value } ∷ rs) rest)

-- a write more has added its row
pub put_more : (start done now : List Row) (ws : List Write) (i : ℕ) (w : Write) → i < length ws → w ≡ get_or ws i w → done ≡ start ++ rows_put (take i ws) → now ≡ done ++ rows_put (w ∷ []) → now ≡ start ++ rows_put (take (i + 1) ws)
put_more start done now ws i w within is before after =
    after ∙ ap (λ rs. rs ++ rows_put (w ∷ [])) before ∙ append_assoc start (rows_put (take i ws)) (rows_put (w ∷ []))
    ∙ ap (λ rs. start ++ rs) (sym (rows_put-append (take i ws) (w ∷ [])) ∙ ap rows_put (sym (take_more ws i w within ∙ ap (λ v. take i ws ++ v ∷ []) (sym is))))

all_push : {A : Type 0} (P : A → Type 0) (xs : List A) (x : A) → AllByRecursion P xs → P x → AllByRecursion P (xs ++ x ∷ [])
all_push P [] x all one = (one, tt)
all_push P (y ∷ ys) x all one = (all.0, all_push P ys x all.1 one)

-- and holds what those before it hold
pub all_more : (P : Write → Type 0) (ws : List Write) (i : ℕ) (w : Write) → i < length ws → w ≡ get_or ws i w → AllByRecursion P (take i ws) → P w → AllByRecursion P (take (i + 1) ws)
all_more P ws i w within is all one = subst (AllByRecursion P) (sym (take_more ws i w within ∙ ap (λ v. take i ws ++ v ∷ []) (sym is))) (all_push P (take i ws) w all one)

-- no write stands behind the last one
pub past : (P : Write → Type 0) (ws : List Write) (n : ℕ) → length ws ≤ n → IfSome (slice_get ws n) P
past P [] zero le = tt
past P [] (suc n) le = tt
past P (w ∷ ws) zero le = absurd (omega (arith, le))
past P (w ∷ ws) (suc n) le = past P ws n (omega (arith, le))

module _ (table : ℕ) where
  -- a row before the key
  with_later : (x : Row) (rest : List Row) (key : List ℕ) (put : Option (List ℕ)) → cell_cmp (cell_in table x) (record { table = table; key = key }) ≡ Less
      → rows_with table (x ∷ rest) key put ≡ x ∷ rows_with table rest key put
  with_later x rest key None less = rw (ap is_eq less) refl
  with_later x rest key (Some value) less = rw (cell_turned (cell_in table x) (record { table = table; key = key }) Less less) refl

  pub under_later : (x : Row) (rest : List Row) (ws : List Write) → AreAbove (key_in table) (cell_in table x) ws → rows_under table (x ∷ rest) ws ≡ x ∷ rows_under table rest ws
  under_later x rest [] above = refl
  under_later x rest (w ∷ ws) above = ap (λ rs. rows_under table rs ws) (with_later x rest w.key w.put above.0) ∙ under_later x (rows_with table rest w.key w.put) ws above.1

  -- a key before all rows
  with_first : (w : Write) (rows : List Row) (put : Option (List ℕ)) → w.put ≡ put → AreAbove (cell_in table) (key_in table w) rows → rows_with table rows w.key put ≡ rows_put (w ∷ []) ++ rows
  with_first w rows None e above = rw e (filter_above (cell_in table) (key_in table w) rows above)
  with_first w rows (Some value) e above = rw e (put_above (cell_in table) (record { key = w.key; value = value }) rows above)

  put_past : (w : Write) (ws : List Write) (rows : List Row) (put : Option (List ℕ)) → w.put ≡ put → AreAbove (key_in table) (key_in table w) ws
      → rows_under table (rows_put (w ∷ []) ++ rows) ws ≡ rows_put (w ∷ []) ++ rows_under table rows ws
  put_past w ws rows None e above = rw e refl
  put_past w ws rows (Some value) e above = rw e (under_later (record { key = w.key; value = value }) rows ws above)

  under_first : (w : Write) (ws : List Write) (rows : List Row) → IsRising (key_in table) (w ∷ ws) → AreAbove (cell_in table) (key_in table w) rows
      → rows_under table rows (w ∷ ws) ≡ rows_put (w ∷ []) ++ rows_under table rows ws
  under_first w ws rows rising above = ap (λ rs. rows_under table rs ws) (with_first w rows w.put refl above) ∙ put_past w ws rows w.put refl rising.0

  -- no rows
  pub under_none : (ws : List Write) → IsRising (key_in table) ws → rows_under table [] ws ≡ rows_put ws
  under_none [] rising = refl
  under_none (w ∷ ws) rising = under_first w ws [] rising tt ∙ ap (λ rs. rows_put (w ∷ []) ++ rs) (under_none ws rising.1) ∙ sym (rows_put-cons w ws)

  -- writes before all rows
  under_before : (n : ℕ) (ws : List Write) (x : Row) (rest : List Row) → IsRising (key_in table) ws → IsRising (cell_in table) (x ∷ rest)
      → AllByRecursion (λ w. key_cmp w.key x.key ≡ Less) (take n ws) → rows_under table (x ∷ rest) ws ≡ rows_put (take n ws) ++ rows_under table (x ∷ rest) (drop n ws)
  under_before zero ws x rest rw' rx below = refl
  under_before (suc n) [] x rest rw' rx below = refl
  under_before (suc n) (w ∷ ws) x rest rw' rx below =
      let less : cell_cmp (key_in table w) (cell_in table x) ≡ Less = in_one_table table w.key x.key ∙ below.0 in
      under_first w ws (x ∷ rest) rw' (less, above_later (cell_in table) (key_in table w) (cell_in table x) rest less rx.0)
      ∙ ap (λ rs. rows_put (w ∷ []) ++ rs) (under_before n ws x rest rw'.1 rx below.1)
      ∙ sym (append_assoc (rows_put (w ∷ [])) (rows_put (take n ws)) (rows_under table (x ∷ rest) (drop n ws)))
      ∙ ap (λ rs. rs ++ rows_under table (x ∷ rest) (drop n ws)) (sym (rows_put-cons w (take n ws)))

  -- a row that the first write hides
  with_same : (w : Write) (x : Row) (rest : List Row) (put : Option (List ℕ)) → w.put ≡ put → cell_cmp (key_in table w) (cell_in table x) ≡ Equal → AreAbove (cell_in table) (key_in table w) rest
      → rows_with table (x ∷ rest) w.key put ≡ rows_with table rest w.key put
  with_same w x rest None e same above = rw (ap is_eq (cell_turned (key_in table w) (cell_in table x) Equal same)) refl
  with_same w x rest (Some value) e same above = rw same (sym (put_above (cell_in table) (record { key = w.key; value = value }) rest above))

  pub under_hidden : (ws : List Write) (x : Row) (rest : List Row) → IsRising (cell_in table) (x ∷ rest) → begins_with ws x.key ≡ true → rows_under table (x ∷ rest) ws ≡ rows_under table rest ws
  under_hidden [] x rest rising begins = cc
  under_hidden (w ∷ ws) x rest rising begins =
      let same : cell_cmp (key_in table w) (cell_in table x) ≡ Equal = in_one_table table w.key x.key ∙ is_equal (key_cmp w.key x.key) begins in
      let above : AreAbove (cell_in table) (key_in table w) rest = subst (λ c. AreAbove (cell_in table) c rest) (sym (same_cells (key_in table w) (cell_in table x) same)) rising.0 in
      ap (λ rs. rows_under table rs ws) (with_same w x rest w.put refl same above)

  not_before : (w : Write) (x : Row) (o : Ordering) → key_cmp w.key x.key ≡ o → is_eq o ≡ false → o ≢ Less → cell_cmp (cell_in table x) (key_in table w) ≡ Less
  not_before w x Less e other next = absurd (next refl)
  not_before w x Equal e other next = cc
  not_before w x Greater e other next = cell_turned (key_in table w) (cell_in table x) Greater (in_one_table table w.key x.key ∙ e)

  -- a row that stays
  pub under_kept : (ws : List Write) (x : Row) (rest : List Row) → IsRising (key_in table) ws → begins_with ws x.key ≡ false → IfSome (slice_get ws 0) (λ w. key_cmp w.key x.key ≢ Less)
      → rows_under table (x ∷ rest) ws ≡ x ∷ rows_under table rest ws
  under_kept [] x rest rising begins next = refl
  under_kept (w ∷ ws) x rest rising begins next =
      let less = not_before w x (key_cmp w.key x.key) refl begins next in
      under_later x rest (w ∷ ws) (less, above_later (key_in table) (cell_in table x) (key_in table w) ws less rising.0)

  get_drop : (n : ℕ) (ws : List Write) → slice_get (drop n ws) 0 ≡ slice_get ws n
  get_drop zero ws = refl
  get_drop (suc n) [] = refl
  get_drop (suc n) (w ∷ ws) = get_drop n ws

  pub rising_drop : (n : ℕ) (ws : List Write) → IsRising (key_in table) ws → IsRising (key_in table) (drop n ws)
  rising_drop zero ws rising = rising
  rising_drop (suc n) [] rising = rising
  rising_drop (suc n) (w ∷ ws) rising = rising_drop n ws rising.1

  module _ (n : ℕ) (ws : List Write) (x : Row) (rest : List Row) (rising_ws : IsRising (key_in table) ws) (rising_rows : IsRising (cell_in table) (x ∷ rest)) (below : AllByRecursion (λ w. key_cmp w.key x.key ≡ Less) (take n ws)) where
    -- one row more, where the next write hides it
    pub step_hidden : begins_with (drop n ws) x.key ≡ true → rows_under table (x ∷ rest) ws ≡ rows_put (take n ws) ++ rows_under table rest (drop n ws)
    step_hidden begins = under_before n ws x rest rising_ws rising_rows below ∙ ap (λ rs. rows_put (take n ws) ++ rs) (under_hidden (drop n ws) x rest rising_rows begins)

    -- one row more, where it stays
    pub step_kept : IfSome (slice_get ws n) (λ w. key_cmp w.key x.key ≢ Less) → begins_with (drop n ws) x.key ≡ false
        → rows_under table (x ∷ rest) ws ≡ (rows_put (take n ws) ++ x ∷ []) ++ rows_under table rest (drop n ws)
    step_kept next begins =
        under_before n ws x rest rising_ws rising_rows below
        ∙ ap (λ rs. rows_put (take n ws) ++ rs) (under_kept (drop n ws) x rest (rising_drop n ws rising_ws) begins (subst (λ o. IfSome o (λ w. key_cmp w.key x.key ≢ Less)) (sym (get_drop n ws)) next))
        ∙ sym (append_assoc (rows_put (take n ws)) (x ∷ []) (rows_under table rest (drop n ws)))

  -- what stands under writes stays in rising order
  rising_with : (rows : List Row) (key : List ℕ) (put : Option (List ℕ)) → IsRising (cell_in table) rows → IsRising (cell_in table) (rows_with table rows key put)
  rising_with rows key None rising = rising_filter (cell_in table) _ rows rising
  rising_with rows key (Some value) rising = rising_put (cell_in table) _ rows rising

  pub rising_under : (rows : List Row) (ws : List Write) → IsRising (cell_in table) rows → IsRising (cell_in table) (rows_under table rows ws)
  rising_under rows [] rising = rising
  rising_under rows (w ∷ ws) rising = rising_under (rows_with table rows w.key w.put) ws (rising_with rows w.key w.put rising)

drop_none : {A : Type 0} (n : ℕ) (xs : List A) → xs ≡ [] → drop n xs ≡ []
drop_none zero xs e = e
drop_none (suc n) xs e = ap (drop (suc n)) e

pub drop_more : {A : Type 0} (m n : ℕ) (xs : List A) → drop n (drop m xs) ≡ drop (m + n) xs
drop_more m n [] = drop_none n (drop m []) (drop_none m [] refl) ∙ sym (drop_none (m + n) [] refl)
drop_more zero n (x ∷ xs) = ap (λ k. drop k (x ∷ xs)) (omega arith)
drop_more (suc m) n (x ∷ xs) = drop_more m n xs ∙ ap (λ k. drop k (x ∷ xs)) (let next : suc (m + n) ≡ suc m + n = omega arith in next)

pub nothing_left : (xs : List Row) → length xs ≡ 0 → xs ≡ []
nothing_left [] e = refl
nothing_left (x ∷ xs) e = absurd (omega (arith, e))

pub rising_rows_tail : (table : ℕ) (x : Row) (rest : List Row) → IsRising (cell_in table) (x ∷ rest) → IsRising (cell_in table) rest
rising_rows_tail table x rest rising = rising.1

-- The loop's step: the writes of keys below a row's are put before it, and it stays unless the next write hides it.
module _ (table at n : ℕ) (own left later : List Write) (x : Row) (rest done now : List Row) (here : left ≡ drop at own) (there : later ≡ drop (at + n) own)
    (rising_own : IsRising (key_in table) own) (rising_rows : IsRising (cell_in table) (x ∷ rest)) (below : AllByRecursion (λ w. key_cmp w.key x.key ≡ Less) (take n left)) (now_is : now ≡ done ++ rows_put (take n left)) where
  after_n : drop n left ≡ drop (at + n) own
  after_n = ap (drop n) here ∙ drop_more at n own

  rising_left : IsRising (key_in table) left
  rising_left = subst (IsRising (key_in table)) (sym here) (rising_drop table at own rising_own)

  begins_there : (b : Bool) → begins_with later x.key ≡ b → begins_with (drop n left) x.key ≡ b
  begins_there b e = ap (λ ws. begins_with ws x.key) (after_n ∙ sym there) ∙ e

  pub row_hidden : begins_with later x.key ≡ true → now ++ rows_under table rest (drop (at + n) own) ≡ done ++ rows_under table (x ∷ rest) (drop at own)
  row_hidden begins =
      ap (λ ws. now ++ rows_under table rest ws) (sym after_n) ∙ ap (λ rs. rs ++ rows_under table rest (drop n left)) now_is
      ∙ append_assoc done (rows_put (take n left)) (rows_under table rest (drop n left))
      ∙ ap (λ rs. done ++ rs) (sym (step_hidden table n left x rest rising_left rising_rows below (begins_there true begins)))
      ∙ ap (λ ws. done ++ rows_under table (x ∷ rest) ws) here

  pub row_kept : (more : List Row) → more ≡ now ++ x ∷ [] → IfSome (slice_get left n) (λ w. key_cmp w.key x.key ≢ Less) → begins_with later x.key ≡ false
      → more ++ rows_under table rest (drop (at + n) own) ≡ done ++ rows_under table (x ∷ rest) (drop at own)
  row_kept more more_is next begins =
      ap (λ ws. more ++ rows_under table rest ws) (sym after_n)
      ∙ ap (λ rs. rs ++ rows_under table rest (drop n left)) (more_is ∙ ap (λ rs. rs ++ x ∷ []) now_is ∙ append_assoc done (rows_put (take n left)) (x ∷ []))
      ∙ append_assoc done (rows_put (take n left) ++ x ∷ []) (rows_under table rest (drop n left))
      ∙ ap (λ rs. done ++ rs) (sym (step_kept table n left x rest rising_left rising_rows below next (begins_there false begins)))
      ∙ ap (λ ws. done ++ rows_under table (x ∷ rest) ws) here

-- the loop's end: what the writes that are left put follows
pub all_merged : (table at : ℕ) (own left : List Write) (done now : List Row) → left ≡ drop at own → IsRising (key_in table) own → now ≡ done ++ rows_put left → now ≡ done ++ rows_under table [] (drop at own)
all_merged table at own left done now here rising now_is =
    now_is ∙ ap (λ ws. done ++ rows_put ws) here ∙ ap (λ rs. done ++ rs) (sym (under_none table (drop at own) (rising_drop table at own rising)))

-- what a merge gives, of the writes of a range
module _ (table : ℕ) (rows : List Row) (own : List Write) where
  abbrev Gives : Result (Vec Row Global) NoMemory → Type 0
  Gives r = IfOk r (λ all. (t : ℕ) → IsRising (key_in t) own → IsRising (cell_in t) rows → all.items ≡ rows_under t rows own)

  pub merged_given : (writes : List Write) → own ≡ writes → (r : Result (Vec Row Global) NoMemory) → Gives r → IsRising (key_in table) own → IsRising (cell_in table) rows
      → IfOk r (λ all. all.items ≡ rows_under table rows writes)
  merged_given writes same (Ok all) gives own_rises rows_rise = gives table own_rises rows_rise ∙ ap (rows_under table rows) same
  merged_given writes same (Err e) gives own_rises rows_rise = tt

  pub rising_given : (r : Result (Vec Row Global) NoMemory) → Gives r → IsRising (key_in table) own → IsRising (cell_in table) rows → IfOk r (λ all. IsRising (cell_in table) all.items)
  rising_given (Ok all) gives own_rises rows_rise = subst (IsRising (cell_in table)) (sym (gives table own_rises rows_rise)) (rising_under table rows own rows_rise)
  rising_given (Err e) gives own_rises rows_rise = tt
