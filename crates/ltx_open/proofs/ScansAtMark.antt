-- A scan at a mark.
use Rattle.std.proofs.Common.{◌≡◌, ℕ, Bool, true, false, cond, ◌||◌, ◌&&◌, ◌==◌, not, List, [], ◌∷◌, map, filter, Option, Some, None, refl, sym, ap, subst, ◌∙◌}
use Rattle.std.proofs.lemmas.Bool.{both_ways, eqb-true}
use Rattle.std.specs.List.{list_any, AllByRecursion}
use Rattle.std.specs.Ordering.{is_eq}
use Rattle.ltx_model.specs.declared.commands.Op.{Op}
use Rattle.ltx_model.specs.declared.commands.Op.TheVariants.{Scan}
use Rattle.ltx_model.specs.declared.looked.Reach.TheVariants.{Range}
use Rattle.ltx_model.specs.declared.replies.Reply.{Reply}
use Rattle.ltx_model.specs.declared.replies.Reply.TheVariants.{Rows}
use Rattle.ltx_model.specs.declared.rows.Row.{Row}
use Rattle.ltx_model.specs.declared.writes.Look.{Look}
use Rattle.ltx_model.specs.declared.writes.Write.{Write}
use Rattle.ltx_model.specs.Keys.{Cell, key_cmp, same_cell, in_range, AreAbove, IsRising, item_at}
use Rattle.ltx_model.specs.Operations.{cell_of_write, writes_at, looks_up, writes_of}
use Rattle.ltx_model.specs.Notes.{IsRangeBy, look_of, is_one_of}
use Rattle.ltx_model.specs.Rows.{rows_between}
use Rattle.ltx_model.proofs.OneMore.{see-is}
use Rattle.ltx_model.proofs.CellOrder.{same_cell_same, same_cell_refl, in_one_table}
use Rattle.ltx_lemmas.proofs.LastWrites.{rising_writes}
use Rattle.ltx_lemmas.proofs.Lists.{none_some}
use Rattle.ltx_lemmas.proofs.Members.{same_number}
use Rattle.ltx_model.proofs.Rising.{item_at-above}
use Rattle.ltx_lemmas.proofs.Searches.{is_written_of}
use Rattle.ltx_buffer.specs.Own.{is_between, merged, keys_between, cell_in}
use Rattle.ltx_buffer.specs.Places.{key_in}
use Rattle.ltx_buffer.proofs.Merges.{merged_is_seen, rising_seen}
use Rattle.ltx_buffer.proofs.Splits.{rising_between}
use Rattle.ltx_chain.specs.Versions.{visible}
use Rattle.ltx_model.specs.NoteLists.{with_note}
use Rattle.ltx_store.specs.Kept.{Kept, cell_of_kept, versions_at, rows_at}
use Rattle.ltx_store.specs.Scans.{look_of_version, looks_between}
use Rattle.ltx_store.proofs.Looks.{cell_of_look, looks_rising, look-between}
use Rattle.ltx_store.proofs.Rows.{rows_rising}
use Rattle.ltx_open.specs.Views.{OpenView}
use Rattle.ltx_open.specs.declared.stage.Stage.TheVariants as stages
use Rattle.ltx_open.specs.Operations.{HasDone, IsSeenLook}
use Rattle.ltx_open.proofs.GetsAtMark.{done_by}

-- what each item gives of the place at which it stands holds of all
module _ {A : Type 0} (cell : A → Cell) (P : A → Type 0) where
  pub all_placed : (xs : List A) → IsRising cell xs → ((x : A) → item_at cell xs (cell x) ≡ Some x → P x) → AllByRecursion P xs
  all_placed [] rising each = tt
  all_placed (x ∷ xs) rising each = (each x (rw (same_cell_refl (cell x)) refl), all_placed xs rising.1 (λ y at. each y (by_test y at (same_cell (cell x) (cell y)) refl))) where
    by_test : (y : A) → item_at cell xs (cell y) ≡ Some y → (b : Bool) → same_cell (cell x) (cell y) ≡ b → cond b (Some x) (item_at cell xs (cell y)) ≡ Some y
    by_test y at false is = at
    by_test y at true is = absurd (none_some (sym (item_at-above cell (cell x) xs rising.0) ∙ ap (item_at cell xs) (same_cell_same (cell x) (cell y) is) ∙ at))

-- where keys of one table are one
one_key : (table : ℕ) (a b : List ℕ) → is_eq (key_cmp a b) ≡ same_cell (record { table = table; key = a }) (record { table = table; key = b })
one_key table a b = sym (ap is_eq (in_one_table table a b))

-- the look of a key, by the place at which it stands
look_at_place : (table : ℕ) (looks : List Look) (key : List ℕ) → look_of looks key ≡ item_at (cell_of_look table) looks (record { table = table; key = key })
look_at_place table [] key = refl
look_at_place table (l ∷ ls) key = rw (one_key table l.key key) (ap (cond (same_cell (cell_of_look table l) (record { table = table; key = key })) (Some l)) (look_at_place table ls key))

both_true : (a b : Bool) → (a && b) ≡ true → (a ≡ true) × (b ≡ true)
both_true true b is = (refl, is)
both_true false b is = cc

-- what is found within a range
found_within : {A : Type 0} (b : Bool) (o : Option A) (x : A) → cond b o None ≡ Some x → b ≡ true
found_within true o x is = refl
found_within false o x is = absurd (none_some is)

-- the keys of a range that were written
module _ (table : ℕ) (low high : List ℕ) where
  rising_keys : (ws : List Write) → IsRising (key_in table) ws → IsRising (λ key. record { table = table; key = key }) (map (λ w. w.key) ws)
  rising_keys [] rising = tt
  rising_keys (w ∷ ws) rising = (above ws rising.0, rising_keys ws rising.1) where
    above : (vs : List Write) → AreAbove (key_in table) (key_in table w) vs → AreAbove (λ key. record { table = table; key = key }) (key_in table w) (map (λ v. v.key) vs)
    above [] all = tt
    above (v ∷ vs) all = (all.0, above vs all.1)

  within_keys : (ws : List Write) → AllByRecursion (λ key. in_range low high key ≡ true) (keys_between ws table low high)
  within_keys [] = tt
  within_keys (w ∷ ws) = by_test (is_between table low high w) refl (within_keys ws) where
    by_test : (b : Bool) → is_between table low high w ≡ b → AllByRecursion (λ key. in_range low high key ≡ true) (keys_between ws table low high)
        → AllByRecursion (λ key. in_range low high key ≡ true) (map (λ v. v.key) (cond b (w ∷ filter (is_between table low high) ws) (filter (is_between table low high) ws)))
    by_test true is rest = ((both_true (w.table == table) (in_range low high w.key) is).1, rest)
    by_test false is rest = rest

module _ (table : ℕ) (low high key : List ℕ) (within : in_range low high key ≡ true) where
  -- the key is one of them where a write is of it
  one_written : (ws : List Write) → is_one_of (keys_between ws table low high) key ≡ list_any (λ w. same_cell (cell_of_write w) (record { table = table; key = key })) ws
  one_written [] = refl
  one_written (w ∷ ws) = by_tests (is_between table low high w) (same_cell (cell_of_write w) (record { table = table; key = key })) refl refl (one_written ws) where
    by_tests : (b d : Bool) → is_between table low high w ≡ b → same_cell (cell_of_write w) (record { table = table; key = key }) ≡ d
        → is_one_of (keys_between ws table low high) key ≡ list_any (λ v. same_cell (cell_of_write v) (record { table = table; key = key })) ws
        → is_one_of (map (λ v. v.key) (cond b (w ∷ filter (is_between table low high) ws) (filter (is_between table low high) ws))) key
        ≡ (d || list_any (λ v. same_cell (cell_of_write v) (record { table = table; key = key })) ws)
    by_tests false false out apart rest = rest
    by_tests false true out same rest =
        absurd (both_ways (is_between table low high w) out (ap (λ (c : Cell). (c.table == table) && in_range low high c.key) (same_cell_same (cell_of_write w) (record { table = table; key = key }) same) ∙ rw (within, same_number table) refl))
    by_tests true d inside is rest =
        ap (λ b. b || is_one_of (keys_between ws table low high) key) (one_key table w.key key ∙ ap (λ t. same_cell (record { table = t; key = w.key }) (record { table = table; key = key })) (sym (eqb-true w.table table (both_true (w.table == table) (in_range low high w.key) inside).0)) ∙ is)
        ∙ ap (λ b. d || b) rest

-- what is noted of a range
module _ (kept : List Kept) (mark : ℕ) (rising : IsRising cell_of_kept kept) (table : ℕ) (low high : List ℕ) where
  abbrev looks : List Look
  looks = looks_between mark kept table low high

  abbrev at : List ℕ → Cell
  at key = record { table = table; key = key }

  -- the look of a key of the range
  look_is_at : (key : List ℕ) → item_at (cell_of_look table) looks (at key) ≡ cond (in_range low high key) (look_of_version key (visible mark (versions_at kept (at key)))) None
  look_is_at key = look-between table mark low high key kept rising

  looks_inside : AllByRecursion (λ l. in_range low high l.key ≡ true) looks
  looks_inside =
      all_placed (cell_of_look table) (λ l. in_range low high l.key ≡ true) looks (looks_rising table mark low high kept rising)
      (λ l is. found_within (in_range low high l.key) (look_of_version l.key (visible mark (versions_at kept (at l.key)))) l (sym (look_is_at l.key) ∙ is))

  looked_up : (key : List ℕ) (earlier : List Op) → looks_up (at key) earlier (Scan table low high) ≡ true → in_range low high key ≡ true
  looked_up key earlier is = (both_true (table == table) (in_range low high key) (both_true ((table == table) && in_range low high key) (not (list_any (writes_at (at key)) earlier)) is).0).1

  pub range_is : (earlier : List Op) → IsRangeBy (IsSeenLook kept mark) earlier table low high looks (keys_between (writes_of earlier) table low high)
  range_is earlier = record {
    looks_rising = looks_rising table mark low high kept rising;
    looks_within = looks_inside;
    own_rising = rising_keys table low high (filter (is_between table low high) (writes_of earlier)) (rising_between table low high (writes_of earlier) (rising_writes [] earlier tt));
    own_within = within_keys table low high (writes_of earlier);
    own_keys = λ key within. one_written table low high key within (writes_of earlier) ∙ is_written_of (at key) earlier;
    looked = λ key is. look_at_place table looks key ∙ look_is_at key ∙ rw (looked_up key earlier is) refl;
  }

-- the rows that a scan finds stand in order, as a merge asks
pub rising_found : (kept : List Kept) (mark : ℕ) (table : ℕ) (low high : List ℕ) (rows : List Row) → IsRising cell_of_kept kept → rows ≡ rows_between (rows_at mark kept) table low high → IsRising (cell_in table) rows
rising_found kept mark table low high rows rising are = subst (IsRising (cell_in table)) (sym are) (rising_seen table low high (rows_at mark kept) (rows_rising (visible mark) kept rising))

-- a scan of the store with the own writes over it
pub scanned : (kept : List Kept) (mark : ℕ) → IsRising cell_of_kept kept → (old new : OpenView) (table : ℕ) (low high : List ℕ) (rows all : List Row) (looks : List Look) (own : List (List ℕ)) (reply : Reply)
    → rows ≡ rows_between (rows_at mark kept) table low high → all ≡ merged old.own.writes table low high rows
    → looks ≡ looks_between mark kept table low high → own ≡ keys_between old.own.writes table low high → reply ≡ Rows all
    → (old.stage ≡ stages.Short → old.notes.mark ≡ mark) → new.number ≡ old.number → new.stage ≡ old.stage
    → new.notes ≡ with_note old.notes (record { table = table; reach = Range low high looks own; write = None }) → new.own.writes ≡ old.own.writes
    → HasDone kept mark old (Scan table low high) reply new
scanned kept mark rising old new table low high rows all looks own reply rows_are all_are looks_are own_are answer marked number stage notes writes =
    done_by kept mark old new (Scan table low high) reply (record { table = table; reach = Range low high looks own; write = None }) marked number stage notes writes
    (λ earlier same.
    answer
    ∙ ap Rows (all_are ∙ ap (merged old.own.writes table low high) rows_are ∙ ap (λ ws. merged ws table low high (rows_between (rows_at mark kept) table low high)) same
    ∙ merged_is_seen table low high old.number (rows_at mark kept) earlier (rows_rising (visible mark) kept rising))
    ∙ sym (see-is old.number (rows_at mark kept) earlier (Scan table low high)))
    (λ earlier same. record {
      table = refl;
      reach = (refl, refl, ranged earlier (sym looks_are) (sym (own_are ∙ ap (λ ws. keys_between ws table low high) same)));
      write = refl;
    }) where
      ranged : (earlier : List Op) → looks_between mark kept table low high ≡ looks → keys_between (writes_of earlier) table low high ≡ own → IsRangeBy (IsSeenLook kept mark) earlier table low high looks own
      ranged earlier l o = subst (λ ls. IsRangeBy (IsSeenLook kept mark) earlier table low high ls own) l (subst (IsRangeBy (IsSeenLook kept mark) earlier table low high (looks_between mark kept table low high)) o (range_is kept mark rising table low high earlier))
