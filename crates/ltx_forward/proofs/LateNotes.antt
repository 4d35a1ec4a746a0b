-- What a note tells of the late keys of its operation.
use Rattle.std.proofs.Common.{◌≡◌, ◌⊎◌, inl, inr, ℕ, ◌+◌, ◌<◌, ◌≤◌, Bool, true, false, cond, not, ◌&&◌, ◌==◌, List, [], ◌∷◌, Option, Some, None, refl, sym, ap, ◌∙◌, subst, arith, slice_get, Contains}
use Rattle.std.specs.List.{find, list_any, AllByRecursion}
use Rattle.std.specs.List.Sorted.{IsStrictlySortedBy}
use Rattle.std.specs.declared.cmp.Ordering.TheVariants.{Less}
use Rattle.std.specs.Ordering.{is_eq, is_le}
use Rattle.std.proofs.lemmas.Bool.{and_parts, both_ways, cases_lt, eqb-true, eq-eqb}
use Rattle.ltx_model.specs.declared.commands.Op.{Op}
use Rattle.ltx_model.specs.declared.commands.Op.TheVariants.{Get, Scan, Put, Del}
use Rattle.ltx_model.specs.declared.writes.Look.{Look}
use Rattle.ltx_model.specs.declared.looked.Noted.{Noted}
use Rattle.ltx_model.specs.declared.looked.Reach.{Reach}
use Rattle.ltx_model.specs.declared.looked.Reach.TheVariants.{Nothing, Point, Range}
use Rattle.ltx_model.specs.Keys.{Cell, key_cmp, cell_cmp, same_cell, in_range, IsRising, AreAbove}
use Rattle.ltx_model.specs.Operations.{table_of, writes_at, looks_up}
use Rattle.ltx_model.specs.LastWrites.{LastWrite}
use Rattle.ltx_model.specs.Notes.{look_of, is_one_of, IsRangeBy, IsPointBy, IsReachBy, IsNoteBy}
use Rattle.ltx_model.specs.Decisions.{IsAskedLook}
use Rattle.ltx_model.proofs.KeyOrder.{key_itself}
use Rattle.ltx_model.proofs.CellOrder.{cell_itself, same_cell_same, same_cell_refl, in_one_table}
use Rattle.ltx_lemmas.proofs.Lists.{some_same, none_some, true_false, find_passes, find_contains, find_not, all_contains, contains_cases, contains_none}
use Rattle.ltx_forward.specs.Earliest.{HasOrderedOwn}
use Rattle.ltx_forward.specs.Lates.{is_late_look, late_look}

-- a key of a table
abbrev pub at : ℕ → List ℕ → Cell
at table key = record { table = table; key = key }

-- so many notes have no late look
abbrev pub ArePassed : (ℕ → Bool) → ℕ → List Noted → Type 0
ArePassed late k notes = (j : ℕ) (note : Noted) → j < k → slice_get notes j ≡ Some note → HasOrderedOwn note.reach → late_look late note.reach ≡ None

-- none yet, and one more
pub none_passed : (late : ℕ → Bool) (notes : List Noted) → ArePassed late 0 notes
none_passed late notes j note less is rises = absurd (let no : ⊥ = omega (arith, less) in no)

pub one_passed : (late : ℕ → Bool) (k : ℕ) (notes : List Noted) (this : Noted) → ArePassed late k notes → slice_get notes k ≡ Some this → (HasOrderedOwn this.reach → late_look late this.reach ≡ None) → ArePassed late (k + 1) notes
one_passed late k notes this passed here none j note less is rises = by_place (cases_lt j k) where
  by_place : (j < k) ⊎ (k ≤ j) → late_look late note.reach ≡ None
  by_place (inl before) = passed j note before is rises
  by_place (inr behind) =
      let same_place : k ≡ j = omega (arith, behind, less) in
      let same : this ≡ note = some_same (sym here ∙ ap (slice_get notes) same_place ∙ is) in
      subst (λ (n : Noted). HasOrderedOwn n.reach → late_look late n.reach ≡ None) same none rises

-- in one table, cells rise as their keys do
keys_above : (table : ℕ) (key : List ℕ) (keys : List (List ℕ)) → AreAbove (at table) (at table key) keys → AllByRecursion (λ k. key_cmp key k ≡ Less) keys
keys_above table key [] above = tt
keys_above table key (k ∷ ks) above = (sym (in_one_table table key k) ∙ above.0, keys_above table key ks above.1)

rising_keys : (table : ℕ) (keys : List (List ℕ)) → IsRising (at table) keys → IsStrictlySortedBy key_cmp keys
unfolding IsStrictlySortedBy
rising_keys table [] rising = tt
rising_keys table (k ∷ ks) rising = (keys_above table k ks rising.0, rising_keys table ks rising.1)

-- the cell of a look
abbrev cell_at : ℕ → Look → Cell
cell_at table look = at table look.key

-- the look of a key that has one
look_here : (table : ℕ) (looks : List Look) (look : Look) → IsRising (cell_at table) looks → Contains looks look → look_of looks look.key ≡ Some look
look_here table [] look rising here = absurd (contains_none look here)
look_here table (l ∷ ls) look rising here = by_place (contains_cases l ls look here) (look_here table ls look rising.1) where
  by_place : (l ≡ look) ⊎ Contains ls look → (Contains ls look → look_of ls look.key ≡ Some look) → cond (is_eq (key_cmp l.key look.key)) (Some l) (look_of ls look.key) ≡ Some look
  by_place (inl same) later =
      let own : is_eq (key_cmp l.key look.key) ≡ true = ap (λ (x : Look). is_eq (key_cmp l.key x.key)) (sym same) ∙ ap is_eq (key_itself l.key) in
      ap (λ b. cond b (Some l) (look_of ls look.key)) own ∙ ap Some same
  by_place (inr there) later =
      let less : cell_cmp (cell_at table l) (cell_at table look) ≡ Less = all_contains (λ (x : Look). cell_cmp (cell_at table l) (cell_at table x) ≡ Less) ls look rising.0 there in
      let other : is_eq (key_cmp l.key look.key) ≡ false = ap is_eq (sym (in_one_table table l.key look.key) ∙ less) in
      ap (λ b. cond b (Some l) (look_of ls look.key)) other ∙ later there

-- the first look that passes a test has the least key of those that do
first_least : (table : ℕ) (test : Look → Bool) (looks : List Look) (look other : Look) → IsRising (cell_at table) looks → find test looks ≡ Some look → Contains looks other → test other ≡ true → is_le (cell_cmp (cell_at table look) (cell_at table other)) ≡ true
first_least table test [] look other rising is here passes = absurd (none_some is)
first_least table test (l ∷ ls) look other rising is here passes = by_test (test l) refl is (contains_cases l ls other here) (λ h c. first_least table test ls look other rising.1 h c passes) where
  by_test : (b : Bool) → test l ≡ b → cond b (Some l) (find test ls) ≡ Some look → (l ≡ other) ⊎ Contains ls other → (find test ls ≡ Some look → Contains ls other → is_le (cell_cmp (cell_at table look) (cell_at table other)) ≡ true)
      → is_le (cell_cmp (cell_at table look) (cell_at table other)) ≡ true
  by_test true e h (inl same) later = ap (λ (x : Look). is_le (cell_cmp (cell_at table x) (cell_at table other))) (sym (some_same h) ∙ same) ∙ ap is_le (cell_itself (cell_at table other))
  by_test true e h (inr there) later =
      let less : cell_cmp (cell_at table l) (cell_at table other) ≡ Less = all_contains (λ (x : Look). cell_cmp (cell_at table l) (cell_at table x) ≡ Less) ls other rising.0 there in
      ap (λ (x : Look). is_le (cell_cmp (cell_at table x) (cell_at table other))) (sym (some_same h)) ∙ ap is_le less
  by_test false e h (inl same) later = absurd (both_ways (test other) (sym (ap test same) ∙ e) passes)
  by_test false e h (inr there) later = later h there

not_true : (b : Bool) → not b ≡ true → b ≡ false
not_true true e = cc
not_true false e = refl

module _ (late asked : ℕ → Bool) (last : Cell → Option LastWrite) (within : (n : ℕ) → late n ≡ true → asked n ≡ true) where
  -- The operation looks the key up, and its last write is late and by n.
  pub record IsLateKey (earlier : List Op) (op : Op) (cell : Cell) (n : ℕ) : Type 0 where
    pub looks : looks_up cell earlier op ≡ true
    pub write : LastWrite
    pub written : last cell ≡ Some write
    pub writer : write.writer ≡ n
    pub after : late n ≡ true

  -- The look is of a late key, and no lesser key is late.
  pub record IsLeastLate (earlier : List Op) (op : Op) (table : ℕ) (look : Look) : Type 0 where
    pub key : IsLateKey earlier op (at table look.key) look.writer
    pub least : (cell : Cell) (n : ℕ) → IsLateKey earlier op cell n → is_le (cell_cmp (at table look.key) cell) ≡ true

  -- the look of the least late key, or that there is none
  abbrev pub TellsLate : List Op → Op → ℕ → Option Look → Type 0
  TellsLate earlier op table None = (cell : Cell) (n : ℕ) → IsLateKey earlier op cell n → ⊥
  TellsLate earlier op table (Some look) = IsLeastLate earlier op table look

  abbrev tells : Cell → Option Look → Type 0
  tells = IsAskedLook asked last

  -- a late key has a look, by its writer
  late_has_look : (cell : Cell) (o : Option Look) (w : LastWrite) (n : ℕ) → tells cell o → last cell ≡ Some w → w.writer ≡ n → late n ≡ true → (look : Look) × (o ≡ Some look) × (look.key ≡ cell.key) × (look.writer ≡ n)
  late_has_look cell None w n told is number e = absurd (both_ways (asked w.writer) (told w is) (within w.writer (ap late number ∙ e)))
  late_has_look cell (Some look) w n told is number e =
      let same : ◌≡◌ {A = LastWrite} (record { writer = look.writer; gone = look.gone }) w = some_same (sym told.1 ∙ is) in
      (look, refl, told.0, ap (λ (x : LastWrite). x.writer) same ∙ number)

  module _ (earlier : List Op) (table : ℕ) where
    point_key : (key : List ℕ) (cell : Cell) → looks_up cell earlier (Get table key) ≡ true → (at table key ≡ cell) × (list_any (writes_at cell) earlier ≡ false)
    point_key key cell e =
        let parts = and_parts (same_cell (at table key) cell) (not (list_any (writes_at cell) earlier)) e in
        (same_cell_same (at table key) cell parts.0, not_true (list_any (writes_at cell) earlier) parts.1)

    point : (key : List ℕ) (look : Option Look) (own : Bool) → IsPointBy tells earlier (at table key) look own → TellsLate earlier (Get table key) table (late_look late (Point key look own))
    point key None own p = λ cell n h.
        let (same, foreign) = point_key key cell h.looks in
        let mine : own ≡ false = p.own_key ∙ ap (λ c. list_any (writes_at c) earlier) same ∙ foreign in
        let found = late_has_look (at table key) None h.write n (p.looked mine) (ap last same ∙ h.written) h.writer h.after in
        none_some found.1
    point key (Some look) own p = by_tests (late look.writer) refl own refl where
      -- the key is looked up
      up : own ≡ false → looks_up (at table key) earlier (Get table key) ≡ true
      up mine = let foreign : list_any (writes_at (at table key)) earlier ≡ false = sym p.own_key ∙ mine in rw (same_cell_refl (at table key), foreign) refl

      -- so it is the late one
      of_point : (cell : Cell) (n : ℕ) (h : IsLateKey earlier (Get table key) cell n) → (at table key ≡ cell) × (own ≡ false) × (look.writer ≡ n)
      of_point cell n h =
          let (same, foreign) = point_key key cell h.looks in
          let mine : own ≡ false = p.own_key ∙ ap (λ c. list_any (writes_at c) earlier) same ∙ foreign in
          let (found, is, key_is, number) = late_has_look (at table key) (Some look) h.write n (p.looked mine) (ap last same ∙ h.written) h.writer h.after in
          (same, mine, ap (λ (x : Look). x.writer) (some_same is) ∙ number)

      by_tests : (l : Bool) → late look.writer ≡ l → (o : Bool) → own ≡ o → TellsLate earlier (Get table key) table (cond (l && not o) (Some look) None)
      by_tests true is true mine = λ cell n h. both_ways own (of_point cell n h).1 mine
      by_tests false is true mine = λ cell n h. both_ways own (of_point cell n h).1 mine
      by_tests false is false mine = λ cell n h. both_ways (late n) (ap late (sym (of_point cell n h).2) ∙ is) h.after
      by_tests true is false mine =
          let told = p.looked mine in
          let place : at table key ≡ at table look.key = ap (at table) (sym told.0) in
          record {
            key = record {
              looks = subst (λ c. looks_up c earlier (Get table key) ≡ true) place (up mine);
              write = record { writer = look.writer; gone = look.gone };
              written = ap last (sym place) ∙ told.1;
              writer = refl;
              after = is;
            };
            least = λ cell n h. ap is_le (ap (λ c. cell_cmp c cell) (sym place ∙ (of_point cell n h).0) ∙ cell_itself cell);
          }

    module _ (low high : List ℕ) (looks : List Look) (own : List (List ℕ)) (r : IsRangeBy tells earlier table low high looks own) where
      abbrev test : Look → Bool
      test = is_late_look late own

      -- what a late key says
      late_in : (cell : Cell) (n : ℕ) → IsLateKey earlier (Scan table low high) cell n → (look : Look) × Contains looks look × (test look ≡ true) × (at table look.key ≡ cell)
      late_in cell n h =
          let parts = and_parts ((cell.table == table) && in_range low high cell.key) (not (list_any (writes_at cell) earlier)) h.looks in
          let both = and_parts (cell.table == table) (in_range low high cell.key) parts.0 in
          let tables : table ≡ cell.table = sym (eqb-true cell.table table both.0) in
          let same : at table cell.key ≡ cell = λ k. record { table = tables k; key = cell.key } in
          let up : looks_up (at table cell.key) earlier (Scan table low high) ≡ true = ap (λ c. looks_up c earlier (Scan table low high)) same ∙ h.looks in
          let foreign : is_one_of own cell.key ≡ false = r.own_keys cell.key both.1 ∙ ap (λ c. list_any (writes_at c) earlier) same ∙ not_true (list_any (writes_at cell) earlier) parts.1 in
          let (look, is, key_is, number) = late_has_look (at table cell.key) (look_of looks cell.key) h.write n (r.looked cell.key up) (ap last same ∙ h.written) h.writer h.after in
          let here : Contains looks look = find_contains (λ (l : Look). is_eq (key_cmp l.key cell.key)) looks look is in
          let lately : late look.writer ≡ true = ap late number ∙ h.after in
          let fresh : is_one_of own look.key ≡ false = ap (is_one_of own) key_is ∙ foreign in
          (look, here, rw (lately, fresh) refl, ap (at table) key_is ∙ same)

      range : TellsLate earlier (Scan table low high) table (find test looks)
      range = by_find (find test looks) refl where
        by_find : (o : Option Look) → find test looks ≡ o → TellsLate earlier (Scan table low high) table o
        by_find None is = λ cell n h. let (look, here, passes, place) = late_in cell n h in both_ways (test look) (find_not test looks look is here) passes
        by_find (Some look) is =
            let here : Contains looks look = find_contains test looks look is in
            let passes = and_parts (late look.writer) (not (is_one_of own look.key)) (find_passes test looks look is) in
            let bounds : in_range low high look.key ≡ true = all_contains (λ (l : Look). in_range low high l.key ≡ true) looks look r.looks_within here in
            let foreign : list_any (writes_at (at table look.key)) earlier ≡ false = sym (r.own_keys look.key bounds) ∙ not_true (is_one_of own look.key) passes.1 in
            let one : (table == table) ≡ true = eq-eqb table table refl in
            let up : looks_up (at table look.key) earlier (Scan table low high) ≡ true = rw (one, bounds, foreign) refl in
            let told = subst (tells (at table look.key)) (look_here table looks look r.looks_rising here) (r.looked look.key up) in
            record {
              key = record { looks = up; write = record { writer = look.writer; gone = look.gone }; written = told.1; writer = refl; after = passes.0 };
              least = λ cell n h.
                  let (other, there, late_too, place) = late_in cell n h in
                  subst (λ c. is_le (cell_cmp (at table look.key) c) ≡ true) place (first_least table test looks look other r.looks_rising is there late_too);
            }

  -- an operation that looks nothing up has no late key
  nothing_put : (earlier : List Op) (table : ℕ) (key value : List ℕ) → TellsLate earlier (Put table key value) table None
  nothing_put earlier table key value cell n h = true_false (sym h.looks)

  nothing_del : (earlier : List Op) (table : ℕ) (key : List ℕ) → TellsLate earlier (Del table key) table None
  nothing_del earlier table key cell n h = true_false (sym h.looks)

  reach_tells : (earlier : List Op) (op : Op) (reach : Reach) → IsReachBy tells earlier op reach → TellsLate earlier op (table_of op) (late_look late reach)
  reach_tells earlier (Get table key) Nothing is = absurd is
  reach_tells earlier (Get table key) (Point k look own) is = subst (λ q. TellsLate earlier (Get table key) table (late_look late (Point q look own))) (sym is.0) (point earlier table key look own is.1)
  reach_tells earlier (Get table key) (Range l h looks own) is = absurd is
  reach_tells earlier (Scan table low high) Nothing is = absurd is
  reach_tells earlier (Scan table low high) (Point k look own) is = absurd is
  reach_tells earlier (Scan table low high) (Range l h looks own) is = range earlier table low high looks own is.2
  reach_tells earlier (Put table key value) Nothing is = nothing_put earlier table key value
  reach_tells earlier (Put table key value) (Point k look own) is = absurd is
  reach_tells earlier (Put table key value) (Range l h looks own) is = absurd is
  reach_tells earlier (Del table key) Nothing is = nothing_del earlier table key
  reach_tells earlier (Del table key) (Point k look own) is = absurd is
  reach_tells earlier (Del table key) (Range l h looks own) is = absurd is

  -- The late look of a note is that of the least late key of its operation.
  pub note_tells : (earlier : List Op) (op : Op) (note : Noted) → IsNoteBy tells earlier op note → TellsLate earlier op note.table (late_look late note.reach)
  note_tells earlier op note is = subst (λ t. TellsLate earlier op t (late_look late note.reach)) (sym is.table) (reach_tells earlier op note.reach is.reach)

  own_rises : (earlier : List Op) (op : Op) (reach : Reach) → IsReachBy tells earlier op reach → HasOrderedOwn reach
  own_rises earlier op Nothing is = tt
  own_rises earlier op (Point k look own) is = tt
  own_rises earlier (Get table key) (Range l h looks own) is = absurd is
  own_rises earlier (Scan table low high) (Range l h looks own) is = rising_keys table own is.2.own_rising
  own_rises earlier (Put table key value) (Range l h looks own) is = absurd is
  own_rises earlier (Del table key) (Range l h looks own) is = absurd is

  pub note_rises : (earlier : List Op) (op : Op) (note : Noted) → IsNoteBy tells earlier op note → HasOrderedOwn note.reach
  note_rises earlier op note is = own_rises earlier op note.reach is.reach
