-- What notes tell of the steps that they are of: the first note with a difference tells the first change.
use Rattle.std.proofs.Common.{◌≡◌, ◌⊎◌, inl, inr, ℕ, zero, suc, ◌+◌, ◌-◌, ◌<◌, ◌≤◌, Bool, true, false, not, ◌&&◌, ◌==◌, List, [], ◌∷◌, ◌++◌, map, length, drop, length-drop, drop-drop, Option, Some, None, refl, sym, ap, ◌∙◌, subst, arith, slice_get}
use Rattle.std.specs.List.{list_any, AllByRecursion, Contains}
use Rattle.std.specs.List.Sorted.{IsStrictlySortedBy}
use Rattle.std.specs.declared.cmp.Ordering.{Ordering}
use Rattle.std.specs.declared.cmp.Ordering.TheVariants.{Less, Equal, Greater}
use Rattle.std.specs.Ordering.{is_eq, is_le}
use Rattle.std.proofs.lemmas.Bool.{and_parts, eqb-true, eq-eqb}
use Rattle.ltx_model.specs.declared.commands.Op.{Op}
use Rattle.ltx_model.specs.declared.commands.Op.TheVariants.{Get, Scan, Put, Del}
use Rattle.ltx_model.specs.declared.rows.StoredRow.{StoredRow}
use Rattle.ltx_model.specs.declared.writes.Look.{Look}
use Rattle.ltx_model.specs.declared.looked.Noted.{Noted}
use Rattle.ltx_model.specs.declared.looked.Reach.{Reach}
use Rattle.ltx_model.specs.declared.looked.Reach.TheVariants.{Nothing, Point, Range}
use Rattle.ltx_model.specs.Lists.{Numbered, numbered, numbered_from}
use Rattle.ltx_model.specs.Keys.{Cell, key_cmp, cell_cmp, same_cell, in_range, IsRising, AreAbove}
use Rattle.ltx_model.specs.StoredRows.{writer_at}
use Rattle.ltx_model.specs.Operations.{table_of, writes_at, looks_up}
use Rattle.ltx_model.specs.States.{Step}
use Rattle.ltx_model.specs.Shorts.{Change, Changes, IsNotAfter, IsFirstChange}
use Rattle.ltx_model.specs.Notes.{look_of, is_one_of, IsLook, IsRange, IsPoint, IsReach, IsNote, AreNotesOf, AreNotes, found_in, asks, found_at}
use Rattle.ltx_validate.specs.declared.difference.Difference.{Difference}
use Rattle.ltx_validate.specs.Verdicts.{AreMarkedAt}
use Rattle.ltx_validate.specs.Differences.{at, AreRisingLooks, IsOrdered, IsLeastDifference, Tells}
use Rattle.ltx_model.proofs.KeyOrder.{key_turned, key_itself, same_keys}
use Rattle.ltx_model.proofs.Orderings.{is_equal}
use Rattle.ltx_model.proofs.CellOrder.{same_cell_same, in_one_table}

-- the operations of steps
abbrev ops_of : List Step → List Op
ops_of steps = map (λ b. b.op) steps

-- the writer of a look
look_tells : (rows : List StoredRow) (cell : Cell) (look : Option Look) → IsLook rows cell look → found_in look ≡ writer_at rows cell
look_tells rows cell None is = sym is
look_tells rows cell (Some look) is = is.1

-- in one table, cells rise as their keys do
keys_above : (table : ℕ) (key : List ℕ) (keys : List (List ℕ)) → AreAbove (at table) (at table key) keys → AllByRecursion (λ k. key_cmp key k ≡ Less) keys
keys_above table key [] above = tt
keys_above table key (k ∷ ks) above = (sym (in_one_table table key k) ∙ above.0, keys_above table key ks above.1)

rising_keys : (table : ℕ) (keys : List (List ℕ)) → IsRising (at table) keys → IsStrictlySortedBy key_cmp keys
unfolding IsStrictlySortedBy
rising_keys table [] rising = tt
rising_keys table (k ∷ ks) rising = (keys_above table k ks rising.0, rising_keys table ks rising.1)

looks_above : (table : ℕ) (key : List ℕ) (looks : List Look) → AreAbove (λ look. at table look.key) (at table key) looks → AllByRecursion (λ look. key_cmp key look.key ≡ Less) looks
looks_above table key [] above = tt
looks_above table key (l ∷ ls) above = (sym (in_one_table table key l.key) ∙ above.0, looks_above table key ls above.1)

rising_looks : (table : ℕ) (looks : List Look) → IsRising (λ look. at table look.key) looks → AreRisingLooks looks
unfolding IsStrictlySortedBy
rising_looks table [] rising = tt
rising_looks table (l ∷ ls) rising = (looks_above table l.key ls rising.0, rising_looks table ls rising.1)

-- a note's lists stand in order
ordered_reach : (rows : List StoredRow) (earlier : List Op) (op : Op) (reach : Reach) → IsReach rows earlier op reach → IsOrdered reach
ordered_reach rows earlier (Get table key) Nothing is = absurd is
ordered_reach rows earlier (Get table key) (Point k look own) is = tt
ordered_reach rows earlier (Get table key) (Range l h looks own) is = absurd is
ordered_reach rows earlier (Scan table low high) Nothing is = absurd is
ordered_reach rows earlier (Scan table low high) (Point k look own) is = absurd is
ordered_reach rows earlier (Scan table low high) (Range l h looks own) is =
    let r = is.2 in
    let within : AllByRecursion (λ look. in_range l h look.key ≡ true) looks = rw (is.0, is.1) r.looks_within in
    (rising_looks table looks r.looks_rising, within, rising_keys table own r.own_rising)
ordered_reach rows earlier (Put table key value) Nothing is = tt
ordered_reach rows earlier (Put table key value) (Point k look own) is = absurd is
ordered_reach rows earlier (Put table key value) (Range l h looks own) is = absurd is
ordered_reach rows earlier (Del table key) Nothing is = tt
ordered_reach rows earlier (Del table key) (Point k look own) is = absurd is
ordered_reach rows earlier (Del table key) (Range l h looks own) is = absurd is

not_true : (b : Bool) → not b ≡ true → b ≡ false
not_true true e = cc
not_true false e = refl

-- what a look-up of a key says of the note
record IsAsked (rows : List StoredRow) (table : ℕ) (reach : Reach) (cell : Cell) : Type 0 where
  pub of_table : table ≡ cell.table
  pub asked : asks reach cell.key ≡ true
  pub found : found_at reach cell.key ≡ writer_at rows cell

asked_point : (rows : List StoredRow) (earlier : List Op) (table : ℕ) (key : List ℕ) (look : Option Look) (own : Bool) (cell : Cell) → IsPoint rows earlier (at table key) look own → looks_up cell earlier (Get table key) ≡ true
    → IsAsked rows table (Point key look own) cell
asked_point rows earlier table key look own cell p e =
    let parts = and_parts (same_cell (at table key) cell) (not (list_any (writes_at cell) earlier)) e in
    let same : at table key ≡ cell = same_cell_same (at table key) cell parts.0 in
    let foreign : own ≡ false = p.own_key ∙ ap (λ c. list_any (writes_at c) earlier) same ∙ not_true (list_any (writes_at cell) earlier) parts.1 in
    subst (IsAsked rows table (Point key look own)) same (record { of_table = refl; asked = rw (foreign, key_itself key) refl; found = look_tells rows (at table key) look (p.looked foreign) })

asked_range : (rows : List StoredRow) (earlier : List Op) (table : ℕ) (low high : List ℕ) (looks : List Look) (own : List (List ℕ)) (cell : Cell) → IsRange rows earlier table low high looks own → looks_up cell earlier (Scan table low high) ≡ true
    → IsAsked rows table (Range low high looks own) cell
asked_range rows earlier table low high looks own cell r e =
    let parts = and_parts ((cell.table == table) && in_range low high cell.key) (not (list_any (writes_at cell) earlier)) e in
    let both = and_parts (cell.table == table) (in_range low high cell.key) parts.0 in
    let tables : table ≡ cell.table = sym (eqb-true cell.table table both.0) in
    let same : at table cell.key ≡ cell = λ i. record { table = tables i; key = cell.key } in
    let foreign : is_one_of own cell.key ≡ false = r.own_keys cell.key both.1 ∙ ap (λ c. list_any (writes_at c) earlier) same ∙ not_true (list_any (writes_at cell) earlier) parts.1 in
    let up : looks_up (at table cell.key) earlier (Scan table low high) ≡ true = ap (λ c. looks_up c earlier (Scan table low high)) same ∙ e in
    record { of_table = tables; asked = rw (both.1, foreign) refl; found = look_tells rows (at table cell.key) (look_of looks cell.key) (r.looked cell.key up) ∙ ap (writer_at rows) same }

asked_reach : (rows : List StoredRow) (earlier : List Op) (op : Op) (reach : Reach) (cell : Cell) → IsReach rows earlier op reach → looks_up cell earlier op ≡ true → IsAsked rows (table_of op) reach cell
asked_reach rows earlier (Get table key) Nothing cell is e = absurd is
asked_reach rows earlier (Get table key) (Point k look own) cell is e = subst (λ q. IsAsked rows table (Point q look own) cell) (sym is.0) (asked_point rows earlier table key look own cell is.1 e)
asked_reach rows earlier (Get table key) (Range l h looks own) cell is e = absurd is
asked_reach rows earlier (Scan table low high) Nothing cell is e = absurd is
asked_reach rows earlier (Scan table low high) (Point k look own) cell is e = absurd is
asked_reach rows earlier (Scan table low high) (Range l h looks own) cell is e =
    rw (is.0, is.1) (asked_range rows earlier table low high looks own cell is.2 e)
asked_reach rows earlier (Put table key value) reach cell is e = cc
asked_reach rows earlier (Del table key) reach cell is e = cc

-- what a note asks for its operation looks up
up_point : (rows : List StoredRow) (earlier : List Op) (table : ℕ) (key : List ℕ) (look : Option Look) (own : Bool) (k : List ℕ) → IsPoint rows earlier (at table key) look own → asks (Point key look own) k ≡ true → looks_up (at table k) earlier (Get table key) ≡ true
up_point rows earlier table key look own k p e =
    let parts = and_parts (not own) (is_eq (key_cmp key k)) e in
    let same : key ≡ k = same_keys key k (is_equal (key_cmp key k) parts.1) in
    let foreign : list_any (writes_at (at table key)) earlier ≡ false = sym p.own_key ∙ not_true own parts.0 in
    let here : same_cell (at table key) (at table key) ≡ true = ap is_eq (in_one_table table key key ∙ key_itself key) in
    subst (λ q. looks_up (at table q) earlier (Get table key) ≡ true) same (rw (here, foreign) refl)

up_range : (rows : List StoredRow) (earlier : List Op) (table : ℕ) (low high : List ℕ) (looks : List Look) (own : List (List ℕ)) (k : List ℕ) → IsRange rows earlier table low high looks own → asks (Range low high looks own) k ≡ true
    → looks_up (at table k) earlier (Scan table low high) ≡ true
up_range rows earlier table low high looks own k r e =
    let parts = and_parts (in_range low high k) (not (is_one_of own k)) e in
    let foreign : list_any (writes_at (at table k)) earlier ≡ false = sym (r.own_keys k parts.0) ∙ not_true (is_one_of own k) parts.1 in
    let here : (table == table) ≡ true = eq-eqb table table refl in
    rw (here, parts.0, foreign) refl

up_reach : (rows : List StoredRow) (earlier : List Op) (op : Op) (reach : Reach) (k : List ℕ) → IsReach rows earlier op reach → asks reach k ≡ true → looks_up (at (table_of op) k) earlier op ≡ true
up_reach rows earlier op Nothing k is e = cc
up_reach rows earlier (Get table key) (Point p look own) k is e = up_point rows earlier table key look own k is.1 (subst (λ q. asks (Point q look own) k ≡ true) is.0 e)
up_reach rows earlier (Get table key) (Range l h looks own) k is e = absurd is
up_reach rows earlier (Scan table low high) (Point p look own) k is e = absurd is
up_reach rows earlier (Scan table low high) (Range l h looks own) k is e = up_range rows earlier table low high looks own k is.2 (subst (λ q. asks (Range q high looks own) k ≡ true) is.0 (subst (λ q. asks (Range l q looks own) k ≡ true) is.1 e))
up_reach rows earlier (Put table key value) (Point p look own) k is e = absurd is
up_reach rows earlier (Put table key value) (Range l h looks own) k is e = absurd is
up_reach rows earlier (Del table key) (Point p look own) k is e = absurd is
up_reach rows earlier (Del table key) (Range l h looks own) k is e = absurd is

-- items of a list
module _ {A : Type 0} where
  contains_here : (x : A) (xs : List A) → Contains (x ∷ xs) x
  contains_here x xs = (0, omega arith, refl)

  contains_later : (x : A) (xs : List A) (y : A) → Contains xs y → Contains (x ∷ xs) y
  contains_later x xs y (k, below, is) = (suc k, omega (arith, below), is)

  contains_cases : (x : A) (xs : List A) (y : A) → Contains (x ∷ xs) y → (x ≡ y) ⊎ Contains xs y
  contains_cases x xs y (zero, below, is) = inl is
  contains_cases x xs y (suc k, below, is) = inr (k, omega (arith, below), is)

  contains_none : (y : A) → Contains [] y → ⊥
  contains_none y (k, below, is) = omega (arith, below)

-- a mark that is left is one of the marks
pub next_place : (k : ℕ) (marks : List ℕ) (mark : ℕ) (left : List ℕ) → drop k marks ≡ mark ∷ left → k < length marks
next_place k marks mark left next = let count : length marks - k ≡ suc (length left) = sym (length-drop k marks) ∙ ap length next in omega (arith, count)

pub next_left : (k : ℕ) (marks : List ℕ) (mark : ℕ) (left : List ℕ) → drop k marks ≡ mark ∷ left → left ≡ drop (k + 1) marks
next_left k marks mark left next = ap (drop 1) (sym next) ∙ drop-drop 1 k marks

-- the last of the marks
pub no_more : (k n : ℕ) (marks : List ℕ) → drop k marks ≡ [] → length marks ≡ n → k ≤ n → k ≡ n
no_more k n marks none count le = let left : length marks - k ≡ 0 = sym (length-drop k marks) ∙ ap length none in omega (arith, left, count, le)

module _ (rows_at : ℕ → List StoredRow) (now : List StoredRow) where
  -- what is checked of a note and its mark: none of its keys has another writer now than at the mark
  abbrev pub IsPassed : Noted → ℕ → Type 0
  IsPassed note mark = IsOrdered note.reach → Tells (rows_at mark) note.table note.reach None → Tells now note.table note.reach None

  -- so many notes have passed
  abbrev pub ArePassed : ℕ → List Noted → List ℕ → Type 0
  ArePassed zero notes marks = Unit {0}
  ArePassed (suc k) (note ∷ notes) (mark ∷ marks) = IsPassed note mark × ArePassed k notes marks
  ArePassed (suc k) notes marks = ⊥

  -- one more
  passed_next : (k : ℕ) (notes : List Noted) (marks : List ℕ) (mark : ℕ) (left : List ℕ) → k < length notes → drop k marks ≡ mark ∷ left → ArePassed k notes marks → ((note : Noted) → slice_get notes k ≡ Some note → IsPassed note mark) → ArePassed (suc k) notes marks
  passed_next k [] marks mark left within next passed this = absurd (omega (arith, within))
  passed_next zero (n ∷ ns) [] mark left within next passed this = cc
  passed_next zero (n ∷ ns) (m ∷ ms) mark left within next passed this = let level : mark ≡ m = cc in (subst (λ q. IsPassed n q) level (this n refl), tt)
  passed_next (suc k) (n ∷ ns) [] mark left within next passed this = cc
  passed_next (suc k) (n ∷ ns) (m ∷ ms) mark left within next passed this = (passed.0, passed_next k ns ms mark left (omega (arith, within)) next passed.1 this)

  pub passed_more : (k : ℕ) (notes : List Noted) (marks : List ℕ) (mark : ℕ) (left : List ℕ) → k < length notes → drop k marks ≡ mark ∷ left → ArePassed k notes marks → ((note : Noted) → slice_get notes k ≡ Some note → IsPassed note mark)
      → ArePassed (k + 1) notes marks
  passed_more k notes marks mark left within next passed this = let one : suc k ≡ k + 1 = omega arith in subst (λ j. ArePassed j notes marks) one (passed_next k notes marks mark left within next passed this)

  -- the note at a place passes
  pub passed_by : (notes : List Noted) (k : ℕ) (this : Noted) (mark : ℕ) → slice_get notes k ≡ Some this → IsPassed this mark → (note : Noted) → slice_get notes k ≡ Some note → IsPassed note mark
  passed_by notes k this mark here passed note is = let same : this ≡ note = cc in subst (λ n. IsPassed n mark) same passed

  -- at the newest mark a note passes
  pub passed_at : (mark : ℕ) → rows_at mark ≡ now → (note : Noted) → IsPassed note mark
  passed_at mark rows note ordered before = subst (λ r. Tells r note.table note.reach None) rows before

  -- the note of a numbered step
  abbrev IsNoteOf : Numbered Step → Noted → Type 0
  IsNoteOf o note = IsNote o.item.latest (ops_of o.earlier) o.item.op note

  -- no key that the step looked up has another writer now
  abbrev IsUnchanged : Numbered Step → Type 0
  IsUnchanged o = (cell : Cell) → looks_up cell (ops_of o.earlier) o.item.op ≡ true → writer_at o.item.latest cell ≡ writer_at now cell

  asked : (o : Numbered Step) (note : Noted) → IsNoteOf o note → (cell : Cell) → looks_up cell (ops_of o.earlier) o.item.op ≡ true → IsAsked o.item.latest note.table note.reach cell
  asked o note n cell e = subst (λ t. IsAsked o.item.latest t note.reach cell) (sym n.table) (asked_reach o.item.latest (ops_of o.earlier) o.item.op note.reach cell n.reach e)

  -- at the step's moment the writers are those of the looks
  told : (o : Numbered Step) (note : Noted) → IsNoteOf o note → Tells o.item.latest note.table note.reach None
  told o note n key asks_it =
      let up : looks_up (at note.table key) (ops_of o.earlier) o.item.op ≡ true =
      subst (λ t. looks_up (at t key) (ops_of o.earlier) o.item.op ≡ true) (sym n.table) (up_reach o.item.latest (ops_of o.earlier) o.item.op note.reach key n.reach asks_it) in
      (asked o note n (at note.table key) up).found

  unchanged_by : (o : Numbered Step) (note : Noted) (mark : ℕ) → IsNoteOf o note → rows_at mark ≡ o.item.latest → IsPassed note mark → IsUnchanged o
  unchanged_by o note mark n rows passed cell e =
      let a = asked o note n cell e in
      let before : Tells (rows_at mark) note.table note.reach None = subst (λ r. Tells r note.table note.reach None) (sym rows) (told o note n) in
      let same : found_at note.reach cell.key ≡ writer_at now (at note.table cell.key) = passed (ordered_reach o.item.latest (ops_of o.earlier) o.item.op note.reach n.reach) before cell.key a.asked in
      let here : at note.table cell.key ≡ cell = λ i. record { table = a.of_table i; key = cell.key } in
      sym a.found ∙ same ∙ ap (writer_at now) here

  -- numbers are not below the first one
  number_from : (n : ℕ) (earlier steps : List Step) (o : Numbered Step) → Contains (numbered_from n earlier steps) o → n ≤ o.number
  number_from n earlier [] o c = absurd (contains_none o c)
  number_from n earlier (s ∷ steps) o c = by_place (contains_cases (record { number = n; earlier = earlier; item = s }) (numbered_from (n + 1) (earlier ++ s ∷ []) steps) o c) (number_from (n + 1) (earlier ++ s ∷ []) steps o) where
    by_place : (◌≡◌ {A = Numbered Step} (record { number = n; earlier = earlier; item = s }) o) ⊎ Contains (numbered_from (n + 1) (earlier ++ s ∷ []) steps) o → (Contains (numbered_from (n + 1) (earlier ++ s ∷ []) steps) o → n + 1 ≤ o.number) → n ≤ o.number
    by_place (inl e) later = let same : n ≡ o.number = ap (λ z. z.number) e in omega (arith, same)
    by_place (inr d) later = let le = later d in omega (arith, le)

  all_unchanged : (n : ℕ) (earlier steps : List Step) (notes : List Noted) (marks : List ℕ) → AreNotesOf (numbered_from n earlier steps) notes → AreMarkedAt rows_at steps marks → ArePassed (length notes) notes marks
      → (o : Numbered Step) → Contains (numbered_from n earlier steps) o → IsUnchanged o
  all_unchanged n earlier [] notes marks are rows passed o c = absurd (contains_none o c)
  all_unchanged n earlier (s ∷ steps) [] marks are rows passed o c = absurd are
  all_unchanged n earlier (s ∷ steps) (note ∷ notes) [] are rows passed o c = absurd rows
  all_unchanged n earlier (s ∷ steps) (note ∷ notes) (mark ∷ marks) are rows passed o c =
      by_place (contains_cases (record { number = n; earlier = earlier; item = s }) (numbered_from (n + 1) (earlier ++ s ∷ []) steps) o c) (all_unchanged (n + 1) (earlier ++ s ∷ []) steps notes marks are.1 rows.1 passed.1 o) where
        by_place : (◌≡◌ {A = Numbered Step} (record { number = n; earlier = earlier; item = s }) o) ⊎ Contains (numbered_from (n + 1) (earlier ++ s ∷ []) steps) o → (Contains (numbered_from (n + 1) (earlier ++ s ∷ []) steps) o → IsUnchanged o) → IsUnchanged o
        by_place (inl e) later = subst IsUnchanged e (unchanged_by (record { number = n; earlier = earlier; item = s }) note mark are.0 rows.0 passed.0)
        by_place (inr d) later = later d

  -- all notes passed: nothing has changed
  pub passed_all : (notes : List Noted) (marks : List ℕ) → ArePassed (length notes) notes marks → (steps : List Step) → AreNotes steps notes → AreMarkedAt rows_at steps marks → (c : Change) → Changes now steps c → ⊥
  passed_all notes marks passed steps are rows c h = h.differ (sym h.found ∙ all_unchanged 1 [] steps notes marks are rows passed h.at h.here c.cell h.looks ∙ h.current)

  -- the step of a note, where all notes before it passed
  record IsStepOf (os : List (Numbered Step)) (number : ℕ) (note : Noted) (mark : ℕ) : Type 0 where
    pub at : Numbered Step
    pub here : Contains os at
    pub numbered_so : at.number ≡ number
    pub noted : IsNoteOf at note
    pub marked : rows_at mark ≡ at.item.latest
    pub others : (o : Numbered Step) → Contains os o → IsUnchanged o ⊎ (at ≡ o) ⊎ (number < o.number)

  -- the same with one step more before it
  step_later : (n : ℕ) (earlier : List Step) (s : Step) (steps : List Step) (k : ℕ) (note : Noted) (mark : ℕ) → IsUnchanged (record { number = n; earlier = earlier; item = s })
      → IsStepOf (numbered_from (n + 1) (earlier ++ s ∷ []) steps) (n + 1 + k) note mark → IsStepOf (numbered_from n earlier (s ∷ steps)) (n + suc k) note mark
  step_later n earlier s steps k note mark first_same later = record {
    at = later.at;
    here = contains_later first rest later.at later.here;
    numbered_so = let e = later.numbered_so in omega (arith, e);
    noted = later.noted;
    marked = later.marked;
    others = λ o c. by_place o (contains_cases first rest o c);
  } where
    first : Numbered Step
    first = record { number = n; earlier = earlier; item = s }

    rest : List (Numbered Step)
    rest = numbered_from (n + 1) (earlier ++ s ∷ []) steps

    in_rest : (o : Numbered Step) → IsUnchanged o ⊎ (later.at ≡ o) ⊎ (n + 1 + k < o.number) → IsUnchanged o ⊎ (later.at ≡ o) ⊎ (n + suc k < o.number)
    in_rest o (inl same) = inl same
    in_rest o (inr (inl e)) = inr (inl e)
    in_rest o (inr (inr less)) = inr (inr (omega (arith, less)))

    by_place : (o : Numbered Step) → (first ≡ o) ⊎ Contains rest o → IsUnchanged o ⊎ (later.at ≡ o) ⊎ (n + suc k < o.number)
    by_place o (inl e) = inl (subst IsUnchanged e first_same)
    by_place o (inr d) = in_rest o (later.others o d)

  step_of : (n : ℕ) (earlier steps : List Step) (notes : List Noted) (marks : List ℕ) (k : ℕ) (note : Noted) (mark : ℕ) (left : List ℕ) → AreNotesOf (numbered_from n earlier steps) notes → AreMarkedAt rows_at steps marks
      → slice_get notes k ≡ Some note → drop k marks ≡ mark ∷ left → ArePassed k notes marks → IsStepOf (numbered_from n earlier steps) (n + k) note mark
  step_of n earlier [] [] marks k note mark left are rows is next passed = cc
  step_of n earlier [] (m ∷ notes) marks k note mark left are rows is next passed = absurd are
  step_of n earlier (s ∷ steps) [] marks k note mark left are rows is next passed = absurd are
  step_of n earlier (s ∷ steps) (m ∷ notes) [] k note mark left are rows is next passed = absurd rows
  step_of n earlier (s ∷ steps) (m ∷ notes) (r ∷ marks) zero note mark left are rows is next passed = record {
    at = first;
    here = contains_here first rest;
    numbered_so = omega arith;
    noted = let same : m ≡ note = cc in subst (IsNoteOf first) same are.0;
    marked = let level : mark ≡ r = cc in ap rows_at level ∙ rows.0;
    others = λ o c. by_place o (contains_cases first rest o c);
  } where
    first : Numbered Step
    first = record { number = n; earlier = earlier; item = s }

    rest : List (Numbered Step)
    rest = numbered_from (n + 1) (earlier ++ s ∷ []) steps

    by_place : (o : Numbered Step) → (first ≡ o) ⊎ Contains rest o → IsUnchanged o ⊎ (first ≡ o) ⊎ (n + 0 < o.number)
    by_place o (inl e) = inr (inl e)
    by_place o (inr d) = inr (inr (let le = number_from (n + 1) (earlier ++ s ∷ []) steps o d in omega (arith, le)))
  step_of n earlier (s ∷ steps) (m ∷ notes) (r ∷ marks) (suc k) note mark left are rows is next passed =
      step_later n earlier s steps k note mark (unchanged_by (record { number = n; earlier = earlier; item = s }) m r are.0 rows.0 passed.0) (step_of (n + 1) (earlier ++ s ∷ []) steps notes marks k note mark left are.1 rows.1 is next passed.1)

  -- the change that a difference at a note tells
  abbrev change_at : ℕ → ℕ → Difference → Change
  change_at number table d = record { op = number; cell = at table d.key; found = d.found; current = d.current }

  -- The notes before this one passed, and it has a difference: that is the first change.
  pub first_is : (notes : List Noted) (marks : List ℕ) (k : ℕ) (note : Noted) (mark : ℕ) (left : List ℕ) (d : Difference) → slice_get notes k ≡ Some note → drop k marks ≡ mark ∷ left → ArePassed k notes marks
      → (IsOrdered note.reach → Tells (rows_at mark) note.table note.reach None → Tells now note.table note.reach (Some d)) → (steps : List Step) → AreNotes steps notes → AreMarkedAt rows_at steps marks → IsFirstChange now steps (change_at (k + 1) note.table d)
  first_is notes marks k note mark left d is next passed tells steps are marked = record { changes = changes; first = λ other h. by_others other h (s.others h.at h.here) } where
    s : IsStepOf (numbered steps) (1 + k) note mark
    s = step_of 1 [] steps notes marks k note mark left are marked is next passed

    rows : List StoredRow
    rows = s.at.item.latest

    reached : IsReach rows (ops_of s.at.earlier) s.at.item.op note.reach
    reached = s.noted.reach

    least : IsLeastDifference now note.table note.reach d
    least = tells (ordered_reach rows (ops_of s.at.earlier) s.at.item.op note.reach reached) (subst (λ r. Tells r note.table note.reach None) (sym s.marked) (told s.at note s.noted))

    cell : Cell
    cell = at note.table d.key

    looks : looks_up cell (ops_of s.at.earlier) s.at.item.op ≡ true
    looks = subst (λ t. looks_up (at t d.key) (ops_of s.at.earlier) s.at.item.op ≡ true) (sym s.noted.table) (up_reach rows (ops_of s.at.earlier) s.at.item.op note.reach d.key reached least.asked)

    changes : Changes now steps (change_at (k + 1) note.table d)
    changes = record {
      at = s.at;
      here = s.here;
      same = let e = s.numbered_so in omega (arith, e);
      looks = looks;
      found = sym (asked s.at note s.noted cell looks).found ∙ least.found;
      current = least.current;
      differ = least.differ;
    }

    not_lesser : (key : List ℕ) (o : Ordering) → key_cmp d.key key ≡ o → (key_cmp key d.key ≡ Less → ⊥) → is_le o ≡ true
    not_lesser key Less e none = refl
    not_lesser key Equal e none = refl
    not_lesser key Greater e none = absurd (none (key_turned d.key key Greater e))

    -- a change at the same step is not before
    here_too : (other : Change) (h : Changes now steps other) → s.at ≡ h.at → IsNotAfter (k + 1) cell other.op other.cell
    here_too other h e =
        let up : looks_up other.cell (ops_of s.at.earlier) s.at.item.op ≡ true = subst (λ o. looks_up other.cell (ops_of o.earlier) o.item.op ≡ true) (sym e) h.looks in
        let found : writer_at rows other.cell ≡ other.found = subst (λ o. writer_at o.item.latest other.cell ≡ other.found) (sym e) h.found in
        let a = asked s.at note s.noted other.cell up in
        let place : at note.table other.cell.key ≡ other.cell = λ i. record { table = a.of_table i; key = other.cell.key } in
        let same_op : k + 1 ≡ other.op = (let f = s.numbered_so in let g : 1 + k ≡ k + 1 = omega arith in sym g ∙ sym f ∙ ap (λ o. o.number) e ∙ h.same) in
        let none : key_cmp other.cell.key d.key ≡ Less → ⊥ = (λ less. h.differ (sym found ∙ sym a.found ∙ least.least other.cell.key less a.asked ∙ ap (writer_at now) place ∙ h.current)) in
        inr (same_op, subst (λ c. is_le (cell_cmp cell c) ≡ true) place (ap is_le (in_one_table note.table d.key other.cell.key) ∙ not_lesser other.cell.key (key_cmp d.key other.cell.key) refl none))

    by_others : (other : Change) (h : Changes now steps other) → IsUnchanged h.at ⊎ (s.at ≡ h.at) ⊎ (1 + k < h.at.number) → IsNotAfter (k + 1) cell other.op other.cell
    by_others other h (inl same) = absurd (h.differ (sym h.found ∙ same other.cell h.looks ∙ h.current))
    by_others other h (inr (inl e)) = here_too other h e
    by_others other h (inr (inr less)) = inl (let e = h.same in omega (arith, less, e))
