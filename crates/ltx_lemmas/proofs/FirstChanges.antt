-- The first change that a short meets at its commit: it is one, and none stands before it.
use Rattle.std.proofs.Common.{◌≡◌, ◌≢◌, ◌⊎◌, inl, inr, ℕ, ◌<◌, Bool, true, false, cond, not, ◌&&◌, ◌||◌, List, [], ◌∷◌, ◌++◌, map, Option, Some, None, option_map, refl, sym, ap, ◌∙◌, subst, arith, Contains}
use Rattle.std.specs.List.{find, AllByRecursion}
use Rattle.std.proofs.lemmas.Bool.{eqb-true, and_parts}
use Rattle.ltx_model.specs.declared.commands.Op.{Op}
use Rattle.ltx_model.specs.declared.commands.Op.TheVariants.{Get, Scan, Put, Del}
use Rattle.ltx_model.specs.declared.rows.StoredRow.{StoredRow}
use Rattle.ltx_model.specs.Lists.{Numbered, numbered}
use Rattle.ltx_model.specs.Keys.{Cell, same_cell, IsRising}
use Rattle.ltx_model.specs.StoredRows.{cell_of, row_at, writer_at}
use Rattle.ltx_model.specs.Operations.{covers, looks_up}
use Rattle.ltx_model.specs.States.{Step}
use Rattle.ltx_model.specs.Shorts.{Change, Changes, IsNotAfter, IsFirstChange, same_writer, candidates, is_changed, change_of, first_change}
use Rattle.ltx_lemmas.proofs.Lists.{some_same, none_some, contains_here, contains_cases, contains_parts, contains_back, all_contains, find_passes}
use Rattle.ltx_lemmas.proofs.Searches.{first_none, first_given, is_in, is_in_before, is_in_now, none_passes, numbered_item}
use Rattle.ltx_lemmas.proofs.FirstSearches.{number_behind, numbered_once, AreRisingCells, first_not_after, rising_both}
use Rattle.ltx_model.proofs.CellOrder.{cells_one}

differ : (a b : Option ℕ) → same_writer a b ≡ false → a ≢ b
differ None None e h = cc
differ None (Some n) e h = none_some h
differ (Some m) None e h = none_some (sym h)
differ (Some m) (Some n) e h = absurd (let same : m ≡ n = some_same h in let both : false ≡ true = sym e ∙ Rattle.std.proofs.Common.eq-eqb m n same in let no : ⊥ = cc in no)

differs : (a b : Option ℕ) → a ≢ b → same_writer a b ≡ false
differs None None ne = absurd (ne refl)
differs None (Some n) ne = refl
differs (Some m) None ne = refl
differs (Some m) (Some n) ne = Rattle.std.proofs.Common.ne_eqb m n (λ e. ne (ap Some e))

-- a key at which an operation sees a change is one of those that are searched
writer_none : (rows : List StoredRow) (q : Cell) → row_at rows q ≡ None → writer_at rows q ≡ None
writer_none rows q e = ap (option_map (λ (r : StoredRow). r.writer)) e

in_both : (before now : List StoredRow) (q : Cell) → writer_at before q ≢ writer_at now q → is_in q (Rattle.ltx_model.specs.Shorts.cells_of_both before now) ≡ true
in_both before now q ne = by_rows (row_at before q) refl (row_at now q) refl where
  by_rows : (a : Option StoredRow) → row_at before q ≡ a → (b : Option StoredRow) → row_at now q ≡ b → is_in q (Rattle.ltx_model.specs.Shorts.cells_of_both before now) ≡ true
  by_rows (Some row) e b f = is_in_before q before now row e
  by_rows None e (Some row) f = is_in_now q before now row f
  by_rows None e None f = absurd (ne (writer_none before q e ∙ sym (writer_none now q f)))

or_true : (b : Bool) → b ≡ true → (b || false) ≡ true
or_true true e = refl
or_true false e = cc

searched : (before now : List StoredRow) (op : Op) (earlier : List Op) (q : Cell) → looks_up q earlier op ≡ true → writer_at before q ≢ writer_at now q → is_in q (candidates before now op) ≡ true
searched before now (Get table key) earlier q looks ne = or_true (same_cell (record { table = table; key = key }) q) (and_parts (covers q (Get table key)) _ looks).0
searched before now (Scan table low high) earlier q looks ne = in_both before now q ne
searched before now (Put table key value) earlier q looks ne = cc
searched before now (Del table key) earlier q looks ne = cc

rising_candidates : (before now : List StoredRow) (op : Op) → IsRising cell_of before → AreRisingCells (candidates before now op)
rising_candidates before now (Get table key) rising = (tt, tt)
rising_candidates before now (Scan table low high) rising = rising_both before now rising
rising_candidates before now (Put table key value) rising = tt
rising_candidates before now (Del table key) rising = tt

-- a change is where the search passes
passes : (now : List StoredRow) (steps : List Step) (c : Change) (h : Changes now steps c) → is_changed now h.at.earlier h.at.item c.cell ≡ true
passes now steps c h =
    let ne : writer_at h.at.item.latest c.cell ≢ writer_at now c.cell = λ e. h.differ (sym h.found ∙ e ∙ h.current) in
    (λ i. h.looks i && not (differs (writer_at h.at.item.latest c.cell) (writer_at now c.cell) ne i))

candidate : (now : List StoredRow) (steps : List Step) (c : Change) (h : Changes now steps c) → is_in c.cell (candidates h.at.item.latest now h.at.item.op) ≡ true
candidate now steps c h = searched h.at.item.latest now h.at.item.op (map (λ (b : Step). b.op) h.at.earlier) c.cell h.looks (λ e. h.differ (sym h.found ∙ e ∙ h.current))

given_none : (now : List StoredRow) (o : Numbered Step) → change_of now o ≡ None → find (is_changed now o.earlier o.item) (candidates o.item.latest now o.item.op) ≡ None
given_none now o e = by_find (find (is_changed now o.earlier o.item) (candidates o.item.latest now o.item.op)) refl e where
  by_find : (f : Option Cell) → find (is_changed now o.earlier o.item) (candidates o.item.latest now o.item.op) ≡ f → option_map (λ cell. let c : Change = record { op = o.number; cell = cell; found = writer_at o.item.latest cell; current = writer_at now cell } in c) f ≡ None
      → find (is_changed now o.earlier o.item) (candidates o.item.latest now o.item.op) ≡ None
  by_find None is h = is
  by_find (Some cell) is h = absurd (none_some (sym h))

-- nothing is seen to change at an operation of which nothing is given
unchanged : (now : List StoredRow) (steps : List Step) (c : Change) (h : Changes now steps c) → change_of now h.at ≡ None → ⊥
unchanged now steps c h none =
    let fails : is_changed now h.at.earlier h.at.item c.cell ≡ false = none_passes (is_changed now h.at.earlier h.at.item) c.cell (candidates h.at.item.latest now h.at.item.op) (given_none now h.at none) (candidate now steps c h) in
    let both : false ≡ true = sym fails ∙ passes now steps c h in let no : ⊥ = cc in no

-- with no first change nothing has changed
pub no_change : (now : List StoredRow) (steps : List Step) → first_change now steps ≡ None → (c : Change) → Changes now steps c → ⊥
unfolding first_change
no_change now steps none c h = unchanged now steps c h (all_contains (λ o. change_of now o ≡ None) (numbered steps) h.at (first_none (change_of now) (numbered steps) none) h.here)

-- what is given of an operation
record Given (now : List StoredRow) (o : Numbered Step) (c : Change) : Type 0 where
  pub op : o.number ≡ c.op
  pub first : find (is_changed now o.earlier o.item) (candidates o.item.latest now o.item.op) ≡ Some c.cell
  pub found : writer_at o.item.latest c.cell ≡ c.found
  pub current : writer_at now c.cell ≡ c.current

given_is : (now : List StoredRow) (o : Numbered Step) (c : Change) → change_of now o ≡ Some c → Given now o c
given_is now o c e = by_find (find (is_changed now o.earlier o.item) (candidates o.item.latest now o.item.op)) refl e where
  by_find : (f : Option Cell) → find (is_changed now o.earlier o.item) (candidates o.item.latest now o.item.op) ≡ f → option_map (λ cell. let d : Change = record { op = o.number; cell = cell; found = writer_at o.item.latest cell; current = writer_at now cell } in d) f ≡ Some c → Given now o c
  by_find None is h = absurd (none_some h)
  by_find (Some cell) is h =
      let same : (let d : Change = record { op = o.number; cell = cell; found = writer_at o.item.latest cell; current = writer_at now cell } in d) ≡ c = some_same h in
      subst (λ (d : Change). Given now o d) same (record { op = refl; first = is; found = refl; current = refl })

changes_at : (now : List StoredRow) (steps : List Step) (o : Numbered Step) (c : Change) → Contains (numbered steps) o → Given now o c → Changes now steps c
changes_at now steps o c here g =
    let test = and_parts (looks_up c.cell (map (λ (b : Step). b.op) o.earlier) o.item.op) _ (find_passes (is_changed now o.earlier o.item) (candidates o.item.latest now o.item.op) c.cell g.first) in
    let ne : writer_at o.item.latest c.cell ≢ writer_at now c.cell = differ (writer_at o.item.latest c.cell) (writer_at now c.cell) (Rattle.std.proofs.lemmas.Bool.not-true _ test.1) in
    record {
      at = o;
      here = here;
      same = g.op;
      looks = test.0;
      found = g.found;
      current = g.current;
      differ = λ e. ne (g.found ∙ e ∙ sym g.current);
    }

-- The first change is one, and no other has a lesser operation, or the same one and a lesser key.
pub first_change_is : (now : List StoredRow) (steps : List Step) → AllByRecursion (λ (b : Step). IsRising cell_of b.latest) steps → (c : Change) → first_change now steps ≡ Some c → IsFirstChange now steps c
unfolding first_change
first_change_is now steps rising c is =
    let g = first_given (change_of now) (numbered steps) c is in
    let here : Contains (numbered steps) g.item = subst (λ l. Contains l g.item) (sym g.parts) (contains_back g.front (g.item ∷ g.back) g.item (contains_here g.item g.back)) in
    let given = given_is now g.item c g.gives in
    record { changes = changes_at now steps g.item c here given; first = λ other h. by_place g.front g.item g.back g.parts g.none given (all_contains (λ (b : Step). IsRising cell_of b.latest) steps g.item.item rising (numbered_item steps g.item here)) other h (contains_parts g.front (g.item ∷ g.back) h.at (subst (λ l. Contains l h.at) g.parts h.here)) } where
      at_item : (item : Numbered Step) → Given now item c → IsRising cell_of item.item.latest → (other : Change) (h : Changes now steps other) → item ≡ h.at → IsNotAfter c.op c.cell other.op other.cell
      at_item item given rows other h same = inr (
        sym given.op ∙ ap (λ (o : Numbered Step). o.number) same ∙ h.same,
        first_not_after (is_changed now item.earlier item.item) (candidates item.item.latest now item.item.op) c.cell other.cell (rising_candidates item.item.latest now item.item.op rows) given.first
            (subst (λ (o : Numbered Step). is_in other.cell (candidates o.item.latest now o.item.op) ≡ true) (sym same) (candidate now steps other h))
            (subst (λ (o : Numbered Step). is_changed now o.earlier o.item other.cell ≡ true) (sym same) (passes now steps other h)),
      )

      behind : (front : List (Numbered Step)) (item : Numbered Step) (back : List (Numbered Step)) → numbered steps ≡ front ++ item ∷ back → Given now item c → (other : Change) (h : Changes now steps other) → Contains back h.at → IsNotAfter c.op c.cell other.op other.cell
      behind front item back parts given other h later =
          let less : item.number < h.at.number = number_behind steps front item back h.at parts later in
          inl (subst (λ n. n < other.op) given.op (subst (λ n. item.number < n) h.same less))

      by_place : (front : List (Numbered Step)) (item : Numbered Step) (back : List (Numbered Step)) → numbered steps ≡ front ++ item ∷ back → AllByRecursion (λ o. change_of now o ≡ None) front → Given now item c → IsRising cell_of item.item.latest
          → (other : Change) (h : Changes now steps other) → Contains front h.at ⊎ Contains (item ∷ back) h.at → IsNotAfter c.op c.cell other.op other.cell
      by_place front item back parts none given rows other h (inl before) = absurd (unchanged now steps other h (all_contains (λ o. change_of now o ≡ None) front h.at none before))
      by_place front item back parts none given rows other h (inr later) = by_rest (contains_cases item back h.at later) where
        by_rest : (item ≡ h.at) ⊎ Contains back h.at → IsNotAfter c.op c.cell other.op other.cell
        by_rest (inl same) = at_item item given rows other h same
        by_rest (inr after) = behind front item back parts given other h after

-- changes at one operation and one key are one
changes_once : (now : List StoredRow) (steps : List Step) (c d : Change) → Changes now steps c → Changes now steps d → c.op ≡ d.op → c.cell ≡ d.cell → c ≡ d
changes_once now steps c d h g ops cells =
    let at : h.at ≡ g.at = numbered_once steps h.at g.at h.here g.here (h.same ∙ ops ∙ sym g.same) in
    let found : c.found ≡ d.found = sym h.found ∙ (λ i. writer_at (at i).item.latest (cells i)) ∙ g.found in
    let current : c.current ≡ d.current = sym h.current ∙ (λ i. writer_at now (cells i)) ∙ g.current in
    λ i. record { op = ops i; cell = cells i; found = found i; current = current i }

pub not_after_once : (op op' : ℕ) (cell cell' : Cell) → IsNotAfter op cell op' cell' → IsNotAfter op' cell' op cell → (op ≡ op') × (cell ≡ cell')
not_after_once op op' cell cell' (inl less) (inl more) = absurd (let no : ⊥ = omega arith in no)
not_after_once op op' cell cell' (inl less) (inr g) = absurd (let eq : op' ≡ op = g.0 in let no : ⊥ = omega arith in no)
not_after_once op op' cell cell' (inr h) (inl more) = absurd (let eq : op ≡ op' = h.0 in let no : ⊥ = omega arith in no)
not_after_once op op' cell cell' (inr h) (inr g) = (h.0, cells_one cell cell' h.1 g.1)

-- and it is found
pub first_change_found : (now : List StoredRow) (steps : List Step) → AllByRecursion (λ (b : Step). IsRising cell_of b.latest) steps → (c : Change) → IsFirstChange now steps c → first_change now steps ≡ Some c
first_change_found now steps rising c f = by_found (first_change now steps) refl where
  by_found : (o : Option Change) → first_change now steps ≡ o → first_change now steps ≡ Some c
  by_found None e = absurd (no_change now steps e c f.changes)
  by_found (Some d) e =
      let g = first_change_is now steps rising d e in
      let same = not_after_once d.op c.op d.cell c.cell (g.first c f.changes) (f.first d g.changes) in
      e ∙ ap Some (changes_once now steps d c g.changes f.changes same.0 same.1)
