-- A table in its place among all, and what is kept after it changed.
use Rattle.std.proofs.Common.{◌≡◌, ℕ, zero, suc, ◌+◌, ◌<◌, ◌≤◌, List, [], ◌∷◌, ◌++◌, length, Option, Some, Result, Ok, Err, refl, sym, ap, ◌∙◌, subst, arith, slice_set, get_or}
use Rattle.std.proofs.lemmas.List.{set-get_or, length-set}
use Rattle.ltx_model.proofs.CellOrder.{cell_itself}
use Rattle.std.specs.List.{AllByRecursion}
use Rattle.std.specs.List.Sorted.{IsStrictlySortedBy}
use Rattle.std.specs.Result.{OnOk, OnErr}
use Rattle.ltx_model.specs.declared.memory.NoMemory.{NoMemory}
use Rattle.ltx_model.specs.declared.rows.StoredRow.{StoredRow}
use Rattle.ltx_model.specs.Keys.{put_in_order, IsRising}
use Rattle.ltx_index.specs.Pairs.{IsInOrder, value_at, with_pair}
use Rattle.ltx_chain.specs.declared.chain.Version.{Version}
use Rattle.ltx_chain.specs.Versions.{Versions}
use Rattle.ltx_store.specs.Kept.{Kept, cell_of_kept, chain_at, items_of, room_of, installed, room_at, versions_at, HasSameVersions, HasLoaded, AreUpToEach, of_table, of_tables, IsTables}
use Rattle.ltx_store.specs.Pairs.{IsRoomMade, IsLoaded}
use Rattle.ltx_store.proofs.Tables.{chain_at-of_tables, put-of_tables, rising-of_tables}
use Rattle.ltx_store.proofs.Changes.{same_put, same_itself, chain_at-put, loaded_put, each_put, each_items, up_to_push}

abbrev pub Pairs : Type 0
Pairs = List (List ℕ × Versions)

-- the pairs of table n, which stand at place i
pub record IsPlace (kept : List Kept) (ts : List Pairs) (i n : ℕ) (pairs : Pairs) : Type 0 where
  pub kept_is : of_tables 0 ts ≡ kept
  pub tables : IsTables ts
  pub at : i ≡ n
  pub within : n < 64
  pub is : pairs ≡ get_or ts i pairs

-- other pairs in its place
pub tables_set : (ts : List Pairs) (i : ℕ) (pairs : Pairs) → AllByRecursion IsInOrder ts → IsInOrder pairs → AllByRecursion IsInOrder (slice_set ts i pairs)
tables_set [] i pairs all order = tt
tables_set (x ∷ xs) zero pairs all order = (order, all.1)
tables_set (x ∷ xs) (suc i) pairs all order = (all.0, tables_set xs i pairs all.1 order)

module _ {kept : List Kept} {ts : List Pairs} {i n : ℕ} {pairs : Pairs} (p : IsPlace kept ts i n pairs) where
  pub in_range : i < length ts
  in_range = let count = p.tables.count in let at = p.at in let within = p.within in omega arith

module _ {kept : List Kept} {ts : List Pairs} {i n : ℕ} {pairs : Pairs} (p : IsPlace kept ts i n pairs) where
  pub kept_rising : IsRising cell_of_kept kept
  kept_rising = subst (IsRising cell_of_kept) p.kept_is (rising-of_tables 0 ts p.tables.in_order)

  -- a key's versions are its table's value
  pub chain_in_place : (key : List ℕ) → chain_at kept (record { table = n; key = key }) ≡ value_at pairs key
  chain_in_place key =
      let at = p.at in
      let sum : n ≡ 0 + i = omega arith in
      ap (λ k. chain_at k (record { table = n; key = key })) (sym p.kept_is) ∙ chain_at-of_tables 0 i n key ts pairs sum (in_range p) p.is

  -- a pair put into the table is a key put into the store
  pub put_in_place : (key : List ℕ) (v : Versions) → of_tables 0 (slice_set ts i (with_pair pairs key v)) ≡ put_in_order cell_of_kept (record { table = n; key = key; versions = v }) kept
  put_in_place key v =
      let at = p.at in
      let sum : n ≡ 0 + i = omega arith in
      put-of_tables 0 i n key v ts pairs sum (in_range p) p.is ∙ ap (put_in_order cell_of_kept (record { table = n; key = key; versions = v })) p.kept_is

  -- the table put back as it was
  pub same_in_place : of_tables 0 (slice_set ts i pairs) ≡ kept
  same_in_place = ap (of_tables 0) (ap (slice_set ts i) p.is ∙ set-get_or ts i pairs) ∙ p.kept_is

module _ {kept : List Kept} {ts : List Pairs} {i n : ℕ} {pairs : Pairs} (p : IsPlace kept ts i n pairs) where
  -- a version more
  pub installed_in_store : (key : List ℕ) (version : Version) (new : Pairs) → new ≡ with_pair pairs key (installed (value_at pairs key) version)
      → of_tables 0 (slice_set ts i new) ≡ put_in_order cell_of_kept (record { table = n; key = key; versions = installed (chain_at kept (record { table = n; key = key })) version }) kept
  installed_in_store key version new is =
      ap (λ l. of_tables 0 (slice_set ts i l)) is ∙ put_in_place p key (installed (value_at pairs key) version)
      ∙ ap (λ o. put_in_order cell_of_kept (record { table = n; key = key; versions = installed o version }) kept) (sym (chain_in_place p key))

  -- room made at a key
  pub made_in_store : (key : List ℕ) (new : Pairs) → IsRoomMade pairs new key
      → HasSameVersions kept (of_tables 0 (slice_set ts i new)) × (0 < room_at (of_tables 0 (slice_set ts i new)) (record { table = n; key = key }))
  made_in_store key new made =
      let e : Kept = record { table = n; key = key; versions = made.versions } in
      let is : of_tables 0 (slice_set ts i new) ≡ put_in_order cell_of_kept e kept = ap (λ l. of_tables 0 (slice_set ts i l)) made.put ∙ put_in_place p key made.versions in
      let items : e.versions.items ≡ versions_at kept (cell_of_kept e) = made.items ∙ ap items_of (sym (chain_in_place p key)) in
      let room : room_at kept (cell_of_kept e) ≤ e.versions.room = subst (λ o. room_of o ≤ made.versions.room) (sym (chain_in_place p key)) made.kept in
      let at : chain_at (put_in_order cell_of_kept e kept) (cell_of_kept e) ≡ Some e.versions = chain_at-put e kept (cell_of_kept e) ∙ rw (cell_itself (cell_of_kept e)) refl in
      (subst (HasSameVersions kept) (sym is) (same_put e kept (kept_rising p) items room), subst (λ l. 0 < room_at l (cell_of_kept e)) (sym is) (subst (λ o. 0 < room_of o) (sym at) made.made))

  -- where the call failed, the table is as before
  pub same_in_store : (new : Pairs) → new ≡ pairs → of_tables 0 (slice_set ts i new) ≡ kept
  same_in_store new is = ap (λ l. of_tables 0 (slice_set ts i l)) is ∙ same_in_place p

-- a first version, with mark 0
pub loaded_in_store : {kept : List Kept} {ts : List Pairs} {i : ℕ} {pairs : Pairs} (row : StoredRow) (new : Pairs) → IsPlace kept ts i row.table pairs
    → IsLoaded pairs new row.key (record { writer = row.writer; mark = 0; put = Some row.value }) → HasLoaded kept (of_tables 0 (slice_set ts i new)) row
loaded_in_store {kept} {ts} {i} row new p loaded =
    let is = ap (λ l. of_tables 0 (slice_set ts i l)) loaded.put ∙ put_in_place p row.key loaded.versions in
    subst (λ l. HasLoaded kept l row) (sym is) (loaded_put row loaded.versions kept (kept_rising p) loaded.items)

pub tables_with : (ts : List Pairs) (i : ℕ) (new : Pairs) → IsTables ts → IsInOrder new → IsTables (slice_set ts i new)
tables_with ts i new tables order = record { count = length-set ts i new ∙ tables.count; in_order = tables_set ts i new tables.in_order order }

-- the tables after a call that changed one of them, or failed
pub tables_after : (ts : List Pairs) (i : ℕ) (pairs new : Pairs) (r : Result (Unit {0}) NoMemory) → IsTables ts → pairs ≡ get_or ts i pairs → OnOk r (IsInOrder new) → OnErr r (new ≡ pairs) → IsTables (slice_set ts i new)
tables_after ts i pairs new (Ok u) tables is order same = tables_with ts i new tables order
tables_after ts i pairs new (Err e) tables is order same = subst IsTables (sym (ap (slice_set ts i) (same ∙ is) ∙ set-get_or ts i pairs)) tables

pub loaded_after : {kept : List Kept} {ts : List Pairs} {i : ℕ} {pairs : Pairs} (row : StoredRow) (new : Pairs) (r : Result (Unit {0}) NoMemory) → IsPlace kept ts i row.table pairs
    → OnOk r (IsLoaded pairs new row.key (record { writer = row.writer; mark = 0; put = Some row.value })) → OnErr r (new ≡ pairs)
    → OnOk r (HasLoaded kept (of_tables 0 (slice_set ts i new)) row) × OnErr r (of_tables 0 (slice_set ts i new) ≡ kept)
loaded_after row new (Ok u) p loaded same = (loaded_in_store row new p loaded, tt)
loaded_after row new (Err e) p loaded same = (tt, same_in_store p new same)

pub made_after : {kept : List Kept} {ts : List Pairs} {i n : ℕ} {pairs : Pairs} (key : List ℕ) (new : Pairs) (r : Result (Unit {0}) NoMemory) → IsPlace kept ts i n pairs
    → OnOk r (IsRoomMade pairs new key) → OnErr r (new ≡ pairs)
    → OnOk r (0 < room_at (of_tables 0 (slice_set ts i new)) (record { table = n; key = key })) × HasSameVersions kept (of_tables 0 (slice_set ts i new))
made_after key new (Ok u) p made same = let both = made_in_store p key new made in (both.1, both.0)
made_after {kept} key new (Err e) p made same = (tt, subst (HasSameVersions kept) (sym (same_in_store p new same)) (same_itself kept))

-- marks within the limits of their tables, after a change of a key
module _ {kept : List Kept} {ts : List Pairs} {i n : ℕ} {pairs : Pairs} (limit : ℕ → ℕ) (all : AreUpToEach limit (of_tables 0 ts)) (p : IsPlace kept ts i n pairs) where
  each_kept : AreUpToEach limit kept
  each_kept = subst (AreUpToEach limit) p.kept_is all

  -- other versions at a key
  each_in_place : (key : List ℕ) (v : Versions) (new : Pairs) → new ≡ with_pair pairs key v → AllByRecursion (λ w. w.mark ≤ limit n) v.items → AreUpToEach limit (of_tables 0 (slice_set ts i new))
  each_in_place key v new is own =
      subst (AreUpToEach limit) (sym (ap (λ l. of_tables 0 (slice_set ts i l)) is ∙ put_in_place p key v)) (each_put limit (record { table = n; key = key; versions = v }) kept own each_kept)

  -- the versions that a key has
  each_at : (key : List ℕ) → AllByRecursion (λ w. w.mark ≤ limit n) (items_of (value_at pairs key))
  each_at key = subst (λ o. AllByRecursion (λ w. w.mark ≤ limit n) (items_of o)) (chain_in_place p key) (each_items limit kept (record { table = n; key = key }) each_kept)

  each_same : (new : Pairs) → new ≡ pairs → AreUpToEach limit (of_tables 0 (slice_set ts i new))
  each_same new is = subst (AreUpToEach limit) (sym (same_in_store p new is)) each_kept

  pub each_made : (key : List ℕ) (new : Pairs) (r : Result (Unit {0}) NoMemory) → OnOk r (IsRoomMade pairs new key) → OnErr r (new ≡ pairs) → AreUpToEach limit (of_tables 0 (slice_set ts i new))
  each_made key new (Ok u) made same = each_in_place key made.versions new made.put (subst (AllByRecursion (λ w. w.mark ≤ limit n)) (sym made.items) (each_at key))
  each_made key new (Err e) made same = each_same new same

  pub each_loaded : (key : List ℕ) (writer : ℕ) (o : Option (List ℕ)) (new : Pairs) (r : Result (Unit {0}) NoMemory) → OnOk r (IsLoaded pairs new key (record { writer = writer; mark = 0; put = o })) → OnErr r (new ≡ pairs)
      → AreUpToEach limit (of_tables 0 (slice_set ts i new))
  each_loaded key writer o new (Ok u) loaded same = each_in_place key loaded.versions new loaded.put (subst (AllByRecursion (λ w. w.mark ≤ limit n)) (sym loaded.items) (omega arith, tt))
  each_loaded key writer o new (Err e) loaded same = each_same new same

  pub each_installed : (key : List ℕ) (version : Version) (new : Pairs) → version.mark ≤ limit n → new ≡ with_pair pairs key (installed (value_at pairs key) version) → AreUpToEach limit (of_tables 0 (slice_set ts i new))
  each_installed key version new le is = each_in_place key (installed (value_at pairs key) version) new is (up_to_push (limit n) (items_of (value_at pairs key)) version (each_at key) le)

-- empty tables
pub empty_push : (ts : List Pairs) (pairs : Pairs) → AllByRecursion (λ ps. ps ≡ []) ts → pairs ≡ [] → AllByRecursion (λ ps. ps ≡ []) (ts ++ pairs ∷ [])
empty_push [] pairs all is = (is, tt)
empty_push (x ∷ xs) pairs all is = (all.0, empty_push xs pairs all.1 is)

none_in_order : IsInOrder {V = Versions} []
unfolding IsStrictlySortedBy
none_in_order = tt

pub empty_in_order : (ts : List Pairs) → AllByRecursion (λ ps. ps ≡ []) ts → AllByRecursion IsInOrder ts
empty_in_order [] all = tt
empty_in_order (x ∷ xs) all = (subst IsInOrder (sym all.0) none_in_order, empty_in_order xs all.1)

pub empty_tables : (t : ℕ) (ts : List Pairs) → AllByRecursion (λ ps. ps ≡ []) ts → of_tables t ts ≡ []
empty_tables t [] all = refl
empty_tables t (x ∷ xs) all = ap (λ l. of_table t l ++ of_tables (t + 1) xs) all.0 ∙ empty_tables (t + 1) xs all.1
