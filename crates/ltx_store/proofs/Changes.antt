-- What is kept after a key's versions changed: the versions of all keys, and the rows.
use Rattle.std.proofs.Common.{◌≡◌, ℕ, ◌+◌, ◌<◌, ◌≤◌, Bool, true, false, cond, List, [], ◌∷◌, ◌++◌, length, Option, Some, None, option_map, option_and_then, refl, sym, ap, ◌∙◌, subst, arith, take, get_or}
use Rattle.std.proofs.lemmas.List.{take_more}
use Rattle.std.specs.declared.cmp.Ordering.{Ordering}
use Rattle.std.specs.declared.cmp.Ordering.TheVariants.{Less, Equal, Greater}
use Rattle.std.specs.List.{AllByRecursion, cons_option}
use Rattle.std.proofs.lemmas.Bool.Decides.{nat_tests}
use Rattle.ltx_model.specs.declared.rows.StoredRow.{StoredRow}
use Rattle.ltx_model.specs.declared.writes.Write.{Write}
use Rattle.ltx_model.specs.Keys.{Cell, cell_cmp, same_cell, put_in_order, put_at, IsRising}
use Rattle.ltx_model.specs.StoredRows.{cell_of, row_at}
use Rattle.ltx_model.specs.Operations.{cell_of_write}
use Rattle.ltx_chain.specs.declared.chain.Version.{Version}
use Rattle.ltx_chain.specs.Versions.{Versions, AreBelow, latest, visible, is_at_most}
use Rattle.ltx_chain.proofs.Seen.{latest-append, visible-append, visible_latest}
use Rattle.ltx_store.specs.Kept.{Kept, cell_of_kept, kept_at, chain_at, items_of, room_of, installed, versions_at, room_at, row_of_version, row_by, rows_by, rows_at, latest_rows, rows_with, row_of_write, with_version, HasSameVersions, HasLoaded, AreUpTo, AreUpToEach}
use Rattle.ltx_model.proofs.CellOrder.{same_cell_same, cell_itself}
use Rattle.ltx_store.proofs.Rows.{row_at-rows, rows_rising, rows-put, rows_with_same, kept_at-put, found_cell}

module _ (see : List Version → Option Version) (blind : see [] ≡ None) where
  seen_same : (c : Cell) (o : Option Kept) → ((k : Kept) → o ≡ Some k → cell_of_kept k ≡ c) → row_of_version c (see (items_of (option_map (λ k. k.versions) o))) ≡ option_and_then (row_by see) o
  seen_same c None stands = rw blind refl
  seen_same c (Some k) stands = ap (λ d. row_of_version d (see k.versions.items)) (sym (stands k refl))

  -- the row that the versions kept at a key make
  pub row_of_seen : (c : Cell) (kept : List Kept) → IsRising cell_of_kept kept → row_of_version c (see (versions_at kept c)) ≡ row_at (rows_by see kept) c
  row_of_seen c kept r = seen_same c (kept_at kept c) (found_cell cell_of_kept c kept) ∙ sym (row_at-rows see kept c r)

module _ (see : List Version → Option Version) (blind : see [] ≡ None) where
  -- rows stay where what is seen stays
  pub rows_stay : (e : Kept) (kept : List Kept) → IsRising cell_of_kept kept → see e.versions.items ≡ see (versions_at kept (cell_of_kept e)) → rows_by see (put_in_order cell_of_kept e kept) ≡ rows_by see kept
  rows_stay e kept r same =
      rows-put see e kept r
      ∙ ap (λ o. rows_with (cell_of_kept e) o (rows_by see kept)) (ap (row_of_version (cell_of_kept e)) same ∙ row_of_seen see blind (cell_of_kept e) kept r)
      ∙ rows_with_same (cell_of_kept e) (rows_by see kept) (rows_rising see kept r)

-- the versions of a key after a change of a key
chain_by : (e : Kept) (kept : List Kept) (q : Cell) (b : Bool) → option_map (λ (k : Kept). k.versions) (cond b (Some e) (kept_at kept q)) ≡ cond b (Some e.versions) (chain_at kept q)
chain_by e kept q true = refl
chain_by e kept q false = refl

pub chain_at-put : (e : Kept) (kept : List Kept) (q : Cell) → chain_at (put_in_order cell_of_kept e kept) q ≡ cond (same_cell (cell_of_kept e) q) (Some e.versions) (chain_at kept q)
chain_at-put e kept q = ap (option_map (λ k. k.versions)) (kept_at-put e kept q) ∙ chain_by e kept q (same_cell (cell_of_kept e) q)

-- a key whose versions have marks within its table's limit keeps all marks within the limits
pub each_put : (limit : ℕ → ℕ) (e : Kept) (kept : List Kept) → AllByRecursion (λ v. v.mark ≤ limit e.table) e.versions.items → AreUpToEach limit kept → AreUpToEach limit (put_in_order cell_of_kept e kept)
each_put limit e [] own all = (own, tt)
each_put limit e (y ∷ ys) own all = by_cmp (cell_cmp (cell_of_kept e) (cell_of_kept y)) (each_put limit e ys own all.1) where
  by_cmp : (o : Ordering) → AreUpToEach limit (put_in_order cell_of_kept e ys) → AreUpToEach limit (put_at o e y ys (put_in_order cell_of_kept e ys))
  by_cmp Less rest = (own, all)
  by_cmp Equal rest = (own, all.1)
  by_cmp Greater rest = (all.0, rest)

-- so do all versions of each key
pub each_items : (limit : ℕ → ℕ) (kept : List Kept) (c : Cell) → AreUpToEach limit kept → AllByRecursion (λ v. v.mark ≤ limit c.table) (versions_at kept c)
each_items limit [] c all = tt
each_items limit (e ∷ es) c all = by_test (same_cell (cell_of_kept e) c) refl (each_items limit es c all.1) where
  by_test : (b : Bool) → same_cell (cell_of_kept e) c ≡ b → AllByRecursion (λ v. v.mark ≤ limit c.table) (versions_at es c)
      → AllByRecursion (λ (v : Version). v.mark ≤ limit c.table) (items_of (option_map (λ (k : Kept). k.versions) (cond b (Some e) (kept_at es c))))
  by_test true same rest = subst (λ (d : Cell). AllByRecursion (λ (v : Version). v.mark ≤ limit d.table) e.versions.items) (same_cell_same (cell_of_kept e) c same) all.0
  by_test false apart rest = rest

-- the same with one limit for all tables
up_to_put : (mark : ℕ) (e : Kept) (kept : List Kept) → AllByRecursion (λ v. v.mark ≤ mark) e.versions.items → AreUpTo mark kept → AreUpTo mark (put_in_order cell_of_kept e kept)
up_to_put mark e kept own all = each_put (λ table. mark) e kept own all

pub up_to_items : (mark : ℕ) (kept : List Kept) (c : Cell) → AreUpTo mark kept → AllByRecursion (λ v. v.mark ≤ mark) (versions_at kept c)
up_to_items mark kept c all = each_items (λ table. mark) kept c all

-- the same versions, and as much room or more
pub same_put : (e : Kept) (kept : List Kept) → IsRising cell_of_kept kept → e.versions.items ≡ versions_at kept (cell_of_kept e) → room_at kept (cell_of_kept e) ≤ e.versions.room → HasSameVersions kept (put_in_order cell_of_kept e kept)
same_put e kept r items room = record {
  versions = λ q. ap items_of (chain_at-put e kept q) ∙ items_by q (same_cell (cell_of_kept e) q) refl;
  room = λ q. subst (λ o. room_at kept q ≤ room_of o) (sym (chain_at-put e kept q)) (room_by q (same_cell (cell_of_kept e) q) refl);
  rows = λ m. rows_stay (visible m) refl e kept r (ap (visible m) items);
  latest = rows_stay latest refl e kept r (ap latest items);
  marks = λ m all. up_to_put m e kept (subst (AllByRecursion (λ v. v.mark ≤ m)) (sym items) (up_to_items m kept (cell_of_kept e) all)) all;
} where
  items_by : (q : Cell) (b : Bool) → same_cell (cell_of_kept e) q ≡ b → items_of (cond b (Some e.versions) (chain_at kept q)) ≡ versions_at kept q
  items_by q true same = items ∙ ap (versions_at kept) (same_cell_same (cell_of_kept e) q same)
  items_by q false same = refl

  room_by : (q : Cell) (b : Bool) → same_cell (cell_of_kept e) q ≡ b → room_at kept q ≤ room_of (cond b (Some e.versions) (chain_at kept q))
  room_by q true same = subst (λ d. room_at kept d ≤ e.versions.room) (same_cell_same (cell_of_kept e) q same) room
  room_by q false same = omega arith

pub same_itself : (kept : List Kept) → HasSameVersions kept kept
same_itself kept = record { versions = λ q. refl; room = λ q. omega arith; rows = λ m. refl; latest = refl; marks = λ m all. all }

pub same_then : (a b c : List Kept) → HasSameVersions a b → HasSameVersions b c → HasSameVersions a c
same_then a b c first second = record {
  versions = λ q. second.versions q ∙ first.versions q;
  room = λ q. let one = first.room q in let two = second.room q in omega arith;
  rows = λ m. second.rows m ∙ first.rows m;
  latest = second.latest ∙ first.latest;
  marks = λ m all. second.marks m (first.marks m all);
}

-- a version more, which a mark sees or not
module _ (writer mark : ℕ) (w : Write) (kept : List Kept) (r : IsRising cell_of_kept kept) where
  version : Version
  version = record { writer = writer; mark = mark; put = w.put }

  entry : Kept
  entry = record { table = w.table; key = w.key; versions = installed (chain_at kept (cell_of_write w)) version }

  seen_by : (see : List Version → Option Version) → see (versions_at kept (cell_of_write w) ++ version ∷ []) ≡ Some version
      → rows_by see (with_version writer mark w kept) ≡ rows_with (cell_of_write w) (row_of_write writer w) (rows_by see kept)
  unfolding version entry
  seen_by see is = rows-put see entry kept r ∙ ap (λ o. rows_with (cell_of_write w) o (rows_by see kept)) (ap (row_of_version (cell_of_write w)) is)

  pub rows_installed : (m : ℕ) → mark ≤ m → rows_at m (with_version writer mark w kept) ≡ rows_with (cell_of_write w) (row_of_write writer w) (rows_at m kept)
  unfolding version entry
  rows_installed m le =
      let seen : is_at_most m version ≡ true = grind (arith, nat_tests) in
      seen_by (visible m) (visible-append m (versions_at kept (cell_of_write w)) version ∙ rw seen refl)

  pub rows_before : (m : ℕ) → m < mark → rows_at m (with_version writer mark w kept) ≡ rows_at m kept
  unfolding version entry
  rows_before m less =
      let unseen : is_at_most m version ≡ false = grind (arith, nat_tests) in
      rows_stay (visible m) refl entry kept r (visible-append m (versions_at kept (cell_of_write w)) version ∙ rw unseen refl)

  pub latest_installed : latest_rows (with_version writer mark w kept) ≡ rows_with (cell_of_write w) (row_of_write writer w) (latest_rows kept)
  unfolding version entry
  latest_installed = seen_by latest (latest-append (versions_at kept (cell_of_write w)) version)

-- a first version, with mark 0, which every mark sees
module _ (row : StoredRow) (v : Versions) (kept : List Kept) (r : IsRising cell_of_kept kept) (items : v.items ≡ (record { writer = row.writer; mark = 0; put = Some row.value }) ∷ []) where
  loaded_by : (see : List Version → Option Version) → see ((record { writer = row.writer; mark = 0; put = Some row.value }) ∷ []) ≡ Some (record { writer = row.writer; mark = 0; put = Some row.value })
      → rows_by see (put_in_order cell_of_kept (record { table = row.table; key = row.key; versions = v }) kept) ≡ put_in_order cell_of row (rows_by see kept)
  loaded_by see is =
      let e : Kept = record { table = row.table; key = row.key; versions = v } in
      rows-put see e kept r ∙ ap (λ o. rows_with (cell_of row) o (rows_by see kept)) (ap (λ l. row_of_version (cell_of row) (see l)) items ∙ ap (row_of_version (cell_of row)) is)

  seen_from_0 : (m : ℕ) → is_at_most m (record { writer = row.writer; mark = 0; put = Some row.value }) ≡ true
  seen_from_0 m = grind (arith, nat_tests)

  pub loaded_put : HasLoaded kept (put_in_order cell_of_kept (record { table = row.table; key = row.key; versions = v }) kept) row
  loaded_put =
      let e : Kept = record { table = row.table; key = row.key; versions = v } in
      record {
        here = ap items_of (chain_at-put e kept (cell_of row)) ∙ rw (cell_itself (cell_of row)) items;
        others = λ q apart. chain_at-put e kept q ∙ rw apart refl;
        rows = λ m. loaded_by (visible m) (rw (seen_from_0 m) refl);
        latest = loaded_by latest refl;
        marks = λ m all. up_to_put m e kept (subst (AllByRecursion (λ w. w.mark ≤ m)) (sym items) (omega arith, tt)) all;
      }

-- at a mark that no version passes, the rows are the latest ones
pub latest_at : (mark : ℕ) (kept : List Kept) → AreUpTo mark kept → rows_at mark kept ≡ latest_rows kept
latest_at mark [] all = refl
latest_at mark (e ∷ es) all = rw (visible_latest mark e.versions.items all.0) (ap (cons_option (row_by latest e)) (latest_at mark es all.1))

pub up_to_push : (mark : ℕ) (vs : List Version) (v : Version) → AllByRecursion (λ w. w.mark ≤ mark) vs → v.mark ≤ mark → AllByRecursion (λ w. w.mark ≤ mark) (vs ++ v ∷ [])
up_to_push mark [] v all le = (le, tt)
up_to_push mark (w ∷ ws) v all le = (all.0, up_to_push mark ws v all.1 le)

pub up_to_installed : (newest writer mark : ℕ) (w : Write) (kept : List Kept) → mark ≤ newest → AreUpTo newest kept → AreUpTo newest (with_version writer mark w kept)
up_to_installed newest writer mark w kept le all =
    let v : Version = record { writer = writer; mark = mark; put = w.put } in
    up_to_put newest (record { table = w.table; key = w.key; versions = installed (chain_at kept (cell_of_write w)) v }) kept
    (up_to_push newest (versions_at kept (cell_of_write w)) v (up_to_items newest kept (cell_of_write w) all) le) all

up_to_higher : (a b : ℕ) (vs : List Version) → a ≤ b → AllByRecursion (λ v. v.mark ≤ a) vs → AllByRecursion (λ v. v.mark ≤ b) vs
up_to_higher a b [] le all = tt
up_to_higher a b (v ∷ vs) le all = ((let first = all.0 in omega arith), up_to_higher a b vs le all.1)

pub up_to_more : (a b : ℕ) (kept : List Kept) → a ≤ b → AreUpTo a kept → AreUpTo b kept
up_to_more a b [] le all = tt
up_to_more a b (e ∷ es) le all = (up_to_higher a b e.versions.items le all.0, up_to_more a b es le all.1)

-- a mark above all marks may be installed at each key
pub above_up_to : (newest mark : ℕ) (kept : List Kept) (c : Cell) → newest < mark → AreUpTo newest kept → AreBelow mark (versions_at kept c)
above_up_to newest mark kept c less all = below (versions_at kept c) (up_to_items newest kept c all) where
  below : (vs : List Version) → AllByRecursion (λ v. v.mark ≤ newest) vs → AreBelow mark vs
  below [] all_vs = tt
  below (v ∷ vs) all_vs = ((let first = all_vs.0 in omega arith), below vs all_vs.1)

-- the versions and the room of each key after an install
pub chain_installed : (writer mark : ℕ) (w : Write) (kept : List Kept) (q : Cell)
    → chain_at (with_version writer mark w kept) q ≡ cond (same_cell (cell_of_write w) q) (Some (installed (chain_at kept (cell_of_write w)) (record { writer = writer; mark = mark; put = w.put }))) (chain_at kept q)
chain_installed writer mark w kept q = chain_at-put (record { table = w.table; key = w.key; versions = installed (chain_at kept (cell_of_write w)) (record { writer = writer; mark = mark; put = w.put }) }) kept q

-- room made stays, and room for a write more
pub room_stays : (a b : List Kept) (ws : List Write) → HasSameVersions a b → AllByRecursion (λ w. 0 < room_at a (cell_of_write w)) ws → AllByRecursion (λ w. 0 < room_at b (cell_of_write w)) ws
room_stays a b [] same made = tt
room_stays a b (w ∷ ws) same made = ((let more = same.room (cell_of_write w) in let first = made.0 in omega arith), room_stays a b ws same made.1)

pub room_push : (kept : List Kept) (ws : List Write) (w : Write) → AllByRecursion (λ v. 0 < room_at kept (cell_of_write v)) ws → 0 < room_at kept (cell_of_write w) → AllByRecursion (λ v. 0 < room_at kept (cell_of_write v)) (ws ++ w ∷ [])
room_push kept [] w made room = (room, tt)
room_push kept (v ∷ vs) w made room = (made.0, room_push kept vs w made.1 room)

pub room_more : (a b : List Kept) (ws : List Write) (i : ℕ) (w : Write) → i < length ws → w ≡ get_or ws i w → HasSameVersions a b → AllByRecursion (λ v. 0 < room_at a (cell_of_write v)) (take i ws) → 0 < room_at b (cell_of_write w)
    → AllByRecursion (λ v. 0 < room_at b (cell_of_write v)) (take (i + 1) ws)
room_more a b ws i w within is same made room =
    subst (AllByRecursion (λ v. 0 < room_at b (cell_of_write v))) (sym (take_more ws i w within ∙ ap (λ v. take i ws ++ v ∷ []) (sym is))) (room_push b (take i ws) w (room_stays a b (take i ws) same made) room)
