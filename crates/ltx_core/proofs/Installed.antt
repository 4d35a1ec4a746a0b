-- The writes of a commit in the store: those that are left while they are installed, and what holds once all are.
use Rattle.std.proofs.Common.{◌≡◌, inl, inr, ℕ, zero, suc, ◌+◌, ◌-◌, ◌<◌, Bool, true, false, cond, List, [], ◌∷◌, ◌++◌, length, Option, Some, None, refl, sym, ap, ◌∙◌, subst, arith, append-nil}
use Rattle.std.specs.Prelude.{slice_get}
use Rattle.std.specs.List.{AllByRecursion}
use Rattle.std.specs.Ordering.{is_eq}
use Rattle.ltx_model.specs.declared.commands.Op.{Op}
use Rattle.ltx_model.specs.declared.rows.StoredRow.{StoredRow}
use Rattle.ltx_model.specs.declared.writes.Write.{Write}
use Rattle.ltx_model.specs.Keys.{Cell, same_cell, AreAbove, IsRising}
use Rattle.ltx_model.specs.StoredRows.{cell_of}
use Rattle.ltx_model.specs.Operations.{cell_of_write, writes_of}
use Rattle.ltx_model.specs.Rows.{rows_after_all, rows_after_put, rows_after_writes}
use Rattle.ltx_lemmas.proofs.Lists.{all_map, all_push}
use Rattle.ltx_model.proofs.CellOrder.{same_cell_same}
use Rattle.ltx_model.proofs.Rising.{item_at-above}
use Rattle.ltx_lemmas.proofs.LastWrites.{last_writes_give}
use Rattle.ltx_buffer.specs.Own.{write_at}
use Rattle.ltx_chain.specs.declared.chain.Version.{Version}
use Rattle.ltx_chain.specs.Versions.{Versions, AreBelow}
use Rattle.ltx_store.specs.Kept.{Kept, chain_at, items_of, room_of, installed, versions_at, room_at, rows_at, latest_rows, rows_with, row_of_write, with_version, AreUpTo}
use Rattle.ltx_store.proofs.Changes.{chain_installed, above_up_to, up_to_more, up_to_installed}
use Rattle.ltx_core.specs.Installed.{version_by, HasInstalled}
use Rattle.ltx_core.specs.Stands.{HasMark}

-- Of these writes the last ones are left to install, of keys that are as they were: with them the store is what it is to be.
pub record IsLeft (old now : List Kept) (writer mark : ℕ) (writes rest : List Write) : Type 0 where
  pub rising : IsRising cell_of_write rest
  pub room : AllByRecursion (λ w. 0 < room_at now (cell_of_write w)) rest
  pub below : AllByRecursion (λ w. AreBelow mark (versions_at now (cell_of_write w))) rest
  pub rows : rows_after_writes writer (latest_rows now) rest ≡ rows_after_writes writer (latest_rows old) writes
  pub before : (m : ℕ) → m < mark → rows_at m now ≡ rows_at m old
  pub versions : (cell : Cell) → versions_at now cell ++ version_by writer mark (write_at rest cell) ≡ versions_at old cell ++ version_by writer mark (write_at writes cell)
  pub marks : AreUpTo mark now

-- at first all are left
pub all_left : (newest mark : ℕ) (kept : List Kept) (writer : ℕ) (writes : List Write) → newest < mark → AreUpTo newest kept → IsRising cell_of_write writes
    → AllByRecursion (λ w. 0 < room_at kept (cell_of_write w)) writes → IsLeft kept kept writer mark writes writes
all_left newest mark kept writer writes less all rising room = record {
  rising = rising;
  room = room;
  below = all_map (λ w. 0 < room_at kept (cell_of_write w)) (λ w. AreBelow mark (versions_at kept (cell_of_write w))) (λ w r. above_up_to newest mark kept (cell_of_write w) less all) writes room;
  rows = refl;
  before = λ m less. refl;
  versions = λ q. refl;
  marks = up_to_more newest mark kept (omega arith) all;
}

-- one is installed
module _ (writer mark : ℕ) (w : Write) (now new : List Kept) (is : new ≡ with_version writer mark w now) where
  version : Version
  version = record { writer = writer; mark = mark; put = w.put }

  chain_here : (q : Cell) → same_cell (cell_of_write w) q ≡ true → chain_at new q ≡ Some (installed (chain_at now q) version)
  unfolding version
  chain_here q same =
      ap (λ kept. chain_at kept q) is ∙ chain_installed writer mark w now q
      ∙ rw same (ap (λ c. Some (installed (chain_at now c) version)) (same_cell_same (cell_of_write w) q same))

  chain_apart : (q : Cell) → same_cell (cell_of_write w) q ≡ false → chain_at new q ≡ chain_at now q
  chain_apart q apart = ap (λ kept. chain_at kept q) is ∙ chain_installed writer mark w now q ∙ rw apart refl

  -- what holds of the keys of the writes that are left
  still : (P : Option Versions → Type 0) (ws : List Write) → AreAbove cell_of_write (cell_of_write w) ws → AllByRecursion (λ v. P (chain_at now (cell_of_write v))) ws → AllByRecursion (λ v. P (chain_at new (cell_of_write v))) ws
  still P [] above all = tt
  still P (v ∷ vs) above all = (subst P (sym (chain_apart (cell_of_write v) (ap is_eq above.0))) all.0, still P vs above.1 all.1)

  versions_step : (rest : List Write) (q : Cell) → AreAbove cell_of_write (cell_of_write w) rest
      → versions_at new q ++ version_by writer mark (write_at rest q) ≡ versions_at now q ++ version_by writer mark (write_at (w ∷ rest) q)
  unfolding version
  versions_step rest q above = by_test (same_cell (cell_of_write w) q) refl where
    none : same_cell (cell_of_write w) q ≡ true → write_at rest q ≡ None
    none same = subst (λ c. write_at rest c ≡ None) (same_cell_same (cell_of_write w) q same) (item_at-above cell_of_write (cell_of_write w) rest above)

    by_test : (b : Bool) → same_cell (cell_of_write w) q ≡ b
        → versions_at new q ++ version_by writer mark (write_at rest q) ≡ versions_at now q ++ version_by writer mark (cond b (Some w) (write_at rest q))
    by_test true same =
        ap (λ o. versions_at new q ++ version_by writer mark o) (none same) ∙ append-nil (versions_at new q) ∙ ap items_of (chain_here q same)
    by_test false apart = ap (λ o. items_of o ++ version_by writer mark (write_at rest q)) (chain_apart q apart)

row_of_put : (writer : ℕ) (rows : List StoredRow) (w : Write) (put : Option (List ℕ)) → w.put ≡ put → rows_with (cell_of_write w) (row_of_write writer w) rows ≡ rows_after_put writer rows (cell_of_write w) put
row_of_put writer rows w None e = rw e refl
row_of_put writer rows w (Some value) e = rw e refl

pub one_installed : (old now new : List Kept) (writer mark : ℕ) (writes : List Write) (w : Write) (rest : List Write) → IsLeft old now writer mark writes (w ∷ rest)
    → new ≡ with_version writer mark w now → latest_rows new ≡ rows_with (cell_of_write w) (row_of_write writer w) (latest_rows now)
    → ((m : ℕ) → m < mark → rows_at m new ≡ rows_at m now) → IsLeft old new writer mark writes rest
one_installed old now new writer mark writes w rest left is rows same = record {
  rising = left.rising.1;
  room = still writer mark w now new is (λ o. 0 < room_of o) rest left.rising.0 left.room.1;
  below = still writer mark w now new is (λ o. AreBelow mark (items_of o)) rest left.rising.0 left.below.1;
  rows = ap (λ r. rows_after_writes writer r rest) (rows ∙ row_of_put writer (latest_rows now) w w.put refl) ∙ left.rows;
  before = λ m less. same m less ∙ left.before m less;
  versions = λ q. versions_step writer mark w now new is rest q left.rising.0 ∙ left.versions q;
  marks = subst (AreUpTo mark) (sym is) (up_to_installed mark writer mark w now (omega arith) left.marks);
}

-- places in a longer list
got_front : {A : Type 0} (xs ys : List A) (k : ℕ) (x : A) → slice_get xs k ≡ Some x → slice_get (xs ++ ys) k ≡ Some x
got_front [] ys k x e = cc
got_front (z ∷ zs) ys zero x e = e
got_front (z ∷ zs) ys (suc k) x e = got_front zs ys k x e

got_last : {A : Type 0} (xs : List A) (x : A) → slice_get (xs ++ x ∷ []) (length xs) ≡ Some x
got_last [] x = refl
got_last (y ∷ ys) x = got_last ys x

-- A mark stays one when there are more commits.
pub mark_stays : (rows : List StoredRow) (commits more : List ℕ) (cell : Cell) (v : Version) → HasMark rows commits cell v → HasMark rows (commits ++ more) cell v
mark_stays rows commits more cell v (inl base) = inl base
mark_stays rows commits more cell v (inr at) = inr (at.0, got_front commits more (v.mark - 1) v.writer at.1)

-- With its writes a transaction's number stands last among the commits: marks are numbers of commits.
pub marks_installed : (rows : List StoredRow) (old new : List Kept) (commits : List ℕ) (writer mark : ℕ) (writes : List Write) → mark ≡ length commits + 1 → HasInstalled old new writer mark writes
    → ((cell : Cell) → AllByRecursion (HasMark rows commits cell) (versions_at old cell)) → (cell : Cell) → AllByRecursion (HasMark rows (commits ++ writer ∷ []) cell) (versions_at new cell)
marks_installed rows old new commits writer mark writes marked done before q =
    subst (AllByRecursion (HasMark rows (commits ++ writer ∷ []) q)) (sym (done.versions q)) (by_write (write_at writes q)) where
      stay : AllByRecursion (HasMark rows (commits ++ writer ∷ []) q) (versions_at old q)
      stay = all_map (HasMark rows commits q) (HasMark rows (commits ++ writer ∷ []) q) (mark_stays rows commits (writer ∷ []) q) (versions_at old q) (before q)

      above : 0 < mark
      above = omega arith

      place : length commits ≡ mark - 1
      place = omega arith

      by_write : (o : Option Write) → AllByRecursion (HasMark rows (commits ++ writer ∷ []) q) (versions_at old q ++ version_by writer mark o)
      by_write None = subst (AllByRecursion (HasMark rows (commits ++ writer ∷ []) q)) (sym (append-nil (versions_at old q))) stay
      by_write (Some w) =
          all_push (HasMark rows (commits ++ writer ∷ []) q) (versions_at old q) (record { writer = writer; mark = mark; put = w.put }) stay
          (inr (above, subst (λ k. slice_get (commits ++ writer ∷ []) k ≡ Some writer) place (got_last commits writer)))

-- The latest rows are those after the transaction's operations.
pub rows_installed : (old new : List Kept) (writer mark : ℕ) (writes : List Write) (ops : List Op) → writes ≡ writes_of ops → IsRising cell_of (latest_rows old) → HasInstalled old new writer mark writes
    → latest_rows new ≡ rows_after_all writer (latest_rows old) ops
rows_installed old new writer mark writes ops own rising done = done.rows ∙ ap (rows_after_writes writer (latest_rows old)) own ∙ last_writes_give writer (latest_rows old) ops rising
