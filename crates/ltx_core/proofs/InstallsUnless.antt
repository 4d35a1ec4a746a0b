-- The writes of a commit in the store, without those of keys with a later version: those that are left while they are looked at.
use Rattle.std.proofs.Common.{◌≡◌, ℕ, ◌<◌, Bool, true, false, not, cond, List, [], ◌∷◌, Option, option_map, refl, sym, ap, ◌∙◌, subst}
use Rattle.std.specs.List.{AllByRecursion}
use Rattle.std.specs.Ordering.{is_eq}
use Rattle.ltx_model.specs.declared.writes.Write.{Write}
use Rattle.ltx_model.specs.Keys.{Cell, same_cell, AreAbove, IsRising}
use Rattle.ltx_model.specs.Operations.{cell_of_write}
use Rattle.ltx_model.specs.Decisions.{is_installed}
use Rattle.ltx_model.proofs.Rising.{rising_filter}
use Rattle.ltx_lemmas.proofs.Lists.{all_map, all_filter}
use Rattle.ltx_chain.specs.declared.chain.Version.{Version}
use Rattle.ltx_chain.specs.Versions.{Versions, AreBelow, latest}
use Rattle.ltx_store.specs.Kept.{Kept, chain_at, items_of, versions_at, room_at, rows_at, latest_rows, rows_with, row_of_write, with_version, AreUpTo}
use Rattle.ltx_store.proofs.Changes.{chain_installed, above_up_to}
use Rattle.ltx_core.specs.Installed.{last_writer, installed_writes}
use Rattle.ltx_core.proofs.Installed.{IsLeft, all_left, one_installed}

-- The key of a write has its old versions, below the mark, and room for one more.
pub record IsUntouched (old now : List Kept) (mark : ℕ) (w : Write) : Type 0 where
  pub same : chain_at now (cell_of_write w) ≡ chain_at old (cell_of_write w)
  pub room : 0 < room_at old (cell_of_write w)
  pub below : AreBelow mark (versions_at old (cell_of_write w))

-- The last of these writes are left to look at.
pub record AreLeft (list : List ℕ) (old now : List Kept) (writer mark : ℕ) (writes rest : List Write) : Type 0 where
  pub left : IsLeft old now writer mark (installed_writes list old writer writes) (installed_writes list old writer rest)
  pub rising : IsRising cell_of_write rest
  pub untouched : AllByRecursion (IsUntouched old now mark) rest

-- at first all are left
pub all_looked : (list : List ℕ) (newest mark : ℕ) (kept : List Kept) (writer : ℕ) (writes : List Write) → newest < mark → AreUpTo newest kept → IsRising cell_of_write writes
    → AllByRecursion (λ w. 0 < room_at kept (cell_of_write w)) writes → AreLeft list kept kept writer mark writes writes
all_looked list newest mark kept writer writes less all rising room = record {
  left = all_left newest mark kept writer (installed_writes list kept writer writes) less all (rising_filter cell_of_write (λ w. is_installed list (last_writer kept (cell_of_write w)) writer) writes rising)
      (all_filter (λ w. 0 < room_at kept (cell_of_write w)) (λ w. is_installed list (last_writer kept (cell_of_write w)) writer) writes room);
  rising = rising;
  untouched = all_map (λ w. 0 < room_at kept (cell_of_write w)) (IsUntouched kept kept mark)
      (λ w r. record { same = refl; room = r; below = above_up_to newest mark kept (cell_of_write w) less all }) writes room;
}

module _ (list : List ℕ) (old now : List Kept) (writer mark : ℕ) (writes : List Write) (w : Write) (rest : List Write) (are : AreLeft list old now writer mark writes (w ∷ rest)) where
  here : IsUntouched old now mark w
  here = are.untouched.0

  -- whether it is installed, by the store before
  told : (b : Bool) → is_installed list (last_writer now (cell_of_write w)) writer ≡ b → is_installed list (last_writer old (cell_of_write w)) writer ≡ b
  told b is = subst (λ o. is_installed list (last o) writer ≡ b) here.same is where
    last : Option Versions → Option ℕ
    last o = option_map (λ (v : Version). v.writer) (latest (items_of o))

  left_by : (b : Bool) → is_installed list (last_writer old (cell_of_write w)) writer ≡ b
      → IsLeft old now writer mark (installed_writes list old writer writes) (cond b (w ∷ installed_writes list old writer rest) (installed_writes list old writer rest))
  left_by b is = subst (λ c. IsLeft old now writer mark (installed_writes list old writer writes) (cond c (w ∷ installed_writes list old writer rest) (installed_writes list old writer rest))) is are.left

  -- it is installed
  module _ (new : List Kept) (is : new ≡ with_version writer mark w now) where
    stays : (q : Cell) → same_cell (cell_of_write w) q ≡ false → chain_at new q ≡ chain_at now q
    stays q apart = ap (λ kept. chain_at kept q) is ∙ chain_installed writer mark w now q ∙ rw apart refl

    others : (ws : List Write) → AreAbove cell_of_write (cell_of_write w) ws → AllByRecursion (IsUntouched old now mark) ws → AllByRecursion (IsUntouched old new mark) ws
    others [] above all = tt
    others (v ∷ vs) above all = (
      record { same = stays (cell_of_write v) (ap is_eq above.0) ∙ all.0.same; room = all.0.room; below = all.0.below },
      others vs above.1 all.1,
    )

    pub one_put : is_installed list (last_writer now (cell_of_write w)) writer ≡ true → latest_rows new ≡ rows_with (cell_of_write w) (row_of_write writer w) (latest_rows now)
        → ((m : ℕ) → m < mark → rows_at m new ≡ rows_at m now) → AreLeft list old new writer mark writes rest
    one_put told_so rows same = record {
      left = one_installed old now new writer mark (installed_writes list old writer writes) w (installed_writes list old writer rest) (left_by true (told true told_so)) is rows same;
      rising = are.rising.1;
      untouched = others rest are.rising.0 are.untouched.1;
    }

-- a write is installed where there is no later version
pub no_later : (r i : Bool) → r ≡ not i → r ≡ false → i ≡ true
no_later r true says is = refl
no_later r false says is = sym is ∙ says
