-- Newest marks: from them on, rows are the latest ones.
use Rattle.std.proofs.Common.{◌≡◌, ◌≢◌, ◌⊎◌, inl, inr, ℕ, zero, suc, ◌≤◌, Bool, true, false, ◌==◌, max, List, [], ◌∷◌, replicate, refl, sym, ap, ◌∙◌, subst, arith}
use Rattle.std.specs.List.{AllByRecursion}
use Rattle.std.proofs.Math.Nat.{le-max_left, le-max_right, max-le}
use Rattle.std.proofs.lemmas.Bool.{eqb-true, eq-eqb, both_ways}
use Rattle.ltx_model.specs.Keys.{Cell, IsRising}
use Rattle.ltx_chain.specs.declared.chain.Version.{Version}
use Rattle.ltx_chain.specs.Marks.{AreSameIn}
use Rattle.ltx_chain.specs.Versions.{Versions, latest, visible}
use Rattle.ltx_chain.proofs.Seen.{visible_latest}
use Rattle.ltx_store.specs.Kept.{Kept, cell_of_kept, versions_at, row_of_version, rows_at, latest_rows, AreUpTo, AreUpToEach, of_tables}
use Rattle.ltx_store.specs.Newest.{newest_of, IsStore}
use Rattle.ltx_store.proofs.Changes.{row_of_seen, each_items, latest_at}
use Rattle.ltx_store.proofs.Tables.{rising-of_tables}

-- zeros
pub all_zero : (n t : ℕ) → newest_of (replicate n 0) t ≡ 0
all_zero zero t = refl
all_zero (suc n) zero = refl
all_zero (suc n) (suc t) = all_zero n t

-- higher limits
higher : (a b : ℕ) (vs : List Version) → a ≤ b → AllByRecursion (λ v. v.mark ≤ a) vs → AllByRecursion (λ v. v.mark ≤ b) vs
higher a b [] le all = tt
higher a b (v ∷ vs) le all = ((let first = all.0 in omega arith), higher a b vs le all.1)

pub each_higher : (low high : ℕ → ℕ) (kept : List Kept) → ((table : ℕ) → low table ≤ high table) → AreUpToEach low kept → AreUpToEach high kept
each_higher low high [] le all = tt
each_higher low high (e ∷ es) le all = (higher (low e.table) (high e.table) e.versions.items (le e.table) all.0, each_higher low high es le all.1)

-- no versions
pub each_empty : (limit : ℕ → ℕ) (kept : List Kept) → kept ≡ [] → AreUpToEach limit kept
each_empty limit kept is = subst (AreUpToEach limit) (sym is) tt

-- a raise of one table's mark
module _ (old new : List ℕ) (table mark : ℕ) (here : newest_of new table ≡ max (newest_of old table) mark) (others : (t : ℕ) → t ≢ table → newest_of new t ≡ newest_of old t) where
  by_table : (t : ℕ) → (t ≡ table) ⊎ (t ≢ table)
  by_table t = by_test (t == table) refl where
    by_test : (b : Bool) → (t == table) ≡ b → (t ≡ table) ⊎ (t ≢ table)
    by_test true is = inl (eqb-true t table is)
    by_test false is = inr (λ e. both_ways (t == table) is (eq-eqb t table e))

  pub raised : (t : ℕ) → newest_of old t ≤ newest_of new t
  raised t = by_both (by_table t) where
    by_both : (t ≡ table) ⊎ (t ≢ table) → newest_of old t ≤ newest_of new t
    by_both (inl e) = subst (λ u. newest_of old u ≤ newest_of new u) (sym e) (subst (λ m. newest_of old table ≤ m) (sym here) (le-max_left (newest_of old table) mark))
    by_both (inr apart) = subst (λ m. newest_of old t ≤ m) (sym (others t apart)) (omega arith)

  pub reached : mark ≤ newest_of new table
  reached = subst (λ m. mark ≤ m) (sym here) (le-max_right (newest_of old table) mark)

  pub still_within : (before after : ℕ) → after ≡ max before mark → ((t : ℕ) → newest_of old t ≤ before) → (t : ℕ) → newest_of new t ≤ after
  still_within before after is within t =
      let low : before ≤ after = subst (λ m. before ≤ m) (sym is) (le-max_left before mark) in
      let high : mark ≤ after = subst (λ m. mark ≤ m) (sym is) (le-max_right before mark) in
      by_both low high (by_table t) where
        by_both : before ≤ after → mark ≤ after → (t ≡ table) ⊎ (t ≢ table) → newest_of new t ≤ after
        by_both low high (inl e) = subst (λ u. newest_of new u ≤ after) (sym e) (subst (λ m. m ≤ after) (sym here) (max-le (let first = within table in omega (arith, first, low)) high))
        by_both low high (inr apart) = subst (λ m. m ≤ after) (sym (others t apart)) (let first = within t in omega (arith, first, low))

-- what a store's marks say of its rows
module _ (tables : List (List (List ℕ × Versions))) (of_table : List ℕ) (of_all : ℕ) (s : IsStore tables of_table of_all) where
  pub latest_from : (kept : List Kept) → of_tables 0 tables ≡ kept → (mark : ℕ) → of_all ≤ mark → rows_at mark kept ≡ latest_rows kept
  latest_from kept is mark le =
      let each : AreUpToEach (newest_of of_table) kept = subst (AreUpToEach (newest_of of_table)) is s.marks in
      let all : AreUpTo mark kept = each_higher (newest_of of_table) (λ table. mark) kept (λ table. let first = s.within table in omega (arith, first, le)) each in
      latest_at mark kept all

  pub same_from : (kept : List Kept) → of_tables 0 tables ≡ kept → (table mark : ℕ) → newest_of of_table table ≤ mark → AreSameIn table (rows_at mark kept) (latest_rows kept)
  same_from kept is table mark le key =
      let c : Cell = record { table = table; key = key } in
      let each : AreUpToEach (newest_of of_table) kept = subst (AreUpToEach (newest_of of_table)) is s.marks in
      let rising : IsRising cell_of_kept kept = subst (IsRising cell_of_kept) is (rising-of_tables 0 tables s.tables_are.in_order) in
      let seen : visible mark (versions_at kept c) ≡ latest (versions_at kept c) = visible_latest mark (versions_at kept c) (higher (newest_of of_table table) mark (versions_at kept c) le (each_items (newest_of of_table) kept c each)) in
      sym (row_of_seen (visible mark) refl c kept rising) ∙ ap (row_of_version c) seen ∙ row_of_seen latest refl c kept rising
