-- The numbers that a list and its rows have are those of its events.
use Rattle.std.proofs.Common.{ℕ, ◌≤◌, Bool, true, false, cond, not, List, [], ◌∷◌, ◌++◌, map, Option, Some, None, arith}
use Rattle.std.specs.List.{AllByRecursion, filter}
use Rattle.std.specs.declared.cmp.Ordering.{Ordering}
use Rattle.std.specs.declared.cmp.Ordering.TheVariants.{Less, Equal, Greater}
use Rattle.ltx_model.specs.declared.rows.StoredRow.{StoredRow}
use Rattle.ltx_model.specs.declared.writes.Write.{Write}
use Rattle.ltx_model.specs.Keys.{Cell, cell_cmp, same_cell, put_at, put_in_order}
use Rattle.ltx_model.specs.Operations.{cell_of_write}
use Rattle.ltx_model.specs.StoredRows.{cell_of}
use Rattle.ltx_model.specs.Rows.{rows_after_put, rows_after_writes}
use Rattle.ltx_model.specs.Restored.{AreWrittenUpTo}
use Rattle.ltx_model.specs.Frames.{LogEvent, SlotEvent, ShortEvent, BatchEvent}
use Rattle.ltx_model.specs.Played.{Played, PlayedSlot, PlayedCommit, number_played, is_played, commit_there, without_played, put_before, batch_played, after_event, after_events, rows_after_played}
use Rattle.ltx_model.specs.Recovery.{number_of_event, greatest_number}

module _ {A : Type 0} (P : A → Type 0) where
  all_append : (xs ys : List A) → AllByRecursion P xs → AllByRecursion P ys → AllByRecursion P (xs ++ ys)
  all_append [] ys first second = second
  all_append (x ∷ xs) ys first second = (first.0, all_append xs ys first.1 second)

  all_filter : (p : A → Bool) (xs : List A) → AllByRecursion P xs → AllByRecursion P (filter p xs)
  all_filter p [] all = tt
  all_filter p (x ∷ xs) all = by_test (p x) (all_filter p xs all.1) where
    by_test : (b : Bool) → AllByRecursion P (filter p xs) → AllByRecursion P (cond b (x ∷ filter p xs) (filter p xs))
    by_test true rest = (all.0, rest)
    by_test false rest = rest

  all_put : (cell : A → Cell) (x : A) (ys : List A) → P x → AllByRecursion P ys → AllByRecursion P (put_in_order cell x ys)
  all_put cell x [] one all = (one, tt)
  all_put cell x (y ∷ ys) one all = by_cmp (cell_cmp (cell x) (cell y)) (all_put cell x ys one all.1) where
    by_cmp : (o : Ordering) → AllByRecursion P (put_in_order cell x ys) → AllByRecursion P (put_at o x y ys (put_in_order cell x ys))
    by_cmp Less rest = (one, all)
    by_cmp Equal rest = (one, all.1)
    by_cmp Greater rest = (all.0, rest)

-- ---- the writers of rows

written_put : (m n : ℕ) (rows : List StoredRow) (cell : Cell) (put : Option (List ℕ)) → n ≤ m → AreWrittenUpTo m rows → AreWrittenUpTo m (rows_after_put n rows cell put)
written_put m n rows cell None most written = all_filter (λ (row : StoredRow). row.writer ≤ m) (λ row. not (same_cell (cell_of row) cell)) rows written
written_put m n rows cell (Some value) most written = all_put (λ (row : StoredRow). row.writer ≤ m) cell_of (record { table = cell.table; key = cell.key; value = value; writer = n }) rows most written

written_writes : (m n : ℕ) (rows : List StoredRow) (ws : List Write) → n ≤ m → AreWrittenUpTo m rows → AreWrittenUpTo m (rows_after_writes n rows ws)
written_writes m n rows [] most written = written
written_writes m n rows (w ∷ ws) most written = written_writes m n (rows_after_put n rows (cell_of_write w) w.put) ws most (written_put m n rows (cell_of_write w) w.put most written)

-- all members have numbers up to this one
abbrev pub AreUpTo : ℕ → List Played → Type 0
AreUpTo m ps = AllByRecursion (λ p. number_played p ≤ m) ps

written_played : (m : ℕ) (rows : List StoredRow) (ps : List Played) → AreUpTo m ps → AreWrittenUpTo m rows → AreWrittenUpTo m (rows_after_played rows ps)
written_played m rows [] most written = written
written_played m rows (PlayedSlot n ∷ ps) most written = written_played m rows ps most.1 written
written_played m rows (PlayedCommit n ws ∷ ps) most written = written_played m (rows_after_writes n rows ws) ps most.1 (written_writes m n rows ws most.0 written)

-- ---- the numbers of members

up_to_home : (m n : ℕ) (ws : List Write) (ps : List Played) → n ≤ m → AreUpTo m ps → AreUpTo m (map (commit_there n ws) ps)
up_to_home m n ws [] most all = tt
up_to_home m n ws (p ∷ ps) most all = (by_test (is_played n p), up_to_home m n ws ps most all.1) where
  by_test : (b : Bool) → number_played (cond b (PlayedCommit n ws) p) ≤ m
  by_test true = most
  by_test false = all.0

up_to_before : (m : ℕ) (x : Played) (t : ℕ) (ps : List Played) → number_played x ≤ m → AreUpTo m ps → AreUpTo m (put_before x t ps)
up_to_before m x t [] most all = tt
up_to_before m x t (p ∷ ps) most all = by_test (is_played t p) (up_to_before m x t ps most all.1) where
  by_test : (b : Bool) → AreUpTo m (put_before x t ps) → AreUpTo m (cond b (x ∷ p ∷ ps) (p ∷ put_before x t ps))
  by_test true rest = (most, all)
  by_test false rest = (all.0, rest)

up_to_batch : (m n : ℕ) (ws : List Write) (target : Option ℕ) (ps : List Played) → n ≤ m → AreUpTo m ps → AreUpTo m (batch_played n ws target ps)
up_to_batch m n ws None ps most all = up_to_home m n ws ps most all
up_to_batch m n ws (Some t) ps most all = up_to_before m (PlayedCommit n ws) t (without_played n ps) most (all_filter (λ p. number_played p ≤ m) (λ p. not (is_played n p)) ps all)

up_to_event : (m : ℕ) (ps : List Played) (e : LogEvent) → number_of_event e ≤ m → AreUpTo m ps → AreUpTo m (after_event ps e)
up_to_event m ps (SlotEvent n) most all = all_append (λ p. number_played p ≤ m) ps (PlayedSlot n ∷ []) all (most, tt)
up_to_event m ps (ShortEvent n epoch ws) most all = all_append (λ p. number_played p ≤ m) ps (PlayedCommit n ws ∷ []) all (most, tt)
up_to_event m ps (BatchEvent n epoch target ws) most all = up_to_batch m n ws target ps most all

up_to_events : (m : ℕ) (ps : List Played) (es : List LogEvent) → greatest_number es ≤ m → AreUpTo m ps → AreUpTo m (after_events ps es)
up_to_events m ps [] most all = all
up_to_events m ps (e ∷ es) most all = up_to_events m (after_event ps e) es (omega arith) (up_to_event m ps e (omega arith) all)

pub rows_written : (es : List LogEvent) → AreWrittenUpTo (greatest_number es) (rows_after_played [] (after_events [] es))
rows_written es = let within : greatest_number es ≤ greatest_number es = omega arith in written_played (greatest_number es) [] (after_events [] es) (up_to_events (greatest_number es) [] es within tt) tt
