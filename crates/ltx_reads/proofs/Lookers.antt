-- Who looked a key up: those who got it, and those who scanned a range that holds it.
use Rattle.std.proofs.Common.{◌≡◌, ℕ, ◌==◌, ◌&&◌, ◌||◌, not, Bool, true, false, cond, if◌then◌else◌, List, [], ◌∷◌, ◌++◌, map, filter, Option, Some, None, refl, sym, ap, ◌∙◌, subst}
use Rattle.std.specs.List.{list_any}
use Rattle.ltx_model.specs.declared.looked.Noted.{Noted}
use Rattle.ltx_model.specs.declared.looked.Reach.{Reach}
use Rattle.ltx_model.specs.declared.looked.Reach.TheVariants.{Nothing, Point, Range}
use Rattle.ltx_model.specs.Keys.{Cell}
use Rattle.ltx_model.specs.Notes.{asks, note_looks_up}
use Rattle.ltx_model.specs.Records.{Recorded, looked_up}
use Rattle.ltx_reads.specs.Looks.{gets, spans, is_scan, note_gets, note_spans, note_scans, got, spanned, scanned}
use Rattle.ltx_reads.specs.Stamped.{Stamped, kept_of, AreRising, IsTied}
use Rattle.ltx_reads.specs.Merges.{merged}
use Rattle.ltx_reads.proofs.Merged.{merged_filters, kept_by_own}
use Rattle.ltx_reads.proofs.Commits.{filter_both, numbers_filter}

reach_parts : (reach : Reach) (k : List ℕ) → asks reach k ≡ (gets reach k || spans reach k)
reach_parts Nothing k = refl
reach_parts (Point key look own) k = or_false (gets (Point key look own) k) where
  or_false : (b : Bool) → b ≡ (b || false)
  or_false true = refl
  or_false false = refl
reach_parts (Range low high looks own) k = refl

and_parts_or : (a b d : Bool) → (a && (b || d)) ≡ ((a && b) || (a && d))
and_parts_or true b d = refl
and_parts_or false b d = refl

any_or : (f g h : Noted → Bool) → ((n : Noted) → f n ≡ (g n || h n)) → (ns : List Noted) → list_any f ns ≡ (list_any g ns || list_any h ns)
any_or f g h same [] = refl
any_or f g h same (n ∷ ns) = ap (λ b. b || list_any f ns) (same n) ∙ ap (λ b. (g n || h n) || b) (any_or f g h same ns) ∙ by_tests (g n) (h n) (list_any g ns) where
  by_tests : (a b d : Bool) → ((a || b) || (d || list_any h ns)) ≡ ((a || d) || (b || list_any h ns))
  by_tests true b d = refl
  by_tests false true true = refl
  by_tests false true false = refl
  by_tests false false d = refl

-- a look-up is a get or a scan
looked_up_parts : (cell : Cell) (e : Stamped) → looked_up cell e.commit ≡ (got cell e || spanned cell e)
looked_up_parts cell e =
    any_or (note_looks_up cell) (note_gets cell) (note_spans cell)
    (λ n. ap (λ b. (n.table == cell.table) && b) (reach_parts n.reach cell.key) ∙ and_parts_or (n.table == cell.table) (gets n.reach cell.key) (spans n.reach cell.key))
    e.commit.notes

-- who scanned a range that holds the key scanned in its table
spans_scans : (reach : Reach) (k : List ℕ) → spans reach k ≡ (is_scan reach && spans reach k)
spans_scans Nothing k = refl
spans_scans (Point key look own) k = refl
spans_scans (Range low high looks own) k = refl

any_within : (f g : Noted → Bool) → ((n : Noted) → f n ≡ (g n && f n)) → (ns : List Noted) → list_any f ns ≡ (list_any g ns && list_any f ns)
any_within f g same [] = refl
any_within f g same (n ∷ ns) = by_tests (f n) (g n) (list_any f ns) (list_any g ns) (same n) (any_within f g same ns) where
  by_tests : (a b d h : Bool) → a ≡ (b && a) → d ≡ (h && d) → (a || d) ≡ ((b || h) && (a || d))
  by_tests true true d h e r = refl
  by_tests true false d h e r = cc
  by_tests false true d h e r = refl
  by_tests false false d h e r = r

swap_parts : (a b d : Bool) → b ≡ (d && b) → (a && b) ≡ ((a && d) && (a && b))
swap_parts true b d e = e
swap_parts false b d e = refl

spanned_scanned : (cell : Cell) (e : Stamped) → spanned cell e ≡ (scanned cell e && spanned cell e)
spanned_scanned cell e =
    any_within (note_spans cell) (note_scans cell) (λ n. swap_parts (n.table == cell.table) (spans n.reach cell.key) (is_scan n.reach) (spans_scans n.reach cell.key)) e.commit.notes

-- the numbers of those who looked a key up
pub lookers_are : (kept : List Stamped) (next : ℕ) (cell : Cell) (gotten scans : List ℕ) → AreRising kept → IsTied kept next (got cell) gotten → IsTied kept next (scanned cell) scans
    → map (λ (e : Stamped). e.commit.number) (kept_of kept (merged (map (λ e. e.stamp) (kept_of kept gotten)) (map (λ e. e.stamp) (filter (spanned cell) (kept_of kept scans)))))
    ≡ map (λ r. r.number) (filter (looked_up cell) (map (λ e. e.commit) kept))
lookers_are kept next cell gotten scans rising by_get by_scan =
    (λ i. map (λ (e : Stamped). e.commit.number) (kept_of kept (merged (map (λ e. e.stamp) (by_get.found i)) (map (λ e. e.stamp) (filter (spanned cell) (by_scan.found i))))))
    ∙ ap (λ l. map (λ (e : Stamped). e.commit.number) (kept_of kept (merged (map (λ e. e.stamp) (filter (got cell) kept)) (map (λ e. e.stamp) l)))) (filter_both (spanned cell) (scanned cell) (spanned cell) (spanned_scanned cell) kept)
    ∙ ap (λ l. map (λ (e : Stamped). e.commit.number) (kept_of kept l)) (merged_filters (got cell) (spanned cell) kept rising)
    ∙ ap (map (λ (e : Stamped). e.commit.number)) (kept_by_own (λ e. got cell e || spanned cell e) kept rising ∙ same_filter (λ e. got cell e || spanned cell e) (λ e. looked_up cell e.commit) (looked_up_parts cell) kept)
    ∙ numbers_filter (looked_up cell) kept where
      same_filter : (p q : Stamped → Bool) → ((e : Stamped) → q e ≡ p e) → (xs : List Stamped) → filter p xs ≡ filter q xs
      same_filter p q same [] = refl
      same_filter p q same (x ∷ xs) = λ i. cond (sym (same x) i) (x ∷ same_filter p q same xs i) (same_filter p q same xs i)
