-- Commits stay indexed, where they are added and forgotten.
use Rattle.std.proofs.Common.{◌≡◌, ◌⊎◌, inl, inr, ℕ, suc, ◌+◌, ◌<◌, ◌&&◌, ◌||◌, Bool, true, false, if◌then◌else◌, List, [], ◌∷◌, ◌++◌, length, get_or, take, filter, refl, sym, ap, ◌∙◌, subst}
use Rattle.std.specs.List.{list_any}
use Rattle.std.proofs.lemmas.List.Folds.{list_any_more}
use Rattle.ltx_model.specs.Keys.{Cell, same_cell}
use Rattle.ltx_reads.specs.declared.sites.Sites.{Sites}
use Rattle.ltx_reads.specs.Stamped.{Stamped, AreRising, AreBelow, with_stamp, IsTied}
use Rattle.ltx_reads.specs.Places.{stamps_at, scans_at, IsStampedBy, HasSameStamps, MayHaveStamp}
use Rattle.ltx_reads.specs.Looks.{got, scanned}
use Rattle.ltx_reads.specs.Sites.{wrote, batch_wrote, IsNoted, MayBeNoted, AreIndexed}
use Rattle.ltx_reads.proofs.Ties.{with_twice, tied_later, tied_stray, tied_filter, tied_more, tied_nothing, rising_more, rising_filter, below_filter, below_later, below_more}

-- ---- stamps put at keys

-- two tests after one another
pub stamped_both : (p q : Cell → Bool) (s : ℕ) (old mid new : Cell → List ℕ) → IsStampedBy p s old mid → IsStampedBy q s mid new → IsStampedBy (λ cell. p cell || q cell) s old new
stamped_both p q s old mid new first second cell = second cell ∙ ap (λ l. if q cell then with_stamp l s else l) (first cell) ∙ by_tests (p cell) (q cell) where
  by_tests : (a b : Bool) → (if b then with_stamp (if a then with_stamp (old cell) s else old cell) s else (if a then with_stamp (old cell) s else old cell)) ≡ (if a || b then with_stamp (old cell) s else old cell)
  by_tests true true = with_twice (old cell) s
  by_tests true false = refl
  by_tests false true = refl
  by_tests false false = refl

pub stamped_same : (p q : Cell → Bool) (s : ℕ) (old new : Cell → List ℕ) → ((cell : Cell) → q cell ≡ p cell) → IsStampedBy p s old new → IsStampedBy q s old new
stamped_same p q s old new same stamped cell = stamped cell ∙ ap (λ b. if b then with_stamp (old cell) s else old cell) (sym (same cell))

-- one item more of a list of which some item is to be of the key
pub stamped_more : {X : Type 0} (test : Cell → X → Bool) (s : ℕ) (xs : List X) (i : ℕ) (x : X) (old mid new : Cell → List ℕ) → i < length xs → x ≡ get_or xs i x
    → IsStampedBy (λ cell. list_any (test cell) (take i xs)) s old mid → IsStampedBy (λ cell. test cell x) s mid new
    → IsStampedBy (λ cell. list_any (test cell) (take (i + 1) xs)) s old new
stamped_more test s xs i x old mid new within is first second =
    stamped_same _ _ s old new (λ cell. list_any_more (test cell) xs i x within ∙ ap (λ y. list_any (test cell) (take i xs) || test cell y) (sym is)) (stamped_both _ _ s old mid new first second)

-- some of the keys may have it
pub stamped_may : (p : Cell → Bool) (s : ℕ) (old new : Cell → List ℕ) → IsStampedBy p s old new → MayHaveStamp s old new
stamped_may p s old new stamped cell = by_test (p cell) (stamped cell) where
  by_test : (b : Bool) → new cell ≡ (if b then with_stamp (old cell) s else old cell) → (new cell ≡ old cell) ⊎ (new cell ≡ with_stamp (old cell) s)
  by_test true is = inr is
  by_test false is = inl is

pub may_after : (s : ℕ) (old mid new : Cell → List ℕ) → MayHaveStamp s old mid → HasSameStamps mid new → MayHaveStamp s old new
may_after s old mid new may same cell = elim (may cell) [
  | inl is ↦ inl (same cell ∙ is)
  | inr is ↦ inr (same cell ∙ is)
]

pub may_same : (s : ℕ) (old : Cell → List ℕ) → MayHaveStamp s old old
may_same s old cell = inl refl

-- ---- ties of keys

module _ (kept : List Stamped) (old new : Cell → List ℕ) (test : Cell → Stamped → Bool) where
  tie_stray : (next : ℕ) → AreBelow next kept → MayHaveStamp next old new → ((cell : Cell) → IsTied kept next (test cell) (old cell)) → (cell : Cell) → IsTied kept (next + 1) (test cell) (new cell)
  tie_stray next below may tied cell = elim (may cell) [
    | inl is ↦ subst (IsTied kept (next + 1) (test cell)) (sym is) (tied_later kept next (test cell) (old cell) (tied cell))
    | inr is ↦ subst (IsTied kept (next + 1) (test cell)) (sym is) (tied_stray kept next (test cell) (old cell) (tied cell) below)
  ]

  tie_more : (e : Stamped) → AreBelow e.stamp kept → IsStampedBy (λ cell. test cell e) e.stamp old new → ((cell : Cell) → IsTied kept e.stamp (test cell) (old cell))
      → (cell : Cell) → IsTied (kept ++ e ∷ []) (e.stamp + 1) (test cell) (new cell)
  tie_more e below stamped tied cell = subst (IsTied (kept ++ e ∷ []) (e.stamp + 1) (test cell)) (sym (stamped cell)) (tied_more kept e (test cell) (old cell) (tied cell) below)

-- ---- all that is indexed

-- nothing is kept
pub indexed_nothing : (next : ℕ) (sites : Sites) → sites.readers ≡ [] → sites.scanners ≡ [] → sites.writers ≡ [] → sites.batches ≡ [] → AreIndexed [] next sites
indexed_nothing next sites readers scanners writers batches = record {
  rising = tt;
  below = tt;
  readers = λ cell. subst (λ l. IsTied [] next (got cell) (stamps_at l cell)) (sym readers) (tied_nothing next (got cell));
  scanners = λ cell. subst (λ l. IsTied [] next (scanned cell) (scans_at l cell)) (sym scanners) (tied_nothing next (scanned cell));
  writers = λ cell. subst (λ l. IsTied [] next (wrote cell) (stamps_at l cell)) (sym writers) (tied_nothing next (wrote cell));
  batches = λ cell. subst (λ l. IsTied [] next (batch_wrote cell) (stamps_at l cell)) (sym batches) (tied_nothing next (batch_wrote cell));
}

pub noted_may : (e : Stamped) (old new : Sites) → IsNoted e old new → MayBeNoted e.stamp old new
noted_may e old new noted = record {
  readers = stamped_may (λ cell. got cell e) e.stamp (stamps_at old.readers) (stamps_at new.readers) noted.readers;
  scanners = stamped_may (λ cell. scanned cell e) e.stamp (scans_at old.scanners) (scans_at new.scanners) noted.scanners;
  writers = stamped_may (λ cell. wrote cell e) e.stamp (stamps_at old.writers) (stamps_at new.writers) noted.writers;
  batches = stamped_may (λ cell. batch_wrote cell e) e.stamp (stamps_at old.batches) (stamps_at new.batches) noted.batches;
}

-- the next stamp is taken
pub indexed_later : (kept : List Stamped) (next : ℕ) (sites : Sites) → AreIndexed kept next sites → AreIndexed kept (next + 1) sites
indexed_later kept next sites is = record {
  rising = is.rising;
  below = below_later next kept is.below;
  readers = λ cell. tied_later kept next (got cell) (stamps_at sites.readers cell) (is.readers cell);
  scanners = λ cell. tied_later kept next (scanned cell) (scans_at sites.scanners cell) (is.scanners cell);
  writers = λ cell. tied_later kept next (wrote cell) (stamps_at sites.writers cell) (is.writers cell);
  batches = λ cell. tied_later kept next (batch_wrote cell) (stamps_at sites.batches cell) (is.batches cell);
}

-- it was noted, and nothing is kept of it
pub indexed_stray : (kept : List Stamped) (next : ℕ) (old new : Sites) → AreIndexed kept next old → MayBeNoted next old new → AreIndexed kept (next + 1) new
indexed_stray kept next old new is may = record {
  rising = is.rising;
  below = below_later next kept is.below;
  readers = tie_stray kept (stamps_at old.readers) (stamps_at new.readers) got next is.below may.readers is.readers;
  scanners = tie_stray kept (scans_at old.scanners) (scans_at new.scanners) scanned next is.below may.scanners is.scanners;
  writers = tie_stray kept (stamps_at old.writers) (stamps_at new.writers) wrote next is.below may.writers is.writers;
  batches = tie_stray kept (stamps_at old.batches) (stamps_at new.batches) batch_wrote next is.below may.batches is.batches;
}

-- a commit is noted and kept
pub indexed_more : (kept : List Stamped) (e : Stamped) (old new : Sites) → AreIndexed kept e.stamp old → IsNoted e old new → AreIndexed (kept ++ e ∷ []) (e.stamp + 1) new
indexed_more kept e old new is noted = record {
  rising = rising_more kept e is.rising is.below;
  below = below_more kept e is.below;
  readers = tie_more kept (stamps_at old.readers) (stamps_at new.readers) got e is.below noted.readers is.readers;
  scanners = tie_more kept (scans_at old.scanners) (scans_at new.scanners) scanned e is.below noted.scanners is.scanners;
  writers = tie_more kept (stamps_at old.writers) (stamps_at new.writers) wrote e is.below noted.writers is.writers;
  batches = tie_more kept (stamps_at old.batches) (stamps_at new.batches) batch_wrote e is.below noted.batches is.batches;
}

-- commits are forgotten
pub indexed_filter : (keep : Stamped → Bool) (kept : List Stamped) (next : ℕ) (sites : Sites) → AreIndexed kept next sites → AreIndexed (filter keep kept) next sites
indexed_filter keep kept next sites is = record {
  rising = rising_filter keep kept is.rising;
  below = below_filter keep next kept is.below;
  readers = λ cell. tied_filter keep kept next (got cell) (stamps_at sites.readers cell) is.rising (is.readers cell);
  scanners = λ cell. tied_filter keep kept next (scanned cell) (scans_at sites.scanners cell) is.rising (is.scanners cell);
  writers = λ cell. tied_filter keep kept next (wrote cell) (stamps_at sites.writers cell) is.rising (is.writers cell);
  batches = λ cell. tied_filter keep kept next (batch_wrote cell) (stamps_at sites.batches cell) is.rising (is.batches cell);
}
