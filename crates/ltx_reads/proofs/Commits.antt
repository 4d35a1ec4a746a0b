-- Kept commits with their stamps and without them.
use Rattle.std.proofs.Common.{◌≡◌, ◌<◌, ◌+◌, ◌&&◌, ◌||◌, ℕ, Bool, true, false, cond, List, [], ◌∷◌, ◌++◌, length, get_or, take, map, filter, filter_map, nat_lt, Option, Some, None, is_some, option_map, if◌then◌else◌, refl, sym, ap, ◌∙◌}
use Rattle.std.proofs.Common.{add-one, append_assoc}
use Rattle.std.proofs.Math.Seq.{take-suc}
use Rattle.std.proofs.lemmas.List.Elements.{filter-append, filter_map-append}
use Rattle.std.specs.List.{list_any, find, cons_option}
use Rattle.ltx_model.specs.Keys.{Cell}
use Rattle.ltx_model.specs.Records.{Recorded, Records, has_written}
use Rattle.ltx_reads.specs.Batches.{is_late_batch}
use Rattle.ltx_reads.specs.Stamped.{Stamped, kept_at, kept_of, has_kept, if_late, IsTied}
use Rattle.ltx_reads.specs.Looks.{spanned, if_spanned}
use Rattle.ltx_reads.specs.Sites.{wrote, batch_wrote}

-- records of the same entries are the same
pub same_kept : (commits : ℕ) (xs ys : List Recorded) → xs ≡ ys → (let a : Records = record { kept = xs; commits = commits } in a) ≡ record { kept = ys; commits = commits }
same_kept commits xs ys e = λ i. record { kept = e i; commits = commits }

-- those that pass a test, without their stamps
pub commits_filter : (p : Recorded → Bool) (kept : List Stamped) → filter p (map (λ e. e.commit) kept) ≡ map (λ e. e.commit) (filter (λ e. p e.commit) kept)
commits_filter p [] = refl
commits_filter p (e ∷ es) = by_test (p e.commit) (commits_filter p es) where
  by_test : (b : Bool) → filter p (map (λ e. e.commit) es) ≡ map (λ e. e.commit) (filter (λ e. p e.commit) es)
      → cond b (e.commit ∷ filter p (map (λ e. e.commit) es)) (filter p (map (λ e. e.commit) es)) ≡ map (λ e. e.commit) (cond b (e ∷ filter (λ e. p e.commit) es) (filter (λ e. p e.commit) es))
  by_test true rest = ap (λ l. e.commit ∷ l) rest
  by_test false rest = rest

map_twice : (kept : List Stamped) → map (λ (e : Stamped). e.commit.number) kept ≡ map (λ r. r.number) (map (λ e. e.commit) kept)
map_twice [] = refl
map_twice (e ∷ es) = ap (λ l. e.commit.number ∷ l) (map_twice es)

-- their numbers
pub numbers_filter : (p : Recorded → Bool) (kept : List Stamped) → map (λ (e : Stamped). e.commit.number) (filter (λ e. p e.commit) kept) ≡ map (λ r. r.number) (filter p (map (λ e. e.commit) kept))
numbers_filter p kept = map_twice (filter (λ e. p e.commit) kept) ∙ ap (map (λ r. r.number)) (sym (commits_filter p kept))

pub filter_both : (p q r : Stamped → Bool) → ((e : Stamped) → r e ≡ (q e && p e)) → (xs : List Stamped) → filter p (filter q xs) ≡ filter r xs
filter_both p q r same [] = refl
filter_both p q r same (x ∷ xs) = by_tests (q x) (p x) (r x) refl (same x) (filter_both p q r same xs) where
  by_tests : (b d f : Bool) → p x ≡ d → f ≡ (b && d) → filter p (filter q xs) ≡ filter r xs → filter p (cond b (x ∷ filter q xs) (filter q xs)) ≡ cond f (x ∷ filter r xs) (filter r xs)
  by_tests true true f e g rest = rw (e, g) (ap (λ l. x ∷ l) rest)
  by_tests true false f e g rest = rw (e, g) rest
  by_tests false d f e g rest = rw g rest

late_is : (b l w : Bool) → (b && (l && w)) ≡ ((b && w) && l)
late_is true true true = refl
late_is true true false = refl
late_is true false true = refl
late_is true false false = refl
late_is false l w = refl

module _ (kept : List Stamped) (next : ℕ) (cell : Cell) (stamps : List ℕ) where
  -- the numbers of those that wrote a key
  pub writers_are : IsTied kept next (wrote cell) stamps → map (λ (e : Stamped). e.commit.number) (kept_of kept stamps) ≡ map (λ r. r.number) (filter (has_written cell) (map (λ e. e.commit) kept))
  writers_are tied = ap (map (λ e. e.commit.number)) tied.found ∙ numbers_filter (has_written cell) kept

  -- the numbers of the late batches among them
  pub late_are : (above : ℕ) → IsTied kept next (batch_wrote cell) stamps
      → map (λ (e : Stamped). e.commit.number) (filter (λ e. nat_lt above e.commit.mark) (kept_of kept stamps)) ≡ map (λ r. r.number) (filter (is_late_batch cell above) (map (λ e. e.commit) kept))
  late_are above tied =
      ap (λ l. map (λ e. e.commit.number) (filter (λ e. nat_lt above e.commit.mark) l)) tied.found
      ∙ ap (map (λ e. e.commit.number)) (filter_both (λ e. nat_lt above e.commit.mark) (batch_wrote cell) (λ e. is_late_batch cell above e.commit) (λ e. late_is e.commit.batch (nat_lt above e.commit.mark) (has_written cell e.commit)) kept)
      ∙ numbers_filter (is_late_batch cell above) kept

is_filled : List Stamped → Bool
is_filled [] = false
is_filled (x ∷ xs) = true

any_found : (kept : List Stamped) (stamps : List ℕ) → has_kept kept stamps ≡ is_filled (kept_of kept stamps)
unfolding is_filled
any_found kept [] = refl
any_found kept (s ∷ ss) = by_case (kept_at kept s) (any_found kept ss) where
  by_case : (o : Option Stamped) → has_kept kept ss ≡ is_filled (kept_of kept ss) → (is_some o || has_kept kept ss) ≡ is_filled (cons_option o (kept_of kept ss))
  by_case None rest = rest
  by_case (Some e) rest = refl

any_passes : (p : Recorded → Bool) (kept : List Stamped) → list_any p (map (λ e. e.commit) kept) ≡ is_filled (filter (λ e. p e.commit) kept)
unfolding is_filled
any_passes p [] = refl
any_passes p (e ∷ es) = by_test (p e.commit) (any_passes p es) where
  by_test : (b : Bool) → list_any p (map (λ e. e.commit) es) ≡ is_filled (filter (λ e. p e.commit) es) → (b || list_any p (map (λ e. e.commit) es)) ≡ is_filled (cond b (e ∷ filter (λ e. p e.commit) es) (filter (λ e. p e.commit) es))
  by_test true rest = refl
  by_test false rest = rest

-- whether a kept commit wrote a key
pub has_writer : (kept : List Stamped) (next : ℕ) (cell : Cell) (stamps : List ℕ) → IsTied kept next (wrote cell) stamps → list_any (has_written cell) (map (λ e. e.commit) kept) ≡ has_kept kept stamps
has_writer kept next cell stamps tied = any_passes (has_written cell) kept ∙ ap is_filled (sym tied.found) ∙ sym (any_found kept stamps)

map_joined : (xs ys : List Stamped) → map (λ (e : Stamped). e.commit.number) (xs ++ ys) ≡ map (λ e. e.commit.number) xs ++ map (λ e. e.commit.number) ys
map_joined [] ys = refl
map_joined (x ∷ xs) ys = ap (λ l. x.commit.number ∷ l) (map_joined xs ys)

-- one stamp more
kept_more : (kept : List Stamped) (stamps : List ℕ) (i : ℕ) → i < length stamps → kept_of kept (take (i + 1) stamps) ≡ kept_of kept (take i stamps) ++ cons_option (kept_at kept (get_or stamps i 0)) []
kept_more kept stamps i within = ap (λ n. kept_of kept (take n stamps)) (add-one i) ∙ ap (kept_of kept) (take-suc stamps i 0 within) ∙ filter_map-append (kept_at kept) (take i stamps) (get_or stamps i 0 ∷ [])

pub numbers_step : (kept : List Stamped) (stamps : List ℕ) (i : ℕ) (found new : List ℕ) → i < length stamps → found ≡ map (λ e. e.commit.number) (kept_of kept (take i stamps))
    → new ≡ found ++ map (λ e. e.commit.number) (cons_option (kept_at kept (get_or stamps i 0)) []) → new ≡ map (λ e. e.commit.number) (kept_of kept (take (i + 1) stamps))
numbers_step kept stamps i found new within before is =
    is ∙ ap (λ l. l ++ map (λ e. e.commit.number) (cons_option (kept_at kept (get_or stamps i 0)) [])) before
    ∙ sym (map_joined (kept_of kept (take i stamps)) (cons_option (kept_at kept (get_or stamps i 0)) [])) ∙ sym (ap (map (λ e. e.commit.number)) (kept_more kept stamps i within))

late_one : (above : ℕ) (o : Option Stamped) → filter (λ (e : Stamped). nat_lt above e.commit.mark) (cons_option o []) ≡ cons_option (if_late above o) []
late_one above None = refl
late_one above (Some e) = by_test (nat_lt above e.commit.mark) where
  by_test : (b : Bool) → cond b (e ∷ []) [] ≡ cons_option (if b then Some e else None) []
  by_test true = refl
  by_test false = refl

pub late_step : (above : ℕ) (kept : List Stamped) (stamps : List ℕ) (i : ℕ) (found new : List ℕ) → i < length stamps → found ≡ map (λ e. e.commit.number) (filter (λ e. nat_lt above e.commit.mark) (kept_of kept (take i stamps)))
    → new ≡ found ++ map (λ e. e.commit.number) (cons_option (if_late above (kept_at kept (get_or stamps i 0))) []) → new ≡ map (λ e. e.commit.number) (filter (λ e. nat_lt above e.commit.mark) (kept_of kept (take (i + 1) stamps)))
late_step above kept stamps i found new within before is =
    is ∙ ap (λ l. l ++ map (λ e. e.commit.number) (cons_option (if_late above (kept_at kept (get_or stamps i 0))) [])) before
    ∙ sym (map_joined (filter (λ e. nat_lt above e.commit.mark) (kept_of kept (take i stamps))) (cons_option (if_late above (kept_at kept (get_or stamps i 0))) []))
    ∙ ap (map (λ e. e.commit.number)) (ap (λ l. filter (λ e. nat_lt above e.commit.mark) (kept_of kept (take i stamps)) ++ l) (sym (late_one above (kept_at kept (get_or stamps i 0)))) ∙ sym (filter-append (λ e. nat_lt above e.commit.mark) (kept_of kept (take i stamps)) (cons_option (kept_at kept (get_or stamps i 0)) [])))
    ∙ sym (ap (λ l. map (λ e. e.commit.number) (filter (λ e. nat_lt above e.commit.mark) l)) (kept_more kept stamps i within))

-- the first commit that passes a test, without its stamp
pub mark_found : (p : Recorded → Bool) (kept : List Stamped) → option_map (λ (e : Stamped). e.commit.mark) (find (λ e. p e.commit) kept) ≡ option_map (λ r. r.mark) (find p (map (λ e. e.commit) kept))
mark_found p [] = refl
mark_found p (e ∷ es) = by_test (p e.commit) (mark_found p es) where
  by_test : (b : Bool) → option_map (λ (e : Stamped). e.commit.mark) (find (λ e. p e.commit) es) ≡ option_map (λ r. r.mark) (find p (map (λ e. e.commit) es))
      → option_map (λ (e : Stamped). e.commit.mark) (cond b (Some e) (find (λ e. p e.commit) es)) ≡ option_map (λ r. r.mark) (cond b (Some e.commit) (find p (map (λ e. e.commit) es)))
  by_test true rest = refl
  by_test false rest = rest

stamps_joined : (xs ys : List Stamped) → map (λ (e : Stamped). e.stamp) (xs ++ ys) ≡ map (λ e. e.stamp) xs ++ map (λ e. e.stamp) ys
stamps_joined [] ys = refl
stamps_joined (x ∷ xs) ys = ap (λ l. x.stamp ∷ l) (stamps_joined xs ys)

pub stamps_step : (kept : List Stamped) (stamps : List ℕ) (i : ℕ) (found new : List ℕ) → i < length stamps → found ≡ map (λ e. e.stamp) (kept_of kept (take i stamps))
    → new ≡ found ++ map (λ e. e.stamp) (cons_option (kept_at kept (get_or stamps i 0)) []) → new ≡ map (λ e. e.stamp) (kept_of kept (take (i + 1) stamps))
stamps_step kept stamps i found new within before is =
    is ∙ ap (λ l. l ++ map (λ e. e.stamp) (cons_option (kept_at kept (get_or stamps i 0)) [])) before
    ∙ sym (stamps_joined (kept_of kept (take i stamps)) (cons_option (kept_at kept (get_or stamps i 0)) [])) ∙ sym (ap (map (λ e. e.stamp)) (kept_more kept stamps i within))

spanned_one : (cell : Cell) (o : Option Stamped) → filter (spanned cell) (cons_option o []) ≡ cons_option (if_spanned cell o) []
spanned_one cell None = refl
spanned_one cell (Some e) = by_test (spanned cell e) where
  by_test : (b : Bool) → cond b (e ∷ []) [] ≡ cons_option (if b then Some e else None) []
  by_test true = refl
  by_test false = refl

pub spanned_step : (cell : Cell) (kept : List Stamped) (stamps : List ℕ) (i : ℕ) (found new : List ℕ) → i < length stamps → found ≡ map (λ e. e.stamp) (filter (spanned cell) (kept_of kept (take i stamps)))
    → new ≡ found ++ map (λ e. e.stamp) (cons_option (if_spanned cell (kept_at kept (get_or stamps i 0))) []) → new ≡ map (λ e. e.stamp) (filter (spanned cell) (kept_of kept (take (i + 1) stamps)))
spanned_step cell kept stamps i found new within before is =
    is ∙ ap (λ l. l ++ map (λ e. e.stamp) (cons_option (if_spanned cell (kept_at kept (get_or stamps i 0))) [])) before
    ∙ sym (stamps_joined (filter (spanned cell) (kept_of kept (take i stamps))) (cons_option (if_spanned cell (kept_at kept (get_or stamps i 0))) []))
    ∙ ap (map (λ e. e.stamp)) (ap (λ l. filter (spanned cell) (kept_of kept (take i stamps)) ++ l) (sym (spanned_one cell (kept_at kept (get_or stamps i 0)))) ∙ sym (filter-append (spanned cell) (kept_of kept (take i stamps)) (cons_option (kept_at kept (get_or stamps i 0)) [])))
    ∙ sym (ap (λ l. map (λ e. e.stamp) (filter (spanned cell) l)) (kept_more kept stamps i within))

-- one stamp of those still to come
pub both_step : (kept : List Stamped) (s : ℕ) (left found new all : List ℕ) → found ++ map (λ e. e.commit.number) (kept_of kept (s ∷ left)) ≡ all
    → new ≡ found ++ map (λ e. e.commit.number) (cons_option (kept_at kept s) []) → new ++ map (λ e. e.commit.number) (kept_of kept left) ≡ all
both_step kept s left found new all before is = ap (λ l. l ++ map (λ e. e.commit.number) (kept_of kept left)) is ∙ by_case (kept_at kept s) before where
  by_case : (o : Option Stamped) → found ++ map (λ e. e.commit.number) (cons_option o (kept_of kept left)) ≡ all
      → (found ++ map (λ e. e.commit.number) (cons_option o [])) ++ map (λ e. e.commit.number) (kept_of kept left) ≡ all
  by_case None e = append_assoc found [] (map (λ e. e.commit.number) (kept_of kept left)) ∙ e
  by_case (Some x) e = append_assoc found (x.commit.number ∷ []) (map (λ e. e.commit.number) (kept_of kept left)) ∙ e
