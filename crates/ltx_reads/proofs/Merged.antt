-- Merged stamps of kept commits are those of the commits that pass either test.
use Rattle.std.proofs.Common.{◌≡◌, ℕ, suc, ◌+◌, ◌<◌, ◌==◌, nat_lt, ◌||◌, Bool, true, false, cond, if◌then◌else◌, List, [], ◌∷◌, ◌++◌, length, map, filter, Option, Some, None, refl, sym, ap, ◌∙◌, subst, arith}
use Rattle.std.specs.List.{cons_option, AllByRecursion}
use Rattle.std.proofs.lemmas.Bool.{eq-eqb, ne_eqb, lt-ltb, le-ltb}
use Rattle.ltx_reads.specs.Stamped.{Stamped, kept_at, kept_of, AreRising, AreBelow}
use Rattle.ltx_reads.specs.Merges.{merge_from, merged}
use Rattle.ltx_reads.proofs.Ties.{all_weaker, all_filter}

abbrev stamps_of : List Stamped → List ℕ
stamps_of kept = map (λ e. e.stamp) kept

abbrev AreAbove : ℕ → List ℕ → Type 0
AreAbove s xs = AllByRecursion (λ x. s < x) xs

stamps_above : (s : ℕ) (kept : List Stamped) → AllByRecursion (λ e. s < e.stamp) kept → AreAbove s (stamps_of kept)
stamps_above s [] above = tt
stamps_above s (e ∷ es) above = (above.0, stamps_above s es above.1)

pub merged_nothing : (xs : List ℕ) → merged xs [] ≡ xs
merged_nothing [] = refl
merged_nothing (x ∷ xs) = refl

pub no_items : (xs : List ℕ) → length xs ≡ 0 → xs ≡ []
no_items [] none = refl
no_items (x ∷ xs) none = absurd (omega (arith, none))

-- a stamp below all others comes first
first_alone : (s : ℕ) (xs ys : List ℕ) → AreAbove s ys → merged (s ∷ xs) ys ≡ s ∷ merged xs ys
first_alone s xs [] above = ap (λ l. s ∷ l) (sym (merged_nothing xs))
first_alone s xs (y ∷ ys) above =
    let differ : (s == y) ≡ false = ne_eqb s y (λ same. let less : s < y = above.0 in omega arith) in
    let less : nat_lt s y ≡ true = lt-ltb s y above.0 in
    ap (λ b. if b then s ∷ merged xs ys else (if nat_lt s y then s ∷ merged xs (y ∷ ys) else y ∷ merge_from s xs (merged xs) ys)) differ
    ∙ ap (λ b. if b then s ∷ merged xs (y ∷ ys) else y ∷ merge_from s xs (merged xs) ys) less

second_alone : (s : ℕ) (xs ys : List ℕ) → AreAbove s xs → merged xs (s ∷ ys) ≡ s ∷ merged xs ys
second_alone s [] ys above = refl
second_alone s (x ∷ xs) ys above =
    let differ : (x == s) ≡ false = ne_eqb x s (λ same. let less : s < x = above.0 in omega arith) in
    let less : nat_lt x s ≡ false = le-ltb x s (let l : s < x = above.0 in omega arith) in
    ap (λ b. if b then x ∷ merged xs ys else (if nat_lt x s then x ∷ merged xs (s ∷ ys) else s ∷ merge_from x xs (merged xs) ys)) differ
    ∙ ap (λ b. if b then x ∷ merged xs (s ∷ ys) else s ∷ merge_from x xs (merged xs) ys) less

both_first : (s : ℕ) (xs ys : List ℕ) → merged (s ∷ xs) (s ∷ ys) ≡ s ∷ merged xs ys
both_first s xs ys = ap (λ b. if b then s ∷ merged xs ys else (if nat_lt s s then s ∷ merged xs (s ∷ ys) else s ∷ merge_from s xs (merged xs) ys)) (eq-eqb s s refl)

pub merged_filters : (p q : Stamped → Bool) (kept : List Stamped) → AreRising kept → merged (stamps_of (filter p kept)) (stamps_of (filter q kept)) ≡ stamps_of (filter (λ e. p e || q e) kept)
merged_filters p q [] rising = refl
merged_filters p q (e ∷ es) rising = by_tests (p e) (q e) (merged_filters p q es rising.1) where
  above : (test : Stamped → Bool) → AreAbove e.stamp (stamps_of (filter test es))
  above test = stamps_above e.stamp (filter test es) (all_filter (λ x. e.stamp < x.stamp) test es rising.0)

  by_tests : (b d : Bool) → merged (stamps_of (filter p es)) (stamps_of (filter q es)) ≡ stamps_of (filter (λ e. p e || q e) es)
      → merged (stamps_of (cond b (e ∷ filter p es) (filter p es))) (stamps_of (cond d (e ∷ filter q es) (filter q es))) ≡ stamps_of (cond (b || d) (e ∷ filter (λ e. p e || q e) es) (filter (λ e. p e || q e) es))
  by_tests true true rest = both_first e.stamp (stamps_of (filter p es)) (stamps_of (filter q es)) ∙ ap (λ l. e.stamp ∷ l) rest
  by_tests true false rest = first_alone e.stamp (stamps_of (filter p es)) (stamps_of (filter q es)) (above q) ∙ ap (λ l. e.stamp ∷ l) rest
  by_tests false true rest = second_alone e.stamp (stamps_of (filter p es)) (stamps_of (filter q es)) (above p) ∙ ap (λ l. e.stamp ∷ l) rest
  by_tests false false rest = rest

-- kept commits are found by their own stamps
found_each : (kept : List Stamped) → AreRising kept → AllByRecursion (λ e. kept_at kept e.stamp ≡ Some e) kept
found_each [] rising = tt
found_each (x ∷ xs) rising = (ap (λ b. cond b (Some x) (kept_at xs x.stamp)) (eq-eqb x.stamp x.stamp refl), later xs rising.0 (found_each xs rising.1)) where
  later : (ys : List Stamped) → AllByRecursion (λ y. x.stamp < y.stamp) ys → AllByRecursion (λ y. kept_at xs y.stamp ≡ Some y) ys → AllByRecursion (λ y. kept_at (x ∷ xs) y.stamp ≡ Some y) ys
  later [] above found = tt
  later (y ∷ ys) above found =
      let differ : (x.stamp == y.stamp) ≡ false = ne_eqb x.stamp y.stamp (λ same. let less : x.stamp < y.stamp = above.0 in omega arith) in
      (ap (λ b. cond b (Some x) (kept_at xs y.stamp)) differ ∙ found.0, later ys above.1 found.1)

kept_each : (kept ys : List Stamped) → AllByRecursion (λ e. kept_at kept e.stamp ≡ Some e) ys → kept_of kept (stamps_of ys) ≡ ys
kept_each kept [] found = refl
kept_each kept (y ∷ ys) found = λ i. cons_option (found.0 i) (kept_each kept ys found.1 i)

pub kept_by_own : (test : Stamped → Bool) (kept : List Stamped) → AreRising kept → kept_of kept (stamps_of (filter test kept)) ≡ filter test kept
kept_by_own test kept rising = kept_each kept (filter test kept) (all_filter (λ e. kept_at kept e.stamp ≡ Some e) test kept (found_each kept rising))
