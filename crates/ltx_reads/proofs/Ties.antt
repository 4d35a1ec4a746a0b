-- Stamps that are tied to kept commits stay so, where commits are added and forgotten.
use Rattle.std.proofs.Common.{◌≡◌, ◌⊎◌, inl, inr, ℕ, suc, ◌+◌, ◌-◌, ◌<◌, ◌==◌, Bool, true, false, cond, if◌then◌else◌, List, [], ◌∷◌, ◌++◌, length, Option, Some, None, filter, filter_map, refl, sym, ap, ◌∙◌, subst, arith}
use Rattle.std.specs.Prelude.{slice_get}
use Rattle.std.specs.List.{find, cons_option, AllByRecursion}
use Rattle.std.proofs.lemmas.List.Elements.{filter-append, filter_map-append}
use Rattle.std.proofs.lemmas.Bool.{eq-eqb, ne_eqb, eqb-true, cases_Bool}
use Rattle.ltx_model.specs.Lists.{IsPairwise}
use Rattle.ltx_model.specs.Records.{Recorded}
use Rattle.ltx_reads.specs.Stamped.{Stamped, kept_at, kept_of, AreRising, AreBelow, is_last, with_stamp, IsTied}

-- ---- where a stamp is found

pub absent_below : (kept : List Stamped) (s : ℕ) → AreBelow s kept → kept_at kept s ≡ None
absent_below [] s below = refl
absent_below (e ∷ es) s below =
    let no : (e.stamp == s) ≡ false = ne_eqb e.stamp s (λ same. let less : e.stamp < s = below.0 in omega arith) in
    rw no (absent_below es s below.1)

pub absent_above : (kept : List Stamped) (s : ℕ) → AllByRecursion (λ e. s < e.stamp) kept → kept_at kept s ≡ None
absent_above [] s above = refl
absent_above (e ∷ es) s above =
    let no : (e.stamp == s) ≡ false = ne_eqb e.stamp s (λ same. let less : s < e.stamp = above.0 in omega arith) in
    rw no (absent_above es s above.1)

-- a commit more hides none
more_before : (kept : List Stamped) (e : Stamped) (s : ℕ) → s < e.stamp → kept_at (kept ++ e ∷ []) s ≡ kept_at kept s
more_before [] e s less =
    let no : (e.stamp == s) ≡ false = ne_eqb e.stamp s (λ same. omega arith) in
    rw no refl
more_before (x ∷ xs) e s less = by_test (x.stamp == s) (more_before xs e s less) where
  by_test : (b : Bool) → kept_at (xs ++ e ∷ []) s ≡ kept_at xs s → cond b (Some x) (kept_at (xs ++ e ∷ []) s) ≡ cond b (Some x) (kept_at xs s)
  by_test true rest = refl
  by_test false rest = rest

more_last : (kept : List Stamped) (e : Stamped) → AreBelow e.stamp kept → kept_at (kept ++ e ∷ []) e.stamp ≡ Some e
more_last [] e below = rw (eq-eqb e.stamp e.stamp refl) refl
more_last (x ∷ xs) e below =
    let no : (x.stamp == e.stamp) ≡ false = ne_eqb x.stamp e.stamp (λ same. let less : x.stamp < e.stamp = below.0 in omega arith) in
    rw no (more_last xs e below.1)

-- ---- lists of stamps

append_nothing : (xs : List Stamped) → xs ++ [] ≡ xs
append_nothing [] = refl
append_nothing (x ∷ xs) = ap (λ l. x ∷ l) (append_nothing xs)

-- a stamp that is not kept changes nothing
stray : (kept : List Stamped) (stamps : List ℕ) (s : ℕ) → kept_at kept s ≡ None → kept_of kept (stamps ++ s ∷ []) ≡ kept_of kept stamps
stray kept stamps s none = filter_map-append (kept_at kept) stamps (s ∷ []) ∙ ap (λ o. kept_of kept stamps ++ cons_option o []) none ∙ append_nothing (kept_of kept stamps)

-- stamps below the last commit's are those that they were
before_more : (kept : List Stamped) (e : Stamped) (stamps : List ℕ) → AllByRecursion (λ s. s < e.stamp) stamps → kept_of (kept ++ e ∷ []) stamps ≡ kept_of kept stamps
before_more kept e [] below = refl
before_more kept e (s ∷ ss) below = λ i. cons_option (more_before kept e s below.0 i) (before_more kept e ss below.1 i)

pub all_weaker : {X : Type 0} (P Q : X → Type 0) → ((x : X) → P x → Q x) → (xs : List X) → AllByRecursion P xs → AllByRecursion Q xs
all_weaker P Q f [] all = tt
all_weaker P Q f (x ∷ xs) all = (f x all.0, all_weaker P Q f xs all.1)

all_more : {X : Type 0} (P : X → Type 0) (xs : List X) (y : X) → AllByRecursion P xs → P y → AllByRecursion P (xs ++ y ∷ [])
all_more P [] y all here = (here, tt)
all_more P (x ∷ xs) y all here = (all.0, all_more P xs y all.1 here)

pub all_filter : {X : Type 0} (P : X → Type 0) (test : X → Bool) (xs : List X) → AllByRecursion P xs → AllByRecursion P (filter test xs)
all_filter P test [] all = tt
all_filter P test (x ∷ xs) all = by_test (test x) (all_filter P test xs all.1) where
  by_test : (b : Bool) → AllByRecursion P (filter test xs) → AllByRecursion P (cond b (x ∷ filter test xs) (filter test xs))
  by_test true rest = (all.0, rest)
  by_test false rest = rest

above_no_last : (stamps : List ℕ) (s : ℕ) → AllByRecursion (λ t. t < s) stamps → is_last stamps s ≡ false
above_no_last [] s below = refl
above_no_last (x ∷ []) s below = ne_eqb x s (λ same. let less : x < s = below.0 in omega arith)
above_no_last (x ∷ y ∷ ys) s below = above_no_last (y ∷ ys) s below.1

-- a stamp above all others comes behind them
pub with_next : (stamps : List ℕ) (s : ℕ) → AllByRecursion (λ t. t < s) stamps → with_stamp stamps s ≡ stamps ++ s ∷ []
with_next stamps s below = ap (λ b. if b then stamps else stamps ++ s ∷ []) (above_no_last stamps s below)

last_there : (stamps : List ℕ) (s : ℕ) → is_last (stamps ++ s ∷ []) s ≡ true
last_there [] s = eq-eqb s s refl
last_there (x ∷ []) s = eq-eqb s s refl
last_there (x ∷ y ∷ ys) s = last_there (y ∷ ys) s

-- what is there stays
pub with_twice : (stamps : List ℕ) (s : ℕ) → with_stamp (with_stamp stamps s) s ≡ with_stamp stamps s
with_twice stamps s = by_test (is_last stamps s) refl where
  by_test : (b : Bool) → is_last stamps s ≡ b → with_stamp (if b then stamps else stamps ++ s ∷ []) s ≡ (if b then stamps else stamps ++ s ∷ [])
  by_test true is = ap (λ b. if b then stamps else stamps ++ s ∷ []) is
  by_test false is = ap (λ b. if b then stamps ++ s ∷ [] else (stamps ++ s ∷ []) ++ s ∷ []) (last_there stamps s)

abbrev pub last_is : Option ℕ → ℕ → Bool
last_is None s = false
last_is (Some x) s = x == s

-- the last stamp by its place
pub last_at : (stamps : List ℕ) (s : ℕ) → is_last stamps s ≡ last_is (slice_get stamps (length stamps - 1)) s
last_at [] s = refl
last_at (x ∷ []) s = refl
last_at (x ∷ y ∷ ys) s =
    let e : suc (suc (length ys)) - 1 ≡ suc (suc (length ys) - 1) = omega arith in
    rw e (last_at (y ∷ ys) s)

-- ---- ties

module _ (kept : List Stamped) (next : ℕ) (test : Stamped → Bool) (stamps : List ℕ) (tied : IsTied kept next test stamps) where
  -- the next stamp is taken
  pub tied_later : IsTied kept (next + 1) test stamps
  tied_later = record { found = tied.found; below = all_weaker (λ s. s < next) (λ s. s < next + 1) (λ s less. omega arith) stamps tied.below }

  -- it was noted, and nothing is kept of it
  pub tied_stray : AreBelow next kept → IsTied kept (next + 1) test (with_stamp stamps next)
  tied_stray below = subst (IsTied kept (next + 1) test) (sym (with_next stamps next tied.below)) (record {
    found = stray kept stamps next (absent_below kept next below) ∙ tied.found;
    below = all_more (λ s. s < next + 1) stamps next tied_later.below (omega arith);
  })

filters_swap : (p q : Stamped → Bool) (xs : List Stamped) → filter p (filter q xs) ≡ filter q (filter p xs)
filters_swap p q [] = refl
filters_swap p q (x ∷ xs) = by_tests (p x) (q x) refl refl (filters_swap p q xs) where
  by_tests : (b d : Bool) → p x ≡ b → q x ≡ d → filter p (filter q xs) ≡ filter q (filter p xs) → filter p (cond d (x ∷ filter q xs) (filter q xs)) ≡ filter q (cond b (x ∷ filter p xs) (filter p xs))
  by_tests true true e f rest = rw (e, f) (ap (λ l. x ∷ l) rest)
  by_tests true false e f rest = rw f rest
  by_tests false true e f rest = rw e rest
  by_tests false false e f rest = rest

module _ (keep : Stamped → Bool) where
  abbrev filter_opt : Option Stamped → Option Stamped
  filter_opt None = None
  filter_opt (Some e) = if keep e then Some e else None

  at_filter : (xs : List Stamped) (s : ℕ) → AreRising xs → kept_at (filter keep xs) s ≡ filter_opt (kept_at xs s)
  at_filter [] s r = refl
  at_filter (x ∷ xs) s r = by_tests (keep x) (x.stamp == s) refl refl (at_filter xs s r.1) where
    by_tests : (b d : Bool) → keep x ≡ b → (x.stamp == s) ≡ d → kept_at (filter keep xs) s ≡ filter_opt (kept_at xs s) → kept_at (cond b (x ∷ filter keep xs) (filter keep xs)) s ≡ filter_opt (cond d (Some x) (kept_at xs s))
    by_tests true true e f rest = rw (f, e) refl
    by_tests true false e f rest = rw f rest
    by_tests false true e f rest =
        rw e (absent_above (filter keep xs) s (all_filter (λ y. s < y.stamp) keep xs (subst (λ n. AllByRecursion (λ y. n < y.stamp) xs) (eqb-true x.stamp s f) r.0)))
    by_tests false false e f rest = rest

  cons_filter : (o : Option Stamped) (l : List Stamped) → cons_option (filter_opt o) (filter keep l) ≡ filter keep (cons_option o l)
  cons_filter None l = refl
  cons_filter (Some e) l = by_test (keep e) where
    by_test : (b : Bool) → cons_option (if b then Some e else None) (filter keep l) ≡ cond b (e ∷ filter keep l) (filter keep l)
    by_test true = refl
    by_test false = refl

  filtered : (kept : List Stamped) → AreRising kept → (ss : List ℕ) → kept_of (filter keep kept) ss ≡ filter keep (kept_of kept ss)
  filtered kept rising [] = refl
  filtered kept rising (s ∷ ss) = (λ i. cons_option (at_filter kept s rising i) (filtered kept rising ss i)) ∙ cons_filter (kept_at kept s) (kept_of kept ss)

  -- commits are forgotten
  pub tied_filter : (kept : List Stamped) (next : ℕ) (test : Stamped → Bool) (stamps : List ℕ) → AreRising kept → IsTied kept next test stamps → IsTied (filter keep kept) next test stamps
  tied_filter kept next test stamps rising tied = record { found = filtered kept rising stamps ∙ ap (filter keep) tied.found ∙ filters_swap keep test kept; below = tied.below }

-- a commit is kept that is noted where it passes the test
pub tied_more : (kept : List Stamped) (e : Stamped) (test : Stamped → Bool) (stamps : List ℕ) → IsTied kept e.stamp test stamps → AreBelow e.stamp kept
    → IsTied (kept ++ e ∷ []) (e.stamp + 1) test (if test e then with_stamp stamps e.stamp else stamps)
tied_more kept e test stamps tied below = by_test (test e) refl where
  more : (b : Bool) → test e ≡ b → filter test (kept ++ e ∷ []) ≡ filter test kept ++ cond b (e ∷ []) []
  more b is = filter-append test kept (e ∷ []) ∙ ap (λ b. filter test kept ++ cond b (e ∷ []) []) is

  found_before : kept_of (kept ++ e ∷ []) stamps ≡ filter test kept
  found_before = before_more kept e stamps tied.below ∙ tied.found

  by_test : (b : Bool) → test e ≡ b → IsTied (kept ++ e ∷ []) (e.stamp + 1) test (if b then with_stamp stamps e.stamp else stamps)
  by_test false is = record {
    found = found_before ∙ sym (more false is ∙ append_nothing (filter test kept));
    below = (tied_later kept e.stamp test stamps tied).below;
  }
  by_test true is = subst (IsTied (kept ++ e ∷ []) (e.stamp + 1) test) (sym (with_next stamps e.stamp tied.below)) (record {
    found = filter_map-append (kept_at (kept ++ e ∷ [])) stamps (e.stamp ∷ []) ∙ (λ i. found_before i ++ cons_option (more_last kept e below i) []) ∙ sym (more true is);
    below = all_more (λ s. s < e.stamp + 1) stamps e.stamp (tied_later kept e.stamp test stamps tied).below (omega arith);
  })

-- nothing is kept
pub tied_nothing : (next : ℕ) (test : Stamped → Bool) → IsTied [] next test []
tied_nothing next test = record { found = refl; below = tt }

-- ---- the order of stamps

pub rising_more : (kept : List Stamped) (e : Stamped) → AreRising kept → AreBelow e.stamp kept → AreRising (kept ++ e ∷ [])
rising_more [] e rising below = (tt, tt)
rising_more (x ∷ xs) e rising below = (all_more (λ y. x.stamp < y.stamp) xs e rising.0 below.0, rising_more xs e rising.1 below.1)

pub rising_filter : (keep : Stamped → Bool) (kept : List Stamped) → AreRising kept → AreRising (filter keep kept)
rising_filter keep [] rising = tt
rising_filter keep (x ∷ xs) rising = by_test (keep x) (rising_filter keep xs rising.1) where
  by_test : (b : Bool) → AreRising (filter keep xs) → AreRising (cond b (x ∷ filter keep xs) (filter keep xs))
  by_test true rest = (all_filter (λ y. x.stamp < y.stamp) keep xs rising.0, rest)
  by_test false rest = rest

pub below_filter : (keep : Stamped → Bool) (s : ℕ) (kept : List Stamped) → AreBelow s kept → AreBelow s (filter keep kept)
below_filter keep s kept below = all_filter (λ e. e.stamp < s) keep kept below

pub below_later : (s : ℕ) (kept : List Stamped) → AreBelow s kept → AreBelow (s + 1) kept
below_later s kept below = all_weaker (λ e. e.stamp < s) (λ e. e.stamp < s + 1) (λ e less. omega arith) kept below

pub below_more : (kept : List Stamped) (e : Stamped) → AreBelow e.stamp kept → AreBelow (e.stamp + 1) (kept ++ e ∷ [])
below_more kept e below = all_more (λ x. x.stamp < e.stamp + 1) kept e (below_later e.stamp kept below) (omega arith)
