-- A run of versions with the newest one apart: what is seen of it, and what is left of it.
use Rattle.std.proofs.Common.{◌≡◌, ℕ, ◌-◌, ◌<◌, inl, inr, Bool, true, false, cond, List, [], ◌∷◌, ◌++◌, ◌||◌, length, drop, Option, Some, None, filter, refl, sym, ap, ◌∙◌, subst}
use Rattle.std.specs.List.{AllByRecursion, list_any}
use Rattle.std.proofs.lemmas.Bool.{cases_Bool}
use Rattle.ltx_chain.specs.declared.chain.Version.{Version}
use Rattle.ltx_chain.specs.Versions.{AreBelow, IsRising, latest, visible, is_at_most, kept_from}
use Rattle.ltx_chain.specs.Runs.{all_of, sees, IsRun}
use Rattle.ltx_chain.proofs.Seen.{latest-append, visible-append, rising_push, rising_drop, kept_from_drop}

all_before : (P : Version → Type 0) (xs ys : List Version) → AllByRecursion P (xs ++ ys) → AllByRecursion P xs
all_before P [] ys all = tt
all_before P (x ∷ xs) ys all = (all.0, all_before P xs ys all.1)

rising_before : (xs ys : List Version) → IsRising (xs ++ ys) → IsRising xs
rising_before [] ys r = tt
rising_before (x ∷ xs) ys r = (all_before (λ w. x.mark < w.mark) xs ys r.0, rising_before xs ys r.1)

pub run_rising : (older : List Version) (newest : Option Version) → IsRun older newest → IsRising (all_of older newest)
run_rising older None run = subst IsRising (sym run) tt
run_rising older (Some v) run = run

-- the older ones rise
pub older_rising : (older : List Version) (newest : Option Version) → IsRun older newest → IsRising older
older_rising older None run = run_rising older None run
older_rising older (Some v) run = rising_before older (v ∷ []) run

-- the newest one is the last
pub newest_is : (older : List Version) (newest : Option Version) → IsRun older newest → newest ≡ latest (all_of older newest)
newest_is older None run = sym (ap latest run)
newest_is older (Some v) run = sym (latest-append older v)

-- what is seen is the newest one, or one of the older ones
pub seen_newest : (mark : ℕ) (older : List Version) (newest : Option Version) → sees mark newest ≡ true → newest ≡ visible mark (all_of older newest)
seen_newest mark older None sees = cc
seen_newest mark older (Some v) sees = sym (visible-append mark older v ∙ ap (λ b. cond b (Some v) (visible mark older)) sees)

pub seen_older : (mark : ℕ) (older : List Version) (newest : Option Version) → sees mark newest ≡ false → visible mark older ≡ visible mark (all_of older newest)
seen_older mark older None sees = refl
seen_older mark older (Some v) sees = sym (visible-append mark older v ∙ ap (λ b. cond b (Some v) (visible mark older)) sees)

-- a version more
pub run_push : (older : List Version) (before v : Version) → IsRun older (Some before) → AreBelow v.mark (older ++ before ∷ []) → IsRun (older ++ before ∷ []) (Some v)
run_push older before v run below = rising_push (older ++ before ∷ []) v run below

-- ---- what is left from a mark on

any_last : (mark : ℕ) (xs : List Version) (v : Version) → is_at_most mark v ≡ true → list_any (is_at_most mark) (xs ++ v ∷ []) ≡ true
any_last mark [] v seen = rw seen refl
any_last mark (x ∷ xs) v seen = elim (cases_Bool (is_at_most mark x)) [
  | inl at ↦ rw at refl
  | inr later ↦ rw later (any_last mark xs v seen)
]

any_before : (mark : ℕ) (xs : List Version) (v : Version) → is_at_most mark v ≡ false → list_any (is_at_most mark) (xs ++ v ∷ []) ≡ list_any (is_at_most mark) xs
any_before mark [] v unseen = rw unseen refl
any_before mark (x ∷ xs) v unseen = ap (λ b. is_at_most mark x || b) (any_before mark xs v unseen)

-- the newest one alone, where it is seen
kept_last : (mark : ℕ) (xs : List Version) (v : Version) → is_at_most mark v ≡ true → kept_from mark (xs ++ v ∷ []) ≡ v ∷ []
kept_last mark [] v seen = refl
kept_last mark (x ∷ xs) v seen = rw (any_last mark xs v seen) (kept_last mark xs v seen)

-- and else it stays behind what is left of the others
kept_before : (mark : ℕ) (xs : List Version) (v : Version) → is_at_most mark v ≡ false → kept_from mark (xs ++ v ∷ []) ≡ kept_from mark xs ++ v ∷ []
kept_before mark [] v unseen = refl
kept_before mark (x ∷ xs) v unseen = rw (any_before mark xs v unseen) (by_test (list_any (is_at_most mark) xs) (kept_before mark xs v unseen)) where
  by_test : (b : Bool) → kept_from mark (xs ++ v ∷ []) ≡ kept_from mark xs ++ v ∷ [] → cond b (kept_from mark (xs ++ v ∷ [])) (x ∷ kept_from mark (xs ++ v ∷ [])) ≡ cond b (kept_from mark xs) (x ∷ kept_from mark xs) ++ v ∷ []
  by_test true rest = rest
  by_test false rest = ap (λ l. x ∷ l) rest

drop_all : (xs : List Version) → drop (length xs) xs ≡ []
drop_all [] = refl
drop_all (x ∷ xs) = drop_all xs

pub left_newest : (mark : ℕ) (older : List Version) (newest : Option Version) → sees mark newest ≡ true → all_of (drop (length older) older) newest ≡ kept_from mark (all_of older newest)
left_newest mark older None sees = cc
left_newest mark older (Some v) sees = ap (λ l. l ++ v ∷ []) (drop_all older) ∙ sym (kept_last mark older v sees)

pub left_older : (mark n : ℕ) (older : List Version) (newest : Option Version) → IsRun older newest → sees mark newest ≡ false → n ≡ length (filter (is_at_most mark) older) - 1 → all_of (drop n older) newest ≡ kept_from mark (all_of older newest)
left_older mark n older None run sees is = ap (λ k. drop k older) is ∙ sym (kept_from_drop mark older (older_rising older None run))
left_older mark n older (Some v) run sees is =
    ap (λ l. l ++ v ∷ []) (ap (λ k. drop k older) is ∙ sym (kept_from_drop mark older (older_rising older (Some v) run))) ∙ sym (kept_before mark older v sees)

-- what is left is a run
pub run_left : (mark n : ℕ) (older : List Version) (newest : Option Version) → IsRun older newest → all_of (drop n older) newest ≡ kept_from mark (all_of older newest) → IsRun (drop n older) newest
run_left mark n older None run is = is ∙ ap (kept_from mark) run
run_left mark n older (Some v) run is =
    subst IsRising (sym (is ∙ kept_from_drop mark (older ++ v ∷ []) run)) (rising_drop (length (filter (is_at_most mark) (older ++ v ∷ [])) - 1) (older ++ v ∷ []) run)
