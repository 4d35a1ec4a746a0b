-- A replay that gives each reply explains the history, and what is explained has no other reply.
use Rattle.std.proofs.Common.{◌≡◌, ◌≤◌, ℕ, zero, suc, arith, Bool, true, false, ◌==◌, List, [], ◌∷◌, map, refl, sym, ap, subst, ◌∙◌, inl, inr}
use Rattle.std.specs.Prelude.{IsPermutation}
use Rattle.std.specs.List.{All, AllByRecursion, list_any}
use Rattle.std.specs.List as lists
use Rattle.std.proofs.lemmas.Bool.{eq-eqb, ne_eqb, eqb-true, eqb-false}
use Rattle.std.proofs.lemmas.List.Sorted.{All-permutation, IsPermutation-map}
use Rattle.std.proofs.lemmas.Map.Keys.{IsDistinct-IsPermutation}
use Rattle.ltx_model.specs.declared.replies.Entry.{Entry}
use Rattle.ltx_model.specs.declared.rows.StoredRow.{StoredRow}
use Rattle.ltx_model.specs.Lists.{IsPairwise}
use Rattle.ltx_model.specs.Operations.{Transaction}
use Rattle.ltx_model.specs.Rows.{reply_on, rows_after, play, rows_after_transaction, RunGives}
use Rattle.ltx_model.specs.Recovery.{blank_base}
use Rattle.ltx_model.specs.Explained.{committed_in, IsDistinct, IsExplained}
use Rattle.ltx_model.proofs.OneMore.{gives-none, gives-one, gives-first}
use Rattle.ltx_check.specs.Opens.{IsWellPlaced}
use Rattle.ltx_check.specs.Orders.{committed_numbers, HasCommitted}
use Rattle.ltx_check.specs.Replays.{Told, told_of, transaction_in, Differs, RunDiffers, Plays, RunPlays}
use Rattle.ltx_check.proofs.Seats.{or_false}
use Rattle.ltx_check.proofs.Belongs.{AreOther}
use Rattle.ltx_check.proofs.Committed.{placed_kept}

-- ---- all replies are given

played : (n : ℕ) (rows : List StoredRow) (xs : List Told) → Plays n rows xs → play n rows (map (λ a. a.op) (map (λ x. x.answered) xs)) ≡ map (λ a. a.reply) (map (λ x. x.answered) xs)
played n rows [] plays = refl
played n rows (x ∷ xs) plays = let rest = played n (rows_after n rows x.answered.op) xs plays.1 in λ i. plays.0 i ∷ rest i

plays : (n : ℕ) (rows : List StoredRow) (xs : List Told) → play n rows (map (λ a. a.op) (map (λ x. x.answered) xs)) ≡ map (λ a. a.reply) (map (λ x. x.answered) xs) → Plays n rows xs
plays n rows [] is = tt
plays n rows (x ∷ xs) is =
    let first : reply_on rows x.answered.op ≡ x.answered.reply = cc in
    let rest : play n (rows_after n rows x.answered.op) (map (λ a. a.op) (map (λ y. y.answered) xs)) ≡ map (λ a. a.reply) (map (λ y. y.answered) xs) = cc in
    (first, plays n (rows_after n rows x.answered.op) xs rest)

run_given : (history : List Entry) (rows : List StoredRow) (order : List ℕ) → RunPlays history rows order → RunGives rows (map (transaction_in history) order)
run_given history rows [] all = gives-none rows
run_given history rows (n ∷ order) all =
    gives-one rows (transaction_in history n) (map (transaction_in history) order) (played n rows (told_of history n) all.0) (run_given history (rows_after_transaction rows (transaction_in history n)) order all.1)

run_plays : (history : List Entry) (rows : List StoredRow) (order : List ℕ) → RunGives rows (map (transaction_in history) order) → RunPlays history rows order
run_plays history rows [] gives = tt
run_plays history rows (n ∷ order) gives =
    let both = gives-first rows (transaction_in history n) (map (transaction_in history) order) gives in
    (plays n rows (told_of history n) both.0, run_plays history (rows_after_transaction rows (transaction_in history n)) order both.1)

-- then none is another one
pub no_differs : (n : ℕ) (rows : List StoredRow) (xs : List Told) (place : ℕ) → Plays n rows xs → Differs n rows xs place → ⊥
no_differs n rows [] place all other = other
no_differs n rows (x ∷ xs) place all (inl other) = other.1 all.0
no_differs n rows (x ∷ xs) place all (inr other) = no_differs n (rows_after n rows x.answered.op) xs place all.1 other

pub run_no_differs : (history : List Entry) (rows : List StoredRow) (order : List ℕ) (place : ℕ) → RunPlays history rows order → RunDiffers history rows order place → ⊥
run_no_differs history rows [] place all other = other
run_no_differs history rows (n ∷ order) place all (inl other) = no_differs n rows (told_of history n) place all.0 other
run_no_differs history rows (n ∷ order) place all (inr other) = run_no_differs history (rows_after_transaction rows (transaction_in history n)) order place all.1 other

-- ---- committed transactions are those of their numbers

mapped : (history : List Entry) (ts : List Transaction) → AllByRecursion (λ t. t ≡ transaction_in history t.number) ts → ts ≡ map (transaction_in history) (map (λ t. t.number) ts)
mapped history [] all = refl
mapped history (t ∷ ts) all = let rest = mapped history ts all.1 in λ i. all.0 i ∷ rest i

kept_are : (history : List Entry) (last : ℕ) (ts : List Transaction) → AllByRecursion (λ t. (t.answered ≡ map (λ x. x.answered) (told_of history t.number)) × (t.number ≤ last)) ts → AllByRecursion (λ t. t ≡ transaction_in history t.number) ts
kept_are history last [] all = tt
kept_are history last (t ∷ ts) all = ((λ i. record { number = t.number; answered = all.0.0 i }), kept_are history last ts all.1)

committed_are : (history : List Entry) → IsWellPlaced history → AllByRecursion (λ t. t ≡ transaction_in history t.number) (committed_in history)
committed_are history placed = kept_are history _ (committed_in history) (placed_kept history placed).done_told

-- ---- numbers differ

std_distinct : (xs : List ℕ) → IsDistinct xs → lists.IsDistinct (λ x y. y == x) xs
unfolding lists.IsDistinct
std_distinct [] d = tt
std_distinct (x ∷ xs) d = (each xs d.0, std_distinct xs d.1) where
  each : (ys : List ℕ) → list_any (λ y. y == x) ys ≡ false → AllByRecursion (λ y. (y == x) ≡ false) ys
  each [] none = tt
  each (y ∷ ys) none = let both = or_false (y == x) (list_any (λ z. z == x) ys) none in (both.0, each ys both.1)

model_distinct : (xs : List ℕ) → lists.IsDistinct (λ x y. y == x) xs → IsDistinct xs
unfolding lists.IsDistinct
model_distinct [] d = tt
model_distinct (x ∷ xs) d = (any xs d.0, model_distinct xs d.1) where
  any : (ys : List ℕ) → AllByRecursion (λ y. (y == x) ≡ false) ys → list_any (λ y. y == x) ys ≡ false
  any [] none = refl
  any (y ∷ ys) none = rw none.0 (any ys none.1)

others_distinct : (ts : List Transaction) → IsPairwise AreOther ts → IsDistinct (map (λ t. t.number) ts)
others_distinct [] apart = tt
others_distinct (t ∷ ts) apart = (any ts apart.0, others_distinct ts apart.1) where
  any : (us : List Transaction) → AllByRecursion (AreOther t) us → list_any (λ y. y == t.number) (map (λ u. u.number) us) ≡ false
  any [] all = refl
  any (u ∷ us) all = rw (ne_eqb u.number t.number (λ same. all.0 (sym same))) (any us all.1)

flipped : (x y : ℕ) → (y == x) ≡ (x == y)
flipped x y = by (x == y) refl where
  by : (b : Bool) → (x == y) ≡ b → (y == x) ≡ b
  by true is = eq-eqb y x (sym (eqb-true x y is))
  by false is = ne_eqb y x (λ same. eqb-false x y is (sym same))

pub order_distinct : (history : List Entry) (order : List ℕ) → IsWellPlaced history → HasCommitted history order → IsDistinct order
order_distinct history order placed has =
    model_distinct order (IsDistinct-IsPermutation (λ x y. y == x) flipped (committed_numbers history) order has (std_distinct (committed_numbers history) (others_distinct (committed_in history) (placed_kept history placed).done_apart)))

-- ---- what explains

numbers_of : (history : List Entry) (order : List ℕ) → map (λ t. t.number) (map (transaction_in history) order) ≡ order
numbers_of history [] = refl
numbers_of history (n ∷ order) = ap (λ l. n ∷ l) (numbers_of history order)

pub explained : (history : List Entry) (order : List ℕ) → IsWellPlaced history → HasCommitted history order → RunPlays history [] order → IsExplained blank_base history order
explained history order placed has all = record {
  run = map (transaction_in history) order;
  numbers = numbers_of history order;
  distinct = order_distinct history order placed has;
  members = subst (λ ts. IsPermutation ts (map (transaction_in history) order)) (sym (mapped history (committed_in history) (committed_are history placed))) (IsPermutation-map (transaction_in history) (committed_numbers history) order has);
  replies = run_given history [] order all;
}

from_all : {A : Type 0} (P : A → Type 0) (xs : List A) → All P xs → AllByRecursion P xs
from_all P [] all = tt
from_all P (x ∷ xs) all = (all 0 x (omega arith), from_all P xs (λ k d low. all (suc k) d (omega (arith, low))))

to_all : {A : Type 0} (P : A → Type 0) (xs : List A) → AllByRecursion P xs → All P xs
to_all P [] all k d low = absurd (omega (arith, low))
to_all P (x ∷ xs) all zero d low = all.0
to_all P (x ∷ xs) all (suc k) d low = to_all P xs all.1 k d (omega (arith, low))

pub explained_has : (history : List Entry) (order : List ℕ) → IsExplained blank_base history order → HasCommitted history order
explained_has history order e = subst (HasCommitted history) e.numbers (IsPermutation-map (λ t. t.number) (committed_in history) e.run e.members)

pub explained_plays : (history : List Entry) (order : List ℕ) → IsWellPlaced history → IsExplained blank_base history order → RunPlays history [] order
explained_plays history order placed e =
    let P : Transaction → Type 0 = λ t. t ≡ transaction_in history t.number in
    let each : AllByRecursion P e.run = from_all P e.run (All-permutation P (committed_in history) e.run e.members (to_all P (committed_in history) (committed_are history placed))) in
    let is : e.run ≡ map (transaction_in history) order = mapped history e.run each ∙ ap (map (transaction_in history)) e.numbers in
    run_plays history [] order (subst (RunGives []) is e.replies)
