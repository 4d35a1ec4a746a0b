-- What a batch more, a changed one or one less leaves of a table's least holder.
use Rattle.std.proofs.Common.{◌≡◌, ℕ, zero, suc, ◌≤◌, ◌<◌, arith, nat_le, Bool, true, false, ◌&&◌, ◌||◌, List, [], ◌∷◌, ◌++◌, length, take, get_or, set, remove, ◌+◌, add-one, Contains, Option, Some, None, refl, sym, ap, ◌∙◌, subst, slice_index_or}
use Rattle.std.proofs.lemmas.Bool.Decides.{nat_tests}
use Rattle.std.specs.List.{list_any, AllByRecursion}
use Rattle.ltx_model.specs.Holders.{Holder, is_holder, holds_table, live_from_now, IsHeldBy}
use Rattle.ltx_preserve.specs.Kept.{IsKept, AreKept, lesser_of}
use Rattle.ltx_model.specs.Tables.{has_table}
use Rattle.ltx_model.specs.Firsts.{IsFirst}

or_false_end : (b : Bool) → (b || false) ≡ (false || b)
or_false_end true = refl
or_false_end false = refl

or_group : (a b c : Bool) → (a || (b || c)) ≡ ((a || b) || c)
or_group true b c = refl
or_group false b c = refl

or_true_end : (b : Bool) → (b || true) ≡ true
or_true_end true = refl
or_true_end false = refl

or_false : (a b : Bool) → (a || b) ≡ false → (a ≡ false) × (b ≡ false)
or_false true b e = cc
or_false false b e = (refl, e)

and_idle : (a b : Bool) → b ≡ false → (a && b) ≡ false
and_idle true b e = e
and_idle false b e = refl

true_is_not_false : {A : Type 0} → true ≡ false → A
true_is_not_false e = cc

any_snoc : {A : Type 0} (test : A → Bool) (xs : List A) (x : A) → list_any test (xs ++ x ∷ []) ≡ (list_any test xs || test x)
any_snoc test [] x = or_false_end (test x)
any_snoc test (y ∷ ys) x = ap (λ b. test y || b) (any_snoc test ys x) ∙ or_group (test y) (list_any test ys) (test x)

all_snoc : {A : Type 0} (P : A → Type 0) (xs : List A) (x : A) → AllByRecursion P xs → P x → AllByRecursion P (xs ++ x ∷ [])
all_snoc P [] x all here = (here, tt)
all_snoc P (y ∷ ys) x all here = (all.0, all_snoc P ys x all.1 here)

all_mono : {A : Type 0} (P Q : A → Type 0) → ((x : A) → P x → Q x) → (xs : List A) → AllByRecursion P xs → AllByRecursion Q xs
all_mono P Q f [] all = tt
all_mono P Q f (x ∷ xs) all = (f x all.0, all_mono P Q f xs all.1)

-- an item that passes no test, before and after its change, or that goes
any_changed : {A : Type 0} (test : A → Bool) (xs : List A) (i : ℕ) (x : A) → ((d : A) → test (get_or xs i d) ≡ false) → test x ≡ false → list_any test (set xs i x) ≡ list_any test xs
any_changed test [] i x old new = refl
any_changed test (y ∷ ys) zero x old new = ap (λ b. b || list_any test ys) (new ∙ sym (old x))
any_changed test (y ∷ ys) (suc i) x old new = ap (λ b. test y || b) (any_changed test ys i x old new)

any_removed : {A : Type 0} (test : A → Bool) (xs : List A) (i : ℕ) → ((d : A) → test (get_or xs i d) ≡ false) → list_any test (remove xs i) ≡ list_any test xs
any_removed test [] zero old = refl
any_removed test [] (suc i) old = refl
any_removed test (y ∷ ys) zero old = ap (λ b. b || list_any test ys) (sym (old y))
any_removed test (y ∷ ys) (suc i) old = ap (λ b. test y || b) (any_removed test ys i old)

all_changed : {A : Type 0} (P : A → Type 0) (xs : List A) (i : ℕ) (x : A) → P x → AllByRecursion P xs → AllByRecursion P (set xs i x)
all_changed P [] i x here all = tt
all_changed P (y ∷ ys) zero x here all = (here, all.1)
all_changed P (y ∷ ys) (suc i) x here all = (all.0, all_changed P ys i x here all.1)

all_removed : {A : Type 0} (P : A → Type 0) (xs : List A) (i : ℕ) → AllByRecursion P xs → AllByRecursion P (remove xs i)
all_removed P [] zero all = tt
all_removed P [] (suc i) all = tt
all_removed P (y ∷ ys) zero all = all.1
all_removed P (y ∷ ys) (suc i) all = (all.0, all_removed P ys i all.1)

is_self : (e : Holder) → is_holder e.number e ≡ true
is_self e = grind (arith, nat_tests)

abbrev by : ℕ → ℕ → Holder → Bool
by t n e = is_holder n e && holds_table t e

by_self : (t : ℕ) (e : Holder) → holds_table t e ≡ true → by t e.number e ≡ true
by_self t e busy = ap (λ b. b && holds_table t e) (is_self e) ∙ busy

none_holds : (t n : ℕ) (xs : List Holder) → (list_any (holds_table t) xs ≡ false) → AllByRecursion (λ x. holds_table t x ≡ true → n ≤ x.number) xs
none_holds t n [] none = tt
none_holds t n (x ∷ xs) none = let both = or_false (holds_table t x) (list_any (holds_table t) xs) none in ((λ h. true_is_not_false (sym h ∙ both.0)), none_holds t n xs both.1)

lesser_at_most : (n m : ℕ) → (lesser_of (Some n) m ≤ n) × (lesser_of (Some n) m ≤ m)
lesser_at_most n m = case (nat_le n m) refl
  where
    case : (b : Bool) → nat_le n m ≡ b → (lesser_of (Some n) m ≤ n) × (lesser_of (Some n) m ≤ m)
    case true e = rw e (omega arith, grind (arith, nat_tests))
    case false e = rw e (grind (arith, nat_tests), omega arith)

pub one_more_idle : (t : ℕ) (xs : List Holder) (e : Holder) (o : Option ℕ) → holds_table t e ≡ false → IsKept xs t o → IsKept (xs ++ e ∷ []) t o
one_more_idle t xs e None idle none = any_snoc (holds_table t) xs e ∙ ap (λ b. b || holds_table t e) none ∙ idle
one_more_idle t xs e (Some n) idle least = record {
  held = any_snoc (by t n) xs e ∙ ap (λ b. b || by t n e) least.held;
  no_less = all_snoc (λ x. holds_table t x ≡ true → n ≤ x.number) xs e least.no_less (λ h. true_is_not_false (sym h ∙ idle));
}

lesser_held : (t : ℕ) (xs : List Holder) (e : Holder) (n : ℕ) → holds_table t e ≡ true → list_any (by t n) xs ≡ true → list_any (by t (lesser_of (Some n) e.number)) (xs ++ e ∷ []) ≡ true
lesser_held t xs e n busy held = case (nat_le n e.number) refl
  where
    case : (b : Bool) → nat_le n e.number ≡ b → list_any (by t (lesser_of (Some n) e.number)) (xs ++ e ∷ []) ≡ true
    case true is = rw is (any_snoc (by t n) xs e ∙ ap (λ b. b || by t n e) held)
    case false is = rw is (any_snoc (by t e.number) xs e ∙ ap (λ b. list_any (by t e.number) xs || b) (by_self t e busy) ∙ or_true_end (list_any (by t e.number) xs))

pub one_more_holder : (t : ℕ) (xs : List Holder) (e : Holder) (o : Option ℕ) → holds_table t e ≡ true → IsKept xs t o → IsKept (xs ++ e ∷ []) t (Some (lesser_of o e.number))
one_more_holder t xs e None busy none = record {
  held = any_snoc (by t e.number) xs e ∙ ap (λ b. list_any (by t e.number) xs || b) (by_self t e busy) ∙ or_true_end (list_any (by t e.number) xs);
  no_less = all_snoc (λ x. holds_table t x ≡ true → e.number ≤ x.number) xs e (none_holds t e.number xs none) (λ h. omega arith);
}
one_more_holder t xs e (Some n) busy least = let small = lesser_at_most n e.number in record {
  held = lesser_held t xs e n busy least.held;
  no_less = all_snoc (λ x. holds_table t x ≡ true → lesser_of (Some n) e.number ≤ x.number) xs e
      (all_mono (λ x. holds_table t x ≡ true → n ≤ x.number) (λ x. holds_table t x ≡ true → lesser_of (Some n) e.number ≤ x.number) (λ x f h. let below = f h in omega (arith, small.0)) xs least.no_less)
      (λ h. small.1);
}

pub changed_idle : (t : ℕ) (xs : List Holder) (i : ℕ) (x : Holder) (o : Option ℕ) → ((d : Holder) → holds_table t (get_or xs i d) ≡ false) → holds_table t x ≡ false → IsKept xs t o → IsKept (set xs i x) t o
changed_idle t xs i x None old new none = any_changed (holds_table t) xs i x old new ∙ none
changed_idle t xs i x (Some n) old new least = record {
  held = any_changed (by t n) xs i x (λ d. and_idle (is_holder n (get_or xs i d)) (holds_table t (get_or xs i d)) (old d)) (and_idle (is_holder n x) (holds_table t x) new) ∙ least.held;
  no_less = all_changed (λ y. holds_table t y ≡ true → n ≤ y.number) xs i x (λ h. true_is_not_false (sym h ∙ new)) least.no_less;
}

pub removed_idle : (t : ℕ) (xs : List Holder) (i : ℕ) (o : Option ℕ) → ((d : Holder) → holds_table t (get_or xs i d) ≡ false) → IsKept xs t o → IsKept (remove xs i) t o
removed_idle t xs i None old none = any_removed (holds_table t) xs i old ∙ none
removed_idle t xs i (Some n) old least = record {
  held = any_removed (by t n) xs i (λ d. and_idle (is_holder n (get_or xs i d)) (holds_table t (get_or xs i d)) (old d)) ∙ least.held;
  no_less = all_removed (λ y. holds_table t y ≡ true → n ≤ y.number) xs i least.no_less;
}

pub get_any : {A : Type 0} (xs : List A) (i : ℕ) → i < length xs → (x d : A) → x ≡ get_or xs i x → get_or xs i d ≡ x
get_any [] i within x d is = absurd (omega arith)
get_any (y ∷ ys) zero within x d is = sym is
get_any (y ∷ ys) (suc i) within x d is = get_any ys i (omega arith) x d is

-- the batch at a place, which has not declared the table, becomes live or ends
pub live_idle : (t : ℕ) (xs : List Holder) (i : ℕ) → i < length xs → (x : Holder) → x ≡ get_or xs i x → has_table x.tables t ≡ false → (o : Option ℕ) → IsKept xs t o → IsKept (set xs i (live_from_now x)) t o
live_idle t xs i within x is undeclared o = changed_idle t xs i (live_from_now x) o (λ d. ap (holds_table t) (get_any xs i within x d is) ∙ and_idle x.live (has_table x.tables t) undeclared) undeclared

pub ended_idle : (t : ℕ) (xs : List Holder) (i : ℕ) → i < length xs → (x : Holder) → x ≡ get_or xs i x → holds_table t x ≡ false → (o : Option ℕ) → IsKept xs t o → IsKept (remove xs i) t o
ended_idle t xs i within x is idle o = removed_idle t xs i o (λ d. ap (holds_table t) (get_any xs i within x d is) ∙ idle)

-- the holders of some tables are found anew, and those of all others stay
pub found_anew : (xs ys : List Holder) (old new : List (Option ℕ)) (tables : ℕ) → AreKept xs old
    → ((t : ℕ) → has_table tables t ≡ false → (o : Option ℕ) → IsKept xs t o → IsKept ys t o)
    → ((t : ℕ) → t < 64 → has_table tables t ≡ true → IsKept ys t (slice_index_or new t None))
    → ((t : ℕ) → t < 64 → has_table tables t ≡ false → slice_index_or new t None ≡ slice_index_or old t None)
    → AreKept ys new
found_anew xs ys old new tables held stays here others t within = case (has_table tables t) refl
  where
    case : (b : Bool) → has_table tables t ≡ b → IsKept ys t (slice_index_or new t None)
    case true is = here t within is
    case false is = subst (IsKept ys t) (sym (others t within is)) (stays t is (slice_index_or old t None) (held t within))

take_one_more : {A : Type 0} (xs : List A) (i : ℕ) (x : A) → i < length xs → x ≡ get_or xs i x → take (suc i) xs ≡ take i xs ++ x ∷ []
take_one_more [] i x within is = absurd (omega arith)
take_one_more (y ∷ ys) zero x within is = ap (λ z. z ∷ []) (sym is)
take_one_more (y ∷ ys) (suc i) x within is = ap (λ zs. y ∷ zs) (take_one_more ys i x (omega arith) is)

-- one batch more has been looked at
pub looked_at : (t : ℕ) (xs : List Holder) (i : ℕ) (x : Holder) (old new : Option ℕ) → i < length xs → x ≡ get_or xs i x → IsKept (take i xs) t old
    → ((ys : List Holder) → IsKept ys t old → IsKept (ys ++ x ∷ []) t new) → IsKept (take (i + 1) xs) t new
looked_at t xs i x old new within is held step = rw (add-one i) (subst (λ ys. IsKept ys t new) (sym (take_one_more xs i x within is)) (step (take i xs) held))

pub live_holders : (tx : ℕ) (xs ys : List Holder) (i : ℕ) (x : Holder) (tables : ℕ) (old new : List (Option ℕ)) → IsFirst (is_holder tx) xs i → x ≡ get_or xs i x → ys ≡ set xs i (live_from_now x) → tables ≡ x.tables → AreKept xs old
    → ((t : ℕ) → t < 64 → has_table tables t ≡ true → IsKept ys t (slice_index_or new t None))
    → ((t : ℕ) → t < 64 → has_table tables t ≡ false → slice_index_or new t None ≡ slice_index_or old t None)
    → AreKept ys new
live_holders tx xs ys i x tables old new first is ys_is tables_are held = found_anew xs ys old new tables held (λ t idle o h. subst (λ l. IsKept l t o) (sym ys_is) (live_idle t xs i first.within x is (ap (λ s. has_table s t) (sym tables_are) ∙ idle) o h))

pub ended_holders : (tx : ℕ) (xs ys : List Holder) (i : ℕ) (x : Holder) (tables : ℕ) (old new : List (Option ℕ)) → IsFirst (is_holder tx) xs i → x ≡ get_or xs i x → ys ≡ remove xs i → tables ≡ x.tables → AreKept xs old
    → ((t : ℕ) → t < 64 → has_table tables t ≡ true → IsKept ys t (slice_index_or new t None))
    → ((t : ℕ) → t < 64 → has_table tables t ≡ false → slice_index_or new t None ≡ slice_index_or old t None)
    → AreKept ys new
ended_holders tx xs ys i x tables old new first is ys_is tables_are held = found_anew xs ys old new tables held (λ t idle o h. subst (λ l. IsKept l t o) (sym ys_is) (ended_idle t xs i first.within x is (and_idle x.live (has_table x.tables t) (ap (λ s. has_table s t) (sym tables_are) ∙ idle)) o h))

pub pending_ended : (tx : ℕ) (xs ys : List Holder) (i : ℕ) (x : Holder) (old : List (Option ℕ)) → IsFirst (is_holder tx) xs i → x ≡ get_or xs i x → ys ≡ remove xs i → x.live ≡ false → AreKept xs old → AreKept ys old
pending_ended tx xs ys i x old first is ys_is pending held t within = subst (λ l. IsKept l t (slice_index_or old t None)) (sym ys_is) (ended_idle t xs i first.within x is (ap (λ b. b && has_table x.tables t) pending) (slice_index_or old t None) (held t within))

unheld : (t : ℕ) (hs : List Holder) → list_any (holds_table t) hs ≡ false → (h : Holder) (k : ℕ) → k < length hs → slice_index_or hs k h ≡ h → holds_table t h ≡ false
unheld t [] none h k within is = absurd (omega arith)
unheld t (x ∷ xs) none h zero within is = let both = or_false (holds_table t x) (list_any (holds_table t) xs) none in ap (holds_table t) (sym is) ∙ both.0
unheld t (x ∷ xs) none h (suc k) within is = let both = or_false (holds_table t x) (list_any (holds_table t) xs) none in unheld t xs both.1 h k (omega arith) is

no_lesser : (t n : ℕ) (hs : List Holder) → AllByRecursion (λ h. holds_table t h ≡ true → n ≤ h.number) hs → (h : Holder) (k : ℕ) → k < length hs → slice_index_or hs k h ≡ h → holds_table t h ≡ true → n ≤ h.number
no_lesser t n [] all h k within is busy = absurd (omega arith)
no_lesser t n (x ∷ xs) all h zero within is busy = subst (λ y. n ≤ y.number) is (all.0 (ap (holds_table t) is ∙ busy))
no_lesser t n (x ∷ xs) all h (suc k) within is busy = no_lesser t n xs all.1 h k (omega arith) is busy

-- the batch that a test found
record Found (t n : ℕ) (hs : List Holder) : Type 0 where
  holder : Holder
  here : Contains hs holder
  number : holder.number ≡ n
  busy : holds_table t holder ≡ true

later : (t n : ℕ) (x : Holder) (xs : List Holder) → Found t n xs → Found t n (x ∷ xs)
later t n x xs f = record { holder = f.holder; here = (suc f.here.0, omega (arith, f.here.1), f.here.2); number = f.number; busy = f.busy }

and_both : (a b : Bool) → (a && b) ≡ true → (a ≡ true) × (b ≡ true)
and_both true b e = (refl, e)
and_both false b e = cc

found : (t n : ℕ) (hs : List Holder) → list_any (by t n) hs ≡ true → Found t n hs
found t n [] held = cc
found t n (x ∷ xs) held = by_test (by t n x) refl held (λ rest. found t n xs rest)
  where
    by_test : (b : Bool) → by t n x ≡ b → (b || list_any (by t n) xs) ≡ true → (list_any (by t n) xs ≡ true → Found t n xs) → Found t n (x ∷ xs)
    by_test true is rest later_on = let both = and_both (is_holder n x) (holds_table t x) is in record { holder = x; here = (zero, omega arith, refl); number = grind (arith, nat_tests, both.0); busy = both.1 }
    by_test false is rest later_on = later t n x xs (later_on rest)

-- what tests tell is what is said of each batch
pub told : (t : ℕ) (hs : List Holder) (o : Option ℕ) → IsKept hs t o → IsHeldBy hs t o
told t hs None none = λ h here. unheld t hs none h here.0 here.1 here.2
told t hs (Some n) least =
    let f = found t n hs least.held in
    record { holder = f.holder; here = f.here; number = f.number; holds = f.busy; least = λ h here. no_lesser t n hs least.no_less h here.0 here.1 here.2 }
