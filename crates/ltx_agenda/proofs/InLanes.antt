-- Lanes as a cut list and runs: what a change of either makes of them.
use Rattle.std.proofs.Common.{◌≡◌, ◌∙◌, sym, ap, subst, ℕ, zero, suc, ◌+◌, ◌-◌, ◌<◌, ◌≤◌, Bool, true, false, List, [], ◌∷◌, ◌++◌, length, length-append, take, drop, get_or, set, refl, ◌⊎◌, inl, inr, arith, if◌then◌else◌}
use Rattle.std.proofs.lemmas.Bool.{cases_lt}
use Rattle.std.proofs.lemmas.Bool.Decides.{nat_tests}
use Rattle.std.proofs.lemmas.List.{drop_all, get_or_append_left, get_or-append-add}
use Rattle.ltx_model.specs.Listings.{is_member, without, insert_before, place_of}
use Rattle.ltx_agenda.specs.Runs.{at, members_of, whole_place}
use Rattle.ltx_agenda.specs.Lanes.{at_end, lanes_without, lanes_insert, onto, lanes_from, cut, total, lane_no, start_no, closed, kept, longer}
use Rattle.ltx_agenda.proofs.Joined.{length-insert_before_member, member_left, member_not_left, insert_before_left, place_of_left, place_of_right, place_of_within, without-append, without_absent, insert_before_right, outside}

assoc : (xs ys zs : List ℕ) → xs ++ (ys ++ zs) ≡ (xs ++ ys) ++ zs
assoc [] ys zs = refl
assoc (x ∷ xs) ys zs = ap (λ us. x ∷ us) (assoc xs ys zs)

nothing_after : (xs : List ℕ) → xs ++ [] ≡ xs
nothing_after [] = refl
nothing_after (x ∷ xs) = ap (λ ys. x ∷ ys) (nothing_after xs)

pub take_then_drop : (k : ℕ) (xs : List ℕ) → take k xs ++ drop k xs ≡ xs
take_then_drop zero xs = refl
take_then_drop (suc k) [] = refl
take_then_drop (suc k) (x ∷ xs) = ap (λ ys. x ∷ ys) (take_then_drop k xs)

-- ---- the list is the lanes one after the other

pub members-onto : (xs : List ℕ) (lanes : List (List ℕ)) → members_of (onto xs lanes) ≡ xs ++ members_of lanes
members-onto xs [] = refl
members-onto xs (lane ∷ lanes) = sym (assoc xs lane (members_of lanes))

pub members-cut : (xs ks : List ℕ) (lanes : List (List ℕ)) → members_of (cut xs ks lanes) ≡ xs ++ members_of lanes
members-cut xs [] lanes = members-onto xs lanes
members-cut xs (k ∷ ks) lanes =
    ap (λ ys. take k xs ++ ys) (members-cut (drop k xs) ks lanes) ∙ assoc (take k xs) (drop k xs) (members_of lanes) ∙ ap (λ ys. ys ++ members_of lanes) (take_then_drop k xs)

pub members-lanes_from : (es : List Bool) (rows : List (List ℕ)) → length es ≡ length rows → members_of (lanes_from es rows) ≡ members_of rows
members-lanes_from [] [] same = refl
members-lanes_from [] (row ∷ rows) same = absurd (omega arith)
members-lanes_from (e ∷ es) [] same = absurd (omega arith)
members-lanes_from (true ∷ es) (row ∷ rows) same = ap (λ ys. row ++ ys) (members-lanes_from es rows (omega arith))
members-lanes_from (false ∷ es) (row ∷ rows) same = members-onto row (lanes_from es rows) ∙ ap (λ ys. row ++ ys) (members-lanes_from es rows (omega arith))

-- ---- a number is appended

-- there is a lane
abbrev pub HasLane : List (List ℕ) → Type 0
HasLane lanes = 0 < length lanes

pub onto-at_end : (xs : List ℕ) (lanes : List (List ℕ)) (n : ℕ) → HasLane lanes → onto xs (at_end lanes n) ≡ at_end (onto xs lanes) n
onto-at_end xs [] n some = absurd (omega arith)
onto-at_end xs (lane ∷ []) n some = ap (λ ys. ys ∷ []) (assoc xs lane (n ∷ []))
onto-at_end xs (lane ∷ (next ∷ lanes)) n some = refl

pub onto-open : (xs : List ℕ) (lanes : List (List ℕ)) → HasLane lanes → onto xs (lanes ++ [] ∷ []) ≡ onto xs lanes ++ [] ∷ []
onto-open xs [] some = absurd (omega arith)
onto-open xs (lane ∷ lanes) some = refl

pub has_lane-onto : (xs : List ℕ) (lanes : List (List ℕ)) → HasLane (onto xs lanes)
has_lane-onto xs [] = omega arith
has_lane-onto xs (lane ∷ lanes) = omega arith

pub has_lane-cut : (xs ks : List ℕ) (lanes : List (List ℕ)) → HasLane (cut xs ks lanes)
has_lane-cut xs [] lanes = has_lane-onto xs lanes
has_lane-cut xs (k ∷ ks) lanes = omega arith

pub has_lane-from : (es : List Bool) (rows : List (List ℕ)) → HasLane (lanes_from es rows)
has_lane-from [] rows = omega arith
has_lane-from (e ∷ es) [] = omega arith
has_lane-from (true ∷ es) (row ∷ rows) = omega arith
has_lane-from (false ∷ es) (row ∷ rows) = has_lane-onto row (lanes_from es rows)

at_end-next : (lane : List ℕ) (lanes : List (List ℕ)) (n : ℕ) → HasLane lanes → at_end (lane ∷ lanes) n ≡ lane ∷ at_end lanes n
at_end-next lane [] n some = absurd (omega arith)
at_end-next lane (next ∷ lanes) n some = refl

pub cut-at_end : (xs ks : List ℕ) (lanes : List (List ℕ)) (n : ℕ) → HasLane lanes → cut xs ks (at_end lanes n) ≡ at_end (cut xs ks lanes) n
cut-at_end xs [] lanes n some = onto-at_end xs lanes n some
cut-at_end xs (k ∷ ks) lanes n some = ap (λ ys. take k xs ∷ ys) (cut-at_end (drop k xs) ks lanes n some) ∙ sym (at_end-next (take k xs) (cut (drop k xs) ks lanes) n (has_lane-cut (drop k xs) ks lanes))

pub cut-open : (xs ks : List ℕ) (lanes : List (List ℕ)) → HasLane lanes → cut xs ks (lanes ++ [] ∷ []) ≡ cut xs ks lanes ++ [] ∷ []
cut-open xs [] lanes some = onto-open xs lanes some
cut-open xs (k ∷ ks) lanes some = ap (λ ys. take k xs ∷ ys) (cut-open (drop k xs) ks lanes some)

-- in runs
pub short_appended : (es : List Bool) (rows : List (List ℕ)) (n : ℕ) → length es ≡ length rows → lanes_from (es ++ false ∷ []) (rows ++ (n ∷ []) ∷ []) ≡ at_end (lanes_from es rows) n
short_appended [] [] n same = refl
short_appended [] (row ∷ rows) n same = absurd (omega arith)
short_appended (e ∷ es) [] n same = absurd (omega arith)
short_appended (true ∷ es) (row ∷ rows) n same = ap (λ ys. row ∷ ys) (short_appended es rows n (omega arith)) ∙ sym (at_end-next row (lanes_from es rows) n (has_lane-from es rows))
short_appended (false ∷ es) (row ∷ rows) n same = ap (onto row) (short_appended es rows n (omega arith)) ∙ onto-at_end row (lanes_from es rows) n (has_lane-from es rows)

pub slot_appended : (es : List Bool) (rows : List (List ℕ)) (n : ℕ) → length es ≡ length rows → lanes_from (es ++ true ∷ []) (rows ++ (n ∷ []) ∷ []) ≡ at_end (lanes_from es rows) n ++ [] ∷ []
slot_appended [] [] n same = refl
slot_appended [] (row ∷ rows) n same = absurd (omega arith)
slot_appended (e ∷ es) [] n same = absurd (omega arith)
slot_appended (true ∷ es) (row ∷ rows) n same =
    ap (λ ys. row ∷ ys) (slot_appended es rows n (omega arith)) ∙ ap (λ ys. ys ++ [] ∷ []) (sym (at_end-next row (lanes_from es rows) n (has_lane-from es rows)))
slot_appended (false ∷ es) (row ∷ rows) n same =
    ap (onto row) (slot_appended es rows n (omega arith)) ∙ onto-open row (at_end (lanes_from es rows) n) (has_end (lanes_from es rows) n) ∙ ap (λ ys. ys ++ [] ∷ []) (onto-at_end row (lanes_from es rows) n (has_lane-from es rows)) where
      has_end : (lanes : List (List ℕ)) (m : ℕ) → HasLane (at_end lanes m)
      has_end [] m = omega arith
      has_end (lane ∷ []) m = omega arith
      has_end (lane ∷ (next ∷ lanes)) m = omega arith

-- ---- a number is taken out

pub onto-without : (xs : List ℕ) (lanes : List (List ℕ)) (n : ℕ) → onto (without xs n) (lanes_without lanes n) ≡ lanes_without (onto xs lanes) n
onto-without xs [] n = refl
onto-without xs (lane ∷ lanes) n = ap (λ ys. ys ∷ lanes_without lanes n) (sym (without-append xs lane n))

pub from-without : (es : List Bool) (rows : List (List ℕ)) (n : ℕ) → lanes_from es (lanes_without rows n) ≡ lanes_without (lanes_from es rows) n
from-without [] rows n = refl
from-without (e ∷ es) [] n = refl
from-without (true ∷ es) (row ∷ rows) n = ap (λ ys. without row n ∷ ys) (from-without es rows n)
from-without (false ∷ es) (row ∷ rows) n = ap (onto (without row n)) (from-without es rows n) ∙ onto-without row (lanes_from es rows) n

part_absent : (k : ℕ) (xs : List ℕ) (n : ℕ) → is_member xs n ≡ false → (is_member (take k xs) n ≡ false) × (is_member (drop k xs) n ≡ false)
part_absent k xs n none = outside (take k xs) (drop k xs) n (ap (λ ys. is_member ys n) (take_then_drop k xs) ∙ none)

pub cut-without_right : (xs ks : List ℕ) (lanes : List (List ℕ)) (n : ℕ) → is_member xs n ≡ false → cut xs ks (lanes_without lanes n) ≡ lanes_without (cut xs ks lanes) n
cut-without_right xs [] lanes n none = ap (λ ys. onto ys (lanes_without lanes n)) (sym (without_absent xs n none)) ∙ onto-without xs lanes n
cut-without_right xs (k ∷ ks) lanes n none =
    let parts = part_absent k xs n none in
    ap (λ ys. take k xs ∷ ys) (cut-without_right (drop k xs) ks lanes n parts.1) ∙ ap (λ ys. ys ∷ lanes_without (cut (drop k xs) ks lanes) n) (sym (without_absent (take k xs) n parts.0))

-- ---- a number is put before another one

pub onto-insert_left : (xs : List ℕ) (lanes : List (List ℕ)) (y t : ℕ) → is_member xs t ≡ true → onto (insert_before y t xs) lanes ≡ lanes_insert y t (onto xs lanes)
onto-insert_left xs [] y t is = grind (arith)
onto-insert_left xs (lane ∷ lanes) y t is =
    let among : is_member (xs ++ lane) t ≡ true = member_left xs lane t is in
    let here : lanes_insert y t ((xs ++ lane) ∷ lanes) ≡ insert_before y t (xs ++ lane) ∷ lanes = ap (λ b. if b then insert_before y t (xs ++ lane) ∷ lanes else (xs ++ lane) ∷ lanes_insert y t lanes) among in
    ap (λ ys. ys ∷ lanes) (sym (insert_before_left xs lane y t is)) ∙ sym here

pub onto-insert_right : (xs : List ℕ) (lanes : List (List ℕ)) (y t : ℕ) → is_member xs t ≡ false → HasLane lanes → onto xs (lanes_insert y t lanes) ≡ lanes_insert y t (onto xs lanes)
onto-insert_right xs [] y t none some = absurd (omega arith)
onto-insert_right xs (lane ∷ lanes) y t none some = by_case (is_member lane t) refl where
  among : is_member (xs ++ lane) t ≡ is_member lane t
  among = member_not_left xs lane t none

  by_case : (b : Bool) → is_member lane t ≡ b → onto xs (lanes_insert y t (lane ∷ lanes)) ≡ lanes_insert y t ((xs ++ lane) ∷ lanes)
  by_case true is =
      ap (λ c. onto xs (if c then insert_before y t lane ∷ lanes else lane ∷ lanes_insert y t lanes)) is ∙ ap (λ ys. ys ∷ lanes) (sym (insert_before_right xs lane y t none))
      ∙ ap (λ c. if c then insert_before y t (xs ++ lane) ∷ lanes else (xs ++ lane) ∷ lanes_insert y t lanes) (sym (among ∙ is))
  by_case false is =
      ap (λ c. onto xs (if c then insert_before y t lane ∷ lanes else lane ∷ lanes_insert y t lanes)) is
      ∙ ap (λ c. if c then insert_before y t (xs ++ lane) ∷ lanes else (xs ++ lane) ∷ lanes_insert y t lanes) (sym (among ∙ is))

pub from-insert : (es : List Bool) (rows : List (List ℕ)) (y t : ℕ) → length es ≡ length rows → lanes_from es (lanes_insert y t rows) ≡ lanes_insert y t (lanes_from es rows)
from-insert [] [] y t same = refl
from-insert [] (row ∷ rows) y t same = absurd (omega arith)
from-insert (e ∷ es) [] y t same = absurd (omega arith)
from-insert (e ∷ es) (row ∷ rows) y t same = by_case e (is_member row t) refl (from-insert es rows y t (omega arith)) where
  by_case : (e : Bool) (b : Bool) → is_member row t ≡ b → lanes_from es (lanes_insert y t rows) ≡ lanes_insert y t (lanes_from es rows)
      → lanes_from (e ∷ es) (lanes_insert y t (row ∷ rows)) ≡ lanes_insert y t (lanes_from (e ∷ es) (row ∷ rows))
  by_case true true is rest =
      ap (λ c. lanes_from (true ∷ es) (if c then insert_before y t row ∷ rows else row ∷ lanes_insert y t rows)) is
      ∙ ap (λ c. if c then insert_before y t row ∷ lanes_from es rows else row ∷ lanes_insert y t (lanes_from es rows)) (sym is)
  by_case true false is rest =
      ap (λ c. lanes_from (true ∷ es) (if c then insert_before y t row ∷ rows else row ∷ lanes_insert y t rows)) is ∙ ap (λ ys. row ∷ ys) rest
      ∙ ap (λ c. if c then insert_before y t row ∷ lanes_from es rows else row ∷ lanes_insert y t (lanes_from es rows)) (sym is)
  by_case false true is rest =
      ap (λ c. lanes_from (false ∷ es) (if c then insert_before y t row ∷ rows else row ∷ lanes_insert y t rows)) is ∙ onto-insert_left row (lanes_from es rows) y t is
  by_case false false is rest =
      ap (λ c. lanes_from (false ∷ es) (if c then insert_before y t row ∷ rows else row ∷ lanes_insert y t rows)) is ∙ ap (onto row) rest
      ∙ onto-insert_right row (lanes_from es rows) y t is (has_lane-from es rows)

pub cut-insert_right : (xs ks : List ℕ) (lanes : List (List ℕ)) (y t : ℕ) → is_member xs t ≡ false → HasLane lanes → cut xs ks (lanes_insert y t lanes) ≡ lanes_insert y t (cut xs ks lanes)
cut-insert_right xs [] lanes y t none some = onto-insert_right xs lanes y t none some
cut-insert_right xs (k ∷ ks) lanes y t none some =
    let parts = part_absent k xs t none in
    ap (λ ys. take k xs ∷ ys) (cut-insert_right (drop k xs) ks lanes y t parts.1 some)
    ∙ ap (λ c. if c then insert_before y t (take k xs) ∷ cut (drop k xs) ks lanes else take k xs ∷ lanes_insert y t (cut (drop k xs) ks lanes)) (sym parts.0)

-- ---- parts of two lists one after the other

take_left : (xs ys : List ℕ) (k : ℕ) → k ≤ length xs → take k (xs ++ ys) ≡ take k xs
take_left xs ys zero within = refl
take_left [] ys (suc k) within = absurd (omega arith)
take_left (x ∷ xs) ys (suc k) within = ap (λ zs. x ∷ zs) (take_left xs ys k (omega arith))

drop_left : (xs ys : List ℕ) (k : ℕ) → k ≤ length xs → drop k (xs ++ ys) ≡ drop k xs ++ ys
drop_left xs ys zero within = refl
drop_left [] ys (suc k) within = absurd (omega arith)
drop_left (x ∷ xs) ys (suc k) within = drop_left xs ys k (omega arith)

pub take_exact : (xs ys : List ℕ) (k : ℕ) → k ≡ length xs → take k (xs ++ ys) ≡ xs
take_exact [] ys zero same = refl
take_exact [] ys (suc k) same = absurd (omega arith)
take_exact (x ∷ xs) ys zero same = absurd (omega arith)
take_exact (x ∷ xs) ys (suc k) same = ap (λ zs. x ∷ zs) (take_exact xs ys k (omega arith))

drop_exact : (xs ys : List ℕ) (k : ℕ) → k ≡ length xs → drop k (xs ++ ys) ≡ ys
drop_exact [] ys zero same = refl
drop_exact [] ys (suc k) same = absurd (omega arith)
drop_exact (x ∷ xs) ys zero same = absurd (omega arith)
drop_exact (x ∷ xs) ys (suc k) same = drop_exact xs ys k (omega arith)

pub length_take : (k : ℕ) (xs : List ℕ) → k ≤ length xs → length (take k xs) ≡ k
length_take zero xs within = refl
length_take (suc k) [] within = absurd (omega arith)
length_take (suc k) (x ∷ xs) within = ap suc (length_take k xs (omega arith))

pub length_drop : (k : ℕ) (xs : List ℕ) → k ≤ length xs → length (drop k xs) + k ≡ length xs
length_drop zero xs within = omega arith
length_drop (suc k) [] within = absurd (omega arith)
length_drop (suc k) (x ∷ xs) within = let rest = length_drop k xs (omega arith) in omega arith

pub drop_drop : (a b : ℕ) (ys : List ℕ) → drop (a + b) ys ≡ drop b (drop a ys)
drop_drop zero b ys = ap (λ k. drop k ys) (let e : 0 + b ≡ b = omega arith in e)
drop_drop (suc a) b [] = drop_all (suc a + b) [] (omega arith) ∙ sym (drop_all b [] (omega arith))
drop_drop (suc a) b (y ∷ ys) = ap (λ k. drop k (y ∷ ys)) (let e : suc a + b ≡ suc (a + b) = omega arith in e) ∙ drop_drop a b ys

-- ---- the flat list alone

-- the open lane, empty
abbrev pub open_lane : List (List ℕ)
open_lane = [] ∷ []

pub flat_appended : (xs ks : List ℕ) (n : ℕ) → total ks ≤ length xs → cut (xs ++ n ∷ []) ks open_lane ≡ at_end (cut xs ks open_lane) n
flat_appended xs [] n within = ap (λ ys. ys ∷ []) (nothing_after (xs ++ n ∷ []) ∙ ap (λ ys. ys ++ n ∷ []) (sym (nothing_after xs)))
flat_appended xs (k ∷ ks) n within =
    let part = length_drop k xs (omega arith) in
    ap (λ ys. ys ∷ cut (drop k (xs ++ n ∷ [])) ks open_lane) (take_left xs (n ∷ []) k (omega arith))
    ∙ ap (λ ys. take k xs ∷ cut ys ks open_lane) (drop_left xs (n ∷ []) k (omega arith))
    ∙ ap (λ ys. take k xs ∷ ys) (flat_appended (drop k xs) ks n (omega arith))
    ∙ sym (at_end-next (take k xs) (cut (drop k xs) ks open_lane) n (has_lane-cut (drop k xs) ks open_lane))

nowhere_changed : (lanes : List (List ℕ)) (n : ℕ) → is_member (members_of lanes) n ≡ false → lanes_without lanes n ≡ lanes
nowhere_changed [] n none = refl
nowhere_changed (lane ∷ lanes) n none =
    let parts = outside lane (members_of lanes) n none in
    ap (λ ys. ys ∷ lanes_without lanes n) (without_absent lane n parts.0) ∙ ap (λ ys. lane ∷ ys) (nowhere_changed lanes n parts.1)

pub flat_left : (xs ks : List ℕ) (lanes : List (List ℕ)) (n : ℕ) → is_member (members_of lanes) n ≡ false → cut (without xs n) (kept xs ks n) lanes ≡ lanes_without (cut xs ks lanes) n
flat_left xs [] lanes n none = ap (onto (without xs n)) (sym (nowhere_changed lanes n none)) ∙ onto-without xs lanes n
flat_left xs (k ∷ ks) lanes n none =
    let parts : without xs n ≡ without (take k xs) n ++ without (drop k xs) n = ap (λ ys. without ys n) (sym (take_then_drop k xs)) ∙ without-append (take k xs) (drop k xs) n in
    ap (λ ys. take (length (without (take k xs) n)) ys ∷ cut (drop (length (without (take k xs) n)) ys) (kept (drop k xs) ks n) lanes) parts
    ∙ ap (λ ys. ys ∷ cut (drop (length (without (take k xs) n)) (without (take k xs) n ++ without (drop k xs) n)) (kept (drop k xs) ks n) lanes) (take_exact (without (take k xs) n) (without (drop k xs) n) _ refl)
    ∙ ap (λ ys. without (take k xs) n ∷ cut ys (kept (drop k xs) ks n) lanes) (drop_exact (without (take k xs) n) (without (drop k xs) n) _ refl)
    ∙ ap (λ ys. without (take k xs) n ∷ ys) (flat_left (drop k xs) ks lanes n none)

pub length-kept : (xs ks : List ℕ) (n : ℕ) → length (kept xs ks n) ≡ length ks
length-kept xs [] n = refl
length-kept xs (k ∷ ks) n = ap suc (length-kept (drop k xs) ks n)

-- what is left of those in closed lanes, and of the others
pub total-kept : (xs ks : List ℕ) (n : ℕ) → total (kept xs ks n) + length (without (drop (total ks) xs) n) ≡ length (without xs n)
total-kept xs [] n = omega arith
total-kept xs (k ∷ ks) n =
    let rest = total-kept (drop k xs) ks n in
    let parts : without xs n ≡ without (take k xs) n ++ without (drop k xs) n = ap (λ ys. without ys n) (sym (take_then_drop k xs)) ∙ without-append (take k xs) (drop k xs) n in
    let len = ap (λ (ys : List ℕ). length ys) parts in
    let both = length-append (without (take k xs) n) (without (drop k xs) n) in
    let later = ap (λ (ys : List ℕ). length (without ys n)) (drop_drop k (total ks) xs) in
    omega arith

-- where the place lies in the first closed lane, and where it lies behind
pub longer_here : (k : ℕ) (ks : List ℕ) (p : ℕ) → p < k → longer (k ∷ ks) p ≡ suc k ∷ ks
longer_here k ks p before = grind (arith, nat_tests)

pub longer_on : (k : ℕ) (ks : List ℕ) (p : ℕ) → k ≤ p → longer (k ∷ ks) p ≡ k ∷ longer ks (p - k)
longer_on k ks p past = grind (arith, nat_tests)

pub flat_came : (xs ks : List ℕ) (lanes : List (List ℕ)) (y t : ℕ) → is_member xs t ≡ true → total ks ≤ length xs
    → cut (insert_before y t xs) (longer ks (place_of xs t)) lanes ≡ lanes_insert y t (cut xs ks lanes)
flat_came xs [] lanes y t is within = onto-insert_left xs lanes y t is
flat_came xs (k ∷ ks) lanes y t is within = by_case (is_member (take k xs) t) refl (flat_came (drop k xs) ks lanes y t) where
  whole : take k xs ++ drop k xs ≡ xs
  whole = take_then_drop k xs

  front : length (take k xs) ≡ k
  front = length_take k xs (omega arith)

  behind : length (drop k xs) + k ≡ length xs
  behind = length_drop k xs (omega arith)

  by_case : (b : Bool) → is_member (take k xs) t ≡ b
      → (is_member (drop k xs) t ≡ true → total ks ≤ length (drop k xs) → cut (insert_before y t (drop k xs)) (longer ks (place_of (drop k xs) t)) lanes ≡ lanes_insert y t (cut (drop k xs) ks lanes))
      → cut (insert_before y t xs) (longer (k ∷ ks) (place_of xs t)) lanes ≡ lanes_insert y t (take k xs ∷ cut (drop k xs) ks lanes)
  by_case true there rest =
      let front_is = front in
      let place = ap (λ zs. place_of zs t) (sym whole) ∙ place_of_left (take k xs) (drop k xs) t there in
      let below = place_of_within (take k xs) t there in
      let came : insert_before y t xs ≡ insert_before y t (take k xs) ++ drop k xs = ap (insert_before y t) (sym whole) ∙ insert_before_left (take k xs) (drop k xs) y t there in
      let one : length (insert_before y t (take k xs)) ≡ length (take k xs) + 1 = length-insert_before_member (take k xs) y t there in
      ap (λ zs. cut (insert_before y t xs) zs lanes) (longer_here k ks (place_of xs t) (omega arith))
      ∙ ap (λ zs. take (suc k) zs ∷ cut (drop (suc k) zs) ks lanes) came
      ∙ ap (λ zs. zs ∷ cut (drop (suc k) (insert_before y t (take k xs) ++ drop k xs)) ks lanes) (take_exact (insert_before y t (take k xs)) (drop k xs) (suc k) (omega arith))
      ∙ ap (λ zs. insert_before y t (take k xs) ∷ cut zs ks lanes) (drop_exact (insert_before y t (take k xs)) (drop k xs) (suc k) (omega arith))
      ∙ ap (λ c. if c then insert_before y t (take k xs) ∷ cut (drop k xs) ks lanes else take k xs ∷ lanes_insert y t (cut (drop k xs) ks lanes)) (sym there)
  by_case false none rest =
      let front_is = front in
      let behind_is = behind in
      let place = ap (λ zs. place_of zs t) (sym whole) ∙ place_of_right (take k xs) (drop k xs) t none in
      let came : insert_before y t xs ≡ take k xs ++ insert_before y t (drop k xs) = ap (insert_before y t) (sym whole) ∙ insert_before_right (take k xs) (drop k xs) y t none in
      let among : is_member (drop k xs) t ≡ true = sym (member_not_left (take k xs) (drop k xs) t none) ∙ ap (λ zs. is_member zs t) whole ∙ is in
      let left : place_of xs t - k ≡ place_of (drop k xs) t = omega arith in
      ap (λ zs. cut (insert_before y t xs) zs lanes) (longer_on k ks (place_of xs t) (omega arith) ∙ ap (λ p. k ∷ longer ks p) left)
      ∙ ap (λ zs. take k zs ∷ cut (drop k zs) (longer ks (place_of (drop k xs) t)) lanes) came
      ∙ ap (λ zs. zs ∷ cut (drop k (take k xs ++ insert_before y t (drop k xs))) (longer ks (place_of (drop k xs) t)) lanes) (take_exact (take k xs) (insert_before y t (drop k xs)) k (sym front))
      ∙ ap (λ zs. take k xs ∷ cut zs (longer ks (place_of (drop k xs) t)) lanes) (drop_exact (take k xs) (insert_before y t (drop k xs)) k (sym front))
      ∙ ap (λ zs. take k xs ∷ zs) (rest among (omega arith))
      ∙ ap (λ c. if c then insert_before y t (take k xs) ∷ cut (drop k xs) ks lanes else take k xs ∷ lanes_insert y t (cut (drop k xs) ks lanes)) (sym none)

pub length-longer : (ks : List ℕ) (p : ℕ) → length (longer ks p) ≡ length ks
length-longer [] p = refl
length-longer (k ∷ ks) p = by_case (cases_lt p k) (length-longer ks (p - k)) where
  by_case : (p < k) ⊎ (k ≤ p) → length (longer ks (p - k)) ≡ length ks → length (longer (k ∷ ks) p) ≡ length (k ∷ ks)
  by_case (inl before) rest = ap (λ (zs : List ℕ). length zs) (longer_here k ks p before)
  by_case (inr past) rest = ap (λ (zs : List ℕ). length zs) (longer_on k ks p past) ∙ ap suc rest

pub total-longer_in : (ks : List ℕ) (p : ℕ) → p < total ks → total (longer ks p) ≡ total ks + 1
total-longer_in [] p within = absurd (omega arith)
total-longer_in (k ∷ ks) p within = by_case (cases_lt p k) (total-longer_in ks (p - k)) where
  by_case : (p < k) ⊎ (k ≤ p) → (p - k < total ks → total (longer ks (p - k)) ≡ total ks + 1) → total (longer (k ∷ ks) p) ≡ total (k ∷ ks) + 1
  by_case (inl before) rest = let e = ap total (longer_here k ks p before) in omega arith
  by_case (inr past) rest = let e = ap total (longer_on k ks p past) in let r = rest (omega arith) in omega arith

pub longer_past : (ks : List ℕ) (p : ℕ) → total ks ≤ p → longer ks p ≡ ks
longer_past [] p past = refl
longer_past (k ∷ ks) p past = longer_on k ks p (omega arith) ∙ ap (λ zs. k ∷ zs) (longer_past ks (p - k) (omega arith))

-- ---- runs are settled

onto_onto : (xs ys : List ℕ) (lanes : List (List ℕ)) → onto xs (onto ys lanes) ≡ onto (xs ++ ys) lanes
onto_onto xs ys [] = refl
onto_onto xs ys (lane ∷ lanes) = ap (λ zs. zs ∷ lanes) (assoc xs ys lane)

pub onto_nothing : (lanes : List (List ℕ)) → HasLane lanes → onto [] lanes ≡ lanes
onto_nothing [] some = absurd (omega arith)
onto_nothing (lane ∷ lanes) some = refl

settled_runs : (xs : List ℕ) (es : List Bool) (rows : List (List ℕ)) → length es ≡ length rows → onto xs (lanes_from es rows) ≡ cut (xs ++ members_of rows) (closed (length xs) es rows) open_lane
settled_runs xs [] [] same = ap (λ ys. ys ∷ []) (sym (nothing_after (xs ++ [])))
settled_runs xs [] (row ∷ rows) same = absurd (omega arith)
settled_runs xs (e ∷ es) [] same = absurd (omega arith)
settled_runs xs (true ∷ es) (row ∷ rows) same =
    let both = length-append xs row in
    let whole = assoc xs row (members_of rows) in
    ap (λ ys. (xs ++ row) ∷ ys) (sym (onto_nothing (lanes_from es rows) (has_lane-from es rows)) ∙ settled_runs [] es rows (omega arith))
    ∙ ap (λ ys. ys ∷ cut (members_of rows) (closed 0 es rows) open_lane) (sym (take_exact (xs ++ row) (members_of rows) (length xs + length row) (sym both)) ∙ ap (take (length xs + length row)) (sym whole))
    ∙ ap (λ ys. take (length xs + length row) (xs ++ (row ++ members_of rows)) ∷ cut ys (closed 0 es rows) open_lane)
    (sym (drop_exact (xs ++ row) (members_of rows) (length xs + length row) (sym both)) ∙ ap (drop (length xs + length row)) (sym whole))
settled_runs xs (false ∷ es) (row ∷ rows) same =
    onto_onto xs row (lanes_from es rows) ∙ settled_runs (xs ++ row) es rows (omega arith) ∙ ap (λ ys. cut ys (closed (length (xs ++ row)) es rows) open_lane) (sym (assoc xs row (members_of rows)))
    ∙ ap (λ k. cut (xs ++ (row ++ members_of rows)) (closed k es rows) open_lane) (length-append xs row)

pub settled_all : (xs ks : List ℕ) (s : ℕ) (es : List Bool) (rows : List (List ℕ)) → length es ≡ length rows → total ks + s ≡ length xs
    → cut xs ks (lanes_from es rows) ≡ cut (xs ++ members_of rows) (ks ++ closed s es rows) open_lane
settled_all xs [] s es rows same fits = settled_runs xs es rows same ∙ ap (λ k. cut (xs ++ members_of rows) (closed k es rows) open_lane) (omega arith)
settled_all xs (k ∷ ks) s es rows same fits =
    let part = length_drop k xs (omega arith) in
    ap (λ ys. take k xs ∷ ys) (settled_all (drop k xs) ks s es rows same (omega arith))
    ∙ ap (λ ys. ys ∷ cut (drop k xs ++ members_of rows) (ks ++ closed s es rows) open_lane) (sym (take_left xs (members_of rows) k (omega arith)))
    ∙ ap (λ ys. take k (xs ++ members_of rows) ∷ cut ys (ks ++ closed s es rows) open_lane) (sym (drop_left xs (members_of rows) k (omega arith)))

pub total-append : (ks js : List ℕ) → total (ks ++ js) ≡ total ks + total js
total-append [] js = omega arith
total-append (k ∷ ks) js = let rest = total-append ks js in omega arith

-- what is closed, and what stands in the open lane
pub total-closed : (s : ℕ) (es : List Bool) (rows : List (List ℕ)) → length es ≡ length rows → total (closed s es rows) + start_no s es rows (length es) ≡ s + length (members_of rows)
total-closed s [] [] same = omega arith
total-closed s [] (row ∷ rows) same = absurd (omega arith)
total-closed s (e ∷ es) [] same = absurd (omega arith)
total-closed s (true ∷ es) (row ∷ rows) same = let rest = total-closed 0 es rows (omega arith) in let both = length-append row (members_of rows) in omega arith
total-closed s (false ∷ es) (row ∷ rows) same = let rest = total-closed (s + length row) es rows (omega arith) in let both = length-append row (members_of rows) in omega arith

pub length-closed : (s : ℕ) (l : ℕ) (es : List Bool) (rows : List (List ℕ)) → length es ≡ length rows → l + length (closed s es rows) ≡ lane_no l es (length es)
length-closed s l [] [] same = omega arith
length-closed s l [] (row ∷ rows) same = absurd (omega arith)
length-closed s l (e ∷ es) [] same = absurd (omega arith)
length-closed s l (true ∷ es) (row ∷ rows) same = let rest = length-closed 0 (suc l) es rows (omega arith) in omega arith
length-closed s l (false ∷ es) (row ∷ rows) same = let rest = length-closed (s + length row) l es rows (omega arith) in omega arith

-- ---- the lane of each run, and where it starts there

pub lane_next : (l : ℕ) (es : List Bool) (b : ℕ) → b < length es → lane_no l es (suc b) ≡ (if get_or es b false then suc (lane_no l es b) else lane_no l es b)
lane_next l [] b within = absurd (omega arith)
lane_next l (true ∷ []) zero within = refl
lane_next l (true ∷ (f ∷ es)) zero within = refl
lane_next l (false ∷ []) zero within = refl
lane_next l (false ∷ (f ∷ es)) zero within = refl
lane_next l (true ∷ es) (suc b) within = lane_next (suc l) es b (omega arith)
lane_next l (false ∷ es) (suc b) within = lane_next l es b (omega arith)

start_here : (s : ℕ) (es : List Bool) (rows : List (List ℕ)) → start_no s es rows 0 ≡ s
start_here s [] rows = refl
start_here s (e ∷ es) [] = refl
start_here s (e ∷ es) (row ∷ rows) = refl

pub start_next : (s : ℕ) (es : List Bool) (rows : List (List ℕ)) (b : ℕ) → b < length es → b < length rows
    → start_no s es rows (suc b) ≡ (if get_or es b false then zero else start_no s es rows b + length (get_or rows b []))
start_next s [] rows b within in_rows = absurd (omega arith)
start_next s (e ∷ es) [] b within in_rows = absurd (omega arith)
start_next s (true ∷ es) (row ∷ rows) zero within in_rows = start_here 0 es rows
start_next s (false ∷ es) (row ∷ rows) zero within in_rows = start_here (s + length row) es rows
start_next s (true ∷ es) (row ∷ rows) (suc b) within in_rows = start_next 0 es rows b (omega arith) (omega arith)
start_next s (false ∷ es) (row ∷ rows) (suc b) within in_rows = start_next (s + length row) es rows b (omega arith) (omega arith)

-- a run up to which nothing has changed
pub start_before : (s : ℕ) (es : List Bool) (rows : List (List ℕ)) (k : ℕ) (ys : List ℕ) (b : ℕ) → b ≤ k → start_no s es (set rows k ys) b ≡ start_no s es rows b
start_before s [] rows k ys b upto = refl
start_before s (e ∷ es) [] k ys b upto = refl
start_before s (e ∷ es) (row ∷ rows) zero ys zero upto = refl
start_before s (e ∷ es) (row ∷ rows) (suc k) ys zero upto = refl
start_before s (e ∷ es) (row ∷ rows) zero ys (suc b) upto = absurd (omega arith)
start_before s (true ∷ es) (row ∷ rows) (suc k) ys (suc b) upto = start_before 0 es rows k ys b (omega arith)
start_before s (false ∷ es) (row ∷ rows) (suc k) ys (suc b) upto = start_before (s + length row) es rows k ys b (omega arith)

-- one of a later lane
start_any : (s t : ℕ) (es : List Bool) (rows : List (List ℕ)) (c b : ℕ) → c < b → b ≤ length rows → get_or es c false ≡ true → start_no s es rows b ≡ start_no t es rows b
start_any s t [] rows c b before within is = absurd (cc)
start_any s t (e ∷ es) [] c b before within is = absurd (omega arith)
start_any s t (e ∷ es) (row ∷ rows) c zero before within is = absurd (omega arith)
start_any s t (true ∷ es) (row ∷ rows) c (suc b) before within is = refl
start_any s t (false ∷ es) (row ∷ rows) zero (suc b) before within is = absurd (cc)
start_any s t (false ∷ es) (row ∷ rows) (suc c) (suc b) before within is = start_any (s + length row) (t + length row) es rows c b (omega arith) (omega arith) is

pub start_after : (s : ℕ) (es : List Bool) (rows : List (List ℕ)) (k c : ℕ) (ys : List ℕ) (b : ℕ) → k ≤ c → c < b → b ≤ length rows → get_or es c false ≡ true → start_no s es (set rows k ys) b ≡ start_no s es rows b
start_after s [] rows k c ys b from before within is = absurd (cc)
start_after s (e ∷ es) [] k c ys b from before within is = refl
start_after s (e ∷ es) (row ∷ rows) k c ys zero from before within is = absurd (omega arith)
start_after s (true ∷ es) (row ∷ rows) zero c ys (suc b) from before within is = refl
start_after s (false ∷ es) (row ∷ rows) zero zero ys (suc b) from before within is = absurd (cc)
start_after s (false ∷ es) (row ∷ rows) zero (suc c) ys (suc b) from before within is = start_any (s + length ys) (s + length row) es rows c b (omega arith) (omega arith) is
start_after s (e ∷ es) (row ∷ rows) (suc k) zero ys (suc b) from before within is = absurd (omega arith)
start_after s (true ∷ es) (row ∷ rows) (suc k) (suc c) ys (suc b) from before within is = start_after 0 es rows k c ys b (omega arith) (omega arith) (omega arith) is
start_after s (false ∷ es) (row ∷ rows) (suc k) (suc c) ys (suc b) from before within is = start_after (s + length row) es rows k c ys b (omega arith) (omega arith) (omega arith) is

-- no run starts after the end of the whole, nor is there a lane without a run that closes it
pub start_bound : (s : ℕ) (es : List Bool) (rows : List (List ℕ)) (b : ℕ) → start_no s es rows b ≤ s + length (members_of rows)
start_bound s [] rows b = omega arith
start_bound s (e ∷ es) [] b = omega arith
start_bound s (e ∷ es) (row ∷ rows) zero = omega arith
start_bound s (true ∷ es) (row ∷ rows) (suc b) = let rest = start_bound 0 es rows b in let both = length-append row (members_of rows) in omega arith
start_bound s (false ∷ es) (row ∷ rows) (suc b) = let rest = start_bound (s + length row) es rows b in let both = length-append row (members_of rows) in omega arith

pub lane_bound : (l : ℕ) (es : List Bool) (b : ℕ) → lane_no l es b ≤ l + b
lane_bound l [] b = omega arith
lane_bound l (e ∷ es) zero = omega arith
lane_bound l (true ∷ es) (suc b) = let rest = lane_bound (suc l) es b in omega arith
lane_bound l (false ∷ es) (suc b) = let rest = lane_bound l es b in omega arith

-- with more before the first lane, only its runs start later
pub start_shift : (s : ℕ) (l : ℕ) (es : List Bool) (rows : List (List ℕ)) (b : ℕ) → b ≤ length rows → ((lane_no l es b ≡ l) × (start_no s es rows b ≡ start_no 0 es rows b + s)) ⊎ ((l < lane_no l es b) × (start_no s es rows b ≡ start_no 0 es rows b))
start_shift s l es rows b within = subst (λ k. ((lane_no l es b ≡ l) × (start_no k es rows b ≡ start_no 0 es rows b + s)) ⊎ ((l < lane_no l es b) × (start_no k es rows b ≡ start_no 0 es rows b))) (let none : 0 + s ≡ s = omega arith in none) (from_any s 0 l es rows b within) where
  later : (l : ℕ) (es : List Bool) (b : ℕ) → l ≤ lane_no l es b
  later l [] b = omega arith
  later l (e ∷ es) zero = omega arith
  later l (true ∷ es) (suc b) = let rest = later (suc l) es b in omega arith
  later l (false ∷ es) (suc b) = later l es b

  from_any : (s t : ℕ) (l : ℕ) (es : List Bool) (rows : List (List ℕ)) (b : ℕ) → b ≤ length rows → ((lane_no l es b ≡ l) × (start_no (t + s) es rows b ≡ start_no t es rows b + s)) ⊎ ((l < lane_no l es b) × (start_no (t + s) es rows b ≡ start_no t es rows b))
  from_any s t l [] rows b within = inl (refl, refl)
  from_any s t l (e ∷ es) [] zero within = inl (refl, refl)
  from_any s t l (e ∷ es) [] (suc b) within = absurd (omega arith)
  from_any s t l (e ∷ es) (row ∷ rows) zero within = inl (refl, refl)
  from_any s t l (true ∷ es) (row ∷ rows) (suc b) within = let low = later (suc l) es b in inr (omega arith, refl)
  from_any s t l (false ∷ es) (row ∷ rows) (suc b) within =
      let same : t + s + length row ≡ t + length row + s = omega arith in
      subst (λ k. ((lane_no l es b ≡ l) × (start_no k es rows b ≡ start_no (t + length row) es rows b + s)) ⊎ ((l < lane_no l es b) × (start_no k es rows b ≡ start_no (t + length row) es rows b))) (sym same)
      (from_any s (t + length row) l es rows b (omega arith))

-- ---- where a member lies in lanes

in_first : (xs row : List ℕ) (lanes : List (List ℕ)) (p : ℕ) → p < length row → at (onto xs (row ∷ lanes)) 0 (length xs + p) ≡ get_or row p 0
in_first xs row lanes p within = get_or-append-add xs row p 0

-- who stands at a place of a run lies in its lane after those of the runs before
pub lies : (xs : List ℕ) (es : List Bool) (rows : List (List ℕ)) (b p : ℕ) → b < length es → b < length rows → p < length (get_or rows b [])
    → (at (onto xs (lanes_from es rows)) (lane_no 0 es b) (start_no (length xs) es rows b + p) ≡ at rows b p)
    × (whole_place (onto xs (lanes_from es rows)) (lane_no 0 es b) (start_no (length xs) es rows b + p) ≡ length xs + whole_place rows b p)
lies xs [] rows b p within in_rows in_row = absurd (omega arith)
lies xs (e ∷ es) [] b p within in_rows in_row = absurd (omega arith)
lies xs (true ∷ es) (row ∷ rows) zero p within in_rows in_row = (get_or-append-add xs row p 0, refl)
lies xs (false ∷ es) (row ∷ rows) zero p within in_rows in_row = (
  ap (λ ls. at ls 0 (length xs + p)) (onto_onto xs row (lanes_from es rows)) ∙ first (lanes_from es rows) (xs ++ row) (length xs + p) (let both = length-append xs row in omega arith)
      ∙ get_or_append_at xs row p,
  ap (λ ls. whole_place ls 0 (length xs + p)) (onto_onto xs row (lanes_from es rows)) ∙ first_place (lanes_from es rows) (xs ++ row) (length xs + p),
) where
  first : (lanes : List (List ℕ)) (ys : List ℕ) (i : ℕ) → i < length ys → at (onto ys lanes) 0 i ≡ get_or ys i 0
  first [] ys i under = refl
  first (lane ∷ lanes) ys i under = get_or_append_left ys lane 0 i under

  first_place : (lanes : List (List ℕ)) (ys : List ℕ) (i : ℕ) → whole_place (onto ys lanes) 0 i ≡ i
  first_place [] ys i = refl
  first_place (lane ∷ lanes) ys i = refl

  get_or_append_at : (ys zs : List ℕ) (q : ℕ) → get_or (ys ++ zs) (length ys + q) 0 ≡ get_or zs q 0
  get_or_append_at ys zs q = get_or-append-add ys zs q 0
lies xs (true ∷ es) (row ∷ rows) (suc b) p within in_rows in_row =
    let rest = lies [] es rows b p (omega arith) (omega arith) in_row in
    let lane = one_further es b in
    let both = length-append xs row in
    let there = ap (λ ls. whole_place ls (lane_no 0 es b) (start_no 0 es rows b + p)) (onto_nothing (lanes_from es rows) (has_lane-from es rows)) in
    let deeper = rest.1 in (
      ap (λ l. at ((xs ++ row) ∷ lanes_from es rows) l (start_no 0 es rows b + p)) lane ∙ ap (λ ls. at ls (lane_no 0 es b) (start_no 0 es rows b + p)) (sym (onto_nothing (lanes_from es rows) (has_lane-from es rows))) ∙ rest.0,
      ap (λ l. whole_place ((xs ++ row) ∷ lanes_from es rows) l (start_no 0 es rows b + p)) lane ∙ (omega arith),
    ) where
      one_further : (fs : List Bool) (c : ℕ) → lane_no 1 fs c ≡ suc (lane_no 0 fs c)
      one_further fs c = from_any 0 fs c where
        from_any : (l : ℕ) (fs : List Bool) (c : ℕ) → lane_no (suc l) fs c ≡ suc (lane_no l fs c)
        from_any l [] c = refl
        from_any l (f ∷ fs) zero = refl
        from_any l (true ∷ fs) (suc c) = from_any (suc l) fs c
        from_any l (false ∷ fs) (suc c) = from_any l fs c
lies xs (false ∷ es) (row ∷ rows) (suc b) p within in_rows in_row =
    let rest = lies (xs ++ row) es rows b p (omega arith) (omega arith) in_row in
    let both = length-append xs row in
    let same = ap (λ k. start_no k es rows b + p) both in
    let joined = onto_onto xs row (lanes_from es rows) in
    let deeper = rest.1 in
    let place = ap (λ i. whole_place (onto (xs ++ row) (lanes_from es rows)) (lane_no 0 es b) i) same in (
      ap (λ ls. at ls (lane_no 0 es b) (start_no (length xs + length row) es rows b + p)) joined ∙ ap (λ i. at (onto (xs ++ row) (lanes_from es rows)) (lane_no 0 es b) i) (sym same) ∙ rest.0,
      ap (λ ls. whole_place ls (lane_no 0 es b) (start_no (length xs + length row) es rows b + p)) joined ∙ (omega arith),
    )

-- what lies in lanes behind those that are closed
pub lies_behind : (xs ks : List ℕ) (lanes : List (List ℕ)) (l i : ℕ) → total ks ≤ length xs
    → (at (cut xs ks lanes) (length ks + l) i ≡ at (onto (drop (total ks) xs) lanes) l i) × (whole_place (cut xs ks lanes) (length ks + l) i ≡ total ks + whole_place (onto (drop (total ks) xs) lanes) l i)
lies_behind xs [] lanes l i within = (ap (λ k. at (onto xs lanes) k i) (omega arith), ap (λ k. whole_place (onto xs lanes) k i) (let e : 0 + l ≡ l = omega arith in e) ∙ (omega arith))
lies_behind xs (k ∷ ks) lanes l i within =
    let part = length_drop k xs (omega arith) in
    let front = length_take k xs (omega arith) in
    let rest = lies_behind (drop k xs) ks lanes l i (omega arith) in
    let next : suc (length ks) + l ≡ suc (length ks + l) = omega arith in
    let deep = drop_drop k (total ks) xs in
    let deeper = rest.1 in
    let same = ap (λ zs. whole_place (onto zs lanes) l i) deep in (
      ap (λ j. at (take k xs ∷ cut (drop k xs) ks lanes) j i) next ∙ rest.0 ∙ ap (λ zs. at (onto zs lanes) l i) (sym deep),
      ap (λ j. whole_place (take k xs ∷ cut (drop k xs) ks lanes) j i) next ∙ (omega arith),
    )

-- what lies in a closed one
pub lies_closed : (xs ks : List ℕ) (lanes : List (List ℕ)) (l i : ℕ) → total ks ≤ length xs → l < length ks → i < get_or ks l 0
    → (at (cut xs ks lanes) l i ≡ get_or xs (total (take l ks) + i) 0) × (whole_place (cut xs ks lanes) l i ≡ total (take l ks) + i)
lies_closed xs [] lanes l i within in_ks in_lane = absurd (omega arith)
lies_closed xs (k ∷ ks) lanes zero i within in_ks in_lane =
    let front = length_take k xs (omega arith) in
    (ap (λ j. get_or (take k xs) j 0) (let e : i ≡ i = refl in e) ∙ sym (get_or_append_left (take k xs) (drop k xs) 0 i (omega arith)) ∙ ap (λ zs. get_or zs i 0) (take_then_drop k xs) ∙ ap (λ j. get_or xs j 0) (let e : i ≡ 0 + i = omega arith in e), omega arith)
lies_closed xs (k ∷ ks) lanes (suc l) i within in_ks in_lane =
    let part = length_drop k xs (omega arith) in
    let front = length_take k xs (omega arith) in
    let rest = lies_closed (drop k xs) ks lanes l i (omega arith) (omega arith) in_lane in
    let deeper = rest.1 in (
      rest.0 ∙ sym (get_or-append-add (take k xs) (drop k xs) (total (take l ks) + i) 0) ∙ ap (λ zs. get_or zs (length (take k xs) + (total (take l ks) + i)) 0) (take_then_drop k xs)
          ∙ ap (λ j. get_or xs j 0) (let e : length (take k xs) + (total (take l ks) + i) ≡ k + total (take l ks) + i = omega arith in e),
      omega arith,
    )
