-- A change of one of the two parts of an agenda, and what it makes of the whole.
use Rattle.std.proofs.Common.{◌↔◌, IsTrue, ◌≡◌, ◌∙◌, sym, ap, ℕ, suc, ◌+◌, ◌-◌, ◌<◌, ◌≤◌, Bool, true, false, List, [], ◌∷◌, ◌++◌, length, length-append, drop, if◌then◌else◌, refl, ◌⊎◌, inl, inr, arith}
use Rattle.std.proofs.lemmas.Bool.{cases_eq}
use Rattle.std.proofs.lemmas.Bool.Decides.{nat_tests}
use Rattle.ltx_model.specs.Listings.{is_member, without, insert_before, place_of}
use Rattle.ltx_agenda.specs.Placed.{Standing, SitsAt, IsAgenda}
use Rattle.ltx_agenda.specs.Runs.{rows_of, members_of}
use Rattle.ltx_agenda.specs.Lanes.{at_end, lanes_without, lanes_insert, lanes_from, cut, total, lane_no, start_no, closed, kept, longer}
use Rattle.ltx_agenda.proofs.InLanes.{length-longer, from-without, cut-without_right, from-insert, cut-insert_right, has_lane-from, short_appended, slot_appended, cut-at_end, cut-open, length-kept, total-kept, settled_all, total-append, total-closed, length-closed}
use Rattle.ltx_agenda.specs.declared.seats.Seat.{Seat}
use Rattle.ltx_agenda.proofs.Listings.{Before, before_is}
use Rattle.ltx_agenda.proofs.Joined.{outside, length-insert_before_member, member_not_right, place_of_left, place_of_right, place_of_within, member_was, member_came, length-without_most, length-without_member, length-insert_before_most, without_right, without_left, insert_before_right}

-- one more lane is closed, or none
pub slots_push : (es : List Bool) (e : Bool) → lane_no 0 (es ++ e ∷ []) (length (es ++ e ∷ [])) ≡ (if e then suc (lane_no 0 es (length es)) else lane_no 0 es (length es))
slots_push es e = push 0 es where
  push : (l : ℕ) (es : List Bool) → lane_no l (es ++ e ∷ []) (length (es ++ e ∷ [])) ≡ (if e then suc (lane_no l es (length es)) else lane_no l es (length es))
  push l [] = last e where
    last : (e : Bool) → lane_no l (e ∷ []) 1 ≡ (if e then suc l else l)
    last true = refl
    last false = refl
  push l (true ∷ fs) = push (suc l) fs
  push l (false ∷ fs) = push l fs

member_not_last : (xs : List ℕ) (n m : ℕ) → (m ≡ n → ⊥) → is_member (xs ++ n ∷ []) m ≡ is_member xs m
member_not_last xs n m differ = member_not_right xs (n ∷ []) m (let other : n ≡ m → ⊥ = λ e. differ (sym e) in grind (arith, nat_tests))

module _ (settled : List ℕ) (capacity : ℕ) (lens : List ℕ) (lens_capacity open_count : ℕ) (lanes : Standing) (room : ℕ) (ok : IsAgenda settled capacity lens lens_capacity open_count lanes room) where
  -- who stands in lanes is not settled
  pub not_settled : (n : ℕ) → is_member lanes.list n ≡ true → is_member settled n ≡ false
  not_settled n is = ok.apart_from n is

  pub lane_left : (n : ℕ) (new : Standing) → new.list ≡ without lanes.list n → new.room ≡ lanes.room → new.ends ≡ lanes.ends → IsAgenda settled capacity lens lens_capacity open_count new room
  lane_left n new left same ends = record {
    lens_room = let before = ok.lens_room in let closings = ap (λ es. lane_no 0 es (length es)) ends in omega arith;
    fits = ok.fits;
    apart_from = λ m is. ok.apart_from m (member_was lanes.list n m (ap (λ xs. is_member xs m) (sym left) ∙ is));
    settled_room = let before = ok.settled_room in let most = length-without_most lanes.list n in let len = ap (λ (xs : List ℕ). length xs) left in omega arith;
    lanes_room = let before = ok.lanes_room in omega arith;
  }

  pub settled_left : (n : ℕ) (new : List ℕ) (new_capacity : ℕ) (new_lens : List ℕ) (new_lens_capacity new_open : ℕ) → new ≡ without settled n → new_capacity ≡ capacity → new_lens ≡ kept settled lens n → new_lens_capacity ≡ lens_capacity
      → new_open ≡ length (without (drop (total lens) settled) n) → IsAgenda new new_capacity new_lens new_lens_capacity new_open lanes room
  settled_left n new new_capacity new_lens new_lens_capacity new_open left same lens_are lens_same opened = record {
    lens_room = let before = ok.lens_room in let many = ap (λ (xs : List ℕ). length xs) lens_are in let alike = length-kept settled lens n in omega arith;
    fits = let sums = ap total lens_are in let whole = total-kept settled lens n in let len = ap (λ (xs : List ℕ). length xs) left in omega arith;
    apart_from = λ m is. not_there m (ok.apart_from m is);
    settled_room = let before = ok.settled_room in let most = length-without_most settled n in let len = ap (λ (xs : List ℕ). length xs) left in omega arith;
    lanes_room = ok.lanes_room;
  } where
    not_there : (m : ℕ) → is_member settled m ≡ false → is_member new m ≡ false
    not_there m none = by_case (is_member new m) refl where
      by_case : (b : Bool) → is_member new m ≡ b → is_member new m ≡ false
      by_case false is = is
      by_case true is = absurd (let was = member_was settled n m (ap (λ xs. is_member xs m) (sym left) ∙ is) in let no : true ≡ false = sym was ∙ none in cc)

  pub lane_moved : (x t : ℕ) (new : Standing) → is_member lanes.list x ≡ true → new.list ≡ insert_before x t (without lanes.list x) → new.room ≡ lanes.room → new.ends ≡ lanes.ends → IsAgenda settled capacity lens lens_capacity open_count new room
  lane_moved x t new is came same ends = record {
    lens_room = let before = ok.lens_room in let closings = ap (λ es. lane_no 0 es (length es)) ends in omega arith;
    fits = ok.fits;
    apart_from = λ m among. by_case m (member_came (without lanes.list x) x t m (ap (λ xs. is_member xs m) (sym came) ∙ among));
    settled_room =
        let before = ok.settled_room in
        let most = length-insert_before_most (without lanes.list x) x t in
        let less = length-without_member lanes.list x is in
        let len = ap (λ (xs : List ℕ). length xs) came in
        omega arith;
    lanes_room = let before = ok.lanes_room in omega arith;
  } where
    by_case : (m : ℕ) → (x ≡ m) ⊎ (is_member (without lanes.list x) m ≡ true) → is_member settled m ≡ false
    by_case m (inl it) = ok.apart_from m (ap (is_member lanes.list) (sym it) ∙ is)
    by_case m (inr other) = ok.apart_from m (member_was lanes.list x m other)

  pub lane_appended : (n : ℕ) (e : Bool) (new : Standing) → 0 < room → is_member (settled ++ lanes.list) n ≡ false → new.list ≡ lanes.list ++ n ∷ [] → new.room + 1 ≡ lanes.room → new.ends ≡ lanes.ends ++ e ∷ []
      → IsAgenda settled capacity lens lens_capacity open_count new (room - 1)
  lane_appended n e new some absent came same ends = record {
    apart_from = λ m is. by_case m (cases_eq m n) is;
    settled_room = let before = ok.settled_room in let len = ap (λ (xs : List ℕ). length xs) came in let one = length-append lanes.list (n ∷ []) in omega arith;
    lanes_room = let before = ok.lanes_room in omega arith;
    lens_room = let before = ok.lens_room in let closings = ap (λ es. lane_no 0 es (length es)) ends ∙ slots_push lanes.ends e in let most = at_most e (lane_no 0 lanes.ends (length lanes.ends)) in omega arith;
    fits = ok.fits;
  } where
    at_most : (e : Bool) (k : ℕ) → (if e then suc k else k) ≤ k + 1
    at_most true k = omega arith
    at_most false k = omega arith

    by_case : (m : ℕ) → (m ≡ n) ⊎ (m ≡ n → ⊥) → is_member new.list m ≡ true → is_member settled m ≡ false
    by_case m (inl it) is = ap (is_member settled) it ∙ (outside settled lanes.list n absent).0
    by_case m (inr other) is = ok.apart_from m (sym (member_not_last lanes.list n m other) ∙ ap (λ xs. is_member xs m) (sym came) ∙ is)

  pub all_settled : (new : Standing) (now : List ℕ) (now_capacity : ℕ) (now_lens : List ℕ) (now_lens_capacity now_open : ℕ) → length lanes.ends ≡ length (rows_of lanes.runs) → lanes.list ≡ members_of (rows_of lanes.runs)
      → now ≡ settled ++ lanes.list → capacity ≤ now_capacity → now_lens ≡ lens ++ closed open_count lanes.ends (rows_of lanes.runs) → now_lens_capacity ≡ lens_capacity
      → now_open ≡ start_no open_count lanes.ends (rows_of lanes.runs) (length lanes.ends) → new.list ≡ [] → new.ends ≡ [] → new.room ≡ lanes.room → IsAgenda now now_capacity now_lens now_lens_capacity now_open new room
  all_settled new now now_capacity now_lens now_lens_capacity now_open many listed now_is more lens_are lens_same opened no_list no_ends same = record {
    apart_from = λ m is. absurd (let no = ap (λ xs. is_member xs m) (sym no_list) ∙ is in cc);
    settled_room = let before = ok.settled_room in let len = ap (λ (xs : List ℕ). length xs) now_is in let parts = length-append settled lanes.list in let none = ap (λ (xs : List ℕ). length xs) no_list in omega arith;
    lanes_room = let before = ok.lanes_room in omega arith;
    lens_room =
        let before = ok.lens_room in
        let len = ap (λ (xs : List ℕ). length xs) lens_are in
        let parts = length-append lens (closed open_count lanes.ends (rows_of lanes.runs)) in
        let closings = length-closed open_count 0 lanes.ends (rows_of lanes.runs) many in
        let none = ap (λ es. lane_no 0 es (length es)) no_ends in
        omega arith;
    fits =
        let before = ok.fits in
        let sums = ap total lens_are ∙ total-append lens (closed open_count lanes.ends (rows_of lanes.runs)) in
        let whole = total-closed open_count lanes.ends (rows_of lanes.runs) many in
        let len = ap (λ (xs : List ℕ). length xs) now_is in
        let parts = length-append settled lanes.list in
        let list = ap (λ (xs : List ℕ). length xs) listed in
        omega arith;
  }

  pub list_lane_left : (n : ℕ) (new : Standing) → is_member lanes.list n ≡ true → new.list ≡ without lanes.list n → settled ++ new.list ≡ without (settled ++ lanes.list) n
  list_lane_left n new is left = ap (λ xs. settled ++ xs) left ∙ sym (without_right settled lanes.list n (ok.apart_from n is))

  pub list_lane_moved : (x t : ℕ) (new : Standing) → is_member lanes.list x ≡ true → is_member lanes.list t ≡ true → new.list ≡ insert_before x t (without lanes.list x)
      → settled ++ new.list ≡ insert_before x t (without (settled ++ lanes.list) x)
  list_lane_moved x t new is is_target came =
      ap (λ xs. settled ++ xs) came ∙ sym (insert_before_right settled (without lanes.list x) x t (ok.apart_from t is_target)) ∙ ap (insert_before x t) (sym (without_right settled lanes.list x (ok.apart_from x is)))

pub list_settled_left : (settled list new : List ℕ) (n : ℕ) → is_member list n ≡ false → new ≡ without settled n → new ++ list ≡ without (settled ++ list) n
list_settled_left settled list new n none left = ap (λ xs. xs ++ list) left ∙ sym (without_left settled list n none)

-- ---- which of two members stands before the other

settled_member : (settled list : List ℕ) (n : ℕ) → is_member (settled ++ list) n ≡ true → is_member list n ≡ false → is_member settled n ≡ true
settled_member settled list n is none = sym (member_not_right settled list n none) ∙ is

module _ (settled : List ℕ) (capacity : ℕ) (lens : List ℕ) (lens_capacity open_count : ℕ) (lanes : Standing) (room : ℕ) (ok : IsAgenda settled capacity lens lens_capacity open_count lanes room) (a b : ℕ) where
  pub both_in_lanes : (x y : Seat) → SitsAt lanes a x → SitsAt lanes b y → (r : Bool) → (IsTrue r ↔ Before x y) → IsTrue r ↔ (place_of (settled ++ lanes.list) a < place_of (settled ++ lanes.list) b)
  both_in_lanes x y sits_a sits_b r answer = (there, back) where
    place_a : place_of (settled ++ lanes.list) a ≡ length settled + place_of lanes.list a
    place_a = place_of_right settled lanes.list a (ok.apart_from a sits_a.member)

    place_b : place_of (settled ++ lanes.list) b ≡ length settled + place_of lanes.list b
    place_b = place_of_right settled lanes.list b (ok.apart_from b sits_b.member)

    there : IsTrue r → place_of (settled ++ lanes.list) a < place_of (settled ++ lanes.list) b
    there is = let lt = (before_is lanes a b x y sits_a sits_b r answer).0 is in let u = place_a in let w = place_b in omega arith

    back : place_of (settled ++ lanes.list) a < place_of (settled ++ lanes.list) b → IsTrue r
    back lt = (before_is lanes a b x y sits_a sits_b r answer).1 (let u = place_a in let w = place_b in omega arith)

  pub first_in_lanes : is_member lanes.list a ≡ true → is_member (settled ++ lanes.list) b ≡ true → is_member lanes.list b ≡ false → place_of (settled ++ lanes.list) b < place_of (settled ++ lanes.list) a
  first_in_lanes is_a is_b none =
      let there = settled_member settled lanes.list b is_b none in
      let within = place_of_within settled b there in
      let left = place_of_left settled lanes.list b there in
      let right = place_of_right settled lanes.list a (ok.apart_from a is_a) in
      omega arith

pub both_settled : (settled list : List ℕ) (a b : ℕ) → is_member (settled ++ list) a ≡ true → is_member (settled ++ list) b ≡ true → is_member list a ≡ false → is_member list b ≡ false
    → (place_of (settled ++ list) a ≡ place_of settled a) × (place_of (settled ++ list) b ≡ place_of settled b)
both_settled settled list a b is_a is_b none_a none_b =
    (place_of_left settled list a (settled_member settled list a is_a none_a), place_of_left settled list b (settled_member settled list b is_b none_b))

-- ---- the lanes

module _ (settled lens : List ℕ) (old new : Standing) where
  pub lanes_left : (n : ℕ) → is_member settled n ≡ false → rows_of new.runs ≡ lanes_without (rows_of old.runs) n → new.ends ≡ old.ends
      → cut settled lens (lanes_from new.ends (rows_of new.runs)) ≡ lanes_without (cut settled lens (lanes_from old.ends (rows_of old.runs))) n
  lanes_left n none rows ends =
      ap (λ es. cut settled lens (lanes_from es (rows_of new.runs))) ends ∙ ap (λ rs. cut settled lens (lanes_from old.ends rs)) rows
      ∙ ap (cut settled lens) (from-without old.ends (rows_of old.runs) n) ∙ cut-without_right settled lens (lanes_from old.ends (rows_of old.runs)) n none

  pub lanes_moved : (x t : ℕ) → is_member settled x ≡ false → is_member settled t ≡ false → length old.ends ≡ length (rows_of old.runs) → rows_of new.runs ≡ lanes_insert x t (lanes_without (rows_of old.runs) x) → new.ends ≡ old.ends
      → cut settled lens (lanes_from new.ends (rows_of new.runs)) ≡ lanes_insert x t (lanes_without (cut settled lens (lanes_from old.ends (rows_of old.runs))) x)
  lanes_moved x t none_x none_t many rows ends =
      ap (λ es. cut settled lens (lanes_from es (rows_of new.runs))) ends ∙ ap (λ rs. cut settled lens (lanes_from old.ends rs)) rows
      ∙ ap (cut settled lens) (from-insert old.ends (lanes_without (rows_of old.runs) x) x t (many ∙ sym (as_many (rows_of old.runs))))
      ∙ cut-insert_right settled lens (lanes_from old.ends (lanes_without (rows_of old.runs) x)) x t none_t (has_lane-from old.ends (lanes_without (rows_of old.runs) x))
      ∙ ap (λ ls. lanes_insert x t (cut settled lens ls)) (from-without old.ends (rows_of old.runs) x) ∙ ap (lanes_insert x t) (cut-without_right settled lens (lanes_from old.ends (rows_of old.runs)) x none_x) where
        as_many : (rows : List (List ℕ)) → length (lanes_without rows x) ≡ length rows
        as_many [] = refl
        as_many (row ∷ rows) = ap suc (as_many rows)

  pub lanes_short : (n : ℕ) → length old.ends ≡ length (rows_of old.runs) → rows_of new.runs ≡ rows_of old.runs ++ (n ∷ []) ∷ [] → new.ends ≡ old.ends ++ false ∷ []
      → cut settled lens (lanes_from new.ends (rows_of new.runs)) ≡ at_end (cut settled lens (lanes_from old.ends (rows_of old.runs))) n
  lanes_short n many rows ends =
      ap (λ es. cut settled lens (lanes_from es (rows_of new.runs))) ends ∙ ap (λ rs. cut settled lens (lanes_from (old.ends ++ false ∷ []) rs)) rows
      ∙ ap (cut settled lens) (short_appended old.ends (rows_of old.runs) n many) ∙ cut-at_end settled lens (lanes_from old.ends (rows_of old.runs)) n (has_lane-from old.ends (rows_of old.runs))

  pub lanes_slot : (n : ℕ) → length old.ends ≡ length (rows_of old.runs) → rows_of new.runs ≡ rows_of old.runs ++ (n ∷ []) ∷ [] → new.ends ≡ old.ends ++ true ∷ []
      → cut settled lens (lanes_from new.ends (rows_of new.runs)) ≡ at_end (cut settled lens (lanes_from old.ends (rows_of old.runs))) n ++ [] ∷ []
  lanes_slot n many rows ends =
      ap (λ es. cut settled lens (lanes_from es (rows_of new.runs))) ends ∙ ap (λ rs. cut settled lens (lanes_from (old.ends ++ true ∷ []) rs)) rows
      ∙ ap (cut settled lens) (slot_appended old.ends (rows_of old.runs) n many) ∙ cut-open settled lens (at_end (lanes_from old.ends (rows_of old.runs)) n) (some_lane (lanes_from old.ends (rows_of old.runs)) n)
      ∙ ap (λ ls. ls ++ [] ∷ []) (cut-at_end settled lens (lanes_from old.ends (rows_of old.runs)) n (has_lane-from old.ends (rows_of old.runs))) where
        some_lane : (lanes : List (List ℕ)) (m : ℕ) → 0 < length (at_end lanes m)
        some_lane [] m = omega arith
        some_lane (lane ∷ []) m = omega arith
        some_lane (lane ∷ (next ∷ lanes)) m = omega arith

  pub lanes_settled : (open_count : ℕ) (now now_lens : List ℕ) → total lens + open_count ≡ length settled → length old.ends ≡ length (rows_of old.runs) → old.list ≡ members_of (rows_of old.runs)
      → now ≡ settled ++ old.list → now_lens ≡ lens ++ closed open_count old.ends (rows_of old.runs) → new.runs ≡ [] → new.ends ≡ []
      → cut now now_lens (lanes_from new.ends (rows_of new.runs)) ≡ cut settled lens (lanes_from old.ends (rows_of old.runs))
  lanes_settled open_count now now_lens fits many listed now_is lens_are no_runs no_ends =
      ap (λ rs. cut now now_lens (lanes_from new.ends (rows_of rs))) no_runs ∙ ap (λ es. cut now now_lens (lanes_from es [])) no_ends
      ∙ ap (λ xs. cut xs now_lens ([] ∷ [])) (now_is ∙ ap (λ ys. settled ++ ys) listed) ∙ ap (λ ks. cut (settled ++ members_of (rows_of old.runs)) ks ([] ∷ [])) lens_are
      ∙ sym (settled_all settled lens open_count old.ends (rows_of old.runs) many fits)

-- once a number has come before one of the settled
pub moved_in : (xs : List ℕ) (capacity : ℕ) (ks : List ℕ) (ks_capacity op : ℕ) (lanes : Standing) (room : ℕ) → IsAgenda xs capacity ks ks_capacity op lanes room → (y t : ℕ) → is_member xs t ≡ true → lanes.list ≡ []
    → (new : List ℕ) (new_capacity : ℕ) (new_ks : List ℕ) (new_op : ℕ) → new ≡ insert_before y t xs → length xs + 1 + room ≤ new_capacity → new_ks ≡ longer ks (place_of xs t) → total new_ks + new_op ≡ length xs + 1
    → IsAgenda new new_capacity new_ks ks_capacity new_op lanes room
moved_in xs capacity ks ks_capacity op lanes room ok y t is none new new_capacity new_ks new_op came fits lens sums = record {
  apart_from = λ m among. absurd (let no = ap (λ zs. is_member zs m) (sym none) ∙ among in cc);
  settled_room = let len = ap (λ (zs : List ℕ). length zs) came in let one = length-insert_before_member xs y t is in let empty = ap (λ (zs : List ℕ). length zs) none in omega arith;
  lanes_room = ok.lanes_room;
  lens_room = let before = ok.lens_room in let many = ap (λ (zs : List ℕ). length zs) lens in let alike = length-longer ks (place_of xs t) in omega arith;
  fits = let len = ap (λ (zs : List ℕ). length zs) came in let one = length-insert_before_member xs y t is in omega arith;
}

pub no_longer_behind : (lanes : Standing) (n : ℕ) → lanes.ends ≡ [] → is_member (members_of (lanes_from lanes.ends (rows_of lanes.runs))) n ≡ false
no_longer_behind lanes n none = ap (λ es. is_member (members_of (lanes_from es (rows_of lanes.runs))) n) none
