-- Where members lie in lanes.
use Rattle.std.proofs.Common.{◌≡◌, ◌↔◌, ℕ, zero, suc, ◌+◌, ◌-◌, ◌<◌, ◌≤◌, Bool, true, false, List, [], ◌∷◌, ◌++◌, length, length-append, take, drop, get_or, refl, sym, ap, subst, ◌∙◌, ◌⊎◌, inl, inr, Option, Some, arith}
use Rattle.std.proofs.lemmas.Bool.{cases_eq, cases_lt}
use Rattle.std.proofs.lemmas.Bool.Decides.{nat_tests}
use Rattle.std.proofs.lemmas.List.{get_or_append_left, get_or-append-add}
use Rattle.ltx_model.specs.Listings.{is_member, place_of}
use Rattle.ltx_agenda.specs.declared.mark.Mark.{Mark}
use Rattle.ltx_agenda.specs.declared.seats.Seat.{Seat}
use Rattle.ltx_agenda.specs.declared.spot.Spot.{Spot}
use Rattle.ltx_agenda.specs.Runs.{Held, at, members_of, rows_of, whole_place}
use Rattle.ltx_agenda.specs.Lanes.{onto, cut, total, lanes_from, lane_no, start_no}
use Rattle.ltx_agenda.specs.Marks.{ends_of}
use Rattle.ltx_agenda.specs.Placed.{Standing, Listed, IsPlaced, LiesAt, IsSpot, IsEarlier, IsAgenda}
use Rattle.ltx_agenda.proofs.Joined.{place_of_within, place_of_left, place_of_right, member_left, member_right}
use Rattle.ltx_agenda.proofs.Singles.{place_of_member}
use Rattle.ltx_agenda.proofs.Walks.{total_done}
use Rattle.ltx_agenda.proofs.Rows.{at_within}
use Rattle.ltx_agenda.proofs.InLanes.{lies, lies_behind, lies_closed, onto_nothing, has_lane-from, lane_bound, HasLane, length_drop, length_take, take_then_drop}
use Rattle.ltx_agenda.proofs.Listings.{sits, length-rows, run_within, row_is}
use Rattle.ltx_agenda.proofs.Restarts.{length-ends}
use Rattle.ltx_agenda.proofs.Walks.{whole_least}

pub lies_at : (runs : List Held) (room : ℕ) (marks : List Mark) (seat : ℕ → Option Seat) → IsPlaced (rows_of runs) seat → (n : ℕ) (s : Seat) (m : Mark) → 0 < n → seat n ≡ Some s → length marks ≡ length runs
    → m.lane ≡ lane_no 0 (ends_of marks) s.run → m.start ≡ start_no 0 (ends_of marks) (rows_of runs) s.run
    → LiesAt (record { list = members_of (rows_of runs); room = room; runs = runs; ends = ends_of marks }) n (record { lane = m.lane; place = m.start + s.at })
lies_at runs room marks seat placed n s m some is many lane start =
    let sitting = sits runs room (ends_of marks) seat placed n s some is in
    let within = run_within runs seat placed n s some is in
    let ends = length-ends marks in
    let rows = length-rows runs in
    let in_row : s.at < length (get_or (rows_of runs) s.run []) = subst (λ (xs : List ℕ). s.at < length xs) (sym (row_is runs s.run)) within.1 in
    let in_run = within.0 in
    let there = lies [] (ends_of marks) (rows_of runs) s.run s.at (omega arith) (omega arith) in_row in
    let plain = onto_nothing (lanes_from (ends_of marks) (rows_of runs)) (has_lane-from (ends_of marks) (rows_of runs)) in
    let stands : at (lanes_from (ends_of marks) (rows_of runs)) m.lane (m.start + s.at) ≡ n =
    ap (λ l. at (lanes_from (ends_of marks) (rows_of runs)) l (m.start + s.at)) lane ∙ ap (λ i. at (lanes_from (ends_of marks) (rows_of runs)) (lane_no 0 (ends_of marks) s.run) (i + s.at)) start
    ∙ ap (λ ls. at ls (lane_no 0 (ends_of marks) s.run) (start_no 0 (ends_of marks) (rows_of runs) s.run + s.at)) (sym plain) ∙ there.0 ∙ sitting.stands in
    let whole : whole_place (lanes_from (ends_of marks) (rows_of runs)) m.lane (m.start + s.at) ≡ 0 + whole_place (rows_of runs) s.run s.at =
    ap (λ l. whole_place (lanes_from (ends_of marks) (rows_of runs)) l (m.start + s.at)) lane ∙ ap (λ i. whole_place (lanes_from (ends_of marks) (rows_of runs)) (lane_no 0 (ends_of marks) s.run) (i + s.at)) start
    ∙ ap (λ ls. whole_place ls (lane_no 0 (ends_of marks) s.run) (start_no 0 (ends_of marks) (rows_of runs) s.run + s.at)) (sym plain) ∙ there.1 in
    let place = sitting.placed in
    let bound = place_of_within (members_of (rows_of runs)) n sitting.member in
    let least = whole_least (lanes_from (ends_of marks) (rows_of runs)) m.lane (m.start + s.at) in
    let low = lane_bound 0 (ends_of marks) s.run in
    record {
      number = some;
      stands = stands;
      member = sitting.member;
      placed = omega arith;
      within = (at_within (lanes_from (ends_of marks) (rows_of runs)) m.lane (m.start + s.at) (omega arith)).1;
      lane_bound = omega arith;
      place_bound = omega arith;
    }

-- what stands earlier in lanes stands earlier in the whole
pub in_order : (rows : List (List ℕ)) (l p k q : ℕ) → l < k → p < length (get_or rows l []) → whole_place rows l p < whole_place rows k q
in_order [] l p k q before within = absurd (omega arith)
in_order (row ∷ rows) zero p zero q before within = absurd (omega arith)
in_order (row ∷ rows) zero p (suc k) q before within = omega arith
in_order (row ∷ rows) (suc l) p zero q before within = absurd (omega arith)
in_order (row ∷ rows) (suc l) p (suc k) q before within = let rest = in_order rows l p k q (omega arith) within in omega arith

same_lane : (rows : List (List ℕ)) (l p q : ℕ) → p < q → whole_place rows l p < whole_place rows l q
same_lane [] l p q before = before
same_lane (row ∷ rows) zero p q before = before
same_lane (row ∷ rows) (suc l) p q before = let rest = same_lane rows l p q before in omega arith

-- spots order members as the list does
pub spot_order : (v : Listed) (a b : ℕ) (s t : Spot) → IsSpot v a s → IsSpot v b t → IsEarlier s t ↔ (place_of v.list a < place_of v.list b)
spot_order v a b s t is_a is_b = (there, back) where
  earlier : (s t : Spot) → s.place < length (get_or v.lanes s.lane []) → IsEarlier s t → whole_place v.lanes s.lane s.place < whole_place v.lanes t.lane t.place
  earlier s t within (inl before) = in_order v.lanes s.lane s.place t.lane t.place before within
  earlier s t within (inr before) = subst (λ k. whole_place v.lanes s.lane s.place < whole_place v.lanes k t.place) before.0 (same_lane v.lanes s.lane s.place t.place before.1)

  there : IsEarlier s t → place_of v.list a < place_of v.list b
  there before = let e = earlier s t is_a.within before in let u = is_a.placed in let w = is_b.placed in omega arith

  back : place_of v.list a < place_of v.list b → IsEarlier s t
  back lt = by_case (cases_lt s.lane t.lane) (cases_lt t.lane s.lane) (cases_lt s.place t.place) (cases_lt t.place s.place) where
    by_case : (s.lane < t.lane) ⊎ (t.lane ≤ s.lane) → (t.lane < s.lane) ⊎ (s.lane ≤ t.lane) → (s.place < t.place) ⊎ (t.place ≤ s.place) → (t.place < s.place) ⊎ (s.place ≤ t.place) → IsEarlier s t
    by_case (inl before) y z w = inl before
    by_case (inr x) (inl after) z w = absurd (let e = earlier t s is_b.within (inl after) in let u = is_a.placed in let w = is_b.placed in omega arith)
    by_case (inr x) (inr y) (inl before) w = inr (omega arith, before)
    by_case (inr x) (inr y) (inr z) (inl after) = let same : t.lane ≡ s.lane = omega arith in absurd (let e = earlier t s is_b.within (inr (same, after)) in let u = is_a.placed in let w = is_b.placed in omega arith)
    by_case (inr x) (inr y) (inr z) (inr w) =
        let same : s.lane ≡ t.lane = omega arith in
        let alike : s.place ≡ t.place = omega arith in
        let whole = ap (λ l. whole_place v.lanes l s.place) same ∙ ap (whole_place v.lanes t.lane) alike in
        absurd (let u = is_a.placed in let w = is_b.placed in omega arith)

-- ---- lanes behind a list

onto_first : (xs : List ℕ) (lanes : List (List ℕ)) (p : ℕ) → HasLane lanes → (at (onto xs lanes) 0 (length xs + p) ≡ at lanes 0 p) × (whole_place (onto xs lanes) 0 (length xs + p) ≡ length xs + whole_place lanes 0 p)
onto_first xs [] p some = absurd (omega arith)
onto_first xs (lane ∷ lanes) p some = (get_or-append-add xs lane p 0, refl)

onto_later : (xs : List ℕ) (lanes : List (List ℕ)) (l p : ℕ) → 0 < l → HasLane lanes → (at (onto xs lanes) l p ≡ at lanes l p) × (whole_place (onto xs lanes) l p ≡ length xs + whole_place lanes l p)
onto_later xs [] l p later some = absurd (omega arith)
onto_later xs (lane ∷ lanes) zero p later some = absurd (omega arith)
onto_later xs (lane ∷ lanes) (suc l) p later some = (refl, let parts = length-append xs lane in omega arith)

module _ (settled : List ℕ) (capacity : ℕ) (lens : List ℕ) (lens_capacity open_count : ℕ) (lanes : Standing) (room : ℕ) (ok : IsAgenda settled capacity lens lens_capacity open_count lanes room) where
  abbrev pub behind : List (List ℕ)
  behind = lanes_from lanes.ends (rows_of lanes.runs)

  abbrev pub seen : Listed
  seen = record { list = settled ++ lanes.list; room = room; runs = lanes.runs; lanes = cut settled lens behind }

  pub lies_first : (n : ℕ) (s : Spot) → LiesAt lanes n s → s.lane ≡ 0 → IsSpot seen n (record { lane = length lens + s.lane; place = open_count + s.place })
  lies_first n s lying first =
      let fits = ok.fits in
      let rest = length_drop (total lens) settled (omega arith) in
      let opened : length (drop (total lens) settled) ≡ open_count = omega arith in
      let there = lies_behind settled lens behind s.lane (open_count + s.place) (omega arith) in
      let inner = onto_first (drop (total lens) settled) behind s.place (has_lane-from lanes.ends (rows_of lanes.runs)) in
      let at_first : at (onto (drop (total lens) settled) behind) s.lane (open_count + s.place) ≡ at behind s.lane s.place =
      ap (λ l. at (onto (drop (total lens) settled) behind) l (open_count + s.place)) first ∙ ap (λ k. at (onto (drop (total lens) settled) behind) 0 (k + s.place)) (sym opened) ∙ inner.0 ∙ ap (λ l. at behind l s.place) (sym first) in
      let whole_first : whole_place (onto (drop (total lens) settled) behind) s.lane (open_count + s.place) ≡ length (drop (total lens) settled) + whole_place behind s.lane s.place =
      ap (λ l. whole_place (onto (drop (total lens) settled) behind) l (open_count + s.place)) first ∙ ap (λ k. whole_place (onto (drop (total lens) settled) behind) 0 (k + s.place)) (sym opened) ∙ inner.1
      ∙ ap (λ l. length (drop (total lens) settled) + whole_place behind l s.place) (sym first) in
      let stands = there.0 ∙ at_first ∙ lying.stands in
      let number = lying.number in
      let place = place_of_right settled lanes.list n (ok.apart_from n lying.member) in
      let placed = lying.placed in
      let whole = there.1 in
      record {
        stands = stands;
        member = member_right settled lanes.list n lying.member;
        within = (at_within (cut settled lens behind) (length lens + s.lane) (open_count + s.place) (omega arith)).1;
        placed = omega arith;
      }

  pub lies_later : (n : ℕ) (s : Spot) → LiesAt lanes n s → 0 < s.lane → IsSpot seen n (record { lane = length lens + s.lane; place = s.place })
  lies_later n s lying later =
      let fits = ok.fits in
      let rest = length_drop (total lens) settled (omega arith) in
      let there = lies_behind settled lens behind s.lane s.place (omega arith) in
      let inner = onto_later (drop (total lens) settled) behind s.lane s.place later (has_lane-from lanes.ends (rows_of lanes.runs)) in
      let stands = there.0 ∙ inner.0 ∙ lying.stands in
      let number = lying.number in
      let place = place_of_right settled lanes.list n (ok.apart_from n lying.member) in
      let placed = lying.placed in
      let whole = there.1 in
      let deeper = inner.1 in
      record {
        stands = stands;
        member = member_right settled lanes.list n lying.member;
        within = (at_within (cut settled lens behind) (length lens + s.lane) s.place (omega arith)).1;
        placed = omega arith;
      }

  pub lies_first_at : (n : ℕ) (s : Spot) (k : ℕ) → LiesAt lanes n s → s.lane ≡ 0 → k ≡ length lens → IsSpot seen n (record { lane = k + s.lane; place = open_count + s.place })
  lies_first_at n s k lying first same = subst (λ i. IsSpot seen n (record { lane = i + s.lane; place = open_count + s.place })) (sym same) (lies_first n s lying first)

  pub lies_later_at : (n : ℕ) (s : Spot) (k : ℕ) → LiesAt lanes n s → 0 < s.lane → k ≡ length lens → IsSpot seen n (record { lane = k + s.lane; place = s.place })
  lies_later_at n s k lying later same = subst (λ i. IsSpot seen n (record { lane = i + s.lane; place = s.place })) (sym same) (lies_later n s lying later)

  pub lies_settled : (n : ℕ) (s : Spot) → 0 < n → is_member settled n ≡ true → s.lane ≤ length lens → place_of settled n ≡ total (take s.lane lens) + s.place → (s.lane < length lens → s.place < get_or lens s.lane 0) → IsSpot seen n s
  lies_settled n s some is low place within = by_case (cases_lt s.lane (length lens)) where
    fits_are : total lens + open_count ≡ length settled
    fits_are = ok.fits

    done : (at (cut settled lens behind) s.lane s.place ≡ n) × (whole_place (cut settled lens behind) s.lane s.place ≡ place_of settled n) → IsSpot seen n s
    done both =
        let stands = both.0 in
        let whole = both.1 in
        let left = place_of_left settled lanes.list n is in
        record {
          stands = stands;
          member = member_left settled lanes.list n is;
          within = (at_within (cut settled lens behind) s.lane s.place (omega arith)).1;
          placed = omega arith;
        }

    by_case : (s.lane < length lens) ⊎ (length lens ≤ s.lane) → IsSpot seen n s
    by_case (inl below) =
        let fits = fits_are in
        let there = lies_closed settled lens behind s.lane s.place (omega arith) below (within below) in
        done (there.0 ∙ ap (λ i. get_or settled i 0) (sym place) ∙ place_of_member settled n is, there.1 ∙ sym place)
    by_case (inr past) =
        let fits = fits_are in
        let last : s.lane ≡ length lens + 0 = omega arith in
        let all = total_done lens s.lane past in
        let bound = place_of_within settled n is in
        let rest = length_drop (total lens) settled (omega arith) in
        let there = lies_behind settled lens behind 0 s.place (omega arith) in
        let in_rest : s.place < length (drop (total lens) settled) = omega arith in
        let front = length_take (total lens) settled (omega arith) in
        let read : get_or settled (place_of settled n) 0 ≡ get_or (drop (total lens) settled) s.place 0 =
        ap (λ zs. get_or zs (place_of settled n) 0) (sym (take_then_drop (total lens) settled))
        ∙ ap (λ i. get_or (take (total lens) settled ++ drop (total lens) settled) i 0) (let e : place_of settled n ≡ length (take (total lens) settled) + s.place = omega arith in e)
        ∙ get_or-append-add (take (total lens) settled) (drop (total lens) settled) s.place 0 in
        let whole = there.1 in
        let first = first_place (drop (total lens) settled) behind s.place in
        done (
          ap (λ l. at (cut settled lens behind) l s.place) last ∙ there.0 ∙ first_at (drop (total lens) settled) behind s.place in_rest ∙ sym read ∙ place_of_member settled n is,
          ap (λ l. whole_place (cut settled lens behind) l s.place) last ∙ (omega arith),
        )
      where
        first_at : (xs : List ℕ) (ls : List (List ℕ)) (i : ℕ) → i < length xs → at (onto xs ls) 0 i ≡ get_or xs i 0
        first_at xs [] i under = refl
        first_at xs (l ∷ ls) i under = get_or_append_left xs l 0 i under

        first_place : (xs : List ℕ) (ls : List (List ℕ)) (i : ℕ) → whole_place (onto xs ls) 0 i ≡ i
        first_place xs [] i = refl
        first_place xs (l ∷ ls) i = refl

place_of_absent : (xs : List ℕ) (n : ℕ) → is_member xs n ≡ false → place_of xs n ≡ length xs
place_of_absent [] n none = refl
place_of_absent (x ∷ xs) n none = by_case (cases_eq x n) (place_of_absent xs n) where
  by_case : (x ≡ n) ⊎ (x ≡ n → ⊥) → (is_member xs n ≡ false → place_of xs n ≡ length xs) → place_of (x ∷ xs) n ≡ length (x ∷ xs)
  by_case (inl same) rest = absurd (let here : is_member (x ∷ xs) n ≡ true = grind (arith, nat_tests) in let no : true ≡ false = sym here ∙ none in cc)
  by_case (inr differ) rest =
      let among : is_member xs n ≡ false = grind (arith, nat_tests) in
      let same = rest among in
      let on : place_of (x ∷ xs) n ≡ suc (place_of xs n) = grind (arith, nat_tests) in
      omega arith

-- a walk to the end finds no member, and any other one does
pub walked_past : (xs : List ℕ) (n : ℕ) → place_of xs n ≡ length xs → is_member xs n ≡ false
walked_past xs n past = by_case (is_member xs n) refl where
  by_case : (b : Bool) → is_member xs n ≡ b → is_member xs n ≡ false
  by_case false is = is
  by_case true is = absurd (let within = place_of_within xs n is in omega arith)

pub walked_to : (xs : List ℕ) (n : ℕ) → (place_of xs n ≡ length xs → ⊥) → is_member xs n ≡ true
walked_to xs n stopped = by_case (is_member xs n) refl where
  by_case : (b : Bool) → is_member xs n ≡ b → is_member xs n ≡ true
  by_case true is = is
  by_case false is = absurd (stopped (place_of_absent xs n is))

-- ---- how long lanes are

pub closed_length : (xs ks : List ℕ) (ls : List (List ℕ)) (l : ℕ) → total ks ≤ length xs → l < length ks → length (get_or (cut xs ks ls) l []) ≡ get_or ks l 0
closed_length xs [] ls l fits within = absurd (omega arith)
closed_length xs (k ∷ ks) ls zero fits within = length_take k xs (omega arith)
closed_length xs (k ∷ ks) ls (suc l) fits within = let part = length_drop k xs (omega arith) in closed_length (drop k xs) ks ls l (omega arith) (omega arith)

behind_lane : (xs ks : List ℕ) (ls : List (List ℕ)) (j : ℕ) → total ks ≤ length xs → HasLane ls
    → ((j ≡ 0) × (length (get_or (cut xs ks ls) (length ks + j) []) ≡ (length xs - total ks) + length (get_or ls j []))) ⊎ ((0 < j) × (length (get_or (cut xs ks ls) (length ks + j) []) ≡ length (get_or ls j [])))
behind_lane xs [] [] j fits some = absurd (omega arith)
behind_lane xs [] (l ∷ ls) zero fits some = inl (refl, let parts = length-append xs l in omega arith)
behind_lane xs [] (l ∷ ls) (suc j) fits some = inr (omega arith, ap (λ i. length (get_or ((xs ++ l) ∷ ls) i [])) (let e : 0 + suc j ≡ suc j = omega arith in e))
behind_lane xs (k ∷ ks) ls j fits some = by_case (behind_lane (drop k xs) ks ls j (let part = length_drop k xs (omega arith) in omega arith) some) where
  next : length (get_or (cut xs (k ∷ ks) ls) (suc (length ks) + j) []) ≡ length (get_or (cut (drop k xs) ks ls) (length ks + j) [])
  next = ap (λ i. length (get_or (take k xs ∷ cut (drop k xs) ks ls) i [])) (let e : suc (length ks) + j ≡ suc (length ks + j) = omega arith in e)

  by_case : ((j ≡ 0) × (length (get_or (cut (drop k xs) ks ls) (length ks + j) []) ≡ (length (drop k xs) - total ks) + length (get_or ls j []))) ⊎ ((0 < j) × (length (get_or (cut (drop k xs) ks ls) (length ks + j) []) ≡ length (get_or ls j [])))
      → ((j ≡ 0) × (length (get_or (cut xs (k ∷ ks) ls) (suc (length ks) + j) []) ≡ (length xs - (k + total ks)) + length (get_or ls j []))) ⊎ ((0 < j) × (length (get_or (cut xs (k ∷ ks) ls) (suc (length ks) + j) []) ≡ length (get_or ls j [])))
  by_case (inl h) = inl (h.0, let part = length_drop k xs (omega arith) in let n = next in let e = h.1 in omega arith)
  by_case (inr h) = inr (h.0, next ∙ h.1)

pub first_length : (xs ks : List ℕ) (ls : List (List ℕ)) (lane : ℕ) → total ks ≤ length xs → HasLane ls → lane ≡ length ks → length (get_or (cut xs ks ls) lane []) ≡ (length xs - total ks) + length (get_or ls (lane - length ks) [])
first_length xs ks ls lane fits some is = by_case (behind_lane xs ks ls (lane - length ks) fits some) where
  by_case : ((lane - length ks ≡ 0) × (length (get_or (cut xs ks ls) (length ks + (lane - length ks)) []) ≡ (length xs - total ks) + length (get_or ls (lane - length ks) []))) ⊎ ((0 < lane - length ks) × (length (get_or (cut xs ks ls) (length ks + (lane - length ks)) []) ≡ length (get_or ls (lane - length ks) [])))
      → length (get_or (cut xs ks ls) lane []) ≡ (length xs - total ks) + length (get_or ls (lane - length ks) [])
  by_case (inl h) = ap (λ i. length (get_or (cut xs ks ls) i [])) (let e : lane ≡ length ks + (lane - length ks) = omega arith in e) ∙ h.1
  by_case (inr h) = absurd (let no = h.0 in omega arith)

pub later_length : (xs ks : List ℕ) (ls : List (List ℕ)) (lane : ℕ) → total ks ≤ length xs → HasLane ls → length ks < lane → length (get_or (cut xs ks ls) lane []) ≡ length (get_or ls (lane - length ks) [])
later_length xs ks ls lane fits some is = by_case (behind_lane xs ks ls (lane - length ks) fits some) where
  by_case : ((lane - length ks ≡ 0) × (length (get_or (cut xs ks ls) (length ks + (lane - length ks)) []) ≡ (length xs - total ks) + length (get_or ls (lane - length ks) []))) ⊎ ((0 < lane - length ks) × (length (get_or (cut xs ks ls) (length ks + (lane - length ks)) []) ≡ length (get_or ls (lane - length ks) [])))
      → length (get_or (cut xs ks ls) lane []) ≡ length (get_or ls (lane - length ks) [])
  by_case (inl h) = absurd (let no = h.0 in omega arith)
  by_case (inr h) = ap (λ i. length (get_or (cut xs ks ls) i [])) (let e : lane ≡ length ks + (lane - length ks) = omega arith in e) ∙ h.1
