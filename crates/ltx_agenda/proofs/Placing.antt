-- What a change of one run and of the seats of its members leaves.
use Rattle.std.proofs.Common.{◌≡◌, ◌≢◌, ℕ, zero, suc, ◌+◌, ◌<◌, ◌≤◌, Bool, true, false, List, [], ◌∷◌, ◌++◌, Option, Some, None, IsSome, length, get_or, set, refl, sym, ap, subst, ◌∙◌, ◌⊎◌, inl, inr, arith}
use Rattle.std.specs.List.{insert, remove}
use Rattle.std.specs.Option.{is_some}
use Rattle.std.proofs.lemmas.Bool.{cases_eq, cases_lt}
use Rattle.std.proofs.lemmas.Bool.Decides.{nat_tests}
use Rattle.std.proofs.lemmas.List.{get_or_past}
use Rattle.std.proofs.lemmas.List.Edits.{get_or-remove_below, get_or-remove_above, get_or-insert_below, get_or-insert_at, get_or-insert_above}
use Rattle.std.proofs.lemmas.Option.{same_Some, none-some}
use Rattle.ltx_agenda.specs.declared.seats.Seat.{Seat}
use Rattle.ltx_model.specs.Listings.{is_member, without, insert_before, place_of}
use Rattle.ltx_agenda.specs.Runs.{at, members_of, whole_place}
use Rattle.ltx_agenda.specs.Placed.{IsPlaced, IsReseated, apart, seat_at}
use Rattle.ltx_agenda.proofs.Singles.{StandsOnly, StandsNowhere, member_at, place_of_member, without_only, insert_before_only, remove_at, insert_at}
use Rattle.ltx_agenda.proofs.Rows.{home, at_row, at_within, at_whole, at-set_same, at-set_other, at-push, earlier_row, earlier_place, members-remove, members-insert}

pub same_seat : (l p k q : ℕ) → Some (seat_at l p) ≡ Some (seat_at k q) → (l ≡ k) × (p ≡ q)
same_seat l p k q e = let same = same_Some (seat_at l p) (seat_at k q) e in (ap (λ (s : Seat). s.run) same, ap (λ (s : Seat). s.at) same)

-- a member stands once
pub one_place : (rows : List (List ℕ)) (seat : ℕ → Option Seat) → IsPlaced rows seat → (l p k q : ℕ) → 0 < at rows l p → at rows l p ≡ at rows k q → (l ≡ k) × (p ≡ q)
one_place rows seat placed l p k q some same =
    let other : 0 < at rows k q = omega arith in
    same_seat l p k q (sym (placed.found l p some) ∙ ap seat same ∙ placed.found k q other)

pub only_there : (rows : List (List ℕ)) (seat : ℕ → Option Seat) → IsPlaced rows seat → (n l p : ℕ) → 0 < n → at rows l p ≡ n → StandsOnly (members_of rows) n (whole_place rows l p)
only_there rows seat placed n l p some is j stands =
    let there = home rows j (omega arith) in
    let member : at rows there.row there.place ≡ get_or (members_of rows) j 0 = there.member in
    let one = one_place rows seat placed l p there.row there.place (omega arith) (omega arith) in
    sym there.whole ∙ sym (ap (λ k. whole_place rows k there.place) one.0) ∙ sym (ap (λ k. whole_place rows l k) one.1)

pub whole_is : (rows : List (List ℕ)) (n l p : ℕ) → 0 < n → at rows l p ≡ n → get_or (members_of rows) (whole_place rows l p) 0 ≡ n
whole_is rows n l p some is = at_whole rows l p (omega arith) ∙ is

-- who has a seat is a member, and the other way round
pub seated_member : (rows : List (List ℕ)) (seat : ℕ → Option Seat) → IsPlaced rows seat → (n : ℕ) (s : Seat) → 0 < n → seat n ≡ Some s → is_member (members_of rows) n ≡ true
seated_member rows seat placed n s some is = member_at (members_of rows) n _ some (whole_is rows n s.run s.at some (placed.told n s is))

pub member_seated : (rows : List (List ℕ)) (seat : ℕ → Option Seat) → IsPlaced rows seat → (n : ℕ) → 0 < n → is_member (members_of rows) n ≡ true → (s : Seat) × (seat n ≡ Some s)
member_seated rows seat placed n some is =
    let stands = place_of_member (members_of rows) n is in
    let there = home rows (place_of (members_of rows) n) (omega arith) in
    let member : at rows there.row there.place ≡ n = there.member ∙ stands in
    (seat_at there.row there.place, sym (ap seat member) ∙ placed.found there.row there.place (omega arith))

pub is_some_member : (rows : List (List ℕ)) (seat : ℕ → Option Seat) → IsPlaced rows seat → (n : ℕ) → 0 < n → is_some (seat n) ≡ is_member (members_of rows) n
is_some_member rows seat placed n some = by_case (seat n) refl (is_member (members_of rows) n) refl where
  by_case : (o : Option Seat) → seat n ≡ o → (b : Bool) → is_member (members_of rows) n ≡ b → is_some (seat n) ≡ is_member (members_of rows) n
  by_case (Some s) is b member = ap is_some is ∙ sym (seated_member rows seat placed n s some is)
  by_case None is true member = absurd (let there = member_seated rows seat placed n some member in none-some there.0 (sym is ∙ there.1))
  by_case None is false member = ap is_some is ∙ sym member

-- where two members stand
pub earlier : (rows : List (List ℕ)) (l p k q : ℕ) → 0 < at rows l p → 0 < at rows k q → (l < k) ⊎ ((l ≡ k) × (p < q)) → whole_place rows l p < whole_place rows k q
earlier rows l p k q some other (inl before) = earlier_row rows l p k q before some other
earlier rows l p k q some other (inr before) = subst (λ k. whole_place rows l p < whole_place rows k q) before.0 (earlier_place rows l p q before.1)

-- ---- one run changes

pub changed : (rows : List (List ℕ)) (old new : ℕ → Option Seat) (l : ℕ) (ys : List ℕ) → IsPlaced rows old → l < length rows
    → ((k : ℕ) → 0 < get_or ys k 0 → new (get_or ys k 0) ≡ Some (seat_at l k))
    → ((n : ℕ) (s : Seat) → StandsNowhere ys n → new n ≡ Some s → (old n ≡ Some s) × (s.run ≢ l))
    → ((k p : ℕ) → k ≢ l → 0 < at rows k p → new (at rows k p) ≡ Some (seat_at k p))
    → new 0 ≡ None
    → IsPlaced (set rows l ys) new
changed rows old new l ys placed within here there elsewhere nobody = record { told = told; found = found; nobody = nobody } where
  told : (n : ℕ) (s : Seat) → new n ≡ Some s → at (set rows l ys) s.run s.at ≡ n
  told n s is = by_member (is_member ys n) refl (cases_eq n 0) where
    by_member : (b : Bool) → is_member ys n ≡ b → (n ≡ 0) ⊎ (n ≡ 0 → ⊥) → at (set rows l ys) s.run s.at ≡ n
    by_member b member (inl zero_is) = absurd (none-some s (sym nobody ∙ sym (ap new zero_is) ∙ is))
    by_member true member (inr some) =
        let stands : get_or ys (place_of ys n) 0 ≡ n = place_of_member ys n member in
        let seated : new n ≡ Some (seat_at l (place_of ys n)) = sym (ap new stands) ∙ here (place_of ys n) (omega arith) in
        let same = same_Some s (seat_at l (place_of ys n)) (sym is ∙ seated) in
        ap (λ (t : Seat). at (set rows l ys) t.run t.at) same ∙ at-set_same rows l (place_of ys n) ys within ∙ stands
    by_member false member (inr some) =
        let nowhere : StandsNowhere ys n = λ j stands. absurd (let yes = member_at ys n j (omega arith) stands in cc) in
        let before = there n s nowhere is in
        at-set_other rows l s.run s.at ys before.1 ∙ placed.told n s before.0

  found : (k p : ℕ) → 0 < at (set rows l ys) k p → new (at (set rows l ys) k p) ≡ Some (seat_at k p)
  found k p some = by_run (cases_eq k l) where
    by_run : (k ≡ l) ⊎ (k ≡ l → ⊥) → new (at (set rows l ys) k p) ≡ Some (seat_at k p)
    by_run (inl same) =
        let is : at (set rows l ys) k p ≡ get_or ys p 0 = ap (λ k. at (set rows l ys) k p) same ∙ at-set_same rows l p ys within in
        ap new is ∙ here p (omega arith) ∙ ap (λ k. Some (seat_at k p)) (sym same)
    by_run (inr differ) =
        let is = at-set_other rows l k p ys differ in
        ap new is ∙ elsewhere k p differ (omega arith)

-- the row of a seat
abbrev pub row_at : List (List ℕ) → ℕ → List ℕ
row_at rows l = get_or rows l []

-- what stands at a place of a row stands there in the whole
in_row : (rows : List (List ℕ)) (l k n : ℕ) → get_or (row_at rows l) k 0 ≡ n → at rows l k ≡ n
in_row rows l k n is = at_row rows l k ∙ is

-- ---- a member leaves

-- what is left of the run, place by place
left_at : (rows : List (List ℕ)) (l p k : ℕ) → 0 < at rows l p → ((k < p) × (get_or (remove (row_at rows l) p) k 0 ≡ at rows l k)) ⊎ ((p ≤ k) × (get_or (remove (row_at rows l) p) k 0 ≡ at rows l (suc k)))
left_at rows l p k some = by_case (remove_at (row_at rows l) p k (at_within rows l p some).1) where
  by_case : ((k < p) × (get_or (remove (row_at rows l) p) k 0 ≡ get_or (row_at rows l) k 0)) ⊎ ((p ≤ k) × (get_or (remove (row_at rows l) p) k 0 ≡ get_or (row_at rows l) (suc k) 0)) → ((k < p) × (get_or (remove (row_at rows l) p) k 0 ≡ at rows l k)) ⊎ ((p ≤ k) × (get_or (remove (row_at rows l) p) k 0 ≡ at rows l (suc k)))
  by_case (inl h) = inl (h.0, h.1 ∙ sym (at_row rows l k))
  by_case (inr h) = inr (h.0, h.1 ∙ sym (at_row rows l (suc k)))

module _ (rows : List (List ℕ)) (old : ℕ → Option Seat) (placed : IsPlaced rows old) (n : ℕ) (some : 0 < n) (s : Seat) (is : old n ≡ Some s) where
  there_is : at rows s.run s.at ≡ n
  there_is = placed.told n s is

  some_there : 0 < at rows s.run s.at
  some_there = let e = there_is in omega arith

  -- what is left was there, and is another member
  pub left_was : (k : ℕ) → 0 < get_or (remove (row_at rows s.run) s.at) k 0 → (j : ℕ) × (at rows s.run j ≡ get_or (remove (row_at rows s.run) s.at) k 0) × (j ≢ s.at) × (((k < s.at) × (j ≡ k)) ⊎ ((s.at ≤ k) × (j ≡ suc k)))
  left_was k left = by_case (left_at rows s.run s.at k some_there) where
    by_case : ((k < s.at) × (get_or (remove (row_at rows s.run) s.at) k 0 ≡ at rows s.run k)) ⊎ ((s.at ≤ k) × (get_or (remove (row_at rows s.run) s.at) k 0 ≡ at rows s.run (suc k))) → (j : ℕ) × (at rows s.run j ≡ get_or (remove (row_at rows s.run) s.at) k 0) × (j ≢ s.at) × (((k < s.at) × (j ≡ k)) ⊎ ((s.at ≤ k) × (j ≡ suc k)))
    by_case (inl h) = let below = h.0 in (k, sym h.1, (λ e. omega arith), inl (h.0, refl))
    by_case (inr h) = let below = h.0 in (suc k, sym h.1, (λ e. omega arith), inr (h.0, refl))

  pub left_apart : (k : ℕ) → 0 < get_or (remove (row_at rows s.run) s.at) k 0 → get_or (remove (row_at rows s.run) s.at) k 0 ≢ n
  left_apart k left same =
      let was = left_was k left in
      let stands : at rows s.run was.0 ≡ n = was.1 ∙ same in
      was.2 ((one_place rows old placed s.run was.0 s.run s.at (omega arith) (stands ∙ sym there_is)).1)

  pub left_once : (j k : ℕ) → 0 < get_or (remove (row_at rows s.run) s.at) j 0 → get_or (remove (row_at rows s.run) s.at) j 0 ≡ get_or (remove (row_at rows s.run) s.at) k 0 → j ≡ k
  left_once j k left same =
      let was = left_was j left in
      let other = left_was k (omega arith) in
      let some_was : 0 < at rows s.run was.0 = let e = was.1 in omega arith in
      let one = (one_place rows old placed s.run was.0 s.run other.0 some_was (was.1 ∙ same ∙ sym other.1)).1 in
      by_case one was.3 other.3
    where
      by_case : {a b : ℕ} → a ≡ b → ((j < s.at) × (a ≡ j)) ⊎ ((s.at ≤ j) × (a ≡ suc j)) → ((k < s.at) × (b ≡ k)) ⊎ ((s.at ≤ k) × (b ≡ suc k)) → j ≡ k
      by_case e (inl h) (inl g) = let u = h.1 in let v = g.1 in omega arith
      by_case e (inl h) (inr g) = let u = h.1 in let v = g.1 in let w = h.0 in let x = g.0 in omega arith
      by_case e (inr h) (inl g) = let u = h.1 in let v = g.1 in let w = h.0 in let x = g.0 in omega arith
      by_case e (inr h) (inr g) = let u = h.1 in let v = g.1 in omega arith

  pub left_seated : (k : ℕ) → 0 < get_or (remove (row_at rows s.run) s.at) k 0 → IsSome (old (get_or (remove (row_at rows s.run) s.at) k 0))
  left_seated k left =
      let was = left_was k left in
      let some_was : 0 < at rows s.run was.0 = let e = was.1 in omega arith in
      subst IsSome (sym (sym (ap old was.1) ∙ placed.found s.run was.0 some_was)) refl

  -- who stood in the run and is not left is the one that left
  gone : (m j : ℕ) → 0 < m → at rows s.run j ≡ m → StandsNowhere (remove (row_at rows s.run) s.at) m → j ≡ s.at
  gone m j some_m stands nowhere = by_case (cases_lt j s.at) (cases_eq j s.at) where
    by_case : (j < s.at) ⊎ (s.at ≤ j) → (j ≡ s.at) ⊎ (j ≡ s.at → ⊥) → j ≡ s.at
    by_case side (inl same) = same
    by_case (inl below) (inr differ) = absurd (nowhere j (get_or-remove_below (row_at rows s.run) s.at 0 j below (at_within rows s.run s.at some_there).1 ∙ sym (at_row rows s.run j) ∙ stands))
    by_case (inr above) (inr differ) = absurd (by_suc j refl above differ) where
      by_suc : (i : ℕ) → j ≡ i → s.at ≤ i → (j ≡ s.at → ⊥) → ⊥
      by_suc zero e le ne = ne (omega arith)
      by_suc (suc i) e le ne =
          let past : s.at ≤ i = let differ : j ≢ s.at = ne in omega arith in
          let there = get_or-remove_above (row_at rows s.run) s.at 0 i past (at_within rows s.run s.at some_there).1 in
          let same : i + 1 ≡ j = omega arith in
          nowhere i (there ∙ ap (λ i. get_or (row_at rows s.run) i 0) same ∙ sym (at_row rows s.run j) ∙ stands)

  module _ (new : ℕ → Option Seat) (anew : IsReseated (remove (row_at rows s.run) s.at) s.run s.at (length (remove (row_at rows s.run) s.at)) old new) where
    -- who stands in another run, or before the place, keeps the seat
    kept : (m l k : ℕ) → 0 < m → at rows l k ≡ m → (l ≢ s.run) ⊎ (k ≤ s.at) → new m ≡ old m
    kept m l k some_m stands where_is = anew.others m (λ j from within same.
        let left : 0 < get_or (remove (row_at rows s.run) s.at) j 0 = omega arith in
        let was = left_was j left in
        let one = one_place rows old placed l k s.run was.0 (omega arith) (stands ∙ sym same ∙ sym was.1) in
        clash j from one.0 one.1 was.3 where_is)
      where
        clash : (j : ℕ) → s.at ≤ j → {i : ℕ} → l ≡ s.run → k ≡ i → ((j < s.at) × (i ≡ j)) ⊎ ((s.at ≤ j) × (i ≡ suc j)) → (l ≢ s.run) ⊎ (k ≤ s.at) → ⊥
        clash j from same_run e side (inl differ) = differ same_run
        clash j from same_run e (inl h) (inr le) = let u = h.0 in omega arith
        clash j from same_run e (inr h) (inr le) = let u = h.1 in omega arith

    pub closed : IsPlaced (set rows s.run (remove (row_at rows s.run) s.at)) (apart n new)
    closed = changed rows old (apart n new) s.run (remove (row_at rows s.run) s.at) placed (at_within rows s.run s.at some_there).0 here there elsewhere nobody where
      not_it : (m : ℕ) → m ≢ n → apart n new m ≡ new m
      not_it m differ = grind (arith, nat_tests)

      here : (k : ℕ) → 0 < get_or (remove (row_at rows s.run) s.at) k 0 → apart n new (get_or (remove (row_at rows s.run) s.at) k 0) ≡ Some (seat_at s.run k)
      here k left = not_it _ (left_apart k left) ∙ by_case (left_was k left) (cases_lt k (length (remove (row_at rows s.run) s.at))) where
        by_case : (j : ℕ) × (at rows s.run j ≡ get_or (remove (row_at rows s.run) s.at) k 0) × (j ≢ s.at) × (((k < s.at) × (j ≡ k)) ⊎ ((s.at ≤ k) × (j ≡ suc k))) → (k < length (remove (row_at rows s.run) s.at)) ⊎ (length (remove (row_at rows s.run) s.at) ≤ k) → new (get_or (remove (row_at rows s.run) s.at) k 0) ≡ Some (seat_at s.run k)
        by_case was (inr past) = absurd (let none = get_or_past (remove (row_at rows s.run) s.at) k 0 past in omega arith)
        by_case (j, stands, differ, inr h) (inl within) = anew.here k h.0 within
        by_case (j, stands, differ, inl h) (inl within) =
            let below = h.0 in
            let same = h.1 in
            let some_j : 0 < at rows s.run j = omega arith in
            kept (get_or (remove (row_at rows s.run) s.at) k 0) s.run j left stands (inr (omega arith)) ∙ sym (ap old stands) ∙ placed.found s.run j some_j ∙ ap (λ i. Some (seat_at s.run i)) same

      there : (m : ℕ) (t : Seat) → StandsNowhere (remove (row_at rows s.run) s.at) m → apart n new m ≡ Some t → (old m ≡ Some t) × (t.run ≢ s.run)
      there m t nowhere seated = by_case (cases_eq m n) (cases_eq m 0) where
        by_case : (m ≡ n) ⊎ (m ≡ n → ⊥) → (m ≡ 0) ⊎ (m ≡ 0 → ⊥) → (old m ≡ Some t) × (t.run ≢ s.run)
        by_case (inl same) z = absurd (let none : apart n new m ≡ None = grind (arith, nat_tests) in none-some t (sym none ∙ seated))
        by_case (inr differ) (inl zero_is) = absurd (none-some t (sym placed.nobody ∙ sym anew.nobody ∙ sym (ap new zero_is) ∙ sym (not_it m differ) ∙ seated))
        by_case (inr differ) (inr some_m) =
            let before : old m ≡ Some t = sym (anew.others m (λ j from within. nowhere j)) ∙ sym (not_it m differ) ∙ seated in (
              before,
              λ same_run.
                  let stands : at rows s.run t.at ≡ m = ap (λ l. at rows l t.at) (sym same_run) ∙ placed.told m t before in
                  let same_place = gone m t.at (omega arith) stands nowhere in
                  differ (sym stands ∙ ap (λ k. at rows s.run k) same_place ∙ there_is),
            )

      elsewhere : (k p : ℕ) → k ≢ s.run → 0 < at rows k p → apart n new (at rows k p) ≡ Some (seat_at k p)
      elsewhere k p differ some_k =
          not_it (at rows k p) (λ same. differ ((one_place rows old placed k p s.run s.at some_k (same ∙ sym there_is)).0))
          ∙ kept (at rows k p) k p some_k refl (inl differ) ∙ placed.found k p some_k

      nobody : apart n new 0 ≡ None
      nobody = not_it 0 (λ e. omega arith) ∙ anew.nobody ∙ placed.nobody

  pub without_gone : members_of (set rows s.run (remove (row_at rows s.run) s.at)) ≡ without (members_of rows) n
  without_gone = members-remove rows s.run s.at some_there ∙ sym (without_only (members_of rows) n (whole_place rows s.run s.at) some (whole_is rows n s.run s.at some there_is) (only_there rows old placed n s.run s.at some there_is))

-- ---- a member comes, immediately before another one

module _ (rows : List (List ℕ)) (old : ℕ → Option Seat) (n : ℕ) (some : 0 < n) (placed : IsPlaced rows (apart n old)) (l p : ℕ) (some_there : 0 < at rows l p) where
  abbrev pub ys : List ℕ
  ys = insert (row_at rows l) p n

  within : l < length rows
  within = (at_within rows l p some_there).0

  in_reach : p ≤ length (row_at rows l)
  in_reach = let in_row = (at_within rows l p some_there).1 in omega arith

  not_it : (m : ℕ) → m ≢ n → apart n old m ≡ old m
  not_it m differ = grind (arith, nat_tests)

  -- who stands is not the one that comes
  stands_apart : (k q : ℕ) → 0 < at rows k q → at rows k q ≢ n
  stands_apart k q some_k same =
      let none : apart n old (at rows k q) ≡ None = grind (arith, nat_tests) in
      none-some (seat_at k q) (sym none ∙ placed.found k q some_k)

  old_seat : (k q : ℕ) → 0 < at rows k q → old (at rows k q) ≡ Some (seat_at k q)
  old_seat k q some_k = sym (not_it (at rows k q) (stands_apart k q some_k)) ∙ placed.found k q some_k

  -- the run after it, place by place: as before, the one that came, or one place further
  abbrev pub Came : ℕ → Type 0
  Came k = ((k < p) × (get_or ys k 0 ≡ at rows l k)) ⊎ (((k ≡ p) × (get_or ys k 0 ≡ n)) ⊎ ((j : ℕ) × (k ≡ suc j) × (p ≤ j) × (get_or ys k 0 ≡ at rows l j)))

  came_at : (k : ℕ) → Came k
  came_at k = by_case (insert_at (row_at rows l) p n k in_reach) where
    by_case : ((k < p) × (get_or (insert (row_at rows l) p n) k 0 ≡ get_or (row_at rows l) k 0)) ⊎ (((k ≡ p) × (get_or (insert (row_at rows l) p n) k 0 ≡ n)) ⊎ ((j : ℕ) × (k ≡ suc j) × (p ≤ j) × (get_or (insert (row_at rows l) p n) k 0 ≡ get_or (row_at rows l) j 0))) → Came k
    by_case (inl h) = inl (h.0, h.1 ∙ sym (at_row rows l k))
    by_case (inr (inl h)) = inr (inl h)
    by_case (inr (inr h)) = inr (inr (h.0, h.1, h.2, h.3 ∙ sym (at_row rows l h.0)))

  pub came_once : (j k : ℕ) → 0 < get_or ys j 0 → get_or ys j 0 ≡ get_or ys k 0 → j ≡ k
  came_once j k left same = by_case (came_at j) (came_at k) where
    apart_here : (i : ℕ) → 0 < at rows l i → at rows l i ≢ n
    apart_here i some_i = stands_apart l i some_i

    one : (a b : ℕ) → 0 < at rows l a → at rows l a ≡ at rows l b → a ≡ b
    one a b some_a e = (one_place rows (apart n old) placed l a l b some_a e).1

    by_case : Came j → Came k → j ≡ k
    by_case (inl h) (inl g) = let a = h.1 in let b = g.1 in one j k (omega arith) (omega arith)
    by_case (inl h) (inr (inl g)) = let a = h.1 in let b = g.1 in absurd (apart_here j (omega arith) (omega arith))
    by_case (inl h) (inr (inr g)) = let a = h.1 in let b = g.3 in let c = h.0 in let d = g.2 in absurd (let e = one j g.0 (omega arith) (omega arith) in omega arith)
    by_case (inr (inl h)) (inl g) = let a = h.1 in let b = g.1 in absurd (apart_here k (omega arith) (omega arith))
    by_case (inr (inl h)) (inr (inl g)) = let a = h.0 in let b = g.0 in omega arith
    by_case (inr (inl h)) (inr (inr g)) = let a = h.1 in let b = g.3 in absurd (apart_here g.0 (omega arith) (omega arith))
    by_case (inr (inr h)) (inl g) = let a = h.3 in let b = g.1 in let c = g.0 in let d = h.2 in absurd (let e = one k h.0 (omega arith) (omega arith) in omega arith)
    by_case (inr (inr h)) (inr (inl g)) = let a = h.3 in let b = g.1 in absurd (apart_here h.0 (omega arith) (omega arith))
    by_case (inr (inr h)) (inr (inr g)) = let a = h.3 in let b = g.3 in let u = h.1 in let v = g.1 in let e = one h.0 g.0 (omega arith) (omega arith) in omega arith

  pub came_seated : IsSome (old n) → (k : ℕ) → 0 < get_or ys k 0 → IsSome (old (get_or ys k 0))
  came_seated seated k left = by_case (came_at k) where
    by_case : Came k → IsSome (old (get_or ys k 0))
    by_case (inl h) = let a = h.1 in subst IsSome (sym (ap old h.1 ∙ old_seat l k (omega arith))) refl
    by_case (inr (inl h)) = subst (λ m. IsSome (old m)) (sym h.1) seated
    by_case (inr (inr h)) = let a = h.3 in subst IsSome (sym (ap old h.3 ∙ old_seat l h.0 (omega arith))) refl

  module _ (new : ℕ → Option Seat) (anew : IsReseated ys l p (length ys) old new) where
    -- who stands in another run, or before the place, keeps the seat
    kept_seat : (m k q : ℕ) → 0 < m → at rows k q ≡ m → (k ≢ l) ⊎ (q < p) → new m ≡ old m
    kept_seat m k q some_m stands where_is = anew.others m (λ j from upto same. clash j from same (came_at j) where_is) where
      clash : (j : ℕ) → p ≤ j → get_or ys j 0 ≡ m → Came j → (k ≢ l) ⊎ (q < p) → ⊥
      clash j from same (inl h) w = let u = h.0 in omega arith
      clash j from same (inr (inl h)) w = let u = h.1 in stands_apart k q (omega arith) (omega arith)
      clash j from same (inr (inr h)) w =
          let u = h.3 in
          let one = one_place rows (apart n old) placed k q l h.0 (omega arith) (omega arith) in
          by_where h.2 one.0 one.1 w
        where
          by_where : {i : ℕ} → p ≤ i → k ≡ l → q ≡ i → (k ≢ l) ⊎ (q < p) → ⊥
          by_where le same_run e (inl differ) = differ same_run
          by_where le same_run e (inr before) = omega arith

    pub opened : IsPlaced (set rows l ys) new
    opened = changed rows (apart n old) new l ys placed within here there elsewhere nobody where
      here : (k : ℕ) → 0 < get_or ys k 0 → new (get_or ys k 0) ≡ Some (seat_at l k)
      here k left = by_case (came_at k) (cases_lt k p) (cases_lt k (length ys)) where
        by_case : Came k → (k < p) ⊎ (p ≤ k) → (k < length ys) ⊎ (length ys ≤ k) → new (get_or ys k 0) ≡ Some (seat_at l k)
        by_case came side (inr past) = absurd (let none = get_or_past ys k 0 past in omega arith)
        by_case came (inr from) (inl upto) = anew.here k from upto
        by_case (inl h) (inl below) (inl upto) =
            let a = h.1 in
            kept_seat (get_or ys k 0) l k left (sym h.1) (inr below) ∙ ap old h.1 ∙ old_seat l k (omega arith)
        by_case (inr (inl h)) (inl below) (inl upto) = absurd (let a = h.0 in omega arith)
        by_case (inr (inr h)) (inl below) (inl upto) = absurd (let a = h.1 in let b = h.2 in omega arith)

      there : (m : ℕ) (t : Seat) → StandsNowhere ys m → new m ≡ Some t → (apart n old m ≡ Some t) × (t.run ≢ l)
      there m t nowhere seated = by_case (cases_eq m 0) where
        it_came : get_or ys p 0 ≡ n
        it_came = get_or-insert_at (row_at rows l) p n 0 in_reach

        differ : m ≢ n
        differ same = nowhere p (it_came ∙ sym same)

        by_case : (m ≡ 0) ⊎ (m ≡ 0 → ⊥) → (apart n old m ≡ Some t) × (t.run ≢ l)
        by_case (inl zero_is) =
            let none : old 0 ≡ None = sym (not_it 0 (λ e. omega arith)) ∙ placed.nobody in
            absurd (none-some t (sym none ∙ sym anew.nobody ∙ sym (ap new zero_is) ∙ seated))
        by_case (inr some_m) =
            let before : apart n old m ≡ Some t = not_it m differ ∙ sym (anew.others m (λ j from upto. nowhere j)) ∙ seated in (
              before,
              λ same_run.
                  let stands : get_or (row_at rows l) t.at 0 ≡ m = sym (at_row rows l t.at) ∙ ap (λ k. at rows k t.at) (sym same_run) ∙ placed.told m t before in
                  by_side (cases_lt t.at p) stands,
            )
          where
            by_side : (t.at < p) ⊎ (p ≤ t.at) → get_or (row_at rows l) t.at 0 ≡ m → ⊥
            by_side (inl below) stands = nowhere t.at (get_or-insert_below (row_at rows l) p n 0 t.at below in_reach ∙ stands)
            by_side (inr above) stands = nowhere (t.at + 1) (get_or-insert_above (row_at rows l) p n 0 t.at above in_reach ∙ stands)

      elsewhere : (k q : ℕ) → k ≢ l → 0 < at rows k q → new (at rows k q) ≡ Some (seat_at k q)
      elsewhere k q differ some_k = kept_seat (at rows k q) k q some_k refl (inl differ) ∙ old_seat k q some_k

      nobody : new 0 ≡ None
      nobody = anew.nobody ∙ sym (not_it 0 (λ e. omega arith)) ∙ placed.nobody

  pub insert_came : members_of (set rows l ys) ≡ insert_before n (at rows l p) (members_of rows)
  insert_came = members-insert rows l p n some_there ∙ sym (insert_before_only (members_of rows) n (at rows l p) (whole_place rows l p) some_there (at_whole rows l p some_there) (only_there rows (apart n old) placed (at rows l p) l p some_there refl))

-- ---- a member is appended

at_end : (rows : List (List ℕ)) (n : ℕ) → at (rows ++ (n ∷ []) ∷ []) (length rows) 0 ≡ n
at_end [] n = refl
at_end (row ∷ rows) n = at_end rows n

pub pushed : (rows : List (List ℕ)) (old new : ℕ → Option Seat) (n : ℕ) → 0 < n → IsPlaced rows old → is_member (members_of rows) n ≡ false
    → new n ≡ Some (seat_at (length rows) 0) → ((m : ℕ) → m ≢ n → new m ≡ old m) → IsPlaced (rows ++ (n ∷ []) ∷ []) new
pushed rows old new n some placed absent here others = record { told = told; found = found; nobody = others 0 (λ e. omega arith) ∙ placed.nobody } where
  told : (m : ℕ) (s : Seat) → new m ≡ Some s → at (rows ++ (n ∷ []) ∷ []) s.run s.at ≡ m
  told m s is = by_case (cases_eq m n) (cases_eq m 0) (at-push rows n s.run s.at) where
    by_case : (m ≡ n) ⊎ (m ≡ n → ⊥) → (m ≡ 0) ⊎ (m ≡ 0 → ⊥) → ((s.run ≡ length rows) × (s.at ≡ 0) × (at (rows ++ (n ∷ []) ∷ []) s.run s.at ≡ n)) ⊎ (at (rows ++ (n ∷ []) ∷ []) s.run s.at ≡ at rows s.run s.at) → at (rows ++ (n ∷ []) ∷ []) s.run s.at ≡ m
    by_case (inl same) z (inl h) = h.2 ∙ sym same
    by_case (inl same) z (inr h) =
        let seat = same_Some s (seat_at (length rows) 0) (sym is ∙ ap new same ∙ here) in
        ap (λ (t : Seat). at (rows ++ (n ∷ []) ∷ []) t.run t.at) seat ∙ at_end rows n ∙ sym same
    by_case (inr differ) (inl zero_is) h = absurd (none-some s (sym placed.nobody ∙ sym (others 0 (λ e. omega arith)) ∙ sym (ap new zero_is) ∙ is))
    by_case (inr differ) (inr some_m) (inl h) = absurd (
        let before = placed.told m s (sym (others m differ) ∙ is) in
        let within = (at_within rows s.run s.at (omega arith)).0 in
        let run = h.0 in omega arith)
    by_case (inr differ) (inr some_m) (inr h) = h ∙ placed.told m s (sym (others m differ) ∙ is)

  found : (l p : ℕ) → 0 < at (rows ++ (n ∷ []) ∷ []) l p → new (at (rows ++ (n ∷ []) ∷ []) l p) ≡ Some (seat_at l p)
  found l p stands = by_case (at-push rows n l p) where
    by_case : ((l ≡ length rows) × (p ≡ 0) × (at (rows ++ (n ∷ []) ∷ []) l p ≡ n)) ⊎ (at (rows ++ (n ∷ []) ∷ []) l p ≡ at rows l p) → new (at (rows ++ (n ∷ []) ∷ []) l p) ≡ Some (seat_at l p)
    by_case (inl h) = ap new h.2 ∙ here ∙ ap (λ k. Some (seat_at k 0)) (sym h.0) ∙ ap (λ k. Some (seat_at l k)) (sym h.1)
    by_case (inr h) =
        let some_there : 0 < at rows l p = omega arith in
        let differ : at rows l p ≢ n = λ same. let yes = seated_member rows old placed n (seat_at l p) some (sym (ap old same) ∙ placed.found l p some_there) in cc in
        ap new h ∙ others (at rows l p) differ ∙ placed.found l p some_there

-- ---- a step of the loop that gives seats anew

pub reseated_more : (items : List ℕ) (l from k : ℕ) (old new next : ℕ → Option Seat) → IsReseated items l from k old new → from ≤ k → 0 < get_or items k 0
    → ((i j : ℕ) → 0 < get_or items i 0 → get_or items i 0 ≡ get_or items j 0 → i ≡ j)
    → next (get_or items k 0) ≡ Some (seat_at l k) → ((m : ℕ) → m ≢ get_or items k 0 → next m ≡ new m)
    → IsReseated items l from (k + 1) old next
reseated_more items l from k old new next sofar le some once is others = record { here = here; others = rest; nobody = others 0 (λ e. omega arith) ∙ sofar.nobody } where
  here : (j : ℕ) → from ≤ j → j < k + 1 → next (get_or items j 0) ≡ Some (seat_at l j)
  here j after before = by_case (cases_eq j k) where
    by_case : (j ≡ k) ⊎ (j ≡ k → ⊥) → next (get_or items j 0) ≡ Some (seat_at l j)
    by_case (inl same) = subst (λ i. next (get_or items i 0) ≡ Some (seat_at l i)) (sym same) is
    by_case (inr differ) =
        let apart_items : get_or items j 0 ≢ get_or items k 0 = λ same. differ (sym (once k j some (sym same))) in
        let below : j < k = let ne : j ≢ k = differ in omega arith in
        others (get_or items j 0) apart_items ∙ sofar.here j after below

  rest : (m : ℕ) → ((j : ℕ) → from ≤ j → j < k + 1 → get_or items j 0 ≢ m) → next m ≡ old m
  rest m none =
      let now : m ≢ get_or items k 0 = λ same. none k le (omega arith) (sym same) in
      others m now ∙ sofar.others m (λ j after before. none j after (omega arith))

pub reseated_none : (items : List ℕ) (l from : ℕ) (old : ℕ → Option Seat) → IsReseated items l from from old old
reseated_none items l from old = record { here = λ k after before. absurd (omega arith); others = λ n none. refl; nobody = refl }
