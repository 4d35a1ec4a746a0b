-- What the calls of an agenda answer.
use Rattle.std.proofs.Common.{IfSome, IfNone, false, take, ◌==◌, ◌||◌, length-append, ◌≡◌, ◌≢◌, None, ℕ, zero, suc, ◌+◌, ◌-◌, ◌<◌, ◌≤◌, ◌↔◌, IsTrue, Bool, true, List, [], ◌∷◌, ◌++◌, Option, Some, IsSome, length, get_or, set, drop, slice_get, refl, sym, ap, subst, ◌∙◌, ◌⊎◌, inl, inr, arith}
use Rattle.std.specs.List.{insert, remove}
use Rattle.std.proofs.lemmas.Bool.{cases_eq, cases_lt}
use Rattle.std.proofs.lemmas.Bool.Decides.{nat_tests}
use Rattle.std.proofs.lemmas.List.{get_or_past}
use Rattle.std.specs.Option.{is_some}
use Rattle.std.proofs.lemmas.List.Folds.{list_any_more}
use Rattle.std.proofs.Math.Seq.{drop-append_seam}
use Rattle.std.proofs.lemmas.List.{take_all, drop_more, map-set, get_or-set_same, get_or-set_other}
use Rattle.std.proofs.lemmas.List.{get_or_read}
use Rattle.std.proofs.lemmas.List.Edits.{length-remove, length-insert}
use Rattle.ltx_agenda.specs.declared.seats.Seat.{Seat}
use Rattle.ltx_model.specs.Listings.{is_member, without, insert_before, place_of}
use Rattle.ltx_agenda.specs.Runs.{Held, at, members_of, rows_of, whole_place}
use Rattle.ltx_agenda.specs.Placed.{seat_at, IsPlaced, IsReseated, HasRoomBefore, SitsAt, Standing, apart, run_at}
use Rattle.ltx_agenda.proofs.Singles.{place_of_only, without_only, insert_before_only}
use Rattle.ltx_agenda.specs.Lanes.{lanes_without, lanes_insert}
use Rattle.ltx_agenda.proofs.RowEdits.{rows_left, rows_came}
use Rattle.ltx_agenda.proofs.Rows.{at_within, at-set_same, at-set_other}
use Rattle.ltx_agenda.proofs.Placing.{seated_member, is_some_member, pushed, row_at, one_place, only_there, whole_is, member_seated, earlier, left_was, left_seated, left_once, left_apart, closed, without_gone, came_seated, came_once, opened, insert_came}

-- ---- a walk over the runs

slice_get_left : (xs ys : List ℕ) (i : ℕ) → i < length xs → slice_get (xs ++ ys) i ≡ slice_get xs i
slice_get_left [] ys i within = absurd (omega arith)
slice_get_left (x ∷ xs) ys zero within = refl
slice_get_left (x ∷ xs) ys (suc i) within = slice_get_left xs ys i (omega arith)

slice_get_right : (xs ys : List ℕ) (i : ℕ) → length xs ≤ i → slice_get (xs ++ ys) i ≡ slice_get ys (i - length xs)
slice_get_right [] ys i past = ap (slice_get ys) (omega arith)
slice_get_right (x ∷ xs) ys zero past = absurd (omega arith)
slice_get_right (x ∷ xs) ys (suc i) past = slice_get_right xs ys i (omega arith) ∙ ap (slice_get ys) (omega arith)

next_run : (runs : List Held) (i : ℕ) (r : Held) → i < length runs → r ≡ get_or runs i r → members_of (rows_of (drop i runs)) ≡ r.items ++ members_of (rows_of (drop (i + 1) runs))
next_run runs i r within is = ap (λ rs. members_of (rows_of rs)) (drop_more runs i r within) ∙ ap (λ (q : Held). q.items ++ members_of (rows_of (drop (i + 1) runs))) (sym is)

pub walk_here : (runs : List Held) (i left : ℕ) (r : Held) → i < length runs → r ≡ get_or runs i r → left < length r.items → slice_get (members_of (rows_of (drop i runs))) left ≡ slice_get r.items left
walk_here runs i left r within is here = ap (λ xs. slice_get xs left) (next_run runs i r within is) ∙ slice_get_left r.items _ left here

pub walk_on : (runs : List Held) (i left : ℕ) (r : Held) → i < length runs → r ≡ get_or runs i r → length r.items ≤ left → slice_get (members_of (rows_of (drop i runs))) left ≡ slice_get (members_of (rows_of (drop (i + 1) runs))) (left - length r.items)
walk_on runs i left r within is past = ap (λ xs. slice_get xs left) (next_run runs i r within is) ∙ slice_get_right r.items _ left past

-- ---- which of two members stands before the other

abbrev pub Before : Seat → Seat → Type 0
Before x y = (x.run < y.run) ⊎ ((x.run ≡ y.run) × (x.at < y.at))

-- ---- runs and their rows

pub row_is : (runs : List Held) (l : ℕ) → row_at (rows_of runs) l ≡ (run_at runs l).items
row_is [] l = refl
row_is (r ∷ rs) zero = refl
row_is (r ∷ rs) (suc l) = row_is rs l

pub rows-set : (runs : List Held) (l : ℕ) (r : Held) → rows_of (set runs l r) ≡ set (rows_of runs) l r.items
rows-set runs l r = map-set (λ (q : Held). q.items) runs l r

pub length-rows : (runs : List Held) → length (rows_of runs) ≡ length runs
length-rows [] = refl
length-rows (r ∷ rs) = ap suc (length-rows rs)

-- a run with other room has the same rows
pub rows-set_room : (runs : List Held) (l : ℕ) (r : Held) → r.items ≡ (run_at runs l).items → rows_of (set runs l r) ≡ rows_of runs
rows-set_room [] l r same = refl
rows-set_room (q ∷ qs) zero r same = ap (λ xs. xs ∷ rows_of qs) same
rows-set_room (q ∷ qs) (suc l) r same = ap (λ rows. q.items ∷ rows) (rows-set_room qs l r same)

-- the run of a seat is there
pub run_within : (runs : List Held) (seat : ℕ → Option Seat) → IsPlaced (rows_of runs) seat → (n : ℕ) (s : Seat) → 0 < n → seat n ≡ Some s → (s.run < length runs) × (s.at < length (run_at runs s.run).items)
run_within runs seat placed n s some is =
    let stands = placed.told n s is in
    let within = at_within (rows_of runs) s.run s.at (omega arith) in
    (subst (λ k. s.run < k) (length-rows runs) within.0, subst (λ (xs : List ℕ). s.at < length xs) (row_is runs s.run) within.1)

-- after room was made in the run of a member
pub room_made : (runs : List Held) (seat : ℕ → Option Seat) → IsPlaced (rows_of runs) seat → (n : ℕ) (s : Seat) → 0 < n → seat n ≡ Some s → (r : Held) → r.items ≡ (run_at runs s.run).items → 0 < r.room → HasRoomBefore (set runs s.run r) n
room_made runs seat placed n s some is r same room = λ l p stands.
    let before : at (rows_of runs) l p ≡ n = ap (λ rows. at rows l p) (sym (rows-set_room runs s.run r same)) ∙ stands in
    let there = placed.told n s is in
    let one = one_place (rows_of runs) seat placed l p s.run s.at (omega arith) (before ∙ sym there) in
    let within = (run_within runs seat placed n s some is).0 in
    let new : run_at (set runs s.run r) s.run ≡ r = get_or-set_same runs s.run r (record { items = []; room = 0 }) within in
    subst (λ k. 0 < (run_at (set runs s.run r) k).room) (sym one.0) (subst (λ (q : Held). 0 < q.room) (sym new) room)

-- and the room before other members stays
pub room_kept : (runs : List Held) (k : ℕ) (r : Held) → k < length runs → r.items ≡ (run_at runs k).items → (run_at runs k).room ≤ r.room → (m : ℕ) → HasRoomBefore runs m → HasRoomBefore (set runs k r) m
room_kept runs k r within same more m room = λ l p stands. by_case l (cases_eq l k) (room l p (ap (λ rows. at rows l p) (sym (rows-set_room runs k r same)) ∙ stands)) where
  by_case : (l : ℕ) → (l ≡ k) ⊎ (l ≡ k → ⊥) → 0 < (run_at runs l).room → 0 < (run_at (set runs k r) l).room
  by_case l (inl e) before =
      let new : run_at (set runs k r) k ≡ r = get_or-set_same runs k r (record { items = []; room = 0 }) within in
      let there = ap (λ (q : Held). q.room) (ap (run_at (set runs k r)) e ∙ new) in
      let old = ap (λ i. (run_at runs i).room) e in
      omega arith
  by_case l (inr differ) before =
      let new : run_at (set runs k r) l ≡ run_at runs l = get_or-set_other runs k l r (record { items = []; room = 0 }) differ in
      let there = ap (λ (q : Held). q.room) new in
      omega arith

-- the list of all runs and one more
pub members-push : (runs : List Held) (r : Held) → members_of (rows_of (runs ++ r ∷ [])) ≡ members_of (rows_of runs) ++ r.items
members-push [] r = members_nil r.items where
  members_nil : (xs : List ℕ) → xs ++ [] ≡ xs
  members_nil [] = refl
  members_nil (x ∷ xs) = ap (λ ys. x ∷ ys) (members_nil xs)
members-push (q ∷ qs) r = ap (λ xs. q.items ++ xs) (members-push qs r) ∙ assoc q.items (members_of (rows_of qs)) r.items where
  assoc : (xs ys zs : List ℕ) → xs ++ (ys ++ zs) ≡ (xs ++ ys) ++ zs
  assoc [] ys zs = refl
  assoc (x ∷ xs) ys zs = ap (λ us. x ∷ us) (assoc xs ys zs)

-- a member has a seat
pub is_seated : (rows : List (List ℕ)) (seat : ℕ → Option Seat) → IsPlaced rows seat → (n m : ℕ) → 0 < n → n ≡ m → is_member (members_of rows) m ≡ true → IsSome (seat n)
is_seated rows seat placed n m some same is = let there = member_seated rows seat placed n some (subst (λ k. is_member (members_of rows) k ≡ true) (sym same) is) in subst IsSome (sym there.1) refl

-- what was read is the run
pub run_read : (runs : List Held) (l : ℕ) (r : Held) → l < length runs → r ≡ get_or runs l r → r ≡ run_at runs l
run_read runs l r within is = get_or_read runs l r within is (record { items = []; room = 0 })

-- what was read is what had been written there
pub run_reread : (runs : List Held) (l : ℕ) (r q : Held) → l < length runs → q ≡ get_or (set runs l r) l q → q ≡ r
run_reread runs l r q within is = is ∙ get_or-set_same runs l r q within

-- ---- a member leaves a run

module _ (runs : List Held) (old : ℕ → Option Seat) (placed : IsPlaced (rows_of runs) old) (n : ℕ) (some : 0 < n) (s : Seat) (is : old n ≡ Some s) (r : Held) (left : r.items ≡ remove (run_at runs s.run).items s.at) where
  left_row : r.items ≡ remove (row_at (rows_of runs) s.run) s.at
  left_row = left ∙ ap (λ xs. remove xs s.at) (sym (row_is runs s.run))

  pub close_start : s.at ≤ length r.items
  close_start =
      let within = (run_within runs old placed n s some is).1 in
      let shorter = length-remove (run_at runs s.run).items s.at within in
      let same = ap (λ (xs : List ℕ). length xs) left in
      omega arith

  pub close_seated : (k : ℕ) → s.at ≤ k → 0 < get_or r.items k 0 → IsSome (old (get_or r.items k 0))
  close_seated = subst (λ (ys : List ℕ). (k : ℕ) → s.at ≤ k → 0 < get_or ys k 0 → IsSome (old (get_or ys k 0))) (sym left_row) (λ k from there. left_seated (rows_of runs) old placed n some s is k there)

  pub close_once : (j k : ℕ) → 0 < get_or r.items j 0 → get_or r.items j 0 ≡ get_or r.items k 0 → j ≡ k
  close_once = subst (λ (ys : List ℕ). (j k : ℕ) → 0 < get_or ys j 0 → get_or ys j 0 ≡ get_or ys k 0 → j ≡ k) (sym left_row) (left_once (rows_of runs) old placed n some s is)

  pub close_row : rows_of (set runs s.run r) ≡ set (rows_of runs) s.run (remove (row_at (rows_of runs) s.run) s.at)
  close_row = rows-set runs s.run r ∙ ap (set (rows_of runs) s.run) left_row

  pub close_rows : rows_of (set runs s.run r) ≡ lanes_without (rows_of runs) n
  close_rows = close_row ∙ rows_left (rows_of runs) n s.run s.at some (placed.told n s is) (λ k q e. one_place (rows_of runs) old placed k q s.run s.at (omega arith) (e ∙ sym (placed.told n s is)))

  pub close_list : members_of (rows_of (set runs s.run r)) ≡ without (members_of (rows_of runs)) n
  close_list = ap members_of (rows-set runs s.run r ∙ ap (set (rows_of runs) s.run) left_row) ∙ without_gone (rows_of runs) old placed n some s is

  pub close_rooms : (run_at runs s.run).room ≤ r.room → (m : ℕ) → 0 < m → HasRoomBefore runs m → HasRoomBefore (set runs s.run r) m
  close_rooms more m some_m room = λ l p stands.
      let stands_row : at (set (rows_of runs) s.run (remove (row_at (rows_of runs) s.run) s.at)) l p ≡ m = ap (λ rows. at rows l p) (sym (rows-set runs s.run r ∙ ap (set (rows_of runs) s.run) left_row)) ∙ stands in
      by_case l p stands_row (cases_eq l s.run)
    where
      by_case : (l p : ℕ) → at (set (rows_of runs) s.run (remove (row_at (rows_of runs) s.run) s.at)) l p ≡ m → (l ≡ s.run) ⊎ (l ≡ s.run → ⊥) → 0 < (run_at (set runs s.run r) l).room
      by_case l p stands (inl same) =
          let within = (run_within runs old placed n s some is).0 in
          let rows_within : s.run < length (rows_of runs) = subst (λ k. s.run < k) (sym (length-rows runs)) within in
          let there : get_or (remove (row_at (rows_of runs) s.run) s.at) p 0 ≡ m = sym (at-set_same (rows_of runs) s.run p (remove (row_at (rows_of runs) s.run) s.at) rows_within) ∙ ap (λ k. at (set (rows_of runs) s.run (remove (row_at (rows_of runs) s.run) s.at)) k p) (sym same) ∙ stands in
          let was = left_was (rows_of runs) old placed n some s is p (omega arith) in
          let before = room s.run was.0 (was.1 ∙ there) in
          let new : run_at (set runs s.run r) s.run ≡ r = get_or-set_same runs s.run r (record { items = []; room = 0 }) within in
          let there_room = ap (λ (q : Held). q.room) (ap (run_at (set runs s.run r)) same ∙ new) in
          omega arith
      by_case l p stands (inr differ) =
          let new : run_at (set runs s.run r) l ≡ run_at runs l = get_or-set_other runs s.run l r (record { items = []; room = 0 }) differ in
          let before = room l p (sym (at-set_other (rows_of runs) s.run l p (remove (row_at (rows_of runs) s.run) s.at) differ) ∙ stands) in
          let there_room = ap (λ (q : Held). q.room) new in
          omega arith

  module _ (new : ℕ → Option Seat) (anew : IsReseated r.items s.run s.at (length r.items) old new) where
    anew_row : IsReseated (remove (row_at (rows_of runs) s.run) s.at) s.run s.at (length (remove (row_at (rows_of runs) s.run) s.at)) old new
    anew_row = subst (λ (ys : List ℕ). IsReseated ys s.run s.at (length ys) old new) left_row anew

    pub close_placed : IsPlaced (rows_of (set runs s.run r)) (apart n new)
    close_placed = subst (λ rows. IsPlaced rows (apart n new)) (sym (rows-set runs s.run r ∙ ap (set (rows_of runs) s.run) left_row)) (closed (rows_of runs) old placed n some s is new anew_row)

    pub close_own : new n ≡ Some s
    close_own = anew_row.others n (λ k from upto same. left_apart (rows_of runs) old placed n some s is k (omega arith) same) ∙ is

-- ---- a member comes into a run

module _ (runs : List Held) (old : ℕ → Option Seat) (n : ℕ) (some : 0 < n) (placed : IsPlaced (rows_of runs) (apart n old)) (l p : ℕ) (there : 0 < at (rows_of runs) l p) (r : Held) (came : r.items ≡ insert (run_at runs l).items p n) where
  came_row : r.items ≡ insert (row_at (rows_of runs) l) p n
  came_row = came ∙ ap (λ xs. insert xs p n) (sym (row_is runs l))

  pub open_start : p < length (run_at runs l).items → p ≤ length r.items
  open_start within =
      let longer = length-insert (run_at runs l).items p n (omega arith) in
      let same = ap (λ (xs : List ℕ). length xs) came in
      omega arith

  pub open_seated : IsSome (old n) → (k : ℕ) → p ≤ k → 0 < get_or r.items k 0 → IsSome (old (get_or r.items k 0))
  open_seated seated = subst (λ (ys : List ℕ). (k : ℕ) → p ≤ k → 0 < get_or ys k 0 → IsSome (old (get_or ys k 0))) (sym came_row) (λ k from stands. came_seated (rows_of runs) old n some placed l p there seated k stands)

  pub open_once : (j k : ℕ) → 0 < get_or r.items j 0 → get_or r.items j 0 ≡ get_or r.items k 0 → j ≡ k
  open_once = subst (λ (ys : List ℕ). (j k : ℕ) → 0 < get_or ys j 0 → get_or ys j 0 ≡ get_or ys k 0 → j ≡ k) (sym came_row) (came_once (rows_of runs) old n some placed l p there)

  pub open_row : rows_of (set runs l r) ≡ set (rows_of runs) l (insert (row_at (rows_of runs) l) p n)
  open_row = rows-set runs l r ∙ ap (set (rows_of runs) l) came_row

  pub open_rows : rows_of (set runs l r) ≡ lanes_insert n (at (rows_of runs) l p) (rows_of runs)
  open_rows = open_row ∙ rows_came (rows_of runs) n (at (rows_of runs) l p) l p there refl (λ k q e. one_place (rows_of runs) (apart n old) placed k q l p (omega arith) e)

  pub open_list : members_of (rows_of (set runs l r)) ≡ insert_before n (at (rows_of runs) l p) (members_of (rows_of runs))
  open_list = ap members_of (rows-set runs l r ∙ ap (set (rows_of runs) l) came_row) ∙ insert_came (rows_of runs) old n some placed l p there

  pub open_placed : (new : ℕ → Option Seat) → IsReseated r.items l p (length r.items) old new → IsPlaced (rows_of (set runs l r)) new
  open_placed new anew =
      subst (λ rows. IsPlaced rows new) (sym (rows-set runs l r ∙ ap (set (rows_of runs) l) came_row))
      (opened (rows_of runs) old n some placed l p there new (subst (λ (ys : List ℕ). IsReseated ys l p (length ys) old new) came_row anew))

-- ---- the run that a call changed, as the code read it before and reads it after

pub run_left : (runs : List Held) (seat : ℕ → Option Seat) → IsPlaced (rows_of runs) seat → (n : ℕ) (s : Seat) → 0 < n → seat n ≡ Some s → (before r : Held) → before ≡ get_or runs s.run before → r.items ≡ remove before.items s.at → r.items ≡ remove (run_at runs s.run).items s.at
run_left runs seat placed n s some is before r read left = left ∙ ap (λ (q : Held). remove q.items s.at) (run_read runs s.run before (run_within runs seat placed n s some is).0 read)

pub run_left_read : (runs : List Held) (seat : ℕ → Option Seat) → IsPlaced (rows_of runs) seat → (n : ℕ) (s : Seat) → 0 < n → seat n ≡ Some s → (before r now : Held) → before ≡ get_or runs s.run before → r.items ≡ remove before.items s.at → now ≡ get_or (set runs s.run r) s.run now → now.items ≡ remove (run_at runs s.run).items s.at
run_left_read runs seat placed n s some is before r now read left reread = ap (λ (q : Held). q.items) (run_reread runs s.run r now (run_within runs seat placed n s some is).0 reread) ∙ run_left runs seat placed n s some is before r read left

pub run_came : (runs : List Held) (l p n : ℕ) → l < length runs → (before r : Held) → before ≡ get_or runs l before → r.items ≡ insert before.items p n → r.items ≡ insert (run_at runs l).items p n
run_came runs l p n within before r read came = came ∙ ap (λ (q : Held). insert q.items p n) (run_read runs l before within read)

pub run_came_read : (runs : List Held) (l p n : ℕ) → l < length runs → (before r now : Held) → before ≡ get_or runs l before → r.items ≡ insert before.items p n → now ≡ get_or (set runs l r) l now → now.items ≡ insert (run_at runs l).items p n
run_came_read runs l p n within before r now read came reread = ap (λ (q : Held). q.items) (run_reread runs l r now within reread) ∙ run_came runs l p n within before r read came

-- where a member stands there is a run
pub stands_within : (runs : List Held) (l p : ℕ) → 0 < at (rows_of runs) l p → (l < length runs) × (p < length (run_at runs l).items)
stands_within runs l p there =
    let within = at_within (rows_of runs) l p there in
    (subst (λ k. l < k) (length-rows runs) within.0, subst (λ (xs : List ℕ). p < length xs) (row_is runs l) within.1)

-- ---- counts, and seats that are told apart

placed_same : (rows : List (List ℕ)) (f g : ℕ → Option Seat) → ((m : ℕ) → f m ≡ g m) → IsPlaced rows f → IsPlaced rows g
placed_same rows f g same placed = record {
  told = λ n s is. placed.told n s (same n ∙ is);
  found = λ l p some. sym (same (at rows l p)) ∙ placed.found l p some;
  nobody = sym (same 0) ∙ placed.nobody;
}

-- once the seat of the one that left is taken away too
pub placed_taken : (rows : List (List ℕ)) (n : ℕ) (f g : ℕ → Option Seat) → IsPlaced rows (apart n f) → g n ≡ None → ((m : ℕ) → m ≢ n → g m ≡ f m) → IsPlaced rows g
placed_taken rows n f g placed here others = placed_same rows (apart n f) g (λ m. by_case m (cases_eq m n)) placed where
  by_case : (m : ℕ) → (m ≡ n) ⊎ (m ≡ n → ⊥) → apart n f m ≡ g m
  by_case m (inl same) = let none : apart n f m ≡ None = grind (arith, nat_tests) in none ∙ sym here ∙ ap g (sym same)
  by_case m (inr differ) = let kept : apart n f m ≡ f m = grind (arith, nat_tests) in kept ∙ sym (others m differ)

whole_within : (rows : List (List ℕ)) (n l p : ℕ) → 0 < n → at rows l p ≡ n → whole_place rows l p < length (members_of rows)
whole_within rows n l p some is = by_case (cases_lt (whole_place rows l p) (length (members_of rows))) where
  by_case : (whole_place rows l p < length (members_of rows)) ⊎ (length (members_of rows) ≤ whole_place rows l p) → whole_place rows l p < length (members_of rows)
  by_case (inl within) = within
  by_case (inr past) = absurd (let none = get_or_past (members_of rows) (whole_place rows l p) 0 past in let there = whole_is rows n l p some is in omega arith)

pub length-without : (rows : List (List ℕ)) (seat : ℕ → Option Seat) → IsPlaced rows seat → (n : ℕ) (s : Seat) → 0 < n → seat n ≡ Some s → length (without (members_of rows) n) + 1 ≡ length (members_of rows)
length-without rows seat placed n s some is =
    let there = placed.told n s is in
    let gone = without_only (members_of rows) n _ some (whole_is rows n s.run s.at some there) (only_there rows seat placed n s.run s.at some there) in
    ap (λ (xs : List ℕ). length xs + 1) gone ∙ length-remove (members_of rows) (whole_place rows s.run s.at) (whole_within rows n s.run s.at some there)

pub length-insert_before : (rows : List (List ℕ)) (seat : ℕ → Option Seat) → IsPlaced rows seat → (x l p : ℕ) → 0 < at rows l p → length (insert_before x (at rows l p) (members_of rows)) ≡ length (members_of rows) + 1
length-insert_before rows seat placed x l p some =
    let came = insert_before_only (members_of rows) x (at rows l p) _ some (whole_is rows (at rows l p) l p some refl) (only_there rows seat placed (at rows l p) l p some refl) in
    let within = whole_within rows (at rows l p) l p some refl in
    ap (λ (xs : List ℕ). length xs) came ∙ length-insert (members_of rows) (whole_place rows l p) x (omega arith)

-- who is not the one that left is a member as before
pub member_without : (xs : List ℕ) (n m : ℕ) → m ≢ n → is_member (without xs n) m ≡ is_member xs m
member_without [] n m differ = refl
member_without (x ∷ xs) n m differ = by_case (cases_eq x n) (member_without xs n m differ) where
  by_case : (x ≡ n) ⊎ (x ≡ n → ⊥) → is_member (without xs n) m ≡ is_member xs m → is_member (without (x ∷ xs) n) m ≡ is_member (x ∷ xs) m
  by_case (inl same) rest = let apart_m : x ≢ m = λ e. differ (sym e ∙ same) in grind (arith, nat_tests)
  by_case (inr ne) rest = grind (arith, nat_tests)

-- the seat of another member while one is out
pub other_seated : (rows : List (List ℕ)) (seat : ℕ → Option Seat) (n : ℕ) → IsPlaced rows (apart n seat) → (m : ℕ) → 0 < m → m ≢ n → is_member (members_of rows) m ≡ true → IsSome (seat m)
other_seated rows seat n placed m some differ is =
    let there = member_seated rows (apart n seat) placed m some is in
    let kept : apart n seat m ≡ seat m = grind (arith, nat_tests) in
    subst IsSome (sym there.1 ∙ kept) refl

pub other_there : (rows : List (List ℕ)) (seat : ℕ → Option Seat) (n : ℕ) → IsPlaced rows (apart n seat) → (m : ℕ) (s : Seat) → m ≢ n → seat m ≡ Some s → at rows s.run s.at ≡ m
other_there rows seat n placed m s differ is =
    let kept : apart n seat m ≡ seat m = grind (arith, nat_tests) in
    placed.told m s (kept ∙ is)

-- ---- a member is appended

pub rows-push : (runs : List Held) (r : Held) (n : ℕ) → r.items ≡ n ∷ [] → rows_of (runs ++ r ∷ []) ≡ rows_of runs ++ (n ∷ []) ∷ []
rows-push [] r n is = ap (λ (xs : List ℕ). xs ∷ []) is
rows-push (q ∷ qs) r n is = ap (λ rows. q.items ∷ rows) (rows-push qs r n is)

pub push_placed : (runs : List Held) (r : Held) (old new : ℕ → Option Seat) (n : ℕ) → 0 < n → IsPlaced (rows_of runs) old → is_member (members_of (rows_of runs)) n ≡ false → r.items ≡ n ∷ []
    → new n ≡ Some (seat_at (length runs) 0) → ((m : ℕ) → m ≢ n → new m ≡ old m) → IsPlaced (rows_of (runs ++ r ∷ [])) new
push_placed runs r old new n some placed absent is here others =
    subst (λ rows. IsPlaced rows new) (sym (rows-push runs r n is))
    (pushed (rows_of runs) old new n some placed absent (here ∙ ap (λ k. Some (seat_at k 0)) (sym (length-rows runs))) others)

pub push_counted : (runs : List Held) (r : Held) (n : ℕ) → r.items ≡ n ∷ [] → length (members_of (rows_of (runs ++ r ∷ []))) ≡ length (members_of (rows_of runs)) + 1
push_counted runs r n is = ap (λ (xs : List ℕ). length xs) (members-push runs r ∙ ap (λ xs. members_of (rows_of runs) ++ xs) is) ∙ length-append (members_of (rows_of runs)) (n ∷ [])

-- who has no seat has room before it wherever it stands: it stands nowhere
pub stands_nowhere : (runs : List Held) (seat : ℕ → Option Seat) → IsPlaced (rows_of runs) seat → (n : ℕ) → 0 < n → is_some (seat n) ≡ false → HasRoomBefore runs n
stands_nowhere runs seat placed n some none = λ l p stands. absurd (
    let there = placed.found l p (omega arith) in
    let seated : is_some (seat n) ≡ true = ap (λ m. is_some (seat m)) (sym stands) ∙ ap is_some there in
    let no : true ≡ false = sym seated ∙ none in cc)

-- who has a seat sits there
pub sits : (runs : List Held) (room : ℕ) (ends : List Bool) (seat : ℕ → Option Seat) → IsPlaced (rows_of runs) seat → (n : ℕ) (s : Seat) → 0 < n → seat n ≡ Some s
    → SitsAt (record { list = members_of (rows_of runs); room = room; runs = runs; ends = ends }) n s
sits runs room ends seat placed n s some is =
    let stands = placed.told n s is in record {
      number = some;
      stands = stands;
      member = seated_member (rows_of runs) seat placed n s some is;
      placed = place_of_only (members_of (rows_of runs)) n _ some (whole_is (rows_of runs) n s.run s.at some stands) (only_there (rows_of runs) seat placed n s.run s.at some stands);
    }

-- which of two that sit stands before the other
pub before_is : (v : Standing) (a b : ℕ) (x y : Seat) → SitsAt v a x → SitsAt v b y → (r : Bool) → (IsTrue r ↔ Before x y) → IsTrue r ↔ (place_of v.list a < place_of v.list b)
before_is v a b x y sits_a sits_b r answer = (there, back) where
  stands_a : 0 < at (rows_of v.runs) x.run x.at
  stands_a = let e = sits_a.stands in let some = sits_a.number in omega arith

  stands_b : 0 < at (rows_of v.runs) y.run y.at
  stands_b = let e = sits_b.stands in let some = sits_b.number in omega arith

  there : IsTrue r → place_of v.list a < place_of v.list b
  there is_so = let e = earlier (rows_of v.runs) x.run x.at y.run y.at stands_a stands_b (answer.0 is_so) in let u = sits_a.placed in let w = sits_b.placed in omega arith

  back : place_of v.list a < place_of v.list b → IsTrue r
  back lt = by_case (cases_lt x.run y.run) (cases_lt y.run x.run) (cases_lt x.at y.at) (cases_lt y.at x.at) where
    by_case : (x.run < y.run) ⊎ (y.run ≤ x.run) → (y.run < x.run) ⊎ (x.run ≤ y.run) → (x.at < y.at) ⊎ (y.at ≤ x.at) → (y.at < x.at) ⊎ (x.at ≤ y.at) → IsTrue r
    by_case (inl first) q s t = answer.1 (inl first)
    by_case (inr le) (inl later) s t = absurd (let e = earlier (rows_of v.runs) y.run y.at x.run x.at stands_b stands_a (inl later) in let u = sits_a.placed in let w = sits_b.placed in omega arith)
    by_case (inr le) (inr ge) (inl first) t = let same : x.run ≡ y.run = omega arith in answer.1 (inr (same, first))
    by_case (inr le) (inr ge) (inr s) (inl later) =
        let same : y.run ≡ x.run = omega arith in
        absurd (let e = earlier (rows_of v.runs) y.run y.at x.run x.at stands_b stands_a (inr (same, later)) in let u = sits_a.placed in let w = sits_b.placed in omega arith)
    by_case (inr le) (inr ge) (inr s) (inr t) =
        let same_run : x.run ≡ y.run = omega arith in
        let same_at : x.at ≡ y.at = omega arith in
        let same : whole_place (rows_of v.runs) x.run x.at ≡ whole_place (rows_of v.runs) y.run y.at = ap (λ l. whole_place (rows_of v.runs) l x.at) same_run ∙ ap (λ p. whole_place (rows_of v.runs) y.run p) same_at in
        absurd (let u = sits_a.placed in let w = sits_b.placed in omega arith)

-- a list that the runs from a place on are still to be copied to
pub copied : (runs : List Held) (i : ℕ) (r : Held) (sofar more all : List ℕ) → i < length runs → r ≡ get_or runs i r → more ≡ sofar ++ r.items
    → sofar ++ members_of (rows_of (drop i runs)) ≡ all → more ++ members_of (rows_of (drop (i + 1) runs)) ≡ all
copied runs i r sofar more all within is came whole =
    ap (λ xs. xs ++ members_of (rows_of (drop (i + 1) runs))) came ∙ sym (assoc sofar r.items (members_of (rows_of (drop (i + 1) runs)))) ∙ ap (λ xs. sofar ++ xs) (sym (next_run runs i r within is)) ∙ whole where
      assoc : (xs ys zs : List ℕ) → xs ++ (ys ++ zs) ≡ (xs ++ ys) ++ zs
      assoc [] ys zs = refl
      assoc (x ∷ xs) ys zs = ap (λ us. x ∷ us) (assoc xs ys zs)

-- and the list has room for the next run
pub copied_room : (runs : List Held) (i : ℕ) (r : Held) (sofar all : List ℕ) → i < length runs → r ≡ get_or runs i r
    → sofar ++ members_of (rows_of (drop i runs)) ≡ all → length sofar + length r.items ≤ length all
copied_room runs i r sofar all within is whole =
    let len = ap (λ (xs : List ℕ). length xs) whole in
    let parts = length-append sofar (members_of (rows_of (drop i runs))) in
    let next = ap (λ (xs : List ℕ). length xs) (next_run runs i r within is) in
    let rest = length-append r.items (members_of (rows_of (drop (i + 1) runs))) in
    omega arith

-- who has a seat had it before, and is none of these
abbrev pub IsUnseated : List ℕ → (ℕ → Option Seat) → (ℕ → Option Seat) → Type 0
IsUnseated gone old new = (n : ℕ) (s : Seat) → new n ≡ Some s → (old n ≡ Some s) × (is_member gone n ≡ false)

-- a step of the loop that takes seats away
pub unseated_more : (members : List ℕ) (k x : ℕ) (old now next : ℕ → Option Seat) → k < length members → x ≡ get_or members k x → IsUnseated (take k members) old now
    → next x ≡ None → ((m : ℕ) → m ≢ x → next m ≡ now m) → IsUnseated (take (k + 1) members) old next
unseated_more members k x old now next within is sofar here others = λ n s seated. by_case n s seated (cases_eq n x) where
  by_case : (n : ℕ) (s : Seat) → next n ≡ Some s → (n ≡ x) ⊎ (n ≡ x → ⊥) → (old n ≡ Some s) × (is_member (take (k + 1) members) n ≡ false)
  by_case n s seated (inl same) = absurd (let no : None ≡ Some s = sym here ∙ ap next (sym same) ∙ seated in cc)
  by_case n s seated (inr differ) =
      let before = sofar n s (sym (others n differ) ∙ seated) in
      let none = before.1 in
      let more = list_any_more (λ m. m == n) members k x within in
      let other : get_or members k x ≡ n → ⊥ = λ e. differ (sym e ∙ sym is) in
      let last : (get_or members k x == n) ≡ false = grind (arith, nat_tests) in
      (before.0, more ∙ ap (λ b. b || (get_or members k x == n)) none ∙ last)

-- all are taken away
pub emptied : (rows : List (List ℕ)) (old new : ℕ → Option Seat) (members : List ℕ) → IsPlaced rows old → members ≡ members_of rows → IsUnseated members old new → IsPlaced [] new
emptied rows old new members placed same left = record { told = told; found = λ l p some. absurd (omega arith); nobody = nobody } where
  none : (n : ℕ) (s : Seat) → new n ≡ Some s → ⊥
  none n s seated = by_case (cases_eq n 0) where
    by_case : (n ≡ 0) ⊎ (n ≡ 0 → ⊥) → ⊥
    by_case (inl zero_is) = let no : None ≡ Some s = sym placed.nobody ∙ ap old (sym zero_is) ∙ (left n s seated).0 in cc
    by_case (inr some) =
        let there = seated_member rows old placed n s (omega arith) (left n s seated).0 in
        let no : true ≡ false = sym there ∙ ap (λ xs. is_member xs n) (sym same) ∙ (left n s seated).1 in
        cc

  told : (n : ℕ) (s : Seat) → new n ≡ Some s → at [] s.run s.at ≡ n
  told n s seated = absurd (none n s seated)

  nobody : new 0 ≡ None
  nobody = by_case (new 0) refl where
    by_case : (o : Option Seat) → new 0 ≡ o → new 0 ≡ None
    by_case None is = is
    by_case (Some s) is = absurd (none 0 s is)

pub append_none : (xs : List ℕ) → xs ++ [] ≡ xs
append_none [] = refl
append_none (x ∷ xs) = ap (λ ys. x ∷ ys) (append_none xs)

-- what the table tells of a member: where it sits, or that it is none
pub sits_if_some : (runs : List Held) (room : ℕ) (ends : List Bool) (seat : ℕ → Option Seat) → IsPlaced (rows_of runs) seat → (n : ℕ) (o : Option Seat) → 0 < n → o ≡ seat n
    → IfSome o (SitsAt (record { list = members_of (rows_of runs); room = room; runs = runs; ends = ends }) n)
sits_if_some runs room ends seat placed n None some is = tt
sits_if_some runs room ends seat placed n (Some s) some is = sits runs room ends seat placed n s some (sym is)

pub none_if_none : (runs : List Held) (seat : ℕ → Option Seat) → IsPlaced (rows_of runs) seat → (n : ℕ) (o : Option Seat) → 0 < n → o ≡ seat n → IfNone o (is_member (members_of (rows_of runs)) n ≡ false)
none_if_none runs seat placed n None some is = sym (is_some_member (rows_of runs) seat placed n some) ∙ ap is_some (sym is)
none_if_none runs seat placed n (Some s) some is = tt

-- what was appended, read as a part of the whole
pub appended_part : (all xs ys : List ℕ) (k : ℕ) → all ≡ xs ++ ys → k ≡ length xs → take (length all - k) (drop k all) ≡ ys
appended_part all xs ys k whole front =
    ap (λ (zs : List ℕ). take (length zs - k) (drop k zs)) whole ∙ ap (λ i. take (length (xs ++ ys) - i) (drop i (xs ++ ys))) front
    ∙ take_all (length (xs ++ ys) - length xs) (drop (length xs) (xs ++ ys)) upto ∙ drop-append_seam xs ys where
      upto : length (drop (length xs) (xs ++ ys)) ≤ length (xs ++ ys) - length xs
      upto = let parts = length-append xs ys in let rest = ap (λ (zs : List ℕ). length zs) (drop-append_seam xs ys) in omega arith
