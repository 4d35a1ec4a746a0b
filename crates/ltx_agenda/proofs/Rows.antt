-- A list in rows: places in a row and places in the whole.
use Rattle.std.proofs.Common.{◌≡◌, ◌≢◌, ℕ, zero, suc, ◌+◌, ◌-◌, ◌<◌, ◌≤◌, List, [], ◌∷◌, ◌++◌, length, get_or, set, refl, sym, ap, ◌∙◌, ◌⊎◌, inl, inr, arith}
use Rattle.std.specs.List.{insert, remove}
use Rattle.std.proofs.lemmas.Bool.{cases_lt}
use Rattle.std.proofs.lemmas.List.{get_or_append_left, get_or-append-add, get_or-append_right, get_or_past}
use Rattle.std.proofs.lemmas.List.Edits.{insert-append_left, insert-append_right, remove-append_left, remove-append_right}
use Rattle.ltx_agenda.specs.Runs.{at, members_of, whole_place}

-- a member's place lies within its row
pub at_within : (rows : List (List ℕ)) (l p : ℕ) → 0 < at rows l p → (l < length rows) × (p < length (get_or rows l []))
at_within [] l p some = absurd (omega arith)
at_within (row ∷ rows) zero p some = by_case (cases_lt p (length row)) where
  by_case : (p < length row) ⊎ (length row ≤ p) → (0 < length (row ∷ rows)) × (p < length row)
  by_case (inl within) = (omega arith, within)
  by_case (inr past) = absurd (let none = get_or_past row p 0 past in omega arith)
at_within (row ∷ rows) (suc l) p some = let rest = at_within rows l p some in (omega arith, rest.1)

pub at_row : (rows : List (List ℕ)) (l p : ℕ) → at rows l p ≡ get_or (get_or rows l []) p 0
at_row [] l p = refl
at_row (row ∷ rows) zero p = refl
at_row (row ∷ rows) (suc l) p = at_row rows l p

-- the member at a place of a row stands at that place of the whole
pub at_whole : (rows : List (List ℕ)) (l p : ℕ) → 0 < at rows l p → get_or (members_of rows) (whole_place rows l p) 0 ≡ at rows l p
at_whole [] l p some = absurd (omega arith)
at_whole (row ∷ rows) zero p some =
    let within = at_within (row ∷ rows) zero p some in
    get_or_append_left row (members_of rows) 0 p within.1
at_whole (row ∷ rows) (suc l) p some = get_or-append-add row (members_of rows) (whole_place rows l p) 0 ∙ at_whole rows l p some

-- each place of the whole is one of a row
pub record Home (rows : List (List ℕ)) (i : ℕ) : Type 0 where
  pub row : ℕ
  pub place : ℕ
  pub member : at rows row place ≡ get_or (members_of rows) i 0
  pub whole : whole_place rows row place ≡ i

pub home : (rows : List (List ℕ)) (i : ℕ) → 0 < get_or (members_of rows) i 0 → Home rows i
home [] i some = absurd (omega arith)
home (row ∷ rows) i some = by_case (cases_lt i (length row)) (home rows (i - length row)) where
  by_case : (i < length row) ⊎ (length row ≤ i) → (0 < get_or (members_of rows) (i - length row) 0 → Home rows (i - length row)) → Home (row ∷ rows) i
  by_case (inl within) later = record { row = zero; place = i; member = sym (get_or_append_left row (members_of rows) 0 i within); whole = refl }
  by_case (inr past) later =
      let there : get_or (row ++ members_of rows) i 0 ≡ get_or (members_of rows) (i - length row) 0 = get_or-append_right row (members_of rows) (length row) i 0 refl past in
      let rest = later (omega arith) in
      record { row = suc rest.row; place = rest.place; member = rest.member ∙ sym there; whole = let w = rest.whole in omega arith }

-- places in the whole stand in the order of rows, and in a row in that of places
pub earlier_row : (rows : List (List ℕ)) (l p k q : ℕ) → l < k → 0 < at rows l p → 0 < at rows k q → whole_place rows l p < whole_place rows k q
earlier_row [] l p k q before some other = absurd (omega arith)
earlier_row (row ∷ rows) l p zero q before some other = absurd (omega arith)
earlier_row (row ∷ rows) zero p (suc k) q before some other = let within = at_within (row ∷ rows) zero p some in let in_row = within.1 in omega arith
earlier_row (row ∷ rows) (suc l) p (suc k) q before some other = let rest = earlier_row rows l p k q (omega arith) some other in omega arith

pub earlier_place : (rows : List (List ℕ)) (l p q : ℕ) → p < q → whole_place rows l p < whole_place rows l q
earlier_place [] l p q before = before
earlier_place (row ∷ rows) zero p q before = before
earlier_place (row ∷ rows) (suc l) p q before = let rest = earlier_place rows l p q before in omega arith

-- an edit of a row is one of the whole
pub members-remove : (rows : List (List ℕ)) (l p : ℕ) → 0 < at rows l p → members_of (set rows l (remove (get_or rows l []) p)) ≡ remove (members_of rows) (whole_place rows l p)
members-remove [] l p some = absurd (omega arith)
members-remove (row ∷ rows) zero p some = let within = at_within (row ∷ rows) zero p some in sym (remove-append_left row (members_of rows) p within.1)
members-remove (row ∷ rows) (suc l) p some =
    let rest = members-remove rows l p some in
    let there : remove (row ++ members_of rows) (length row + whole_place rows l p) ≡ row ++ remove (members_of rows) (length row + whole_place rows l p - length row) = remove-append_right row (members_of rows) (length row) (length row + whole_place rows l p) refl (omega arith) in
    let same : length row + whole_place rows l p - length row ≡ whole_place rows l p = omega arith in
    ap (λ xs. row ++ xs) rest ∙ ap (λ i. row ++ remove (members_of rows) i) (sym same) ∙ sym there

pub members-insert : (rows : List (List ℕ)) (l p y : ℕ) → 0 < at rows l p → members_of (set rows l (insert (get_or rows l []) p y)) ≡ insert (members_of rows) (whole_place rows l p) y
members-insert [] l p y some = absurd (omega arith)
members-insert (row ∷ rows) zero p y some = let within = at_within (row ∷ rows) zero p some in let in_row = within.1 in sym (insert-append_left row (members_of rows) p y (omega arith))
members-insert (row ∷ rows) (suc l) p y some =
    let rest = members-insert rows l p y some in
    let there : insert (row ++ members_of rows) (length row + whole_place rows l p) y ≡ row ++ insert (members_of rows) (length row + whole_place rows l p - length row) y = insert-append_right row (members_of rows) (length row) (length row + whole_place rows l p) y refl (omega arith) in
    let same : length row + whole_place rows l p - length row ≡ whole_place rows l p = omega arith in
    ap (λ xs. row ++ xs) rest ∙ ap (λ i. row ++ insert (members_of rows) i y) (sym same) ∙ sym there

-- what stands where after one row has changed
pub at-set_same : (rows : List (List ℕ)) (l p : ℕ) (ys : List ℕ) → l < length rows → at (set rows l ys) l p ≡ get_or ys p 0
at-set_same [] l p ys within = absurd (omega arith)
at-set_same (row ∷ rows) zero p ys within = refl
at-set_same (row ∷ rows) (suc l) p ys within = at-set_same rows l p ys (omega arith)

pub at-set_other : (rows : List (List ℕ)) (l k p : ℕ) (ys : List ℕ) → k ≢ l → at (set rows l ys) k p ≡ at rows k p
at-set_other [] l k p ys apart = refl
at-set_other (row ∷ rows) zero zero p ys apart = absurd (apart refl)
at-set_other (row ∷ rows) zero (suc k) p ys apart = refl
at-set_other (row ∷ rows) (suc l) zero p ys apart = refl
at-set_other (row ∷ rows) (suc l) (suc k) p ys apart = at-set_other rows l k p ys (λ e. apart (ap suc e))

-- what stands where after one more row
pub at-push : (rows : List (List ℕ)) (n l p : ℕ) → ((l ≡ length rows) × (p ≡ 0) × (at (rows ++ (n ∷ []) ∷ []) l p ≡ n)) ⊎ (at (rows ++ (n ∷ []) ∷ []) l p ≡ at rows l p)
at-push [] n zero zero = inl (refl, refl, refl)
at-push [] n zero (suc p) = inr refl
at-push [] n (suc l) p = inr refl
at-push (row ∷ rows) n zero p = inr refl
at-push (row ∷ rows) n (suc l) p = by_case (at-push rows n l p) where
  by_case : ((l ≡ length rows) × (p ≡ 0) × (at (rows ++ (n ∷ []) ∷ []) l p ≡ n)) ⊎ (at (rows ++ (n ∷ []) ∷ []) l p ≡ at rows l p) → ((suc l ≡ length (row ∷ rows)) × (p ≡ 0) × (at ((row ∷ rows) ++ (n ∷ []) ∷ []) (suc l) p ≡ n)) ⊎ (at ((row ∷ rows) ++ (n ∷ []) ∷ []) (suc l) p ≡ at (row ∷ rows) (suc l) p)
  by_case (inl h) = inl (ap suc h.0, h.1, h.2)
  by_case (inr h) = inr h
