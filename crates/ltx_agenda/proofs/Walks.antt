-- Steps of the walks over runs, lanes and lengths.
use Rattle.std.proofs.Common.{◌≡◌, ℕ, zero, suc, ◌+◌, ◌-◌, ◌<◌, ◌≤◌, Bool, true, false, List, [], ◌∷◌, ◌++◌, length, length-append, get_or, set, take, drop, refl, sym, ap, ◌∙◌, ◌⊎◌, inl, inr, arith, ◌==◌, if◌then◌else◌}
use Rattle.std.proofs.lemmas.Bool.{cases_eq}
use Rattle.std.proofs.lemmas.Bool.Decides.{nat_tests}
use Rattle.std.proofs.lemmas.List.{drop_more}
use Rattle.ltx_model.specs.Listings.{without}
use Rattle.ltx_agenda.specs.Runs.{members_of, whole_place}
use Rattle.ltx_agenda.specs.Lanes.{onto, lanes_from, total, lane_no, start_no, closed, kept, longer, lane_count}
use Rattle.ltx_agenda.proofs.InLanes.{lane_next, longer_here, longer_on, drop_drop}

-- ---- runs from a place on

module _ (es : List Bool) (rows : List (List ℕ)) (k : ℕ) (within : k < length es) (in_rows : k < length rows) where
  e : Bool
  e = get_or es k false

  row : List ℕ
  row = get_or rows k []

  both : {A : Type 0} (F : List Bool → List (List ℕ) → A) → F (drop k es) (drop k rows) ≡ F (get_or es k false ∷ drop (k + 1) es) (get_or rows k [] ∷ drop (k + 1) rows)
  both F = ap (λ fs. F fs (drop k rows)) (drop_more es k false within) ∙ ap (F (get_or es k false ∷ drop (k + 1) es)) (drop_more rows k [] in_rows)

  pub closed_ends : (s : ℕ) → get_or es k false ≡ true → closed s (drop k es) (drop k rows) ≡ (s + length (get_or rows k [])) ∷ closed 0 (drop (k + 1) es) (drop (k + 1) rows)
  closed_ends s is = both (closed s) ∙ ap (λ f. closed s (f ∷ drop (k + 1) es) (get_or rows k [] ∷ drop (k + 1) rows)) is

  pub closed_on : (s : ℕ) → get_or es k false ≡ false → closed s (drop k es) (drop k rows) ≡ closed (s + length (get_or rows k [])) (drop (k + 1) es) (drop (k + 1) rows)
  closed_on s is = both (closed s) ∙ ap (λ f. closed s (f ∷ drop (k + 1) es) (get_or rows k [] ∷ drop (k + 1) rows)) is

  pub start_ends : (s : ℕ) → get_or es k false ≡ true → start_no s (drop k es) (drop k rows) (length (drop k es)) ≡ start_no 0 (drop (k + 1) es) (drop (k + 1) rows) (length (drop (k + 1) es))
  start_ends s is = both (λ fs rs. start_no s fs rs (length fs)) ∙ ap (λ f. start_no s (f ∷ drop (k + 1) es) (get_or rows k [] ∷ drop (k + 1) rows) (suc (length (drop (k + 1) es)))) is

  pub start_on : (s : ℕ) → get_or es k false ≡ false → start_no s (drop k es) (drop k rows) (length (drop k es)) ≡ start_no (s + length (get_or rows k [])) (drop (k + 1) es) (drop (k + 1) rows) (length (drop (k + 1) es))
  start_on s is = both (λ fs rs. start_no s fs rs (length fs)) ∙ ap (λ f. start_no s (f ∷ drop (k + 1) es) (get_or rows k [] ∷ drop (k + 1) rows) (suc (length (drop (k + 1) es)))) is

  pub members_step : length (members_of (drop k rows)) ≡ length (get_or rows k []) + length (members_of (drop (k + 1) rows))
  members_step = ap (λ rs. length (members_of rs)) (drop_more rows k [] in_rows) ∙ length-append (get_or rows k []) (members_of (drop (k + 1) rows))

  pub count_step : (r : ℕ) → lane_count (lane_no 0 es k) (drop k es) (drop k rows) r ≡ (if lane_no 0 es k == r then length (get_or rows k []) else zero) + lane_count (lane_no 0 es (k + 1)) (drop (k + 1) es) (drop (k + 1) rows) r
  count_step r =
      both (λ fs rs. lane_count (lane_no 0 es k) fs rs r)
      ∙ ap (λ l. (if lane_no 0 es k == r then length (get_or rows k []) else zero) + lane_count l (drop (k + 1) es) (drop (k + 1) rows) r) (sym (lane_next 0 es k within) ∙ ap (lane_no 0 es) (let one : suc k ≡ k + 1 = omega arith in one))

pub count_here : (l r n m : ℕ) → l ≡ r → (if l == r then n else zero) + m ≡ n + m
count_here l r n m same = let here : (if l == r then n else zero) ≡ n = grind (arith, nat_tests) in omega arith

pub count_past : (l r n m : ℕ) → (l ≡ r → ⊥) → (if l == r then n else zero) + m ≡ m
count_past l r n m differ = let none : (if l == r then n else zero) ≡ 0 = grind (arith, nat_tests) in omega arith

-- ---- how many stand in a lane

count_none : (l : ℕ) (es : List Bool) (rows : List (List ℕ)) (r : ℕ) → r < l → lane_count l es rows r ≡ 0
count_none l [] rows r below = refl
count_none l (e ∷ es) [] r below = refl
count_none l (true ∷ es) (row ∷ rows) r below = count_past l r (length row) (lane_count (suc l) es rows r) (λ e. omega arith) ∙ count_none (suc l) es rows r (omega arith)
count_none l (false ∷ es) (row ∷ rows) r below = count_past l r (length row) (lane_count l es rows r) (λ e. omega arith) ∙ count_none l es rows r below

pub lane_length : (l : ℕ) (es : List Bool) (rows : List (List ℕ)) (j : ℕ) → length es ≡ length rows → length (get_or (lanes_from es rows) j []) ≡ lane_count l es rows (l + j)
lane_length l [] [] zero same = refl
lane_length l [] [] (suc j) same = refl
lane_length l [] (row ∷ rows) j same = absurd (omega arith)
lane_length l (e ∷ es) [] j same = absurd (omega arith)
lane_length l (true ∷ es) (row ∷ rows) zero same =
    let none = count_none (suc l) es rows (l + 0) (omega arith) in
    let here = count_here l (l + 0) (length row) (lane_count (suc l) es rows (l + 0)) (omega arith) in
    omega arith
lane_length l (true ∷ es) (row ∷ rows) (suc j) same =
    lane_length (suc l) es rows j (omega arith) ∙ ap (lane_count (suc l) es rows) (let one : suc l + j ≡ l + suc j = omega arith in one)
    ∙ sym (count_past l (l + suc j) (length row) (lane_count (suc l) es rows (l + suc j)) (λ e. omega arith))
lane_length l (false ∷ es) (row ∷ rows) zero same =
    let rest = lane_length l es rows 0 (omega arith) in
    let here = count_here l (l + 0) (length row) (lane_count l es rows (l + 0)) (omega arith) in
    let front = first_length row (lanes_from es rows) in
    omega arith
  where
    first_length : (xs : List ℕ) (lanes : List (List ℕ)) → length (get_or (onto xs lanes) 0 []) ≡ length xs + length (get_or lanes 0 [])
    first_length xs [] = omega arith
    first_length xs (lane ∷ lanes) = length-append xs lane
lane_length l (false ∷ es) (row ∷ rows) (suc j) same =
    ap (λ (xs : List ℕ). length xs) (later row (lanes_from es rows) j) ∙ lane_length l es rows (suc j) (omega arith) ∙ sym (count_past l (l + suc j) (length row) (lane_count l es rows (l + suc j)) (λ e. omega arith)) where
      later : (xs : List ℕ) (lanes : List (List ℕ)) (i : ℕ) → get_or (onto xs lanes) (suc i) [] ≡ get_or lanes (suc i) []
      later xs [] i = refl
      later xs (lane ∷ lanes) i = refl

pub count_most : (l : ℕ) (es : List Bool) (rows : List (List ℕ)) (r : ℕ) → lane_count l es rows r ≤ length (members_of rows)
count_most l [] rows r = omega arith
count_most l (e ∷ es) [] r = omega arith
count_most l (e ∷ es) (row ∷ rows) r = by_case (cases_eq l r) (count_most (if e then suc l else l) es rows r) where
  by_case : (l ≡ r) ⊎ (l ≡ r → ⊥) → lane_count (if e then suc l else l) es rows r ≤ length (members_of rows) → lane_count l (e ∷ es) (row ∷ rows) r ≤ length (row ++ members_of rows)
  by_case (inl same) rest = let here = count_here l r (length row) (lane_count (if e then suc l else l) es rows r) same in let parts = length-append row (members_of rows) in omega arith
  by_case (inr differ) rest = let past = count_past l r (length row) (lane_count (if e then suc l else l) es rows r) differ in let parts = length-append row (members_of rows) in omega arith

-- ---- members that are left

pub left_on : (xs : List ℕ) (i n x : ℕ) → i < length xs → x ≡ get_or xs i x → (x ≡ n → ⊥) → length (without (drop i xs) n) ≡ suc (length (without (drop (i + 1) xs) n))
left_on xs i n x within is differ =
    let other : get_or xs i x ≡ n → ⊥ = λ e. differ (is ∙ e) in
    let front : without (get_or xs i x ∷ drop (i + 1) xs) n ≡ get_or xs i x ∷ without (drop (i + 1) xs) n = grind (arith, nat_tests) in
    ap (λ ys. length (without ys n)) (drop_more xs i x within) ∙ ap (λ (ys : List ℕ). length ys) front

pub left_past : (xs : List ℕ) (i n x : ℕ) → i < length xs → x ≡ get_or xs i x → x ≡ n → length (without (drop i xs) n) ≡ length (without (drop (i + 1) xs) n)
left_past xs i n x within is same =
    let here : get_or xs i x ≡ n = sym is ∙ same in
    let front : without (get_or xs i x ∷ drop (i + 1) xs) n ≡ without (drop (i + 1) xs) n = grind (arith, nat_tests) in
    ap (λ ys. length (without ys n)) (drop_more xs i x within) ∙ ap (λ (ys : List ℕ). length ys) front

-- ---- lengths told anew, the first ones

abbrev pub kept_to : ℕ → List ℕ → List ℕ → ℕ → List ℕ
kept_to zero xs ks n = ks
kept_to (suc j) xs [] n = []
kept_to (suc j) xs (k ∷ ks) n = length (without (take k xs) n) ∷ kept_to j (drop k xs) ks n

pub kept_all : (xs ks : List ℕ) (j n : ℕ) → length ks ≤ j → kept_to j xs ks n ≡ kept xs ks n
kept_all xs [] zero n past = refl
kept_all xs [] (suc j) n past = refl
kept_all xs (k ∷ ks) zero n past = absurd (omega arith)
kept_all xs (k ∷ ks) (suc j) n past = ap (λ zs. length (without (take k xs) n) ∷ zs) (kept_all (drop k xs) ks j n (omega arith))

pub kept_next : (xs ks : List ℕ) (j n : ℕ) → j < length ks → get_or (kept_to j xs ks n) j 0 ≡ get_or ks j 0
kept_next xs [] j n within = absurd (omega arith)
kept_next xs (k ∷ ks) zero n within = refl
kept_next xs (k ∷ ks) (suc j) n within = kept_next (drop k xs) ks j n (omega arith)

pub kept_more : (xs ks : List ℕ) (j n : ℕ) → j < length ks → set (kept_to j xs ks n) j (length (without (take (get_or ks j 0) (drop (total (take j ks)) xs)) n)) ≡ kept_to (j + 1) xs ks n
kept_more xs ks j n within = step xs ks j within ∙ ap (λ i. kept_to i xs ks n) (let one : suc j ≡ j + 1 = omega arith in one) where
  step : (xs ks : List ℕ) (j : ℕ) → j < length ks → set (kept_to j xs ks n) j (length (without (take (get_or ks j 0) (drop (total (take j ks)) xs)) n)) ≡ kept_to (suc j) xs ks n
  step xs [] j within = absurd (omega arith)
  step xs (k ∷ ks) zero within = refl
  step xs (k ∷ ks) (suc j) within =
      ap (λ ys. length (without (take k xs) n) ∷ set (kept_to j (drop k xs) ks n) j (length (without (take (get_or ks j 0) ys) n))) (drop_drop k (total (take j ks)) xs)
      ∙ ap (λ zs. length (without (take k xs) n) ∷ zs) (step (drop k xs) ks j (omega arith))

pub total_next : (ks : List ℕ) (j : ℕ) → j < length ks → total (take (j + 1) ks) ≡ total (take j ks) + get_or ks j 0
total_next ks j within = ap (λ i. total (take i ks)) (let one : j + 1 ≡ suc j = omega arith in one) ∙ step ks j within where
  step : (ks : List ℕ) (j : ℕ) → j < length ks → total (take (suc j) ks) ≡ total (take j ks) + get_or ks j 0
  step [] j within = absurd (omega arith)
  step (k ∷ ks) zero within = omega arith
  step (k ∷ ks) (suc j) within = let rest = step ks j (omega arith) in omega arith

pub total_most : (ks : List ℕ) (j : ℕ) → total (take j ks) ≤ total ks
total_most ks zero = omega arith
total_most [] (suc j) = omega arith
total_most (k ∷ ks) (suc j) = let rest = total_most ks j in omega arith

pub total_done : (ks : List ℕ) (j : ℕ) → length ks ≤ j → total (take j ks) ≡ total ks
total_done [] zero past = refl
total_done [] (suc j) past = refl
total_done (k ∷ ks) zero past = absurd (omega arith)
total_done (k ∷ ks) (suc j) past = let rest = total_done ks j (omega arith) in omega arith

-- the lane of a place
pub longer_found : (ks : List ℕ) (j left : ℕ) → j < length ks → left < get_or ks j 0 → longer ks (total (take j ks) + left) ≡ set ks j (get_or ks j 0 + 1)
longer_found [] j left within below = absurd (omega arith)
longer_found (k ∷ ks) zero left within below = ap (longer (k ∷ ks)) (let e : 0 + left ≡ left = omega arith in e) ∙ longer_here k ks left below ∙ ap (λ i. i ∷ ks) (let one : suc k ≡ k + 1 = omega arith in one)
longer_found (k ∷ ks) (suc j) left within below =
    longer_on k ks (k + total (take j ks) + left) (omega arith)
    ∙ ap (λ p. k ∷ longer ks p) (let e : k + total (take j ks) + left - k ≡ total (take j ks) + left = omega arith in e)
    ∙ ap (λ zs. k ∷ zs) (longer_found ks j left (omega arith) below)

pub whole_least : (rows : List (List ℕ)) (l p : ℕ) → p ≤ whole_place rows l p
whole_least [] l p = omega arith
whole_least (row ∷ rows) zero p = omega arith
whole_least (row ∷ rows) (suc l) p = let rest = whole_least rows l p in omega arith

-- ---- the walk over runs that closes their lanes

pub closing_ends : (es : List Bool) (rows : List (List ℕ)) (k s : ℕ) (lens : List ℕ) → k < length es → k < length rows → get_or es k false ≡ true
    → (lens ++ (s + length (get_or rows k [])) ∷ []) ++ closed 0 (drop (k + 1) es) (drop (k + 1) rows) ≡ lens ++ closed s (drop k es) (drop k rows)
closing_ends es rows k s lens within in_rows is = snoc lens (s + length (get_or rows k [])) (closed 0 (drop (k + 1) es) (drop (k + 1) rows)) ∙ ap (λ ys. lens ++ ys) (sym (closed_ends es rows k within in_rows s is)) where
  snoc : (xs : List ℕ) (y : ℕ) (ys : List ℕ) → (xs ++ y ∷ []) ++ ys ≡ xs ++ y ∷ ys
  snoc [] y ys = refl
  snoc (x ∷ xs) y ys = ap (λ zs. x ∷ zs) (snoc xs y ys)
