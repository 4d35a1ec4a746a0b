-- The agenda in lanes, one after the other and the open one last: what each call makes of them.
use Rattle.std.specs.Prelude.{ℕ, zero, suc, Bool, nat_lt, ◌==◌, ◌-◌, ◌+◌, List, [], ◌∷◌, ◌++◌, map, take, drop, length, if◌then◌else◌}
use Rattle.ltx_model.specs.Listings.{is_member, without, insert_before}

-- a number at the end of the open lane
abbrev pub at_end : List (List ℕ) → ℕ → List (List ℕ)
at_end [] n = (n ∷ []) ∷ []
at_end (lane ∷ []) n = (lane ++ n ∷ []) ∷ []
at_end (lane ∷ (next ∷ lanes)) n = lane ∷ at_end (next ∷ lanes) n

-- each lane without a number
abbrev pub lanes_without : List (List ℕ) → ℕ → List (List ℕ)
lanes_without lanes n = map (λ lane. without lane n) lanes

-- a number immediately before another one, in the lane of that one
abbrev pub lanes_insert : ℕ → ℕ → List (List ℕ) → List (List ℕ)
lanes_insert x target [] = []
lanes_insert x target (lane ∷ lanes) = if is_member lane target then insert_before x target lane ∷ lanes else lane ∷ lanes_insert x target lanes

-- a list that stands before what is in the first lane
abbrev pub onto : List ℕ → List (List ℕ) → List (List ℕ)
onto xs [] = xs ∷ []
onto xs (lane ∷ lanes) = (xs ++ lane) ∷ lanes

-- runs as lanes: a run that ends its lane is the last one there
abbrev pub lanes_from : List Bool → List (List ℕ) → List (List ℕ)
lanes_from [] rows = [] ∷ []
lanes_from (e ∷ es) [] = [] ∷ []
lanes_from (e ∷ es) (row ∷ rows) = if e then row ∷ lanes_from es rows else onto row (lanes_from es rows)

-- a list as lanes: closed ones of these lengths, and what is left in the first of the others
abbrev pub cut : List ℕ → List ℕ → List (List ℕ) → List (List ℕ)
cut xs [] lanes = onto xs lanes
cut xs (k ∷ ks) lanes = take k xs ∷ cut (drop k xs) ks lanes

-- all that stand in closed lanes of these lengths
abbrev pub total : List ℕ → ℕ
total [] = zero
total (k ∷ ks) = k + total ks

-- how many of the first runs end a lane, and so many more: the lane of the next one
abbrev pub lane_no : ℕ → List Bool → ℕ → ℕ
lane_no l [] b = l
lane_no l (e ∷ es) zero = l
lane_no l (e ∷ es) (suc b) = lane_no (if e then suc l else l) es b

-- how many stand before a run in its lane
abbrev pub start_no : ℕ → List Bool → List (List ℕ) → ℕ → ℕ
start_no s [] rows b = s
start_no s (e ∷ es) [] b = s
start_no s (e ∷ es) (row ∷ rows) zero = s
start_no s (e ∷ es) (row ∷ rows) (suc b) = start_no (if e then zero else s + length row) es rows b

-- the lengths of the lanes that runs close, where so many stand before in the first one
abbrev pub closed : ℕ → List Bool → List (List ℕ) → List ℕ
closed s [] rows = []
closed s (e ∷ es) [] = []
closed s (e ∷ es) (row ∷ rows) = if e then (s + length row) ∷ closed zero es rows else closed (s + length row) es rows

-- those lengths once a number is out of the list
abbrev pub kept : List ℕ → List ℕ → ℕ → List ℕ
kept xs [] n = []
kept xs (k ∷ ks) n = length (without (take k xs) n) ∷ kept (drop k xs) ks n

-- those lengths once one has come before what stands at a place of the list
abbrev pub longer : List ℕ → ℕ → List ℕ
longer [] p = []
longer (k ∷ ks) p = if nat_lt p k then suc k ∷ ks else k ∷ longer ks (p - k)

-- how many stand in a lane, of runs from a lane on
abbrev pub lane_count : ℕ → List Bool → List (List ℕ) → ℕ → ℕ
lane_count l [] rows r = zero
lane_count l (e ∷ es) [] r = zero
lane_count l (e ∷ es) (row ∷ rows) r = (if l == r then length row else zero) + lane_count (if e then suc l else l) es rows r
