-- Where runs start in their lanes, told anew one after the other.
use Rattle.std.proofs.Common.{◌≡◌, ◌≢◌, ℕ, zero, suc, ◌+◌, ◌-◌, ◌<◌, ◌≤◌, Bool, true, false, List, [], ◌∷◌, ◌++◌, length, get_or, set, take, refl, sym, ap, subst, ◌∙◌, ◌⊎◌, inl, inr, arith, if◌then◌else◌}
use Rattle.std.proofs.lemmas.Bool.{cases_eq, cases_lt}
use Rattle.std.proofs.lemmas.List.{get_or-set_same, get_or-set_other}
use Rattle.ltx_agenda.specs.declared.mark.Mark.{Mark}
use Rattle.ltx_agenda.specs.Runs.{members_of}
use Rattle.ltx_agenda.specs.Lanes.{lane_no, start_no}
use Rattle.ltx_agenda.specs.Marks.{ends_of, mark_at, IsInLane, IsStarted}
use Rattle.ltx_agenda.proofs.InLanes.{lane_next, start_next, start_bound, start_before, start_after}

abbrev pub no_mark : Mark
no_mark = record { ends = false; lane = 0; start = 0 }

pub ends_at : (marks : List Mark) (b : ℕ) → get_or (ends_of marks) b false ≡ (mark_at marks b).ends
ends_at [] b = refl
ends_at (m ∷ ms) zero = refl
ends_at (m ∷ ms) (suc b) = ends_at ms b

pub length-ends : (marks : List Mark) → length (ends_of marks) ≡ length marks
length-ends [] = refl
length-ends (m ∷ ms) = ap suc (length-ends ms)

pub ends-set : (marks : List Mark) (b : ℕ) (m : Mark) → m.ends ≡ (mark_at marks b).ends → ends_of (set marks b m) ≡ ends_of marks
ends-set [] b m same = refl
ends-set (n ∷ ns) zero m same = ap (λ e. e ∷ ends_of ns) same
ends-set (n ∷ ns) (suc b) m same = ap (λ es. n.ends ∷ es) (ends-set ns b m same)

-- a run starts there too in marks that are alike at it
pub started_alike : (marks other : List Mark) (rows : List (List ℕ)) (b : ℕ) → ends_of marks ≡ ends_of other → mark_at marks b ≡ mark_at other b → IsStarted other rows b → IsStarted marks rows b
started_alike marks other rows b ends mark is = ap (λ (m : Mark). m.start) mark ∙ is ∙ ap (λ es. start_no 0 es rows b) (sym ends)

-- the next run of the lane
pub restart_next : (marks : List Mark) (rows : List (List ℕ)) (c : ℕ) (m : Mark) → c < length marks → length marks ≡ length rows → 0 < c
    → m.ends ≡ (mark_at marks c).ends → (mark_at marks (c - 1)).ends ≡ false → m.start ≡ (mark_at marks (c - 1)).start + length (get_or rows (c - 1) [])
    → ((b : ℕ) → b < c → b < length marks → IsStarted marks rows b) → (b : ℕ) → b < c + 1 → b < length marks → IsStarted (set marks c m) rows b
restart_next marks rows c m within many some same goes_on start started b before within_b = by_case (cases_eq b c) where
  ends : ends_of (set marks c m) ≡ ends_of marks
  ends = ends-set marks c m same

  here : mark_at (set marks c m) c ≡ m
  here = get_or-set_same marks c m no_mark within

  by_case : (b ≡ c) ⊎ (b ≡ c → ⊥) → IsStarted (set marks c m) rows b
  by_case (inr differ) =
      let ne : b ≢ c = differ in
      started_alike (set marks c m) marks rows b ends (get_or-set_other marks c b m no_mark differ) (started b (omega arith) within_b)
  by_case (inl e) =
      let last = started (c - 1) (omega arith) (omega arith) in
      let len = length-ends marks in
      let one : suc (c - 1) ≡ c = omega arith in
      let next : start_no 0 (ends_of marks) rows (suc (c - 1)) ≡ start_no 0 (ends_of marks) rows (c - 1) + length (get_or rows (c - 1) []) =
      start_next 0 (ends_of marks) rows (c - 1) (omega arith) (omega arith) ∙ ap (λ f. if f then 0 else start_no 0 (ends_of marks) rows (c - 1) + length (get_or rows (c - 1) [])) (ends_at marks (c - 1) ∙ goes_on) in
      let at_c = ap (start_no 0 (ends_of marks) rows) (sym one) in
      let value : m.start ≡ start_no 0 (ends_of marks) rows c = omega arith in
      let there : IsStarted (set marks c m) rows c = ap (λ (n : Mark). n.start) here ∙ value ∙ ap (λ es. start_no 0 es rows c) (sym ends) in
      subst (λ k. IsStarted (set marks c m) rows k) (sym e) there

-- the start fits
pub restart_fits : (marks : List Mark) (rows : List (List ℕ)) (c : ℕ) → c ≤ length marks → length marks ≡ length rows → 0 < c → (mark_at marks (c - 1)).ends ≡ false → IsStarted marks rows (c - 1)
    → (mark_at marks (c - 1)).start + length (get_or rows (c - 1) []) ≤ length (members_of rows)
restart_fits marks rows c within many some goes_on last =
    let len = length-ends marks in
    let next : start_no 0 (ends_of marks) rows (suc (c - 1)) ≡ start_no 0 (ends_of marks) rows (c - 1) + length (get_or rows (c - 1) []) =
    start_next 0 (ends_of marks) rows (c - 1) (omega arith) (omega arith) ∙ ap (λ f. if f then 0 else start_no 0 (ends_of marks) rows (c - 1) + length (get_or rows (c - 1) [])) (ends_at marks (c - 1) ∙ goes_on) in
    let bound = start_bound 0 (ends_of marks) rows (suc (c - 1)) in
    omega arith

-- the mark after the last one
pub next_closed : (marks : List Mark) (rows : List (List ℕ)) (c : ℕ) → c ≡ length marks → length marks ≡ length rows → 0 < c → (mark_at marks (c - 1)).ends ≡ true
    → (lane_no 0 (ends_of marks) c ≡ suc (lane_no 0 (ends_of marks) (c - 1))) × (start_no 0 (ends_of marks) rows c ≡ 0)
next_closed marks rows c all many some ends =
    let len = length-ends marks in
    let one : c ≡ suc (c - 1) = omega arith in (
      ap (lane_no 0 (ends_of marks)) one ∙ lane_next 0 (ends_of marks) (c - 1) (omega arith) ∙ ap (λ f. if f then suc (lane_no 0 (ends_of marks) (c - 1)) else lane_no 0 (ends_of marks) (c - 1)) (ends_at marks (c - 1) ∙ ends),
      ap (start_no 0 (ends_of marks) rows) one ∙ start_next 0 (ends_of marks) rows (c - 1) (omega arith) (omega arith)
          ∙ ap (λ f. if f then 0 else start_no 0 (ends_of marks) rows (c - 1) + length (get_or rows (c - 1) [])) (ends_at marks (c - 1) ∙ ends),
    )

pub next_open : (marks : List Mark) (rows : List (List ℕ)) (c : ℕ) → c ≡ length marks → length marks ≡ length rows → 0 < c → (mark_at marks (c - 1)).ends ≡ false
    → (lane_no 0 (ends_of marks) c ≡ lane_no 0 (ends_of marks) (c - 1)) × (start_no 0 (ends_of marks) rows c ≡ start_no 0 (ends_of marks) rows (c - 1) + length (get_or rows (c - 1) []))
next_open marks rows c all many some ends =
    let len = length-ends marks in
    let one : c ≡ suc (c - 1) = omega arith in (
      ap (lane_no 0 (ends_of marks)) one ∙ lane_next 0 (ends_of marks) (c - 1) (omega arith) ∙ ap (λ f. if f then suc (lane_no 0 (ends_of marks) (c - 1)) else lane_no 0 (ends_of marks) (c - 1)) (ends_at marks (c - 1) ∙ ends),
      ap (start_no 0 (ends_of marks) rows) one ∙ start_next 0 (ends_of marks) rows (c - 1) (omega arith) (omega arith)
          ∙ ap (λ f. if f then 0 else start_no 0 (ends_of marks) rows (c - 1) + length (get_or rows (c - 1) [])) (ends_at marks (c - 1) ∙ ends),
    )

-- a run of which nothing has changed, and one of a later lane
pub kept_before : (marks : List Mark) (rows : List (List ℕ)) (k : ℕ) (ys : List ℕ) (b : ℕ) → b ≤ k → IsStarted marks rows b → IsStarted marks (set rows k ys) b
kept_before marks rows k ys b upto is = is ∙ sym (start_before 0 (ends_of marks) rows k ys b upto)

pub kept_beyond : (marks : List Mark) (rows : List (List ℕ)) (k c : ℕ) (ys : List ℕ) (b : ℕ) → k ≤ c → c < b → b ≤ length rows → (mark_at marks c).ends ≡ true → IsStarted marks rows b → IsStarted marks (set rows k ys) b
kept_beyond marks rows k c ys b from before within ends is = is ∙ sym (start_after 0 (ends_of marks) rows k c ys b from before within (ends_at marks c ∙ ends))

-- and its lane stays
pub lane_kept : (marks : List Mark) (k : ℕ) (m : Mark) (b : ℕ) → m.lane ≡ (mark_at marks k).lane → (mark_at (set marks k m) b).lane ≡ (mark_at marks b).lane
lane_kept [] k m b same = refl
lane_kept (n ∷ ns) zero m zero same = same
lane_kept (n ∷ ns) zero m (suc b) same = refl
lane_kept (n ∷ ns) (suc k) m zero same = refl
lane_kept (n ∷ ns) (suc k) m (suc b) same = lane_kept ns k m b same

pub ends_alike : (marks other : List Mark) (b : ℕ) → ends_of marks ≡ ends_of other → (mark_at other b).ends ≡ (mark_at marks b).ends
ends_alike marks other b same = sym (ends_at other b) ∙ ap (λ es. get_or es b false) (sym same) ∙ ends_at marks b

-- ---- one more run

pub ends-push : (marks : List Mark) (m : Mark) → ends_of (marks ++ m ∷ []) ≡ ends_of marks ++ m.ends ∷ []
ends-push [] m = refl
ends-push (n ∷ ns) m = ap (λ es. n.ends ∷ es) (ends-push ns m)

lane_push : (l : ℕ) (es : List Bool) (e : Bool) (b : ℕ) → b ≤ length es → lane_no l (es ++ e ∷ []) b ≡ lane_no l es b
lane_push l [] e zero upto = refl
lane_push l [] e (suc b) upto = absurd (omega arith)
lane_push l (f ∷ es) e zero upto = refl
lane_push l (true ∷ es) e (suc b) upto = lane_push (suc l) es e b (omega arith)
lane_push l (false ∷ es) e (suc b) upto = lane_push l es e b (omega arith)

start_push : (s : ℕ) (es : List Bool) (rows : List (List ℕ)) (e : Bool) (row : List ℕ) (b : ℕ) → length es ≡ length rows → b ≤ length es → start_no s (es ++ e ∷ []) (rows ++ row ∷ []) b ≡ start_no s es rows b
start_push s [] [] e row zero same upto = refl
start_push s [] [] e row (suc b) same upto = absurd (omega arith)
start_push s [] (r ∷ rows) e row b same upto = absurd (omega arith)
start_push s (f ∷ es) [] e row b same upto = absurd (omega arith)
start_push s (f ∷ es) (r ∷ rows) e row zero same upto = refl
start_push s (true ∷ es) (r ∷ rows) e row (suc b) same upto = start_push 0 es rows e row b (omega arith) (omega arith)
start_push s (false ∷ es) (r ∷ rows) e row (suc b) same upto = start_push (s + length r) es rows e row b (omega arith) (omega arith)

mark_last : (marks : List Mark) (m : Mark) → mark_at (marks ++ m ∷ []) (length marks) ≡ m
mark_last [] m = refl
mark_last (n ∷ ns) m = mark_last ns m

mark_former : (marks : List Mark) (m : Mark) (b : ℕ) → b < length marks → mark_at (marks ++ m ∷ []) b ≡ mark_at marks b
mark_former [] m b within = absurd (omega arith)
mark_former (n ∷ ns) m zero within = refl
mark_former (n ∷ ns) m (suc b) within = mark_former ns m b (omega arith)

pub in_lane-push : (marks : List Mark) (m : Mark) → m.lane ≡ lane_no 0 (ends_of marks) (length marks) → ((b : ℕ) → b < length marks → IsInLane marks b) → (b : ℕ) → b < length marks + 1 → IsInLane (marks ++ m ∷ []) b
in_lane-push marks m lane each b within = by_case (cases_lt b (length marks)) where
  by_case : (b < length marks) ⊎ (length marks ≤ b) → IsInLane (marks ++ m ∷ []) b
  by_case (inl former) =
      let many = length-ends marks in
      ap (λ (n : Mark). n.lane) (mark_former marks m b former) ∙ each b former ∙ sym (lane_push 0 (ends_of marks) m.ends b (omega arith)) ∙ ap (λ es. lane_no 0 es b) (sym (ends-push marks m))
  by_case (inr past) =
      let many = length-ends marks in
      let last : b ≡ length marks = omega arith in
      subst (IsInLane (marks ++ m ∷ [])) (sym last)
      (ap (λ (n : Mark). n.lane) (mark_last marks m) ∙ lane ∙ sym (lane_push 0 (ends_of marks) m.ends (length marks) (omega arith)) ∙ ap (λ es. lane_no 0 es (length marks)) (sym (ends-push marks m)))

pub started-push : (marks : List Mark) (m : Mark) (rows : List (List ℕ)) (row : List ℕ) → length marks ≡ length rows → m.start ≡ start_no 0 (ends_of marks) rows (length marks)
    → ((b : ℕ) → b < length marks → IsStarted marks rows b) → (b : ℕ) → b < length marks + 1 → IsStarted (marks ++ m ∷ []) (rows ++ row ∷ []) b
started-push marks m rows row same start each b within = by_case (cases_lt b (length marks)) where
  by_case : (b < length marks) ⊎ (length marks ≤ b) → IsStarted (marks ++ m ∷ []) (rows ++ row ∷ []) b
  by_case (inl former) =
      let many = length-ends marks in
      ap (λ (n : Mark). n.start) (mark_former marks m b former) ∙ each b former ∙ sym (start_push 0 (ends_of marks) rows m.ends row b (omega arith) (omega arith)) ∙ ap (λ es. start_no 0 es (rows ++ row ∷ []) b) (sym (ends-push marks m))
  by_case (inr past) =
      let many = length-ends marks in
      let last : b ≡ length marks = omega arith in
      subst (IsStarted (marks ++ m ∷ []) (rows ++ row ∷ [])) (sym last)
      (ap (λ (n : Mark). n.start) (mark_last marks m) ∙ start ∙ sym (start_push 0 (ends_of marks) rows m.ends row (length marks) (omega arith) (omega arith)) ∙ ap (λ es. start_no 0 es (rows ++ row ∷ []) (length marks)) (sym (ends-push marks m)))

-- marks that are alike but for where runs start
pub in_lane_alike : (marks new : List Mark) → ends_of new ≡ ends_of marks → ((b : ℕ) → (mark_at new b).lane ≡ (mark_at marks b).lane) → length new ≡ length marks
    → ((b : ℕ) → b < length marks → IsInLane marks b) → (b : ℕ) → b < length new → IsInLane new b
in_lane_alike marks new ends lanes same each b within = lanes b ∙ each b (omega arith) ∙ ap (λ es. lane_no 0 es b) (sym ends)

-- ---- after one run has changed

pub before_at : (old marks : List Mark) (rows new : List (List ℕ)) (k : ℕ) (ys : List ℕ) → marks ≡ old → new ≡ set rows k ys → k < length old → ((b : ℕ) → b < length old → IsStarted old rows b)
    → (b : ℕ) → b ≤ k → IsStarted marks new b
before_at old marks rows new k ys same changed within each b upto =
    subst (λ ms. IsStarted ms new b) (sym same) (subst (λ rs. IsStarted old rs b) (sym changed) (kept_before old rows k ys b upto (each b (omega arith))))

pub beyond_at : (old marks : List Mark) (rows new : List (List ℕ)) (k : ℕ) (ys : List ℕ) → marks ≡ old → new ≡ set rows k ys → length old ≡ length rows → ((b : ℕ) → b < length old → IsStarted old rows b)
    → (b c : ℕ) → k ≤ c → c < b → b < length marks → (mark_at marks c).ends ≡ true → IsStarted marks new b
beyond_at old marks rows new k ys same changed many each b c from before within ends =
    let in_old = subst (λ ms. b < length ms) same within in
    subst (λ ms. IsStarted ms new b) (sym same)
    (subst (λ rs. IsStarted old rs b) (sym changed) (kept_beyond old rows k c ys b from before (omega arith) (subst (λ ms. (mark_at ms c).ends ≡ true) same ends) (each b in_old)))

pub in_lane_done : (old marks new back : List Mark) → marks ≡ old → back ≡ new → ends_of new ≡ ends_of marks → ((b : ℕ) → (mark_at new b).lane ≡ (mark_at marks b).lane) → length new ≡ length marks
    → ((b : ℕ) → b < length old → IsInLane old b) → (b : ℕ) → b < length back → IsInLane back b
in_lane_done old marks new back same written ends lanes many each =
    subst (λ ms. (b : ℕ) → b < length ms → IsInLane ms b) (sym written) (in_lane_alike marks new ends lanes many (subst (λ ms. (b : ℕ) → b < length ms → IsInLane ms b) (sym same) each))

pub started_done : (new back : List Mark) (rows now : List (List ℕ)) → back ≡ new → now ≡ rows → ((b : ℕ) → b < length new → IsStarted new rows b) → (b : ℕ) → b < length back → IsStarted back now b
started_done new back rows now written same each =
    subst (λ ms. (b : ℕ) → b < length ms → IsStarted ms now b) (sym written) (subst (λ rs. (b : ℕ) → b < length new → IsStarted new rs b) (sym same) each)

-- what is written back to a vector in whole
pub written_back : (new rest : List Mark) (k : ℕ) → k ≡ length new → take k (new ++ rest) ≡ new
written_back [] rest zero same = refl
written_back [] rest (suc k) same = absurd (omega arith)
written_back (m ∷ new) rest zero same = absurd (omega arith)
written_back (m ∷ new) rest (suc k) same = ap (λ ms. m ∷ ms) (written_back new rest k (omega arith))
