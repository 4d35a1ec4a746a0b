-- Commits, one entry after another, and as an order has them.
use Rattle.std.proofs.Common.{◌≡◌, ℕ, ◌+◌, ◌<◌, ◌≤◌, Bool, true, false, List, [], ◌∷◌, ◌++◌, length, get_or, take, Option, Some, None, option_map, refl, inl, inr, sym, ap, subst, ◌∙◌, arith}
use Rattle.std.specs.List.{AllByRecursion, find, cons_option}
use Rattle.ltx_model.specs.declared.replies.Entry.{Entry}
use Rattle.ltx_model.specs.declared.replies.Reply.{Reply}
use Rattle.ltx_model.specs.Histories.{session_of}
use Rattle.ltx_model.specs.Lists.{or_else}
use Rattle.ltx_check.specs.declared.commits.Commit.{Commit}
use Rattle.ltx_check.specs.declared.commits.Way.{Way}
use Rattle.ltx_check.specs.declared.desk.Seat.{Seat}
use Rattle.ltx_check.specs.Opens.{Desk, first_desk, seat_of, desk_after, desk_from}
use Rattle.ltx_check.specs.Marks.{way_by, commit_at, commit_in, commit_by, commits_from, commits_of, is_commit_of, in_order, kept_if, AgainstAt}
use Rattle.ltx_check.proofs.Placed.{desk_more, take_more}
use Rattle.ltx_check.proofs.Gathering.{length_take}

-- ---- one entry more

commits_more : (place : ℕ) (desk : Desk) (xs : List Entry) (x : Entry) → commits_from place desk (xs ++ x ∷ []) ≡ commits_from place desk xs ++ cons_option (commit_by (place + length xs) (desk_from desk xs) x) []
unfolding commits_from desk_from
commits_more place desk [] x = ap (λ k. cons_option (commit_by k desk x) []) (omega arith)
commits_more place desk (y ∷ xs) x =
    let rest = commits_more (place + 1) (desk_after desk y) xs x in
    let far : (place + 1) + length xs ≡ place + length (y ∷ xs) = omega arith in
    ap (cons_option (commit_by place desk y)) (rest ∙ ap (λ k. commits_from (place + 1) (desk_after desk y) xs ++ cons_option (commit_by k (desk_from (desk_after desk y) xs) x) []) far)
    ∙ joined (commit_by place desk y)
  where
    joined : (o : Option Commit) → cons_option o (commits_from (place + 1) (desk_after desk y) xs ++ cons_option (commit_by (place + length (y ∷ xs)) (desk_from (desk_after desk y) xs) x) [])
        ≡ cons_option o (commits_from (place + 1) (desk_after desk y) xs) ++ cons_option (commit_by (place + length (y ∷ xs)) (desk_from (desk_after desk y) xs) x) []
    joined None = refl
    joined (Some t) = refl

-- these entries were read, and these are their commits
pub record Committing (entries : List Entry) (place : ℕ) (now : Desk) (commits : List Commit) : Type 0 where
  pub desk : now ≡ desk_from first_desk (take place entries)
  pub told : commits ≡ commits_of (take place entries)

pub committing_none : (entries : List Entry) (d : Desk) (commits : List Commit) → d ≡ first_desk → commits ≡ [] → Committing entries 0 d commits
unfolding desk_from commits_from
committing_none entries d commits desk none = record { desk = desk; told = none }

pub committing_more : (entries : List Entry) (place : ℕ) (old new : Desk) (before after : List Commit) (entry : Entry) → Committing entries place old before → place < length entries → entry ≡ get_or entries place entry
    → new ≡ desk_after old entry → after ≡ before ++ cons_option (commit_by place old entry) [] → Committing entries (place + 1) new after
committing_more entries place old new before after entry kept low is next pushed =
    let more = take_more entries place entry low is in
    let front = take place entries in
    let far : place ≡ 0 + length front = omega (arith, length_take entries place low) in
    record {
      desk = next ∙ ap (λ d. desk_after d entry) kept.desk ∙ sym (desk_more first_desk front entry) ∙ ap (desk_from first_desk) (sym more);
      told = pushed
          ∙ (λ i. kept.told i ++ cons_option (commit_by (far i) (kept.desk i) entry) [])
          ∙ sym (commits_more 0 first_desk front entry)
          ∙ ap commits_of (sym more);
    }

pub committing_all : (entries : List Entry) (place : ℕ) (d : Desk) (commits : List Commit) → Committing entries place d commits → take place entries ≡ entries → commits ≡ commits_of entries
committing_all entries place d commits kept all = kept.told ∙ ap commits_of all

-- ---- one commit more

pub found_more : (n : ℕ) (cs : List Commit) (c : Commit) → find (is_commit_of n) (cs ++ c ∷ []) ≡ or_else (find (is_commit_of n) cs) (kept_if (is_commit_of n c) c)
found_more n [] c = by (is_commit_of n c) refl where
  by : (b : Bool) → is_commit_of n c ≡ b → find (is_commit_of n) (c ∷ []) ≡ kept_if (is_commit_of n c) c
  by true e = rw e refl
  by false e = rw e refl
found_more n (x ∷ cs) c = by (found_more n cs c) (is_commit_of n x) refl where
  by : find (is_commit_of n) (cs ++ c ∷ []) ≡ or_else (find (is_commit_of n) cs) (kept_if (is_commit_of n c) c) → (b : Bool) → is_commit_of n x ≡ b
      → find (is_commit_of n) (x ∷ cs ++ c ∷ []) ≡ or_else (find (is_commit_of n) (x ∷ cs)) (kept_if (is_commit_of n c) c)
  by rest true e = rw e refl
  by rest false e = rw e rest

pub order_more : (cs : List Commit) (order : List ℕ) (n : ℕ) → in_order cs (order ++ n ∷ []) ≡ in_order cs order ++ cons_option (find (is_commit_of n) cs) []
order_more cs [] n = refl
order_more cs (m ∷ order) n = ap (cons_option (find (is_commit_of m) cs)) (order_more cs order n) ∙ joined (find (is_commit_of m) cs)
  where
    joined : (o : Option Commit) → cons_option o (in_order cs order ++ cons_option (find (is_commit_of n) cs) []) ≡ cons_option o (in_order cs order) ++ cons_option (find (is_commit_of n) cs) []
    joined None = refl
    joined (Some c) = refl

-- ---- each is of an entry

-- an entry's commit stands at its place
here_at : (place : ℕ) (seat : Option Seat) (reply : Reply) (c : Commit) → commit_at place seat reply ≡ Some c → c.place ≡ place
here_at place None reply c e = cc
here_at place (Some seat) reply c e = by (way_by seat.short reply) e where
  by : (w : Option Way) → option_map (λ way. record { number = seat.number; way = way; place = place }) w ≡ Some c → c.place ≡ place
  by None e = cc
  by (Some w) e = let same : ◌≡◌ {A = Commit} (record { number = seat.number; way = w; place = place }) c = cc in sym (ap (λ d. d.place) same)

here : (place : ℕ) (desk : Desk) (entry : Entry) (c : Commit) → commit_by place desk entry ≡ Some c → c.place ≡ place
here place desk entry c = by (session_of entry.line) where
  by : (s : Option ℕ) → commit_in place s desk entry.reply ≡ Some c → c.place ≡ place
  by None e = cc
  by (Some session) e = here_at place (seat_of desk.seats session) entry.reply c e

wider : (most more : ℕ) → most ≤ more → (cs : List Commit) → AllByRecursion (λ c. c.place < most) cs → AllByRecursion (λ c. c.place < more) cs
wider most more le [] all = tt
wider most more le (c ∷ cs) all = let low : c.place < most = all.0 in (omega (arith, low, le), wider most more le cs all.1)

commits_low : (place : ℕ) (desk : Desk) (xs : List Entry) → AllByRecursion (λ c. c.place < place + length xs) (commits_from place desk xs)
unfolding commits_from
commits_low place desk [] = tt
commits_low place desk (x ∷ xs) = by (wider ((place + 1) + length xs) (place + length (x ∷ xs)) (omega arith) (commits_from (place + 1) (desk_after desk x) xs) (commits_low (place + 1) (desk_after desk x) xs)) (commit_by place desk x) refl where
  by : AllByRecursion (λ c. c.place < place + length (x ∷ xs)) (commits_from (place + 1) (desk_after desk x) xs) → (o : Option Commit) → commit_by place desk x ≡ o
      → AllByRecursion (λ c. c.place < place + length (x ∷ xs)) (cons_option o (commits_from (place + 1) (desk_after desk x) xs))
  by rest None e = rest
  by rest (Some c) e = let at = here place desk x c e in (omega (arith, at), rest)

found_low : (most n : ℕ) (cs : List Commit) (c : Commit) → AllByRecursion (λ d. d.place < most) cs → find (is_commit_of n) cs ≡ Some c → c.place < most
found_low most n [] c all e = cc
found_low most n (d ∷ ds) c all e = by (found_low most n ds c all.1) (is_commit_of n d) refl where
  one : (x y : Commit) → Some x ≡ Some y → x ≡ y
  one x y e = cc

  by : (find (is_commit_of n) ds ≡ Some c → c.place < most) → (b : Bool) → is_commit_of n d ≡ b → c.place < most
  by rest true is = let same : d ≡ c = one d c (rw is at e) in subst (λ x. x.place < most) same all.0
  by rest false is = rest (rw is at e)

order_low : (most : ℕ) (cs : List Commit) (order : List ℕ) → AllByRecursion (λ c. c.place < most) cs → AllByRecursion (λ c. c.place < most) (in_order cs order)
order_low most cs [] all = tt
order_low most cs (n ∷ order) all = by (order_low most cs order all) (find (is_commit_of n) cs) refl where
  by : AllByRecursion (λ c. c.place < most) (in_order cs order) → (o : Option Commit) → find (is_commit_of n) cs ≡ o → AllByRecursion (λ c. c.place < most) (cons_option o (in_order cs order))
  by rest None e = rest
  by rest (Some c) e = (found_low most n cs c all e, rest)

against_low : (most : ℕ) (run : List Commit) (place : ℕ) → AllByRecursion (λ c. c.place < most) run → AgainstAt run place → place < most
against_low most [] place all against = absurd against
against_low most (c ∷ run) place all (inl against) = let low : c.place < most = all.0 in omega (arith, low, against.0)
against_low most (c ∷ run) place all (inr against) = against_low most run place all.1 against

pub marks_low : (history : List Entry) (order : List ℕ) (place : ℕ) → AgainstAt (in_order (commits_of history) order) place → place < length history
marks_low history order place against =
    let low = against_low (0 + length history) (in_order (commits_of history) order) place (order_low (0 + length history) (commits_of history) order (commits_low 0 first_desk history)) against in
    omega (arith, low)
