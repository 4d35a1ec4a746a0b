-- The commits of a history, and which of them may stand before which others in the serial order.
use Rattle.std.specs.Prelude.{◌≡◌, ◌⊎◌, ◌≤◌, ℕ, ◌+◌, Bool, true, false, ◌==◌, ◌&&◌, nat_lt, List, [], ◌∷◌, Option, Some, None, option_map}
use Rattle.std.specs.List.{find, list_any, cons_option}
use Rattle.ltx_model.specs.declared.replies.Entry.{Entry}
use Rattle.ltx_model.specs.declared.replies.Reply.{Reply}
use Rattle.ltx_model.specs.declared.replies.Reply.TheVariants as replies
use Rattle.ltx_model.specs.Lists.{IsPairwise}
use Rattle.ltx_model.specs.Histories.{session_of}
use Rattle.ltx_check.specs.declared.commits.Commit.{Commit}
use Rattle.ltx_check.specs.declared.commits.Way.{Way}
use Rattle.ltx_check.specs.declared.commits.Way.TheVariants as ways
use Rattle.ltx_check.specs.declared.desk.Seat.{Seat}
use Rattle.ltx_check.specs.declared.marks.Behind.{Behind}
use Rattle.ltx_check.specs.Opens.{Desk, first_desk, seat_of, desk_after}
use Rattle.ltx_check.specs.Replays.{least_of}

-- ---- commits

-- how a short, or a batch, is committed where no target is printed
abbrev pub way_of : Bool → Way
way_of true = ways.Short
way_of false = ways.Home

-- how a reply commits a short, or a batch, if it does
abbrev pub way_by : Bool → Reply → Option Way
way_by short (replies.Committed epoch) = Some (way_of short)
way_by short (replies.CommittedBefore epoch target) = Some ways.Forwarded
way_by short reply = None

-- what a reply commits, where its entry stands at this place and its session has this seat
abbrev pub commit_at : ℕ → Option Seat → Reply → Option Commit
commit_at place None reply = None
commit_at place (Some seat) reply = option_map (λ way. record { number = seat.number; way = way; place = place }) (way_by seat.short reply)

-- in the session of a line, if it has one
abbrev pub commit_in : ℕ → Option ℕ → Desk → Reply → Option Commit
commit_in place None desk reply = None
commit_in place (Some session) desk reply = commit_at place (seat_of desk.seats session) reply

-- what an entry at a place commits
abbrev pub commit_by : ℕ → Desk → Entry → Option Commit
commit_by place desk entry = commit_in place (session_of entry.line) desk entry.reply

-- what entries from a place on commit, where this is open before them
unfoldable pub commits_from : ℕ → Desk → List Entry → List Commit
commits_from place desk [] = []
commits_from place desk (entry ∷ entries) = cons_option (commit_by place desk entry) (commits_from (place + 1) (desk_after desk entry) entries)

-- the commits of a history, in time
abbrev pub commits_of : List Entry → List Commit
commits_of history = commits_from 0 first_desk history

-- ---- commits in the serial order

-- the commit has this number
abbrev pub is_commit_of : ℕ → Commit → Bool
is_commit_of n c = c.number == n

-- the commits with these numbers, in this order
abbrev pub in_order : List Commit → List ℕ → List Commit
in_order commits [] = []
in_order commits (n ∷ order) = cons_option (find (is_commit_of n) commits) (in_order commits order)

-- a batch is committed so
abbrev pub is_batch : Way → Bool
is_batch ways.Short = false
is_batch ways.Home = true
is_batch ways.Forwarded = true

abbrev pub is_against_so : Way → Commit → Commit → Bool
is_against_so ways.Short x y = nat_lt y.place x.place
is_against_so ways.Home x y = is_batch y.way && nat_lt y.number x.number
is_against_so ways.Forwarded x y = false

-- The commit x may not stand before y: x is of a short, and y was committed before it; or x is of a batch that is not printed as
-- forwarded, and y is of a batch with a smaller number.
abbrev pub is_against : Commit → Commit → Bool
is_against x y = is_against_so x.way x y

-- none of these commits stands before one that it may not stand before
abbrev pub AreApart : List Commit → Type 0
AreApart run = IsPairwise (λ x y. is_against x y ≡ false) run

-- The commits of a history stand in an order where they may: a short after everything that was committed before it, and of two
-- batches against their numbers the one with the greater number is printed as forwarded.
abbrev pub KeepsPlaces : List Entry → List ℕ → Type 0
KeepsPlaces history order = AreApart (in_order (commits_of history) order)

-- The commit whose entry stands at this place is before one that it may not stand before.
abbrev pub AgainstAt : List Commit → ℕ → Type 0
AgainstAt [] place = ⊥
AgainstAt (x ∷ xs) place = ((place ≡ x.place) × (list_any (is_against x) xs ≡ true)) ⊎ AgainstAt xs place

-- The entry with this number is the first whose commit stands in the order before one that it may not stand before.
pub record IsMarksFault (history : List Entry) (order : List ℕ) (number : ℕ) : Type 0 where
  pub place : ℕ
  pub against : AgainstAt (in_order (commits_of history) order) place
  pub first : (other : ℕ) → AgainstAt (in_order (commits_of history) order) other → place ≤ other
  pub counted : number ≡ place + 1

-- ---- what stands behind

-- a commit, where it has this number
abbrev pub kept_if : Bool → Commit → Option Commit
kept_if true c = Some c
kept_if false c = None

-- the number of a batch
abbrev pub batch_number : Bool → ℕ → Option ℕ
batch_number true n = Some n
batch_number false n = None

-- there is a number, and it is less than n
abbrev pub is_over : ℕ → Option ℕ → Bool
is_over n None = false
is_over n (Some m) = nat_lt m n

-- the least number of a batch among commits
abbrev pub least_batch : List Commit → Option ℕ
least_batch [] = None
least_batch (c ∷ cs) = least_of (batch_number (is_batch c.way) c.number) (least_batch cs)

-- the place of the earliest of commits
abbrev pub earliest : List Commit → Option ℕ
earliest [] = None
earliest (c ∷ cs) = least_of (Some c.place) (earliest cs)

-- what is kept of commits
pub record IsBehind (kept : Behind) (run : List Commit) : Type 0 where
  pub batch : kept.batch ≡ least_batch run
  pub earliest : kept.earliest ≡ earliest run
