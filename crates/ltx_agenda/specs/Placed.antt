-- Each member has its seat, and each seat its member.
use Rattle.std.specs.Prelude.{ℕ, Bool, ◌+◌, ◌<◌, ◌≤◌, ◌^◌, ◌≡◌, ◌≢◌, ◌==◌, ◌⊎◌, List, length, Option, Some, None, true, false, if◌then◌else◌, slice_index_or, []}
use Rattle.ltx_agenda.specs.declared.seats.Seat.{Seat}
use Rattle.ltx_agenda.specs.declared.seats.Seats.{Seats}
use Rattle.ltx_agenda.specs.Seats.{seat_of, spare_of}
use Rattle.ltx_agenda.specs.Runs.{Held, at, members_of, rows_of, whole_place}
use Rattle.ltx_agenda.specs.declared.mark.Mark.{Mark}
use Rattle.ltx_agenda.specs.declared.spot.Spot.{Spot}
use Rattle.ltx_agenda.specs.Lanes.{lanes_from, lane_no, total}
use Rattle.ltx_agenda.specs.Marks.{IsInLane, IsStarted}
use Rattle.ltx_model.specs.Listings.{is_member, place_of}

-- a run and a place in it
abbrev pub seat_at : ℕ → ℕ → Seat
seat_at l p = record { run = l; at = p }

-- the seats but for that of one number
abbrev pub apart : ℕ → (ℕ → Option Seat) → ℕ → Option Seat
apart n seat m = if m == n then None else seat m

-- Who has a seat stands there, who stands somewhere has that seat, and 0 is no number.
pub record IsPlaced (rows : List (List ℕ)) (seat : ℕ → Option Seat) : Type 0 where
  pub told : (n : ℕ) (s : Seat) → seat n ≡ Some s → at rows s.run s.at ≡ n
  pub found : (l p : ℕ) → 0 < at rows l p → seat (at rows l p) ≡ Some (seat_at l p)
  pub nobody : seat 0 ≡ None

-- The items from one place up to another have their seats in this run anew, and the seats of all others are as before.
pub record IsReseated (items : List ℕ) (l from to : ℕ) (old new : ℕ → Option Seat) : Type 0 where
  pub here : (k : ℕ) → from ≤ k → k < to → new (slice_index_or items k 0) ≡ Some (seat_at l k)
  pub others : (n : ℕ) → ((k : ℕ) → from ≤ k → k < to → slice_index_or items k 0 ≢ n) → new n ≡ old n
  pub nobody : new 0 ≡ old 0

-- the run at a place; one without members or room where there is none
abbrev pub run_at : List Held → ℕ → Held
run_at runs l = slice_index_or runs l (record { items = []; room = 0 })

-- The members as a list, how many more can be appended without taking memory, the runs of those that stand in lanes, and which of them end their lanes.
pub record Standing : Type 0 where
  pub list : List ℕ
  pub room : ℕ
  pub runs : List Held
  pub ends : List Bool

-- wherever the number stands, its run can take a member without taking memory
abbrev pub HasRoomBefore : List Held → ℕ → Type 0
HasRoomBefore runs n = (l p : ℕ) → at (rows_of runs) l p ≡ n → 0 < (run_at runs l).room

-- The seats are those of the runs' members, and there is room for as many as are counted.
pub record IsSeated (runs : List Held) (capacity : ℕ) (marks : List Mark) (marks_capacity : ℕ) (seats : Seats) (room count : ℕ) : Type 0 where
  pub placed : IsPlaced (rows_of runs) (seat_of seats)
  pub runs_room : length runs + room ≤ capacity
  pub marks_room : length marks + room ≤ marks_capacity
  pub seats_room : room ≤ spare_of seats
  pub counted : count ≡ length (members_of (rows_of runs))
  pub bounded : count + room < 2 ^ 64
  pub as_many : length marks ≡ length runs
  pub in_lane : (b : ℕ) → b < length marks → IsInLane marks b
  pub started : (b : ℕ) → b < length marks → IsStarted marks (rows_of runs) b

-- The member sits in this run, at this place: so many stand before it.
pub record SitsAt (v : Standing) (n : ℕ) (s : Seat) : Type 0 where
  pub number : 0 < n
  pub stands : at (rows_of v.runs) s.run s.at ≡ n
  pub member : is_member v.list n ≡ true
  pub placed : place_of v.list n ≡ whole_place (rows_of v.runs) s.run s.at

-- The member lies in this lane of the runs, at this place.
pub record LiesAt (v : Standing) (n : ℕ) (s : Spot) : Type 0 where
  pub number : 0 < n
  pub stands : at (lanes_from v.ends (rows_of v.runs)) s.lane s.place ≡ n
  pub member : is_member v.list n ≡ true
  pub placed : place_of v.list n ≡ whole_place (lanes_from v.ends (rows_of v.runs)) s.lane s.place
  pub within : s.place < length (slice_index_or (lanes_from v.ends (rows_of v.runs)) s.lane [])
  pub lane_bound : s.lane ≤ length v.ends
  pub place_bound : s.place < length v.list

-- What clauses see of an agenda: the members as a list, how many more can be appended without taking memory, the runs of those that are not settled, and the list as its lanes.
pub record Listed : Type 0 where
  pub list : List ℕ
  pub room : ℕ
  pub runs : List Held
  pub lanes : List (List ℕ)

-- The member stands in this lane, at this place, and so it does in the list.
pub record IsSpot (v : Listed) (n : ℕ) (s : Spot) : Type 0 where
  pub stands : at v.lanes s.lane s.place ≡ n
  pub member : is_member v.list n ≡ true
  pub within : s.place < length (slice_index_or v.lanes s.lane [])
  pub placed : place_of v.list n ≡ whole_place v.lanes s.lane s.place

-- by lane, and then by place
abbrev pub IsEarlier : Spot → Spot → Type 0
IsEarlier s t = (s.lane < t.lane) ⊎ ((s.lane ≡ t.lane) × (s.place < t.place))

-- Who stands in lanes is not settled. The vectors of the settled members and of the lengths of their closed lanes have room for all who stand in lanes and can be appended; so many settled ones are in no closed lane.
pub record IsAgenda (settled : List ℕ) (capacity : ℕ) (lens : List ℕ) (lens_capacity open_count : ℕ) (lanes : Standing) (room : ℕ) : Type 0 where
  pub apart_from : (n : ℕ) → is_member lanes.list n ≡ true → is_member settled n ≡ false
  pub settled_room : length settled + (length lanes.list + room) ≤ capacity
  pub lanes_room : room ≤ lanes.room
  pub lens_room : length lens + (lane_no 0 lanes.ends (length lanes.ends) + room) ≤ lens_capacity
  pub fits : total lens + open_count ≡ length settled
