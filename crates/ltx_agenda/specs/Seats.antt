-- Where each member stands.
use Rattle.std.specs.Prelude.{ℕ, nat_eq, Option}
use Rattle.std.specs.HashMap.{get, spare}
use Rattle.ltx_agenda.specs.declared.seats.Seat.{Seat}
use Rattle.ltx_agenda.specs.declared.seats.Seats.{Seats}

-- the seat of a number
abbrev pub seat_of : Seats → ℕ → Option Seat
seat_of s n = get nat_eq s.by_number n

-- how many more can be seated without taking memory
abbrev pub spare_of : Seats → ℕ
spare_of s = spare s.by_number
