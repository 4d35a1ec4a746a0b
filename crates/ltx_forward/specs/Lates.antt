-- Who is late, and the late look of a note.
use Rattle.std.specs.Prelude.{ℕ, Bool, not, nat_lt, ◌&&◌, List, Option, Some, None, if◌then◌else◌}
use Rattle.std.specs.List.{find}
use Rattle.ltx_model.specs.declared.writes.Look.{Look}
use Rattle.ltx_model.specs.declared.looked.Reach.{Reach}
use Rattle.ltx_model.specs.declared.looked.Reach.TheVariants.{Nothing, Point, Range}
use Rattle.ltx_model.specs.Notes.{is_one_of}
use Rattle.ltx_model.specs.Listings.{is_member, place_of}

-- n is in the list, and does not stand before p
abbrev pub stands_from : List ℕ → ℕ → ℕ → Bool
stands_from list p n = is_member list n && not (nat_lt (place_of list n) (place_of list p))

-- the look has a late writer, and its key is none of the own ones
abbrev pub is_late_look : (ℕ → Bool) → List (List ℕ) → Look → Bool
is_late_look late own look = late look.writer && not (is_one_of own look.key)

-- the late look of what was reached: that of the key that was got, or the first one of a range
abbrev pub late_look : (ℕ → Bool) → Reach → Option Look
late_look late Nothing = None
late_look late (Point key None own) = None
late_look late (Point key (Some look) own) = if late look.writer && not own then Some look else None
late_look late (Range low high looks own) = find (is_late_look late own) looks
