-- Places among the members of the agenda.
use Rattle.std.specs.Prelude.{ℕ, Bool, List, map}
use Rattle.ltx_model.specs.Agenda.{Member, number_of, is_member, part_before, part_from}
use Rattle.ltx_model.specs.Explained.{IsDistinct}

-- a member with the number a stands before the first one with the number b
abbrev pub is_before : List Member → ℕ → ℕ → Bool
is_before ms a b = is_member (part_before b ms) a

-- a member with the number a is the first one with the number p, or stands after it
abbrev pub is_at_or_after : List Member → ℕ → ℕ → Bool
is_at_or_after ms a p = is_member (part_from p ms) a

-- no two members have one number
abbrev pub AreApart : List Member → Type 0
AreApart ms = IsDistinct (map number_of ms)
