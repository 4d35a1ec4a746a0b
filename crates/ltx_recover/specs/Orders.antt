-- The list of events that were played, kept as its numbers in order and the member of each.
use Rattle.std.specs.Prelude.{◌≡◌, ℕ, List, map, Option, Some, None, is_some}
use Rattle.ltx_model.specs.Listings.{is_member}
use Rattle.ltx_model.specs.Played.{Played, PlayedSlot}
use Rattle.ltx_recover.specs.declared.member.Member.{Member}
use Rattle.ltx_recover.specs.Members.{played_as}

-- the member of a number; a slot where nothing is known of it
abbrev pub shown : ℕ → Option Member → Played
shown n None = PlayedSlot n
shown n (Some member) = played_as n member

-- the list of these numbers
abbrev pub played_of : (ℕ → Option Member) → List ℕ → List Played
played_of of ns = map (λ n. shown n (of n)) ns

-- Members are known of exactly the numbers that stand in the list.
pub record IsOrder (of : ℕ → Option Member) (ns : List ℕ) : Type 0 where
  pub known : (n : ℕ) → is_some (of n) ≡ is_member ns n
