-- What each number of the list is.
use Rattle.std.specs.Prelude.{ℕ, nat_eq, Option}
use Rattle.std.specs.HashMap.{get}
use Rattle.ltx_model.specs.Played.{Played, PlayedSlot, PlayedCommit}
use Rattle.ltx_recover.specs.declared.member.Member.{Member}
use Rattle.ltx_recover.specs.declared.member.Member.TheVariants as members
use Rattle.ltx_recover.specs.declared.member.Members.{Members}

-- the member of a number
abbrev pub member_of : Members → ℕ → Option Member
member_of ms n = get nat_eq ms.by_number n

-- a member as the definitions of the log see it
abbrev pub played_as : ℕ → Member → Played
played_as n members.Slot = PlayedSlot n
played_as n (members.Committed writes) = PlayedCommit n writes.now
