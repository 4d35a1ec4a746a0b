use Rattle.std.proofs.Common.{ℕ, ◌≤◌, take, Contains}
use Rattle.ltx_model.specs.Listings.{place_of}
use Rattle.ltx_forward.proofs.contradict.is_any_between.Given as goal

-- none of those so far stands there
abbrev pub invariant-loop-member : goal.invariant-loop-member
invariant-loop-member l = (n : ℕ) → Contains (take l.member-index l.members) n → place_of l.agenda.list l.p ≤ place_of l.agenda.list n → place_of l.agenda.list l.r ≤ place_of l.agenda.list n
