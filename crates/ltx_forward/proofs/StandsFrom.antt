-- Who is at a member of the agenda or after it, by the places of their numbers.
use Rattle.std.proofs.Common.{◌≡◌, ℕ, ◌<◌, ◌↔◌, IsTrue, nat_lt, Bool, true, false, not, ◌&&◌, List, map, refl, sym, ap, ◌∙◌}
use Rattle.std.proofs.lemmas.Bool.{or_parts}
use Rattle.std.proofs.lemmas.Bool.{lt-ltb, ltb-true}
use Rattle.ltx_model.specs.declared.writes.Write.{Write}
use Rattle.ltx_model.specs.Agenda.{Member, number_of}
use Rattle.ltx_model.specs.Listings as listings
use Rattle.ltx_model.specs.Listings.{place_of}
use Rattle.ltx_model.specs.Explained.{IsDistinct}
use Rattle.ltx_model.specs.States.{State, LiveBatch}
use Rattle.ltx_model.specs.Records.{Records}
use Rattle.ltx_model.specs.Batches.{is_from}
use Rattle.ltx_agenda.specs.Placed.{Listed}
use Rattle.ltx_long.specs.Longs.{Long}
use Rattle.ltx_forward.specs.Asked.{IsAsked}
use Rattle.ltx_forward.specs.Lates.{stands_from}
use Rattle.ltx_forward.specs.declared.decide.Live.{Live}
use Rattle.ltx_lemmas.specs.Places.{is_before, is_at_or_after}
use Rattle.ltx_lemmas.proofs.Members.{member_parts}
use Rattle.ltx_forward.proofs.Places.{listed_member, before_told, from_told}

less_told : (a b : ℕ) → IsTrue (nat_lt a b) ↔ (a < b)
less_told a b = ((λ e. ltb-true a b e), (λ e. lt-ltb a b e))

stands_by : (ms : List Member) (agenda : List ℕ) → agenda ≡ map number_of ms → IsDistinct agenda → (p n : ℕ) → listings.is_member agenda p ≡ true → stands_from agenda p n ≡ is_at_or_after ms n p
stands_by ms agenda listed distinct p n here = by_test (listings.is_member agenda n) refl where
  by_test : (b : Bool) → listings.is_member agenda n ≡ b → (b && not (nat_lt (place_of agenda n) (place_of agenda p))) ≡ is_at_or_after ms n p
  by_test false is = sym (or_parts (is_before ms n p) (is_at_or_after ms n p) (sym (member_parts ms n p) ∙ sym (listed_member ms agenda listed n) ∙ is)).1
  by_test true is = ap not (before_told ms agenda listed n p here (nat_lt (place_of agenda n) (place_of agenda p)) (less_told (place_of agenda n) (place_of agenda p))) ∙ sym (from_told ms agenda listed distinct n p is)

-- what the agenda tells of the target and another is whether the other is at the target or after it
pub from_stands : (s : State) (i : LiveBatch) (tx : Long) (writes : List Write) (lives : List Live) (records : Records) (agenda : Listed) → IsAsked s i tx writes lives records agenda → (p : ℕ) → listings.is_member agenda.list p ≡ true
    → stands_from agenda.list p ≡ is_from s p
from_stands s i tx writes lives records agenda a p here k n = stands_by s.agenda agenda.list a.decidable.listed a.decidable.distinct p n here k
