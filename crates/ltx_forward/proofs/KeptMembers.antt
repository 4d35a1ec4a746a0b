-- Those that are kept and pass a test are members where all that are kept are.
use Rattle.std.proofs.Common.{◌≡◌, ℕ, Bool, true, false, cond, List, [], ◌∷◌, map, Contains, ap, sym, ◌∙◌}
use Rattle.std.specs.List.{filter}
use Rattle.ltx_model.specs.declared.writes.Write.{Write}
use Rattle.ltx_model.specs.Agenda as agendas
use Rattle.ltx_model.specs.Listings.{is_member}
use Rattle.ltx_model.specs.Records.{Recorded, Records, IsRecordOf}
use Rattle.ltx_model.specs.States.{State, LiveBatch}
use Rattle.ltx_model.specs.Batches.{IsTarget}
use Rattle.ltx_agenda.specs.Placed.{Listed}
use Rattle.ltx_long.specs.Longs.{Long}
use Rattle.ltx_lemmas.proofs.Lists.{all_contains, all_from, map_item}
use Rattle.ltx_lemmas.proofs.Serials.{serial_is_member}
use Rattle.ltx_forward.specs.declared.decide.Live.{Live}
use Rattle.ltx_forward.specs.Asked.{IsAsked}
use Rattle.ltx_forward.specs.Contradicted.{AreMembers}
use Rattle.ltx_forward.proofs.Places.{listed_member}

pub passing_members : (list : List ℕ) (test : Recorded → Bool) (rs : List Recorded) → AreMembers list (map (λ r. r.number) rs) → AreMembers list (map (λ r. r.number) (filter test rs))
passing_members list test [] all = tt
passing_members list test (r ∷ rs) all = by_test (test r) (passing_members list test rs all.1) where
  by_test : (b : Bool) → AreMembers list (map (λ r. r.number) (filter test rs)) → AreMembers list (map (λ r. r.number) (cond b (r ∷ filter test rs) (filter test rs)))
  by_test true rest = (all.0, rest)
  by_test false rest = rest

-- one of several members is a member
pub one_member : (list ns : List ℕ) (n : ℕ) → AreMembers list ns → Contains ns n → is_member list n ≡ true
one_member list ns n all here = all_contains (λ m. is_member list m ≡ true) ns n all here

-- what a decision is asked with: who is kept is a member, and so is a target
module _ (s : State) (i : LiveBatch) (tx : Long) (writes : List Write) (lives : List Live) (records : Records) (agenda : Listed) (asked : IsAsked s i tx writes lives records agenda) where
  pub kept_members : AreMembers agenda.list (map (λ r. r.number) records.kept)
  kept_members = all_from (λ n. is_member agenda.list n ≡ true) (map (λ r. r.number) records.kept) (λ n c.
      let found = map_item (λ (r : Recorded). r.number) records.kept n c in
      let recorded : IsRecordOf s found.0 = all_contains (IsRecordOf s) records.kept found.0 asked.decidable.recorded.told found.1 in
      listed_member s.agenda agenda.list asked.decidable.listed n ∙ ap (agendas.is_member s.agenda) (sym (recorded.number ∙ found.2)) ∙ serial_is_member s.agenda recorded.tx recorded.member)

  pub target_member : (p : ℕ) → IsTarget s i p → is_member agenda.list p ≡ true
  target_member p target = listed_member s.agenda agenda.list asked.decidable.listed p ∙ target.member
