-- What the end of an open transaction leaves of the batches that have begun, of the agenda and of the records.
use Rattle.std.specs.Prelude.{◌≡◌, ℕ, true, List}
use Rattle.ltx_model.specs.Holders.{Holder, is_entered, removed}
use Rattle.ltx_model.specs.Listings.{is_member, without}
use Rattle.ltx_model.specs.Records.{Records}
use Rattle.ltx_forward.specs.declared.decide.Live.{Live}
use Rattle.ltx_core.specs.Recorded.{is_any_live, cleared_unless, areas_without}
use Rattle.ltx_open.specs.declared.stage.Stage.{Stage}
use Rattle.ltx_open.specs.declared.stage.Stage.TheVariants as stages

-- a batch holds no table any more
abbrev pub left_batches : Stage → ℕ → List Holder → List Holder
left_batches stages.Short n holders = holders
left_batches (stages.Pending d) n holders = removed n holders
left_batches (stages.Live d mark) n holders = removed n holders

-- a live one is no member of the agenda any more
abbrev pub left_list : Stage → ℕ → List ℕ → List ℕ
left_list stages.Short n list = list
left_list (stages.Pending d) n list = list
left_list (stages.Live d mark) n list = without list n

-- its area is not kept any more
abbrev pub left_areas : Stage → ℕ → List Live → List Live
left_areas stages.Short n areas = areas
left_areas (stages.Pending d) n areas = areas_without n areas
left_areas (stages.Live d mark) n areas = areas_without n areas

-- after the end of the last live one nothing is kept of commits
abbrev pub left_records : Stage → ℕ → List Holder → Records → Records
left_records stages.Short n holders records = records
left_records (stages.Pending d) n holders records = records
left_records (stages.Live d mark) n holders records = cleared_unless (is_any_live (removed n holders)) records

-- what is open is entered where it is a batch, and a member of the agenda where it is a live one
abbrev pub IsKnownAs : Stage → ℕ → List Holder → List ℕ → Type 0
IsKnownAs stages.Short n holders list = Unit {0}
IsKnownAs (stages.Pending d) n holders list = is_entered holders n ≡ true
IsKnownAs (stages.Live d mark) n holders list = (is_entered holders n ≡ true) × (is_member list n ≡ true)
