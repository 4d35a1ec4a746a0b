-- What is recorded of the end of an open transaction, and which areas are left.
use Rattle.std.specs.Prelude.{◌≡◌, ℕ, ◌+◌, ◌==◌, Bool, true, false, not, nat_lt, List, [], ◌∷◌, filter, length, if◌then◌else◌}
use Rattle.std.specs.List.{list_any}
use Rattle.ltx_model.specs.Holders.{Holder}
use Rattle.ltx_model.specs.Records.{Records}
use Rattle.ltx_forward.specs.declared.decide.Live.{Live}
use Rattle.ltx_reads.specs.Noted.{HasNoted}
use Rattle.ltx_open.specs.Views.{OpenView}

-- some batch is live
abbrev pub is_any_live : List Holder → Bool
is_any_live holders = list_any (λ h. h.live) holders

-- more than one batch is live
abbrev pub are_several_live : List Holder → Bool
are_several_live holders = nat_lt 1 (length (filter (λ h. h.live) holders))

-- one commit more was counted, and nothing of it is kept
abbrev pub counted : Records → Records
counted records = record { kept = records.kept; commits = records.commits + 1 }

-- nothing is kept any more
abbrev pub cleared : Records → Records
cleared records = record { kept = []; commits = records.commits }

-- A short commits: it is noted while a batch is live, and else only counted.
abbrev pub HasRecordedShort : Bool → Records → OpenView → Records → Type 0
HasRecordedShort true old a new = HasNoted old a.number false a.notes.notes a.own.writes new
HasRecordedShort false old a new = new ≡ counted old

-- A batch commits: it is noted while another one stays live, and else counted, and nothing is kept any more.
abbrev pub HasRecordedBatch : Bool → Records → OpenView → Records → Type 0
HasRecordedBatch true old a new = HasNoted old a.number true a.notes.notes a.own.writes new
HasRecordedBatch false old a new = new ≡ cleared (counted old)

-- a batch ends without a commit: nothing is kept any more where none stays live
abbrev pub cleared_unless : Bool → Records → Records
cleared_unless true records = records
cleared_unless false records = cleared records

-- the areas of those that are live, where they stand in the order of the holders
abbrev pub areas_of_live : List Holder → List Live → List Live
areas_of_live [] areas = []
areas_of_live (h ∷ holders) [] = []
areas_of_live (h ∷ holders) (live ∷ areas) = if h.live then live ∷ areas_of_live holders areas else areas_of_live holders areas

-- the areas without that of a batch
abbrev pub areas_without : ℕ → List Live → List Live
areas_without n areas = filter (λ live. not (live.tx == n)) areas
