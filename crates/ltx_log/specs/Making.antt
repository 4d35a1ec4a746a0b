-- How much of a header a blank disk lacks, and what making a log of it leaves.
use Rattle.std.specs.Prelude.{◌≡◌, ◌⊎◌, ℕ, ◌≤◌, List, [], length, slice_get, Some}
use Rattle.ltx_model.specs.Contents.{IsBlank, IsUnopened, IsLogOf}
use Rattle.ltx_log.specs.declared.make.Lack.{Lack}
use Rattle.ltx_log.specs.declared.make.Lack.TheVariants as lacks

-- A header's first byte stands there and is 0, and no more than a header does.
pub record IsShut (bytes : List ℕ) : Type 0 where
  pub some : 1 ≤ length bytes
  pub no_longer : length bytes ≤ 18
  pub gate : slice_get bytes 0 ≡ Some 0

-- at most one byte stands there; a gate of 0 alone counts; all but the open gate stands there
abbrev pub Lacks : List ℕ → Lack → Type 0
Lacks bytes lacks.All = length bytes ≤ 1
Lacks bytes lacks.Header = IsShut bytes
Lacks bytes lacks.Gate = IsUnopened bytes

-- blank, or a log without frames
abbrev pub IsFresh : List ℕ → Type 0
IsFresh bytes = IsBlank bytes ⊎ IsLogOf bytes [] 17
