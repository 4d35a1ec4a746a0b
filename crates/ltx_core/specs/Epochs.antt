-- The slots of an epoch.
use Rattle.std.specs.Prelude.{◌≡◌, ℕ, not, false, List, map, filter}
use Rattle.std.specs.List.{AllByRecursion}
use Rattle.ltx_model.specs.Holders.{Holder}
use Rattle.ltx_model.specs.Listings.{is_member}
use Rattle.ltx_model.specs.Explained.{IsDistinct}

-- the numbers of the pending batches, in the order of their begins
abbrev pub pending_numbers : List Holder → List ℕ
pending_numbers holders = map (λ h. h.number) (filter (λ h. not h.live) holders)

-- numbers that are no members of a list, each once
pub record AreNew (list numbers : List ℕ) : Type 0 where
  pub strangers : AllByRecursion (λ n. is_member list n ≡ false) numbers
  pub distinct : IsDistinct numbers
