-- The written keys of a range, one after another, and who wrote them.
use Rattle.std.specs.Prelude.{◌≡◌, ℕ, Bool, true, false, List, Option, Some, None}
use Rattle.std.specs.List.{list_any}
use Rattle.std.specs.declared.cmp.Ordering.TheVariants.{Less}
use Rattle.ltx_model.specs.Keys.{key_cmp, in_range, is_below_end}
use Rattle.ltx_model.specs.NextKeys.{reaches}
use Rattle.ltx_model.specs.Notes.{is_one_of}
use Rattle.ltx_model.specs.Records.{Records, has_written}
use Rattle.ltx_forward.specs.Earliest.{IsWriter}

-- some kept transaction wrote the key
abbrev pub is_written : Records → ℕ → List ℕ → Bool
is_written records table key = list_any (has_written (record { table = table; key = key })) records.kept

-- The written key that comes next from a bound on is the least one below the upper end.
pub record IsNextIn (records : Records) (table : ℕ) (high from : List ℕ) (strict : Bool) (key : List ℕ) : Type 0 where
  pub reached : reaches from strict key ≡ true
  pub below : is_below_end high key ≡ true
  pub written : is_written records table key ≡ true
  pub least : (other : List ℕ) → reaches from strict other ≡ true → is_written records table other ≡ true → key_cmp other key ≡ Less → ⊥

-- that one, or that there is none
abbrev pub NextIn : Records → ℕ → List ℕ → List ℕ → Bool → Option (List ℕ) → Type 0
NextIn records table high from strict None = (key : List ℕ) → reaches from strict key ≡ true → is_below_end high key ≡ true → is_written records table key ≡ true → ⊥
NextIn records table high from strict (Some key) = IsNextIn records table high from strict key

-- The batch wrote a key of the range that is none of the own ones.
pub record IsWriterIn (records : Records) (list : List ℕ) (own mark table : ℕ) (low high : List ℕ) (keys : List (List ℕ)) (n : ℕ) : Type 0 where
  pub key : List ℕ
  pub inside : in_range low high key ≡ true
  pub other : is_one_of keys key ≡ false
  pub writer : IsWriter records list own mark (record { table = table; key = key }) n
