-- A commit that is noted.
use Rattle.std.specs.Prelude.{◌≡◌, ℕ, ◌+◌, Bool, List, [], ◌∷◌, ◌++◌}
use Rattle.std.specs.List.{list_any}
use Rattle.ltx_model.specs.declared.looked.Noted.{Noted}
use Rattle.ltx_model.specs.declared.writes.Write.{Write}
use Rattle.ltx_model.specs.Keys.{Cell, same_cell}
use Rattle.ltx_model.specs.Operations.{cell_of_write}
use Rattle.ltx_model.specs.Notes.{notes_look_up}
use Rattle.ltx_model.specs.Records.{Recorded, Records, looked_up, has_written}

-- the key is written by one of these
abbrev pub is_among : Cell → List Write → Bool
is_among cell writes = list_any (λ w. same_cell (cell_of_write w) cell) writes

-- One commit more was noted, and it is the last one that is kept: its number, what it is, and the next number of commits are told, and of
-- each key whether the transaction looked it up and whether it wrote it.
pub record HasNoted (old : Records) (n : ℕ) (batch : Bool) (notes : List Noted) (writes : List Write) (new : Records) : Type 0 where
  pub entry : Recorded
  pub kept : new.kept ≡ old.kept ++ entry ∷ []
  pub commits : new.commits ≡ old.commits + 1
  pub number : entry.number ≡ n
  pub kind : entry.batch ≡ batch
  pub mark : entry.mark ≡ new.commits
  pub looks : (cell : Cell) → looked_up cell entry ≡ notes_look_up notes cell
  pub written : (cell : Cell) → has_written cell entry ≡ is_among cell writes
