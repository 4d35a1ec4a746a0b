-- Where the bytes of a byte string are.
use Rattle.std.specs.Prelude.{ℕ, List, ◌≤◌, take}
use Rattle.ltx_model.specs.declared.held.Form.{Form}
use Rattle.ltx_model.specs.declared.held.Form.TheVariants.{Short, Long}
use Rattle.ltx_model.specs.Limits.{held_inside}

-- the bytes
abbrev pub bytes_of : Form → List ℕ
bytes_of (Short len bytes) = take len bytes
bytes_of (Long held) = held.items

-- those that are held inside are within their places
abbrev pub IsForm : Form → Type 0
IsForm (Short len bytes) = len ≤ held_inside
IsForm (Long held) = Unit {0}
