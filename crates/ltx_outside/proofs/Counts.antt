-- A count that rose in one of several calls rose in all of them together.
use Rattle.std.proofs.Common.{ℕ, ◌≤◌, arith}
use Rattle.ltx_outside.specs.Faults.{Rose}

-- what rose before a last call, which lowers nothing
pub Rose-earlier : (a b c : ℕ) → Rose a b → b ≤ c → Rose a c
Rose-earlier a b c rose later = omega (arith, rose, later)

-- what rose in a last call, before which nothing fell
pub Rose-later : (a b c : ℕ) → a ≤ b → Rose b c → Rose a c
Rose-later a b c earlier rose = omega (arith, earlier, rose)
