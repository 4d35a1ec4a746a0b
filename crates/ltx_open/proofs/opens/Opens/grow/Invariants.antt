use Rattle.std.proofs.Common.{◌≡◌, ℕ, length}
use Rattle.ltx_open.specs.Slots.{opened}
use Rattle.ltx_open.proofs.opens.Opens.grow.Given as goal

-- the slots so far, of which the new ones are empty
abbrev pub invariant-loop-slot : goal.invariant-loop-slot
invariant-loop-slot l = (length l.self-inside.slots.items ≡ l._slot) × ((n : ℕ) → opened l.self-inside.slots.items n ≡ opened l.initial.self-inside.slots.items n)
