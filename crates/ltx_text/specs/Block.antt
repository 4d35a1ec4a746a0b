-- The bytes that a block holds.
use Rattle.std.specs.Prelude.{ℕ, ◌-◌, List, slice_range}
use Rattle.ltx_text.specs.declared.block.Block.{Block}

-- the bytes that were taken and not given yet
abbrev pub held : Block → List ℕ
held block = slice_range block.bytes.items block.start block.end

-- how many bytes may still be taken before the held ones are moved to the front
abbrev pub room : Block → ℕ
room block = 69633 - block.end
