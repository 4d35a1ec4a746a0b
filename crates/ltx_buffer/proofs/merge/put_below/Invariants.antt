use Rattle.std.proofs.Common.{◌≡◌, ◌++◌, take}
use Rattle.std.specs.List.{AllByRecursion}
use Rattle.std.specs.declared.cmp.Ordering.TheVariants.{Less}
use Rattle.ltx_model.specs.Keys.{key_cmp}
use Rattle.ltx_buffer.specs.Places.{rows_put}
use Rattle.ltx_buffer.proofs.merge.put_below.Given as goal

-- the writes so far are of lesser keys, and have added their rows
abbrev pub invariant-loop-write : goal.invariant-loop-write
invariant-loop-write l = record {
  counted : l.count ≡ l.write-index;
  rows : l.merged.items ≡ l.fn.merged.items ++ rows_put (take l.write-index l.own);
  below : AllByRecursion (λ w. key_cmp w.key l.key ≡ Less) (take l.write-index l.own);
}
