use Rattle.std.proofs.Common.{sym, ap, ◌∙◌, w64}
use Rattle.std.specs.Int.{from_be_bytes}
use Rattle.ltx_index.specs.Heads.{head_of}
use Rattle.ltx_index.proofs.Heads.{padded_each}
use Rattle.ltx_index.proofs.head.short_head.Goals as goal

pub returns : goal.returns
unfolding head_of
returns c =
    c.from_be_bytes.ensures ∙ rw (c.byte.ensures, c.byte-2.ensures, c.byte-3.ensures, c.byte-4.ensures, c.byte-5.ensures, c.byte-6.ensures, c.byte-7.ensures, c.byte-8.ensures) (ap (from_be_bytes w64) (sym (padded_each c.args.bytes.now)))
