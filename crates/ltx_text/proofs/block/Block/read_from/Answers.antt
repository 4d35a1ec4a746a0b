use Rattle.std.proofs.Common.{◌≡◌, ◌≤◌, ◌∙◌, List, ℕ, ◌+◌, ◌-◌, ◌++◌, ap, length, take, slice_range, sym, arith}
use Rattle.std.proofs.lemmas.Result.{err_from_is_err_and}
use Rattle.ltx_text.proofs.BlockLemmas.{part_grown, part_kept, part_written}
use Rattle.ltx_text.proofs.block.Block.read_from.Goals as goal

pub returns-in_err-count-clause-kept : goal.returns-in_err-count-clause-kept
returns-in_err-count-clause-kept g c =
    let b = c.args.self.now in
    let d = c.deref_mut.result.now in
    let k = b.end + c.args.most - b.end in
    let is : d ≡ b.bytes.items = c.deref_mut.ensures.value in
    let within : b.end ≤ length d = omega (arith, ap length is) in
    let p = err_from_is_err_and c.from_residual.result c.from_residual.ensures.1 in
    rw p.1 (part_written b.bytes d c.read.new.buffer b.start b.end b.end c.args.most is (omega (arith, b.size, b.within, c.requires.room)) c.read.auto.buffer ∙ part_kept d c.read.new.buffer b.start b.end k b.ordered within ∙ ap (λ (xs : List ℕ). slice_range xs b.start b.end) is, c.in_err-count.ensures.kept)

pub returns-clause-taken : goal.returns-clause-taken
returns-clause-taken g c =
    let b = c.args.self.now in
    let d = c.deref_mut.result.now in
    let k = b.end + c.args.most - b.end in
    let n = c.in_ok-count.count in
    let is : d ≡ b.bytes.items = c.deref_mut.ensures.value in
    let within : b.end ≤ length d = omega (arith, ap length is) in
    let bound = c.in_ok-count.ensures.within in
    let front = ap (λ (xs : List ℕ). slice_range xs b.start b.end ++ take n c.read.new.buffer) is in
    (take n c.read.new.buffer, sym bound.1, part_written b.bytes d c.read.new.buffer b.start b.end (b.end + n) c.args.most is (omega (arith, b.size, b.within, c.requires.room)) c.read.auto.buffer ∙ part_grown d c.read.new.buffer b.start b.end k n b.ordered within bound.0 ∙ front, c.in_ok-count.ensures.taken.0)
