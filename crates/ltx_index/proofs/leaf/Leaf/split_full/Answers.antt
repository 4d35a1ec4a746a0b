use Rattle.std.proofs.Common.{◌<◌, ◌≤◌, length, take, drop, refl, arith}
use Rattle.std.proofs.lemmas.Bool.{false≢true}
use Rattle.std.proofs.lemmas.List.{length-take, length-drop}
use Rattle.ltx_index.proofs.Places.{run_take, run_drop, zip-halves, length_run}
use Rattle.ltx_index.proofs.leaf.Leaf.split_full.Goals as goal

pub invariant_of-result : goal.invariant_of-result
invariant_of-result g c =
    let halves = c.in_ok-keys.ensures in
    rw (halves.keys_taken, halves.values_taken) (run_drop c.self.inside.keys c.self.inside.values.items c.self.invariant 64)

pub invariant_of-self : goal.invariant_of-self
invariant_of-self g c =
    let kept = c.in_err-keys.ensures.kept in
    rw (kept.0, kept.1) c.self.invariant

pub invariant_of-self-2 : goal.invariant_of-self-2
invariant_of-self-2 g c =
    let halves = c.in_ok-keys.ensures in
    rw (halves.keys_kept, halves.values_kept) (run_take c.self.inside.keys c.self.inside.values.items c.self.invariant 64)

pub returns-then-len-lt-MOST-clause-full : goal.returns-then-len-lt-MOST-clause-full
returns-then-len-lt-MOST-clause-full g c =
    let size = length_run c.self.inside.keys c.self.inside.values.items c.self.invariant in
    let room : length c.self.inside.keys < 128 = omega (arith, c.if-len-lt-MOST.true, c.len.ensures) in
    rw (← c.self.view_is) (λ none. absurd (false≢true none), λ full. absurd (omega (arith, room, size, full)))

pub returns-clause-full : goal.returns-clause-full
returns-clause-full g c =
    let size = length_run c.self.inside.keys c.self.inside.values.items c.self.invariant in
    let full : 128 ≤ length c.self.inside.keys = omega (arith, c.if-len-lt-MOST.false, c.len.ensures) in
    rw (← c.self.view_is) (λ _. omega (arith, full, size, c.self.invariant.at_most), λ _. refl)

pub returns-clause-halves : goal.returns-clause-halves
returns-clause-halves g c =
    let halves = c.in_ok-keys.ensures in
    rw (← c.self.view_is, halves.keys_kept, halves.values_kept, halves.keys_taken, halves.values_taken) (zip-halves 64 c.self.inside.keys c.self.inside.values.items)

pub returns-clause-filled : goal.returns-clause-filled
returns-clause-filled g c =
    let halves = c.in_ok-keys.ensures in
    let keys = c.self.inside.keys in
    let values = c.self.inside.values.items in
    let full : 128 ≤ length keys = omega (arith, c.if-len-lt-MOST.false, c.len.ensures) in
    let lower = length_run (take 64 keys) (take 64 values) (run_take keys values c.self.invariant 64) in
    let upper = length_run (drop 64 keys) (drop 64 values) (run_drop keys values c.self.invariant 64) in
    rw (halves.keys_kept, halves.values_kept, halves.keys_taken, halves.values_taken) (
      omega (arith, full, lower, length-take 64 keys),
      omega (arith, full, upper, length-drop 64 keys),
    )
