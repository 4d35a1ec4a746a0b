use Rattle.std.proofs.Common.{◌<◌, length, refl, sym, arith}
use Rattle.ltx_index.proofs.Places.{in_order_pairs, value_at-read, value_at-gap, with_pair-found, with_pair-gap, nothing_in_gap, run_set, run_insert}
use Rattle.ltx_index.proofs.leaf.Leaf.insert.Goals as goal

pub invariant_of-self-in-Err : goal.invariant_of-self-in-Err
invariant_of-self-in-Err g c =
    let gap = c.in-Err.ensures.absent in
    let put = c.in_ok-put_at-in-Err.ensures in
    let room : length c.self.inside.keys < 128 = omega (arith, c.if-len-ge-MOST.false, c.len.ensures) in
    rw (put.key_put, put.value_put) (run_insert _ _ c.self.invariant c.args.key c.in-Err.at c.args.value room gap)

pub returns-in-Ok : goal.returns-in-Ok
returns-in-Ok g c =
    let keys = c.self.inside.keys in
    let values = c.self.inside.values.items in
    let found = c.in-Ok.ensures.found in
    let run = run_set keys values c.self.invariant c.in-Ok.at c.args.value in
    rw (← c.self.view_is, c.replace.ensures.after) record {
      old = sym (value_at-read keys values c.self.invariant c.args.key c.in-Ok.at c.replace.result found (rw c.replace.ensures.value c.index_mut.ensures.value));
      put = sym (with_pair-found c.args.key keys values c.in-Ok.at c.args.value c.self.invariant.as_many found);
      back = tt;
      kept = tt;
      overwrites = λ _. refl;
      in_order = in_order_pairs _ _ run;
    }

pub returns-in_err-put_at-in-Err-clause-in_order : goal.returns-in_err-put_at-in-Err-clause-in_order
returns-in_err-put_at-in-Err-clause-in_order g c =
    let kept = c.in_err-put_at-in-Err.ensures.kept in
    rw (kept.0, kept.1) (in_order_pairs _ _ c.self.invariant)

pub returns-in_ok-put_at-in-Err : goal.returns-in_ok-put_at-in-Err
returns-in_ok-put_at-in-Err g c =
    let keys = c.self.inside.keys in
    let values = c.self.inside.values.items in
    let gap = c.in-Err.ensures.absent in
    let put = c.in_ok-put_at-in-Err.ensures in
    let room : length c.self.inside.keys < 128 = omega (arith, c.if-len-ge-MOST.false, c.len.ensures) in
    let run = run_insert keys values c.self.invariant c.args.key c.in-Err.at c.args.value room gap in
    rw (← c.self.view_is, put.key_put, put.value_put) record {
      old = sym (value_at-gap c.args.key keys values c.in-Err.at gap);
      put = sym (with_pair-gap c.args.key keys values c.in-Err.at c.args.value c.self.invariant.as_many gap);
      back = tt;
      kept = tt;
      overwrites = λ _. refl;
      in_order = in_order_pairs _ _ run;
    }

pub returns-in_err-put_at-in-Err-clause-overwrites : goal.returns-in_err-put_at-in-Err-clause-overwrites
returns-in_err-put_at-in-Err-clause-overwrites g c stands =
    let gap = c.in-Err.ensures.absent in
    absurd (nothing_in_gap c.args.key _ _ c.in-Err.at gap (rw (← c.self.view_is) at stands))

-- the run is full
pub returns-then-len-ge-MOST-clause-overwrites : goal.returns-then-len-ge-MOST-clause-overwrites
returns-then-len-ge-MOST-clause-overwrites g c stands =
    let gap = c.in-Err.ensures.absent in
    absurd (nothing_in_gap c.args.key _ _ c.in-Err.at gap (rw (← c.self.view_is) at stands))

pub returns-then-len-ge-MOST-clause-in_order : goal.returns-then-len-ge-MOST-clause-in_order
returns-then-len-ge-MOST-clause-in_order g c = rw (← c.self.view_is) (in_order_pairs _ _ c.self.invariant)
