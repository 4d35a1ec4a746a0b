use Rattle.std.proofs.Common.{◌++◌, ap, sym, subst, ◌∙◌}
use Rattle.ltx_recover.specs.Stamps.{stamped_of, stamped_in, cell_at, row_unless, begins_at}
use Rattle.ltx_recover.proofs.Stamps.{IsPass, pass_starts, pass_on}
use Rattle.ltx_recover.proofs.stamp.last_rows.Goals as goal

pub loop-i-init : goal.loop-i-init
loop-i-init c = subst (λ rows. IsPass (stamped_in c.args.stamps.now) rows (stamped_in c.args.stamps.now)) (sym c.new-rows.ensures.items) (pass_starts (stamped_in c.args.stamps.now) c.requires.sorted)

pub loop-i-preserved : goal.loop-i-preserved
loop-i-preserved c =
    let stamp = c.index-stamps-i.result in
    pass_on stamped_of (stamped_in c.args.stamps.now) c.loop-i.rows.items _ c.args.stamps.now c.loop-i.i stamp c.loop-i-test.true c.index-stamps-i.is c.loop-i.invariant
    (c.in_ok-put_last.ensures ∙ ap (λ later. c.loop-i.rows.items ++ row_unless (begins_at (cell_at (stamped_of stamp)) (stamped_in later)) (stamped_of stamp)) c.split_at.ensures.back)
