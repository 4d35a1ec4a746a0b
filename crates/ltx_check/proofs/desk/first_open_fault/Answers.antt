use Rattle.std.proofs.Common.{◌≡◌, true, false, sym, refl, subst, arith, rules}
use Rattle.ltx_check.specs.Opens.{desk_after, is_open_fault}
use Rattle.ltx_check.proofs.Placed.{Read, read_none, read_more, read_fault}
use Rattle.ltx_check.proofs.desk.first_open_fault.Goals as goal

pub loop-place-init : goal.loop-place-init
loop-place-init c = subst (Read c.args.entries.now 0) (sym c.new-seats.ensures) (read_none c.args.entries.now)

pub returns-then-refuses : goal.returns-then-refuses
returns-then-refuses c =
    let entry = c.index-entries-place.result in
    let fault : is_open_fault c.loop-place.seats entry ≡ true = search rules in
    read_fault c.args.entries.now c.loop-place.place _ c.loop-place.seats entry c.loop-place.invariant (omega (arith, c.loop-place-test.true)) c.index-entries-place.is fault refl

pub loop-place-preserved : goal.loop-place-preserved
loop-place-preserved c =
    let entry = c.index-entries-place.result in
    let fine : is_open_fault c.loop-place.seats entry ≡ false = search rules in
    let next : c.take.new.self ≡ desk_after c.loop-place.seats entry = search rules in
    read_more c.args.entries.now c.loop-place.place c.loop-place.seats c.take.new.self entry c.loop-place.invariant (omega (arith, c.loop-place-test.true)) c.index-entries-place.is fine next
