use Rattle.std.proofs.Common.{◌≡◌, [], ◌++◌, arith, rules}
use Rattle.std.specs.List.{cons_option}
use Rattle.ltx_check.specs.Opens.{desk_after, committed_number}
use Rattle.ltx_check.proofs.Told.{tells_init, tells_more}
use Rattle.ltx_check.proofs.orders.committed_numbers.Goals as goal

pub loop-entry-preserved : goal.loop-entry-preserved
loop-entry-preserved c =
    let entry = c.entry-item.result in
    let next : c.take.new.self ≡ desk_after c.loop-entry.seats entry = search rules in
    let pushed : c.push_some.new.numbers.items ≡ c.loop-entry.numbers.items ++ cons_option (committed_number c.loop-entry.seats entry) [] = search rules in
    tells_more c.args.entries.now c.loop-entry.entry-index c.loop-entry.seats c.take.new.self c.loop-entry.numbers.items c.push_some.new.numbers.items entry c.loop-entry.invariant (omega (arith, c.loop-entry-test.true)) c.entry-item.is next pushed

pub loop-entry-init : goal.loop-entry-init
loop-entry-init c = tells_init c.args.entries.now c.new-seats.result c.new-numbers.result.items (search rules) (search rules)
