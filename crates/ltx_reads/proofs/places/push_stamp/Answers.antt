use Rattle.std.proofs.Common.{sym, rules}
use Rattle.ltx_reads.proofs.PlacedStamps.{stamped_there_or, kept_there, stamped_new_or}
use Rattle.ltx_reads.proofs.places.push_stamp.Goals as goal

pub returns-in-Some-clause-stamped : goal.returns-in-Some-clause-stamped
returns-in-Some-clause-stamped c = stamped_there_or c.args.index.now c.args.key.now c.args.stamp c.push.result c.in-Some.stamps.now c.push.new.self c.in-Some.ensures.value c.push.ensures.pushed

pub returns-in-Some-clause-kept : goal.returns-in-Some-clause-kept
returns-in-Some-clause-kept c = kept_there c.args.index.now c.args.key.now c.args.stamp c.push.result c.in-Some.stamps.now c.push.new.self c.in-Some.ensures.value c.push.ensures.kept

pub returns-clause-stamped : goal.returns-clause-stamped
returns-clause-stamped c = stamped_new_or c.args.index.now c.args.key.now c.args.stamp c.put.result _ c.put.new.index (sym c.in_default.ensures.value) c.in_ok-stamps.ensures (search rules)
