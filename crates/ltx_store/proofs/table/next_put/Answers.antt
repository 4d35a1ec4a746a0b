use Rattle.std.proofs.Common.{◌∙◌, sym, subst}
use Rattle.ltx_store.specs.Walks.{HasPassed}
use Rattle.ltx_store.proofs.NextPuts.{passed_start, passed_more, found_put}
use Rattle.ltx_store.proofs.table.next_put.Goals as goal

pub loop-key-init : goal.loop-key-init
loop-key-init c = rw c.walk-walk.ensures.pairs (passed_start c.args.from.now c.args.strict c.args.table.now c.walk-walk.ensures.in_order)

pub loop-key-preserved : goal.loop-key-preserved
loop-key-preserved c =
    let here = subst (HasPassed c.args.from.now c.args.strict c.args.table.now) c.in-Some.ensures.some c.loop-key.invariant in
    passed_more c.args.from.now c.args.strict c.args.table.now (c.in-Some.key.now, c.in-Some.chain.now) c.next.new.self here (sym c.putter.ensures ∙ c.in_default-putter.is)

pub returns-in-Some-putter-clause-found : goal.returns-in-Some-putter-clause-found
returns-in-Some-putter-clause-found c =
    let here = subst (HasPassed c.args.from.now c.args.strict c.args.table.now) c.in-Some.ensures.some c.loop-key.invariant in
    found_put c.args.from.now c.args.strict c.args.table.now (c.in-Some.key.now, c.in-Some.chain.now) c.next.new.self here c.in-Some-putter.writer (sym c.putter.ensures ∙ c.in-Some-putter.is)
