use Rattle.std.proofs.Common.{◌≡◌, true, false, ◌∙◌, refl, sym, subst}
use Rattle.ltx_reads.specs.Stamped.{has_kept}
use Rattle.ltx_reads.proofs.Walks.{HasPassed, passed_start, passed_more, found_next, found_none}
use Rattle.ltx_reads.proofs.places.next_in.Goals as goal

pub loop-key-init : goal.loop-key-init
loop-key-init c = subst (HasPassed (has_kept c.args.kept.now) c.args.from.now c.args.strict c.args.index.now) (sym c.walk-walk.ensures.pairs) (passed_start (has_kept c.args.kept.now) c.args.from.now c.args.strict c.args.index.now c.walk-walk.ensures.in_order)

pub loop-key-preserved : goal.loop-key-preserved
loop-key-preserved c =
    let here = subst (HasPassed (has_kept c.args.kept.now) c.args.from.now c.args.strict c.args.index.now) c.in-Some.ensures.some c.loop-key.invariant in
    passed_more (has_kept c.args.kept.now) c.args.from.now c.args.strict c.args.index.now (c.in-Some.key.now, c.in-Some.stamps.now) c.next.new.self here refl (subst (λ l. has_kept c.args.kept.now l ≡ false) c.items.ensures (sym c.has_any.ensures ∙ c.if-has_any.false))

pub returns-then-has_any : goal.returns-then-has_any
returns-then-has_any c =
    let here = subst (HasPassed (has_kept c.args.kept.now) c.args.from.now c.args.strict c.args.index.now) c.in-Some.ensures.some c.loop-key.invariant in
    found_next (has_kept c.args.kept.now) c.args.from.now c.args.strict c.args.index.now (c.in-Some.key.now, c.in-Some.stamps.now) c.next.new.self here refl (subst (λ l. has_kept c.args.kept.now l ≡ true) c.items.ensures (sym c.has_any.ensures ∙ c.if-has_any.true))
