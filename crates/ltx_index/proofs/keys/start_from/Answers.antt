use Rattle.std.proofs.Common.{◌≡◌, ap, ◌∙◌, sym, Some, None, slice_get, true}
use Rattle.std.specs.Option.{option_map}
use Rattle.std.proofs.lemmas.Bool.{not-false}
use Rattle.ltx_model.specs.NextKeys.{reaches}
use Rattle.ltx_index.proofs.Places.{lent_item}
use Rattle.ltx_index.proofs.Heads.{start_next, start_end}
use Rattle.ltx_index.proofs.keys.start_from.Goals as goal

pub returns-in_default : goal.returns-in_default
returns-in_default c =
    start_end c.args.keys.now c.args.at c.args.from.now c.args.strict c.requires.within c.requires.below (sym (lent_item (λ x. x.now) c.args.keys.now c.args.at c.get.result c.get.ensures.lookup) ∙ ap (option_map (λ x. x.now)) c.in_default.is)

pub returns-else-falls_short : goal.returns-else-falls_short
returns-else-falls_short c =
    let here : slice_get c.args.keys.now c.args.at ≡ Some c.in-Some.next.now = sym (lent_item (λ x. x.now) c.args.keys.now c.args.at c.get.result c.get.ensures.lookup) ∙ ap (option_map (λ x. x.now)) c.in-Some.is in
    let reached : reaches c.args.from.now c.args.strict c.in-Some.next.now ≡ true = not-false _ (rw c.bytes.ensures.value at (sym c.falls_short.ensures ∙ c.if-falls_short.false)) in
    start_next c.args.keys.now c.args.at c.args.from.now c.in-Some.next.now c.args.strict c.requires.within c.requires.below here reached
