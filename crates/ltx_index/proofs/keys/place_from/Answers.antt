use Rattle.std.proofs.Common.{◌≡◌, ap, ◌∙◌, sym, Some, None, slice_get, arith}
use Rattle.std.specs.Option.{option_map}
use Rattle.ltx_model.proofs.KeyOrder.{same_keys}
use Rattle.std.proofs.lemmas.Option.{slice_get_within}
use Rattle.ltx_index.proofs.Places.{lent_item}
use Rattle.ltx_index.proofs.Heads.{gap_next, gap_end}
use Rattle.ltx_index.proofs.keys.place_from.Goals as goal

pub returns-in-Equal : goal.returns-in-Equal
returns-in-Equal c =
    let keys = c.args.keys.now in
    let next = c.in-Some.next.now in
    let here : slice_get keys c.args.from ≡ Some next = sym (lent_item (λ x. x.now) keys c.args.from c.get.result c.get.ensures.lookup) ∙ ap (option_map (λ x. x.now)) c.in-Some.is in
    record {
      found = record { in_range = slice_get_within keys c.args.from next here; below = c.requires.below; here = here ∙ ap Some (same_keys next c.args.key.now (sym c.compare.ensures.order ∙ c.in-Equal.is)) };
      absent = tt;
    }

pub returns-in-Greater : goal.returns-in-Greater
returns-in-Greater c =
    let keys = c.args.keys.now in
    let next = c.in-Some.next.now in
    let here : slice_get keys c.args.from ≡ Some next = sym (lent_item (λ x. x.now) keys c.args.from c.get.result c.get.ensures.lookup) ∙ ap (option_map (λ x. x.now)) c.in-Some.is in
    record { found = tt; absent = gap_next keys c.args.from c.args.key.now next c.requires.in_order c.requires.within c.requires.below here (sym c.compare.ensures.order ∙ c.in-Greater.is) }

pub returns-in_default : goal.returns-in_default
returns-in_default c =
    record { found = tt; absent = gap_end c.args.keys.now c.args.from c.args.key.now c.requires.within c.requires.below (sym (lent_item (λ x. x.now) c.args.keys.now c.args.from c.get.result c.get.ensures.lookup) ∙ ap (option_map (λ x. x.now)) c.in_default.is) }
