use Rattle.std.proofs.Common.{rules, ◌∙◌}
use Rattle.std.proofs.lemmas.Fn.{always_returns_same}
use Rattle.ltx_model.specs.Keys.{key_cmp}
use Rattle.ltx_forward.proofs.Keys.{searched}
use Rattle.ltx_forward.proofs.own.is_own.Goals as goal

-- the closure compares each key with this one
pub returns : goal.returns
returns c sorted =
    let facts = c.binary_search_by.ensures in
    let by_key = facts.position (λ k. key_cmp k c.args.key.now) (always_returns_same _ _ _ (λ a r after called. search rules)) in
    c.is_ok.ensures.value ∙ searched c.args.own.now sorted c.args.key.now c.binary_search_by.result facts.bound by_key
