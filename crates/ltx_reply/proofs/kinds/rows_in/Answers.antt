use Rattle.std.proofs.Common.{◌≡◌, ℕ, List, [], ◌∷◌, ◌++◌, Some, option_copied, sym, ap, subst, ◌∙◌, rules}
use Rattle.ltx_model.specs.declared.rows.Row.{Row}
use Rattle.ltx_reply.specs.Readings.{rows_in, key_at, value_at}
use Rattle.ltx_text.specs.Cuts.{words_of, words_after}
use Rattle.ltx_reply.proofs.RowsRead.{joined, rows_more}
use Rattle.ltx_reply.proofs.kinds.rows_in.Goals as goal

pub loop-behind-preserved : goal.loop-behind-preserved
loop-behind-preserved c =
    let key = c.cut.result.0.now in
    let value = c.cut-in-loop-behind.result.0.now in
    let whole = rows_in (words_after (option_copied c.args.rest)) in
    let behind = words_of c.in-Some-after-2.behind.now in
    let second : words_of c.in-Some-after.behind.now ≡ value ∷ behind = c.cut-in-loop-behind.ensures.parts ∙ ap (λ r. value ∷ words_after (option_copied r)) c.in-Some-after-2.is in
    let is : words_of c.loop-behind.text.now ≡ key ∷ value ∷ behind =
    c.cut.ensures.parts ∙ ap (λ r. key ∷ words_after (option_copied r)) c.in-Some-after.is ∙ ap (λ (ws : List (List ℕ)). key ∷ ws) second in
    let ke : key_at key ≡ Some c.in_ok-key.key = search rules in
    let ve : value_at value ≡ Some c.in_ok-value.value = search rules in
    let items : c.push.new.self.items ≡ c.loop-behind.rows.items ++ record { key = c.in_ok-key.key; value = c.in_ok-value.value } ∷ [] = search rules in
    subst (λ (l : List Row). whole ≡ joined l (rows_in behind)) (sym items)
    (rows_more whole c.loop-behind.rows.items key value c.in_ok-key.key c.in_ok-value.value (words_of c.loop-behind.text.now) behind c.loop-behind.invariant is ke ve)
