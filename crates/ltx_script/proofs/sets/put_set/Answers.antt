use Rattle.std.proofs.Common.{◌≡◌, ◌==◌, ◌++◌, false, ap, sym, ◌∙◌}
use Rattle.std.proofs.lemmas.Result.{on_ok_weaker}
use Rattle.ltx_model.specs.Tables.{all_tables}
use Rattle.ltx_script.proofs.Spellings.{no_tables_text, least_text}
use Rattle.ltx_script.proofs.sets.put_set.Goals as goal

pub returns-in-None-clause-ok : goal.returns-in-None-clause-ok
returns-in-None-clause-ok c =
    let other : (c.args.set == all_tables) ≡ false = ap (λ s. c.args.set == s) (sym c.all.ensures.value) ∙ sym c.if-eq.ensures in
    on_ok_weaker c.put_text-in-None.result (λ is. is ∙ ap (λ l. c.args.out.now.items ++ l) (sym (no_tables_text c.args.set other c.in-None.ensures.none))) c.put_text-in-None.ensures.ok

pub returns-in-Some-clause-ok : goal.returns-in-Some-clause-ok
returns-in-Some-clause-ok c =
    let other : (c.args.set == all_tables) ≡ false = ap (λ s. c.args.set == s) (sym c.all.ensures.value) ∙ sym c.if-eq.ensures in
    on_ok_weaker c.put_tables.result (λ is. is ∙ ap (λ l. c.args.out.now.items ++ l) (sym (least_text c.args.set c.in-Some.table other c.in-Some.ensures.least))) c.put_tables.ensures.ok
