use Rattle.std.proofs.Common.{◌≡◌, ◌≢◌, ◌∙◌, ◌==◌, Some, false, ap, sym, subst, arith, codes, map}
use Rattle.std.specs.Cmp.Lexicographic.{same_text, other_text}
use Rattle.ltx_model.specs.Tables.{all_tables, no_tables}
use Rattle.ltx_text.specs.Decimals.{decimal_of}
use Rattle.ltx_script.specs.Commands.{tables_of}
use Rattle.ltx_text.specs.Cuts.{cut_at}
use Rattle.ltx_script.proofs.SetTexts.{set_again, unnamed, all_named, tables_named, all_text, none_text, is_all}
use Rattle.ltx_script.proofs.arguments.set_of.Goals as goal

pub returns-then-eq : goal.returns-then-eq
returns-then-eq c =
    let text : c.args.text.now ≡ codes "*" = same_text c.args.text.now c.as_slice.result.now c.if-eq.ensures ∙ c.as_slice.ensures in
    ap (λ s. Some s) c.all.ensures.value ∙ sym (set_again all_tables c.args.text.now (omega arith) (text ∙ sym all_text))

pub returns-then-eq-2 : goal.returns-then-eq-2
returns-then-eq-2 c =
    let text : c.args.text.now ≡ codes "-" = same_text c.args.text.now c.as_slice-2.result.now c.if-eq-2.ensures ∙ c.as_slice-2.ensures in
    ap (λ s. Some s) c.empty.ensures.value ∙ sym (set_again no_tables c.args.text.now (omega arith) (text ∙ sym none_text))

pub returns-in_err-set : goal.returns-in_err-set
returns-in_err-set c =
    let no_star : c.args.text.now ≢ codes "*" = λ e. other_text c.args.text.now c.as_slice.result.now c.if-eq.ensures (e ∙ sym c.as_slice.ensures) in
    let no_dash : c.args.text.now ≢ codes "-" = λ e. other_text c.args.text.now c.as_slice-2.result.now c.if-eq-2.ensures (e ∙ sym c.as_slice-2.ensures) in
    c.from_residual.ensures ∙ sym (unnamed c.args.text.now no_star no_dash c.in_err-set.ensures.none)

pub returns-then-eq-3 : goal.returns-then-eq-3
returns-then-eq-3 c =
    let no_star : c.args.text.now ≢ codes "*" = λ e. other_text c.args.text.now c.as_slice.result.now c.if-eq.ensures (e ∙ sym c.as_slice.ensures) in
    let no_dash : c.args.text.now ≢ codes "-" = λ e. other_text c.args.text.now c.as_slice-2.result.now c.if-eq-2.ensures (e ∙ sym c.as_slice-2.ensures) in
    let all : c.in_ok-set.set ≡ all_tables = is_all c.in_ok-set.set (ap (λ s. c.in_ok-set.set == s) (sym c.all-2.ensures.value) ∙ sym c.if-eq-3.ensures) in
    sym (all_named c.args.text.now no_star no_dash (subst (λ s. cut_at 44 c.args.text.now ≡ map decimal_of (tables_of s)) all c.in_ok-set.ensures.found.0))

pub returns-else-eq-3 : goal.returns-else-eq-3
returns-else-eq-3 c =
    let other : (c.in_ok-set.set == all_tables) ≡ false = ap (λ s. c.in_ok-set.set == s) (sym c.all-2.ensures.value) ∙ sym c.if-eq-3.ensures in
    sym (tables_named c.args.text.now c.in_ok-set.set c.in_ok-set.ensures.found.1 other c.in_ok-set.ensures.found.0)
