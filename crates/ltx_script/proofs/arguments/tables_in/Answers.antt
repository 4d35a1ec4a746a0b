use Rattle.std.proofs.Common.{◌≡◌, ◌∷◌, ◌++◌, ◌<◌, ◌^◌, ◌≤◌, ◌+◌, [], ℕ, List, Some, None, ap, sym, subst, ◌∙◌, arith, map, rules, option_copied}
use Rattle.ltx_model.specs.Tables.{with_table, no_tables}
use Rattle.ltx_text.specs.Decimals.{decimal_of, number_in}
use Rattle.ltx_script.specs.Commands.{tables_of}
use Rattle.ltx_text.specs.Cuts.{cut_at, parts_after}
use Rattle.ltx_text.proofs.Numbers.{number_is}
use Rattle.ltx_script.proofs.SetLemmas.{NoneFrom, Named, none_in_none, none_from_more, none_with, none_so_far, with_fits, read_more, read_last, stop_none, named_next}
use Rattle.ltx_script.proofs.arguments.tables_in.Goals as goal

pub loop-table-init : goal.loop-table-init
loop-table-init c =
    let set : c.empty-set.result ≡ no_tables = search rules in
    record {
      fits = omega (arith, set);
      below = subst (λ s. NoneFrom s 0) (sym set) (none_in_none 0);
      read = ap (λ (ts : List ℕ). map decimal_of ts ++ cut_at 44 c.args.text.now) (sym (ap tables_of set ∙ none_so_far));
      left = λ named. named;
    }

pub returns-in_err-table-clause-none : goal.returns-in_err-table-clause-none
returns-in_err-table-clause-none c =
    let none : number_in 0 64 c.cut.result.0.now ≡ None = search rules in
    rw c.from_residual.ensures (λ tables rising are.
    stop_none c.loop-table.least (cut_at 44 c.loop-table.text.now) (parts_after 44 (option_copied c.cut.result.1)) c.cut.result.0.now none c.cut.ensures.parts
    (c.loop-table.invariant.left (record { tables = tables; rising = rising; are = are })))

pub returns-then-number-least-clause-none : goal.returns-then-number-least-clause-none
returns-then-number-least-clause-none c =
    let found : number_in 0 64 c.cut.result.0.now ≡ Some c.in_ok-table.table = search rules in
    λ tables rising are.
    let next = named_next c.loop-table.least (cut_at 44 c.loop-table.text.now) (parts_after 44 (option_copied c.cut.result.1)) c.cut.result.0.now c.in_ok-table.table found c.cut.ensures.parts
    (c.loop-table.invariant.left (record { tables = tables; rising = rising; are = are })) in
    omega (arith, next.low)

pub returns-in_default-clause-found : goal.returns-in_default-clause-found
returns-in_default-clause-found c =
    let found : number_in 0 64 c.cut.result.0.now ≡ Some c.in_ok-table.table = search rules in
    let above : c.loop-table.least ≤ c.in_ok-table.table = omega arith in
    let low = number_is c.cut.result.0.now 0 64 c.in_ok-table.table found in
    let none = none_from_more c.loop-table.set c.loop-table.least c.in_ok-table.table above c.loop-table.invariant.below in
    let set : c.with-set.result ≡ with_table c.loop-table.set c.in_ok-table.table = search rules in
    let last : cut_at 44 c.loop-table.text.now ≡ c.cut.result.0.now ∷ [] = c.cut.ensures.parts ∙ ap (λ r. c.cut.result.0.now ∷ parts_after 44 (option_copied r)) c.in_default.is in
    subst (λ s. (cut_at 44 c.args.text.now ≡ map decimal_of (tables_of s)) × (s < 2 ^ 64)) (sym set) (
      read_last (cut_at 44 c.args.text.now) (cut_at 44 c.loop-table.text.now) c.cut.result.0.now c.loop-table.set c.in_ok-table.table none found c.loop-table.invariant.read last,
      with_fits c.loop-table.set c.in_ok-table.table c.loop-table.invariant.fits (omega (arith, low.high)),
    )

pub loop-table-preserved : goal.loop-table-preserved
loop-table-preserved c =
    let found : number_in 0 64 c.cut.result.0.now ≡ Some c.in_ok-table.table = search rules in
    let above : c.loop-table.least ≤ c.in_ok-table.table = omega arith in
    let low = number_is c.cut.result.0.now 0 64 c.in_ok-table.table found in
    let none = none_from_more c.loop-table.set c.loop-table.least c.in_ok-table.table above c.loop-table.invariant.below in
    let set : c.with-set.result ≡ with_table c.loop-table.set c.in_ok-table.table = search rules in
    let number : c.number-least.result ≡ c.in_ok-table.table = search rules in
    let next : cut_at 44 c.loop-table.text.now ≡ c.cut.result.0.now ∷ cut_at 44 c.in-Some.after.now = c.cut.ensures.parts ∙ ap (λ r. c.cut.result.0.now ∷ parts_after 44 (option_copied r)) c.in-Some.is in
    record {
      fits = omega (arith, set, with_fits c.loop-table.set c.in_ok-table.table c.loop-table.invariant.fits (omega (arith, low.high)));
      below = subst (λ s. NoneFrom s (c.number-least.result + 1)) (sym set) (subst (λ k. NoneFrom (with_table c.loop-table.set c.in_ok-table.table) (k + 1)) (sym number) (none_with c.loop-table.set c.in_ok-table.table none));
      read = subst (λ s. cut_at 44 c.args.text.now ≡ map decimal_of (tables_of s) ++ cut_at 44 c.in-Some.after.now) (sym set)
          (read_more (cut_at 44 c.args.text.now) (cut_at 44 c.loop-table.text.now) (cut_at 44 c.in-Some.after.now) c.cut.result.0.now c.loop-table.set c.in_ok-table.table none found c.loop-table.invariant.read next);
      left = λ named. subst (λ k. Named (k + 1) (cut_at 44 c.in-Some.after.now)) (sym number)
          (named_next c.loop-table.least (cut_at 44 c.loop-table.text.now) (cut_at 44 c.in-Some.after.now) c.cut.result.0.now c.in_ok-table.table found next (c.loop-table.invariant.left named)).more;
    }
