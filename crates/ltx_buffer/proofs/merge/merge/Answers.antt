use Rattle.std.proofs.Common.{◌≡◌, ◌+◌, ◌-◌, ◌++◌, [], ◌∷◌, sym, ap, subst, ◌∙◌, arith, rules, true, false, length, take, drop}
use Rattle.std.proofs.lemmas.List.{take_rest, length-drop}
use Rattle.ltx_model.specs.Keys.{IsRising}
use Rattle.ltx_buffer.specs.Own.{cell_in, rows_under}
use Rattle.ltx_buffer.specs.Places.{begins_with}
use Rattle.ltx_buffer.proofs.Rows.{row_hidden, row_kept, all_merged, nothing_left, rising_rows_tail}
use Rattle.ltx_buffer.proofs.merge.merge.Goals as goal

pub loop-row-preserved-in_ok-push : goal.loop-row-preserved-in_ok-push
loop-row-preserved-in_ok-push c =
    let own = c.args.own.now in
    let here = take_rest own c.loop-row.at in
    let there = take_rest own (c.loop-row.at + c.in_ok-at.field-0) in
    let size = length-drop c.loop-row.at own in
    let left : c.loop-row.row-iterator.rest.items ≡ c.in-Some.row ∷ c.next.new.self.rest.items = search rules in
    let begins : begins_with (take (length own - (c.loop-row.at + c.in_ok-at.field-0)) (drop (c.loop-row.at + c.in_ok-at.field-0) own)) c.in-Some.row.key ≡ false = search rules in
    let put = c.in_ok-at.ensures in
    record {
      within = omega (arith, put.within, ap length here, size, c.loop-row.invariant.within);
      whole = λ table own_rises rows_rise.
          let before = c.loop-row.invariant.whole table own_rises rows_rise in
          let rising = subst (IsRising (cell_in table)) left before.rising in
          record {
            rising = rising_rows_tail table c.in-Some.row c.next.new.self.rest.items rising;
            same = row_kept table c.loop-row.at c.in_ok-at.field-0 own _ _ c.in-Some.row c.next.new.self.rest.items c.loop-row.merged.items c.put_below.new.merged.items here there own_rises rising put.below put.rows c.push.new.self.items c.in_ok-push.ensures.items put.next begins
                ∙ ap (λ rs. c.loop-row.merged.items ++ rows_under table rs (drop c.loop-row.at own)) (sym left) ∙ before.same;
          };
    }

pub loop-row-preserved : goal.loop-row-preserved
loop-row-preserved c =
    let own = c.args.own.now in
    let here = take_rest own c.loop-row.at in
    let there = take_rest own (c.loop-row.at + c.in_ok-at.field-0) in
    let size = length-drop c.loop-row.at own in
    let left : c.loop-row.row-iterator.rest.items ≡ c.in-Some.row ∷ c.next.new.self.rest.items = search rules in
    let begins : begins_with (take (length own - (c.loop-row.at + c.in_ok-at.field-0)) (drop (c.loop-row.at + c.in_ok-at.field-0) own)) c.in-Some.row.key ≡ true = search rules in
    let put = c.in_ok-at.ensures in
    record {
      within = omega (arith, put.within, ap length here, size, c.loop-row.invariant.within);
      whole = λ table own_rises rows_rise.
          let before = c.loop-row.invariant.whole table own_rises rows_rise in
          let rising = subst (IsRising (cell_in table)) left before.rising in
          record {
            rising = rising_rows_tail table c.in-Some.row c.next.new.self.rest.items rising;
            same = row_hidden table c.loop-row.at c.in_ok-at.field-0 own _ _ c.in-Some.row c.next.new.self.rest.items c.loop-row.merged.items c.put_below.new.merged.items here there own_rises rising put.below put.rows begins
                ∙ ap (λ rs. c.loop-row.merged.items ++ rows_under table rs (drop c.loop-row.at own)) (sym left) ∙ before.same;
          };
    }

pub loop-row-preserved-else-not-begins_with : goal.loop-row-preserved-else-not-begins_with
loop-row-preserved-else-not-begins_with c =
    let own = c.args.own.now in
    let here = take_rest own c.loop-row.at in
    let there = take_rest own (c.loop-row.at + c.in_ok-at.field-0) in
    let size = length-drop c.loop-row.at own in
    let left : c.loop-row.row-iterator.rest.items ≡ c.in-Some.row ∷ c.next.new.self.rest.items = search rules in
    let begins : begins_with (take (length own - (c.loop-row.at + c.in_ok-at.field-0)) (drop (c.loop-row.at + c.in_ok-at.field-0) own)) c.in-Some.row.key ≡ true = search rules in
    let put = c.in_ok-at.ensures in
    record {
      within = omega (arith, put.within, ap length here, size, c.loop-row.invariant.within);
      whole = λ table own_rises rows_rise.
          let before = c.loop-row.invariant.whole table own_rises rows_rise in
          let rising = subst (IsRising (cell_in table)) left before.rising in
          record {
            rising = rising_rows_tail table c.in-Some.row c.next.new.self.rest.items rising;
            same = row_hidden table c.loop-row.at c.in_ok-at.field-0 own _ _ c.in-Some.row c.next.new.self.rest.items c.loop-row.merged.items c.put_below.new.merged.items here there own_rises rising put.below put.rows begins
                ∙ ap (λ rs. c.loop-row.merged.items ++ rows_under table rs (drop c.loop-row.at own)) (sym left) ∙ before.same;
          };
    }

pub returns : goal.returns
returns c = λ table own_rises rows_rise.
    let own = c.args.own.now in
    let none : c.loop-row.row-iterator.rest.items ≡ [] = nothing_left _ (omega (arith, c.in-None.ensures.steps.0, c.loop-row.row-iterator.rest.ok.0)) in
    all_merged table c.loop-row.at own _ c.loop-row.merged.items c.put_all.new.merged.items (take_rest own c.loop-row.at) own_rises c.in_ok-put_all.ensures
    ∙ ap (λ rs. c.loop-row.merged.items ++ rows_under table rs (drop c.loop-row.at own)) (sym none)
    ∙ (c.loop-row.invariant.whole table own_rises rows_rise).same
