use Rattle.std.proofs.Common.{◌≡◌, ◌-◌, ℕ, List, [], ap, ◌∙◌, sym, refl, arith, length, get_or}
use Rattle.ltx_agenda.specs.Marks.{ends_of}
use Rattle.ltx_agenda.specs.Runs.{Held, rows_of}
use Rattle.ltx_agenda.proofs.InLanes.{lane_bound}
use Rattle.ltx_agenda.proofs.Listings.{row_is, length-rows, run_read}
use Rattle.ltx_agenda.proofs.Restarts.{restart_fits, next_closed, next_open}
use Rattle.ltx_agenda.proofs.mark.next_mark.Goals as goal

pub overflow_add-result : goal.overflow_add-result
overflow_add-result c =
    let some = c.if-len-eq0.false in
    let lane = c.requires.in_lane (length c.args.marks.now - 1) (omega arith) in
    let bound = lane_bound 0 (ends_of c.args.marks.now) (length c.args.marks.now - 1) in
    let many = c.well_formed in
    omega arith

pub returns-then-last-clause-lane : goal.returns-then-last-clause-lane
returns-then-last-clause-lane c =
    let some = c.if-len-eq0.false in
    let many : length c.args.marks.now ≡ length (rows_of c.args.runs.now) = c.requires.as_many ∙ sym (length-rows c.args.runs.now) in
    let lane = c.requires.in_lane (length c.args.marks.now - 1) (omega arith) in
    let next = (next_closed c.args.marks.now (rows_of c.args.runs.now) (length c.args.marks.now) refl many (omega arith) c.if-last.true).0 in
    omega arith

pub returns-then-last-clause-start : goal.returns-then-last-clause-start
returns-then-last-clause-start c =
    let some = c.if-len-eq0.false in
    let many : length c.args.marks.now ≡ length (rows_of c.args.runs.now) = c.requires.as_many ∙ sym (length-rows c.args.runs.now) in
    sym (next_closed c.args.marks.now (rows_of c.args.runs.now) (length c.args.marks.now) refl many (omega arith) c.if-last.true).1

pub overflow_add-result-2 : goal.overflow_add-result-2
overflow_add-result-2 c =
    let some = c.if-len-eq0.false in
    let as_many = c.requires.as_many in
    let many : length c.args.marks.now ≡ length (rows_of c.args.runs.now) = as_many ∙ sym (length-rows c.args.runs.now) in
    let run = run_read c.args.runs.now (length c.args.marks.now - 1) c.index-runs-len.result (omega arith) c.index-runs-len.is in
    let row : c.len-members.result ≡ length (get_or (rows_of c.args.runs.now) (length c.args.marks.now - 1) []) = c.len-members.ensures ∙ ap (λ (r : Held). length r.items) run ∙ ap (λ (xs : List ℕ). length xs) (sym (row_is c.args.runs.now (length c.args.marks.now - 1))) in
    let fits = restart_fits c.args.marks.now (rows_of c.args.runs.now) (length c.args.marks.now) (omega arith) many (omega arith) c.if-last.false (c.requires.started (length c.args.marks.now - 1) (omega arith)) in
    let bounded = c.requires.bounded in
    omega arith

pub returns-clause-lane : goal.returns-clause-lane
returns-clause-lane c =
    let some = c.if-len-eq0.false in
    let many : length c.args.marks.now ≡ length (rows_of c.args.runs.now) = c.requires.as_many ∙ sym (length-rows c.args.runs.now) in
    let lane = c.requires.in_lane (length c.args.marks.now - 1) (omega arith) in
    let next = (next_open c.args.marks.now (rows_of c.args.runs.now) (length c.args.marks.now) refl many (omega arith) c.if-last.false).0 in
    omega arith

pub returns-clause-start : goal.returns-clause-start
returns-clause-start c =
    let some = c.if-len-eq0.false in
    let as_many = c.requires.as_many in
    let many : length c.args.marks.now ≡ length (rows_of c.args.runs.now) = as_many ∙ sym (length-rows c.args.runs.now) in
    let run = run_read c.args.runs.now (length c.args.marks.now - 1) c.index-runs-len.result (omega arith) c.index-runs-len.is in
    let row : c.len-members.result ≡ length (get_or (rows_of c.args.runs.now) (length c.args.marks.now - 1) []) = c.len-members.ensures ∙ ap (λ (r : Held). length r.items) run ∙ ap (λ (xs : List ℕ). length xs) (sym (row_is c.args.runs.now (length c.args.marks.now - 1))) in
    let start = c.requires.started (length c.args.marks.now - 1) (omega arith) in
    let next = (next_open c.args.marks.now (rows_of c.args.runs.now) (length c.args.marks.now) refl many (omega arith) c.if-last.false).1 in
    omega arith
