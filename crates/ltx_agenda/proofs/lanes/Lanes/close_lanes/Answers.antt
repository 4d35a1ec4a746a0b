use Rattle.std.proofs.Common.{Vec, Global, ◌≡◌, ◌+◌, ◌++◌, ◌<◌, ◌∷◌, ℕ, List, [], true, false, length, length-append, get_or, drop, ap, ◌∙◌, sym, arith, vec_capacity}
use Rattle.std.proofs.lemmas.List.{at_drop_all}
use Rattle.ltx_agenda.specs.Runs.{Held, rows_of}
use Rattle.ltx_agenda.specs.Marks.{ends_of, mark_at}
use Rattle.ltx_agenda.specs.Lanes.{lane_no, closed, start_no}
use Rattle.ltx_agenda.specs.Placed.{Standing}
use Rattle.ltx_agenda.proofs.InLanes.{length-closed}
use Rattle.ltx_agenda.proofs.Listings.{run_read, row_is, length-rows, append_none}
use Rattle.ltx_agenda.proofs.Restarts.{length-ends, ends_at}
use Rattle.ltx_agenda.proofs.Walks.{closing_ends, closed_ends, closed_on, start_ends, start_on, members_step}
use Rattle.ltx_agenda.proofs.lanes.Lanes.close_lanes.Goals.{then-mark, else-mark}
use Rattle.ltx_agenda.proofs.lanes.Lanes.close_lanes.Goals as goal

pub overflow_add-open : goal.overflow_add-open
overflow_add-open c =
    let rows = rows_of c.self.inside.runs.items in
    let k = c.loop-run.run in
    let marks = ap (λ ms. length ms) c.deref-mark-items.ensures.value in
    let many = c.self.invariant.as_many in
    let runs = length-rows c.self.inside.runs.items in
    let below = c.loop-run-test.true in
    let run = run_read c.self.inside.runs.items k c.index.result.now (omega arith) c.index.ensures in
    let row : c.len-open.result ≡ length (get_or rows k []) = c.len-open.ensures ∙ ap (λ (r : Held). length r.items) run ∙ ap (λ (xs : List ℕ). length xs) (sym (row_is c.self.inside.runs.items k)) in
    let step = members_step (ends_of c.self.inside.marks.items) rows k (let ends = length-ends c.self.inside.marks.items in omega arith) (omega arith) in
    let sofar = c.loop-run.invariant.bounded in
    let list = ap (λ (v : Standing). length v.list) c.self.view_is in
    let bounded = c.requires.bounded in
    omega arith

pub push_reserved-requires : goal.push_reserved-requires
push_reserved-requires c =
    let es = ends_of c.self.inside.marks.items in
    let rows = rows_of c.self.inside.runs.items in
    let k = c.loop-run.run in
    let marks = ap (λ ms. length ms) c.deref-mark-items.ensures.value in
    let ends = length-ends c.self.inside.marks.items in
    let many = c.self.invariant.as_many in
    let runs = length-rows c.self.inside.runs.items in
    let below = c.loop-run-test.true in
    let is : get_or es k false ≡ true = ends_at c.self.inside.marks.items k ∙ ap (λ ms. (mark_at ms k).ends) (sym c.deref-mark-items.ensures.value) ∙ c.if-mark.true in
    let next = ap (λ (xs : List ℕ). length xs) (closed_ends es rows k (omega arith) (omega arith) c.loop-run.open is) in
    let whole = ap (λ (xs : List ℕ). length xs) c.loop-run.invariant.lens in
    let parts = length-append c.loop-run.lens.items (closed c.loop-run.open (drop k es) (drop k rows)) in
    let all = length-append c.args.lens.now.items (closed c.args.before es rows) in
    let closings = length-closed c.args.before 0 es rows (omega arith) in
    let room = c.requires.room in
    let view = ap (λ (v : Standing). lane_no 0 v.ends (length v.ends)) c.self.view_is in
    let capacity = c.loop-run.invariant.capacity in
    let len = c.loop-run.lens.ok.0 in
    omega arith

pub loop-run-preserved : goal.loop-run-preserved
loop-run-preserved c =
    let es = ends_of c.self.inside.marks.items in
    let rows = rows_of c.self.inside.runs.items in
    let k = c.loop-run.run in
    let marks = ap (λ ms. length ms) c.deref-mark-items.ensures.value in
    let ends = length-ends c.self.inside.marks.items in
    let many = c.self.invariant.as_many in
    let runs = length-rows c.self.inside.runs.items in
    let below = c.loop-run-test.true in
    let in_es : k < length es = omega arith in
    let in_rows : k < length rows = omega arith in
    let run = run_read c.self.inside.runs.items k c.index.result.now (omega arith) c.index.ensures in
    let row : c.len-open.result ≡ length (get_or rows k []) = c.len-open.ensures ∙ ap (λ (r : Held). length r.items) run ∙ ap (λ (xs : List ℕ). length xs) (sym (row_is c.self.inside.runs.items k)) in
    let step = members_step es rows k in_es in_rows in
    let mark : get_or es k false ≡ (mark_at c.deref-mark-items.result.now k).ends = ends_at c.self.inside.marks.items k ∙ ap (λ ms. (mark_at ms k).ends) (sym c.deref-mark-items.ensures.value) in
    let inv = c.loop-run.invariant in
    let bound = inv.bounded in
    let size = ap (λ n. c.loop-run.open + n) row in
    elim c.if-mark.branch [
      | then-mark w ↦ record {
        lens = ap (λ s. c.if-mark.lens.items ++ closed s (drop (k + 1) es) (drop (k + 1) rows)) w.open-is ∙ ap (λ (v : Vec ℕ Global). v.items ++ closed 0 (drop (k + 1) es) (drop (k + 1) rows)) w.lens-is
            ∙ ap (λ xs. xs ++ closed 0 (drop (k + 1) es) (drop (k + 1) rows)) (w.push_reserved.ensures.items ∙ ap (λ n. c.loop-run.lens.items ++ n ∷ []) size)
            ∙ closing_ends es rows k c.loop-run.open c.loop-run.lens.items in_es in_rows (mark ∙ w.if-mark.true) ∙ inv.lens;
        open_lane = ap (λ s. start_no s (drop (k + 1) es) (drop (k + 1) rows) (length (drop (k + 1) es))) w.open-is ∙ sym (start_ends es rows k in_es in_rows c.loop-run.open (mark ∙ w.if-mark.true)) ∙ inv.open_lane;
        bounded = let now = w.open-is in omega arith;
        capacity = ap vec_capacity w.lens-is ∙ w.push_reserved.ensures.capacity ∙ inv.capacity;
      }
      | else-mark w ↦ record {
        lens = ap (λ (v : Vec ℕ Global). v.items ++ closed c.if-mark.open (drop (k + 1) es) (drop (k + 1) rows)) w.lens-is
            ∙ ap (λ s. c.loop-run.lens.items ++ closed s (drop (k + 1) es) (drop (k + 1) rows)) (w.open-is ∙ size)
            ∙ ap (λ ys. c.loop-run.lens.items ++ ys) (sym (closed_on es rows k in_es in_rows c.loop-run.open (mark ∙ w.if-mark.false))) ∙ inv.lens;
        open_lane = ap (λ s. start_no s (drop (k + 1) es) (drop (k + 1) rows) (length (drop (k + 1) es))) (w.open-is ∙ size) ∙ sym (start_on es rows k in_es in_rows c.loop-run.open (mark ∙ w.if-mark.false)) ∙ inv.open_lane;
        bounded = let now = w.open-is in omega arith;
        capacity = ap vec_capacity w.lens-is ∙ inv.capacity;
      }
    ]

pub returns-clause-lens : goal.returns-clause-lens
returns-clause-lens c =
    let es = ends_of c.self.inside.marks.items in
    let rows = rows_of c.self.inside.runs.items in
    let marks = ap (λ ms. length ms) c.deref-mark-items.ensures.value in
    let ends = length-ends c.self.inside.marks.items in
    let past = c.loop-run-test.false in
    sym (append_none c.loop-run.lens.items) ∙ sym (at_drop_all (λ fs. c.loop-run.lens.items ++ closed c.loop-run.open fs (drop c.loop-run.run rows)) es c.loop-run.run (omega arith)) ∙ c.loop-run.invariant.lens
    ∙ ap (λ (v : Standing). c.args.lens.now.items ++ closed c.args.before v.ends (rows_of v.runs)) c.self.view_is

pub returns-clause-open : goal.returns-clause-open
returns-clause-open c =
    let es = ends_of c.self.inside.marks.items in
    let rows = rows_of c.self.inside.runs.items in
    let marks = ap (λ ms. length ms) c.deref-mark-items.ensures.value in
    let ends = length-ends c.self.inside.marks.items in
    let past = c.loop-run-test.false in
    sym (at_drop_all (λ fs. start_no c.loop-run.open fs (drop c.loop-run.run rows) (length fs)) es c.loop-run.run (omega arith)) ∙ c.loop-run.invariant.open_lane
    ∙ ap (λ (v : Standing). start_no c.args.before v.ends (rows_of v.runs) (length v.ends)) c.self.view_is
