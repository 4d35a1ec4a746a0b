use Rattle.std.proofs.Common.{◌≡◌, ◌+◌, ◌≤◌, ℕ, List, [], length, get_or, drop, ap, ◌∙◌, sym, subst, arith}
use Rattle.std.proofs.lemmas.List.{at_drop_all}
use Rattle.ltx_agenda.specs.Runs.{Held, rows_of}
use Rattle.ltx_agenda.specs.Marks.{ends_of, mark_at}
use Rattle.ltx_agenda.specs.Lanes.{lane_no, lane_count, lanes_from}
use Rattle.ltx_agenda.specs.Placed.{Standing}
use Rattle.ltx_agenda.proofs.Listings.{run_read, row_is, length-rows}
use Rattle.ltx_agenda.proofs.Restarts.{length-ends}
use Rattle.ltx_agenda.proofs.Walks.{count_step, count_here, count_past, count_most, lane_length}
use Rattle.ltx_agenda.proofs.lanes.Lanes.lane_len.Goals.{then-mark-lane, else-mark-lane}
use Rattle.ltx_agenda.proofs.lanes.Lanes.lane_len.Goals as goal

pub overflow_add-len : goal.overflow_add-len
overflow_add-len c =
    let es = ends_of c.self.inside.marks.items in
    let rows = rows_of c.self.inside.runs.items in
    let k = c.loop-run.run in
    let marks = ap (λ ms. length ms) c.deref-mark-items.ensures.value in
    let ends = length-ends c.self.inside.marks.items in
    let many = c.self.invariant.as_many in
    let runs = length-rows c.self.inside.runs.items in
    let below = c.loop-run-test.true in
    let run = run_read c.self.inside.runs.items k c.index.result.now (omega arith) c.index.ensures in
    let row : c.len-len.result ≡ length (get_or rows k []) = c.len-len.ensures ∙ ap (λ (r : Held). length r.items) run ∙ ap (λ (xs : List ℕ). length xs) (sym (row_is c.self.inside.runs.items k)) in
    let lane : lane_no 0 es k ≡ c.args.lane = sym (c.self.invariant.in_lane k (omega arith)) ∙ ap (λ ms. (mark_at ms k).lane) (sym c.deref-mark-items.ensures.value) ∙ c.if-mark-lane.true in
    let step = count_step es rows k (omega arith) (omega arith) c.args.lane in
    let here = count_here (lane_no 0 es k) c.args.lane (length (get_or rows k [])) (lane_count (lane_no 0 es (k + 1)) (drop (k + 1) es) (drop (k + 1) rows) c.args.lane) lane in
    let most = count_most 0 es rows c.args.lane in
    let sofar = c.loop-run.invariant in
    let counted = c.self.invariant.counted in
    let bounded = c.self.invariant.bounded in
    omega arith

pub loop-run-preserved : goal.loop-run-preserved
loop-run-preserved c =
    let es = ends_of c.self.inside.marks.items in
    let rows = rows_of c.self.inside.runs.items in
    let k = c.loop-run.run in
    let marks = ap (λ ms. length ms) c.deref-mark-items.ensures.value in
    let ends = length-ends c.self.inside.marks.items in
    let many = c.self.invariant.as_many in
    let runs = length-rows c.self.inside.runs.items in
    let below = c.loop-run-test.true in
    let mark : (mark_at c.deref-mark-items.result.now k).lane ≡ lane_no 0 es k = ap (λ ms. (mark_at ms k).lane) c.deref-mark-items.ensures.value ∙ c.self.invariant.in_lane k (omega arith) in
    let step = count_step es rows k (omega arith) (omega arith) c.args.lane in
    let sofar = c.loop-run.invariant in
    elim c.if-mark-lane.branch [
      | then-mark-lane w ↦
          let run = run_read c.self.inside.runs.items k w.index.result.now (omega arith) w.index.ensures in
          let row : w.len-len.result ≡ length (get_or rows k []) = w.len-len.ensures ∙ ap (λ (r : Held). length r.items) run ∙ ap (λ (xs : List ℕ). length xs) (sym (row_is c.self.inside.runs.items k)) in
          let here = count_here (lane_no 0 es k) c.args.lane (length (get_or rows k [])) (lane_count (lane_no 0 es (k + 1)) (drop (k + 1) es) (drop (k + 1) rows) c.args.lane) (sym mark ∙ w.if-mark-lane.true) in
          let len = w.len-is in
          omega arith
      | else-mark-lane w ↦
          let past = count_past (lane_no 0 es k) c.args.lane (length (get_or rows k [])) (lane_count (lane_no 0 es (k + 1)) (drop (k + 1) es) (drop (k + 1) rows) c.args.lane) (λ e. w.if-mark-lane.false (mark ∙ e)) in
          let len = w.len-is in
          omega arith
    ]

pub returns-clause-value : goal.returns-clause-value
returns-clause-value c =
    let es = ends_of c.self.inside.marks.items in
    let rows = rows_of c.self.inside.runs.items in
    let k = c.loop-run.run in
    let marks = ap (λ ms. length ms) c.deref-mark-items.ensures.value in
    let ends = length-ends c.self.inside.marks.items in
    let many = c.self.invariant.as_many in
    let runs = length-rows c.self.inside.runs.items in
    let past = c.loop-run-test.false in
    let none : lane_count (lane_no 0 es k) (drop k es) (drop k rows) c.args.lane ≡ 0 = at_drop_all (λ fs. lane_count (lane_no 0 es k) fs (drop k rows) c.args.lane) es k (omega arith) in
    let whole = lane_length 0 es rows c.args.lane (omega arith) in
    let same = ap (lane_count 0 es rows) (let e : 0 + c.args.lane ≡ c.args.lane = omega arith in e) in
    let sofar = c.loop-run.invariant in
    let all : c.loop-run.len ≡ length (get_or (lanes_from es rows) c.args.lane []) = omega arith in
    all ∙ ap (λ (v : Standing). length (get_or (lanes_from v.ends (rows_of v.runs)) c.args.lane [])) c.self.view_is

pub returns-clause-most : goal.returns-clause-most
returns-clause-most c =
    let most = count_most 0 (ends_of c.self.inside.marks.items) (rows_of c.self.inside.runs.items) c.args.lane in
    let sofar = c.loop-run.invariant in
    subst (λ (v : Standing). c.loop-run.len ≤ length v.list) c.self.view_is (omega arith)
