use Rattle.std.proofs.Common.{◌≡◌, ◌+◌, ◌-◌, ◌<◌, ◌≤◌, ℕ, List, [], true, ap, ◌∙◌, sym, arith, refl, length, get_or, ◌⊎◌, inl, inr}
use Rattle.std.proofs.lemmas.Bool.{cases_lt}
use Rattle.std.proofs.lemmas.List.{length-set, get_or-set_other}
use Rattle.ltx_agenda.specs.declared.mark.Mark.{Mark}
use Rattle.ltx_agenda.specs.Marks.{mark_at, IsStarted}
use Rattle.ltx_agenda.specs.Runs.{Held, rows_of}
use Rattle.ltx_agenda.proofs.Listings.{row_is, length-rows, run_read}
use Rattle.ltx_agenda.proofs.Restarts.{no_mark, lane_kept, ends_alike, ends-set, started_alike, restart_next, restart_fits}
use Rattle.ltx_agenda.proofs.mark.restart.Goals as goal

pub returns-then-before-clause-started : goal.returns-then-before-clause-started
returns-then-before-clause-started c =
    let marks = c.loop-b.marks in
    let inv = c.loop-b.invariant in
    let rows = rows_of c.args.runs.now in
    let after = c.loop-b.auto.b in
    let len = c.loop-b.auto.marks in
    let below = c.loop-b-test.true in
    let ended : (mark_at c.args.marks.now (c.loop-b.b - 1)).ends ≡ true = ends_alike marks c.args.marks.now (c.loop-b.b - 1) inv.ends ∙ c.if-before.true in
    λ b within. by_case b within (cases_lt b c.loop-b.b) (λ past. started_alike marks c.args.marks.now rows b inv.ends (inv.rest b past) (c.requires.beyond b (c.loop-b.b - 1) (omega arith) (omega arith) (omega arith) ended))
  where
    by_case : (b : ℕ) → b < length c.loop-b.marks → (b < c.loop-b.b) ⊎ (c.loop-b.b ≤ b) → (c.loop-b.b ≤ b → IsStarted c.loop-b.marks (rows_of c.args.runs.now) b) → IsStarted c.loop-b.marks (rows_of c.args.runs.now) b
    by_case b within (inl before) rest = c.loop-b.invariant.started b before within
    by_case b within (inr past) rest = rest past

pub overflow_add-marks : goal.overflow_add-marks
overflow_add-marks c =
    let marks = c.loop-b.marks in
    let inv = c.loop-b.invariant in
    let rows = rows_of c.args.runs.now in
    let after = c.loop-b.auto.b in
    let len = c.loop-b.auto.marks in
    let as_many = c.requires.as_many in
    let many : length marks ≡ length rows = len ∙ as_many ∙ sym (length-rows c.args.runs.now) in
    let below = c.loop-b-test.true in
    let run = run_read c.args.runs.now (c.loop-b.b - 1) c.index-runs-b.result (omega arith) c.index-runs-b.is in
    let row : c.len-members.result ≡ length (get_or rows (c.loop-b.b - 1) []) = c.len-members.ensures ∙ ap (λ (r : Held). length r.items) run ∙ ap (λ (xs : List ℕ). length xs) (sym (row_is c.args.runs.now (c.loop-b.b - 1))) in
    let fits = restart_fits marks rows c.loop-b.b (omega arith) many (omega arith) c.if-before.false (inv.started (c.loop-b.b - 1) (omega arith) (omega arith)) in
    let bounded = c.requires.bounded in
    omega arith

pub loop-b-preserved : goal.loop-b-preserved
loop-b-preserved c =
    let marks = c.loop-b.marks in
    let inv = c.loop-b.invariant in
    let rows = rows_of c.args.runs.now in
    let after = c.loop-b.auto.b in
    let len = c.loop-b.auto.marks in
    let as_many = c.requires.as_many in
    let many : length marks ≡ length rows = len ∙ as_many ∙ sym (length-rows c.args.runs.now) in
    let below = c.loop-b-test.true in
    let run = run_read c.args.runs.now (c.loop-b.b - 1) c.index-runs-b.result (omega arith) c.index-runs-b.is in
    let row : c.len-members.result ≡ length (get_or rows (c.loop-b.b - 1) []) = c.len-members.ensures ∙ ap (λ (r : Held). length r.items) run ∙ ap (λ (xs : List ℕ). length xs) (sym (row_is c.args.runs.now (c.loop-b.b - 1))) in
    let next : Mark = record { ends = (mark_at marks c.loop-b.b).ends; lane = (mark_at marks c.loop-b.b).lane; start = (mark_at marks (c.loop-b.b - 1)).start + c.len-members.result } in
    let longer = length-set marks c.loop-b.b next in
    record {
      ends = ends-set marks c.loop-b.b next refl ∙ inv.ends;
      lanes = λ b. lane_kept marks c.loop-b.b next b refl ∙ inv.lanes b;
      started = λ b before within. restart_next marks rows c.loop-b.b next (omega arith) many (omega arith) refl c.if-before.false (ap (λ k. (mark_at marks (c.loop-b.b - 1)).start + k) row) inv.started b before (omega arith);
      rest = λ b later. get_or-set_other marks c.loop-b.b b next no_mark (λ e. omega arith) ∙ inv.rest b (omega arith);
    }
