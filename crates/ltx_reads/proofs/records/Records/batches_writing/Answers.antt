use Rattle.std.proofs.Common.{◌≡◌, ◌==◌, ◌&&◌, ℕ, List, map, filter, nat_lt, not, option_map, IfOk, sym, ap, ◌∙◌, subst, rules}
use Rattle.std.specs.List.{find, list_any}
use Rattle.std.specs.Option.{option_copied}
use Rattle.ltx_model.specs.Keys.{Cell}
use Rattle.ltx_model.specs.Records.{Records, Recorded, looked_up, has_written, forgotten}
use Rattle.ltx_reads.specs.Batches.{is_late_batch}
use Rattle.ltx_reads.specs.Nexts.{IsNext}
use Rattle.ltx_reads.specs.Places.{stamps_at}
use Rattle.ltx_reads.specs.Stamped.{Stamped, kept_of, has_kept}
use Rattle.ltx_reads.specs.Sites.{AreIndexed}
use Rattle.ltx_reads.proofs.Commits.{late_are}
use Rattle.ltx_reads.proofs.records.Records.batches_writing.Goals as goal

pub returns : goal.returns
returns c =
    let cell : Cell = record { table = c.args.table; key = c.args.key.now } in
    let kept : List Stamped = c.self.inside.kept.items in
    let is : map (λ (e : Stamped). e.commit.number) (filter (λ e. nat_lt c.args.above e.commit.mark) (kept_of c.deref.result.now c.stamps-stamps.result.now)) ≡ map (λ r. r.number) (filter (is_late_batch cell c.args.above) c.args.self.now.kept) =
    (λ i. map (λ (e : Stamped). e.commit.number) (filter (λ e. nat_lt c.args.above e.commit.mark) (kept_of (c.deref.ensures.value i) (c.stamps-stamps.ensures i))))
    ∙ late_are kept c.self.inside.next cell (stamps_at c.self.inside.sites.batches cell) c.args.above (c.self.invariant.batches cell)
    ∙ ap (λ (r : Records). map (λ r. r.number) (filter (is_late_batch cell c.args.above) r.kept)) c.self.view_is in
    subst (λ l. IfOk c.late_numbers.result (λ txs. txs.items ≡ l)) is c.late_numbers.ensures
