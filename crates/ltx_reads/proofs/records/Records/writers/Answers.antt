use Rattle.std.proofs.Common.{◌≡◌, ◌==◌, ◌&&◌, ℕ, List, map, filter, nat_lt, not, option_map, IfOk, sym, ap, ◌∙◌, subst, rules}
use Rattle.std.specs.List.{find, list_any}
use Rattle.std.specs.Option.{option_copied}
use Rattle.ltx_model.specs.Keys.{Cell}
use Rattle.ltx_model.specs.Records.{Records, Recorded, looked_up, has_written, forgotten}
use Rattle.ltx_reads.specs.Batches.{is_late_batch}
use Rattle.ltx_reads.specs.Nexts.{IsNext}
use Rattle.ltx_reads.specs.Places.{stamps_at}
use Rattle.ltx_reads.specs.Stamped.{Stamped, kept_of, has_kept}
use Rattle.ltx_reads.specs.Sites.{AreIndexed}
use Rattle.ltx_reads.proofs.Commits.{writers_are}
use Rattle.ltx_reads.proofs.records.Records.writers.Goals as goal

pub returns : goal.returns
returns c =
    let cell : Cell = record { table = c.args.table; key = c.args.key.now } in
    let kept : List Stamped = c.self.inside.kept.items in
    let is : map (λ (e : Stamped). e.commit.number) (kept_of c.deref.result.now c.stamps-stamps.result.now) ≡ map (λ r. r.number) (filter (has_written cell) c.args.self.now.kept) =
    (λ i. map (λ (e : Stamped). e.commit.number) (kept_of (c.deref.ensures.value i) (c.stamps-stamps.ensures i)))
    ∙ writers_are kept c.self.inside.next cell (stamps_at c.self.inside.sites.writers cell) (c.self.invariant.writers cell)
    ∙ ap (λ (r : Records). map (λ r. r.number) (filter (has_written cell) r.kept)) c.self.view_is in
    subst (λ l. IfOk c.numbers.result (λ txs. txs.items ≡ l)) is c.numbers.ensures
