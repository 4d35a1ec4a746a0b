use Rattle.std.proofs.Common.{◌≡◌, ◌==◌, ◌&&◌, ℕ, List, map, filter, nat_lt, not, option_map, IfOk, sym, ap, ◌∙◌, subst, rules}
use Rattle.std.specs.List.{find, list_any}
use Rattle.std.specs.Option.{option_copied}
use Rattle.ltx_model.specs.Keys.{Cell}
use Rattle.ltx_model.specs.Records.{Records, Recorded, looked_up, has_written, forgotten}
use Rattle.ltx_reads.specs.Batches.{is_late_batch}
use Rattle.ltx_reads.specs.Nexts.{IsNext}
use Rattle.ltx_reads.specs.Places.{stamps_at}
use Rattle.ltx_reads.specs.Stamped.{Stamped, kept_of, has_kept}
use Rattle.ltx_reads.specs.Sites.{AreIndexed}
use Rattle.ltx_reads.proofs.Commits.{has_writer}
use Rattle.ltx_reads.proofs.Nexts.{next_same}
use Rattle.ltx_reads.proofs.records.Records.next_written.Goals as goal

pub returns : goal.returns
returns c =
    let kept : List Stamped = c.self.inside.kept.items in
    let cell : List ℕ → Cell = λ key. record { table = c.args.table; key = key } in
    let found = subst (λ (l : List Stamped). IsNext c.args.from.now c.args.strict (λ key. has_kept l (stamps_at c.self.inside.sites.writers (cell key))) (option_copied c.next_kept.result)) c.deref.ensures.value c.next_kept.ensures in
    subst (λ (r : Records). IsNext c.args.from.now c.args.strict (λ key. list_any (has_written (cell key)) r.kept) (option_copied c.next_kept.result)) c.self.view_is
    (next_same c.args.from.now c.args.strict (λ key. has_kept kept (stamps_at c.self.inside.sites.writers (cell key))) (λ key. list_any (has_written (cell key)) (map (λ e. e.commit) kept))
    (λ key. has_writer kept c.self.inside.next (cell key) (stamps_at c.self.inside.sites.writers (cell key)) (c.self.invariant.writers (cell key))) (option_copied c.next_kept.result) found)
