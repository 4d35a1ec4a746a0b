use Rattle.std.proofs.Common.{◌≡◌, ◌==◌, ◌&&◌, ℕ, List, map, filter, nat_lt, not, option_map, IfOk, sym, ap, ◌∙◌, subst, rules}
use Rattle.std.specs.List.{find, list_any}
use Rattle.std.specs.Option.{option_copied}
use Rattle.ltx_model.specs.Keys.{Cell}
use Rattle.ltx_model.specs.Records.{Records, Recorded, looked_up, has_written, forgotten}
use Rattle.ltx_reads.specs.Batches.{is_late_batch}
use Rattle.ltx_reads.specs.Nexts.{IsNext}
use Rattle.ltx_reads.specs.Places.{stamps_at}
use Rattle.ltx_reads.specs.Stamped.{Stamped, kept_of, has_kept}
use Rattle.ltx_reads.specs.Sites.{AreIndexed}
use Rattle.ltx_reads.proofs.Commits.{mark_found}
use Rattle.ltx_reads.proofs.records.Records.batch_mark.Goals as goal

pub returns : goal.returns
returns c =
    c.mark_of.ensures ∙ ap (option_map (λ (e : Stamped). e.commit.mark)) (c.of_batch.ensures ∙ ap (find (λ (e : Stamped). (λ (r : Recorded). r.batch && (r.number == c.args.tx)) e.commit)) c.deref.ensures.value)
    ∙ mark_found (λ (r : Recorded). r.batch && (r.number == c.args.tx)) c.self.inside.kept.items ∙ ap (λ (r : Records). option_map (λ r. r.mark) (find (λ (r : Recorded). r.batch && (r.number == c.args.tx)) r.kept)) c.self.view_is
