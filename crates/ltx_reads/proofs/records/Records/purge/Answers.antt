use Rattle.std.proofs.Common.{◌≡◌, ◌==◌, ◌&&◌, ℕ, Bool, List, map, filter, nat_lt, not, option_map, IfOk, sym, ap, ◌∙◌, subst, rules}
use Rattle.std.specs.List.{find, list_any}
use Rattle.std.specs.Option.{option_copied}
use Rattle.ltx_model.specs.Keys.{Cell}
use Rattle.ltx_model.specs.Records.{Records, Recorded, looked_up, has_written, forgotten}
use Rattle.ltx_reads.specs.Batches.{is_late_batch}
use Rattle.ltx_reads.specs.Nexts.{IsNext}
use Rattle.ltx_reads.specs.Places.{stamps_at}
use Rattle.ltx_reads.specs.Stamped.{Stamped, kept_of, has_kept}
use Rattle.ltx_reads.specs.Sites.{AreIndexed}
use Rattle.std.proofs.lemmas.Fn.{filter_same}
use Rattle.ltx_reads.proofs.Commits.{same_kept, commits_filter}
use Rattle.ltx_reads.proofs.Indexed.{indexed_filter}
use Rattle.ltx_reads.proofs.records.Records.purge.Goals as goal

pub invariant_of-self : goal.invariant_of-self
invariant_of-self c =
    let keep : Recorded → Bool = λ r. not (list_any (λ n. n == r.number) c.args.below.now) in
    let kept : c.retain.new.self.items ≡ filter (λ e. keep e.commit) c.self.inside.kept.items = filter_same _ (λ e. keep e.commit) _ (λ x b f' k. search rules) _ _ c.retain.ensures.filtered in
    subst (λ l. AreIndexed l c.self.inside.next c.self.inside.sites) (sym kept) (indexed_filter (λ e. keep e.commit) c.self.inside.kept.items c.self.inside.next c.self.inside.sites c.self.invariant)

pub returns : goal.returns
returns c =
    let keep : Recorded → Bool = λ r. not (list_any (λ n. n == r.number) c.args.below.now) in
    let kept : c.retain.new.self.items ≡ filter (λ e. keep e.commit) c.self.inside.kept.items = filter_same _ (λ e. keep e.commit) _ (λ x b f' k. search rules) _ _ c.retain.ensures.filtered in
    same_kept c.self.inside.commits _ _ (ap (map (λ e. e.commit)) kept ∙ sym (commits_filter keep c.self.inside.kept.items)) ∙ ap (forgotten c.args.below.now) c.self.view_is
