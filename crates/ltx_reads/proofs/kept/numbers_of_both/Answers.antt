use Rattle.std.proofs.Common.{◌≡◌, ℕ, List, [], ◌++◌, map, ap, ◌∙◌, subst}
use Rattle.std.specs.List.{cons_option}
use Rattle.ltx_reads.specs.Stamped.{Stamped, kept_of}
use Rattle.ltx_reads.specs.Merges.{merged}
use Rattle.ltx_reads.proofs.Commits.{both_step}
use Rattle.ltx_reads.proofs.kept.numbers_of_both.Goals as goal

pub loop-stamp-preserved : goal.loop-stamp-preserved
loop-stamp-preserved c =
    let all : List ℕ = map (λ (e : Stamped). e.commit.number) (kept_of c.args.kept.now (merged c.args.first.now c.args.second.now)) in
    both_step c.args.kept.now c.in-Some.stamp c.next.new.self c.loop-stamp.found.items _ all
    (subst (λ m. c.loop-stamp.found.items ++ map (λ (e : Stamped). e.commit.number) (kept_of c.args.kept.now m) ≡ all) c.in-Some.ensures.some c.loop-stamp.invariant)
    (c.in_ok-push_number.ensures ∙ ap (λ o. c.loop-stamp.found.items ++ map (λ (e : Stamped). e.commit.number) (cons_option o [])) c.at.ensures)
