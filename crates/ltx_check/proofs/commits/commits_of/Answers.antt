use Rattle.std.proofs.Common.{◌≡◌, [], ◌++◌, take, arith, rules}
use Rattle.std.specs.List.{cons_option}
use Rattle.std.proofs.lemmas.Grind.{common_steps}
use Rattle.ltx_check.specs.Opens.{desk_after}
use Rattle.ltx_check.specs.Marks.{commit_by}
use Rattle.ltx_check.proofs.CommitSteps.{committing_none, committing_more, committing_all}
use Rattle.ltx_check.proofs.commits.commits_of.Goals as goal

pub loop-place-init : goal.loop-place-init
loop-place-init c = committing_none c.args.entries.now c.new-seats.result c.new-commits.result.items (search rules) (search rules)

pub loop-place-preserved : goal.loop-place-preserved
loop-place-preserved c =
    let entry = c.index-entries-place.result in
    let next : c.take.new.self ≡ desk_after c.loop-place.seats entry = search rules in
    let pushed : c.push_some.new.commits.items ≡ c.loop-place.commits.items ++ cons_option (commit_by c.loop-place.place c.loop-place.seats entry) [] = search rules in
    committing_more c.args.entries.now c.loop-place.place c.loop-place.seats c.take.new.self c.loop-place.commits.items c.push_some.new.commits.items entry c.loop-place.invariant
    (omega (arith, c.loop-place-test.true)) c.index-entries-place.is next pushed

pub returns : goal.returns
returns c =
    let all : take c.loop-place.place c.args.entries.now ≡ c.args.entries.now = grind (arith, common_steps) in
    committing_all c.args.entries.now c.loop-place.place c.loop-place.seats c.loop-place.commits.items c.loop-place.invariant all
