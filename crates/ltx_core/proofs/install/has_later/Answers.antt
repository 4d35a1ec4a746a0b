use Rattle.std.proofs.Common.{rules, ◌≡◌, ◌<◌, arith, None, sym, ap, ◌∙◌}
use Rattle.std.specs.Option.{option_copied}
use Rattle.ltx_model.specs.Operations.{cell_of_write}
use Rattle.ltx_model.specs.Listings.{place_of}
use Rattle.ltx_chain.specs.Versions.{visible}
use Rattle.ltx_store.specs.Kept.{versions_at}
use Rattle.ltx_core.proofs.LaterVersions.{later_none, later_base, later_member, later_told, by_places}
use Rattle.ltx_core.proofs.install.has_later.Goals as goal

pub returns-in_default : goal.returns-in_default
returns-in_default c =
    let none : None ≡ visible c.args.mark (versions_at c.args.store.now (cell_of_write c.args.write.now)) = search rules in
    later_none c.args.agenda.now.list c.args.store.now (cell_of_write c.args.write.now) c.args.mark c.args.writer c.requires.below none

pub returns-then-last-eq0 : goal.returns-then-last-eq0
returns-then-last-eq0 c =
    later_base c.args.agenda.now.list c.args.store.now (cell_of_write c.args.write.now) c.args.mark c.args.writer c.requires.below c.in-Some.last.now (ap option_copied (sym c.in-Some.is) ∙ c.get_at.ensures.version)
    c.requires.members c.if-last-eq0.true

pub before-requires-clause-second : goal.before-requires-clause-second
before-requires-clause-second c =
    let apart = c.if-last-eq0.false in
    let above : 0 < c.in-Some.last.now.mark = omega (arith, apart) in
    later_member c.args.agenda.now.list c.args.store.now (cell_of_write c.args.write.now) c.args.mark c.args.writer c.requires.below c.in-Some.last.now (ap option_copied (sym c.in-Some.is) ∙ c.get_at.ensures.version)
    c.requires.members above

pub returns : goal.returns
returns c =
    let apart = c.if-last-eq0.false in
    let above : 0 < c.in-Some.last.now.mark = omega (arith, apart) in
    later_told c.args.agenda.now.list c.args.store.now (cell_of_write c.args.write.now) c.args.mark c.args.writer c.requires.below c.in-Some.last.now (ap option_copied (sym c.in-Some.is) ∙ c.get_at.ensures.version)
    c.requires.members above c.before-2.result (by_places c.before-2.result (place_of c.args.agenda.now.list c.args.writer) (place_of c.args.agenda.now.list c.in-Some.last.now.writer) c.before-2.ensures)
