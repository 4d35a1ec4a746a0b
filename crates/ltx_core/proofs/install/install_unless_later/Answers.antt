use Rattle.std.proofs.Common.{◌≡◌, false, ◌∷◌, sym, subst, rules}
use Rattle.ltx_model.specs.Decisions.{is_installed}
use Rattle.ltx_model.specs.Operations.{cell_of_write}
use Rattle.ltx_core.specs.Installed.{last_writer}
use Rattle.ltx_core.proofs.InstallsUnless.{AreLeft, all_looked, one_put, no_later}
use Rattle.ltx_core.proofs.install.install_unless_later.Goals as goal

pub loop-write-init : goal.loop-write-init
loop-write-init c =
    let all : c.into_iter-write-iterator.result.rest.items ≡ c.args.writes.items = search rules in
    let above = c.requires.above in
    subst (AreLeft c.args.agenda.now.list c.args.store.now c.args.store.now c.args.writer c.args.mark c.args.writes.items) (sym all)
    (all_looked c.args.agenda.now.list above.0 c.args.mark c.args.store.now c.args.writer c.args.writes.items above.1 above.2 c.requires.rising c.requires.room)

pub loop-write-preserved-then-not-has_later : goal.loop-write-preserved-then-not-has_later
loop-write-preserved-then-not-has_later c =
    let left : c.loop-write.write-iterator.rest.items ≡ c.in-Some.write ∷ c.next.new.self.rest.items = search rules in
    let not_later : c.has_later.result ≡ false = search rules in
    one_put c.args.agenda.now.list c.args.store.now c.loop-write.store c.args.writer c.args.mark c.args.writes.items c.in-Some.write c.next.new.self.rest.items
    (subst (AreLeft c.args.agenda.now.list c.args.store.now c.loop-write.store c.args.writer c.args.mark c.args.writes.items) left c.loop-write.invariant)
    c.install.new.self c.install.ensures.installed
    (no_later c.has_later.result (is_installed c.args.agenda.now.list (last_writer c.loop-write.store (cell_of_write c.in-Some.write)) c.args.writer) c.has_later.ensures not_later)
    c.install.ensures.latest c.install.ensures.before
