use Rattle.std.proofs.Common.{◌≡◌, ◌∷◌, sym, subst, rules}
use Rattle.ltx_core.proofs.Installed.{IsLeft, all_left, one_installed}
use Rattle.ltx_core.proofs.install.install.Goals as goal

pub loop-write-init : goal.loop-write-init
loop-write-init c =
    let all : c.into_iter-write-iterator.result.rest.items ≡ c.args.writes.items = search rules in
    let above = c.requires.above in
    subst (IsLeft c.args.store.now c.args.store.now c.args.writer c.args.mark c.args.writes.items) (sym all)
    (all_left above.0 c.args.mark c.args.store.now c.args.writer c.args.writes.items above.1 above.2 c.requires.rising c.requires.room)

pub loop-write-preserved : goal.loop-write-preserved
loop-write-preserved c =
    let left : c.loop-write.write-iterator.rest.items ≡ c.in-Some.write ∷ c.next.new.self.rest.items = search rules in
    one_installed _ c.loop-write.store c.install.new.self c.args.writer c.args.mark _ c.in-Some.write c.next.new.self.rest.items
    (subst (IsLeft c.args.store.now c.loop-write.store c.args.writer c.args.mark c.args.writes.items) left c.loop-write.invariant) c.install.ensures.installed c.install.ensures.latest c.install.ensures.before
