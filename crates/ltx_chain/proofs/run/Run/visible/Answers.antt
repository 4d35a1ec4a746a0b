use Rattle.std.proofs.Common.{◌∙◌, ap, sym}
use Rattle.ltx_chain.specs.Versions.{Versions}
use Rattle.ltx_chain.proofs.Runs.{seen_newest, seen_older, older_rising}
use Rattle.ltx_chain.proofs.run.Run.visible.Goals as goal

pub seen-requires : goal.seen-requires
seen-requires c = rw c.deref.ensures.value (older_rising c.self.inside.older.items c.self.inside.newest c.self.invariant)

pub returns-then-is_seen : goal.returns-then-is_seen
returns-then-is_seen c =
    let same = ap (λ (v : Versions). v.items) c.self.view_is in
    let is = seen_newest c.args.mark c.self.inside.older.items c.self.inside.newest (sym c.is_seen.ensures ∙ c.if-is_seen.true) in
    cc

pub returns-else-is_seen : goal.returns-else-is_seen
returns-else-is_seen c =
    let same = ap (λ (v : Versions). v.items) c.self.view_is in
    let is = seen_older c.args.mark c.self.inside.older.items c.self.inside.newest (sym c.is_seen.ensures ∙ c.if-is_seen.false) in
    cc
