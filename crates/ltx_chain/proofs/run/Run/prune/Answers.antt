use Rattle.std.proofs.Common.{◌≡◌, ap, ◌∙◌, drop}
use Rattle.ltx_chain.specs.Versions.{Versions, visible, kept_from}
use Rattle.ltx_chain.specs.Runs.{all_of}
use Rattle.ltx_chain.proofs.Seen.{visible-kept_from}
use Rattle.ltx_chain.proofs.Runs.{run_left}
use Rattle.ltx_chain.proofs.run.Run.prune.Goals as goal

-- what is left of the older ones
left : (c : goal.After-drop-drain) → c.drop-drain.new.self.0.items ≡ drop c.count_hidden-hidden.result c.self.inside.older.items
left c = c.drop-drain.ensures.items ∙ c.drain.ensures.kept

pub invariant_of-self : goal.invariant_of-self
invariant_of-self c = rw (left c) (run_left c.args.mark c.count_hidden-hidden.result c.self.inside.older.items c.self.inside.newest c.self.invariant (rw c.deref.ensures.value at c.count_hidden-hidden.ensures.kept))

kept : (c : goal.After-drop-drain) → all_of c.drop-drain.new.self.0.items c.self.inside.newest ≡ kept_from c.args.mark c.args.self.now.items
kept c =
    let same = ap (λ (v : Versions). v.items) c.self.view_is in
    rw (left c) ((rw c.deref.ensures.value at c.count_hidden-hidden.ensures.kept) ∙ ap (kept_from c.args.mark) same)

pub returns-clause-kept : goal.returns-clause-kept
returns-clause-kept c = kept c

pub returns-clause-seen : goal.returns-clause-seen
returns-clause-seen c = λ m le. ap (visible m) (kept c) ∙ visible-kept_from _ m c.args.self.now.items le
