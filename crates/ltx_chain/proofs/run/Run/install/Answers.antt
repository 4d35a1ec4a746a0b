use Rattle.std.proofs.Common.{◌≡◌, Some, subst, sym, ap, ◌∙◌}
use Rattle.ltx_chain.specs.Versions.{AreBelow, Versions}
use Rattle.ltx_chain.specs.Runs.{IsRun, all_of}
use Rattle.ltx_chain.proofs.Runs.{run_push}
use Rattle.ltx_chain.proofs.run.Run.install.Goals as goal

pub invariant_of-self : goal.invariant_of-self
invariant_of-self c =
    let stood : c.self.inside.newest ≡ Some c.in-Some.before = sym c.replace.ensures.value ∙ c.in-Some.is in
    let run = subst (IsRun c.self.inside.older.items) stood c.self.invariant in
    let same = ap (λ (v : Versions). v.items) c.self.view_is in
    let below = subst (AreBelow c.args.version.mark) (sym same ∙ ap (all_of c.self.inside.older.items) stood) c.requires.above in
    rw (c.push_reserved.ensures.items, c.replace.ensures.after) (run_push c.self.inside.older.items c.in-Some.before c.args.version run below)
