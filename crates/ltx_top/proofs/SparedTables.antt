-- Each legal history spares what live batches preserve: the laws on shorts, at each of its entries.
use Rattle.std.proofs.Common.{◌≡◌, List, ◌∷◌, ◌++◌, ap, sym, subst, ◌∙◌}
use Rattle.ltx_model.specs.declared.replies.Entry.{Entry}
use Rattle.ltx_model.specs.Operations.{Transaction, operations, touches}
use Rattle.ltx_model.specs.States.{IsShort, Base, IsSound}
use Rattle.ltx_model.specs.Histories.{state}
use Rattle.ltx_model.specs.Answers.{IsLegalWith}
use Rattle.ltx_top.specs.Built.{built}
use Rattle.ltx_laws.specs.Printed.{IsPrintedShort}
use Rattle.ltx_laws.proofs.AnsweredShorts.{held_answered}
use Rattle.ltx_laws.proofs.Preserved.{short_touches_none}
use Rattle.ltx_laws.proofs.PrintedCommits.{IsCommitter, committer_is, begun_short_is}
use Rattle.ltx_laws.proofs.PrintedPlaces.{first_legal}
use Rattle.ltx_top.specs.Spared.{SparesPreserved}

pub spares : (base : Base) (history : List Entry) → IsSound base → IsLegalWith built base history → SparesPreserved base history
spares base history sound legal = record {
  untouched = λ before later entry parts t commits begun table touched.
      let whole : IsLegalWith built base (before ++ entry ∷ later) = subst (IsLegalWith built base) parts legal in
      let c : IsCommitter (state base before) entry t = committer_is built base before later entry sound whole t commits in
      let short : IsPrintedShort (before ++ entry ∷ later) c.active.number = subst (λ (h : List Entry). IsPrintedShort h c.active.number) parts (subst (IsPrintedShort history) (sym (ap (λ (x : Transaction). x.number) c.same)) begun) in
      let kind : c.active.kind ≡ IsShort = begun_short_is built base before later entry sound whole c.active c.commit short in
      short_touches_none built base before entry sound (first_legal built base before later entry sound whole) c.active c.commit kind table (ap (λ (x : Transaction). touches (operations x) table) c.same ∙ touched);
  refused = λ before later entry parts.
      held_answered built base before entry sound (first_legal built base before later entry sound (subst (IsLegalWith built base) parts legal));
}
