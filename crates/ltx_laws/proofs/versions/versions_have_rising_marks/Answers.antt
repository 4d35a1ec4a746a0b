use Rattle.std.proofs.Common.{◌≡◌, ℕ, ◌≤◌, Some, sym, ◌∙◌, subst, Contains}
use Rattle.ltx_model.specs.Operations.{Transaction}
use Rattle.ltx_model.specs.Agenda.{moves_until}
use Rattle.ltx_model.specs.Marks.{number_of_commit}
use Rattle.ltx_model.specs.Versions.{chain_of}
use Rattle.ltx_model.specs.Histories.{state}
use Rattle.ltx_lemmas.proofs.Lists.{some_same}
use Rattle.ltx_laws.proofs.SlotMarks.{mark_is}
use Rattle.ltx_laws.proofs.VersionMarks.{marks_rise, installed_before, visible_before}
use Rattle.ltx_laws.proofs.versions.versions_have_rising_marks.Goals as goal

pub returns : goal.returns
returns c = record {
  rising = marks_rise;
  within = λ built base history sound legal key batch live k e.
      subst (λ n. (v : Transaction) → Contains (chain_of key (moves_until batch.tx.number (state base history).moves)) v → (c : ℕ) × (number_of_commit (state base history).moves v.number ≡ Some c) × (c ≤ n))
      (some_same (sym (mark_is built base history sound legal batch live) ∙ e)) (installed_before built base history sound legal key batch live);
  visible = λ built base history sound legal key batch live k c e v here is low.
      visible_before built base history sound legal key batch live v here c is (subst (λ n. c ≤ n) (some_same (sym e ∙ mark_is built base history sound legal batch live)) low);
}
