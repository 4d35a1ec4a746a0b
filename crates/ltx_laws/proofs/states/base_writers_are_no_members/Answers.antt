use Rattle.std.proofs.Common.{◌≡◌, ◌<◌, ◌≤◌, false, arith}
use Rattle.std.proofs.lemmas.Bool.{eqb-true, false_from_ne_true}
use Rattle.ltx_model.specs.declared.rows.StoredRow.{StoredRow}
use Rattle.ltx_model.specs.Agenda.{Member, number_of, has_number, is_member}
use Rattle.ltx_model.specs.Histories.{state}
use Rattle.ltx_lemmas.proofs.Lists.{all_contains, all_map, any_item}
use Rattle.ltx_laws.specs.Structure.{Structure}
use Rattle.ltx_laws.proofs.Structures.{structure_of}
use Rattle.ltx_laws.proofs.states.base_writers_are_no_members.Goals as goal

pub returns : goal.returns
returns c = record {
  strangers = λ built base history sound legal.
      let inv : Structure base (state base history) = structure_of built base history legal in
      all_map (λ (row : StoredRow). row.writer ≤ base.last) (λ (row : StoredRow). is_member (state base history).agenda row.writer ≡ false)
      (λ row within. false_from_ne_true (is_member (state base history).agenda row.writer) (λ is.
      let found = any_item (has_number row.writer) (state base history).agenda is in
      let same : number_of found.0 ≡ row.writer = eqb-true (number_of found.0) row.writer found.2 in
      let above : base.last < number_of found.0 = all_contains (λ (m : Member). base.last < number_of m) (state base history).agenda found.0 inv.members.above found.1 in
      let no : ⊥ = omega (arith, within, same, above) in no)) base.rows sound.writers;
}
