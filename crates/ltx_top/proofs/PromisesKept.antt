-- Each legal history keeps what a run promises: the laws, at each of its entries.
use Rattle.std.proofs.Common.{◌≡◌, ℕ, List, [], ◌∷◌, ◌++◌, sym, subst}
use Rattle.ltx_model.specs.declared.replies.Entry.{Entry}
use Rattle.ltx_model.specs.Agenda.{Committed}
use Rattle.ltx_model.specs.Operations.{Transaction}
use Rattle.ltx_model.specs.States.{transaction_of, Base, IsSound, first_state, order}
use Rattle.ltx_model.specs.Histories.{state}
use Rattle.ltx_model.specs.Answers.{IsLegalWith}
use Rattle.ltx_model.proofs.OneMore.{legal-parts}
use Rattle.ltx_top.specs.Built.{built}
use Rattle.ltx_laws.specs.Commits.{StandsJustBefore}
use Rattle.ltx_laws.specs.Orders.{StandsBefore}
use Rattle.ltx_laws.specs.Printed.{IsPrintedBatchAt, IsPrintedShort}
use Rattle.ltx_laws.proofs.ExplainedHistories.{explained}
use Rattle.ltx_laws.proofs.ExplainedStable.{stands_on}
use Rattle.ltx_laws.proofs.PlacesByCommit.{before_placed, home_after, state_then}
use Rattle.ltx_laws.proofs.PrintedCommits.{IsCommitter, committer_is}
use Rattle.ltx_laws.proofs.PrintedPlaces.{against_printed, first_legal, home_printed_after, short_printed_after}
use Rattle.ltx_laws.proofs.Priorities.{least_commits, overtakes_nobody}
use Rattle.ltx_laws.proofs.Refused.{contradicts_told, late_told, waiting_told}
use Rattle.ltx_laws.proofs.RefusedShorts.{changed_told, preserved_told}
use Rattle.ltx_top.specs.DeclaredOrder.{KeepsDeclaredOrder}
use Rattle.ltx_top.specs.Priority.{GivesPriority}
use Rattle.ltx_top.specs.Promises.{KeepsPromises}
use Rattle.ltx_top.specs.Refused.{HasTrueWitnesses}
use Rattle.ltx_top.specs.SerialOrder.{KeepsSerialOrder}
use Rattle.ltx_top.proofs.SparedTables.{spares}

module _ (base : Base) (history : List Entry) (sound : IsSound base) (legal : IsLegalWith built base history) where
  whole : (parts : List Entry) → history ≡ parts → IsLegalWith built base parts
  whole parts same = subst (IsLegalWith built base) same legal

  front : (before later : List Entry) → history ≡ before ++ later → IsLegalWith built base before
  front before later parts = (legal-parts built (first_state base) before later (whole (before ++ later) parts)).0

  through : (before later : List Entry) (entry : Entry) → history ≡ before ++ entry ∷ later → IsLegalWith built base (before ++ entry ∷ [])
  through before later entry parts = first_legal built base before later entry sound (whole (before ++ entry ∷ later) parts)

  serial : KeepsSerialOrder base history
  serial = record {
    explained = λ before later parts. explained built base before sound (front before later parts);
    stable = λ before more later parts. stands_on built base before more sound (front (before ++ more) later parts);
  }

  -- places in the order of the whole history
  module _ (before later : List Entry) (entry : Entry) (parts : history ≡ before ++ entry ∷ later) where
    there : IsLegalWith built base (before ++ entry ∷ later)
    there = whole (before ++ entry ∷ later) parts

    stands : (a b : ℕ) → StandsBefore (order (state base (before ++ entry ∷ later))) a b → StandsBefore (order (state base history)) a b
    stands a b h = subst (λ (l : List Entry). StandsBefore (order (state base l)) a b) (sym parts) h

  declared : KeepsDeclaredOrder base history
  declared = record {
    against = against_printed built base history sound legal;
    forwarded = λ before later entry parts t commits epoch target printed.
        let c : IsCommitter (state base before) entry t = committer_is built base before later entry sound (there before later entry parts) t commits in
        subst (λ (u : Transaction). StandsJustBefore (state base (before ++ entry ∷ [])).agenda (Committed u) target) c.same
        (subst (λ s. StandsJustBefore s.agenda (Committed (transaction_of c.active)) target) (sym (state_then built base before [] entry sound (through before later entry parts)))
        (before_placed built base before [] entry sound (through before later entry parts) c.active c.commit target (epoch, printed)));
    home = λ before later entry parts t commits home first begun u epoch printed less.
        stands before later entry parts u.number t.number
        (home_printed_after built base before later entry sound (there before later entry parts) t commits first (subst (λ (l : List Entry). IsPrintedBatchAt l t.number first) parts begun) home u epoch printed less);
    home_snapshot = λ before later entry parts o commit home d snapshot kind u inside.
        stands before later entry parts u.number o.number
        (home_after built base before later entry sound (there before later entry parts) o commit d snapshot kind home u inside);
    short = λ before later entry parts t commits begun u done.
        stands before later entry parts u.number t.number
        (short_printed_after built base before later entry sound (there before later entry parts) t commits (subst (λ (l : List Entry). IsPrintedShort l t.number) parts begun) u done);
  }

  priority : GivesPriority base history
  priority = record {
    unhindered = λ before later entry parts. overtakes_nobody built base before entry sound (through before later entry parts);
    least = λ before later entry parts. least_commits built base before entry sound (through before later entry parts);
  }

  refusals : HasTrueWitnesses base history
  refusals = record {
    preserved = λ before later entry parts. preserved_told built base before entry sound (through before later entry parts);
    changed = λ before later entry parts. changed_told built base before entry sound (through before later entry parts);
    late = λ before later entry parts. late_told built base before entry sound (through before later entry parts);
    contradicts = λ before later entry parts. contradicts_told built base before entry sound (through before later entry parts);
    waiting = λ before later entry parts. waiting_told built base before entry sound (through before later entry parts);
  }

  pub keeps : KeepsPromises base history
  keeps = record { serial_order = serial; declared_order = declared; spared = spares base history sound legal; priority = priority; refusals = refusals }
