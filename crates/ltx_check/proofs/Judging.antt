-- What a replay found is the verdict.
use Rattle.std.proofs.Common.{◌≡◌, ◌+◌, ◌<◌, ℕ, zero, suc, List, [], ◌∷◌, length, Some, inl, inr, arith}
use Rattle.std.specs.Prelude.{slice_get}
use Rattle.std.specs.List.{AllByRecursion}
use Rattle.ltx_model.specs.declared.rows.StoredRow.{StoredRow}
use Rattle.ltx_model.specs.Rows.{rows_after, rows_after_transaction}
use Rattle.ltx_model.specs.declared.replies.Entry.{Entry}
use Rattle.ltx_check.specs.Lines.{Says}
use Rattle.ltx_check.specs.Opens.{IsWellPlaced}
use Rattle.ltx_check.specs.Orders.{HasCommitted}
use Rattle.ltx_check.specs.Replays.{Told, told_of, transaction_in, IsToldIn, Differs, Finds, RunPlays, RunDiffers}
use Rattle.ltx_check.proofs.Gathering.{told_stand}
use Rattle.ltx_check.specs.Marks.{KeepsPlaces, AgainstAt, in_order, commits_of}
use Rattle.ltx_check.specs.Checked.{IsChecked}
use Rattle.ltx_check.specs.Verdicts.{IsRepliedOtherwise, IsMisplacedCommit}
use Rattle.ltx_check.proofs.Explaining.{explained}

module _ {history : List Entry} {order : List ℕ} {durable : ℕ} (placed : IsWellPlaced history) (members : HasCommitted history order) where
  pub judged_yes : RunPlays history [] order → KeepsPlaces history order → (text : List ℕ) → Says text history order durable → IsChecked text
  judged_yes all places text says = record { history = history; order = order; durable = durable; says = says; placed = placed; explained = explained history order placed members all; places = places }

  pub judged_marks : RunPlays history [] order → (place number : ℕ) → number ≡ place + 1 → Finds (KeepsPlaces history order) (AgainstAt (in_order (commits_of history) order)) (Some place)
      → (text : List ℕ) → Says text history order durable → IsMisplacedCommit text number
  judged_marks all place number counted finds text says = record {
    history = history;
    order = order;
    durable = durable;
    says = says;
    placed = placed;
    explained = explained history order placed members all;
    fault = record { place = place; against = finds.0; first = finds.1; counted = counted };
  }

  pub judged_other : (place number : ℕ) → number ≡ place + 1 → Finds (RunPlays history [] order) (RunDiffers history [] order) (Some place) → (text : List ℕ) → Says text history order durable → IsRepliedOtherwise text number
  judged_other place number counted finds text says = record {
    history = history;
    order = order;
    durable = durable;
    says = says;
    placed = placed;
    members = members;
    fault = record { place = place; differs = finds.0; first = finds.1; counted = counted };
  }

-- ---- what differs is an entry

here_low : (history : List Entry) (place : ℕ) (entry : Entry) → slice_get history place ≡ Some entry → place < length history
here_low [] place entry is = cc
here_low (x ∷ history) zero entry is = omega arith
here_low (x ∷ history) (suc place) entry is = let low = here_low history place entry is in omega (arith, low)

differs_low : (history : List Entry) (n : ℕ) (rows : List StoredRow) (xs : List Told) (place : ℕ) → AllByRecursion (IsToldIn history) xs → Differs n rows xs place → place < length history
differs_low history n rows [] place all d = absurd d
differs_low history n rows (x ∷ xs) place all (inl d) = let low = here_low history x.place all.0.entry all.0.here in omega (arith, low, d.0)
differs_low history n rows (x ∷ xs) place all (inr d) = differs_low history n (rows_after n rows x.answered.op) xs place all.1 d

pub run_low : (history : List Entry) (rows : List StoredRow) (order : List ℕ) (place : ℕ) → RunDiffers history rows order place → place < length history
run_low history rows [] place d = absurd d
run_low history rows (n ∷ order) place (inl d) = differs_low history n rows (told_of history n) place (told_stand history n) d
run_low history rows (n ∷ order) place (inr d) = run_low history (rows_after_transaction rows (transaction_in history n)) order place d
