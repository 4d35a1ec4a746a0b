-- The last writer of a key in a snapshot is what the relation says, both ways.
use Rattle.std.proofs.Common.{◌≡◌, ℕ, Bool, true, false, cond, List, ◌∷◌, Some, None, refl, sym, ap, ◌∙◌, Contains}
use Rattle.std.specs.List.{list_any}
use Rattle.ltx_model.specs.Keys.{Cell}
use Rattle.ltx_model.specs.Operations.{Transaction, operations, writes_key}
use Rattle.ltx_model.specs.States.{LiveBatch}
use Rattle.ltx_model.specs.Batches.{last_writer_from, last_writer}
use Rattle.ltx_lemmas.proofs.Lists.{some_same, none_some, any_not, any_not_all}
use Rattle.ltx_lemmas.proofs.Searches.{last_writer_append, last_writer_silent, last_writer_is}
use Rattle.ltx_lemmas.proofs.Runs.{last_to_write}
use Rattle.ltx_laws.specs.LastWriters.{IsLastWriter}

module _ (key : Cell) where
  abbrev writes : Transaction → Bool
  writes t = writes_key (operations t) key

  pub found_by : (ts : List Transaction) (n : ℕ) → IsLastWriter ts key n → last_writer_from None key ts ≡ Some n
  found_by ts n h =
      ap (last_writer_from None key) h.parts ∙ last_writer_append None key h.front (h.tx ∷ h.back)
      ∙ ap (λ b. last_writer_from (cond b (Some h.tx.number) (last_writer_from None key h.front)) key h.back) h.writes
      ∙ last_writer_silent (Some h.tx.number) key h.back h.silent
      ∙ ap Some h.number

  given_by : (ts : List Transaction) (n : ℕ) → last_writer_from None key ts ≡ Some n → IsLastWriter ts key n
  given_by ts n e = by_test (list_any writes ts) refl where
    by_test : (b : Bool) → list_any writes ts ≡ b → IsLastWriter ts key n
    by_test false none = absurd (none_some (sym (last_writer_silent None key ts (any_not_all writes ts none)) ∙ e))
    by_test true some =
        let (front, t, back, parts, wrote, silent) = last_to_write key ts some in
        let own : IsLastWriter ts key t.number = record { front = front; tx = t; back = back; parts = parts; number = refl; writes = wrote; silent = silent } in
        record { front = front; tx = t; back = back; parts = parts; number = some_same (sym (found_by ts t.number own) ∙ e); writes = wrote; silent = silent }

  none_by : (ts : List Transaction) → last_writer_from None key ts ≡ None → (t : Transaction) → Contains ts t → writes t ≡ false
  none_by ts e t here = by_test (list_any writes ts) refl where
    by_test : (b : Bool) → list_any writes ts ≡ b → writes t ≡ false
    by_test false none = any_not writes ts t none here
    by_test true some = absurd (none_some (sym e ∙ (last_writer_is None key ts some).3))

pub last_given : (i : LiveBatch) (key : Cell) (n : ℕ) → last_writer i key ≡ Some n → IsLastWriter i.snapshot key n
last_given i key = given_by key i.snapshot

pub last_found : (i : LiveBatch) (key : Cell) (n : ℕ) → IsLastWriter i.snapshot key n → last_writer i key ≡ Some n
last_found i key = found_by key i.snapshot

pub last_nowhere : (i : LiveBatch) (key : Cell) → last_writer i key ≡ None → (t : Transaction) → Contains i.snapshot t → writes_key (operations t) key ≡ false
last_nowhere i key = none_by key i.snapshot
