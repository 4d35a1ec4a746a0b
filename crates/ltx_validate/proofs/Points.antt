-- One key that was looked up, and the row that comes next.
use Rattle.std.proofs.Common.{◌≡◌, ◌≢◌, ℕ, Bool, false, List, Option, None, refl, sym, ap, ◌∙◌}
use Rattle.std.specs.declared.cmp.Ordering.{Ordering}
use Rattle.std.specs.declared.cmp.Ordering.TheVariants.{Less, Equal, Greater}
use Rattle.std.specs.Ordering.{is_eq}
use Rattle.std.proofs.lemmas.Bool.{both_ways}
use Rattle.ltx_model.specs.declared.rows.StoredRow.{StoredRow}
use Rattle.ltx_model.specs.declared.writes.Look.{Look}
use Rattle.ltx_model.specs.declared.looked.Reach.TheVariants.{Point}
use Rattle.ltx_model.specs.Keys.{key_cmp, is_below_end}
use Rattle.ltx_model.specs.StoredRows.{writer_at}
use Rattle.ltx_model.specs.NextKeys.{IsNextKey}
use Rattle.ltx_model.specs.Notes.{found_in}
use Rattle.ltx_validate.specs.Differences.{at, IsLeastDifference, Tells}
use Rattle.ltx_validate.specs.Turns.{NextRow}
use Rattle.ltx_model.proofs.KeyOrder.{key_turned, key_itself, same_keys, below_end_lesser}
use Rattle.ltx_model.proofs.Orderings.{is_equal}

module _ (rows : List StoredRow) (table : ℕ) (key : List ℕ) (look : Option Look) (found current : Option ℕ) (found_is : found ≡ found_in look) (current_is : current ≡ writer_at rows (at table key)) where
  pub point_same : found ≡ current → Tells rows table (Point key look false) None
  point_same same = λ k asked. sym found_is ∙ same ∙ current_is ∙ ap (λ q. writer_at rows (at table q)) (same_keys key k (is_equal (key_cmp key k) asked))

  pub point_differs : found ≢ current → IsLeastDifference rows table (Point key look false) (record { key = key; found = found; current = current })
  point_differs differ = record {
    asked = ap is_eq (key_itself key);
    found = sym found_is;
    current = sym current_is;
    differ = differ;
    least = λ k less asked. absurd (let both : is_eq (key_cmp key k) ≡ false = ap is_eq (key_turned k key Less less) in both_ways (is_eq (key_cmp key k)) both asked);
  }

-- the next key is past the upper end: no key that is left is below it
pub row_past : (rows : List StoredRow) (table : ℕ) (high from : List ℕ) (strict : Bool) (key : List ℕ) (writer : ℕ) → IsNextKey rows table from strict key writer → is_below_end high key ≡ false → NextRow rows table high from strict None
row_past rows table high from strict key writer next past k reached below = by_order (key_cmp k key) refl where
  by_order : (o : Ordering) → key_cmp k key ≡ o → writer_at rows (at table k) ≡ None
  by_order Less is = next.least k reached is
  by_order Equal is = absurd (both_ways (is_below_end high k) (ap (is_below_end high) (same_keys k key is) ∙ past) below)
  by_order Greater is = absurd (both_ways (is_below_end high key) past (below_end_lesser high key k (key_turned k key Greater is) below))
