-- The earliest of those who wrote a key that a note looks up, by what the note reaches.
use Rattle.std.proofs.Common.{◌≡◌, ◌≤◌, ℕ, Bool, true, false, not, ◌&&◌, ◌==◌, List, length, take, Option, refl, sym, ap, ◌∙◌, subst, eq-eqb, Contains}
use Rattle.std.proofs.lemmas.List.{take_all}
use Rattle.std.proofs.lemmas.Bool.{and_parts, both_ways, eqb-true}
use Rattle.std.specs.Ordering.{is_eq}
use Rattle.ltx_model.specs.declared.looked.Noted.{Noted}
use Rattle.ltx_model.specs.declared.looked.Reach.TheVariants.{Nothing, Point, Range}
use Rattle.ltx_model.specs.declared.writes.Look.{Look}
use Rattle.ltx_model.specs.Keys.{key_cmp, in_range}
use Rattle.ltx_model.specs.Notes.{asks, is_one_of, note_looks_up}
use Rattle.ltx_model.specs.Records.{Records}
use Rattle.ltx_model.proofs.Orderings.{is_equal}
use Rattle.ltx_model.proofs.KeyOrder.{key_itself, same_keys}
use Rattle.ltx_lemmas.proofs.Lists.{true_false, any_item, any_contains}
use Rattle.ltx_forward.specs.Earliest.{Improves, IsAfter, IsWriter, IsWriterFor, IsWriterBy}
use Rattle.ltx_forward.specs.WrittenKeys.{IsWriterIn}
use Rattle.ltx_forward.proofs.Improving.{Given, improves_none, improves_same}

module _ (records : Records) (list : List ℕ) (own mark : ℕ) (after : Option ℕ) (note : Noted) (best found : Option ℕ) where
  -- nobody wrote a key that the note looks up, since it looks none up
  nobody_for : ((key : List ℕ) → asks note.reach key ≡ false) → Improves list (λ n. IsWriterFor records list own mark note n × IsAfter list after n) best best
  nobody_for none = improves_none list (λ n. IsWriterFor records list own mark note n × IsAfter list after n) best
      (λ n h. let parts = and_parts (note.table == h.0.cell.table) (asks note.reach h.0.cell.key) h.0.looks in both_ways (asks note.reach h.0.cell.key) (none h.0.cell.key) parts.1)

  pub nothing_writers : note.reach ≡ Nothing → Improves list (λ n. IsWriterFor records list own mark note n × IsAfter list after n) best best
  nothing_writers is = nobody_for (λ key. ap (λ r. asks r key) is)

  pub own_writers : (key : List ℕ) (look : Option Look) → note.reach ≡ Point key look true → Improves list (λ n. IsWriterFor records list own mark note n × IsAfter list after n) best best
  own_writers key look is = nobody_for (λ k. ap (λ r. asks r k) is)

  pub point_writers : (key : List ℕ) (look : Option Look) → note.reach ≡ Point key look false → Improves list (λ n. IsWriter records list own mark (record { table = note.table; key = key }) n × IsAfter list after n) best found
      → Improves list (λ n. IsWriterFor records list own mark note n × IsAfter list after n) best found
  point_writers key look is one = improves_same list (λ n. IsWriter records list own mark (record { table = note.table; key = key }) n × IsAfter list after n) (λ n. IsWriterFor records list own mark note n × IsAfter list after n) best found one to from where
    to : (n : ℕ) → IsWriterFor records list own mark note n × IsAfter list after n → IsWriter records list own mark (record { table = note.table; key = key }) n × IsAfter list after n
    to n h =
        let parts = and_parts (note.table == h.0.cell.table) (asks note.reach h.0.cell.key) h.0.looks in
        let table : note.table ≡ h.0.cell.table = eqb-true note.table h.0.cell.table parts.0 in
        let same : key ≡ h.0.cell.key = same_keys key h.0.cell.key (is_equal (key_cmp key h.0.cell.key) (sym (ap (λ r. asks r h.0.cell.key) is) ∙ parts.1)) in
        (subst (λ t. IsWriter records list own mark (record { table = t; key = key }) n) (sym table) (subst (λ k. IsWriter records list own mark (record { table = h.0.cell.table; key = k }) n) (sym same) h.0.writer), h.1)

    from : (n : ℕ) → IsWriter records list own mark (record { table = note.table; key = key }) n × IsAfter list after n → IsWriterFor records list own mark note n × IsAfter list after n
    from n h = (
      record {
        cell = record { table = note.table; key = key };
        looks = ap (λ b. b && asks note.reach key) (eq-eqb note.table note.table refl) ∙ ap (λ r. asks r key) is ∙ ap is_eq (key_itself key);
        writer = h.0;
      },
      h.1,
    )

  pub range_writers : (low high : List ℕ) (looks : List Look) (keys : List (List ℕ)) → note.reach ≡ Range low high looks keys
      → Improves list (λ n. IsWriterIn records list own mark note.table low high keys n × IsAfter list after n) best found → Improves list (λ n. IsWriterFor records list own mark note n × IsAfter list after n) best found
  range_writers low high looks keys is one = improves_same list (λ n. IsWriterIn records list own mark note.table low high keys n × IsAfter list after n) (λ n. IsWriterFor records list own mark note n × IsAfter list after n) best found one to from where
    negated : (b : Bool) → not b ≡ true → b ≡ false
    negated true e = absurd (true_false (sym e))
    negated false e = refl

    to : (n : ℕ) → IsWriterFor records list own mark note n × IsAfter list after n → IsWriterIn records list own mark note.table low high keys n × IsAfter list after n
    to n h =
        let parts = and_parts (note.table == h.0.cell.table) (asks note.reach h.0.cell.key) h.0.looks in
        let table : note.table ≡ h.0.cell.table = eqb-true note.table h.0.cell.table parts.0 in
        let asked = and_parts (in_range low high h.0.cell.key) (not (is_one_of keys h.0.cell.key)) (sym (ap (λ r. asks r h.0.cell.key) is) ∙ parts.1) in (
          record {
            key = h.0.cell.key;
            inside = asked.0;
            other = negated (is_one_of keys h.0.cell.key) asked.1;
            writer = subst (λ t. IsWriter records list own mark (record { table = t; key = h.0.cell.key }) n) (sym table) h.0.writer;
          },
          h.1,
        )

    asked_of : (a b : Bool) → a ≡ true → b ≡ false → (a && not b) ≡ true
    asked_of a b x y = rw (x, y) refl

    from : (n : ℕ) → IsWriterIn records list own mark note.table low high keys n × IsAfter list after n → IsWriterFor records list own mark note n × IsAfter list after n
    from n h = (
      record {
        cell = record { table = note.table; key = h.0.key };
        looks = ap (λ b. b && asks note.reach h.0.key) (eq-eqb note.table note.table refl) ∙ ap (λ r. asks r h.0.key) is ∙ asked_of (in_range low high h.0.key) (is_one_of keys h.0.key) h.0.inside h.0.other;
        writer = h.0.writer;
      },
      h.1,
    )

-- one note after another: all of them
pub notes_writers : (records : Records) (list : List ℕ) (own mark : ℕ) (after : Option ℕ) (notes : List Noted) (k : ℕ) (best found : Option ℕ) → length notes ≤ k
    → Improves list (Given list (λ note n. IsWriterFor records list own mark note n × IsAfter list after n) notes k) best found
    → Improves list (λ n. IsWriterBy records list own mark notes n × IsAfter list after n) best found
notes_writers records list own mark after notes k best found all one = improves_same list (Given list Gives notes k) (λ n. IsWriterBy records list own mark notes n × IsAfter list after n) best found one to from where
  Gives : Noted → ℕ → Type 0
  Gives note n = IsWriterFor records list own mark note n × IsAfter list after n

  whole : take k notes ≡ notes
  whole = take_all k notes all

  to : (n : ℕ) → IsWriterBy records list own mark notes n × IsAfter list after n → Given list Gives notes k n
  to n h =
      let at = any_item (note_looks_up h.0.cell) notes h.0.looks in
      record { item = at.0; here = subst (λ l. Contains l at.0) (sym whole) at.1; gives = (record { cell = h.0.cell; looks = at.2; writer = h.0.writer }, h.1) }

  from : (n : ℕ) → Given list Gives notes k n → IsWriterBy records list own mark notes n × IsAfter list after n
  from n g = (
    record {
      cell = g.gives.0.cell;
      looks = any_contains (note_looks_up g.gives.0.cell) notes g.item (subst (λ l. Contains l g.item) whole g.here) g.gives.0.looks;
      writer = g.gives.0.writer;
    },
    g.gives.1,
  )
