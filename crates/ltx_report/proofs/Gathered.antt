-- Text that is gathered and handed over piece by piece: what was written is a front of the whole.
use Rattle.std.proofs.Common.{◌≡◌, ℕ, zero, suc, ◌+◌, ◌<◌, List, [], ◌∷◌, ◌++◌, length, take, drop, get_or, flat_map, codes, Option, refl, sym, ap, ◌∙◌, subst, append_assoc, append-nil, take-append-drop}
use Rattle.std.proofs.lemmas.Grind.{flat_map-append}
use Rattle.std.proofs.lemmas.List.{take_more}
use Rattle.std.specs.Io.KnownBytes.{Appends}
use Rattle.std.proofs.KnownBytes.{Appends-trans}
use Rattle.ltx_text.specs.Decimals.{decimal_of}
use Rattle.ltx_model.specs.declared.rows.StoredRow.{StoredRow}
use Rattle.ltx_model.specs.States.{base_of}
use Rattle.ltx_model.specs.Restored.{Restored}
use Rattle.ltx_reply.specs.Recoveries.{row_line, recovery_text}
use Rattle.ltx_report.specs.Texts.{through_line}

-- some front of a text was written
abbrev pub WritesFront : Option (List ℕ) → Option (List ℕ) → List ℕ → Type 0
WritesFront a c text = (n : ℕ) × Appends a c (take n text)

-- a front of what comes first, and of what comes behind it
short_front : (n : ℕ) (xs ys : List ℕ) → (k : ℕ) × (take k (xs ++ ys) ≡ take n xs)
short_front zero xs ys = (0, refl)
short_front (suc n) [] ys = (0, refl)
short_front (suc n) (x ∷ xs) ys = let rest = short_front n xs ys in (suc rest.0, ap (λ l. x ∷ l) rest.1)

long_front : (n : ℕ) (xs ys : List ℕ) → (k : ℕ) × (take k (xs ++ ys) ≡ xs ++ take n ys)
long_front n [] ys = (n, refl)
long_front n (x ∷ xs) ys = let rest = long_front n xs ys in (suc rest.0, ap (λ l. x ∷ l) rest.1)

pub front_in : (a c : Option (List ℕ)) (text rest : List ℕ) → WritesFront a c text → WritesFront a c (text ++ rest)
front_in a c text rest front = let k = short_front front.0 text rest in (k.0, subst (Appends a c) (sym k.1) front.1)

pub front_past : (a b c : Option (List ℕ)) (done held : List ℕ) → Appends a b done → WritesFront b c held → WritesFront a c (done ++ held)
front_past a b c done held first front = let k = long_front front.0 done held in (k.0, subst (Appends a c) (sym k.1) (Appends-trans a b c done (take front.0 held) first front.1))

pub front_done : (a b : Option (List ℕ)) (done rest : List ℕ) → Appends a b done → WritesFront a b (done ++ rest)
front_done a b done rest first = let k = long_front 0 done rest in (k.0, subst (Appends a b) (sym (k.1 ∙ append-nil done)) first)

-- one line more behind it
module _ (a b c : Option (List ℕ)) (held line text : List ℕ) (so_far : (done : List ℕ) × Appends a b done × (done ++ held ≡ text)) where
  joined : so_far.0 ++ (held ++ line) ≡ text ++ line
  joined = sym (append_assoc so_far.0 held line) ∙ ap (λ l. l ++ line) so_far.2

  pub gathers_more : (new : List ℕ) → ((done : List ℕ) × Appends b c done × (done ++ new ≡ held ++ line)) → (done : List ℕ) × Appends a c done × (done ++ new ≡ text ++ line)
  gathers_more new step = (so_far.0 ++ step.0, Appends-trans a b c so_far.0 step.0 so_far.1 step.1, append_assoc so_far.0 step.0 new ∙ ap (λ l. so_far.0 ++ l) step.2 ∙ joined)

  pub front_more : WritesFront b c (held ++ line) → WritesFront a c (text ++ line)
  front_more front = subst (WritesFront a c) joined (front_past a b c so_far.0 (held ++ line) so_far.1 front)

  pub all_more : Appends b c (held ++ line) → Appends a c (text ++ line)
  all_more last = subst (Appends a c) joined (Appends-trans a b c so_far.0 (held ++ line) so_far.1 last)

pub front_so_far : (a b : Option (List ℕ)) (held text rest : List ℕ) → ((done : List ℕ) × Appends a b done × (done ++ held ≡ text)) → WritesFront a b (text ++ rest)
front_so_far a b held text rest so_far =
    subst (WritesFront a b) (sym (append_assoc so_far.0 held rest) ∙ ap (λ l. l ++ rest) so_far.2) (front_done a b so_far.0 (held ++ rest) so_far.1)

-- ---- rows

pub rows_more : (rows : List StoredRow) (i : ℕ) (row : StoredRow) → i < length rows → row ≡ get_or rows i row → flat_map row_line (take (i + 1) rows) ≡ flat_map row_line (take i rows) ++ row_line row
rows_more rows i row within is =
    ap (flat_map row_line) (take_more rows i row within) ∙ flat_map-append row_line (take i rows) (get_or rows i row ∷ [])
    ∙ ap (λ l. flat_map row_line (take i rows) ++ l) (append-nil (row_line (get_or rows i row)) ∙ ap row_line (sym is))

pub rows_parts : (rows : List StoredRow) (n : ℕ) → flat_map row_line (take n rows) ++ flat_map row_line (drop n rows) ≡ flat_map row_line rows
rows_parts rows n = sym (flat_map-append row_line (take n rows) (drop n rows)) ∙ ap (flat_map row_line) (take-append-drop n rows)

through_is : (epoch last : ℕ) → through_line epoch last ≡ codes "through " ++ decimal_of epoch ++ codes " last " ++ decimal_of last ++ 10 ∷ []
through_is epoch last = refl

unfolded : (r : Restored) (gate : ℕ) → recovery_text (base_of r gate) ≡ flat_map row_line r.rows ++ codes "through " ++ decimal_of r.epoch ++ codes " last " ++ decimal_of r.last ++ 10 ∷ []
unfolding recovery_text
unfolded r gate = refl

joins : (f t d l n e : List ℕ) → f ++ (t ++ d ++ l ++ n ++ e) ≡ f ++ t ++ d ++ l ++ n ++ e
joins f t d l n e =
    sym (append_assoc f (t ++ d ++ l ++ n) e)
    ∙ ap (λ x. x ++ e) (sym (append_assoc f (t ++ d ++ l) n) ∙ ap (λ x. x ++ n) (sym (append_assoc f (t ++ d) l) ∙ ap (λ x. x ++ l) (sym (append_assoc f t d))))

text_is : (r : Restored) (gate : ℕ) → flat_map row_line r.rows ++ through_line r.epoch r.last ≡ recovery_text (base_of r gate)
text_is r gate =
    ap (λ l. flat_map row_line r.rows ++ l) (through_is r.epoch r.last)
    ∙ joins (flat_map row_line r.rows) (codes "through ") (decimal_of r.epoch) (codes " last ") (decimal_of r.last) (10 ∷ [])
    ∙ sym (unfolded r gate)

-- ---- the whole text of a recovered log

pub rows_text : (r : Restored) (gate : ℕ) (rows : List StoredRow) → rows ≡ r.rows → flat_map row_line rows ++ through_line r.epoch r.last ≡ recovery_text (base_of r gate)
rows_text r gate rows is = ap (λ (l : List StoredRow). flat_map row_line l ++ through_line r.epoch r.last) is ∙ text_is r gate

module _ (a b c : Option (List ℕ)) (r : Restored) (gate : ℕ) (rows : List StoredRow) (held text : List ℕ) (is : rows ≡ r.rows) (text_held : text ≡ held ++ through_line r.epoch r.last)
    (so_far : (done : List ℕ) × Appends a b done × (done ++ held ≡ flat_map row_line rows)) where
  pub whole_text : Appends b c text → Appends a c (recovery_text (base_of r gate))
  whole_text last = subst (Appends a c) (rows_text r gate rows is) (all_more a b c held (through_line r.epoch r.last) (flat_map row_line rows) so_far (subst (Appends b c) text_held last))

  pub front_text : WritesFront b c text → WritesFront a c (recovery_text (base_of r gate))
  front_text front = subst (WritesFront a c) (rows_text r gate rows is) (front_more a b c held (through_line r.epoch r.last) (flat_map row_line rows) so_far (subst (WritesFront b c) text_held front))
