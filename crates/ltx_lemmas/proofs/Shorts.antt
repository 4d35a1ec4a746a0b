-- A short whose look-ups have not changed gets the same replies when it is played on the latest rows.
use Rattle.std.proofs.Common.{◌≡◌, ℕ, ◌+◌, Bool, true, false, cond, not, ◌&&◌, ◌==◌, List, [], ◌∷◌, ◌++◌, map, Option, Some, None, option_map, refl, sym, ap, ◌∙◌, subst, append_assoc, append-nil}
use Rattle.std.proofs.lemmas.Bool.{eqb-true, not-false}
use Rattle.std.proofs.lemmas.List.{map-append}
use Rattle.std.specs.List.{list_any, find, AllByRecursion}
use Rattle.ltx_model.specs.declared.commands.Op.{Op}
use Rattle.ltx_model.specs.declared.commands.Op.TheVariants.{Get, Scan, Put, Del}
use Rattle.ltx_model.specs.declared.replies.Reply.{Reply}
use Rattle.ltx_model.specs.declared.replies.Reply.TheVariants.{Rows}
use Rattle.ltx_model.specs.declared.rows.StoredRow.{StoredRow}
use Rattle.ltx_model.specs.Lists.{numbered_from, first_some}
use Rattle.ltx_model.specs.Keys.{Cell, in_range, IsRising}
use Rattle.ltx_model.specs.StoredRows.{cell_of, row_at, writer_at}
use Rattle.ltx_model.specs.Operations.{Transaction, writes_at, covers, looks_up}
use Rattle.ltx_model.specs.Rows.{row_of, rows_after, rows_after_all, reply_on, found, see, play}
use Rattle.ltx_model.specs.States.{Step}
use Rattle.ltx_model.specs.Shorts.{change_of, is_changed, same_writer, cells_of_both, first_change}
use Rattle.ltx_model.proofs.CellOrder.{same_cell_refl}
use Rattle.ltx_lemmas.proofs.Rising.{rising_after_all}
use Rattle.ltx_model.proofs.Rising.{same_filter}
use Rattle.ltx_lemmas.proofs.Views.{agree_after, agree_written, rows_after_all-push}
use Rattle.ltx_lemmas.proofs.Searches.{is_in, is_in_before, is_in_now, none_passes, or_else_none}

-- each reply is what the transaction saw on the latest rows of its moment, after these operations
abbrev pub AreSeenThen : ℕ → List Op → List Step → Type 0
AreSeenThen n earlier [] = Unit {0}
AreSeenThen n earlier (s ∷ steps) = (s.reply ≡ see n s.latest earlier s.op) × AreSeenThen n (earlier ++ s.op ∷ []) steps

-- the rows of then and the rows now: a key with the same writer has the same row
abbrev pub DoWritersTell : List StoredRow → List StoredRow → Type 0
DoWritersTell before now = (q : Cell) → writer_at before q ≡ writer_at now q → row_at before q ≡ row_at now q

same_writer_same : (a b : Option ℕ) → same_writer a b ≡ true → a ≡ b
same_writer_same None None e = refl
same_writer_same None (Some n) e = cc
same_writer_same (Some m) None e = cc
same_writer_same (Some m) (Some n) e = ap Some (eqb-true m n e)

-- a key that an operation covers has the same row now, where it is not changed
cell_sees : (n : ℕ) (before now : List StoredRow) (earlier : List Op) (op : Op) (c : Cell) → DoWritersTell before now → covers c op ≡ true
    → (looks_up c earlier op && not (same_writer (writer_at before c) (writer_at now c))) ≡ false
    → row_at (rows_after_all n before earlier) c ≡ row_at (rows_after_all n now earlier) c
cell_sees n before now earlier op c tell is e = by_test (list_any (writes_at c) earlier) refl where
  by_test : (b : Bool) → list_any (writes_at c) earlier ≡ b → row_at (rows_after_all n before earlier) c ≡ row_at (rows_after_all n now earlier) c
  by_test true w = agree_written n before now earlier c w
  by_test false w =
      let looks : (covers c op && not (list_any (writes_at c) earlier)) ≡ true = rw (is, w) refl in
      let same : not (same_writer (writer_at before c) (writer_at now c)) ≡ false = subst (λ b. (b && not (same_writer (writer_at before c) (writer_at now c))) ≡ false) looks e in
      agree_after n before now earlier c (tell c (same_writer_same (writer_at before c) (writer_at now c) (not-false (same_writer (writer_at before c) (writer_at now c)) same)))

not_chosen : {A B : Type 0} (f : A → B) (b : Bool) (x : A) → option_map f (cond b (Some x) None) ≡ None → b ≡ false
not_chosen f true x e = cc
not_chosen f false x e = refl

none_mapped : {A B : Type 0} (f : A → B) (o : Option A) → option_map f o ≡ None → o ≡ None
none_mapped f None e = refl
none_mapped f (Some x) e = cc

abbrev in_scan : ℕ → List ℕ → List ℕ → Cell → Bool
in_scan table low high c = (c.table == table) && in_range low high c.key

-- a key of a scan has the same row now, where no key of the two maps is changed
scan_sees : (n table : ℕ) (low high : List ℕ) (now : List StoredRow) (earlier : List Step) (step : Step) → step.op ≡ Scan table low high → DoWritersTell step.latest now
    → find (is_changed now earlier step) (cells_of_both step.latest now) ≡ None
    → (q : Cell) → in_scan table low high q ≡ true → row_at (rows_after_all n step.latest (map (λ b. b.op) earlier)) q ≡ row_at (rows_after_all n now (map (λ b. b.op) earlier)) q
scan_sees n table low high now earlier step is tell none q covered = by_rows (row_at step.latest q) (row_at now q) refl refl where
  ops : List Op
  ops = map (λ b. b.op) earlier

  unchanged : is_in q (cells_of_both step.latest now) ≡ true → row_at (rows_after_all n step.latest ops) q ≡ row_at (rows_after_all n now ops) q
  unchanged here = cell_sees n step.latest now ops step.op q tell (ap (covers q) is ∙ covered) (none_passes (is_changed now earlier step) q (cells_of_both step.latest now) none here)

  by_rows : (a b : Option StoredRow) → row_at step.latest q ≡ a → row_at now q ≡ b → row_at (rows_after_all n step.latest ops) q ≡ row_at (rows_after_all n now ops) q
  by_rows None None ea eb = agree_after n step.latest now ops q (ea ∙ sym eb)
  by_rows None (Some r) ea eb = unchanged (is_in_now q step.latest now r eb)
  by_rows (Some r) b ea eb = unchanged (is_in_before q step.latest now r ea)

-- an operation that is not changed would be answered alike now
sees_alike : (n k : ℕ) (now before : List StoredRow) (order : List Transaction) (earlier : List Step) (op : Op) (reply : Reply) → IsRising cell_of before → IsRising cell_of now → DoWritersTell before now
    → change_of now (record { number = k; earlier = earlier; item = record { op = op; reply = reply; order = order; latest = before } }) ≡ None
    → reply_on (rows_after_all n before (map (λ b. b.op) earlier)) op ≡ reply_on (rows_after_all n now (map (λ b. b.op) earlier)) op
sees_alike n k now before order earlier (Get table key) reply rb rn tell e =
    let c : Cell = record { table = table; key = key } in
    ap found (cell_sees n before now (map (λ b. b.op) earlier) (Get table key) c tell (same_cell_refl c) (not_chosen _ _ _ e))
sees_alike n k now before order earlier (Scan table low high) reply rb rn tell e =
    let ops : List Op = map (λ b. b.op) earlier in
    ap (λ (l : List StoredRow). Rows (map row_of l))
    (same_filter cell_of (in_scan table low high) (rows_after_all n before ops) (rows_after_all n now ops) (rising_after_all n before ops rb) (rising_after_all n now ops rn)
    (scan_sees n table low high now earlier (record { op = Scan table low high; reply = reply; order = order; latest = before }) refl tell (none_mapped _ _ e)))
sees_alike n k now before order earlier (Put table key value) reply rb rn tell e = refl
sees_alike n k now before order earlier (Del table key) reply rb rn tell e = refl

play_from : (n k : ℕ) (now : List StoredRow) (earlier steps : List Step) → IsRising cell_of now → AllByRecursion (λ s. IsRising cell_of s.latest) steps → AllByRecursion (λ s. DoWritersTell s.latest now) steps
    → AreSeenThen n (map (λ b. b.op) earlier) steps → first_some (change_of now) (numbered_from k earlier steps) ≡ None
    → play n (rows_after_all n now (map (λ b. b.op) earlier)) (map (λ b. b.op) steps) ≡ map (λ b. b.reply) steps
unfolding see
play_from n k now earlier [] rn rising tell seen none = refl
play_from n k now earlier (s ∷ steps) rn rising tell seen none =
    let ops : List Op = map (λ (b : Step). b.op) earlier in
    let both = or_else_none (change_of now (record { number = k; earlier = earlier; item = s })) (first_some (change_of now) (numbered_from (k + 1) (earlier ++ s ∷ []) steps)) none in
    let head : reply_on (rows_after_all n now ops) s.op ≡ s.reply = sym (seen.0 ∙ sees_alike n k now s.latest s.order earlier s.op s.reply rising.0 rn tell.0 both.0) in
    let names : map (λ (b : Step). b.op) (earlier ++ s ∷ []) ≡ ops ++ s.op ∷ [] = map-append (λ (b : Step). b.op) earlier (s ∷ []) in
    let more : rows_after_all n now (map (λ (b : Step). b.op) (earlier ++ s ∷ [])) ≡ rows_after n (rows_after_all n now ops) s.op = ap (rows_after_all n now) names ∙ rows_after_all-push n now ops s.op in
    let rest : play n (rows_after n (rows_after_all n now ops) s.op) (map (λ (b : Step). b.op) steps) ≡ map (λ (b : Step). b.reply) steps =
    subst (λ r. play n r (map (λ (b : Step). b.op) steps) ≡ map (λ (b : Step). b.reply) steps) more
    (play_from n (k + 1) now (earlier ++ s ∷ []) steps rn rising.1 tell.1 (subst (λ l. AreSeenThen n l steps) (sym names) seen.1) both.1) in
    λ i. head i ∷ rest i

pub play_unchanged : (n : ℕ) (now : List StoredRow) (steps : List Step) → IsRising cell_of now → AllByRecursion (λ s. IsRising cell_of s.latest) steps → AllByRecursion (λ s. DoWritersTell s.latest now) steps
    → AreSeenThen n [] steps → first_change now steps ≡ None → play n now (map (λ b. b.op) steps) ≡ map (λ b. b.reply) steps
unfolding first_change
play_unchanged n now steps rn rising tell seen none = play_from n 1 now [] steps rn rising tell seen none

-- one more step
pub seen_then_push : (n : ℕ) (earlier : List Op) (steps : List Step) (s : Step) → AreSeenThen n earlier steps → s.reply ≡ see n s.latest (earlier ++ map (λ b. b.op) steps) s.op → AreSeenThen n earlier (steps ++ s ∷ [])
seen_then_push n earlier [] s seen e = (e ∙ ap (λ l. see n s.latest l s.op) (append-nil earlier), tt)
seen_then_push n earlier (b ∷ bs) s seen e = (seen.0, seen_then_push n (earlier ++ b.op ∷ []) bs s seen.1 (e ∙ ap (λ l. see n s.latest l s.op) (sym (append_assoc earlier (b.op ∷ []) (map (λ b. b.op) bs)))))
