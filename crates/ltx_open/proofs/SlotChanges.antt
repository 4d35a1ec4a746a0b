-- The slots of sessions: one is set, and one more is made.
use Rattle.std.proofs.Common.{◌≡◌, ℕ, zero, suc, ◌<◌, ◌≤◌, Bool, true, false, ◌==◌, List, [], ◌∷◌, ◌++◌, length, map, get_or, set, Option, Some, None, option_map, refl, sym, ap, ◌∙◌, subst, arith}
use Rattle.std.specs.List.{AllByRecursion}
use Rattle.std.proofs.lemmas.Bool.{eqb-true, eq-eqb, ne_eqb}
use Rattle.std.proofs.lemmas.List.{set-get_or}
use Rattle.ltx_model.specs.declared.commands.Op.{Op}
use Rattle.ltx_model.specs.declared.replies.Reply.{Reply}
use Rattle.ltx_model.specs.declared.replies.Reply.TheVariants.{NoTx, LimitOps}
use Rattle.ltx_model.specs.declared.writes.Write.{Write}
use Rattle.ltx_model.specs.Limits.{most_operations}
use Rattle.ltx_lemmas.proofs.Lists.{true_false, some_same}
use Rattle.ltx_store.specs.Kept.{Kept}
use Rattle.ltx_open.specs.Operations.{HasDoneIn, HasMore}
use Rattle.ltx_open.specs.Same.{IsSameAt, AreSameOpens}
use Rattle.ltx_open.proofs.SameOpens.{same_at_itself, same_opens}
use Rattle.ltx_open.specs.Views.{OpenView}
use Rattle.ltx_open.specs.Slots.{opened, HasAt}

-- a new slot is empty
pub opened_push : (slots : List (Option OpenView)) (n : ℕ) → opened (slots ++ None ∷ []) n ≡ opened slots n
opened_push [] zero = refl
opened_push [] (suc n) = refl
opened_push (s ∷ ss) zero = refl
opened_push (s ∷ ss) (suc n) = opened_push ss n

here_set : (slots : List (Option OpenView)) (place : ℕ) (x : Option OpenView) → place < length slots → opened (set slots place x) place ≡ x
here_set [] place x within = absurd (omega arith)
here_set (s ∷ ss) zero x within = refl
here_set (s ∷ ss) (suc place) x within = here_set ss place x (omega arith)

others_set : (slots : List (Option OpenView)) (place n : ℕ) (x : Option OpenView) → (n == place) ≡ false → opened (set slots place x) n ≡ opened slots n
others_set [] place n x apart = refl
others_set (s ∷ ss) zero zero x apart = absurd (true_false apart)
others_set (s ∷ ss) zero (suc n) x apart = refl
others_set (s ∷ ss) (suc place) zero x apart = refl
others_set (s ∷ ss) (suc place) (suc n) x apart = others_set ss place n x (ne_eqb n place (λ e. true_false (sym (eq-eqb (suc n) (suc place) (ap suc e)) ∙ apart)))

pub slot_set : (slots : List (Option OpenView)) (place : ℕ) (x : Option OpenView) → place < length slots → HasAt slots place x (set slots place x)
slot_set slots place x within = record { here = here_set slots place x within; others = λ n apart. others_set slots place n x apart }

-- a slot by its place
pub opened_place : (slots : List (Option OpenView)) (place : ℕ) (x : Option OpenView) → place < length slots → x ≡ get_or slots place x → opened slots place ≡ x
opened_place [] place x within is = absurd (omega arith)
opened_place (s ∷ ss) zero x within is = sym is
opened_place (s ∷ ss) (suc place) x within is = opened_place ss place x (omega arith) is

-- there is none past the last one
pub opened_past : (slots : List (Option OpenView)) (place : ℕ) → length slots ≤ place → opened slots place ≡ None
opened_past [] place past = refl
opened_past (s ∷ ss) zero past = absurd (omega arith)
opened_past (s ∷ ss) (suc place) past = opened_past ss place (omega arith)

pub slots_past : (slots : List (Option OpenView)) (place : ℕ) → length slots ≤ place → HasAt slots place None slots
slots_past slots place past = record { here = opened_past slots place past; others = λ n apart. refl }

-- where each slot is changed, each open transaction is
pub opened_map : (f : OpenView → OpenView) (slots : List (Option OpenView)) (n : ℕ) → opened (map (option_map f) slots) n ≡ option_map f (opened slots n)
opened_map f [] n = refl
opened_map f (s ∷ ss) zero = refl
opened_map f (s ∷ ss) (suc n) = opened_map f ss n

-- An operation in the slot of a session. The slots are those of before it, by their items; x is what the slot had, and y what it has.
module _ (slots old : List (Option OpenView)) (same : slots ≡ old) (place session : ℕ) (is : place ≡ session) (x y : Option OpenView) (within : place < length slots) (at : x ≡ get_or slots place x) where
  slot_is : opened old session ≡ x
  slot_is = sym (λ i. opened (same i) (is i)) ∙ opened_place slots place x within at

  unchanged : y ≡ x → set slots place y ≡ old
  unchanged stays = ap (set slots place) (stays ∙ at) ∙ set-get_or slots place x ∙ same

  pub in_none : (reply : Reply) → (x ≡ None → (reply ≡ NoTx) × (y ≡ x)) → opened old session ≡ None → (reply ≡ NoTx) × (set slots place y ≡ old)
  in_none reply does none = let d = does (sym slot_is ∙ none) in (d.0, unchanged d.1)

  pub in_full : (reply : Reply) → ((a : OpenView) → x ≡ Some a → most_operations ≤ length a.notes.notes → (reply ≡ LimitOps) × (y ≡ x))
      → (a : OpenView) → opened old session ≡ Some a → most_operations ≤ length a.notes.notes → (reply ≡ LimitOps) × AreSameOpens old (set slots place y)
  in_full reply does a some full = let d = does a (sym slot_is ∙ some) full in (d.0, same_opens old (set slots place y) (λ n. ap (λ l. opened l n) (unchanged d.1)))

  set_at : HasAt old session y (set slots place y)
  set_at = subst (λ o. HasAt o session y (set slots place y)) same (subst (λ n. HasAt slots n y (set slots place y)) is (slot_set slots place y within))

  pub in_done : (kept : List Kept) (mark : ℕ) (op : Op) (reply : Reply) → ((a : OpenView) → x ≡ Some a → length a.notes.notes < most_operations → HasDoneIn kept mark a op reply y)
      → (a : OpenView) → opened old session ≡ Some a → length a.notes.notes < most_operations → HasMore kept mark old session a op reply (set slots place y)
  in_done kept mark op reply does a some room =
      let d = does a (sym slot_is ∙ some) room in
      record { now = d.now; done = d.done; kept_at = subst (λ o. HasAt old session o (set slots place y)) d.is set_at }

  pub in_kept : IsSameAt x y → AreSameOpens old (set slots place y)
  in_kept keeps n = by_test (n == session) refl where
    by_test : (b : Bool) → (n == session) ≡ b → IsSameAt (opened old n) (opened (set slots place y) n)
    by_test true here =
        let n_is : n ≡ session = eqb-true n session here in
        subst (λ m. IsSameAt (opened old m) (opened (set slots place y) m)) (sym n_is) (subst (λ o. IsSameAt o (opened (set slots place y) session)) (sym slot_is) (subst (IsSameAt x) (sym set_at.here) keeps))
    by_test false apart = subst (IsSameAt (opened old n)) (sym (set_at.others n apart)) (same_at_itself (opened old n))

-- the writes of one open transaction, lent and handed out
pub same_writes : (slots : List (Option OpenView)) (session : ℕ) (a b : OpenView) (P : Write → Type 0) (lent taken : List Write) → Some a ≡ opened slots session → Some b ≡ opened slots session
    → lent ≡ a.own.writes → taken ≡ b.own.writes → AllByRecursion P lent → AllByRecursion P taken
same_writes slots session a b P lent taken first second lends takes all =
    subst (AllByRecursion P) (lends ∙ ap (λ (o : OpenView). o.own.writes) (some_same (first ∙ sym second)) ∙ sym takes) all
