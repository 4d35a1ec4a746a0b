-- The frames that a history writes, with one entry more.
use Rattle.std.proofs.Common.{◌≡◌, ◌<◌, Bool, true, false, cond, nat_lt, ◌≤◌, List, [], ◌∷◌, ◌++◌, refl, sym, ap, ◌∙◌, subst, append-nil, le_refl}
use Rattle.std.proofs.lemmas.Bool.{lt-ltb, le-ltb}
use Rattle.ltx_model.specs.declared.replies.Entry.{Entry}
use Rattle.ltx_model.specs.States.{Base, State, first_state}
use Rattle.ltx_model.specs.Histories.{after, state, state_from}
use Rattle.ltx_model.specs.Frames.{Frame, sealed}
use Rattle.ltx_model.specs.Logs.{frames_from, frames_of}

frames_append : (s : State) (xs ys : List Entry) → frames_from s (xs ++ ys) ≡ frames_from s xs ++ frames_from (state_from s xs) ys
unfolding state_from
frames_append s [] ys = refl
frames_append s (entry ∷ xs) ys = by_test (nat_lt s.durable (after s entry).durable) (frames_append (after s entry) xs ys) where
  by_test : (b : Bool) → frames_from (after s entry) (xs ++ ys) ≡ frames_from (after s entry) xs ++ frames_from (state_from (after s entry) xs) ys
      → cond b (sealed s ∷ frames_from (after s entry) (xs ++ ys)) (frames_from (after s entry) (xs ++ ys)) ≡ cond b (sealed s ∷ frames_from (after s entry) xs) (frames_from (after s entry) xs) ++ frames_from (state_from (after s entry) xs) ys
  by_test true e = ap (λ (l : List Frame). sealed s ∷ l) e
  by_test false e = e

module _ (base : Base) (history : List Entry) (entry : Entry) where
  abbrev s : State
  s = state base history

  one_entry : (b : Bool) → nat_lt s.durable (after s entry).durable ≡ b → frames_of base (history ++ entry ∷ []) ≡ frames_of base history ++ cond b (sealed s ∷ []) []
  one_entry b is = frames_append (first_state base) history (entry ∷ []) ∙ ap (λ c. frames_of base history ++ cond c (sealed s ∷ []) []) is

  pub frames_same : (after s entry).durable ≡ s.durable → frames_of base (history ++ entry ∷ []) ≡ frames_of base history
  frames_same same = one_entry false (le-ltb s.durable (after s entry).durable (subst (λ d. d ≤ s.durable) (sym same) (le_refl s.durable))) ∙ append-nil (frames_of base history)

  pub frames_more : s.durable < (after s entry).durable → frames_of base (history ++ entry ∷ []) ≡ frames_of base history ++ sealed s ∷ []
  frames_more above = one_entry true (lt-ltb s.durable (after s entry).durable above)
