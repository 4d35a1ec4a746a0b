-- The frames of a history in longer ones: they come first, and give the order and the rows through the epoch that was durable then.
use Rattle.std.proofs.Common.{◌≡◌, Bool, true, false, cond, nat_lt, List, [], ◌∷◌, ◌++◌, map, refl, sym, ap, ◌∙◌}
use Rattle.ltx_model.specs.declared.commands.Line.{Line}
use Rattle.ltx_model.specs.declared.replies.Entry.{Entry}
use Rattle.ltx_model.specs.Operations.{Transaction}
use Rattle.ltx_model.specs.Rows.{run}
use Rattle.ltx_model.specs.States.{Base, IsSound, State, first_state, serial_through, rows_through}
use Rattle.ltx_model.specs.Histories.{after, state, state_from}
use Rattle.ltx_model.specs.Frames.{Frame, sealed}
use Rattle.ltx_model.specs.Answers.{IsLegalWith}
use Rattle.ltx_model.specs.Logs.{frames_from, frames_of, events_in}
use Rattle.ltx_model.specs.Played.{played_list, committed_numbers, rows_after_played}
use Rattle.ltx_model.proofs.OneMore.{legal-parts}
use Rattle.ltx_laws.specs.Orders.{IsPrefix}
use Rattle.ltx_laws.proofs.Structures.{structure_of}
use Rattle.ltx_laws.proofs.DropsFrames.{closed_over}
use Rattle.ltx_laws.proofs.PlayedFrames.{order_played, rows_played}
use Rattle.ltx_laws.proofs.DurableReplies.{durable_closed}

frames_append : (s : State) (xs ys : List Entry) → frames_from s (xs ++ ys) ≡ frames_from s xs ++ frames_from (state_from s xs) ys
unfolding state_from
frames_append s [] ys = refl
frames_append s (entry ∷ xs) ys = by_test (nat_lt s.durable (after s entry).durable) (frames_append (after s entry) xs ys) where
  by_test : (b : Bool) → frames_from (after s entry) (xs ++ ys) ≡ frames_from (after s entry) xs ++ frames_from (state_from (after s entry) xs) ys
      → cond b (sealed s ∷ frames_from (after s entry) (xs ++ ys)) (frames_from (after s entry) (xs ++ ys)) ≡ cond b (sealed s ∷ frames_from (after s entry) xs) (frames_from (after s entry) xs) ++ frames_from (state_from (after s entry) xs) ys
  by_test true e = ap (λ (l : List Frame). sealed s ∷ l) e
  by_test false e = e

module _ (built : State → Line → Bool) (base : Base) (history more : List Entry) (sound : IsSound base) (legal : IsLegalWith built base (history ++ more)) where
  abbrev s : State
  s = state base history

  abbrev later : State
  later = state base (history ++ more)

  before : IsLegalWith built base history
  before = (legal-parts built (first_state base) history more legal).0

  pub frames_first : IsPrefix (frames_of base history) (frames_of base (history ++ more))
  frames_first = record { rest = frames_from s more; parts = frames_append (first_state base) history more }

  same_order : serial_through later s.durable ≡ serial_through s s.durable
  same_order = closed_over built base history more sound legal s.durable (durable_closed built base history sound before)

  pub later_order_played : committed_numbers (played_list (events_in (frames_of base history))) ≡ map (λ t. t.number) (serial_through later s.durable)
  later_order_played = order_played built base history sound before ∙ ap (map (λ (t : Transaction). t.number)) (sym same_order)

  pub later_rows_played : rows_after_played base.rows (played_list (events_in (frames_of base history))) ≡ rows_through later s.durable
  later_rows_played =
      rows_played built base history sound before
      ∙ (λ i. run (((structure_of built base history before).rows ∙ sym (structure_of built base (history ++ more) legal).rows) i) (sym same_order i))
