-- In a frame the epochs of the commits never fall.
use Rattle.std.proofs.Common.{ℕ, ◌≤◌, Bool, true, false, cond, ◌&&◌, nat_lt, List, [], ◌∷◌, filter, filter_map, sym, subst}
use Rattle.std.specs.List.{cons_option, AllByRecursion}
use Rattle.ltx_model.specs.declared.commands.Line.{Line}
use Rattle.ltx_model.specs.declared.replies.Entry.{Entry}
use Rattle.ltx_model.specs.Agenda.{Move, Slot, CommitShort, CommitHome, CommitBefore, Leave, Timed}
use Rattle.ltx_model.specs.States.{Base, IsSound, State, first_state}
use Rattle.ltx_model.specs.Histories.{after}
use Rattle.ltx_model.specs.Frames.{event_of, sealed}
use Rattle.ltx_model.specs.Answers.{IsLegalFrom, IsLegalWith}
use Rattle.ltx_model.specs.Lists.{IsPairwise}
use Rattle.ltx_model.specs.Logs.{frames_from, frames_of, events_of}
use Rattle.ltx_model.specs.Played.{epoch_of, NeverFalls}
use Rattle.ltx_laws.proofs.Pairs.{pairs_filter}
use Rattle.ltx_laws.proofs.Transitions.{entry_case}
use Rattle.ltx_laws.proofs.DropsHistories.{IsTimelyState, first_timely, timely_state_cases}
use Rattle.ltx_laws.proofs.DropsFrames.{sealed_events}

epochs_above : (epoch : ℕ) (moves : List Timed) → AllByRecursion (λ m. epoch ≤ m.epoch) moves → AllByRecursion (λ e. epoch ≤ e) (filter_map epoch_of (events_of moves))
epochs_above epoch [] above = tt
epochs_above epoch (m ∷ moves) above = by_move m.move (epochs_above epoch moves above.1) where
  by_move : (v : Move) → AllByRecursion (λ e. epoch ≤ e) (filter_map epoch_of (events_of moves)) → AllByRecursion (λ e. epoch ≤ e) (filter_map epoch_of (cons_option (event_of m.epoch v) (events_of moves)))
  by_move (Slot n) rest = rest
  by_move (CommitShort t) rest = (above.0, rest)
  by_move (CommitHome t) rest = (above.0, rest)
  by_move (CommitBefore t target) rest = (above.0, rest)
  by_move (Leave n) rest = rest

epochs_rise : (moves : List Timed) → IsPairwise (λ a b. a.epoch ≤ b.epoch) moves → IsPairwise (λ a b. a ≤ b) (filter_map epoch_of (events_of moves))
epochs_rise [] rising = tt
epochs_rise (m ∷ moves) rising = by_move m.move (epochs_above m.epoch moves rising.0) (epochs_rise moves rising.1) where
  by_move : (v : Move) → AllByRecursion (λ e. m.epoch ≤ e) (filter_map epoch_of (events_of moves)) → IsPairwise (λ a b. a ≤ b) (filter_map epoch_of (events_of moves))
      → IsPairwise (λ a b. a ≤ b) (filter_map epoch_of (cons_option (event_of m.epoch v) (events_of moves)))
  by_move (Slot n) above rest = rest
  by_move (CommitShort t) above rest = (above, rest)
  by_move (CommitHome t) above rest = (above, rest)
  by_move (CommitBefore t target) above rest = (above, rest)
  by_move (Leave n) above rest = rest

pub sealed_rises : (s : State) → IsPairwise (λ a b. a.epoch ≤ b.epoch) s.moves → NeverFalls (sealed s)
sealed_rises s rising =
    subst (λ l. IsPairwise (λ a b. a ≤ b) (filter_map epoch_of l)) (sym (sealed_events s))
    (epochs_rise (filter (λ m. nat_lt s.durable m.epoch && nat_lt m.epoch s.epoch) s.moves) (pairs_filter (λ (a : Timed) (b : Timed). a.epoch ≤ b.epoch) (λ (m : Timed). nat_lt s.durable m.epoch && nat_lt m.epoch s.epoch) s.moves rising))

frames_rise : (built : State → Line → Bool) (base : Base) (s : State) (history : List Entry) → IsTimelyState base s → IsLegalFrom built s history → AllByRecursion NeverFalls (frames_from s history)
unfolding IsLegalFrom
frames_rise built base s [] h legal = tt
frames_rise built base s (entry ∷ entries) h legal =
    let next : IsTimelyState base (after s entry) = entry_case s (λ line reply s'. IsTimelyState base s') (timely_state_cases base s h) built entry legal.0 in
    by_test (nat_lt s.durable (after s entry).durable) (frames_rise built base (after s entry) entries next legal.1) where
      by_test : (b : Bool) → AllByRecursion NeverFalls (frames_from (after s entry) entries) → AllByRecursion NeverFalls (cond b (sealed s ∷ frames_from (after s entry) entries) (frames_from (after s entry) entries))
      by_test true rest = (sealed_rises s h.timely.rising, rest)
      by_test false rest = rest

pub frames_never_fall : (built : State → Line → Bool) (base : Base) (history : List Entry) → IsSound base → IsLegalWith built base history → AllByRecursion NeverFalls (frames_of base history)
frames_never_fall built base history sound legal = frames_rise built base (first_state base) history (first_timely base) legal
