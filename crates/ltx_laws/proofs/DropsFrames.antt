-- The frames of a history hold the moves of its durable epochs, and closed epochs get no more moves.
use Rattle.std.proofs.Common.{◌≡◌, ◌⊎◌, inl, inr, ℕ, ◌+◌, ◌-◌, ◌<◌, ◌≤◌, Bool, true, false, cond, ◌&&◌, nat_lt, nat_le, List, [], ◌∷◌, ◌++◌, filter, refl, sym, ap, ◌∙◌, subst, append_assoc, append-nil, arith, le_refl}
use Rattle.std.proofs.lemmas.Bool.{leb-true, leb-false, le-leb, lt-leb, lt-ltb, le-ltb, ltb-true, ltb-false}
use Rattle.std.specs.List.{AllByRecursion}
use Rattle.ltx_model.specs.declared.commands.Line.{Line}
use Rattle.ltx_model.specs.declared.replies.Entry.{Entry}
use Rattle.ltx_model.specs.Agenda.{Move, CommitShort, CommitHome, CommitBefore, Leave, Timed, agenda_from, serial}
use Rattle.ltx_model.specs.States.{Kind, IsShort, IsPending, IsLive, Active, transaction_of, Base, IsSound, State, first_state, serial_through, rows_through}
use Rattle.ltx_model.specs.Rows.{run, rows_after_last_writes}
use Rattle.ltx_model.specs.Frames.{event_of, sealed}
use Rattle.ltx_model.specs.Histories.{begun, answered, slot_after, slots_after, closed, moved, left, in_epoch, advanced, durable_if, made_durable, after, state, state_from}
use Rattle.ltx_model.specs.Answers.{IsLegalFrom, IsLegalWith}
use Rattle.ltx_model.specs.Lists.{IsPairwise}
use Rattle.ltx_model.specs.Logs.{frames_from, frames_of, events_in, events_of, moves_through}
use Rattle.ltx_model.proofs.OneMore.{state-append, legal-parts, run-none}
use Rattle.ltx_lemmas.proofs.Lists.{all_map, filter_append, filter_nothing, filter_same, given_append, all_from}
use Rattle.ltx_lemmas.proofs.LastWrites.{last_writes_run}
use Rattle.ltx_laws.proofs.Transitions.{Cases, entry_case}
use Rattle.ltx_laws.proofs.FloorCounts.{slots_of, advanced_moves}
use Rattle.ltx_laws.proofs.Structures.{structure_of}
use Rattle.ltx_laws.proofs.DropsHistories.{IsTimelyState, first_timely, timely_state_cases, slots_epoch}

-- What an entry may do to the moves: later ones of the present epoch or a later one, and the durable epoch stays or becomes the last closed one.
pub record Grows (s after : State) : Type 0 where
  pub rest : List Timed
  pub moves : after.moves ≡ s.moves ++ rest
  pub late : AllByRecursion (λ m. s.epoch ≤ m.epoch) rest
  pub epoch : s.epoch ≤ after.epoch
  pub durable : (after.durable ≡ s.durable) ⊎ ((after.durable ≡ s.epoch - 1) × (after.moves ≡ s.moves))

module _ (s : State) where
  grows_same : (after : State) → after.moves ≡ s.moves → after.epoch ≡ s.epoch → after.durable ≡ s.durable → Grows s after
  grows_same after moves epoch durable = record { rest = []; moves = moves ∙ sym (append-nil s.moves); late = tt; epoch = subst (λ e. s.epoch ≤ e) (sym epoch) (le_refl s.epoch); durable = inl durable }

  grows_moved : (after : State) (m : Move) → after.moves ≡ s.moves ++ record { epoch = s.epoch; move = m } ∷ [] → after.epoch ≡ s.epoch → after.durable ≡ s.durable → Grows s after
  grows_moved after m moves epoch durable = record {
    rest = record { epoch = s.epoch; move = m } ∷ [];
    moves = moves;
    late = (le_refl s.epoch, tt);
    epoch = subst (λ e. s.epoch ≤ e) (sym epoch) (le_refl s.epoch);
    durable = inl durable;
  }

  grows_ended : (session : ℕ) (o : Active) (k : Kind) → Grows s (left (closed s session) k o.number)
  grows_ended session o IsShort = grows_same (closed s session) refl refl refl
  grows_ended session o (IsPending d) = grows_same (closed s session) refl refl refl
  grows_ended session o (IsLive d snapshot) = grows_moved (left (closed s session) (IsLive d snapshot) o.number) (Leave o.number) refl refl refl

  pub slots_keep : (epoch : ℕ) (r : State) (os : List Active) → ((slots_after epoch r os).epoch ≡ r.epoch) × ((slots_after epoch r os).durable ≡ r.durable)
  slots_keep epoch r [] = (refl, refl)
  slots_keep epoch r (o ∷ os) = let rest = slots_keep epoch (slot_after epoch r o.kind o.number) os in let own = by_kind o.kind in (rest.0 ∙ own.0, rest.1 ∙ own.1) where
    by_kind : (k : Kind) → ((slot_after epoch r k o.number).epoch ≡ r.epoch) × ((slot_after epoch r k o.number).durable ≡ r.durable)
    by_kind IsShort = (refl, refl)
    by_kind (IsPending d) = (refl, refl)
    by_kind (IsLive d snapshot) = (refl, refl)

  grows_advanced : Grows s (advanced s (s.epoch + 1))
  grows_advanced =
      let epoch = s.epoch + 1 in
      let keep = slots_keep epoch (in_epoch s epoch) s.active in
      record {
        rest = slots_of epoch s.active;
        moves = advanced_moves epoch (in_epoch s epoch) s.active;
        late = all_map (λ (m : Timed). m.epoch ≡ epoch) (λ (m : Timed). s.epoch ≤ m.epoch) (λ m e. let h : s.epoch ≤ m.epoch = omega arith in h) (slots_of epoch s.active) (slots_epoch epoch s.active);
        epoch = subst (λ e. s.epoch ≤ e) (sym keep.0) (let h : s.epoch ≤ s.epoch + 1 = omega arith in h);
        durable = inl keep.1;
      }

  grows_durable : (epoch : ℕ) → (epoch ≡ s.durable) ⊎ (epoch ≡ s.epoch - 1) → Grows s (made_durable s epoch)
  grows_durable epoch which = by_test (nat_lt s.durable epoch) which where
    by_test : (b : Bool) → (epoch ≡ s.durable) ⊎ (epoch ≡ s.epoch - 1) → Grows s (durable_if b s epoch)
    by_test false which = grows_same s refl refl refl
    by_test true (inl e) = record { rest = []; moves = sym (append-nil s.moves); late = tt; epoch = le_refl s.epoch; durable = inl e }
    by_test true (inr e) = record { rest = []; moves = sym (append-nil s.moves); late = tt; epoch = le_refl s.epoch; durable = inr (e, refl) }

  pub grows_cases : Cases s (λ line reply after. Grows s after)
  grows_cases = record {
    nothing = λ line reply leaves. grows_same s refl refl refl;
    begins_short = λ session none. grows_same (begun s IsShort (s.last + 1) session) refl refl refl;
    begins_long = λ session writes reads none. grows_same (begun s (IsPending (record { writes = writes; reads = reads; from = s.epoch + 1 })) (s.last + 1) session) refl refl refl;
    answers_short = λ session op o reply is kind free sees answers. grows_same (answered s op reply session) refl refl refl;
    answers_batch = λ session op o d snapshot reply is kind free sees answers. grows_same (answered s op reply session) refl refl refl;
    commits_short = λ session o is kind free unchanged. grows_moved (moved (closed s session) s.epoch (CommitShort (transaction_of o))) (CommitShort (transaction_of o)) refl refl refl;
    commits_home = λ session o d snapshot is kind none. grows_moved (moved (closed s session) s.epoch (CommitHome (transaction_of o))) (CommitHome (transaction_of o)) refl refl refl;
    commits_before = λ session o d snapshot p is kind aim free elder. grows_moved (moved (closed s session) s.epoch (CommitBefore (transaction_of o) p)) (CommitBefore (transaction_of o) p) refl refl refl;
    ends = λ session verb reply o is ends. grows_ended session o o.kind;
    advances = grows_advanced;
    flushes = λ epoch which. grows_durable epoch which;
  }

-- the moves of a closed epoch and of those before it stay
pub through_same : (s after : State) → Grows s after → (d : ℕ) → d < s.epoch → moves_through d after.moves ≡ moves_through d s.moves
through_same s after g d closed =
    ap (moves_through d) g.moves ∙ filter_append (λ (m : Timed). nat_le m.epoch d) s.moves g.rest
    ∙ ap (λ l. moves_through d s.moves ++ l) (filter_nothing (λ (m : Timed). nat_le m.epoch d) g.rest (all_map (λ (m : Timed). s.epoch ≤ m.epoch) (λ (m : Timed). nat_le m.epoch d ≡ false) (λ m e. lt-leb m.epoch d (let h : d < m.epoch = omega arith in h)) g.rest g.late))
    ∙ append-nil (moves_through d s.moves)

closed_from : (built : State → Line → Bool) (s : State) (history : List Entry) (d : ℕ) → d < s.epoch → IsLegalFrom built s history → moves_through d (state_from s history).moves ≡ moves_through d s.moves
unfolding IsLegalFrom state_from
closed_from built s [] d closed legal = refl
closed_from built s (entry ∷ entries) d closed legal =
    let g : Grows s (after s entry) = entry_case s (λ line reply s'. Grows s s') (grows_cases s) built entry legal.0 in
    let rises : s.epoch ≤ (after s entry).epoch = g.epoch in
    let later : d < (after s entry).epoch = omega arith in
    closed_from built (after s entry) entries d later legal.1 ∙ through_same s (after s entry) g d closed

-- The order through a closed epoch is the same in each longer history.
pub closed_over : (built : State → Line → Bool) (base : Base) (history more : List Entry) → IsSound base → IsLegalWith built base (history ++ more)
    → (d : ℕ) → d < (state base history).epoch → serial_through (state base (history ++ more)) d ≡ serial_through (state base history) d
closed_over built base history more sound legal d closed =
    let parts = legal-parts built (first_state base) history more legal in
    ap (λ (s : State). serial_through s d) (state-append (first_state base) history more) ∙ ap (λ l. serial (agenda_from [] l)) (closed_from built (state base history) more d closed parts.1)

-- moves of rising epochs: those up to d, and then those after it and below another epoch
between : (d e : ℕ) (moves : List Timed) → AllByRecursion (λ m. d < m.epoch) moves → filter (λ m. nat_lt d m.epoch && nat_lt m.epoch e) moves ≡ filter (λ m. nat_lt m.epoch e) moves
between d e moves above = filter_same (λ (m : Timed). nat_lt d m.epoch && nat_lt m.epoch e) (λ (m : Timed). nat_lt m.epoch e) moves
    (all_map (λ (m : Timed). d < m.epoch) (λ (m : Timed). (nat_lt d m.epoch && nat_lt m.epoch e) ≡ nat_lt m.epoch e) (λ m h. ap (λ b. b && nat_lt m.epoch e) (lt-ltb d m.epoch h)) moves above)

split_moves : (d e : ℕ) (moves : List Timed) → d < e → IsPairwise (λ a b. a.epoch ≤ b.epoch) moves → filter (λ m. nat_le m.epoch d) moves ++ filter (λ m. nat_lt d m.epoch && nat_lt m.epoch e) moves ≡ filter (λ m. nat_lt m.epoch e) moves
split_moves d e [] less rising = refl
split_moves d e (m ∷ ms) less rising = by_test (nat_le m.epoch d) refl (split_moves d e ms less rising.1) where
  by_test : (b : Bool) → nat_le m.epoch d ≡ b → filter (λ x. nat_le x.epoch d) ms ++ filter (λ x. nat_lt d x.epoch && nat_lt x.epoch e) ms ≡ filter (λ x. nat_lt x.epoch e) ms
      → cond b (m ∷ filter (λ x. nat_le x.epoch d) ms) (filter (λ x. nat_le x.epoch d) ms) ++ filter (λ x. nat_lt d x.epoch && nat_lt x.epoch e) (m ∷ ms) ≡ filter (λ x. nat_lt x.epoch e) (m ∷ ms)
  by_test true is rest =
      let low : m.epoch ≤ d = leb-true m.epoch d is in
      let under : m.epoch < e = omega arith in
      ap (λ b. (m ∷ filter (λ (x : Timed). nat_le x.epoch d) ms) ++ cond (b && nat_lt m.epoch e) (m ∷ filter (λ (x : Timed). nat_lt d x.epoch && nat_lt x.epoch e) ms) (filter (λ (x : Timed). nat_lt d x.epoch && nat_lt x.epoch e) ms)) (le-ltb d m.epoch low)
      ∙ ap (λ l. m ∷ l) rest
      ∙ sym (ap (λ b. cond b (m ∷ filter (λ (x : Timed). nat_lt x.epoch e) ms) (filter (λ (x : Timed). nat_lt x.epoch e) ms)) (lt-ltb m.epoch e under))
  by_test false is rest =
      let high : d < m.epoch = leb-false m.epoch d is in
      let above : AllByRecursion (λ (x : Timed). d < x.epoch) ms = all_map (λ (x : Timed). m.epoch ≤ x.epoch) (λ (x : Timed). d < x.epoch) (λ x h. let g : d < x.epoch = omega arith in g) ms rising.0 in
      let none : filter (λ (x : Timed). nat_le x.epoch d) ms ≡ [] = filter_nothing (λ (x : Timed). nat_le x.epoch d) ms (all_map (λ (x : Timed). d < x.epoch) (λ (x : Timed). nat_le x.epoch d ≡ false) (λ x h. lt-leb x.epoch d h) ms above) in
      ap (λ l. l ++ filter (λ (x : Timed). nat_lt d x.epoch && nat_lt x.epoch e) (m ∷ ms)) none ∙ between d e (m ∷ ms) (high, above)

below_is_through : (e : ℕ) (moves : List Timed) → 0 < e → filter (λ m. nat_lt m.epoch e) moves ≡ moves_through (e - 1) moves
below_is_through e moves positive = filter_same (λ (m : Timed). nat_lt m.epoch e) (λ (m : Timed). nat_le m.epoch (e - 1)) moves (all_from (λ (m : Timed). nat_lt m.epoch e ≡ nat_le m.epoch (e - 1)) moves (λ m c. by_test m (nat_lt m.epoch e) refl)) where
  by_test : (m : Timed) (b : Bool) → nat_lt m.epoch e ≡ b → nat_lt m.epoch e ≡ nat_le m.epoch (e - 1)
  by_test m true is = let less : m.epoch < e = ltb-true m.epoch e is in is ∙ sym (le-leb m.epoch (e - 1) (let h : m.epoch ≤ e - 1 = omega arith in h))
  by_test m false is = let more : e ≤ m.epoch = ltb-false m.epoch e is in is ∙ sym (lt-leb m.epoch (e - 1) (let h : e - 1 < m.epoch = omega arith in h))

pub sealed_events : (s : State) → (sealed s).events ≡ events_of (filter (λ m. nat_lt s.durable m.epoch && nat_lt m.epoch s.epoch) s.moves)
unfolding sealed
sealed_events s = refl

-- what one entry adds to the frames
adds : (s after : State) → Grows s after → s.durable < s.epoch → IsPairwise (λ a b. a.epoch ≤ b.epoch) s.moves → (b : Bool) → nat_lt s.durable after.durable ≡ b
    → events_of (moves_through s.durable s.moves) ++ cond b (sealed s).events [] ≡ events_of (moves_through after.durable after.moves)
adds s after g ahead rising b is = by_which g.durable b is where
  by_which : (after.durable ≡ s.durable) ⊎ ((after.durable ≡ s.epoch - 1) × (after.moves ≡ s.moves)) → (b : Bool) → nat_lt s.durable after.durable ≡ b
      → events_of (moves_through s.durable s.moves) ++ cond b (sealed s).events [] ≡ events_of (moves_through after.durable after.moves)
  by_which (inl same) true is = let less : s.durable < after.durable = ltb-true s.durable after.durable is in absurd (let no : ⊥ = omega arith in no)
  by_which (inl same) false is =
      append-nil (events_of (moves_through s.durable s.moves))
      ∙ ap events_of (sym (through_same s after g s.durable ahead) ∙ ap (λ d. moves_through d after.moves) (sym same))
  by_which (inr (last, moves)) true is =
      let positive : 0 < s.epoch = omega arith in
      ap (λ l. events_of (moves_through s.durable s.moves) ++ l) (sealed_events s)
      ∙ sym (given_append (λ (m : Timed). event_of m.epoch m.move) (moves_through s.durable s.moves) (filter (λ (m : Timed). nat_lt s.durable m.epoch && nat_lt m.epoch s.epoch) s.moves))
      ∙ ap events_of (split_moves s.durable s.epoch s.moves ahead rising ∙ below_is_through s.epoch s.moves positive ∙ (λ i. moves_through (sym last i) (sym moves i)))
  by_which (inr (last, moves)) false is =
      let least : after.durable ≤ s.durable = ltb-false s.durable after.durable is in
      let same : s.durable ≡ s.epoch - 1 = omega arith in
      append-nil (events_of (moves_through s.durable s.moves)) ∙ (λ i. events_of (moves_through ((same ∙ sym last) i) (sym moves i)))

pub stays_open : (s after : State) → Grows s after → s.durable < s.epoch → after.durable < after.epoch
stays_open s after g ahead = by_which g.durable where
  by_which : (after.durable ≡ s.durable) ⊎ ((after.durable ≡ s.epoch - 1) × (after.moves ≡ s.moves)) → after.durable < after.epoch
  by_which (inl same) = let rises : s.epoch ≤ after.epoch = g.epoch in let h : after.durable < after.epoch = omega arith in h
  by_which (inr (last, moves)) = let rises : s.epoch ≤ after.epoch = g.epoch in let h : after.durable < after.epoch = omega arith in h

-- the frames of entries hold the moves that became durable
frames_hold : (built : State → Line → Bool) (base : Base) (s : State) (history : List Entry) → IsTimelyState base s → s.durable < s.epoch → IsLegalFrom built s history
    → events_of (moves_through s.durable s.moves) ++ events_in (frames_from s history) ≡ events_of (moves_through (state_from s history).durable (state_from s history).moves)
unfolding IsLegalFrom state_from
frames_hold built base s [] h ahead legal = append-nil (events_of (moves_through s.durable s.moves))
frames_hold built base s (entry ∷ entries) h ahead legal =
    let g : Grows s (after s entry) = entry_case s (λ line reply s'. Grows s s') (grows_cases s) built entry legal.0 in
    let next : IsTimelyState base (after s entry) = entry_case s (λ line reply s'. IsTimelyState base s') (timely_state_cases base s h) built entry legal.0 in
    by_test (nat_lt s.durable (after s entry).durable) (adds s (after s entry) g ahead h.timely.rising (nat_lt s.durable (after s entry).durable) refl)
    (frames_hold built base (after s entry) entries next (stays_open s (after s entry) g ahead) legal.1) where
      by_test : (b : Bool) → events_of (moves_through s.durable s.moves) ++ cond b (sealed s).events [] ≡ events_of (moves_through (after s entry).durable (after s entry).moves)
          → events_of (moves_through (after s entry).durable (after s entry).moves) ++ events_in (frames_from (after s entry) entries) ≡ events_of (moves_through (state_from (after s entry) entries).durable (state_from (after s entry) entries).moves)
          → events_of (moves_through s.durable s.moves) ++ events_in (cond b (sealed s ∷ frames_from (after s entry) entries) (frames_from (after s entry) entries)) ≡ events_of (moves_through (state_from (after s entry) entries).durable (state_from (after s entry) entries).moves)
      by_test true e rest = sym (append_assoc (events_of (moves_through s.durable s.moves)) (sealed s).events (events_in (frames_from (after s entry) entries))) ∙ ap (λ l. l ++ events_in (frames_from (after s entry) entries)) e ∙ rest
      by_test false e rest = ap (λ l. l ++ events_in (frames_from (after s entry) entries)) (sym (append-nil (events_of (moves_through s.durable s.moves))) ∙ e) ∙ rest

-- The events of a history's frames are those of its moves of durable epochs.
pub frames_through : (built : State → Line → Bool) (base : Base) (history : List Entry) → IsSound base → IsLegalWith built base history
    → events_in (frames_of base history) ≡ events_of (moves_through (state base history).durable (state base history).moves)
frames_through built base history sound legal =
    frames_hold built base (first_state base) history (first_timely base) (let h : base.durable < base.durable + 1 = omega arith in h) legal

-- The order and the rows through the base's durable epoch: no transaction, and the base's rows.
pub base_through : (built : State → Line → Bool) (base : Base) (history : List Entry) → IsSound base → IsLegalWith built base history → rows_through (state base history) base.durable ≡ base.rows
base_through built base history sound legal =
    let none : moves_through base.durable (state base history).moves ≡ [] = closed_from built (first_state base) history base.durable (let h : base.durable < base.durable + 1 = omega arith in h) legal in
    (λ i. run ((structure_of built base history legal).rows i) (serial (agenda_from [] (none i)))) ∙ run-none base.rows

-- The rows through an epoch are what the last writes of each transaction of that order give, one after another.
pub writes_through : (built : State → Line → Bool) (base : Base) (history : List Entry) → IsSound base → IsLegalWith built base history
    → (d : ℕ) → rows_after_last_writes base.rows (serial_through (state base history) d) ≡ rows_through (state base history) d
writes_through built base history sound legal d =
    last_writes_run base.rows (serial_through (state base history) d) sound.rising ∙ ap (λ rows. run rows (serial_through (state base history) d)) (sym (structure_of built base history legal).rows)
