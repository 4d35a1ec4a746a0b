-- How moves change the events that are not durable yet.
use Rattle.std.proofs.Common.{◌≡◌, ℕ, ◌+◌, ◌-◌, ◌<◌, ◌≤◌, Bool, true, false, cond, ◌&&◌, ◌==◌, nat_lt, List, [], ◌∷◌, ◌++◌, map, filter, append-nil, refl, ap, ◌∙◌, arith, le_refl}
use Rattle.std.proofs.lemmas.Bool.{eq-eqb, ne_eqb, lt-ltb, le-ltb, ltb-true, ltb-false}
use Rattle.std.specs.List.{cons_option, AllByRecursion}
use Rattle.ltx_model.specs.Lists.{IsPairwise}
use Rattle.ltx_model.specs.Agenda.{Move, Timed}
use Rattle.ltx_model.specs.States.{Kind, IsShort, IsPending, IsLive, Active}
use Rattle.ltx_model.specs.Frames.{LogEvent, SlotEvent, event_of}
use Rattle.ltx_model.specs.Logs.{events_of}
use Rattle.ltx_model.specs.Holders.{holder_of}
use Rattle.ltx_lemmas.proofs.Lists.{all_map, filter_append, filter_nothing, given_append}
use Rattle.ltx_laws.proofs.FloorCounts.{slot_if, slots_of}
use Rattle.ltx_core.specs.Epochs.{pending_numbers}
use Rattle.ltx_core.specs.Logged.{events_at}
use Rattle.ltx_core.specs.Stands.{batches_of}

-- the moves of the epochs above one and below another, and their events
abbrev pub moves_between : ℕ → ℕ → List Timed → List Timed
moves_between lower epoch moves = filter (λ m. nat_lt lower m.epoch && nat_lt m.epoch epoch) moves

abbrev pub events_between : ℕ → ℕ → List Timed → List LogEvent
events_between lower epoch moves = events_of (moves_between lower epoch moves)

abbrev moves_at : ℕ → List Timed → List Timed
moves_at epoch moves = filter (λ m. m.epoch == epoch) moves

events_append : (xs ys : List Timed) → events_of (xs ++ ys) ≡ events_of xs ++ events_of ys
events_append xs ys = given_append (λ (m : Timed). event_of m.epoch m.move) xs ys

same_epoch : (e : ℕ) → (e == e) ≡ true
same_epoch e = eq-eqb e e refl

not_below : (e : ℕ) → nat_lt e e ≡ false
not_below e = le-ltb e e (le_refl e)

and_false : (b : Bool) → (b && false) ≡ false
and_false true = refl
and_false false = refl

-- a move of the present epoch
module _ (lower epoch : ℕ) (moves : List Timed) (move : Move) where
  abbrev new : Timed
  new = record { epoch = epoch; move = move }

  pub between_moved : events_between lower epoch (moves ++ new ∷ []) ≡ events_between lower epoch moves
  between_moved =
      ap events_of (filter_append (λ (m : Timed). nat_lt lower m.epoch && nat_lt m.epoch epoch) moves (new ∷ []) ∙ ap (λ b. moves_between lower epoch moves ++ cond b (new ∷ []) []) none ∙ append-nil (moves_between lower epoch moves)) where
        none : (nat_lt lower epoch && nat_lt epoch epoch) ≡ false
        none = ap (λ b. nat_lt lower epoch && b) (not_below epoch) ∙ and_false (nat_lt lower epoch)

pub at_moved : (epoch : ℕ) (moves : List Timed) (move : Move) → events_at epoch (moves ++ record { epoch = epoch; move = move } ∷ []) ≡ events_at epoch moves ++ cons_option (event_of epoch move) []
at_moved epoch moves move =
    let new : Timed = record { epoch = epoch; move = move } in
    ap events_of (filter_append (λ (m : Timed). m.epoch == epoch) moves (new ∷ []) ∙ ap (λ b. moves_at epoch moves ++ cond b (new ∷ []) []) (same_epoch epoch)) ∙ events_append (moves_at epoch moves) (new ∷ [])

-- moves of later epochs
between_later : (lower epoch : ℕ) (moves more : List Timed) → AllByRecursion (λ m. epoch ≤ m.epoch) more → moves_between lower epoch (moves ++ more) ≡ moves_between lower epoch moves
between_later lower epoch moves more late =
    filter_append (λ (m : Timed). nat_lt lower m.epoch && nat_lt m.epoch epoch) moves more
    ∙ ap (λ l. moves_between lower epoch moves ++ l) (filter_nothing (λ (m : Timed). nat_lt lower m.epoch && nat_lt m.epoch epoch) more (all_map (λ (m : Timed). epoch ≤ m.epoch) (λ (m : Timed). (nat_lt lower m.epoch && nat_lt m.epoch epoch) ≡ false) none more late))
    ∙ append-nil (moves_between lower epoch moves) where
      none : (m : Timed) → epoch ≤ m.epoch → (nat_lt lower m.epoch && nat_lt m.epoch epoch) ≡ false
      none m h = ap (λ b. nat_lt lower m.epoch && b) (le-ltb m.epoch epoch h) ∙ and_false (nat_lt lower m.epoch)

-- of moves whose epochs never fall and are at most the present one, those of closed epochs and then those of the present one
parts_between : (lower epoch : ℕ) (moves : List Timed) → lower < epoch → AllByRecursion (λ m. m.epoch ≤ epoch) moves → IsPairwise (λ a b. a.epoch ≤ b.epoch) moves
    → moves_between lower (epoch + 1) moves ≡ moves_between lower epoch moves ++ moves_at epoch moves
parts_between lower epoch [] less bound rising = refl
parts_between lower epoch (m ∷ ms) less bound rising = by_test (nat_lt m.epoch epoch) refl (parts_between lower epoch ms less bound.1 rising.1) where
  under : nat_lt m.epoch (epoch + 1) ≡ true
  under = let within : m.epoch ≤ epoch = bound.0 in lt-ltb m.epoch (epoch + 1) (let h : m.epoch < epoch + 1 = omega arith in h)

  by_above : (b : Bool) → nat_lt m.epoch epoch ≡ true → (m.epoch == epoch) ≡ false → moves_between lower (epoch + 1) ms ≡ moves_between lower epoch ms ++ moves_at epoch ms
      → cond (b && nat_lt m.epoch (epoch + 1)) (m ∷ moves_between lower (epoch + 1) ms) (moves_between lower (epoch + 1) ms)
      ≡ cond (b && nat_lt m.epoch epoch) (m ∷ moves_between lower epoch ms) (moves_between lower epoch ms) ++ cond (m.epoch == epoch) (m ∷ moves_at epoch ms) (moves_at epoch ms)
  by_above true is apart rest = rw (under, is, apart) (ap (λ l. m ∷ l) rest)
  by_above false is apart rest = rw apart rest

  by_test : (b : Bool) → nat_lt m.epoch epoch ≡ b → moves_between lower (epoch + 1) ms ≡ moves_between lower epoch ms ++ moves_at epoch ms
      → moves_between lower (epoch + 1) (m ∷ ms) ≡ moves_between lower epoch (m ∷ ms) ++ moves_at epoch (m ∷ ms)
  by_test true is rest =
      let below : m.epoch < epoch = ltb-true m.epoch epoch is in
      by_above (nat_lt lower m.epoch) is (ne_eqb m.epoch epoch (λ e. let none : ⊥ = omega arith in none)) rest
  by_test false is rest =
      let least : epoch ≤ m.epoch = ltb-false m.epoch epoch is in
      let within : m.epoch ≤ epoch = bound.0 in
      let same : (m.epoch == epoch) ≡ true = eq-eqb m.epoch epoch (let e : m.epoch ≡ epoch = omega arith in e) in
      let above : nat_lt lower m.epoch ≡ true = lt-ltb lower m.epoch (let h : lower < m.epoch = omega arith in h) in
      let late : AllByRecursion (λ (x : Timed). epoch ≤ x.epoch) ms = all_map (λ (x : Timed). m.epoch ≤ x.epoch) (λ (x : Timed). epoch ≤ x.epoch) (λ x h. let r : epoch ≤ x.epoch = omega arith in r) ms rising.0 in
      let none : moves_between lower epoch ms ≡ [] = between_later lower epoch [] ms late in
      let rest_is : moves_between lower (epoch + 1) ms ≡ moves_at epoch ms = rest ∙ ap (λ l. l ++ moves_at epoch ms) none in
      rw (above, under, is, same, none) (ap (λ l. m ∷ l) rest_is)

-- slots of the next epoch: the events of the present one are closed
module _ (lower epoch : ℕ) (moves more : List Timed) (less : lower < epoch) (bound : AllByRecursion (λ m. m.epoch ≤ epoch) moves) (rising : IsPairwise (λ a b. a.epoch ≤ b.epoch) moves) (next : AllByRecursion (λ m. m.epoch ≡ epoch + 1) more) where
  pub between_advanced : events_between lower (epoch + 1) (moves ++ more) ≡ events_between lower epoch moves ++ events_at epoch moves
  between_advanced =
      ap events_of (between_later lower (epoch + 1) moves more (all_map (λ (m : Timed). m.epoch ≡ epoch + 1) (λ (m : Timed). epoch + 1 ≤ m.epoch) (λ m e. let h : epoch + 1 ≤ m.epoch = omega arith in h) more next) ∙ parts_between lower epoch moves less bound rising)
      ∙ events_append (moves_between lower epoch moves) (moves_at epoch moves)

all_kept : (epoch : ℕ) (more : List Timed) → AllByRecursion (λ m. m.epoch ≡ epoch) more → moves_at epoch more ≡ more
all_kept epoch [] all = refl
all_kept epoch (m ∷ ms) all = ap (λ b. cond b (m ∷ moves_at epoch ms) (moves_at epoch ms)) (eq-eqb m.epoch epoch all.0) ∙ ap (λ l. m ∷ l) (all_kept epoch ms all.1)

pub at_advanced : (epoch : ℕ) (moves more : List Timed) → AllByRecursion (λ m. m.epoch ≤ epoch) moves → AllByRecursion (λ m. m.epoch ≡ epoch + 1) more → events_at (epoch + 1) (moves ++ more) ≡ events_of more
at_advanced epoch moves more bound next =
    ap events_of
    (filter_append (λ (m : Timed). m.epoch == epoch + 1) moves more
    ∙ ap (λ l. l ++ moves_at (epoch + 1) more) (filter_nothing (λ (m : Timed). m.epoch == epoch + 1) moves (all_map (λ (m : Timed). m.epoch ≤ epoch) (λ (m : Timed). (m.epoch == epoch + 1) ≡ false) (λ m h. ne_eqb m.epoch (epoch + 1) (λ e. let none : ⊥ = omega arith in none)) moves bound))
    ∙ all_kept (epoch + 1) more next)

pub slot_events : (epoch : ℕ) (os : List Active) → events_of (slots_of epoch os) ≡ map SlotEvent (pending_numbers (batches_of os))
slot_events epoch [] = refl
slot_events epoch (o ∷ os) = by_kind o.kind (slot_events epoch os) where
  by_kind : (k : Kind) → events_of (slots_of epoch os) ≡ map SlotEvent (pending_numbers (batches_of os)) → events_of (cons_option (slot_if epoch k o.number) (slots_of epoch os)) ≡ map SlotEvent (pending_numbers (cons_option (holder_of k o.number) (batches_of os)))
  by_kind IsShort rest = rest
  by_kind (IsPending d) rest = ap (λ es. SlotEvent o.number ∷ es) rest
  by_kind (IsLive d snapshot) rest = rest

-- nothing is left of the closed epochs where the last one is durable
pub between_none : (epoch : ℕ) (moves : List Timed) → 0 < epoch → events_between (epoch - 1) epoch moves ≡ []
between_none epoch moves positive = ap events_of (filter_nothing (λ (m : Timed). nat_lt (epoch - 1) m.epoch && nat_lt m.epoch epoch) moves (none moves)) where
  by_test : (n : ℕ) (b : Bool) → nat_lt (epoch - 1) n ≡ b → (b && nat_lt n epoch) ≡ false
  by_test n true is = let above : epoch - 1 < n = ltb-true (epoch - 1) n is in le-ltb n epoch (let h : epoch ≤ n = omega arith in h)
  by_test n false is = refl

  none : (ms : List Timed) → AllByRecursion (λ m. (nat_lt (epoch - 1) m.epoch && nat_lt m.epoch epoch) ≡ false) ms
  none [] = tt
  none (m ∷ ms) = (by_test m.epoch (nat_lt (epoch - 1) m.epoch) refl, none ms)
