-- Events in time: with one more, a front of them, those behind a front, and as the events of a frame.
use Rattle.std.proofs.Common.{◌≡◌, ◌≤◌, ◌<◌, ◌^◌, ℕ, List, [], ◌∷◌, ◌++◌, length, sym, subst, arith, filter_map}
use Rattle.std.specs.List.{AllByRecursion}
use Rattle.std.proofs.lemmas.List.{append-nil}
use Rattle.ltx_model.specs.Lists.{IsPairwise}
use Rattle.ltx_model.specs.Frames.{LogEvent, SlotEvent, ShortEvent, BatchEvent, Frame}
use Rattle.ltx_model.specs.Played.{epoch_of, IsCommitUpTo}
use Rattle.ltx_model.specs.Spellings.{IsEvent, IsLogEpoch, IsFrame}
use Rattle.ltx_lemmas.proofs.Lists.{all_map, all_push, all_front, all_back, given_append}
use Rattle.ltx_frame.specs.Orders.{epoch_past}
use Rattle.ltx_events.specs.Kept.{IsKept, IsTyped, AreInTime}

module _ {A : Type 0} (R : A → A → Type 0) where
  pairs_push : (xs : List A) (y : A) → IsPairwise R xs → AllByRecursion (λ x. R x y) xs → IsPairwise R (xs ++ y ∷ [])
  pairs_push [] y pairs all = (tt, tt)
  pairs_push (x ∷ xs) y pairs all = (all_push (R x) xs y pairs.0 all.0, pairs_push xs y pairs.1 all.1)

  pairs_front : (xs ys : List A) → IsPairwise R (xs ++ ys) → IsPairwise R xs
  pairs_front [] ys pairs = tt
  pairs_front (x ∷ xs) ys pairs = (all_front (R x) xs ys pairs.0, pairs_front xs ys pairs.1)

  pairs_back : (xs ys : List A) → IsPairwise R (xs ++ ys) → IsPairwise R ys
  pairs_back [] ys pairs = pairs
  pairs_back (x ∷ xs) ys pairs = pairs_back xs ys pairs.1

-- a commit up to an epoch is up to each later one
up_to_later : (last next : ℕ) → last ≤ next → (e : LogEvent) → IsCommitUpTo last e → IsCommitUpTo next e
up_to_later last next le (SlotEvent n) up = tt
up_to_later last next le (ShortEvent n epoch writes) up = omega (arith, le, up)
up_to_later last next le (BatchEvent n epoch target writes) up = omega (arith, le, up)

-- the epochs of commits up to one are at most that one
epochs_up_to : (last : ℕ) (es : List LogEvent) → AllByRecursion (IsCommitUpTo last) es → AllByRecursion (λ epoch. epoch ≤ last) (filter_map epoch_of es)
epochs_up_to last [] all = tt
epochs_up_to last (SlotEvent n ∷ es) all = epochs_up_to last es all.1
epochs_up_to last (ShortEvent n epoch writes ∷ es) all = (all.0, epochs_up_to last es all.1)
epochs_up_to last (BatchEvent n epoch target writes ∷ es) all = (all.0, epochs_up_to last es all.1)

-- the epochs with one more event
rising_more : (last : ℕ) (es : List LogEvent) (e : LogEvent) → AreInTime last es → last ≤ epoch_past last e → IsPairwise (λ a b. a ≤ b) (filter_map epoch_of es ++ filter_map epoch_of (e ∷ []))
rising_more last es (SlotEvent n) time le = subst (IsPairwise (λ a b. a ≤ b)) (sym (append-nil (filter_map epoch_of es))) time.rising
rising_more last es (ShortEvent n epoch writes) time le =
    pairs_push (λ a b. a ≤ b) (filter_map epoch_of es) epoch time.rising (epochs_up_to epoch es (all_map (IsCommitUpTo last) (IsCommitUpTo epoch) (up_to_later last epoch le) es time.closed))
rising_more last es (BatchEvent n epoch target writes) time le =
    pairs_push (λ a b. a ≤ b) (filter_map epoch_of es) epoch time.rising (epochs_up_to epoch es (all_map (IsCommitUpTo last) (IsCommitUpTo epoch) (up_to_later last epoch le) es time.closed))

-- an event is up to the epoch that is the last one after it
up_to_itself : (last : ℕ) (e : LogEvent) → IsCommitUpTo (epoch_past last e) e
up_to_itself last (SlotEvent n) = tt
up_to_itself last (ShortEvent n epoch writes) = omega arith
up_to_itself last (BatchEvent n epoch target writes) = omega arith

time_past : (last : ℕ) (es : List LogEvent) (e : LogEvent) → AreInTime last es → IsKept e → last ≤ epoch_past last e → AreInTime (epoch_past last e) (es ++ e ∷ [])
time_past last es e time kept le = record {
  each = all_push IsKept es e time.each kept;
  rising = subst (IsPairwise (λ a b. a ≤ b)) (sym (given_append epoch_of es (e ∷ []))) (rising_more last es e time le);
  closed = all_push (IsCommitUpTo (epoch_past last e)) es e (all_map (IsCommitUpTo last) (IsCommitUpTo (epoch_past last e)) (up_to_later last (epoch_past last e) le) es time.closed) (up_to_itself last e);
}

pub time_more : (last next : ℕ) (es : List LogEvent) (e : LogEvent) → AreInTime last es → IsKept e → last ≤ next → next ≡ epoch_past last e → AreInTime next (es ++ e ∷ [])
time_more last next es e time kept le past =
    subst (λ n. AreInTime n (es ++ e ∷ [])) (sym past) (time_past last es e time kept (subst (λ n. last ≤ n) past le))

pub time_front : (last : ℕ) (xs ys : List LogEvent) → AreInTime last (xs ++ ys) → AreInTime last xs
time_front last xs ys time = record {
  each = all_front IsKept xs ys time.each;
  rising = pairs_front (λ a b. a ≤ b) (filter_map epoch_of xs) (filter_map epoch_of ys) (subst (IsPairwise (λ a b. a ≤ b)) (given_append epoch_of xs ys) time.rising);
  closed = all_front (IsCommitUpTo last) xs ys time.closed;
}

pub time_back : (last : ℕ) (xs ys : List LogEvent) → AreInTime last (xs ++ ys) → AreInTime last ys
time_back last xs ys time = record {
  each = all_back IsKept xs ys time.each;
  rising = pairs_back (λ a b. a ≤ b) (filter_map epoch_of xs) (filter_map epoch_of ys) (subst (IsPairwise (λ a b. a ≤ b)) (given_append epoch_of xs ys) time.rising);
  closed = all_back (IsCommitUpTo last) xs ys time.closed;
}

pub time_up_to : (last epoch : ℕ) (es : List LogEvent) → AreInTime last es → AllByRecursion (IsCommitUpTo epoch) es → AreInTime epoch es
time_up_to last epoch es time up = record { each = time.each; rising = time.rising; closed = up }

-- what is kept, is within the limits of its types and is up to an epoch that a log may name is within the limits of the log
within : (epoch : ℕ) → IsLogEpoch epoch → (e : LogEvent) → IsKept e → IsTyped e → IsCommitUpTo epoch e → IsEvent e
within last log (SlotEvent n) kept typed up = typed
within last log (ShortEvent n epoch writes) kept typed up = (typed.0, (omega (arith, kept.from_one), omega (arith, up, log.1)), record { count = kept.count; each = typed.1; rising = kept.rising })
within last log (BatchEvent n epoch target writes) kept typed up =
    (typed.0, (omega (arith, kept.from_one), omega (arith, up, log.1)), typed.1, record { count = kept.count; each = typed.2; rising = kept.rising })

all_within : (epoch : ℕ) (es : List LogEvent) → IsLogEpoch epoch → AllByRecursion IsKept es → AllByRecursion IsTyped es → AllByRecursion (IsCommitUpTo epoch) es → AllByRecursion IsEvent es
all_within epoch [] log kept typed up = tt
all_within epoch (e ∷ es) log kept typed up = (within epoch log e kept.0 typed.0 up.0, all_within epoch es log kept.1 typed.1 up.1)

pub frame_in_time : (f : Frame) → IsLogEpoch f.epoch → length f.events < 2 ^ 64 → AreInTime f.epoch f.events → AllByRecursion IsTyped f.events → IsFrame f
frame_in_time f log count time typed = record { epoch = log; count = count; events = all_within f.epoch f.events log time.each typed time.closed; rising = time.rising; closed = time.closed }
