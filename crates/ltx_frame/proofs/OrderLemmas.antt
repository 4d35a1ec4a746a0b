-- Writes and events that are in order from each to the next one are in order, and the other way round.
use Rattle.std.proofs.Common.{◌≡◌, ◌≤◌, ◌<◌, ◌^◌, ℕ, List, [], ◌∷◌, length, sym, ap, subst, ◌∙◌, arith, filter_map}
use Rattle.std.specs.List.{AllByRecursion}
use Rattle.std.specs.declared.cmp.Ordering.TheVariants.{Less}
use Rattle.ltx_model.specs.declared.writes.Write.{Write}
use Rattle.ltx_model.specs.Lists.{IsPairwise}
use Rattle.ltx_model.specs.Keys.{cell_cmp, AreAbove}
use Rattle.ltx_model.specs.Operations.{cell_of_write}
use Rattle.ltx_model.specs.Frames.{LogEvent, SlotEvent, ShortEvent, BatchEvent, Frame}
use Rattle.ltx_model.specs.Played.{epoch_of, IsCommitUpTo}
use Rattle.ltx_model.specs.Spellings.{IsWithin, IsEvent, IsLogEpoch, IsFrame}
use Rattle.ltx_model.proofs.Rising.{above_later}
use Rattle.ltx_frame.specs.Orders.{AreRisingWrites, epoch_past, StepsOn, AreInOrder}

-- ---- writes

pub rising_alone : (writes behind : List Write) (w : Write) → writes ≡ w ∷ behind → behind ≡ [] → IsWithin w → AreRisingWrites writes
rising_alone writes behind w is none within =
    let r : AreRisingWrites (w ∷ []) = record { each = (within, tt); rising = (tt, tt) } in
    subst AreRisingWrites (sym (is ∙ ap (λ (l : List Write). w ∷ l) none)) r

pub rising_on : (writes behind more : List Write) (first second : Write) → writes ≡ first ∷ behind → behind ≡ second ∷ more → IsWithin first
    → cell_cmp (cell_of_write first) (cell_of_write second) ≡ Less → AreRisingWrites behind → AreRisingWrites writes
rising_on writes behind more first second is next within less rising =
    let r : AreRisingWrites (second ∷ more) = subst AreRisingWrites next rising in
    let above : AreAbove cell_of_write (cell_of_write first) more = above_later cell_of_write (cell_of_write first) (cell_of_write second) more less r.rising.0 in
    let all : AreRisingWrites (first ∷ second ∷ more) = record { each = (within, r.each); rising = ((less, above), r.rising) } in
    subst AreRisingWrites (sym (is ∙ ap (λ (l : List Write). first ∷ l) next)) all

pub rising_behind : (writes behind : List Write) (first : Write) → writes ≡ first ∷ behind → AreRisingWrites writes → AreRisingWrites behind
rising_behind writes behind first is rising =
    let r : AreRisingWrites (first ∷ behind) = subst AreRisingWrites is rising in
    record { each = r.each.1; rising = r.rising.1 }

pub less_first : (writes behind more : List Write) (first second : Write) → writes ≡ first ∷ behind → behind ≡ second ∷ more → AreRisingWrites writes
    → cell_cmp (cell_of_write first) (cell_of_write second) ≡ Less
less_first writes behind more first second is next rising =
    let r : AreRisingWrites (first ∷ second ∷ more) = subst AreRisingWrites (is ∙ ap (λ (l : List Write). first ∷ l) next) rising in
    r.rising.0.0

-- ---- events

pub order_on : (last highest : ℕ) (events behind : List LogEvent) (e : LogEvent) → events ≡ e ∷ behind → StepsOn last highest e → AreInOrder (epoch_past last e) highest behind
    → AreInOrder last highest events
order_on last highest events behind e is step order = subst (AreInOrder last highest) (sym is) (step, order)

pub order_first : (last highest : ℕ) (events behind : List LogEvent) (e : LogEvent) → events ≡ e ∷ behind → AreInOrder last highest events
    → StepsOn last highest e × AreInOrder (epoch_past last e) highest behind
order_first last highest events behind e is order = subst (AreInOrder last highest) is order

-- what the order says of events, one kind of fact after another
record AreOrdered (last highest : ℕ) (es : List LogEvent) : Type 0 where
  within : AllByRecursion IsEvent es
  above : AllByRecursion (λ epoch. last ≤ epoch) (filter_map epoch_of es)
  rising : IsPairwise (λ a b. a ≤ b) (filter_map epoch_of es)
  closed : AllByRecursion (IsCommitUpTo highest) es

-- what is above an epoch is above each lesser one
above_lesser : (low last : ℕ) (epochs : List ℕ) → low ≤ last → AllByRecursion (λ epoch. last ≤ epoch) epochs → AllByRecursion (λ epoch. low ≤ epoch) epochs
above_lesser low last [] le above = tt
above_lesser low last (epoch ∷ epochs) le above = (omega (arith, above.0), above_lesser low last epochs le above.1)

ordered : (last highest : ℕ) (es : List LogEvent) → AreInOrder last highest es → AreOrdered last highest es
ordered last highest [] order = record { within = tt; above = tt; rising = tt; closed = tt }
ordered last highest (SlotEvent n ∷ es) order =
    let r = ordered last highest es order.1 in
    record { within = (order.0.within, r.within); above = r.above; rising = r.rising; closed = (tt, r.closed) }
ordered last highest (ShortEvent n epoch writes ∷ es) order =
    let r = ordered epoch highest es order.1 in
    record {
      within = (order.0.within, r.within);
      above = (order.0.climbs, above_lesser last epoch (filter_map epoch_of es) order.0.climbs r.above);
      rising = (r.above, r.rising);
      closed = (order.0.closed, r.closed);
    }
ordered last highest (BatchEvent n epoch target writes ∷ es) order =
    let r = ordered epoch highest es order.1 in
    record {
      within = (order.0.within, r.within);
      above = (order.0.climbs, above_lesser last epoch (filter_map epoch_of es) order.0.climbs r.above);
      rising = (r.above, r.rising);
      closed = (order.0.closed, r.closed);
    }

in_order : (last highest : ℕ) (es : List LogEvent) → last ≤ highest → AreOrdered last highest es → AreInOrder last highest es
in_order last highest [] le o = tt
in_order last highest (SlotEvent n ∷ es) le o = (
  record { within = o.within.0; climbs = omega arith; closed = le },
  in_order last highest es le (record { within = o.within.1; above = o.above; rising = o.rising; closed = o.closed.1 }),
)
in_order last highest (ShortEvent n epoch writes ∷ es) le o = (
  record { within = o.within.0; climbs = o.above.0; closed = o.closed.0 },
  in_order epoch highest es o.closed.0 (record { within = o.within.1; above = o.rising.0; rising = o.rising.1; closed = o.closed.1 }),
)
in_order last highest (BatchEvent n epoch target writes ∷ es) le o = (
  record { within = o.within.0; climbs = o.above.0; closed = o.closed.0 },
  in_order epoch highest es o.closed.0 (record { within = o.within.1; above = o.rising.0; rising = o.rising.1; closed = o.closed.1 }),
)

pub frame_from : (f : Frame) → IsLogEpoch f.epoch → length f.events < 2 ^ 64 → AreInOrder 0 f.epoch f.events → IsFrame f
frame_from f epoch count order =
    let o = ordered 0 f.epoch f.events order in
    record { epoch = epoch; count = count; events = o.within; rising = o.rising; closed = o.closed }

from_zero : (epochs : List ℕ) → AllByRecursion (λ epoch. 0 ≤ epoch) epochs
from_zero [] = tt
from_zero (epoch ∷ epochs) = (omega arith, from_zero epochs)

pub order_from : (f : Frame) → IsFrame f → AreInOrder 0 f.epoch f.events
order_from f is = in_order 0 f.epoch f.events (omega arith) (record { within = is.events; above = from_zero (filter_map epoch_of f.events); rising = is.rising; closed = is.closed })
