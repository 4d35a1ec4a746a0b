-- What is asked with can be placed: the members are there, and the notes' own keys stand in order.
use Rattle.std.proofs.Common.{◌≡◌, ℕ, List, [], ◌∷◌, map, Option, sym, ◌∙◌, ◌⊎◌, inl, inr, true, subst}
use Rattle.std.specs.List.{AllByRecursion}
use Rattle.std.specs.List.Sorted.{IsStrictlySortedBy}
use Rattle.std.specs.declared.cmp.Ordering.TheVariants.{Less}
use Rattle.ltx_model.specs.declared.commands.Op.{Op}
use Rattle.ltx_model.specs.declared.commands.Op.TheVariants.{Get, Scan, Put, Del}
use Rattle.ltx_model.specs.declared.looked.Noted.{Noted}
use Rattle.ltx_model.specs.declared.looked.Reach.{Reach}
use Rattle.ltx_model.specs.declared.looked.Reach.TheVariants.{Nothing, Point, Range}
use Rattle.ltx_model.specs.declared.writes.Look.{Look}
use Rattle.ltx_model.specs.declared.writes.Write.{Write}
use Rattle.ltx_model.specs.Lists.{Numbered, numbered}
use Rattle.ltx_model.specs.Keys.{Cell, key_cmp, IsRising, AreAbove}
use Rattle.ltx_model.specs.Notes.{IsReachBy, AreNotesBy}
use Rattle.ltx_model.specs.Listings.{is_member}
use Rattle.ltx_model.specs.Records.{Records}
use Rattle.ltx_model.specs.States.{State, Step, LiveBatch}
use Rattle.ltx_model.specs.Batches.{is_from_floor}
use Rattle.ltx_model.specs.Decisions.{IsAskedLook}
use Rattle.ltx_model.specs.LastWrites.{last_write}
use Rattle.ltx_model.proofs.CellOrder.{in_one_table}
use Rattle.ltx_agenda.specs.Placed.{Listed}
use Rattle.ltx_long.specs.Longs.{Long}
use Rattle.ltx_forward.specs.declared.decide.Live.{Live}
use Rattle.ltx_forward.specs.Asked.{IsAsked, IsAskable}
use Rattle.ltx_forward.specs.Earliest.{HasOrderedOwn, IsPlaceable, IsElder, IsWriterBy, IsOvertaken}
use Rattle.ltx_forward.proofs.Places.{asked_own, asked_live, asked_kept}

-- in one table, cells rise as their keys do
keys_above : (table : ℕ) (key : List ℕ) (keys : List (List ℕ)) → AreAbove (λ k. record { table = table; key = k }) (record { table = table; key = key }) keys → AllByRecursion (λ k. key_cmp key k ≡ Less) keys
keys_above table key [] above = tt
keys_above table key (k ∷ ks) above = (sym (in_one_table table key k) ∙ above.0, keys_above table key ks above.1)

rising_keys : (table : ℕ) (keys : List (List ℕ)) → IsRising (λ k. record { table = table; key = k }) keys → IsStrictlySortedBy key_cmp keys
unfolding IsStrictlySortedBy
rising_keys table [] rising = tt
rising_keys table (k ∷ ks) rising = (keys_above table k ks rising.0, rising_keys table ks rising.1)

ordered_own : (tells : Cell → Option Look → Type 0) (earlier : List Op) (op : Op) (reach : Reach) → IsReachBy tells earlier op reach → HasOrderedOwn reach
ordered_own tells earlier op Nothing is = tt
ordered_own tells earlier op (Point k look own) is = tt
ordered_own tells earlier (Get table key) (Range l h looks own) is = absurd is
ordered_own tells earlier (Scan table low high) (Range l h looks own) is = rising_keys table own is.2.own_rising
ordered_own tells earlier (Put table key value) (Range l h looks own) is = absurd is
ordered_own tells earlier (Del table key) (Range l h looks own) is = absurd is

ordered_notes : (tells : Step → Cell → Option Look → Type 0) (os : List (Numbered Step)) (notes : List Noted) → AreNotesBy tells os notes → AllByRecursion (λ note. HasOrderedOwn note.reach) notes
ordered_notes tells os [] are = tt
ordered_notes tells [] (note ∷ notes) are = absurd are
ordered_notes tells (o ∷ os) (note ∷ notes) are = (ordered_own (tells o.item) (map (λ b. b.op) o.earlier) o.item.op note.reach are.0.reach, ordered_notes tells os notes are.1)

pub placeable_of : (s : State) (i : LiveBatch) (tx : Long) (writes : List Write) (lives : List Live) (records : Records) (agenda : Listed) → IsAsked s i tx writes lives records agenda → IsPlaceable tx lives records agenda.list
placeable_of s i tx writes lives records agenda asked =
    let d = asked.decidable in
    record {
      own = asked_own s i tx writes lives records agenda asked;
      others = asked_live s i tx writes lives records agenda asked;
      kept = asked_kept s i tx writes lives records agenda asked;
      ordered = ordered_notes (λ step. IsAskedLook (is_from_floor s) (last_write s.base i.snapshot)) (numbered d.active.steps) tx.list.notes d.noted;
    }

pub placeable : (tx : Long) (writes : List Write) (lives : List Live) (records : Records) (agenda : Listed) → IsAskable tx writes lives records agenda → IsPlaceable tx lives records agenda.list
placeable tx writes lives records agenda asked = placeable_of asked.state asked.batch tx writes lives records agenda asked.asked

-- whoever is overtaken is a member
pub overtaken_member : (tx : Long) (lives : List Live) (records : Records) (list : List ℕ) → IsPlaceable tx lives records list → (n : ℕ) → IsOvertaken tx lives records list n → is_member list n ≡ true
overtaken_member tx lives records list placed n o = by_way o.by where
  by_way : IsElder tx lives n ⊎ IsWriterBy records list tx.tx o.mark tx.list.notes n → is_member list n ≡ true
  by_way (inl e) = subst (λ k. is_member list k ≡ true) e.number (placed.others e.live e.here)
  by_way (inr w) = subst (λ k. is_member list k ≡ true) w.writer.number (placed.kept w.writer.entry w.writer.kept)
