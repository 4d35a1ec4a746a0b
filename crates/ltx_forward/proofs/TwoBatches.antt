-- A state of two live batches, the second of which decides: it has looked into nothing, or into a table that the first one may write.
use Rattle.std.proofs.Common.{◌≡◌, ◌⊎◌, inl, inr, ℕ, ◌<◌, Bool, false, List, [], ◌∷◌, ◌++◌, map, Option, Some, None, refl, sym, ap, subst, arith, Contains}
use Rattle.std.specs.List.{AllByRecursion}
use Rattle.ltx_model.specs.declared.commands.Op.TheVariants.{Get}
use Rattle.ltx_model.specs.declared.replies.Reply.TheVariants as replies
use Rattle.ltx_model.specs.declared.looked.Noted.{Noted}
use Rattle.ltx_model.specs.declared.looked.Reach.TheVariants.{Point}
use Rattle.ltx_model.specs.declared.writes.Look.{Look}
use Rattle.ltx_model.specs.Lists.{Numbered, numbered}
use Rattle.ltx_model.specs.Keys.{Cell}
use Rattle.ltx_model.specs.Operations.{Transaction, writes_of}
use Rattle.ltx_model.specs.LastWrites.{last_write}
use Rattle.ltx_model.specs.Agenda.{LiveSlot, Slot}
use Rattle.ltx_model.specs.States.{Step, IsLive, Active, State, LiveBatch, transaction_of, live_batches}
use Rattle.ltx_model.specs.Notes.{AreNotesBy}
use Rattle.ltx_model.specs.Records.{Records, Recorded, AreRecordsOf, IsRecordOf}
use Rattle.ltx_model.specs.Batches.{batch_operations, is_from_floor}
use Rattle.ltx_model.specs.Decisions.{IsAskedLook, IsDecidable}
use Rattle.ltx_agenda.specs.Placed.{Listed}
use Rattle.ltx_long.specs.Longs.{Long}
use Rattle.ltx_forward.specs.declared.decide.Live.{Live}
use Rattle.ltx_forward.specs.Asked.{IsAsked, IsAskable}
use Rattle.ltx_lemmas.proofs.Lists.{none_some, contains_here, contains_later, contains_cases, contains_none}

-- the first batch may write these tables, the second one has these steps
module _ (tables : ℕ) (steps : List Step) where
  abbrev first : Active
  first = record { session = 1; kind = IsLive (record { writes = tables; reads = 0; from = 1 }) []; number = 1; steps = [] }

  abbrev second : Active
  second = record { session = 2; kind = IsLive (record { writes = 0; reads = 0; from = 1 }) []; number = 2; steps = steps }

  abbrev state : State
  state = record {
    base = [];
    epoch = 1;
    durable = 0;
    last = 2;
    gate = 0;
    active = first ∷ second ∷ [];
    agenda = LiveSlot 1 ∷ LiveSlot 2 ∷ [];
    moves = record { epoch = 1; move = Slot 1 } ∷ record { epoch = 1; move = Slot 2 } ∷ [];
  }

  abbrev batch : LiveBatch
  batch = record { tx = transaction_of second; declared = record { writes = 0; reads = 0; from = 1 }; snapshot = [] }

  abbrev told_lives : List Live
  told_lives = record { tx = 1; writes = tables; reads = 0 } ∷ record { tx = 2; writes = 0; reads = 0 } ∷ []

  slots : (b : LiveBatch) → Contains (live_batches state) b → Contains state.agenda (LiveSlot b.tx.number)
  slots b here = by_first (contains_cases elder (batch ∷ []) b here) where
    elder : LiveBatch
    elder = record { tx = transaction_of first; declared = record { writes = tables; reads = 0; from = 1 }; snapshot = [] }

    by_second : (batch ≡ b) ⊎ Contains [] b → Contains state.agenda (LiveSlot b.tx.number)
    by_second (inl same) = subst (λ (x : LiveBatch). Contains state.agenda (LiveSlot x.tx.number)) same (contains_later (LiveSlot 1) (LiveSlot 2 ∷ []) (LiveSlot 2) (contains_here (LiveSlot 2) []))
    by_second (inr none) = absurd (contains_none b none)

    by_first : (elder ≡ b) ⊎ Contains (batch ∷ []) b → Contains state.agenda (LiveSlot b.tx.number)
    by_first (inl same) = subst (λ (x : LiveBatch). Contains state.agenda (LiveSlot x.tx.number)) same (contains_here (LiveSlot 1) (LiveSlot 2 ∷ []))
    by_first (inr there) = by_second (contains_cases batch [] b there)

  -- nobody has committed
  uncommitted : (front back : List Transaction) (t : Transaction) → ◌≡◌ {A = List Transaction} [] (front ++ t ∷ back) → ⊥
  uncommitted [] back t e = cc
  uncommitted (f ∷ fs) back t e = cc

  recorded : (records : Records) → records.kept ≡ [] → records.commits ≡ 0 → AreRecordsOf state records
  recorded records kept commits = record {
    commits = commits;
    told = subst (AllByRecursion (IsRecordOf state)) (sym kept) tt;
    rising = subst (λ (rs : List Recorded). Rattle.ltx_model.specs.Lists.IsPairwise (λ a b. a.mark < b.mark) rs) (sym kept) tt;
    whole = λ t here. absurd (contains_none t here);
  }

  decidable : (notes : List Noted) (lives : List Live) (records : Records) (list : List ℕ) → [] ≡ writes_of (batch_operations batch)
      → AreNotesBy (λ (step : Step). IsAskedLook (is_from_floor state) (last_write [] [])) (numbered steps) notes
      → records.kept ≡ [] → records.commits ≡ 0 → list ≡ 1 ∷ 2 ∷ [] → lives ≡ told_lives → IsDecidable state batch notes 0 [] (map Rattle.ltx_forward.specs.Asked.told lives) records list
  decidable notes lives records list written noted kept commits listed told = record {
    active = second;
    open_in = contains_later first (second ∷ []) second (contains_here second []);
    kind = refl;
    tx = refl;
    noted = noted;
    marked = record { front = record { epoch = 1; move = Slot 1 } ∷ []; slot = record { epoch = 1; move = Slot 2 }; back = []; parts = refl; is = refl; first = (refl, tt); mark_is = refl };
    written = written;
    alike = λ j number h. absurd (uncommitted h.front h.back h.tx h.parts);
    live = ap (map Rattle.ltx_forward.specs.Asked.told) told;
    rising = subst (λ (ls : List Live). Rattle.ltx_model.specs.Lists.IsPairwise (λ a b. a.number < b.number) (map Rattle.ltx_forward.specs.Asked.told ls)) (sym told) (((let less : 1 < 2 = omega arith in less), tt), (tt, tt));
    recorded = recorded records kept commits;
    listed = listed;
    distinct = subst Rattle.ltx_model.specs.Explained.IsDistinct (sym listed) (refl, (refl, tt));
    slots = slots;
    strangers = tt;
  }

  pub askable : (tx : Long) (lives : List Live) (records : Records) (agenda : Listed) → [] ≡ writes_of (batch_operations batch)
      → AreNotesBy (λ (step : Step). IsAskedLook (is_from_floor state) (last_write [] [])) (numbered steps) tx.list.notes
      → tx.tx ≡ 2 → tx.live ≡ Some 0 → records.kept ≡ [] → records.commits ≡ 0 → agenda.list ≡ 1 ∷ 2 ∷ [] → lives ≡ told_lives → IsAskable tx [] lives records agenda
  askable tx lives records agenda written noted number live kept commits listed told =
      record { state = state; batch = batch; asked = record { number = number; mark = 0; live = live; decidable = decidable tx.list.notes lives records agenda.list written noted kept commits listed told } }

-- it has looked into nothing
pub askable_idle : (tables : ℕ) (tx : Long) (lives : List Live) (records : Records) (agenda : Listed) → tx.list.notes ≡ [] → tx.tx ≡ 2 → tx.live ≡ Some 0 → records.kept ≡ [] → records.commits ≡ 0 → agenda.list ≡ 1 ∷ 2 ∷ []
    → lives ≡ told_lives tables [] → IsAskable tx [] lives records agenda
askable_idle tables tx lives records agenda notes number live kept commits listed told =
    askable tables [] tx lives records agenda refl (subst (AreNotesBy (λ (step : Step). IsAskedLook (is_from_floor (state tables [])) (last_write [] [])) []) (sym notes) tt) number live kept commits listed told

-- the get of a key that nobody wrote
abbrev get_step : ℕ → List ℕ → Step
get_step table key = record { op = Get table key; reply = replies.Absent; order = []; latest = [] }

nobody_wrote : (asked : ℕ → Bool) (cell : Cell) → IsAskedLook asked (last_write [] []) cell None
unfolding last_write
nobody_wrote asked cell w e = absurd (none_some e)

pub askable_reader : (tables table : ℕ) (key : List ℕ) (tx : Long) (lives : List Live) (records : Records) (agenda : Listed) → tx.list.notes ≡ record { table = table; reach = Point key None false; write = None } ∷ []
    → tx.tx ≡ 2 → tx.live ≡ Some 0 → records.kept ≡ [] → records.commits ≡ 0 → agenda.list ≡ 1 ∷ 2 ∷ []
    → lives ≡ told_lives tables (get_step table key ∷ []) → IsAskable tx [] lives records agenda
askable_reader tables table key tx lives records agenda notes number live kept commits listed told =
    let steps : List Step = get_step table key ∷ [] in
    let tells : Cell → Option Look → Type 0 = IsAskedLook (is_from_floor (state tables (get_step table key ∷ []))) (last_write [] []) in
    askable tables steps tx lives records agenda refl
    (subst (AreNotesBy (λ (step : Step). IsAskedLook (is_from_floor (state tables (get_step table key ∷ []))) (last_write [] [])) (numbered steps)) (sym notes)
    (record { table = refl; reach = (refl, record { own_key = refl; looked = λ e. nobody_wrote (is_from_floor (state tables (get_step table key ∷ []))) (record { table = table; key = key }) }); write = refl }, tt))
    number live kept commits listed told
