-- The slots that an epoch appends, one pending batch after another.
use Rattle.std.proofs.Common.{◌≡◌, ℕ, suc, ◌+◌, ◌<◌, ◌≤◌, Bool, true, false, not, cond, ◌||◌, ◌==◌, List, [], ◌∷◌, ◌++◌, map, filter, length, slice_get, Some, None, refl, sym, ap, ◌∙◌, subst, append_assoc, append-nil, arith}
use Rattle.std.specs.List.{AllByRecursion}
use Rattle.std.proofs.lemmas.List.{map-append, length-append}
use Rattle.ltx_model.specs.Frames.{SlotEvent}
use Rattle.ltx_model.specs.Holders.{Holder}
use Rattle.ltx_model.specs.Listings.{is_member}
use Rattle.ltx_model.specs.Explained.{IsDistinct}
use Rattle.ltx_lemmas.proofs.Lists.{some_same, none_some, all_back, contains_here, contains_back, any_append, any_not, filter_append}
use Rattle.ltx_events.specs.Kept.{Unsealed}
use Rattle.ltx_preserve.specs.Kept.{pending_number}
use Rattle.ltx_core.specs.Views.{pending}
use Rattle.ltx_core.specs.Epochs.{pending_numbers, AreNew}
use Rattle.ltx_core.proofs.Sessions.{apart_back}

-- The batches up to a place have their slots, where they are pending.
pub record IsAppending (old : List ℕ) (had : ℕ) (now : List ℕ) (room_now : ℕ) (holders : List Holder) (place : ℕ) : Type 0 where
  pub done : List Holder
  pub left : List Holder
  pub parts : holders ≡ done ++ left
  pub place_is : length done ≡ place
  pub list : now ≡ old ++ pending_numbers done
  pub room : room_now + pending done ≡ had

pub numbers_parts : (hs ks : List Holder) → pending_numbers (hs ++ ks) ≡ pending_numbers hs ++ pending_numbers ks
numbers_parts hs ks = ap (map (λ (h : Holder). h.number)) (filter_append (λ (h : Holder). not h.live) hs ks) ∙ map-append (λ (h : Holder). h.number) (filter (λ h. not h.live) hs) (filter (λ h. not h.live) ks)

pub pending_parts : (hs ks : List Holder) → pending (hs ++ ks) ≡ pending hs + pending ks
pending_parts hs ks = ap length (filter_append (λ (h : Holder). not h.live) hs ks) ∙ length-append (filter (λ (h : Holder). not h.live) hs) (filter (λ h. not h.live) ks)

get_at : (done left : List Holder) → slice_get (done ++ left) (length done) ≡ slice_get left 0
get_at [] left = refl
get_at (h ∷ hs) left = get_at hs left

-- the next batch, which is pending
record IsNext (left : List Holder) (tx : ℕ) : Type 0 where
  head : Holder
  rest : List Holder
  parts : left ≡ head ∷ rest
  live : head.live ≡ false
  number : head.number ≡ tx

next_of : (left : List Holder) (tx : ℕ) → pending_number (slice_get left 0) ≡ Some tx → IsNext left tx
next_of [] tx is = absurd (none_some is)
next_of (h ∷ rest) tx is = by_live h.live refl is where
  by_live : (b : Bool) → h.live ≡ b → cond b None (Some h.number) ≡ Some tx → IsNext (h ∷ rest) tx
  by_live true live is = absurd (none_some is)
  by_live false live is = record { head = h; rest = rest; parts = refl; live = live; number = some_same is }

-- or live
record IsLiveNext (left : List Holder) : Type 0 where
  head : Holder
  rest : List Holder
  parts : left ≡ head ∷ rest
  live : head.live ≡ true

live_of : (left : List Holder) → 0 < length left → pending_number (slice_get left 0) ≡ None → IsLiveNext left
live_of [] some is = let none : ⊥ = omega arith in absurd none
live_of (h ∷ rest) some is = by_live h.live refl is where
  by_live : (b : Bool) → h.live ≡ b → cond b None (Some h.number) ≡ None → IsLiveNext (h ∷ rest)
  by_live true live is = record { head = h; rest = rest; parts = refl; live = live }
  by_live false live is = absurd (none_some (sym is))

numbers_pending : (h : Holder) (hs : List Holder) → h.live ≡ false → pending_numbers (h ∷ hs) ≡ h.number ∷ pending_numbers hs
numbers_pending h hs live = rw live refl

numbers_live : (h : Holder) (hs : List Holder) → h.live ≡ true → pending_numbers (h ∷ hs) ≡ pending_numbers hs
numbers_live h hs live = rw live refl

count_pending : (h : Holder) (hs : List Holder) → h.live ≡ false → pending (h ∷ hs) ≡ suc (pending hs)
count_pending h hs live = rw live refl

count_live : (h : Holder) (hs : List Holder) → h.live ≡ true → pending (h ∷ hs) ≡ pending hs
count_live h hs live = rw live refl

-- of distinct numbers none stands before itself
distinct_front : (xs : List ℕ) (y : ℕ) (ys : List ℕ) → IsDistinct (xs ++ y ∷ ys) → is_member xs y ≡ false
distinct_front [] y ys distinct = refl
distinct_front (x ∷ xs) y ys distinct =
    let apart : (y == x) ≡ false = any_not (λ z. z == x) (xs ++ y ∷ ys) y distinct.0 (contains_back xs (y ∷ ys) y (contains_here y ys)) in
    rw (apart_back y x apart, distinct_front xs y ys distinct.1) refl

module _ (old : List ℕ) (had : ℕ) (now : List ℕ) (room_now : ℕ) (holders : List Holder) (place tx : ℕ) (a : IsAppending old had now room_now holders place) (is : pending_number (slice_get holders place) ≡ Some tx) where
  next : IsNext a.left tx
  next = next_of a.left tx (ap pending_number (sym (get_at a.done a.left) ∙ ap (slice_get (a.done ++ a.left)) a.place_is ∙ ap (λ hs. slice_get hs place) (sym a.parts)) ∙ is)

  parts : holders ≡ a.done ++ next.head ∷ next.rest
  parts = a.parts ∙ ap (λ hs. a.done ++ hs) next.parts

  numbers : pending_numbers holders ≡ pending_numbers a.done ++ tx ∷ pending_numbers next.rest
  numbers =
      ap pending_numbers parts ∙ numbers_parts a.done (next.head ∷ next.rest)
      ∙ ap (λ ns. pending_numbers a.done ++ ns) (numbers_pending next.head next.rest next.live ∙ ap (λ n. n ∷ pending_numbers next.rest) next.number)

  pub slot_room : pending holders ≤ had → 0 < room_now
  slot_room room =
      let all : pending holders ≡ pending a.done + suc (pending next.rest) = ap pending parts ∙ pending_parts a.done (next.head ∷ next.rest) ∙ ap (λ n. pending a.done + n) (count_pending next.head next.rest next.live) in
      let left : room_now + pending a.done ≡ had = a.room in
      omega arith

  pub slot_fresh : AreNew old (pending_numbers holders) → is_member now tx ≡ false
  slot_fresh new =
      let stranger : is_member old tx ≡ false = (all_back (λ n. is_member old n ≡ false) (pending_numbers a.done) (tx ∷ pending_numbers next.rest) (subst (AllByRecursion (λ n. is_member old n ≡ false)) numbers new.strangers)).0 in
      let other : is_member (pending_numbers a.done) tx ≡ false = distinct_front (pending_numbers a.done) tx (pending_numbers next.rest) (subst IsDistinct numbers new.distinct) in
      ap (λ ns. is_member ns tx) a.list ∙ any_append (λ m. m == tx) old (pending_numbers a.done) ∙ ap (λ b. b || is_member (pending_numbers a.done) tx) stranger ∙ other

  pub slot_appended : (new : List ℕ) (room_new : ℕ) → new ≡ now ++ tx ∷ [] → room_new + 1 ≡ room_now → IsAppending old had new room_new holders (place + 1)
  slot_appended new room_new list room =
      let left : room_now + pending a.done ≡ had = a.room in
      let one : pending (a.done ++ next.head ∷ []) ≡ pending a.done + 1 = pending_parts a.done (next.head ∷ []) ∙ ap (λ n. pending a.done + n) (count_pending next.head [] next.live) in
      let count : room_new + pending (a.done ++ next.head ∷ []) ≡ had = omega arith in
      record {
        done = a.done ++ next.head ∷ [];
        left = next.rest;
        parts = parts ∙ sym (append_assoc a.done (next.head ∷ []) next.rest);
        place_is = length-append a.done (next.head ∷ []) ∙ ap (λ n. n + 1) a.place_is;
        list = list ∙ ap (λ ns. ns ++ tx ∷ []) a.list ∙ append_assoc old (pending_numbers a.done) (tx ∷ [])
            ∙ ap (λ ns. old ++ ns) (sym (numbers_parts a.done (next.head ∷ []) ∙ ap (λ ns. pending_numbers a.done ++ ns) (numbers_pending next.head [] next.live ∙ ap (λ n. n ∷ []) next.number)));
        room = count;
      }

pub slot_none : (old : List ℕ) (had : ℕ) (now : List ℕ) (room_now : ℕ) (holders : List Holder) (place : ℕ) → IsAppending old had now room_now holders place → place < length holders → pending_number (slice_get holders place) ≡ None → IsAppending old had now room_now holders (place + 1)
slot_none old had now room_now holders place a within is = record {
  done = a.done ++ next.head ∷ [];
  left = next.rest;
  parts = a.parts ∙ ap (λ hs. a.done ++ hs) next.parts ∙ sym (append_assoc a.done (next.head ∷ []) next.rest);
  place_is = length-append a.done (next.head ∷ []) ∙ ap (λ n. n + 1) a.place_is;
  list = a.list ∙ ap (λ ns. old ++ ns) (sym (numbers_parts a.done (next.head ∷ []) ∙ ap (λ ns. pending_numbers a.done ++ ns) (numbers_live next.head [] next.live) ∙ append-nil (pending_numbers a.done)));
  room = count;
} where
  some : 0 < length a.left
  some =
      let all : length holders ≡ length a.done + length a.left = ap length a.parts ∙ length-append a.done a.left in
      let place_is : length a.done ≡ place = a.place_is in
      omega arith

  next : IsLiveNext a.left
  next = live_of a.left some (ap pending_number (sym (get_at a.done a.left) ∙ ap (slice_get (a.done ++ a.left)) a.place_is ∙ ap (λ hs. slice_get hs place) (sym a.parts)) ∙ is)

  count : room_now + pending (a.done ++ next.head ∷ []) ≡ had
  count =
      let left : room_now + pending a.done ≡ had = a.room in
      let same : pending (a.done ++ next.head ∷ []) ≡ pending a.done + 0 = pending_parts a.done (next.head ∷ []) ∙ ap (λ n. pending a.done + n) (count_live next.head [] next.live) in
      omega arith

pub slots_begin : (old : List ℕ) (had : ℕ) (holders : List Holder) → IsAppending old had old had holders 0
slots_begin old had holders = record { done = []; left = holders; parts = refl; place_is = refl; list = sym (append-nil old); room = omega arith }

-- all have theirs
pub slots_all : (old : List ℕ) (had : ℕ) (now : List ℕ) (room_now : ℕ) (holders : List Holder) (place : ℕ) → IsAppending old had now room_now holders place → length holders ≤ place → (now ≡ old ++ pending_numbers holders) × (room_now + pending holders ≡ had)
slots_all old had now room_now holders place a past =
    let all : holders ≡ a.done = a.parts ∙ ap (λ hs. a.done ++ hs) (none a.left refl) ∙ append-nil a.done in
    (a.list ∙ ap (λ hs. old ++ pending_numbers hs) (sym all), ap (λ hs. room_now + pending hs) all ∙ a.room) where
      none : (left : List Holder) → a.left ≡ left → a.left ≡ []
      none [] is = is
      none (h ∷ hs) is =
          let all : length holders ≡ length a.done + suc (length hs) = ap length a.parts ∙ length-append a.done a.left ∙ ap (λ ks. length a.done + length ks) is in
          let place_is : length a.done ≡ place = a.place_is in
          let wrong : ⊥ = omega arith in
          absurd wrong

-- The events of the batches up to a place are kept, where they are pending.
pub record IsKeeping (old now : Unsealed) (holders : List Holder) (place : ℕ) : Type 0 where
  pub numbers : List ℕ
  pub slots : IsAppending [] old.room numbers now.room holders place
  pub closed : now.closed ≡ old.closed
  pub present : now.present ≡ old.present ++ map SlotEvent numbers
  pub last : now.last ≡ old.last

pub keep_begin : (old : Unsealed) (holders : List Holder) → IsKeeping old old holders 0
keep_begin old holders = record { numbers = []; slots = slots_begin [] old.room holders; closed = refl; present = sym (append-nil old.present); last = refl }

module _ (old now : Unsealed) (holders : List Holder) (place : ℕ) (k : IsKeeping old now holders place) where
  module _ (tx : ℕ) (is : pending_number (slice_get holders place) ≡ Some tx) where
    pub keep_room : pending holders ≤ old.room → 0 < now.room
    keep_room room = slot_room [] old.room k.numbers now.room holders place tx k.slots is room

    pub keep_more : (new : Unsealed) → new.closed ≡ now.closed → new.present ≡ now.present ++ SlotEvent tx ∷ [] → new.room + 1 ≡ now.room → new.last ≡ now.last → IsKeeping old new holders (place + 1)
    keep_more new closed present room last = record {
      numbers = k.numbers ++ tx ∷ [];
      slots = slot_appended [] old.room k.numbers now.room holders place tx k.slots is (k.numbers ++ tx ∷ []) new.room refl room;
      closed = closed ∙ k.closed;
      present = present ∙ ap (λ es. es ++ SlotEvent tx ∷ []) k.present ∙ append_assoc old.present (map SlotEvent k.numbers) (SlotEvent tx ∷ []) ∙ ap (λ es. old.present ++ es) (sym (map-append SlotEvent k.numbers (tx ∷ [])));
      last = last ∙ k.last;
    }

  pub keep_none : place < length holders → pending_number (slice_get holders place) ≡ None → IsKeeping old now holders (place + 1)
  keep_none within is = record { numbers = k.numbers; slots = slot_none [] old.room k.numbers now.room holders place k.slots within is; closed = k.closed; present = k.present; last = k.last }

  pub keep_all : length holders ≤ place → (now.present ≡ old.present ++ map SlotEvent (pending_numbers holders)) × (now.room + pending holders ≡ old.room)
  keep_all past =
      let all = slots_all [] old.room k.numbers now.room holders place k.slots past in
      (k.present ∙ ap (λ ns. old.present ++ map SlotEvent ns) all.0, all.1)
