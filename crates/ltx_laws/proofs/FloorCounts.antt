-- Who counts for the floor: which live batches make a committed member count, and how that changes.
use Rattle.std.proofs.Common.{◌≡◌, ℕ, ◌<◌, Bool, true, false, cond, ◌||◌, List, [], ◌∷◌, ◌++◌, map, Contains, Option, Some, None, refl, sym, ap, ◌∙◌, append_assoc, append-nil, arith}
use Rattle.std.proofs.lemmas.Bool.{or_parts, or_from, false_from_ne_true}
use Rattle.std.specs.List.{list_any, filter_map, cons_option, AllByRecursion}
use Rattle.ltx_model.specs.Lists.{change_first, without_first}
use Rattle.ltx_model.specs.Operations.{Transaction}
use Rattle.ltx_model.specs.Agenda.{Member, LiveSlot, Committed, Slot, Timed, is_slot, commits_batch, moves_since, has_slot, commits_after}
use Rattle.ltx_model.specs.States.{Declaration, Kind, IsShort, IsPending, IsLive, Step, Active, transaction_of, State, as_live}
use Rattle.ltx_model.specs.Histories.{with_kind, made_live, with_step, slot_after, slots_after}
use Rattle.ltx_model.specs.Batches.{counts_for_floor}
use Rattle.ltx_lemmas.proofs.Lists.{true_false, all_map, any_append, any_contains, any_agree, any_none_all, any_not_all, all_without}
use Rattle.ltx_laws.specs.Structure.{if_live, Stands, StandsAs}
use Rattle.ltx_laws.proofs.Agendas.{since_more}

-- whether a live batch's number passes
abbrev pub any_live : (ℕ → Bool) → List Active → Bool
any_live f active = list_any (λ o. if_live o.kind (f o.number)) active

pub live_any : (f : ℕ → Bool) (active : List Active) → list_any (λ b. f b.tx.number) (filter_map (λ o. as_live o.kind (transaction_of o)) active) ≡ any_live f active
live_any f [] = refl
live_any f (o ∷ os) = by_kind o.kind (live_any f os) where
  by_kind : (k : Kind) → list_any (λ b. f b.tx.number) (filter_map (λ u. as_live u.kind (transaction_of u)) os) ≡ any_live f os
      → list_any (λ b. f b.tx.number) (cons_option (as_live k (transaction_of o)) (filter_map (λ u. as_live u.kind (transaction_of u)) os)) ≡ (if_live k (f o.number) || any_live f os)
  by_kind IsShort e = e
  by_kind (IsPending d) e = e
  by_kind (IsLive d snapshot) e = ap (λ b. f o.number || b) e

-- a committed member counts by the live batches whose slots its commit came after
pub counts_committed : (s : State) (t : Transaction) → counts_for_floor s (Committed t) ≡ any_live (λ n. commits_after s.moves n t.number) s.active
counts_committed s t = live_any (λ n. commits_after s.moves n t.number) s.active

-- a live batch that is open makes it count
pub counts_by : (s : State) (o : Active) (d : Declaration) (snapshot : List Transaction) (t : Transaction) → Contains s.active o → o.kind ≡ IsLive d snapshot → commits_after s.moves o.number t.number ≡ true → counts_for_floor s (Committed t) ≡ true
counts_by s o d snapshot t here kind e =
    counts_committed s t
    ∙ any_contains (λ u. if_live u.kind (commits_after s.moves u.number t.number)) s.active o here (ap (λ k. if_live k (commits_after s.moves o.number t.number)) kind ∙ e)

-- one less that is open, and one that has done more
pub live_without : (f : ℕ → Bool) (test : Active → Bool) (active : List Active) → any_live f active ≡ false → any_live f (without_first test active) ≡ false
live_without f test active e = any_none_all (λ o. if_live o.kind (f o.number)) (without_first test active) (all_without (λ o. if_live o.kind (f o.number) ≡ false) test active (any_not_all (λ o. if_live o.kind (f o.number)) active e))

pub live_step : (f : ℕ → Bool) (test : Active → Bool) (step : Step) (active : List Active) → any_live f (change_first test (with_step step) active) ≡ any_live f active
live_step f test step [] = refl
live_step f test step (o ∷ os) = by_test (test o) (live_step f test step os) where
  by_test : (b : Bool) → any_live f (change_first test (with_step step) os) ≡ any_live f os → any_live f (cond b (with_step step o ∷ os) (o ∷ change_first test (with_step step) os)) ≡ any_live f (o ∷ os)
  by_test true e = refl
  by_test false e = ap (λ b. if_live o.kind (f o.number) || b) e

pub live_push : (f : ℕ → Bool) (active : List Active) (o : Active) → if_live o.kind (f o.number) ≡ false → any_live f (active ++ o ∷ []) ≡ any_live f active
live_push f active o e = any_append (λ u. if_live u.kind (f u.number)) active (o ∷ []) ∙ ap (λ b. any_live f active || (b || false)) e ∙ or_false (any_live f active) where
  or_false : (b : Bool) → (b || (false || false)) ≡ b
  or_false true = refl
  or_false false = refl

-- moves that commit no batch of this number
abbrev pub AreSilent : ℕ → List Timed → Type 0
AreSilent c more = AllByRecursion (λ m. commits_batch c m.move ≡ false) more

silent_append : (c : ℕ) (xs ys : List Timed) → AreSilent c ys → list_any (λ m. commits_batch c m.move) (xs ++ ys) ≡ list_any (λ m. commits_batch c m.move) xs
silent_append c xs ys silent = any_append (λ m. commits_batch c m.move) xs ys ∙ ap (λ b. list_any (λ m. commits_batch c m.move) xs || b) (any_none_all (λ m. commits_batch c m.move) ys silent) ∙ or_false (list_any (λ m. commits_batch c m.move) xs) where
  or_false : (b : Bool) → (b || false) ≡ b
  or_false true = refl
  or_false false = refl

pub after_silent : (moves more : List Timed) (n c : ℕ) → has_slot moves n ≡ true → AreSilent c more → commits_after (moves ++ more) n c ≡ commits_after moves n c
after_silent moves more n c slotted silent = ap (list_any (λ m. commits_batch c m.move)) (since_more n moves more slotted) ∙ silent_append c (moves_since n moves) more silent

-- a batch that was not live before them
since_silent : (n c : ℕ) (more : List Timed) → AreSilent c more → list_any (λ m. commits_batch c m.move) (moves_since n more) ≡ false
since_silent n c [] silent = refl
since_silent n c (m ∷ ms) silent = by_test (is_slot n m.move) (since_silent n c ms silent.1) where
  by_test : (b : Bool) → list_any (λ x. commits_batch c x.move) (moves_since n ms) ≡ false → list_any (λ x. commits_batch c x.move) (cond b ms (moves_since n ms)) ≡ false
  by_test true e = any_none_all (λ x. commits_batch c x.move) ms silent.1
  by_test false e = e

pub after_new : (moves more : List Timed) (n c : ℕ) → has_slot moves n ≡ false → AreSilent c more → commits_after (moves ++ more) n c ≡ false
after_new [] more n c new silent = since_silent n c more silent
after_new (m ∷ ms) more n c new silent = by_test (is_slot n m.move) new (λ h. after_new ms more n c h silent) where
  by_test : (b : Bool) → (b || has_slot ms n) ≡ false → (has_slot ms n ≡ false → commits_after (ms ++ more) n c ≡ false) → list_any (λ x. commits_batch c x.move) (cond b (ms ++ more) (moves_since n (ms ++ more))) ≡ false
  by_test true h later = absurd (true_false h)
  by_test false h later = later h

-- after moves that do not commit it, a committed member that did not count counts for none of the same live batches
pub live_silent : (agenda : List Member) (moves more : List Timed) (c : ℕ) (active : List Active) → AllByRecursion (Stands agenda moves) active → AreSilent c more
    → any_live (λ n. commits_after (moves ++ more) n c) active ≡ any_live (λ n. commits_after moves n c) active
live_silent agenda moves more c active stands silent =
    any_agree (λ o. if_live o.kind (commits_after (moves ++ more) o.number c)) (λ o. if_live o.kind (commits_after moves o.number c)) active
    (all_map (Stands agenda moves) (λ o. if_live o.kind (commits_after (moves ++ more) o.number c) ≡ if_live o.kind (commits_after moves o.number c)) (λ o. by_kind o.kind o.number o.steps) active stands) where
      by_kind : (k : Kind) (n : ℕ) (steps : List Step) → StandsAs agenda moves k n steps → if_live k (commits_after (moves ++ more) n c) ≡ if_live k (commits_after moves n c)
      by_kind IsShort n steps h = refl
      by_kind (IsPending d) n steps h = refl
      by_kind (IsLive d snapshot) n steps h = after_silent moves more n c h.slotted silent

-- and where pending ones become live by them, it counts for none
pub live_advanced : (agenda : List Member) (moves more : List Timed) (snapshot : List Transaction) (c : ℕ) (active : List Active) → AllByRecursion (Stands agenda moves) active → AreSilent c more
    → any_live (λ n. commits_after moves n c) active ≡ false → any_live (λ n. commits_after (moves ++ more) n c) (map (λ o. with_kind (made_live snapshot o.kind) o) active) ≡ false
live_advanced agenda moves more snapshot c [] stands silent none = refl
live_advanced agenda moves more snapshot c (o ∷ os) stands silent none =
    let parts = or_parts (if_live o.kind (commits_after moves o.number c)) (any_live (λ n. commits_after moves n c) os) none in
    or_from (if_live (made_live snapshot o.kind) (commits_after (moves ++ more) o.number c)) (any_live (λ n. commits_after (moves ++ more) n c) (map (λ u. with_kind (made_live snapshot u.kind) u) os))
    (by_kind o.kind o.number o.steps stands.0 parts.0) (live_advanced agenda moves more snapshot c os stands.1 silent parts.1) where
      by_kind : (k : Kind) (n : ℕ) (steps : List Step) → StandsAs agenda moves k n steps → if_live k (commits_after moves n c) ≡ false → if_live (made_live snapshot k) (commits_after (moves ++ more) n c) ≡ false
      by_kind IsShort n steps h e = refl
      by_kind (IsPending d) n steps h e =
          let new : has_slot moves n ≡ false = false_from_ne_true (has_slot moves n) (λ is. let less : n < n = h.later n is in let none : ⊥ = omega arith in none) in
          after_new moves more n c new silent
      by_kind (IsLive d old) n steps h e = after_silent moves more n c h.slotted silent ∙ e

-- the slots of an advance
abbrev pub slot_if : ℕ → Kind → ℕ → Option Timed
slot_if epoch IsShort n = None
slot_if epoch (IsPending d) n = Some (record { epoch = epoch; move = Slot n })
slot_if epoch (IsLive d snapshot) n = None

abbrev pub slots_of : ℕ → List Active → List Timed
slots_of epoch os = filter_map (λ o. slot_if epoch o.kind o.number) os

abbrev member_if : Kind → ℕ → Option Member
member_if IsShort n = None
member_if (IsPending d) n = Some (LiveSlot n)
member_if (IsLive d snapshot) n = None

abbrev pub members_of : List Active → List Member
members_of os = filter_map (λ o. member_if o.kind o.number) os

pub slots_silent : (epoch c : ℕ) (os : List Active) → AreSilent c (slots_of epoch os)
slots_silent epoch c [] = tt
slots_silent epoch c (o ∷ os) = by_kind o.kind (slots_silent epoch c os) where
  by_kind : (k : Kind) → AreSilent c (slots_of epoch os) → AreSilent c (cons_option (slot_if epoch k o.number) (slots_of epoch os))
  by_kind IsShort e = e
  by_kind (IsPending d) e = (refl, e)
  by_kind (IsLive d snapshot) e = e

pub advanced_moves : (epoch : ℕ) (s : State) (os : List Active) → (slots_after epoch s os).moves ≡ s.moves ++ slots_of epoch os
advanced_moves epoch s [] = sym (append-nil s.moves)
advanced_moves epoch s (o ∷ os) = advanced_moves epoch (slot_after epoch s o.kind o.number) os ∙ by_kind o.kind where
  by_kind : (k : Kind) → (slot_after epoch s k o.number).moves ++ slots_of epoch os ≡ s.moves ++ cons_option (slot_if epoch k o.number) (slots_of epoch os)
  by_kind IsShort = refl
  by_kind (IsPending d) = append_assoc s.moves (record { epoch = epoch; move = Slot o.number } ∷ []) (slots_of epoch os)
  by_kind (IsLive d snapshot) = refl

pub advanced_agenda : (epoch : ℕ) (s : State) (os : List Active) → (slots_after epoch s os).agenda ≡ s.agenda ++ members_of os
advanced_agenda epoch s [] = sym (append-nil s.agenda)
advanced_agenda epoch s (o ∷ os) = advanced_agenda epoch (slot_after epoch s o.kind o.number) os ∙ by_kind o.kind where
  by_kind : (k : Kind) → (slot_after epoch s k o.number).agenda ++ members_of os ≡ s.agenda ++ cons_option (member_if k o.number) (members_of os)
  by_kind IsShort = refl
  by_kind (IsPending d) = append_assoc s.agenda (LiveSlot o.number ∷ []) (members_of os)
  by_kind (IsLive d snapshot) = refl
