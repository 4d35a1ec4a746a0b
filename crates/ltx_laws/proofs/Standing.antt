-- Where the other transactions stand after a move of one: each fact of the structure, kept over plain lists.
use Rattle.std.proofs.Common.{◌≡◌, ◌≢◌, ℕ, ◌<◌, ◌≤◌, Bool, true, false, cond, not, ◌||◌, ◌==◌, List, [], ◌∷◌, ◌++◌, filter, Some, None, refl, sym, ap, ◌∙◌, ne_eqb, arith}
use Rattle.std.specs.List.{find, list_any, AllByRecursion}
use Rattle.ltx_model.specs.Lists.{without_first, IsPairwise}
use Rattle.ltx_model.specs.Operations.{Transaction}
use Rattle.ltx_model.specs.Agenda.{Member, LiveSlot, Committed, number_of, is_member, serial, agenda_from, part_before, Timed, commit_of, commits_of, moves_until, has_slot, commits_after}
use Rattle.ltx_model.specs.States.{Kind, IsShort, IsPending, IsLive, Step, Active, Base, is_of}
use Rattle.ltx_laws.specs.Structure.{is_forwarded, if_live, is_live_as, AreOpen, IsKnown, IsBefore, StandsAs, Stands}
use Rattle.ltx_lemmas.proofs.Lists.{all_without, all_find, given_append, some_same}
use Rattle.ltx_laws.proofs.Pairs.{pairs_without, others_apart}
use Rattle.ltx_laws.proofs.Agendas.{IsOther}

abbrev pub IsPendingKind : Kind → Type 0
IsPendingKind IsShort = ⊥
IsPendingKind (IsPending d) = Unit {0}
IsPendingKind (IsLive d snapshot) = ⊥

-- each batch that became live still has a smaller number than n
abbrev pub StaysLater : List Timed → List Timed → ℕ → Type 0
StaysLater moves moves' n = ((j : ℕ) → has_slot moves j ≡ true → j < n) → (j : ℕ) → has_slot moves' j ≡ true → j < n

-- A move of the transaction k, from these lists to those: what it leaves of the others.
pub record Keeps (k : ℕ) (agenda : List Member) (moves : List Timed) (agenda' : List Member) (moves' : List Timed) : Type 0 where
  pub slots : (n : ℕ) → k ≢ n → has_slot moves' n ≡ has_slot moves n
  pub members : (n : ℕ) → k ≢ n → is_member agenda' n ≡ is_member agenda n
  pub until : (n : ℕ) → has_slot moves n ≡ true → moves_until n moves' ≡ moves_until n moves
  pub passing : (n : ℕ) → k ≢ n → has_slot moves n ≡ true → is_member agenda n ≡ true
      → filter (λ t. not (commits_after moves' n t.number)) (serial (part_before n agenda')) ≡ filter (λ t. not (commits_after moves n t.number)) (serial (part_before n agenda))

module _ (k : ℕ) (agenda : List Member) (moves : List Timed) (agenda' : List Member) (moves' : List Timed) (keeps : Keeps k agenda moves agenda' moves') where
  stands_as : (kind : Kind) (n : ℕ) (steps : List Step) → k ≢ n → (IsPendingKind kind → StaysLater moves moves' n) → StandsAs agenda moves kind n steps → StandsAs agenda' moves' kind n steps
  stands_as IsShort n steps apart later h = record { fresh = keeps.members n apart ∙ h.fresh; unslotted = keeps.slots n apart ∙ h.unslotted }
  stands_as (IsPending d) n steps apart later h = record { fresh = keeps.members n apart ∙ h.fresh; later = later tt h.later; idle = h.idle }
  stands_as (IsLive d snapshot) n steps apart later h = record {
    member = keeps.members n apart ∙ h.member;
    slotted = keeps.slots n apart ∙ h.slotted;
    taken = h.taken ∙ ap (λ ms. serial (agenda_from [] ms)) (sym (keeps.until n h.slotted));
    now = h.now ∙ sym (keeps.passing n apart h.slotted h.member);
    inside = h.inside;
  }

  pub stands_on : (o : Active) → k ≢ o.number → (IsPendingKind o.kind → StaysLater moves moves' o.number) → Stands agenda moves o → Stands agenda' moves' o
  stands_on o apart later h = stands_as o.kind o.number o.steps apart later h

pub no_live : (kind : Kind) (b : Bool) → b ≡ false → if_live kind b ≡ false
no_live IsShort b e = refl
no_live (IsPending d) b e = refl
no_live (IsLive d snapshot) b e = e

pub other_live : (n : ℕ) (o : Active) → o.number ≢ n → is_live_as n o ≡ false
other_live n o apart = no_live o.kind (o.number == n) (ne_eqb o.number n apart)

pub any_without : {A : Type 0} (p test : A → Bool) (xs : List A) (o : A) → find test xs ≡ Some o → p o ≡ false → list_any p (without_first test xs) ≡ list_any p xs
any_without p test [] o e fails = refl
any_without p test (x ∷ xs) o e fails = by_test (test x) e (any_without p test xs o) where
  by_test : (b : Bool) → cond b (Some x) (find test xs) ≡ Some o → (find test xs ≡ Some o → p o ≡ false → list_any p (without_first test xs) ≡ list_any p xs)
      → list_any p (cond b xs (x ∷ without_first test xs)) ≡ (p x || list_any p xs)
  by_test true is later = let same : x ≡ o = some_same is in let none : p x ≡ false = ap p same ∙ fails in sym (ap (λ b. b || list_any p xs) none)
  by_test false is later = ap (λ b. p x || b) (later is fails)

-- the transaction that is open in a session, and the others
module _ (active : List Active) (session : ℕ) (o : Active) (is : find (is_of session) active ≡ Some o) where
  -- a member with another number is known as before
  pub known_on : (moves moves' : List Timed) → ((n : ℕ) → o.number ≢ n → has_slot moves' n ≡ has_slot moves n) → ((n : ℕ) → o.number ≢ n → is_forwarded moves' n ≡ is_forwarded moves n)
      → (m : Member) → number_of m ≢ o.number → IsKnown active moves m → IsKnown (without_first (is_of session) active) moves' m
  known_on moves moves' slots forward (LiveSlot n) apart known =
      let other : o.number ≢ n = λ e. apart (sym e) in
      record {
        live = any_without (is_live_as n) (is_of session) active o is (other_live n o other) ∙ known.live;
        slotted = slots n other ∙ known.slotted;
        unforwarded = forward n other ∙ known.unforwarded;
      }
  known_on moves moves' slots forward (Committed t) apart known = all_without (λ u. u.number ≢ t.number) (is_of session) active known

  pub others_rising : IsPairwise (λ a b. a.number < b.number) active → AllByRecursion (λ u. o.number ≢ u.number) (without_first (is_of session) active)
  others_rising rising = others_apart (λ a b. a.number < b.number) (λ x y. x.number ≢ y.number)
      (λ x y lt e. let no : ⊥ = omega arith in no) (λ x y lt e. let no : ⊥ = omega arith in no) (is_of session) active o rising is

  -- no committed member has its number
  pub others_committed : (moves : List Timed) (m : Member) → IsKnown active moves m → IsOther o.number m
  others_committed moves (LiveSlot n) known = tt
  others_committed moves (Committed t) known = λ e. all_find (λ u. u.number ≢ t.number) (is_of session) active o known is (sym e)

pub opens_less : (base : Base) (last : ℕ) (active : List Active) (test : Active → Bool) → AreOpen base last active → AreOpen base last (without_first test active)
opens_less base last active test opens = record {
  above = all_without (λ o. base.last < o.number) test active opens.above;
  bound = all_without (λ o. o.number ≤ last) test active opens.bound;
  rising = pairs_without (λ a b. a.number < b.number) test active opens.rising;
  sessions = pairs_without (λ a b. a.session ≢ b.session) test active opens.sessions;
}

-- of two numbers one stands before the other as it did
pub before_on : (moves moves' : List Timed) (a b : ℕ) → has_slot moves' a ≡ has_slot moves a → has_slot moves' b ≡ has_slot moves b → (is_forwarded moves a ≡ true → is_forwarded moves' a ≡ true) → IsBefore moves a b → IsBefore moves' a b
before_on moves moves' a b sa sb forward h = record { apart = h.apart; elder = λ ha hb lt. forward (h.elder (sym sa ∙ ha) (sym sb ∙ hb) lt) }

-- commits
pub commits_push : (moves : List Timed) (m : Timed) (t : Transaction) → commit_of m.move ≡ Some t → commits_of (moves ++ m ∷ []) ≡ commits_of moves ++ t ∷ []
commits_push moves m t e = given_append (λ x. commit_of x.move) moves (m ∷ []) ∙ rw e refl

pub commits_none : (moves : List Timed) (m : Timed) → commit_of m.move ≡ None → commits_of (moves ++ m ∷ []) ≡ commits_of moves
commits_none moves m e = given_append (λ x. commit_of x.move) moves (m ∷ []) ∙ rw e (append_nothing (commits_of moves)) where
  append_nothing : (ts : List Transaction) → ts ++ [] ≡ ts
  append_nothing [] = refl
  append_nothing (t ∷ ts) = ap (λ l. t ∷ l) (append_nothing ts)
