-- The floor over histories: targets stand from it on, and the members before it stay first.
use Rattle.std.proofs.Common.{◌≡◌, ◌⊎◌, inl, inr, ℕ, Bool, true, false, cond, List, [], ◌∷◌, ◌++◌, Contains, Option, Some, None, option_map, refl, sym, ap, ◌∙◌, subst, append_assoc, append-nil}
use Rattle.std.proofs.lemmas.Bool.{both_ways, eq-eqb}
use Rattle.std.specs.List.{find, AllByRecursion}
use Rattle.ltx_model.specs.declared.commands.Line.{Line}
use Rattle.ltx_model.specs.declared.replies.Entry.{Entry}
use Rattle.ltx_model.specs.Lists.{before_first, from_first}
use Rattle.ltx_model.specs.Operations.{Transaction}
use Rattle.ltx_model.specs.Agenda.{Member, number_of, has_number, is_member, serial, part_before, part_from}
use Rattle.ltx_model.specs.States.{Kind, IsShort, IsPending, IsLive, Active, transaction_of, Base, IsSound, State, LiveBatch, as_live, live_batches, first_state}
use Rattle.ltx_model.specs.Histories.{after, state, state_from}
use Rattle.ltx_model.specs.Answers.{IsLegalFrom, IsLegalWith}
use Rattle.ltx_model.specs.Batches.{target, is_from, counts_for_floor, floor, before_floor, safe}
use Rattle.ltx_model.proofs.OneMore.{state-append, legal-parts}
use Rattle.ltx_lemmas.specs.Places.{AreApart}
use Rattle.ltx_lemmas.proofs.Lists.{none_some, some_same, all_contains, any_contains, given_item, find_splits, before_fails, parts_join, contains_parts, before_within, from_past}
use Rattle.ltx_lemmas.proofs.Serials.{serial_append, serial_is_member}
use Rattle.ltx_laws.specs.Structure.{Structure}
use Rattle.ltx_laws.specs.Orders.{IsPrefix}
use Rattle.ltx_laws.proofs.Transitions.{live_of, entry_case}
use Rattle.ltx_laws.proofs.Structures.{structure_after, structure_of}
use Rattle.ltx_laws.proofs.ReadsPlaces.{front_fails}
use Rattle.ltx_laws.proofs.ReadsKept.{apart_members}
use Rattle.ltx_laws.proofs.FloorSteps.{target_counts, floor_cases}

pub prefix_trans : {A : Type 0} (xs ys zs : List A) → IsPrefix xs ys → IsPrefix ys zs → IsPrefix xs zs
prefix_trans xs ys zs p q = record { rest = p.rest ++ q.rest; parts = q.parts ∙ ap (λ l. l ++ q.rest) p.parts ∙ append_assoc xs p.rest q.rest }

prefix_serial : (ms ns : List Member) → IsPrefix ms ns → IsPrefix (serial ms) (serial ns)
prefix_serial ms ns p = record { rest = serial p.rest; parts = ap serial p.parts ∙ serial_append ms p.rest }

-- along a legal history
floor_from : (built : State → Line → Bool) (base : Base) (s : State) (history : List Entry) → Structure base s → IsLegalFrom built s history → IsPrefix (before_floor s) (before_floor (state_from s history))
unfolding IsLegalFrom state_from
floor_from built base s [] structure legal = record { rest = []; parts = sym (append-nil (before_floor s)) }
floor_from built base s (entry ∷ entries) structure legal =
    prefix_trans (before_floor s) (before_floor (after s entry)) (before_floor (state_from (after s entry) entries))
    (entry_case s (λ line reply s'. IsPrefix (before_floor s) (before_floor s')) (floor_cases base s structure) built entry legal.0)
    (floor_from built base (after s entry) entries (structure_after built base s entry structure legal.0) legal.1)

pub floor_over : (built : State → Line → Bool) (base : Base) (history more : List Entry) → IsSound base → IsLegalWith built base (history ++ more) → IsPrefix (before_floor (state base history)) (before_floor (state base (history ++ more)))
floor_over built base history more sound legal =
    let parts = legal-parts built (first_state base) history more legal in
    subst (λ s. IsPrefix (before_floor (state base history)) (before_floor s)) (sym (state-append (first_state base) history more))
    (floor_from built base (state base history) more (structure_of built base history parts.0) parts.1)

-- an agenda begins with its members before the floor
floor_first : (s : State) → IsPrefix (before_floor s) s.agenda
floor_first s = record { rest = from_first (counts_for_floor s) s.agenda; parts = sym (parts_join (counts_for_floor s) s.agenda) }

pub agenda_over : (built : State → Line → Bool) (base : Base) (history more : List Entry) → IsSound base → IsLegalWith built base (history ++ more) → IsPrefix (before_floor (state base history)) (state base (history ++ more)).agenda
agenda_over built base history more sound legal =
    prefix_trans (before_floor (state base history)) (before_floor (state base (history ++ more))) (state base (history ++ more)).agenda (floor_over built base history more sound legal) (floor_first (state base (history ++ more)))

-- the members before one of a first part are those of that part
part_of_prefix : (ms ns : List Member) (n : ℕ) → is_member ms n ≡ true → IsPrefix ms ns → part_before n ns ≡ part_before n ms
part_of_prefix ms ns n here p = ap (part_before n) p.parts ∙ before_within (has_number n) ms p.rest here

-- A committed member before the floor has the same members before it in each longer history.
pub predecessors_over : (built : State → Line → Bool) (base : Base) (history more : List Entry) → IsSound base → IsLegalWith built base (history ++ more)
    → (t : Transaction) → Contains (safe (state base history)) t → part_before t.number (state base (history ++ more)).agenda ≡ part_before t.number (state base history).agenda
predecessors_over built base history more sound legal t here =
    let front = before_floor (state base history) in
    let member : is_member front t.number ≡ true = serial_is_member front t here in
    part_of_prefix front (state base (history ++ more)).agenda t.number member (agenda_over built base history more sound legal) ∙ sym (part_of_prefix front (state base history).agenda t.number member (floor_first (state base history)))

pub safe_over : (built : State → Line → Bool) (base : Base) (history more : List Entry) → IsSound base → IsLegalWith built base (history ++ more) → IsPrefix (safe (state base history)) (safe (state base (history ++ more)))
safe_over built base history more sound legal = prefix_serial (before_floor (state base history)) (before_floor (state base (history ++ more))) (floor_over built base history more sound legal)

pub safe_in_order : (built : State → Line → Bool) (base : Base) (history more : List Entry) → IsSound base → IsLegalWith built base (history ++ more) → IsPrefix (safe (state base history)) (serial (state base (history ++ more)).agenda)
safe_in_order built base history more sound legal = prefix_serial (before_floor (state base history)) (state base (history ++ more)).agenda (agenda_over built base history more sound legal)

-- a live batch is an open one
pub open_live : (k : Kind) (o : Active) (b : LiveBatch) → as_live k (transaction_of o) ≡ Some b → (k ≡ IsLive b.declared b.snapshot) × (live_of o b.declared b.snapshot ≡ b)
open_live IsShort o b e = absurd (none_some e)
open_live (IsPending d) o b e = absurd (none_some e)
open_live (IsLive d snapshot) o b e =
    let same : live_of o d snapshot ≡ b = some_same e in
    ((λ i. IsLive (same i).declared (same i).snapshot), (λ i. live_of o (sym same i).declared (sym same i).snapshot) ∙ same)

pub floor_is : (o : Option Member) (f : ℕ) → option_map number_of o ≡ Some f → (m : Member) × (o ≡ Some m) × (number_of m ≡ f)
floor_is None f e = absurd (none_some e)
floor_is (Some m) f e = (m, refl, some_same e)

-- Each target of a live batch is the floor or stands after it.
from_floor : (base : Base) (s : State) → Structure base s → (batch : LiveBatch) → Contains (live_batches s) batch → (f p : ℕ) → floor s ≡ Some f → target s batch ≡ Some p → is_from s f p ≡ true
from_floor base s structure batch live f p floors aim =
    let (o, there, is) = given_item (λ o. as_live o.kind (transaction_of o)) s.active batch live in
    let (kind, same) = open_live o.kind o batch is in
    let (x, here, counts, number) = target_counts base s structure o batch.declared batch.snapshot there kind p (ap (target s) same ∙ aim) in
    let (m, found, first) = floor_is (find (counts_for_floor s) s.agenda) f floors in
    let (rest, whole, from) = find_splits (counts_for_floor s) s.agenda m found in
    let front = before_first (counts_for_floor s) s.agenda in
    let part : part_from f s.agenda ≡ part_from f (m ∷ rest) = ap (part_from f) whole ∙ from_past (has_number f) front (m ∷ rest) (subst (λ n. AllByRecursion (λ y. has_number n y ≡ false) front) first (front_fails front m rest (subst AreApart whole (apart_members base s structure)))) in
    let start : part_from f (m ∷ rest) ≡ m ∷ rest = ap (λ b. cond b (m ∷ rest) (part_from f rest)) (eq-eqb (number_of m) f first) in
    let place : Contains (m ∷ rest) x = by_part x counts front (m ∷ rest) (before_fails (counts_for_floor s) s.agenda) (contains_parts front (m ∷ rest) x (subst (λ l. Contains l x) whole here)) in
    ap (λ l. is_member l p) (part ∙ start) ∙ any_contains (has_number p) (m ∷ rest) x place (eq-eqb (number_of x) p number) where
      by_part : (x : Member) → counts_for_floor s x ≡ true → (xs ys : List Member) → AllByRecursion (λ y. counts_for_floor s y ≡ false) xs → Contains xs x ⊎ Contains ys x → Contains ys x
      by_part x counts xs ys fails (inl c) = absurd (both_ways (counts_for_floor s x) (all_contains (λ y. counts_for_floor s y ≡ false) xs x fails c) counts)
      by_part x counts xs ys fails (inr c) = c

pub targets_over : (built : State → Line → Bool) (base : Base) (history : List Entry) → IsSound base → IsLegalWith built base history
    → (batch : LiveBatch) → Contains (live_batches (state base history)) batch → (f p : ℕ) → floor (state base history) ≡ Some f → target (state base history) batch ≡ Some p → is_from (state base history) f p ≡ true
targets_over built base history sound legal = from_floor base (state base history) (structure_of built base history legal)
