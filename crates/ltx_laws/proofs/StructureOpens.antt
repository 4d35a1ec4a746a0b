-- The structure after a transaction begins, after an operation is answered, and after a flush.
use Rattle.std.proofs.Common.{◌≡◌, ◌≢◌, ℕ, ◌+◌, ◌<◌, ◌≤◌, Bool, true, false, cond, ◌||◌, List, [], ◌∷◌, ◌++◌, nat_lt, Some, None, refl, sym, ap, ◌∙◌, subst, eq-eqb, arith}
use Rattle.std.specs.List.{list_any, AllByRecursion}
use Rattle.ltx_model.specs.declared.commands.Op.{Op}
use Rattle.ltx_model.specs.declared.replies.Reply.{Reply}
use Rattle.ltx_model.specs.Lists.{change_first}
use Rattle.ltx_model.specs.Operations.{Transaction}
use Rattle.ltx_model.specs.Agenda.{Member, LiveSlot, Committed, number_of, is_member, serial, has_slot}
use Rattle.ltx_model.specs.States.{Declaration, Kind, IsShort, IsPending, IsLive, Step, Active, Base, State, is_of, active_of, latest}
use Rattle.ltx_model.specs.Histories.{begun, with_step, answered, durable_if, made_durable}
use Rattle.ltx_model.specs.Answers.{refusal}
use Rattle.ltx_laws.specs.Structure.{is_live_as, IsKnown, StandsAs, Stands, Structure}
use Rattle.ltx_lemmas.proofs.Lists.{all_map, all_push, all_change, find_none, without_nothing, some_same, true_false}
use Rattle.ltx_laws.proofs.Pairs.{all_both, pairs_push, pairs_change}
use Rattle.ltx_laws.proofs.Agendas.{any_kept, member_not}

module _ (base : Base) (s : State) (inv : Structure base s) where
  -- a number above the last one is new
  above_last : (m : Member) → number_of m ≤ s.last → number_of m ≢ s.last + 1
  above_last m h e = let none : ⊥ = omega arith in none

  pub new_number : is_member s.agenda (s.last + 1) ≡ false
  new_number = member_not s.agenda (s.last + 1) (all_map (λ m. number_of m ≤ s.last) (λ m. number_of m ≢ s.last + 1) above_last s.agenda inv.members.bound)

  pub new_slot : has_slot s.moves (s.last + 1) ≡ false
  new_slot = by_test (has_slot s.moves (s.last + 1)) refl where
    by_test : (b : Bool) → has_slot s.moves (s.last + 1) ≡ b → has_slot s.moves (s.last + 1) ≡ false
    by_test true is = absurd (let h : s.last + 1 ≤ s.last = inv.slots.bound (s.last + 1) is in let none : ⊥ = omega arith in none)
    by_test false is = is

  -- a new transaction after these open ones
  abbrev with_new : Kind → ℕ → List Active → State
  with_new kind session l = record { base = s.base; epoch = s.epoch; durable = s.durable; last = s.last + 1; gate = s.gate; active = l ++ record { session = session; kind = kind; number = s.last + 1; steps = [] } ∷ []; agenda = s.agenda; moves = s.moves }

  -- a transaction begins
  pub begun_structure : (kind : Kind) (session : ℕ) → active_of s session ≡ None → StandsAs s.agenda s.moves kind (s.last + 1) [] → Structure base (begun s kind (s.last + 1) session)
  begun_structure kind session none stands = subst (λ l. Structure base (with_new kind session l)) (sym (without_nothing (is_of session) s.active none)) grown where
    up : (n : ℕ) → n ≤ s.last → n ≤ s.last + 1
    up n h = omega arith

    known : (m : Member) → number_of m ≤ s.last → IsKnown s.active s.moves m → IsKnown (with_new kind session s.active).active s.moves m
    known (LiveSlot n) bound h = record { live = any_kept (is_live_as n) s.active (record { session = session; kind = kind; number = s.last + 1; steps = [] } ∷ []) h.live; slotted = h.slotted; unforwarded = h.unforwarded }
    known (Committed t) bound h = all_push (λ (u : Active). u.number ≢ t.number) s.active (record { session = session; kind = kind; number = s.last + 1; steps = [] }) h (λ e. let none : ⊥ = omega arith in none)

    grown : Structure base (with_new kind session s.active)
    grown =
        let own : s.last + 1 ≤ s.last + 1 = omega arith in
        let low : base.last ≤ s.last = inv.last in
        let above : base.last < s.last + 1 = omega arith in
        let last : base.last ≤ s.last + 1 = omega arith in
        let o : Active = record { session = session; kind = kind; number = s.last + 1; steps = [] } in
        record {
          rows = inv.rows;
          last = last;
          opens = record {
            above = all_push (λ u. base.last < u.number) s.active o inv.opens.above above;
            bound = all_push (λ u. u.number ≤ s.last + 1) s.active o (all_map (λ u. u.number ≤ s.last) (λ u. u.number ≤ s.last + 1) (λ u. up u.number) s.active inv.opens.bound) own;
            rising = pairs_push (λ a b. a.number < b.number) s.active o (all_map (λ u. u.number ≤ s.last) (λ u. u.number < s.last + 1) (λ u h. let less : u.number < s.last + 1 = omega arith in less) s.active inv.opens.bound) inv.opens.rising;
            sessions = pairs_push (λ a b. a.session ≢ b.session) s.active o
                (all_map (λ u. is_of session u ≡ false) (λ u. u.session ≢ session) (λ u h e. true_false (sym (eq-eqb u.session session e) ∙ h)) s.active (find_none (is_of session) s.active none)) inv.opens.sessions;
          };
          slots = record { bound = λ n e. up n (inv.slots.bound n e); forwarded = inv.slots.forwarded };
          moves = inv.moves;
          members = record {
            above = inv.members.above;
            bound = all_map (λ m. number_of m ≤ s.last) (λ m. number_of m ≤ s.last + 1) (λ m. up (number_of m)) s.agenda inv.members.bound;
            known = all_both (λ m. number_of m ≤ s.last) (IsKnown s.active s.moves) (IsKnown (with_new kind session s.active).active s.moves) known s.agenda inv.members.bound inv.members.known;
          };
          order = inv.order;
          stands = all_push (Stands s.agenda s.moves) s.active o inv.stands stands;
          committed = inv.committed;
        }

  pub begun_short_structure : (session : ℕ) → active_of s session ≡ None → Structure base (begun s IsShort (s.last + 1) session)
  begun_short_structure session none = begun_structure IsShort session none (record { fresh = new_number; unslotted = new_slot })

  pub begun_batch_structure : (d : Declaration) (session : ℕ) → active_of s session ≡ None → Structure base (begun s (IsPending d) (s.last + 1) session)
  begun_batch_structure d session none = begun_structure (IsPending d) session none
      (record { fresh = new_number; later = λ k e. (let h : k ≤ s.last = inv.slots.bound k e in let less : k < s.last + 1 = omega arith in less); idle = refl })

  any_change : (p test : Active → Bool) (f : Active → Active) → ((x : Active) → p (f x) ≡ p x) → (xs : List Active) → list_any p (change_first test f xs) ≡ list_any p xs
  any_change p test f same [] = refl
  any_change p test f same (x ∷ xs) = by_test (test x) (any_change p test f same xs) where
    by_test : (b : Bool) → list_any p (change_first test f xs) ≡ list_any p xs → list_any p (cond b (f x ∷ xs) (x ∷ change_first test f xs)) ≡ (p x || list_any p xs)
    by_test true rest = ap (λ b. b || list_any p xs) (same x)
    by_test false rest = ap (λ b. p x || b) rest

  -- an operation is answered, which a short or a live batch inside its declarations asked
  pub answered_structure : (op : Op) (reply : Reply) (session : ℕ) (o : Active) → active_of s session ≡ Some o
      → (Stands s.agenda s.moves o → Stands s.agenda s.moves (with_step (record { op = op; reply = reply; order = serial s.agenda; latest = latest s }) o)) → Structure base (answered s op reply session)
  answered_structure op reply session o is stands =
      let step : Step = record { op = op; reply = reply; order = serial s.agenda; latest = latest s } in
      let f : Active → Active = with_step step in
      let changed : (P : ℕ → Type 0) → AllByRecursion (λ (u : Active). P u.number) s.active → AllByRecursion (λ (u : Active). P u.number) (change_first (is_of session) f s.active)
      = λ P all. all_change (λ (u : Active). P u.number) (λ (u : Active). P u.number) (is_of session) f s.active (λ u p. p) (λ u e p. p) all in
      record {
        rows = inv.rows;
        last = inv.last;
        opens = record {
          above = changed (λ n. base.last < n) inv.opens.above;
          bound = changed (λ n. n ≤ s.last) inv.opens.bound;
          rising = pairs_change (λ a b. a.number < b.number) (is_of session) f (λ x y r. r) (λ x y r. r) s.active inv.opens.rising;
          sessions = pairs_change (λ a b. a.session ≢ b.session) (is_of session) f (λ x y r. r) (λ x y r. r) s.active inv.opens.sessions;
        };
        slots = inv.slots;
        moves = inv.moves;
        members = record {
          above = inv.members.above;
          bound = inv.members.bound;
          known = all_map (IsKnown s.active s.moves) (IsKnown (change_first (is_of session) f s.active) s.moves) (known step) s.agenda inv.members.known;
        };
        order = inv.order;
        stands = all_change (Stands s.agenda s.moves) (Stands s.agenda s.moves) (is_of session) f s.active (λ u h. h)
            (λ u found h. subst (λ v. Stands s.agenda s.moves v → Stands s.agenda s.moves (f v)) (some_same (sym is ∙ found)) stands h) inv.stands;
        committed = inv.committed;
      } where
        known : (step : Step) (m : Member) → IsKnown s.active s.moves m → IsKnown (change_first (is_of session) (with_step step) s.active) s.moves m
        known step (LiveSlot n) h = record { live = any_change (is_live_as n) (is_of session) (with_step step) (λ u. refl) s.active ∙ h.live; slotted = h.slotted; unforwarded = h.unforwarded }
        known step (Committed t) h = all_change (λ (u : Active). u.number ≢ t.number) (λ (u : Active). u.number ≢ t.number) (is_of session) (with_step step) s.active (λ u p. p) (λ u e p. p) h

  pub answered_short_structure : (op : Op) (reply : Reply) (session : ℕ) (o : Active) → active_of s session ≡ Some o → o.kind ≡ IsShort → Structure base (answered s op reply session)
  answered_short_structure op reply session o is kind = answered_structure op reply session o is
      (subst (λ k. StandsAs s.agenda s.moves k o.number o.steps → StandsAs s.agenda s.moves k o.number (o.steps ++ record { op = op; reply = reply; order = serial s.agenda; latest = latest s } ∷ [])) (sym kind) (λ h. h))

  pub answered_batch_structure : (op : Op) (reply : Reply) (session : ℕ) (o : Active) (d : Declaration) (snapshot : List Transaction) → active_of s session ≡ Some o → o.kind ≡ IsLive d snapshot → refusal d op ≡ None → Structure base (answered s op reply session)
  answered_batch_structure op reply session o d snapshot is kind inside =
      let step : Step = record { op = op; reply = reply; order = serial s.agenda; latest = latest s } in
      answered_structure op reply session o is
      (subst (λ k. StandsAs s.agenda s.moves k o.number o.steps → StandsAs s.agenda s.moves k o.number (o.steps ++ step ∷ [])) (sym kind)
      (λ h. record { member = h.member; slotted = h.slotted; taken = h.taken; now = h.now; inside = all_push (λ (b : Step). refusal d b.op ≡ None) o.steps step h.inside inside }))

  pub durable_structure : (epoch : ℕ) → Structure base (made_durable s epoch)
  durable_structure epoch = by_test (nat_lt s.durable epoch) where
    by_test : (b : Bool) → Structure base (durable_if b s epoch)
    by_test false = inv
    by_test true = record { rows = inv.rows; last = inv.last; opens = inv.opens; slots = inv.slots; moves = inv.moves; members = inv.members; order = inv.order; stands = inv.stands; committed = inv.committed }
