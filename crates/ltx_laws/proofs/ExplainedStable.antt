-- A later order has the members of an earlier one in the same relation.
use Rattle.std.proofs.Common.{◌≡◌, ◌≢◌, ℕ, ◌+◌, Bool, true, false, cond, ◌||◌, ◌==◌, nat_lt, List, [], ◌∷◌, ◌++◌, map, filter, Contains, Some, refl, sym, ap, ◌∙◌, subst, append-nil}
use Rattle.std.proofs.lemmas.Bool.{ne_eqb, eq-eqb, or_right, both_ways}
use Rattle.std.proofs.lemmas.List.{map-append}
use Rattle.std.specs.List.{list_any, AllByRecursion}
use Rattle.ltx_model.specs.declared.commands.Line.{Line}
use Rattle.ltx_model.specs.declared.replies.Entry.{Entry}
use Rattle.ltx_model.specs.Lists.{before_first}
use Rattle.ltx_model.specs.Operations.{Transaction}
use Rattle.ltx_model.specs.Agenda.{Committed, serial, part_before, part_from, CommitShort, CommitHome, CommitBefore}
use Rattle.ltx_model.specs.States.{Kind, IsShort, IsPending, IsLive, Active, transaction_of, Base, IsSound, State, first_state, is_of, active_of, order}
use Rattle.ltx_model.specs.Histories.{after, state_from, state, closed, moved, left, ended, in_epoch, advanced, durable_if, made_durable}
use Rattle.ltx_model.specs.Answers.{IsLegalFrom, IsLegalWith}
use Rattle.ltx_model.proofs.OneMore.{state-append, legal-parts}
use Rattle.ltx_lemmas.specs.Places.{is_before}
use Rattle.ltx_lemmas.proofs.Lists.{true_false, all_find, all_from, all_contains, any_contains, any_not, any_none, filter_append, filter_all, filter_item, map_item}
use Rattle.ltx_lemmas.proofs.Members.{before_member, before_self}
use Rattle.ltx_lemmas.proofs.Serials.{serial_member, serial_push, serial_parts, serial_home, serial_before, serial_without}
use Rattle.ltx_laws.specs.Structure.{IsKnown, Structure}
use Rattle.ltx_laws.specs.Orders.{StandsBefore}
use Rattle.ltx_laws.proofs.Transitions.{Cases, entry_case}
use Rattle.ltx_laws.proofs.Structures.{structure_after, structure_of}
use Rattle.ltx_laws.proofs.ReadsKept.{apart_members, live_slot, slots_serial}
use Rattle.ltx_laws.proofs.Explained.{AreAhead, are_ahead}

any_between : (a : ℕ) (xs : List ℕ) (x : ℕ) (ys : List ℕ) → list_any (λ n. n == a) (xs ++ ys) ≡ true → list_any (λ n. n == a) (xs ++ x ∷ ys) ≡ true
any_between a [] x ys e = or_right (x == a) (list_any (λ n. n == a) ys) e
any_between a (z ∷ xs) x ys e = by_test (z == a) e (any_between a xs x ys) where
  by_test : (b : Bool) → (b || list_any (λ n. n == a) (xs ++ ys)) ≡ true → (list_any (λ n. n == a) (xs ++ ys) ≡ true → list_any (λ n. n == a) (xs ++ x ∷ ys) ≡ true) → (b || list_any (λ n. n == a) (xs ++ x ∷ ys)) ≡ true
  by_test true h later = refl
  by_test false h later = later h

-- one more number between two parts leaves the others as they stood
before_between : (a b : ℕ) (xs : List ℕ) (x : ℕ) (ys : List ℕ) → x ≢ b → list_any (λ n. n == a) (before_first (λ n. n == b) (xs ++ ys)) ≡ true → list_any (λ n. n == a) (before_first (λ n. n == b) (xs ++ x ∷ ys)) ≡ true
before_between a b [] x ys other e =
    ap (λ t. list_any (λ n. n == a) (cond t [] (x ∷ before_first (λ n. n == b) ys))) (ne_eqb x b other) ∙ or_right (x == a) (list_any (λ n. n == a) (before_first (λ n. n == b) ys)) e
before_between a b (z ∷ xs) x ys other e = by_tests (z == b) (z == a) e (before_between a b xs x ys other) where
  by_tests : (t u : Bool) → list_any (λ n. n == a) (cond t [] (z ∷ before_first (λ n. n == b) (xs ++ ys))) ≡ true
      → (list_any (λ n. n == a) (before_first (λ n. n == b) (xs ++ ys)) ≡ true → list_any (λ n. n == a) (before_first (λ n. n == b) (xs ++ x ∷ ys)) ≡ true)
      → list_any (λ n. n == a) (cond t [] (z ∷ before_first (λ n. n == b) (xs ++ x ∷ ys))) ≡ true
  by_tests true u h later = absurd (true_false (sym h))
  by_tests false u h later = by_own (z == a) h where
    by_own : (o : Bool) → (o || list_any (λ n. n == a) (before_first (λ n. n == b) (xs ++ ys))) ≡ true → (o || list_any (λ n. n == a) (before_first (λ n. n == b) (xs ++ x ∷ ys))) ≡ true
    by_own true h = refl
    by_own false h = later h

pub stands_between : (a b : ℕ) (xs : List ℕ) (x : ℕ) (ys : List ℕ) → x ≢ b → StandsBefore (xs ++ ys) a b → StandsBefore (xs ++ x ∷ ys) a b
stands_between a b xs x ys other h = record { member = any_between b xs x ys h.member; before = before_between a b xs x ys other h.before }

-- the members of an earlier order among those of a later one: one more between two parts is none of them
filter_between : (p : ℕ → Bool) (xs : List ℕ) (x : ℕ) (ys : List ℕ) → p x ≡ false → filter p (xs ++ x ∷ ys) ≡ filter p (xs ++ ys)
filter_between p xs x ys out =
    filter_append p xs (x ∷ ys) ∙ ap (λ b. filter p xs ++ cond b (x ∷ filter p ys) (filter p ys)) out ∙ sym (filter_append p xs ys)

-- a later order: cut to the members of the earlier one it is the earlier one
abbrev pub IsWithin : List ℕ → List ℕ → Type 0
IsWithin old new = filter (λ n. list_any (λ m. m == n) old) new ≡ old

within_between : (old xs : List ℕ) (x : ℕ) (ys : List ℕ) → list_any (λ m. m == x) (xs ++ ys) ≡ false → IsWithin old (xs ++ ys) → IsWithin old (xs ++ x ∷ ys)
within_between old xs x ys new h = filter_between (λ n. list_any (λ m. m == n) old) xs x ys (any_none (λ m. m == x) old fails) ∙ h where
  fails : (m : ℕ) → Contains old m → (m == x) ≡ false
  fails m c = any_not (λ m. m == x) (xs ++ ys) m new (filter_item (λ n. list_any (λ m. m == n) old) (xs ++ ys) m (subst (λ l. Contains l m) (sym h) c)).0

pub within_itself : (ns : List ℕ) → IsWithin ns ns
within_itself ns = filter_all (λ n. list_any (λ m. m == n) ns) ns (all_from (λ n. list_any (λ m. m == n) ns ≡ true) ns (λ n c. any_contains (λ m. m == n) ns n c (eq-eqb n n refl)))

-- what a commit keeps of an order of numbers
pub record IsKept (P : List ℕ → Type 0) : Type 0 where
  pub between : (xs : List ℕ) (x : ℕ) (ys : List ℕ) → list_any (λ m. m == x) (xs ++ ys) ≡ false → P (xs ++ ys) → P (xs ++ x ∷ ys)

pub stands_kept : (a b : ℕ) → IsKept (λ ns. StandsBefore ns a b)
stands_kept a b = record { between = λ xs x ys new h. stands_between a b xs x ys (λ same. both_ways (list_any (λ n. n == b) (xs ++ ys)) (subst (λ n. list_any (λ m. m == n) (xs ++ ys) ≡ false) same new) h.member) h }

pub within_kept : (old : List ℕ) → IsKept (IsWithin old)
within_kept old = record { between = within_between old }

module _ (base : Base) (s : State) (structure : Structure base s) (P : List ℕ → Type 0) (kept : IsKept P) (h : P (order s)) where
  -- the number of an open transaction is none of the order's
  is_new : (session : ℕ) (o : Active) → active_of s session ≡ Some o → list_any (λ m. m == o.number) (order s) ≡ false
  is_new session o is = any_none (λ m. m == o.number) (order s) (λ n here.
      let (t, there, its) = map_item (λ (t : Transaction). t.number) (serial s.agenda) n here in
      let known : AllByRecursion (λ u. u.number ≢ t.number) s.active = all_contains (IsKnown s.active s.moves) s.agenda (Committed t) structure.members.known (serial_member s.agenda t there) in
      ne_eqb n o.number (λ same. all_find (λ u. u.number ≢ t.number) (is_of session) s.active o known is (sym same ∙ sym its)))

  -- the order with one more between its parts
  with_one : (after : State) (t : Transaction) (front back : List Transaction) → list_any (λ m. m == t.number) (order s) ≡ false → serial s.agenda ≡ front ++ back → serial after.agenda ≡ front ++ t ∷ back → P (order after)
  with_one after t front back new before now =
      let fronts : List ℕ = map (λ (u : Transaction). u.number) front in
      let backs : List ℕ = map (λ (u : Transaction). u.number) back in
      let old : order s ≡ fronts ++ backs = ap (map (λ (u : Transaction). u.number)) before ∙ map-append (λ (u : Transaction). u.number) front back in
      let more : order after ≡ fronts ++ t.number ∷ backs = ap (map (λ (u : Transaction). u.number)) now ∙ map-append (λ (u : Transaction). u.number) front (t ∷ back) in
      subst P (sym more) (kept.between fronts t.number backs (subst (λ l. list_any (λ m. m == t.number) l ≡ false) old new) (subst P old h))

  same_order : (after : State) → serial after.agenda ≡ serial s.agenda → P (order after)
  same_order after e = subst (λ ts. P (map (λ (t : Transaction). t.number) ts)) (sym e) h

  ended_order : (session : ℕ) (o : Active) → active_of s session ≡ Some o → P (order (ended s o session))
  ended_order session o is = by_kind o.kind refl where
    by_kind : (k : Kind) → o.kind ≡ k → P (order (left (closed s session) k o.number))
    by_kind IsShort kind = h
    by_kind (IsPending d) kind = h
    by_kind (IsLive d snapshot) kind = same_order (left (closed s session) (IsLive d snapshot) o.number) (serial_without o.number s.agenda (apart_members base s structure) (live_slot base s structure session o d snapshot is kind))

  durable_order : (epoch : ℕ) → P (order (made_durable s epoch))
  durable_order epoch = by_test (nat_lt s.durable epoch) where
    by_test : (c : Bool) → P (order (durable_if c s epoch))
    by_test true = h
    by_test false = h

  pub stable_cases : AreAhead s → Cases s (λ line reply after. P (order after))
  stable_cases ahead = record {
    nothing = λ line reply leaves. h;
    begins_short = λ session none. h;
    begins_long = λ session writes reads none. h;
    answers_short = λ session op o reply is kind free sees answers. h;
    answers_batch = λ session op o d snapshot reply is kind free sees answers. h;
    commits_short = λ session o is kind free unchanged. with_one (moved (closed s session) s.epoch (CommitShort (transaction_of o))) (transaction_of o) (serial s.agenda) [] (is_new session o is) (sym (append-nil (serial s.agenda))) (serial_push s.agenda (transaction_of o));
    commits_home = λ session o d snapshot is kind none. with_one (moved (closed s session) s.epoch (CommitHome (transaction_of o))) (transaction_of o) (serial (part_before o.number s.agenda)) (serial (part_from o.number s.agenda)) (is_new session o is)
        (sym (serial_parts o.number s.agenda)) (serial_home (transaction_of o) s.agenda (apart_members base s structure) (live_slot base s structure session o d snapshot is kind));
    commits_before = λ session o d snapshot p is kind aim free elder. (
        let before = ahead session o d snapshot p is kind aim in
        let other : p ≢ o.number = λ same. both_ways (is_before s.agenda p p) (before_self s.agenda p) (subst (λ n. is_before s.agenda p n ≡ true) (sym same) before) in
        with_one (moved (closed s session) s.epoch (CommitBefore (transaction_of o) p)) (transaction_of o) (serial (part_before p s.agenda)) (serial (part_from p s.agenda)) (is_new session o is)
        (sym (serial_parts p s.agenda))
        (serial_before (transaction_of o) p s.agenda (apart_members base s structure) (live_slot base s structure session o d snapshot is kind) other (before_member s.agenda p o.number before)));
    ends = λ session verb reply o is ends. ended_order session o is;
    advances = same_order (advanced s (s.epoch + 1)) (slots_serial (s.epoch + 1) (in_epoch s (s.epoch + 1)) s.active);
    flushes = λ epoch which. durable_order epoch;
  }

-- along a legal history
pub kept_from : (built : State → Line → Bool) (base : Base) (s : State) (history : List Entry) (P : List ℕ → Type 0) → IsKept P → Structure base s → P (order s) → IsLegalFrom built s history → P (order (state_from s history))
unfolding IsLegalFrom state_from
kept_from built base s [] P kept structure h legal = h
kept_from built base s (entry ∷ entries) P kept structure h legal =
    kept_from built base (after s entry) entries P kept (structure_after built base s entry structure legal.0)
    (entry_case s (λ line reply s'. P (order s')) (stable_cases base s structure P kept h (are_ahead base s structure)) built entry legal.0) legal.1

pub kept_over : (built : State → Line → Bool) (base : Base) (history more : List Entry) → IsLegalWith built base (history ++ more) → (P : List ℕ → Type 0) → IsKept P → P (order (state base history)) → P (order (state base (history ++ more)))
kept_over built base history more legal P kept h =
    let parts = legal-parts built (first_state base) history more legal in
    subst (λ s. P (order s)) (sym (state-append (first_state base) history more))
    (kept_from built base (state base history) more P kept (structure_of built base history parts.0) h parts.1)

-- Of two members of the order, the one before the other stays before it.
pub stands_on : (built : State → Line → Bool) (base : Base) (history more : List Entry) → IsSound base → IsLegalWith built base (history ++ more) → (a b : ℕ)
    → StandsBefore (order (state base history)) a b → StandsBefore (order (state base (history ++ more))) a b
stands_on built base history more sound legal a b h = kept_over built base history more legal (λ ns. StandsBefore ns a b) (stands_kept a b) h

-- A later order, cut to the members of an earlier one, is the earlier one.
pub within_later : (built : State → Line → Bool) (base : Base) (history more : List Entry) → IsSound base → IsLegalWith built base (history ++ more)
    → filter (λ n. list_any (λ m. m == n) (order (state base history))) (order (state base (history ++ more))) ≡ order (state base history)
within_later built base history more sound legal = kept_over built base history more legal (IsWithin (order (state base history))) (within_kept (order (state base history))) (within_itself (order (state base history)))
