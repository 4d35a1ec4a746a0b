-- Where a transaction stands when it has been committed, and afterwards.
use Rattle.std.proofs.Common.{◌≡◌, ◌≢◌, ◌⊎◌, inl, inr, ℕ, Bool, true, false, cond, ◌||◌, ◌==◌, List, [], ◌∷◌, ◌++◌, map, not, refl, sym, ap, ◌∙◌, subst, ne_eqb, eq-eqb, append_assoc, Contains}
use Rattle.std.specs.List.{list_any, AllByRecursion}
use Rattle.ltx_model.specs.declared.commands.Line.{Line}
use Rattle.ltx_model.specs.declared.replies.Entry.{Entry}
use Rattle.ltx_model.specs.Lists.{before_first}
use Rattle.ltx_model.specs.Operations.{Transaction}
use Rattle.ltx_model.specs.Agenda.{Member, LiveSlot, Committed, number_of, has_number, is_member, without_member, insert_before, commit_at_slot, serial, part_before, part_from, commits_after}
use Rattle.ltx_model.specs.States.{Declaration, IsShort, IsLive, Active, transaction_of, Base, IsSound, State, first_state, order}
use Rattle.ltx_model.specs.Histories.{after, state, state_from}
use Rattle.ltx_model.specs.Answers.{staged, IsLegalFrom, IsLegalWith}
use Rattle.ltx_model.proofs.OneMore.{state-push, legal-parts, legal-first}
use Rattle.ltx_laws.specs.Structure.{IsLiveBatch, IsOpenShort, Structure}
use Rattle.ltx_laws.specs.Commits.{IsCommitOf, IsHomeReply, IsForwardedReply, StandsJustBefore}
use Rattle.ltx_laws.specs.Orders.{StandsBefore}
use Rattle.ltx_lemmas.proofs.Lists.{all_map, before_fails, filter_item, contains_cases, contains_none, true_false}
use Rattle.ltx_lemmas.proofs.Serials.{serial_home}
use Rattle.ltx_laws.proofs.Pairs.{same_number}
use Rattle.ltx_laws.proofs.Places.{any_before, before_apart}
use Rattle.ltx_laws.proofs.Agendas.{member_without, not_member, serial_short}
use Rattle.ltx_laws.proofs.ReadsKept.{apart_members, live_slot}
use Rattle.ltx_laws.proofs.Structures.{structure_of, stands_of, live_stands, live_target_ahead}
use Rattle.ltx_laws.proofs.CommitCases.{IsOneCommit, commit_of_entry}
use Rattle.ltx_laws.proofs.ExplainedStable.{stands_on}

-- what holds of members' numbers holds of the committed ones'
pub serial_all : (P : ℕ → Type 0) (ms : List Member) → AllByRecursion (λ m. P (number_of m)) ms → AllByRecursion (λ (t : Transaction). P t.number) (serial ms)
serial_all P [] all = tt
serial_all P (LiveSlot n ∷ ms) all = serial_all P ms all.1
serial_all P (Committed t ∷ ms) all = (all.0, serial_all P ms all.1)

abbrev Numbers : List Transaction → List ℕ
Numbers ts = map (λ t. t.number) ts

-- a transaction that is put behind others stands after each of them
pub stands_inserted : (t u : Transaction) (front back : List Transaction) → AllByRecursion (λ (x : Transaction). x.number ≢ t.number) front → Contains front u → StandsBefore (Numbers (front ++ t ∷ back)) u.number t.number
stands_inserted t u front back apart here = record { member = member front; before = ap (list_any (λ n. n == u.number)) (front_is front apart) ∙ there front here } where
  member : (xs : List Transaction) → list_any (λ n. n == t.number) (Numbers (xs ++ t ∷ back)) ≡ true
  member [] = ap (λ b. b || list_any (λ n. n == t.number) (Numbers back)) (eq-eqb t.number t.number refl)
  member (x ∷ xs) = by_test (x.number == t.number) (member xs) where
    by_test : (b : Bool) → list_any (λ n. n == t.number) (Numbers (xs ++ t ∷ back)) ≡ true → (b || list_any (λ n. n == t.number) (Numbers (xs ++ t ∷ back))) ≡ true
    by_test true e = refl
    by_test false e = e

  front_is : (xs : List Transaction) → AllByRecursion (λ (x : Transaction). x.number ≢ t.number) xs → before_first (λ n. n == t.number) (Numbers (xs ++ t ∷ back)) ≡ Numbers xs
  front_is [] all = rw (eq-eqb t.number t.number refl) refl
  front_is (x ∷ xs) all = rw (ne_eqb x.number t.number all.0) (ap (λ l. x.number ∷ l) (front_is xs all.1))

  there : (xs : List Transaction) → Contains xs u → list_any (λ n. n == u.number) (Numbers xs) ≡ true
  there [] here = absurd (contains_none u here)
  there (x ∷ xs) here = by_cases (contains_cases x xs u here) (there xs) where
    by_cases : (x ≡ u) ⊎ Contains xs u → (Contains xs u → list_any (λ n. n == u.number) (Numbers xs) ≡ true) → ((x.number == u.number) || list_any (λ n. n == u.number) (Numbers xs)) ≡ true
    by_cases (inl same) later = ap (λ b. b || list_any (λ n. n == u.number) (Numbers xs)) (eq-eqb x.number u.number (ap (λ (v : Transaction). v.number) same))
    by_cases (inr at) later = by_test (x.number == u.number) (later at) where
      by_test : (b : Bool) → list_any (λ n. n == u.number) (Numbers xs) ≡ true → (b || list_any (λ n. n == u.number) (Numbers xs)) ≡ true
      by_test true e = refl
      by_test false e = e

-- a member that is put before another stands just before it
just_before : (x : Member) (p : ℕ) (ms : List Member) → is_member ms p ≡ true → StandsJustBefore (insert_before x p ms) x p
just_before x p [] e = cc
just_before x p (m ∷ ms) e = by_test (has_number p m) refl e (just_before x p ms) where
  by_test : (b : Bool) → has_number p m ≡ b → (b || is_member ms p) ≡ true → (is_member ms p ≡ true → StandsJustBefore (insert_before x p ms) x p) → StandsJustBefore (cond b (x ∷ m ∷ ms) (m ∷ insert_before x p ms)) x p
  by_test true is e later = record { front = []; second = m; back = ms; parts = refl; target = same_number (number_of m) p is }
  by_test false is e later = let h = later e in record { front = m ∷ h.front; second = h.second; back = h.back; parts = ap (λ l. m ∷ l) h.parts; target = h.target }

-- an entry of a legal history
module _ (built : State → Line → Bool) (base : Base) (history more : List Entry) (entry : Entry) (sound : IsSound base) (legal : IsLegalWith built base (history ++ entry ∷ more)) where
  abbrev s : State
  s = state base history

  parts : IsLegalFrom built (first_state base) history × IsLegalFrom built (state_from (first_state base) history) (entry ∷ more)
  parts = legal-parts built (first_state base) history (entry ∷ more) legal

  pub before_legal : IsLegalWith built base history
  before_legal = parts.0

  pub entry_is : entry.reply ≡ staged built s entry.line
  entry_is = (legal-first built s entry more parts.1).0

  pub before_structure : Structure base s
  before_structure = structure_of built base history before_legal

  pub state_then : state base (history ++ entry ∷ []) ≡ after s entry
  state_then = state-push (first_state base) history entry

  -- a place in the order after the entry is one for ever
  pub stands_later : (a b : ℕ) → StandsBefore (order (after s entry)) a b → StandsBefore (order (state base (history ++ entry ∷ more))) a b
  stands_later a b h =
      let same : (history ++ entry ∷ []) ++ more ≡ history ++ entry ∷ more = append_assoc history (entry ∷ []) more in
      let there : StandsBefore (order (state base (history ++ entry ∷ []))) a b = subst (λ t. StandsBefore (order t) a b) (sym state_then) h in
      subst (λ l. StandsBefore (order (state base l)) a b) same (stands_on built base (history ++ entry ∷ []) more sound (subst (IsLegalWith built base) (sym same) legal) a b there)

  module _ (o : Active) (c : IsCommitOf s entry o) where
    one : IsOneCommit s c.session o entry.reply (after s entry)
    one = commit_of_entry built s entry o entry_is c

    -- a short
    pub short_after : o.kind ≡ IsShort → (t : Transaction) → Contains (serial s.agenda) t → StandsBefore (order (state base (history ++ entry ∷ more))) t.number o.number
    short_after kind t here = stands_later t.number o.number (by_case one) where
      by_case : IsOneCommit s c.session o entry.reply (after s entry) → StandsBefore (order (after s entry)) t.number o.number
      by_case (inl h) =
          let open_short : IsOpenShort s.agenda s.moves o.number = stands_of base s before_structure c.session o c.opened IsShort kind in
          let apart : AllByRecursion (λ (x : Transaction). x.number ≢ o.number) (serial s.agenda) = serial_all (λ n. n ≢ o.number) s.agenda (not_member s.agenda o.number open_short.fresh) in
          subst (λ x. StandsBefore (order x) t.number o.number) (sym h.after_is)
          (subst (λ l. StandsBefore (Numbers l) t.number o.number) (sym (serial_short s.agenda (transaction_of o))) (stands_inserted (transaction_of o) t (serial s.agenda) [] apart here))
      by_case (inr (inl h)) = absurd (let none : ⊥ = cc (sym kind ∙ h.kind) in none)
      by_case (inr (inr h)) = absurd (let none : ⊥ = cc (sym kind ∙ h.kind) in none)

    -- a batch at home
    pub home_after : (d : Declaration) (snapshot : List Transaction) → o.kind ≡ IsLive d snapshot → IsHomeReply entry.reply → (t : Transaction) → Contains snapshot t → StandsBefore (order (state base (history ++ entry ∷ more))) t.number o.number
    home_after d snapshot kind home t here = stands_later t.number o.number (by_case one) where
      by_case : IsOneCommit s c.session o entry.reply (after s entry) → StandsBefore (order (after s entry)) t.number o.number
      by_case (inl h) = absurd (let none : ⊥ = cc (sym kind ∙ h.kind) in none)
      by_case (inr (inl h)) =
          let live : IsLiveBatch s.agenda s.moves o.number d snapshot o.steps = live_stands base s before_structure c.session o c.opened d snapshot kind in
          let in_part : Contains (serial (part_before o.number s.agenda)) t = (filter_item (λ (u : Transaction). not (commits_after s.moves o.number u.number)) (serial (part_before o.number s.agenda)) t (subst (λ l. Contains l t) live.now here)).0 in
          let apart : AllByRecursion (λ (x : Transaction). x.number ≢ o.number) (serial (part_before o.number s.agenda))
          = serial_all (λ n. n ≢ o.number) (part_before o.number s.agenda) (all_map (λ m. has_number o.number m ≡ false) (λ m. number_of m ≢ o.number) (λ m no e. true_false (sym (eq-eqb (number_of m) o.number e) ∙ no)) (part_before o.number s.agenda) (before_fails (has_number o.number) s.agenda)) in
          let placed : serial (map (commit_at_slot (transaction_of o)) s.agenda) ≡ serial (part_before o.number s.agenda) ++ transaction_of o ∷ serial (part_from o.number s.agenda)
          = serial_home (transaction_of o) s.agenda (apart_members base s before_structure) (live_slot base s before_structure c.session o d snapshot c.opened kind) in
          subst (λ x. StandsBefore (order x) t.number o.number) (sym h.after_is)
          (subst (λ l. StandsBefore (Numbers l) t.number o.number) (sym placed) (stands_inserted (transaction_of o) t (serial (part_before o.number s.agenda)) (serial (part_from o.number s.agenda)) apart in_part))
      by_case (inr (inr h)) = absurd (let none : ⊥ = cc (sym home.1 ∙ h.reply_is) in none)

    -- a forwarded batch
    pub before_placed : (p : ℕ) → IsForwardedReply entry.reply p → StandsJustBefore (after s entry).agenda (Committed (transaction_of o)) p
    before_placed p printed = by_case one where
      by_case : IsOneCommit s c.session o entry.reply (after s entry) → StandsJustBefore (after s entry).agenda (Committed (transaction_of o)) p
      by_case (inl h) = absurd (let none : ⊥ = cc (sym printed.1 ∙ h.reply_is) in none)
      by_case (inr (inl h)) = absurd (let none : ⊥ = cc (sym printed.1 ∙ h.reply_is) in none)
      by_case (inr (inr h)) =
          let same : p ≡ h.place = cc (sym printed.1 ∙ h.reply_is) in
          let ahead : is_member (part_before o.number s.agenda) h.place ≡ true = live_target_ahead base s before_structure c.session o c.opened h.declared h.snapshot h.kind h.place h.goal in
          let there : is_member (without_member s.agenda o.number) h.place ≡ true = member_without h.place o.number (before_apart o.number h.place s.agenda ahead) s.agenda ∙ any_before (has_number h.place) (has_number o.number) s.agenda ahead in
          subst (λ x. StandsJustBefore x.agenda (Committed (transaction_of o)) p) (sym h.after_is)
          (subst (λ n. StandsJustBefore (insert_before (Committed (transaction_of o)) h.place (without_member s.agenda o.number)) (Committed (transaction_of o)) n) (sym same) (just_before (Committed (transaction_of o)) h.place (without_member s.agenda o.number) there))
