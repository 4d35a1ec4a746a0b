-- Chains of versions over lawful moves: they rise in the agenda, and the newest one is the last writer of the order.
use Rattle.std.proofs.Common.{◌≡◌, ◌≢◌, ◌⊎◌, inl, inr, ℕ, Bool, true, false, cond, not, ◌&&◌, List, [], ◌∷◌, ◌++◌, map, Contains, Option, Some, None, refl, sym, ap, ◌∙◌, subst, append_assoc, append-nil}
use Rattle.std.proofs.lemmas.Bool.{both_ways}
use Rattle.std.specs.List.{AllByRecursion}
use Rattle.ltx_model.specs.Lists.{or_else, IsPairwise}
use Rattle.ltx_model.specs.Keys.{Cell}
use Rattle.ltx_model.specs.Operations.{Transaction, operations, writes_key}
use Rattle.ltx_model.specs.Agenda.{Member, LiveSlot, Committed, is_member, without_member, insert_before, commit_at_slot, agenda_after, agenda_from, part_before, part_from, serial, Move, Slot, CommitShort, CommitHome, CommitBefore, Leave, Timed, commit_of}
use Rattle.ltx_model.specs.Versions.{has_later, install, install_if, chain_from, chain_of, newest}
use Rattle.ltx_lemmas.specs.Places.{is_before, AreApart}
use Rattle.ltx_lemmas.proofs.Lists.{none_some, some_same, all_from, all_map, all_push, all_contains, any_item, any_not, contains_here, contains_later, contains_cases, contains_none, contains_front, contains_back, contains_parts}
use Rattle.ltx_lemmas.proofs.Members.{before_push_old, before_without, before_insert_others, before_home, before_total, before_trans, before_self, before_member}
use Rattle.ltx_lemmas.proofs.Serials.{serial_member, serial_is_member, serial_slot, serial_push, serial_parts, serial_home, serial_before, serial_without, slot_not_committed}
use Rattle.ltx_laws.specs.Orders.{IsPrefix}
use Rattle.ltx_laws.specs.Drops.{IsLawful, AreLawful}
use Rattle.ltx_laws.proofs.Pairs.{pairs_push, pairs_weaken}
use Rattle.ltx_laws.proofs.Agendas.{agenda_more}
use Rattle.ltx_laws.proofs.DropsLists.{logged_all, lawful_front}

-- the chain after one move more
chain_more : (q : Cell) (agenda : List Member) (chain : List Transaction) (moves : List Timed) (m : Timed)
    → chain_from q agenda chain (moves ++ m ∷ []) ≡ install_if q (agenda_after (agenda_from agenda moves) m.move) (chain_from q agenda chain moves) (commit_of m.move)
chain_more q agenda chain [] m = refl
chain_more q agenda chain (x ∷ xs) m = chain_more q (agenda_after agenda x.move) (install_if q (agenda_after agenda x.move) chain (commit_of x.move)) xs m

chain_grows : (q : Cell) (agenda : List Member) (chain : List Transaction) (o : Option Transaction) → IsPrefix chain (install_if q agenda chain o)
chain_grows q agenda chain None = record { rest = []; parts = sym (append-nil chain) }
chain_grows q agenda chain (Some t) = by_test (writes_key (operations t) q && not (has_later agenda t chain)) where
  by_test : (b : Bool) → IsPrefix chain (cond b (chain ++ t ∷ []) chain)
  by_test true = record { rest = t ∷ []; parts = refl }
  by_test false = record { rest = []; parts = sym (append-nil chain) }

-- a chain only grows at its end
pub chain_prefix : (q : Cell) (agenda : List Member) (chain : List Transaction) (moves : List Timed) → IsPrefix chain (chain_from q agenda chain moves)
chain_prefix q agenda chain [] = record { rest = []; parts = sym (append-nil chain) }
chain_prefix q agenda chain (m ∷ ms) =
    let next = install_if q (agenda_after agenda m.move) chain (commit_of m.move) in
    let first = chain_grows q (agenda_after agenda m.move) chain (commit_of m.move) in
    let rest = chain_prefix q (agenda_after agenda m.move) next ms in
    record { rest = first.rest ++ rest.rest; parts = rest.parts ∙ ap (λ l. l ++ rest.rest) first.parts ∙ append_assoc chain first.rest rest.rest }

pub chain_split : (q : Cell) (agenda : List Member) (chain : List Transaction) (xs ys : List Timed) → chain_from q agenda chain (xs ++ ys) ≡ chain_from q (agenda_from agenda xs) (chain_from q agenda chain xs) ys
chain_split q agenda chain [] ys = refl
chain_split q agenda chain (x ∷ xs) ys = chain_split q (agenda_after agenda x.move) (install_if q (agenda_after agenda x.move) chain (commit_of x.move)) xs ys

-- the last installed one
newest_push : (ts : List Transaction) (t : Transaction) → newest (ts ++ t ∷ []) ≡ Some t
newest_push [] t = refl
newest_push (u ∷ us) t = ap (λ o. or_else o (Some u)) (newest_push us t)

newest_some : (u : Transaction) (ts : List Transaction) → (v : Transaction) × (newest (u ∷ ts) ≡ Some v)
newest_some u ts = by_rest (newest ts) where
  by_rest : (o : Option Transaction) → (v : Transaction) × (or_else o (Some u) ≡ Some v)
  by_rest None = (u, refl)
  by_rest (Some v) = (v, refl)

newest_of : (ts : List Transaction) (u : Transaction) → Contains ts u → (v : Transaction) × (newest ts ≡ Some v)
newest_of [] u c = absurd (contains_none u c)
newest_of (t ∷ ts) u c = newest_some t ts

pub newest_in : (ts : List Transaction) (v : Transaction) → newest ts ≡ Some v → Contains ts v
newest_in [] v e = absurd (none_some e)
newest_in (t ∷ ts) v e = by_rest (newest ts) e (newest_in ts v) where
  by_rest : (o : Option Transaction) → or_else o (Some t) ≡ Some v → (o ≡ Some v → Contains ts v) → Contains (t ∷ ts) v
  by_rest None e later = subst (λ x. Contains (x ∷ ts) v) (sym (some_same e)) (contains_here v ts)
  by_rest (Some w) e later = contains_later t ts v (later e)

-- in a list that rises, each one is the last or stands before it
rising_to_newest : (R : Transaction → Transaction → Type 0) (ts : List Transaction) (u v : Transaction) → IsPairwise R ts → Contains ts u → newest ts ≡ Some v → (u ≡ v) ⊎ R u v
rising_to_newest R [] u v pairs c e = absurd (contains_none u c)
rising_to_newest R (t ∷ ts) u v pairs c e = by_rest (newest ts) refl e (contains_cases t ts u c) (rising_to_newest R ts u v pairs.1) where
  by_rest : (o : Option Transaction) → newest ts ≡ o → or_else o (Some t) ≡ Some v → (t ≡ u) ⊎ Contains ts u → (Contains ts u → newest ts ≡ Some v → (u ≡ v) ⊎ R u v) → (u ≡ v) ⊎ R u v
  by_rest None is e (inl same) later = inl (sym same ∙ some_same e)
  by_rest None is e (inr d) later = absurd (let w = newest_of ts u d in none_some (sym is ∙ w.1))
  by_rest (Some w) is e (inl same) later = inr (subst (λ x. R x v) same (all_contains (R t) ts v pairs.0 (newest_in ts v (is ∙ e))))
  by_rest (Some w) is e (inr d) later = later d (is ∙ e)

-- A chain beside an agenda.
pub record AreVersions (q : Cell) (agenda : List Member) (chain : List Transaction) : Type 0 where
  pub member : AllByRecursion (λ v. Contains (serial agenda) v) chain
  pub writes : AllByRecursion (λ v. writes_key (operations v) q ≡ true) chain
  pub rising : IsPairwise (λ u v. is_before agenda u.number v.number ≡ true) chain
  -- each committed writer is the newest version or stands before it
  pub last : (t : Transaction) → Contains (serial agenda) t → writes_key (operations t) q ≡ true → (v : Transaction) × (newest chain ≡ Some v) × ((t.number ≡ v.number) ⊎ (is_before agenda t.number v.number ≡ true))

-- a move keeps the committed members in their places
pub record KeepsPlaces (agenda after : List Member) : Type 0 where
  pub sub : (u : Transaction) → Contains (serial agenda) u → Contains (serial after) u
  pub same : (u v : Transaction) → Contains (serial agenda) u → Contains (serial agenda) v → is_before after u.number v.number ≡ is_before agenda u.number v.number

module _ (q : Cell) (agenda after : List Member) (chain : List Transaction) (h : AreVersions q agenda chain) (keeps : KeepsPlaces agenda after) where
  member_on : AllByRecursion (λ v. Contains (serial after) v) chain
  member_on = all_map (λ v. Contains (serial agenda) v) (λ v. Contains (serial after) v) keeps.sub chain h.member

  rising_on : IsPairwise (λ u v. is_before after u.number v.number ≡ true) chain
  rising_on = pairs_weaken (λ v. Contains (serial agenda) v) (λ u v. is_before agenda u.number v.number ≡ true) (λ u v. is_before after u.number v.number ≡ true) (λ u v cu cv e. keeps.same u v cu cv ∙ e) chain h.member h.rising

  last_on : (t : Transaction) → Contains (serial agenda) t → writes_key (operations t) q ≡ true → (v : Transaction) × (newest chain ≡ Some v) × ((t.number ≡ v.number) ⊎ (is_before after t.number v.number ≡ true))
  last_on t here writes = let (v, is, place) = h.last t here writes in (v, is, by_place v (all_contains (λ v. Contains (serial agenda) v) chain v h.member (newest_in chain v is)) place) where
    by_place : (v : Transaction) → Contains (serial agenda) v → (t.number ≡ v.number) ⊎ (is_before agenda t.number v.number ≡ true) → (t.number ≡ v.number) ⊎ (is_before after t.number v.number ≡ true)
    by_place v there (inl e) = inl e
    by_place v there (inr b) = inr (keeps.same t v here there ∙ b)

  -- no commit
  pub versions_same : ((u : Transaction) → Contains (serial after) u → Contains (serial agenda) u) → AreVersions q after chain
  versions_same back = record { member = member_on; writes = h.writes; rising = rising_on; last = λ t here. last_on t (back t here) }

  -- the commit of t
  module _ (t : Transaction) (new : Contains (serial after) t) (others : (u : Transaction) → Contains (serial agenda) u → u.number ≢ t.number) (back : (u : Transaction) → Contains (serial after) u → (u ≡ t) ⊎ Contains (serial agenda) u) where
    last_with : ((w : writes_key (operations t) q ≡ true) → (v : Transaction) × (newest chain ≡ Some v) × ((t.number ≡ v.number) ⊎ (is_before after t.number v.number ≡ true))) → AreVersions q after chain
    last_with own = record { member = member_on; writes = h.writes; rising = rising_on; last = λ u here w. by_back u (back u here) w } where
      by_back : (u : Transaction) → (u ≡ t) ⊎ Contains (serial agenda) u → writes_key (operations u) q ≡ true → (v : Transaction) × (newest chain ≡ Some v) × ((u.number ≡ v.number) ⊎ (is_before after u.number v.number ≡ true))
      by_back u (inl e) w = subst (λ (x : Transaction). (v : Transaction) × (newest chain ≡ Some v) × ((x.number ≡ v.number) ⊎ (is_before after x.number v.number ≡ true))) (sym e) (own (subst (λ (x : Transaction). writes_key (operations x) q ≡ true) e w))
      by_back u (inr c) w = last_on u c w

    -- it is not installed: a version stands later
    not_installed : has_later after t chain ≡ true → AreVersions q after chain
    not_installed later = last_with (λ w.
        let (u, c, before) = any_item (λ v. is_before after t.number v.number) chain later in
        let (v, is) = newest_of chain u c in
        (v, is, inr (by_place u v before (rising_to_newest (λ x y. is_before after x.number y.number ≡ true) chain u v rising_on c is)))) where
          by_place : (u v : Transaction) → is_before after t.number u.number ≡ true → (u ≡ v) ⊎ (is_before after u.number v.number ≡ true) → is_before after t.number v.number ≡ true
          by_place u v before (inl e) = subst (λ (x : Transaction). is_before after t.number x.number ≡ true) e before
          by_place u v before (inr b) = before_trans after t.number u.number v.number before b

    -- it is installed: all versions stand before it
    all_before : has_later after t chain ≡ false → AllByRecursion (λ v. is_before after v.number t.number ≡ true) chain
    all_before none = all_from (λ v. is_before after v.number t.number ≡ true) chain (λ v c.
        let old : Contains (serial agenda) v = all_contains (λ v. Contains (serial agenda) v) chain v h.member c in
        before_total after t.number v.number (serial_is_member after t new) (λ same. others v old (sym same)) (any_not (λ v. is_before after t.number v.number) chain v none c))

    is_installed : writes_key (operations t) q ≡ true → has_later after t chain ≡ false → AreVersions q after (chain ++ t ∷ [])
    is_installed w none = record {
      member = all_push (λ v. Contains (serial after) v) chain t member_on new;
      writes = all_push (λ v. writes_key (operations v) q ≡ true) chain t h.writes w;
      rising = pairs_push (λ u v. is_before after u.number v.number ≡ true) chain t (all_before none) rising_on;
      last = λ u here wu. (t, newest_push chain t, by_back u (back u here) wu);
    } where
      by_place : (u v : Transaction) → newest chain ≡ Some v → (u.number ≡ v.number) ⊎ (is_before after u.number v.number ≡ true) → is_before after u.number t.number ≡ true
      by_place u v is (inl e) = subst (λ n. is_before after n t.number ≡ true) (sym e) (all_contains (λ v. is_before after v.number t.number ≡ true) chain v (all_before none) (newest_in chain v is))
      by_place u v is (inr b) = before_trans after u.number v.number t.number b (all_contains (λ v. is_before after v.number t.number ≡ true) chain v (all_before none) (newest_in chain v is))

      by_back : (u : Transaction) → (u ≡ t) ⊎ Contains (serial agenda) u → writes_key (operations u) q ≡ true → (u.number ≡ t.number) ⊎ (is_before after u.number t.number ≡ true)
      by_back u (inl e) wu = inl (ap (λ (x : Transaction). x.number) e)
      by_back u (inr c) wu = let (v, is, place) = last_on u c wu in inr (by_place u v is place)

    pub versions_commit : AreVersions q after (install q after chain t)
    versions_commit = by_tests (writes_key (operations t) q) refl (has_later after t chain) refl where
      by_tests : (a : Bool) → writes_key (operations t) q ≡ a → (b : Bool) → has_later after t chain ≡ b → AreVersions q after (cond (a && not b) (chain ++ t ∷ []) chain)
      by_tests true w true later = not_installed later
      by_tests true w false none = is_installed w none
      by_tests false w b is = last_with (λ own. absurd (let no : ⊥ = both_ways (writes_key (operations t) q) w own in no))

-- the moves
module _ (q : Cell) (agenda : List Member) (chain : List Transaction) (apart : AreApart agenda) (h : AreVersions q agenda chain) where
  push_keeps : (x : Member) → ((u : Transaction) → Contains (serial agenda) u → Contains (serial (agenda ++ x ∷ [])) u) → KeepsPlaces agenda (agenda ++ x ∷ [])
  push_keeps x sub = record { sub = sub; same = λ u v cu cv. before_push_old agenda x u.number v.number (serial_is_member agenda v cv) }

  slot_versions : (n : ℕ) → AreVersions q (agenda ++ LiveSlot n ∷ []) chain
  slot_versions n =
      let same = serial_slot agenda n in
      versions_same q agenda (agenda ++ LiveSlot n ∷ []) chain h (push_keeps (LiveSlot n) (λ u c. subst (λ l. Contains l u) (sym same) c)) (λ u c. subst (λ l. Contains l u) same c)

  -- a commit between two parts of the order
  commit_versions : (after : List Member) (t : Transaction) (front back : List Transaction) → serial agenda ≡ front ++ back → serial after ≡ front ++ t ∷ back → ((u : Transaction) → Contains (serial agenda) u → u.number ≢ t.number)
      → ((u v : Transaction) → Contains (serial agenda) u → Contains (serial agenda) v → is_before after u.number v.number ≡ is_before agenda u.number v.number) → AreVersions q after (install q after chain t)
  commit_versions after t front back old new others same =
      versions_commit q agenda after chain h (record { sub = sub; same = same }) t (subst (λ l. Contains l t) (sym new) (contains_back front (t ∷ back) t (contains_here t back))) others (λ u c. from u (contains_parts front (t ∷ back) u (subst (λ l. Contains l u) new c))) where
        sub : (u : Transaction) → Contains (serial agenda) u → Contains (serial after) u
        sub u c = subst (λ l. Contains l u) (sym new) (by_part u (contains_parts front back u (subst (λ l. Contains l u) old c))) where
          by_part : (u : Transaction) → Contains front u ⊎ Contains back u → Contains (front ++ t ∷ back) u
          by_part u (inl d) = contains_front front (t ∷ back) u d
          by_part u (inr d) = contains_back front (t ∷ back) u (contains_later t back u d)

        from : (u : Transaction) → Contains front u ⊎ Contains (t ∷ back) u → (u ≡ t) ⊎ Contains (serial agenda) u
        from u (inl d) = inr (subst (λ l. Contains l u) (sym old) (contains_front front back u d))
        from u (inr d) = by_place u (contains_cases t back u d) where
          by_place : (u : Transaction) → (t ≡ u) ⊎ Contains back u → (u ≡ t) ⊎ Contains (serial agenda) u
          by_place u (inl e) = inl (sym e)
          by_place u (inr e) = inr (subst (λ l. Contains l u) (sym old) (contains_back front back u e))

  short_versions : (t : Transaction) → is_member agenda t.number ≡ false → AreVersions q (agenda ++ Committed t ∷ []) (install q (agenda ++ Committed t ∷ []) chain t)
  short_versions t new = commit_versions (agenda ++ Committed t ∷ []) t (serial agenda) [] (sym (append-nil (serial agenda))) (serial_push agenda t)
      (λ u c same. both_ways (is_member agenda t.number) new (subst (λ n. is_member agenda n ≡ true) same (serial_is_member agenda u c)))
      (λ u v cu cv. before_push_old agenda (Committed t) u.number v.number (serial_is_member agenda v cv))

  module _ (t : Transaction) (slot : Contains agenda (LiveSlot t.number)) where
    others : (u : Transaction) → Contains (serial agenda) u → u.number ≢ t.number
    others u c = slot_not_committed t.number agenda apart slot u (serial_member agenda u c)

    home_versions : AreVersions q (map (commit_at_slot t) agenda) (install q (map (commit_at_slot t) agenda) chain t)
    home_versions = commit_versions (map (commit_at_slot t) agenda) t (serial (part_before t.number agenda)) (serial (part_from t.number agenda)) (sym (serial_parts t.number agenda)) (serial_home t agenda apart slot) others
        (λ u v cu cv. before_home t agenda u.number v.number)

    before_versions : (p : ℕ) → is_before agenda p t.number ≡ true → AreVersions q (insert_before (Committed t) p (without_member agenda t.number)) (install q (insert_before (Committed t) p (without_member agenda t.number)) chain t)
    before_versions p ahead =
        let other : p ≢ t.number = λ same. both_ways (is_before agenda p p) (before_self agenda p) (subst (λ n. is_before agenda p n ≡ true) (sym same) ahead) in
        commit_versions (insert_before (Committed t) p (without_member agenda t.number)) t (serial (part_before p agenda)) (serial (part_from p agenda)) (sym (serial_parts p agenda))
        (serial_before t p agenda apart slot other (before_member agenda p t.number ahead)) others
        (λ u v cu cv. before_insert_others (Committed t) p (without_member agenda t.number) u.number v.number (λ e. others u cu (sym e)) (λ e. others v cv (sym e)) ∙ before_without agenda t.number u.number v.number (others u cu) (others v cv))

  leave_versions : (n : ℕ) → Contains agenda (LiveSlot n) → AreVersions q (without_member agenda n) chain
  leave_versions n slot =
      let same = serial_without n agenda apart slot in
      let apart_from : (u : Transaction) → Contains (serial agenda) u → u.number ≢ n = λ u c. slot_not_committed n agenda apart slot u (serial_member agenda u c) in
      versions_same q agenda (without_member agenda n) chain h
      (record { sub = λ u c. subst (λ l. Contains l u) (sym same) c; same = λ u v cu cv. before_without agenda n u.number v.number (apart_from u cu) (apart_from v cv) })
      (λ u c. subst (λ l. Contains l u) same c)

  move_versions : (past : List Timed) (m : Move) → IsLawful past agenda m → AreVersions q (agenda_after agenda m) (install_if q (agenda_after agenda m) chain (commit_of m))
  move_versions past (Slot n) lawful = slot_versions n
  move_versions past (CommitShort t) lawful = short_versions t lawful.0
  move_versions past (CommitHome t) lawful = home_versions t lawful
  move_versions past (CommitBefore t p) lawful = before_versions t lawful.0 p lawful.1
  move_versions past (Leave n) lawful = leave_versions n lawful.0

versions_from : (q : Cell) (past moves : List Timed) → ((xs ys : List Timed) → past ++ moves ≡ xs ++ ys → AreApart (agenda_from [] xs)) → AreVersions q (agenda_from [] past) (chain_of q past) → AreLawful past moves → AreVersions q (agenda_from [] (past ++ moves)) (chain_of q (past ++ moves))
versions_from q past [] apart h lawful = subst (λ l. AreVersions q (agenda_from [] l) (chain_of q l)) (sym (append-nil past)) h
versions_from q past (m ∷ ms) apart h lawful =
    let next : AreVersions q (agenda_from [] (past ++ m ∷ [])) (chain_of q (past ++ m ∷ [])) =
    subst (λ ms. AreVersions q ms (chain_of q (past ++ m ∷ []))) (sym (agenda_more [] past m))
    (subst (AreVersions q (agenda_after (agenda_from [] past) m.move)) (sym (chain_more q [] [] past m)) (move_versions q (agenda_from [] past) (chain_of q past) (apart past (m ∷ ms) refl) h past m.move lawful.0)) in
    subst (λ l. AreVersions q (agenda_from [] l) (chain_of q l)) (append_assoc past (m ∷ []) ms) (versions_from q (past ++ m ∷ []) ms (λ xs ys e. apart xs ys (sym (append_assoc past (m ∷ []) ms) ∙ e)) next lawful.1)

pub versions_all : (q : Cell) (moves : List Timed) → AreLawful [] moves → AreVersions q (agenda_from [] moves) (chain_of q moves)
versions_all q moves lawful = versions_from q [] moves (λ xs ys e. (logged_all xs (lawful_front [] xs ys (subst (AreLawful []) e lawful))).apart)
    (record { member = tt; writes = tt; rising = tt; last = λ t here. absurd (contains_none t here) }) lawful
