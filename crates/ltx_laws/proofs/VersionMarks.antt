-- The numbers of commits along a chain of versions: they rise, and the mark of a slot divides them.
use Rattle.std.proofs.Common.{◌≡◌, ◌≢◌, ◌⊎◌, inl, inr, ℕ, ◌+◌, ◌<◌, ◌≤◌, Bool, true, false, cond, ◌&&◌, not, ◌==◌, nat_lt, List, [], ◌∷◌, ◌++◌, length, Option, Some, None, refl, sym, ap, ◌∙◌, subst, append_assoc, arith, Contains}
use Rattle.std.proofs.lemmas.Bool.{ne_eqb}
use Rattle.std.specs.List.{cons_option, AllByRecursion}
use Rattle.ltx_model.specs.declared.commands.Line.{Line}
use Rattle.ltx_model.specs.declared.replies.Entry.{Entry}
use Rattle.ltx_model.specs.Lists.{IsPairwise}
use Rattle.ltx_model.specs.Keys.{Cell}
use Rattle.ltx_model.specs.Operations.{Transaction, operations, writes_key}
use Rattle.ltx_model.specs.Agenda.{Member, agenda_after, agenda_from, Move, CommitShort, CommitHome, CommitBefore, Leave, Timed, commit_of, commits_of, moves_since, moves_until}
use Rattle.ltx_model.specs.Marks.{place_in, number_of_commit}
use Rattle.ltx_model.specs.Versions.{has_later, install_if, chain_from, chain_of}
use Rattle.ltx_model.specs.States.{Kind, IsShort, IsPending, IsLive, Active, transaction_of, Base, IsSound, State, first_state, is_of, active_of, LiveBatch, live_batches}
use Rattle.ltx_model.specs.Histories.{closed, left, in_epoch, durable_if, after, state, state_from}
use Rattle.ltx_model.specs.Answers.{IsLegalFrom, IsLegalWith}
use Rattle.ltx_lemmas.proofs.Lists.{some_same, all_contains, all_from, contains_back, contains_cases, contains_front, contains_here, contains_later, contains_none, contains_parts, find_contains, given_item}
use Rattle.ltx_laws.specs.Orders.{IsSublist}
use Rattle.ltx_laws.specs.Structure.{Structure}
use Rattle.ltx_laws.proofs.Pairs.{pairs_push}
use Rattle.ltx_laws.proofs.Standing.{commits_push, commits_none}
use Rattle.ltx_laws.proofs.Transitions.{Cases, entry_case}
use Rattle.ltx_laws.proofs.Structures.{first_structure, structure_after}
use Rattle.ltx_laws.proofs.SlotsKept.{none_open}
use Rattle.ltx_laws.proofs.Told.{slots_commits}
use Rattle.ltx_laws.proofs.SlotMarks.{IsPlaceUpTo, place_front, place_behind, IsSlotBetween, between, commits_parts}
use Rattle.ltx_laws.proofs.VersionChains.{chain_split}
use Rattle.ltx_laws.proofs.VersionRows.{installed_in_time}

abbrev AreOther : Transaction → Transaction → Type 0
AreOther u v = u.number ≢ v.number

-- no number commits twice
module _ (base : Base) (s : State) (inv : Structure base s) (h : IsPairwise AreOther (commits_of s.moves)) where
  after_commit : (session : ℕ) (o : Active) (m : Move) → active_of s session ≡ Some o → commit_of m ≡ Some (transaction_of o) → IsPairwise AreOther (commits_of (s.moves ++ record { epoch = s.epoch; move = m } ∷ []))
  after_commit session o m opened is =
      subst (IsPairwise AreOther) (sym (commits_push s.moves (record { epoch = s.epoch; move = m }) (transaction_of o) is))
      (pairs_push AreOther (commits_of s.moves) (transaction_of o) (all_from (λ (t : Transaction). AreOther t (transaction_of o)) (commits_of s.moves) (λ t c same.
      let found = given_item (λ (x : Timed). commit_of x.move) s.moves t c in
      all_contains (λ (u : Active). u.number ≢ t.number) s.active o (none_open base s inv t found.0 found.2 found.1) (find_contains (is_of session) s.active o opened) (sym same))) h)

  after_end : (session : ℕ) (o : Active) (k : Kind) → IsPairwise AreOther (commits_of (left (closed s session) k o.number).moves)
  after_end session o IsShort = h
  after_end session o (IsPending d) = h
  after_end session o (IsLive d snapshot) = subst (IsPairwise AreOther) (sym (commits_none s.moves (record { epoch = s.epoch; move = Leave o.number }) refl)) h

  after_flush : (epoch : ℕ) (b : Bool) → IsPairwise AreOther (commits_of (durable_if b s epoch).moves)
  after_flush epoch true = h
  after_flush epoch false = h

  once_cases : Cases s (λ line reply next. IsPairwise AreOther (commits_of next.moves))
  once_cases = record {
    nothing = λ line reply leaves. h;
    begins_short = λ session none. h;
    begins_long = λ session writes reads none. h;
    answers_short = λ session op o reply is kind free sees answers. h;
    answers_batch = λ session op o d snapshot reply is kind inside sees answers. h;
    commits_short = λ session o is kind free unchanged. after_commit session o (CommitShort (transaction_of o)) is refl;
    commits_home = λ session o d snapshot is kind none. after_commit session o (CommitHome (transaction_of o)) is refl;
    commits_before = λ session o d snapshot p is kind aim free elder. after_commit session o (CommitBefore (transaction_of o) p) is refl;
    ends = λ session verb reply o is ends. after_end session o o.kind;
    advances = subst (IsPairwise AreOther) (sym (slots_commits (s.epoch + 1) (in_epoch s (s.epoch + 1)) s.active)) h;
    flushes = λ epoch which. after_flush epoch (nat_lt s.durable epoch);
  }

once_from : (built : State → Line → Bool) (base : Base) (s : State) (history : List Entry) → Structure base s → IsPairwise AreOther (commits_of s.moves) → IsLegalFrom built s history → IsPairwise AreOther (commits_of (state_from s history).moves)
unfolding IsLegalFrom state_from
once_from built base s [] inv h legal = h
once_from built base s (entry ∷ entries) inv h legal =
    once_from built base (after s entry) entries (structure_after built base s entry inv legal.0) (entry_case s (λ line reply next. IsPairwise AreOther (commits_of next.moves)) (once_cases base s inv h) built entry legal.0) legal.1

pub committed_once : (built : State → Line → Bool) (base : Base) (history : List Entry) → IsLegalWith built base history → IsPairwise AreOther (commits_of (state base history).moves)
committed_once built base history legal = once_from built base (first_state base) history (first_structure base) tt legal

-- of two parts of such a list
parts_other : (front back : List Transaction) (u v : Transaction) → IsPairwise AreOther (front ++ back) → Contains front u → Contains back v → AreOther u v
parts_other [] back u v pairs c d = absurd (contains_none u c)
parts_other (x ∷ xs) back u v pairs c d = by_case (contains_cases x xs u c) (parts_other xs back u v pairs.1) where
  by_case : (x ≡ u) ⊎ Contains xs u → (Contains xs u → Contains back v → AreOther u v) → AreOther u v
  by_case (inl same) later = subst (λ w. AreOther w v) same (all_contains (AreOther x) (xs ++ back) v pairs.0 (contains_back xs back v d))
  by_case (inr e) later = later e d

-- the places in it rise
abbrev IsEarlier : List Transaction → Transaction → Transaction → Type 0
IsEarlier ts u v = (a b : ℕ) → place_in ts u.number ≡ Some a → place_in ts v.number ≡ Some b → a < b

earlier_part : (ts front back : List Transaction) (u v : Transaction) → ts ≡ front ++ back → IsPairwise AreOther ts → Contains front u → Contains back v → IsEarlier ts u v
earlier_part ts front back u v parts pairs c d a b at bt =
    let h : IsPlaceUpTo (front ++ back) u.number (length front) = place_front front back u c in
    let same : a ≡ h.place = some_same (sym at ∙ ap (λ l. place_in l u.number) parts ∙ h.is) in
    let low : h.place ≤ length front = h.high in
    let others : AllByRecursion (λ (t : Transaction). (t.number == v.number) ≡ false) front = all_from (λ (t : Transaction). (t.number == v.number) ≡ false) front (λ t e. ne_eqb t.number v.number (parts_other front back t v (subst (IsPairwise AreOther) parts pairs) e d)) in
    let high : length front < b = place_behind front back v.number b others (ap (λ l. place_in l v.number) (sym parts) ∙ bt) in
    let r : a < b = omega arith in r

places_rise : (ts front back : List Transaction) → ts ≡ front ++ back → IsPairwise AreOther ts → IsPairwise (IsEarlier ts) back
places_rise ts front [] parts pairs = tt
places_rise ts front (x ∷ xs) parts pairs =
    let next : ts ≡ (front ++ x ∷ []) ++ xs = parts ∙ sym (append_assoc front (x ∷ []) xs) in (
      all_from (IsEarlier ts x) xs (λ v c. earlier_part ts (front ++ x ∷ []) xs x v next pairs (contains_back front (x ∷ []) x (contains_here x [])) c),
      places_rise ts (front ++ x ∷ []) xs next pairs,
    )

-- pairs of a list are pairs of its parts
sublist_contains : {A : Type 0} (xs ys : List A) (x : A) → IsSublist xs ys → Contains xs x → Contains ys x
sublist_contains [] ys x h c = absurd (contains_none x c)
sublist_contains (y ∷ xs) [] x h c = absurd h
sublist_contains (y ∷ xs) (z ∷ zs) x (inl (same, rest)) c = by_case (contains_cases y xs x c) (sublist_contains xs zs x rest) where
  by_case : (y ≡ x) ⊎ Contains xs x → (Contains xs x → Contains zs x) → Contains (z ∷ zs) x
  by_case (inl e) later = subst (λ w. Contains (w ∷ zs) x) (sym e ∙ same) (contains_here x zs)
  by_case (inr d) later = contains_later z zs x (later d)
sublist_contains (y ∷ xs) (z ∷ zs) x (inr rest) c = contains_later z zs x (sublist_contains (y ∷ xs) zs x rest c)

sublist_pairs : {A : Type 0} (R : A → A → Type 0) (xs ys : List A) → IsSublist xs ys → IsPairwise R ys → IsPairwise R xs
sublist_pairs R [] ys h pairs = tt
sublist_pairs R (x ∷ xs) [] h pairs = absurd h
sublist_pairs R (x ∷ xs) (y ∷ ys) (inl (same, rest)) pairs = (all_from (R x) xs (λ z c. subst (λ w. R w z) (sym same) (all_contains (R y) ys z pairs.0 (sublist_contains xs ys z rest c))), sublist_pairs R xs ys rest pairs.1)
sublist_pairs R (x ∷ xs) (y ∷ ys) (inr rest) pairs = sublist_pairs R (x ∷ xs) ys rest pairs.1

-- who is in a chain committed in its moves
chain_commits : (q : Cell) (agenda : List Member) (chain : List Transaction) (moves : List Timed) (v : Transaction) → Contains (chain_from q agenda chain moves) v → Contains chain v ⊎ Contains (commits_of moves) v
chain_commits q agenda chain [] v c = inl c
chain_commits q agenda chain (m ∷ ms) v c = by_commit (commit_of m.move) (chain_commits q (agenda_after agenda m.move) (install_if q (agenda_after agenda m.move) chain (commit_of m.move)) ms v c) where
  by_place : (t : Transaction) → Contains (chain ++ t ∷ []) v ⊎ Contains (commits_of ms) v → Contains chain v ⊎ Contains (t ∷ commits_of ms) v
  by_place t (inl d) = by_part (contains_parts chain (t ∷ []) v d) where
    by_part : Contains chain v ⊎ Contains (t ∷ []) v → Contains chain v ⊎ Contains (t ∷ commits_of ms) v
    by_part (inl e) = inl e
    by_part (inr e) = inr (contains_front (t ∷ []) (commits_of ms) v e)
  by_place t (inr d) = inr (contains_later t (commits_of ms) v d)

  by_test : (t : Transaction) (b : Bool) → Contains (cond b (chain ++ t ∷ []) chain) v ⊎ Contains (commits_of ms) v → Contains chain v ⊎ Contains (t ∷ commits_of ms) v
  by_test t true e = by_place t e
  by_test t false (inl d) = inl d
  by_test t false (inr d) = inr (contains_later t (commits_of ms) v d)

  by_commit : (o : Option Transaction) → Contains (install_if q (agenda_after agenda m.move) chain o) v ⊎ Contains (commits_of ms) v → Contains chain v ⊎ Contains (cons_option o (commits_of ms)) v
  by_commit None e = e
  by_commit (Some t) e = by_test t (writes_key (operations t) q && not (has_later (agenda_after agenda m.move) t chain)) e

module _ (built : State → Line → Bool) (base : Base) (history : List Entry) (sound : IsSound base) (legal : IsLegalWith built base history) (q : Cell) where
  abbrev s : State
  s = state base history

  once : IsPairwise AreOther (commits_of s.moves)
  once = committed_once built base history legal

  pub marks_rise : IsPairwise (λ u v. (a b : ℕ) → number_of_commit s.moves u.number ≡ Some a → number_of_commit s.moves v.number ≡ Some b → a < b) (chain_of q s.moves)
  marks_rise = sublist_pairs (IsEarlier (commits_of s.moves)) (chain_of q s.moves) (commits_of s.moves) (installed_in_time built base history sound legal q) (places_rise (commits_of s.moves) [] (commits_of s.moves) refl once)

  module _ (b : LiveBatch) (live : Contains (live_batches s) b) where
    abbrev until : List Timed
    until = moves_until b.tx.number s.moves

    abbrev parts : IsSlotBetween b.tx.number s.moves
    parts = between built base history sound legal b live

    abbrev after_slot : List Transaction
    after_slot = commits_of (parts.slot ∷ moves_since b.tx.number s.moves)

    commits_are : commits_of s.moves ≡ commits_of until ++ after_slot
    commits_are = commits_parts built base history sound legal b live

    -- a version that was installed before the slot
    pub installed_before : (v : Transaction) → Contains (chain_of q until) v → (c : ℕ) × (number_of_commit s.moves v.number ≡ Some c) × (c ≤ length (commits_of until))
    installed_before v c = by_case (chain_commits q [] [] until v c) where
      by_case : Contains [] v ⊎ Contains (commits_of until) v → (c : ℕ) × (number_of_commit s.moves v.number ≡ Some c) × (c ≤ length (commits_of until))
      by_case (inl none) = absurd (contains_none v none)
      by_case (inr d) = let h : IsPlaceUpTo (commits_of until ++ after_slot) v.number (length (commits_of until)) = place_front (commits_of until) after_slot v d in (h.place, ap (λ l. place_in l v.number) commits_are ∙ h.is, h.high)

    -- a version whose number is at most the mark
    pub visible_before : (v : Transaction) → Contains (chain_of q s.moves) v → (c : ℕ) → number_of_commit s.moves v.number ≡ Some c → c ≤ length (commits_of until) → Contains (chain_of q until) v
    visible_before v here c is low =
        by_part (chain_commits q (agenda_from [] until) (chain_of q until) (parts.slot ∷ moves_since b.tx.number s.moves) v (subst (λ l. Contains l v) (ap (chain_of q) parts.parts ∙ chain_split q [] [] until (parts.slot ∷ moves_since b.tx.number s.moves)) here)) where
          by_part : Contains (chain_of q until) v ⊎ Contains after_slot v → Contains (chain_of q until) v
          by_part (inl d) = d
          by_part (inr d) =
              let others : AllByRecursion (λ (t : Transaction). (t.number == v.number) ≡ false) (commits_of until) =
              all_from (λ (t : Transaction). (t.number == v.number) ≡ false) (commits_of until) (λ t e. ne_eqb t.number v.number (parts_other (commits_of until) after_slot t v (subst (IsPairwise AreOther) commits_are once) e d)) in
              let high : length (commits_of until) < c = place_behind (commits_of until) after_slot v.number c others (ap (λ l. place_in l v.number) (sym commits_are) ∙ is) in
              absurd (let none : ⊥ = omega arith in none)
