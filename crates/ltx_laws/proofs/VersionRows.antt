-- Versions over histories: the newest installed one gives the latest row, and the newest at a batch's slot the row of its snapshot.
use Rattle.std.proofs.Common.{◌≡◌, ◌⊎◌, inl, inr, ℕ, Bool, true, false, cond, not, ◌&&◌, ◌||◌, ◌==◌, List, [], ◌∷◌, ◌++◌, Contains, Option, Some, None, refl, sym, ap, ◌∙◌, subst, append_assoc, append-nil}
use Rattle.std.proofs.lemmas.Bool.{both_ways, or_right, ne_eqb, eq-eqb}
use Rattle.std.specs.List.{list_any, cons_option, AllByRecursion}
use Rattle.ltx_model.specs.declared.commands.Line.{Line}
use Rattle.ltx_model.specs.declared.replies.Entry.{Entry}
use Rattle.ltx_model.specs.declared.rows.StoredRow.{StoredRow}
use Rattle.ltx_model.specs.Lists.{from_first, IsPairwise}
use Rattle.ltx_model.specs.Keys.{Cell}
use Rattle.ltx_model.specs.StoredRows.{row_at}
use Rattle.ltx_model.specs.Operations.{Transaction, operations, writes_key}
use Rattle.ltx_model.specs.Rows.{run}
use Rattle.ltx_model.specs.Agenda.{Member, LiveSlot, Committed, is_member, serial, part_before, agenda_after, agenda_from, Timed, is_slot, commit_of, commits_of, moves_until}
use Rattle.ltx_model.specs.States.{Active, Base, IsSound, State, LiveBatch, live_batches, latest, transaction_of, as_live}
use Rattle.ltx_model.specs.Histories.{state}
use Rattle.ltx_model.specs.Answers.{IsLegalWith}
use Rattle.ltx_model.specs.Versions.{has_later, install, install_if, chain_from, chain_of, newest, version_row}
use Rattle.ltx_lemmas.specs.Places.{is_before, AreApart}
use Rattle.ltx_lemmas.proofs.Lists.{all_contains, any_not_all, contains_here, contains_cases, contains_none, contains_back, contains_parts, parts_join, given_item}
use Rattle.ltx_lemmas.proofs.Members.{apart_one, apart_tail, before_asym}
use Rattle.ltx_lemmas.proofs.Serials.{serial_member, serial_is_member}
use Rattle.std.specs.Prelude.{option_map}
use Rattle.ltx_model.specs.Batches.{last_writer_from, last_writer}
use Rattle.ltx_lemmas.proofs.Searches.{last_writer_silent}
use Rattle.ltx_laws.proofs.LastWriters.{found_by}
use Rattle.ltx_lemmas.proofs.Runs.{last_to_write, last_writes, silent_run}
use Rattle.ltx_laws.specs.Structure.{StandsAs, Stands}
use Rattle.ltx_laws.specs.Orders.{IsPrefix, IsSublist}
use Rattle.ltx_laws.specs.Drops.{AreLawful}
use Rattle.ltx_laws.proofs.Structures.{structure_of}
use Rattle.ltx_laws.proofs.Floors.{open_live}
use Rattle.ltx_laws.proofs.DropsHistories.{timely_of}
use Rattle.ltx_laws.proofs.DropsLists.{logged_all, lawful_front}
use Rattle.ltx_laws.proofs.VersionChains.{AreVersions, versions_all, chain_prefix, chain_split, newest_in}

-- of the order, the members of a front part stand before the next one in the agenda
front_before : (ms : List Member) (front : List Transaction) (t : Transaction) (back : List Transaction) → AreApart ms → serial ms ≡ front ++ t ∷ back → (v : Transaction) → Contains front v → is_before ms v.number t.number ≡ true
front_before [] front t back apart e v c = absurd (contains_none t (subst (λ l. Contains l t) (sym e) (contains_back front (t ∷ back) t (contains_here t back))))
front_before (LiveSlot k ∷ ms) front t back apart e v c =
    let tail = apart_tail (LiveSlot k) ms apart in
    let there : is_member ms t.number ≡ true = serial_is_member ms t (subst (λ l. Contains l t) (sym e) (contains_back front (t ∷ back) t (contains_here t back))) in
    let other : (k == t.number) ≡ false = ne_eqb k t.number (λ same. both_ways (is_member ms k) tail.0 (subst (λ n. is_member ms n ≡ true) (sym same) there)) in
    ap (λ b. is_member (cond b [] (LiveSlot k ∷ part_before t.number ms)) v.number) other ∙ or_right (k == v.number) (is_before ms v.number t.number) (front_before ms front t back tail.1 e v c)
front_before (Committed u ∷ ms) [] t back apart e v c = absurd (contains_none v c)
front_before (Committed u ∷ ms) (x ∷ front) t back apart e v c =
    let tail = apart_tail (Committed u) ms apart in
    let heads : u ≡ x = head_same e in
    let tails : serial ms ≡ front ++ t ∷ back = tail_same e in
    let there : is_member ms t.number ≡ true = serial_is_member ms t (subst (λ l. Contains l t) (sym tails) (contains_back front (t ∷ back) t (contains_here t back))) in
    let other : (u.number == t.number) ≡ false = ne_eqb u.number t.number (λ same. both_ways (is_member ms u.number) tail.0 (subst (λ n. is_member ms n ≡ true) (sym same) there)) in
    ap (λ b. is_member (cond b [] (Committed u ∷ part_before t.number ms)) v.number) other ∙ by_place (contains_cases x front v c) heads (front_before ms front t back tail.1 tails v) where
      head_same : {A : Type 0} {x y : A} {xs ys : List A} → x ∷ xs ≡ y ∷ ys → x ≡ y
      head_same e = cc

      tail_same : {A : Type 0} {x y : A} {xs ys : List A} → x ∷ xs ≡ y ∷ ys → xs ≡ ys
      tail_same e = cc

      by_place : (x ≡ v) ⊎ Contains front v → u ≡ x → (Contains front v → is_before ms v.number t.number ≡ true) → ((u.number == v.number) || is_before ms v.number t.number) ≡ true
      by_place (inl same) heads later = ap (λ b. b || is_before ms v.number t.number) (eq-eqb u.number v.number (ap (λ (y : Transaction). y.number) (heads ∙ same)))
      by_place (inr d) heads later = or_right (u.number == v.number) (is_before ms v.number t.number) (later d)

-- The newest version is the last writer of the order: the order is silent on the key and there is none, or it is the last one there that writes it.
record IsNewestWriter (q : Cell) (ts : List Transaction) (chain : List Transaction) : Type 0 where
  front : List Transaction
  tx : Transaction
  back : List Transaction
  parts : ts ≡ front ++ tx ∷ back
  writes : writes_key (operations tx) q ≡ true
  silent : AllByRecursion (λ t. writes_key (operations t) q ≡ false) back
  newest_is : newest chain ≡ Some tx

newest_cases : (q : Cell) (agenda : List Member) (chain : List Transaction) → AreApart agenda → AreVersions q agenda chain
    → ((newest chain ≡ None) × AllByRecursion (λ t. writes_key (operations t) q ≡ false) (serial agenda)) ⊎ IsNewestWriter q (serial agenda) chain
newest_cases q agenda chain apart h = by_any (list_any (λ t. writes_key (operations t) q) (serial agenda)) refl where
  by_none : (o : Option Transaction) → newest chain ≡ o → AllByRecursion (λ t. writes_key (operations t) q ≡ false) (serial agenda) → newest chain ≡ None
  by_none None is silent = is
  by_none (Some v) is silent =
      let here = newest_in chain v is in
      let member = all_contains (λ u. Contains (serial agenda) u) chain v h.member here in
      absurd (let no : ⊥ = both_ways (writes_key (operations v) q) (all_contains (λ t. writes_key (operations t) q ≡ false) (serial agenda) v silent member) (all_contains (λ u. writes_key (operations u) q ≡ true) chain v h.writes here) in no)

  committed_same : {t u : Transaction} → ◌≡◌ {A = Member} (Committed t) (Committed u) → t ≡ u
  committed_same e = cc

  by_place : (front : List Transaction) (t : Transaction) (back : List Transaction) → serial agenda ≡ front ++ t ∷ back → AllByRecursion (λ u. writes_key (operations u) q ≡ false) back → Contains (serial agenda) t
      → (v : Transaction) → newest chain ≡ Some v → (t.number ≡ v.number) ⊎ (is_before agenda t.number v.number ≡ true) → t ≡ v
  by_place front t back parts silent there v is (inl same) =
      committed_same (apart_one agenda (Committed t) (Committed v) apart (serial_member agenda t there) (serial_member agenda v (all_contains (λ u. Contains (serial agenda) u) chain v h.member (newest_in chain v is))) same)
  by_place front t back parts silent there v is (inr before) =
      let here = newest_in chain v is in
      let member = all_contains (λ u. Contains (serial agenda) u) chain v h.member here in
      by_part (contains_parts front (t ∷ back) v (subst (λ l. Contains l v) parts member)) (all_contains (λ u. writes_key (operations u) q ≡ true) chain v h.writes here) where
        by_part : Contains front v ⊎ Contains (t ∷ back) v → writes_key (operations v) q ≡ true → t ≡ v
        by_part (inl c) w = absurd (let no : ⊥ = both_ways (is_before agenda v.number t.number) (before_asym agenda t.number v.number before) (front_before agenda front t back apart parts v c) in no)
        by_part (inr c) w = by_item (contains_cases t back v c) where
          by_item : (t ≡ v) ⊎ Contains back v → t ≡ v
          by_item (inl e) = e
          by_item (inr d) = absurd (let no : ⊥ = both_ways (writes_key (operations v) q) (all_contains (λ u. writes_key (operations u) q ≡ false) back v silent d) w in no)

  by_any : (b : Bool) → list_any (λ t. writes_key (operations t) q) (serial agenda) ≡ b
      → ((newest chain ≡ None) × AllByRecursion (λ t. writes_key (operations t) q ≡ false) (serial agenda)) ⊎ IsNewestWriter q (serial agenda) chain
  by_any false none = let silent = any_not_all (λ t. writes_key (operations t) q) (serial agenda) none in inl (by_none (newest chain) refl silent, silent)
  by_any true some =
      let (front, t, back, parts, writes, silent) = last_to_write q (serial agenda) some in
      let there : Contains (serial agenda) t = subst (λ l. Contains l t) (sym parts) (contains_back front (t ∷ back) t (contains_here t back)) in
      let (v, is, place) = h.last t there writes in
      let same : t ≡ v = by_place front t back parts silent there v is place in
      inr (record { front = front; tx = t; back = back; parts = parts; writes = writes; silent = silent; newest_is = is ∙ ap Some (sym same) })

newest_row : (q : Cell) (rows : List StoredRow) (agenda : List Member) (chain : List Transaction) → AreApart agenda → AreVersions q agenda chain → row_at (run rows (serial agenda)) q ≡ version_row rows q (newest chain)
newest_row q rows agenda chain apart h = by_case (newest_cases q agenda chain apart h) where
  by_case : ((newest chain ≡ None) × AllByRecursion (λ t. writes_key (operations t) q ≡ false) (serial agenda)) ⊎ IsNewestWriter q (serial agenda) chain → row_at (run rows (serial agenda)) q ≡ version_row rows q (newest chain)
  by_case (inl (none, silent)) = silent_run q rows (serial agenda) silent ∙ sym (ap (version_row rows q) none)
  by_case (inr n) = ap (λ l. row_at (run rows l) q) n.parts ∙ last_writes q rows n.front n.tx n.back n.writes n.silent ∙ sym (ap (version_row rows q) n.newest_is)

newest_number : (q : Cell) (agenda : List Member) (chain : List Transaction) → AreApart agenda → AreVersions q agenda chain → option_map (λ t. t.number) (newest chain) ≡ last_writer_from None q (serial agenda)
newest_number q agenda chain apart h = by_case (newest_cases q agenda chain apart h) where
  by_case : ((newest chain ≡ None) × AllByRecursion (λ t. writes_key (operations t) q ≡ false) (serial agenda)) ⊎ IsNewestWriter q (serial agenda) chain → option_map (λ t. t.number) (newest chain) ≡ last_writer_from None q (serial agenda)
  by_case (inl (none, silent)) = ap (option_map (λ (t : Transaction). t.number)) none ∙ sym (last_writer_silent None q (serial agenda) silent)
  by_case (inr n) = ap (option_map (λ (t : Transaction). t.number)) n.newest_is
      ∙ sym (found_by q (serial agenda) n.tx.number (record { front = n.front; tx = n.tx; back = n.back; parts = n.parts; number = refl; writes = n.writes; silent = n.silent }))

-- the chain in the order of commits
sublist_push : {A : Type 0} (xs ys : List A) (y : A) → IsSublist xs ys → IsSublist xs (ys ++ y ∷ [])
sublist_push [] ys y h = tt
sublist_push (x ∷ xs) [] y h = absurd h
sublist_push (x ∷ xs) (z ∷ zs) y (inl (e, rest)) = inl (e, sublist_push xs zs y rest)
sublist_push (x ∷ xs) (z ∷ zs) y (inr rest) = inr (sublist_push (x ∷ xs) zs y rest)

sublist_both : {A : Type 0} (xs ys : List A) (y : A) → IsSublist xs ys → IsSublist (xs ++ y ∷ []) (ys ++ y ∷ [])
sublist_both [] [] y h = inl (refl, tt)
sublist_both [] (z ∷ zs) y h = inr (sublist_both [] zs y tt)
sublist_both (x ∷ xs) [] y h = absurd h
sublist_both (x ∷ xs) (z ∷ zs) y (inl (e, rest)) = inl (e, sublist_both xs zs y rest)
sublist_both (x ∷ xs) (z ∷ zs) y (inr rest) = inr (sublist_both (x ∷ xs) zs y rest)

in_time_from : (q : Cell) (agenda : List Member) (chain done : List Transaction) (moves : List Timed) → IsSublist chain done → IsSublist (chain_from q agenda chain moves) (done ++ commits_of moves)
in_time_from q agenda chain done [] h = subst (IsSublist chain) (sym (append-nil done)) h
in_time_from q agenda chain done (m ∷ ms) h = by_commit (commit_of m.move) (λ next more g. in_time_from q (agenda_after agenda m.move) next more ms g) where
  by_commit : (o : Option Transaction) → ((next more : List Transaction) → IsSublist next more → IsSublist (chain_from q (agenda_after agenda m.move) next ms) (more ++ commits_of ms))
      → IsSublist (chain_from q (agenda_after agenda m.move) (install_if q (agenda_after agenda m.move) chain o) ms) (done ++ cons_option o (commits_of ms))
  by_commit None later = later chain done h
  by_commit (Some t) later = subst (IsSublist (chain_from q (agenda_after agenda m.move) (install q (agenda_after agenda m.move) chain t) ms)) (append_assoc done (t ∷ []) (commits_of ms))
      (later (install q (agenda_after agenda m.move) chain t) (done ++ t ∷ []) (by_test (writes_key (operations t) q && not (has_later (agenda_after agenda m.move) t chain)))) where
        by_test : (b : Bool) → IsSublist (cond b (chain ++ t ∷ []) chain) (done ++ t ∷ [])
        by_test true = sublist_both chain done t h
        by_test false = sublist_push chain done t h

pub installed_in_time : (built : State → Line → Bool) (base : Base) (history : List Entry) → IsSound base → IsLegalWith built base history → (q : Cell) → IsSublist (chain_of q (state base history).moves) (commits_of (state base history).moves)
installed_in_time built base history sound legal q = in_time_from q [] [] [] (state base history).moves tt

-- over histories
module _ (built : State → Line → Bool) (base : Base) (history : List Entry) (sound : IsSound base) (legal : IsLegalWith built base history) (q : Cell) where
  lawful : AreLawful [] (state base history).moves
  lawful = (timely_of built base history legal).lawful

  agenda_is : (state base history).agenda ≡ agenda_from [] (state base history).moves
  agenda_is = (structure_of built base history legal).moves

  versions : AreVersions q (state base history).agenda (chain_of q (state base history).moves)
  versions = subst (λ ms. AreVersions q ms (chain_of q (state base history).moves)) (sym agenda_is) (versions_all q (state base history).moves lawful)

  -- installed versions rise in the agenda
  pub installed_in_agenda : IsPairwise (λ u v. is_member (part_before v.number (state base history).agenda) u.number ≡ true) (chain_of q (state base history).moves)
  installed_in_agenda = versions.rising

  -- and they are committed and write the key
  pub installed_writers : AllByRecursion (λ v. Contains (serial (state base history).agenda) v × (writes_key (operations v) q ≡ true)) (chain_of q (state base history).moves)
  installed_writers = both (chain_of q (state base history).moves) versions.member versions.writes where
    both : (ts : List Transaction) → AllByRecursion (λ v. Contains (serial (state base history).agenda) v) ts → AllByRecursion (λ v. writes_key (operations v) q ≡ true) ts → AllByRecursion (λ v. Contains (serial (state base history).agenda) v × (writes_key (operations v) q ≡ true)) ts
    both [] ms ws = tt
    both (t ∷ ts) ms ws = ((ms.0, ws.0), both ts ms.1 ws.1)

  -- the newest one gives the latest row
  pub newest_is_latest : row_at (latest (state base history)) q ≡ version_row base.rows q (newest (chain_of q (state base history).moves))
  newest_is_latest =
      let moves = (state base history).moves in
      (λ i. row_at (run ((structure_of built base history legal).rows i) (serial (agenda_is i))) q)
      ∙ newest_row q base.rows (agenda_from [] moves) (chain_of q moves) (logged_all moves lawful).apart (versions_all q moves lawful)

  pub newest_is_last : option_map (λ t. t.number) (newest (chain_of q (state base history).moves)) ≡ last_writer_from None q (serial (state base history).agenda)
  newest_is_last =
      let moves = (state base history).moves in
      newest_number q (agenda_from [] moves) (chain_of q moves) (logged_all moves lawful).apart (versions_all q moves lawful) ∙ ap (λ ms. last_writer_from None q (serial ms)) (sym agenda_is)

  -- the moves before a slot begin all moves
  until_parts : (n : ℕ) → (state base history).moves ≡ moves_until n (state base history).moves ++ from_first (λ m. is_slot n m.move) (state base history).moves
  until_parts n = sym (parts_join (λ (m : Timed). is_slot n m.move) (state base history).moves)

  module _ (batch : LiveBatch) (live : Contains (live_batches (state base history)) batch) where
    abbrev before : List Timed
    before = moves_until batch.tx.number (state base history).moves

    first : AreLawful [] before
    first = lawful_front [] before (from_first (λ (m : Timed). is_slot batch.tx.number m.move) (state base history).moves) (subst (AreLawful []) (until_parts batch.tx.number) lawful)

    taken : batch.snapshot ≡ serial (agenda_from [] before)
    taken =
        let s = state base history in
        let (o, there, is) = given_item (λ (o : Active). as_live o.kind (transaction_of o)) s.active batch live in
        let (kind, same) = open_live o.kind o batch is in
        let number : o.number ≡ batch.tx.number = ap (λ (b : LiveBatch). b.tx.number) same in
        let stands = subst (λ k. StandsAs s.agenda s.moves k o.number o.steps) kind (all_contains (Stands s.agenda s.moves) s.active o (structure_of built base history legal).stands there) in
        stands.taken ∙ ap (λ n. serial (agenda_from [] (moves_until n s.moves))) number

    -- the newest one of those that were installed before its slot gives the row of its snapshot
    pub newest_is_snapshot : row_at (run base.rows batch.snapshot) q ≡ version_row base.rows q (newest (chain_of q (moves_until batch.tx.number (state base history).moves)))
    newest_is_snapshot = ap (λ l. row_at (run base.rows l) q) taken ∙ newest_row q base.rows (agenda_from [] before) (chain_of q before) (logged_all before first).apart (versions_all q before first)

    -- and is the last writer of its snapshot
    pub newest_is_last_before : option_map (λ t. t.number) (newest (chain_of q (moves_until batch.tx.number (state base history).moves))) ≡ last_writer batch q
    newest_is_last_before = newest_number q (agenda_from [] before) (chain_of q before) (logged_all before first).apart (versions_all q before first) ∙ ap (last_writer_from None q) (sym taken)

    -- and these begin the chain
    pub chain_before_slot : IsPrefix (chain_of q (moves_until batch.tx.number (state base history).moves)) (chain_of q (state base history).moves)
    chain_before_slot =
        let s = state base history in
        let before : List Timed = moves_until batch.tx.number s.moves in
        let rest : List Timed = from_first (λ (m : Timed). is_slot batch.tx.number m.move) s.moves in
        subst (IsPrefix (chain_of q before)) (sym (ap (chain_of q) (until_parts batch.tx.number) ∙ chain_split q [] [] before rest)) (chain_prefix q (agenda_from [] before) (chain_of q before) rest)
