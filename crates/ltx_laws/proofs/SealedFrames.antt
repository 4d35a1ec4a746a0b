-- The frames of flushes are within the limits of a body.
use Rattle.std.proofs.Common.{◌≡◌, ◌⊎◌, inl, inr, ℕ, suc, ◌+◌, ◌-◌, ◌<◌, ◌≤◌, ◌^◌, Bool, true, false, cond, ◌&&◌, nat_lt, List, [], ◌∷◌, ◌++◌, map, length, filter, Option, Some, None, option_map, refl, sym, subst, append_assoc, arith, le_refl, Contains}
use Rattle.std.proofs.lemmas.Bool.{ltb-true}
use Rattle.std.proofs.lemmas.List.{length-map}
use Rattle.std.specs.List.{cons_option, find, AllByRecursion}
use Rattle.std.specs.declared.cmp.Ordering.{Ordering}
use Rattle.std.specs.declared.cmp.Ordering.TheVariants.{Less, Equal, Greater}
use Rattle.ltx_model.specs.declared.commands.Op.{Op}
use Rattle.ltx_model.specs.declared.commands.Op.TheVariants.{Get, Scan, Put, Del}
use Rattle.ltx_model.specs.declared.commands.Line.{Line}
use Rattle.ltx_model.specs.declared.replies.Entry.{Entry}
use Rattle.ltx_model.specs.declared.replies.Reply.{Reply}
use Rattle.ltx_model.specs.declared.writes.Write.{Write}
use Rattle.ltx_model.specs.Limits.{last_number, last_epoch, last_durable, most_operations}
use Rattle.ltx_model.specs.Lists.{without_first}
use Rattle.ltx_model.specs.Keys.{cell_cmp, put_at, put_in_order}
use Rattle.ltx_model.specs.Operations.{Answered, Transaction, operations, write_of, cell_of_write, put_write, writes_after, writes_of}
use Rattle.ltx_model.specs.Agenda.{Move, Slot, CommitShort, CommitHome, CommitBefore, Leave, Timed, commit_of, commits_of}
use Rattle.ltx_model.specs.States.{Base, IsSound, State, first_state}
use Rattle.ltx_model.specs.Frames.{LogEvent, event_of, writes_in, sealed}
use Rattle.ltx_model.specs.Logs.{frames_from, frames_of, events_of}
use Rattle.ltx_model.specs.Histories.{session_of, operation_of, after, state, state_from}
use Rattle.ltx_model.specs.Answers.{IsLegalWith}
use Rattle.ltx_model.specs.Explained.{Open, is_session, Effect, Begins, Answers, Commits, Ends, Leaves, effect_of, with_answer, answers_if, opens_by, opens_in, opens_after, commit_by, commit_in_session, committed_by, committed_from}
use Rattle.ltx_model.proofs.OneMore.{state-push, legal-parts, legal-first}
use Rattle.ltx_lemmas.proofs.Lists.{some_same, none_some, all_front, all_from, all_contains, all_push, all_without, all_change, all_find, given_here}
use Rattle.ltx_lemmas.proofs.LastWrites.{rising_writes}
use Rattle.ltx_laws.specs.AskedLimits.{WritesWithin, AsksWithin, AreLinesWithin}
use Rattle.ltx_model.specs.Spellings.{IsLogEpoch, IsWithin, AreWithin, IsEvent, IsFrame}
use Rattle.ltx_laws.proofs.Places.{and_left, and_right}
use Rattle.ltx_laws.proofs.Transitions.{entry_case}
use Rattle.ltx_laws.proofs.Told.{commits_told}
use Rattle.ltx_laws.proofs.DropsHistories.{timely_of}
use Rattle.ltx_laws.proofs.DropsFrames.{Grows, grows_cases, sealed_events}
use Rattle.ltx_laws.proofs.LawfulFrames.{sealed_epoch, sealed_closed}
use Rattle.ltx_laws.proofs.FrameEpochs.{sealed_rises}
use Rattle.ltx_laws.proofs.WithinBounds.{AreBounded, bounded_of}
use Rattle.ltx_laws.proofs.Numbered.{AreAmong, numbered_of}
use Rattle.ltx_laws.proofs.MoveCounts.{moves_few}

-- the last writes of operations
put_length : (x : Write) (ys : List Write) → length (put_in_order cell_of_write x ys) ≤ length ys + 1
put_length x [] = le_refl 1
put_length x (y ∷ ys) = by_order (cell_cmp (cell_of_write x) (cell_of_write y)) (put_length x ys) where
  by_order : (o : Ordering) → length (put_in_order cell_of_write x ys) ≤ length ys + 1 → length (put_at o x y ys (put_in_order cell_of_write x ys)) ≤ suc (length ys) + 1
  by_order Less rest = let r : suc (suc (length ys)) ≤ suc (length ys) + 1 = omega arith in r
  by_order Equal rest = let r : suc (length ys) ≤ suc (length ys) + 1 = omega arith in r
  by_order Greater rest = let r : suc (length (put_in_order cell_of_write x ys)) ≤ suc (length ys) + 1 = omega arith in r

put_within : (x : Write) (ys : List Write) → IsWithin x → AllByRecursion IsWithin ys → AllByRecursion IsWithin (put_in_order cell_of_write x ys)
put_within x [] own all = (own, tt)
put_within x (y ∷ ys) own all = by_order (cell_cmp (cell_of_write x) (cell_of_write y)) (put_within x ys own all.1) where
  by_order : (o : Ordering) → AllByRecursion IsWithin (put_in_order cell_of_write x ys) → AllByRecursion IsWithin (put_at o x y ys (put_in_order cell_of_write x ys))
  by_order Less rest = (own, all)
  by_order Equal rest = (own, all.1)
  by_order Greater rest = (all.0, rest)

writes_length : (ws : List Write) (ops : List Op) → length (writes_after ws ops) ≤ length ws + length ops
writes_length ws [] = let r : length ws ≤ length ws + 0 = omega arith in r
writes_length ws (op ∷ ops) = by_write (write_of op) (λ next. writes_length next ops) where
  by_write : (w : Option Write) → ((next : List Write) → length (writes_after next ops) ≤ length next + length ops) → length (writes_after (put_write w ws) ops) ≤ length ws + suc (length ops)
  by_write None rest = let most : length (writes_after ws ops) ≤ length ws + length ops = rest ws in let r : length (writes_after ws ops) ≤ length ws + suc (length ops) = omega arith in r
  by_write (Some w) rest =
      let next : List Write = put_in_order cell_of_write w ws in
      let most : length (writes_after next ops) ≤ length next + length ops = rest next in
      let one : length next ≤ length ws + 1 = put_length w ws in
      let r : length (writes_after next ops) ≤ length ws + suc (length ops) = omega arith in r

writes_within : (ws : List Write) (ops : List Op) → AllByRecursion IsWithin ws → AllByRecursion WritesWithin ops → AllByRecursion IsWithin (writes_after ws ops)
writes_within ws [] all asked = all
writes_within ws (Get table key ∷ ops) all asked = writes_within ws ops all asked.1
writes_within ws (Scan table low high ∷ ops) all asked = writes_within ws ops all asked.1
writes_within ws (Put table key value ∷ ops) all asked =
    let w : Write = record { table = table; key = key; put = Some value } in
    let own : IsWithin w = record { table = asked.0.0; key = asked.0.1; put = asked.0.2 } in
    writes_within (put_in_order cell_of_write w ws) ops (put_within w ws own all) asked.1
writes_within ws (Del table key ∷ ops) all asked =
    let w : Write = record { table = table; key = key; put = None } in
    let own : IsWithin w = record { table = asked.0.0; key = asked.0.1; put = tt } in
    writes_within (put_in_order cell_of_write w ws) ops (put_within w ws own all) asked.1

abbrev IsAskedBy : Transaction → Type 0
IsAskedBy t = AllByRecursion (λ a. WritesWithin a.op) t.answered

transaction_within : (t : Transaction) → IsAskedBy t → length t.answered ≤ most_operations → AreWithin (writes_in t)
transaction_within t asked few = record {
  count = (
      let most : length (writes_of (operations t)) ≤ 0 + length (operations t) = writes_length [] (operations t) in
      let same : length (operations t) ≡ length t.answered = length-map t.answered (λ a. a.op) in
      let r : length (writes_of (operations t)) ≤ most_operations = omega arith in r);
  each = writes_within [] (operations t) tt (asked_all t.answered asked);
  rising = rising_writes [] (operations t) tt;
} where
  asked_all : (as' : List Answered) → AllByRecursion (λ a. WritesWithin a.op) as' → AllByRecursion WritesWithin (map (λ a. a.op) as')
  asked_all [] all = tt
  asked_all (a ∷ rest) all = (all.0, asked_all rest all.1)

-- what the entries commit was asked by their lines
abbrev AreAsked : List Open → Type 0
AreAsked opens = AllByRecursion (λ o. IsAskedBy o.tx) opens

answer_asked : (op : Option Op) (reply : Reply) (session : ℕ) (opens : List Open) → AsksWithin op → AreAsked opens → AreAsked (answers_if op reply session opens)
answer_asked None reply session opens asked h = h
answer_asked (Some op) reply session opens asked h =
    all_change (λ (o : Open). IsAskedBy o.tx) (λ (o : Open). IsAskedBy o.tx) (is_session session) (with_answer (record { op = op; reply = reply })) opens (λ o all. all)
    (λ o found all. all_push (λ (a : Answered). WritesWithin a.op) o.tx.answered (record { op = op; reply = reply }) all asked) h

effect_asked : (f : Effect) (op : Option Op) (reply : Reply) (session : ℕ) (opens : List Open) → AsksWithin op → AreAsked opens → AreAsked (opens_by f op reply session opens)
effect_asked (Begins n) op reply session opens asked h =
    all_push (λ (o : Open). IsAskedBy o.tx) (without_first (is_session session) opens) (record { session = session; tx = record { number = n; answered = [] } }) (all_without (λ (o : Open). IsAskedBy o.tx) (is_session session) opens h) tt
effect_asked Answers op reply session opens asked h = answer_asked op reply session opens asked h
effect_asked Commits op reply session opens asked h = all_without (λ (o : Open). IsAskedBy o.tx) (is_session session) opens h
effect_asked Ends op reply session opens asked h = all_without (λ (o : Open). IsAskedBy o.tx) (is_session session) opens h
effect_asked Leaves op reply session opens asked h = h

opens_asked : (opens : List Open) (entry : Entry) → AsksWithin (operation_of entry.line) → AreAsked opens → AreAsked (opens_after opens entry)
opens_asked opens entry asked h = by_session (session_of entry.line) where
  by_session : (f : Option ℕ) → AreAsked (opens_in f entry opens)
  by_session None = h
  by_session (Some session) = effect_asked (effect_of entry.reply) (operation_of entry.line) entry.reply session opens asked h

commit_asked : (f : Option ℕ) (reply : Reply) (opens : List Open) → AreAsked opens → (t : Transaction) → commit_in_session f reply opens ≡ Some t → IsAskedBy t
commit_asked None reply opens h t e = absurd (none_some e)
commit_asked (Some session) reply opens h t e = by_effect (effect_of reply) e where
  by_find : (f : Option Open) → find (is_session session) opens ≡ f → option_map (λ o. o.tx) f ≡ Some t → IsAskedBy t
  by_find None is e = absurd (none_some e)
  by_find (Some o) is e = subst IsAskedBy (some_same e) (all_find (λ (u : Open). IsAskedBy u.tx) (is_session session) opens o h is)

  by_effect : (f : Effect) → commit_by f session opens ≡ Some t → IsAskedBy t
  by_effect (Begins n) e = absurd (none_some e)
  by_effect Answers e = absurd (none_some e)
  by_effect Commits e = by_find (find (is_session session) opens) refl e
  by_effect Ends e = absurd (none_some e)
  by_effect Leaves e = absurd (none_some e)

commits_asked : (opens : List Open) (history : List Entry) → AreLinesWithin history → AreAsked opens → AllByRecursion IsAskedBy (committed_from opens history)
unfolding committed_from
commits_asked opens [] within h = tt
commits_asked opens (entry ∷ entries) within h = by_commit (committed_by opens entry) refl (commits_asked (opens_after opens entry) entries within.1 (opens_asked opens entry within.0 h)) where
  by_commit : (c : Option Transaction) → committed_by opens entry ≡ c → AllByRecursion IsAskedBy (committed_from (opens_after opens entry) entries) → AllByRecursion IsAskedBy (cons_option c (committed_from (opens_after opens entry) entries))
  by_commit None is rest = rest
  by_commit (Some t) is rest = (commit_asked (session_of entry.line) entry.reply opens h t is, rest)

-- the events of moves
abbrev IsFine : ℕ → ℕ → Timed → Type 0
IsFine low high m = AreAmong low high m.move × ((t : Transaction) → commit_of m.move ≡ Some t → AreWithin (writes_in t))

abbrev events_between : ℕ → ℕ → List Timed → List LogEvent
events_between lower epoch moves = events_of (filter (λ m. nat_lt lower m.epoch && nat_lt m.epoch epoch) moves)

events_fine : (lower epoch low high : ℕ) → high ≤ last_number → epoch ≤ last_epoch → (moves : List Timed) → AllByRecursion (IsFine low high) moves
    → AllByRecursion IsEvent (events_of (filter (λ m. nat_lt lower m.epoch && nat_lt m.epoch epoch) moves))
events_fine lower epoch low high number time [] fine = tt
events_fine lower epoch low high number time (m ∷ moves) fine = by_test (nat_lt lower m.epoch && nat_lt m.epoch epoch) refl (events_fine lower epoch low high number time moves fine.1) where
  is_tx : (n : ℕ) → (low < n) × (n ≤ high) → (0 < n) × (n ≤ last_number)
  is_tx n (above, bound) = ((let r : 0 < n = omega arith in r), (let r : n ≤ last_number = omega arith in r))

  is_epoch : lower < m.epoch → m.epoch < epoch → IsLogEpoch m.epoch
  is_epoch above under = ((let r : 0 < m.epoch = omega arith in r), (let r : m.epoch ≤ last_durable = omega arith in r))

  by_move : (v : Move) → IsLogEpoch m.epoch → AreAmong low high v → ((t : Transaction) → commit_of v ≡ Some t → AreWithin (writes_in t)) → AllByRecursion IsEvent (events_between lower epoch moves) → AllByRecursion IsEvent (cons_option (event_of m.epoch v) (events_between lower epoch moves))
  by_move (Slot n) at among within rest = (is_tx n among, rest)
  by_move (CommitShort t) at among within rest = ((is_tx t.number among, at, within t refl), rest)
  by_move (CommitHome t) at among within rest = ((is_tx t.number among, at, tt, within t refl), rest)
  by_move (CommitBefore t p) at among within rest = ((is_tx t.number among.0, at, is_tx p among.1, within t refl), rest)
  by_move (Leave n) at among within rest = rest

  by_test : (b : Bool) → (nat_lt lower m.epoch && nat_lt m.epoch epoch) ≡ b → AllByRecursion IsEvent (events_between lower epoch moves) → AllByRecursion IsEvent (events_of (cond b (m ∷ filter (λ x. nat_lt lower x.epoch && nat_lt x.epoch epoch) moves) (filter (λ x. nat_lt lower x.epoch && nat_lt x.epoch epoch) moves)))
  by_test false is rest = rest
  by_test true is rest =
      by_move m.move (is_epoch (ltb-true lower m.epoch (and_left (nat_lt lower m.epoch) (nat_lt m.epoch epoch) is)) (ltb-true m.epoch epoch (and_right (nat_lt lower m.epoch) (nat_lt m.epoch epoch) is))) fine.0.0 fine.0.1 rest

events_few : (lower epoch : ℕ) (moves : List Timed) → length (events_of (filter (λ m. nat_lt lower m.epoch && nat_lt m.epoch epoch) moves)) ≤ length moves
events_few lower epoch [] = le_refl 0
events_few lower epoch (m ∷ moves) = by_test (nat_lt lower m.epoch && nat_lt m.epoch epoch) (events_few lower epoch moves) where
  by_event : (e : Option LogEvent) → length (events_between lower epoch moves) ≤ length moves → length (cons_option e (events_between lower epoch moves)) ≤ suc (length moves)
  by_event None few = let r : length (events_between lower epoch moves) ≤ suc (length moves) = omega arith in r
  by_event (Some e) few = let r : suc (length (events_between lower epoch moves)) ≤ suc (length moves) = omega arith in r

  by_test : (b : Bool) → length (events_between lower epoch moves) ≤ length moves → length (events_of (cond b (m ∷ filter (λ x. nat_lt lower x.epoch && nat_lt x.epoch epoch) moves) (filter (λ x. nat_lt lower x.epoch && nat_lt x.epoch epoch) moves))) ≤ suc (length moves)
  by_test false few = let r : length (events_between lower epoch moves) ≤ suc (length moves) = omega arith in r
  by_test true few = by_event (event_of m.epoch m.move) few

-- over histories
module _ (built : State → Line → Bool) (base : Base) (history : List Entry) (sound : IsSound base) (legal : IsLegalWith built base history) (within : AreLinesWithin history) where
  abbrev s : State
  s = state base history

  bounded : AreBounded s
  bounded = bounded_of built base history sound legal

  asked : AllByRecursion IsAskedBy (commits_of s.moves)
  asked = subst (AllByRecursion IsAskedBy) (sym (commits_told built base history legal)) (commits_asked [] history within tt)

  fine : AllByRecursion (IsFine base.last s.last) s.moves
  fine = all_from (IsFine base.last s.last) s.moves (λ m here. (
    all_contains (λ (x : Timed). AreAmong base.last s.last x.move) s.moves m (numbered_of built base history legal) here,
    λ t is. let c : Contains (commits_of s.moves) t = given_here (λ (x : Timed). commit_of x.move) s.moves m t here is in
        transaction_within t (all_contains IsAskedBy (commits_of s.moves) t asked c) (all_contains (λ (u : Transaction). length u.answered ≤ most_operations) (commits_of s.moves) t bounded.done c),
  ))

  pub sealed_fits : s.durable < s.epoch - 1 → IsFrame (sealed s)
  sealed_fits ahead = record {
    epoch = subst IsLogEpoch (sym (sealed_epoch s)) (
        let most : s.epoch ≤ last_epoch = bounded.epoch in
        ((let r : 0 < s.epoch - 1 = omega arith in r), (let r : s.epoch - 1 ≤ last_durable = omega arith in r)));
    count = subst (λ es. length es < 2 ^ 64) (sym (sealed_events s)) (
        let few : length (events_of (filter (λ m. nat_lt s.durable m.epoch && nat_lt m.epoch s.epoch) s.moves)) ≤ length s.moves = events_few s.durable s.epoch s.moves in
        let moves : length s.moves ≤ s.last + s.last = moves_few built base history legal in
        let most : s.last ≤ 9223372036854775807 = bounded.last in
        let r : length (events_of (filter (λ m. nat_lt s.durable m.epoch && nat_lt m.epoch s.epoch) s.moves)) < 18446744073709551616 = omega arith in r);
    events = subst (AllByRecursion IsEvent) (sym (sealed_events s)) (events_fine s.durable s.epoch base.last s.last bounded.last bounded.epoch s.moves fine);
    rising = sealed_rises s (timely_of built base history legal).rising;
    closed = sealed_closed s;
  }

-- the frames of a history
frames_fit : (built : State → Line → Bool) (base : Base) (past rest : List Entry) → IsSound base → IsLegalWith built base (past ++ rest) → AreLinesWithin (past ++ rest) → AllByRecursion IsFrame (frames_from (state base past) rest)
frames_fit built base past [] sound legal within = tt
frames_fit built base past (entry ∷ entries) sound legal within =
    let s : State = state base past in
    let parts = legal-parts built (first_state base) past (entry ∷ entries) legal in
    let first = legal-first built s entry entries parts.1 in
    let g : Grows s (after s entry) = entry_case s (λ line reply s'. Grows s s') (grows_cases s) built entry first.0 in
    let joined : (past ++ entry ∷ []) ++ entries ≡ past ++ entry ∷ entries = append_assoc past (entry ∷ []) entries in
    let then : AllByRecursion IsFrame (frames_from (after s entry) entries) =
    subst (λ (x : State). AllByRecursion IsFrame (frames_from x entries)) (state-push (first_state base) past entry)
    (frames_fit built base (past ++ entry ∷ []) entries sound (subst (IsLegalWith built base) (sym joined) legal) (subst AreLinesWithin (sym joined) within)) in
    by_test (nat_lt s.durable (after s entry).durable) refl g.durable
    (sealed_fits built base past sound parts.0 (all_front (λ (e : Entry). AsksWithin (operation_of e.line)) past (entry ∷ entries) within)) then where
      by_test : (b : Bool) → nat_lt (state base past).durable (after (state base past) entry).durable ≡ b
          → ((after (state base past) entry).durable ≡ (state base past).durable) ⊎ (((after (state base past) entry).durable ≡ (state base past).epoch - 1) × ((after (state base past) entry).moves ≡ (state base past).moves))
          → ((state base past).durable < (state base past).epoch - 1 → IsFrame (sealed (state base past))) → AllByRecursion IsFrame (frames_from (after (state base past) entry) entries)
          → AllByRecursion IsFrame (cond b (sealed (state base past) ∷ frames_from (after (state base past) entry) entries) (frames_from (after (state base past) entry) entries))
      by_test false is which own rest = rest
      by_test true is (inl same) own rest =
          let less : (state base past).durable < (after (state base past) entry).durable = ltb-true (state base past).durable (after (state base past) entry).durable is in
          absurd (let none : ⊥ = omega arith in none)
      by_test true is (inr (last, moves)) own rest =
          let less : (state base past).durable < (after (state base past) entry).durable = ltb-true (state base past).durable (after (state base past) entry).durable is in
          (own (let r : (state base past).durable < (state base past).epoch - 1 = omega arith in r), rest)

pub written_fit : (built : State → Line → Bool) (base : Base) (history : List Entry) → IsSound base → IsLegalWith built base history → AreLinesWithin history → AllByRecursion IsFrame (frames_of base history)
unfolding state_from
written_fit built base history sound legal within = frames_fit built base [] history sound legal within
