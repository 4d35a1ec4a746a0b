-- Places and refusals, said of what is printed.
use Rattle.std.proofs.Common.{◌≡◌, ◌⊎◌, inl, inr, ℕ, ◌<◌, ◌≤◌, Bool, true, ◌==◌, nat_le, List, [], ◌∷◌, ◌++◌, Some, sym, ap, ◌∙◌, subst, append_assoc, arith, le_refl, Contains}
use Rattle.std.proofs.lemmas.Bool.{leb-true}
use Rattle.std.proofs.lemmas.List.Sorted.{Contains-permutation, IsPermutation-sym}
use Rattle.std.specs.List.{list_any, AllByRecursion}
use Rattle.ltx_model.specs.declared.commands.Line.{Line}
use Rattle.ltx_model.specs.declared.replies.Entry.{Entry}
use Rattle.ltx_model.specs.declared.replies.Reply.TheVariants as replies
use Rattle.ltx_model.specs.Lists.{from_first}
use Rattle.ltx_model.specs.Operations.{Transaction}
use Rattle.ltx_model.specs.Agenda.{Move, Slot, CommitShort, CommitHome, CommitBefore, Leave, Timed, agenda_from, commit_of, commits_of, is_slot, moves_until, serial}
use Rattle.ltx_model.specs.States.{IsShort, Active, transaction_of, Base, IsSound, State, first_state, order, serial_through}
use Rattle.ltx_model.specs.Histories.{state}
use Rattle.ltx_model.specs.Answers.{IsLegalWith}
use Rattle.ltx_model.specs.Explained.{committed_by, committed_in, opens_from, effect_of}
use Rattle.ltx_model.proofs.OneMore.{legal-parts}
use Rattle.ltx_model.specs.Lists.{IsPairwise}
use Rattle.ltx_lemmas.proofs.Lists.{all_contains, any_item, contains_cases, contains_front, contains_parts, filter_item, find_any, find_contains, find_passes, find_splits, given_here, given_item, map_item, parts_join}
use Rattle.ltx_model.specs.Agenda.{has_slot}
use Rattle.ltx_laws.specs.Structure.{IsLiveBatch}
use Rattle.ltx_laws.specs.Orders.{StandsBefore}
use Rattle.ltx_laws.specs.Commits.{IsHomeReply, IsPrintedForwarded}
use Rattle.ltx_model.specs.Logs.{moves_through}
use Rattle.ltx_laws.specs.Printed.{IsPrintedShort, IsPrintedBatchAt, IsPrintedBatch, IsPrintedCommitIn, IsPrintedBefore}
use Rattle.ltx_laws.proofs.Pairs.{same_number}
use Rattle.ltx_lemmas.proofs.Pairwise.{pairs_behind}
use Rattle.ltx_laws.proofs.Places.{any_before}
use Rattle.ltx_laws.proofs.Structures.{structure_of, live_stands}
use Rattle.ltx_laws.proofs.Forwarded.{against_numbers}
use Rattle.ltx_laws.proofs.PlacesByCommit.{short_after, home_after}
use Rattle.ltx_laws.proofs.DropsHistories.{timely_of}
use Rattle.ltx_laws.proofs.CommitEpochs.{theirs_all, theirs_through, commit_through}
use Rattle.ltx_laws.proofs.DropsLists.{lawful_front}
use Rattle.ltx_laws.specs.Drops.{AreLawful}
use Rattle.ltx_laws.proofs.Told.{commits_told}
use Rattle.ltx_laws.proofs.Begins.{AreBegun, begun_of}
use Rattle.ltx_laws.proofs.PrintedCommits.{IsCommitter, committer_is, committer_prints, begun_short_is, begun_batch_is, slot_printed, committed_batch_slotted}

-- who is in the order was committed
module _ (built : State → Line → Bool) (base : Base) (history : List Entry) (sound : IsSound base) (legal : IsLegalWith built base history) where
  abbrev s : State
  s = state base history

  committed_serial : (t : Transaction) → Contains (committed_in history) t → Contains (serial s.agenda) t
  committed_serial t c =
      Contains-permutation (commits_of s.moves) (serial s.agenda) t (structure_of built base history legal).committed (subst (λ l. Contains l t) (sym (commits_told built base history legal)) c)

  serial_committed : (t : Transaction) → Contains (serial s.agenda) t → Contains (committed_in history) t
  serial_committed t c =
      subst (λ l. Contains l t) (commits_told built base history legal)
      (Contains-permutation (serial s.agenda) (commits_of s.moves) t (IsPermutation-sym (commits_of s.moves) (serial s.agenda) (structure_of built base history legal).committed) c)

  slotted_in_order : (n : ℕ) → IsPrintedBatch history n → list_any (λ k. k == n) (order s) ≡ true → has_slot s.moves n ≡ true
  slotted_in_order n batch e =
      let found = any_item (λ k. k == n) (order s) e in
      let at = map_item (λ (t : Transaction). t.number) (serial s.agenda) found.0 found.1 in
      let same : at.0.number ≡ n = at.2 ∙ same_number found.0 n found.2 in
      subst (λ k. has_slot s.moves k ≡ true) same
      (committed_batch_slotted built base history sound legal at.0 (serial_committed at.0 at.1) (subst (IsPrintedBatch history) (sym same) batch))

  pub against_printed : (a b : ℕ) → IsPrintedBatch history a → IsPrintedBatch history b → a < b → StandsBefore (order s) b a → IsPrintedBefore history b
  against_printed a b first second less stands =
      let h : IsPrintedForwarded base history b = against_numbers built base history sound legal a b (slotted_in_order a first stands.member) (slotted_in_order b second (any_before (λ k. k == b) (λ k. k == a) (order s) stands.before)) less stands in
      let there : IsLegalWith built base (h.before ++ h.entry ∷ h.later) = subst (IsLegalWith built base) h.parts legal in
      record {
        before = h.before;
        entry = h.entry;
        later = h.later;
        parts = h.parts;
        tx = transaction_of h.active;
        number = h.number;
        commits = committer_prints built base h.before h.later h.entry sound there h.active h.commit;
        epoch = h.printed.0;
        target = h.target;
        printed = h.printed.1;
      }

-- a commit whose reply prints an epoch is a move of that epoch or an earlier one
commit_moved : (built : State → Line → Bool) (base : Base) (history : List Entry) → IsSound base → IsLegalWith built base history → (u : Transaction) (e : ℕ) → IsPrintedCommitIn history u e
    → (m : Timed) × Contains (state base history).moves m × (m.epoch ≤ e) × (commit_of m.move ≡ Some u)
commit_moved built base history sound legal u e h =
    let there : IsLegalWith built base (h.before ++ h.entry ∷ h.later) = subst (IsLegalWith built base) h.parts legal in
    let who : IsCommitter (state base h.before) h.entry u = committer_is built base h.before h.later h.entry sound there u h.commits in
    let through = commit_through built base h.before h.later h.entry sound there who.active e e who.commit h.printed (le_refl e) in
    let s : State = state base history in
    let in_order : Contains (serial_through s e) u = subst (λ l. Contains (serial_through (state base l) e) u) (sym h.parts) (subst (Contains (serial_through (state base (h.before ++ h.entry ∷ h.later)) e)) who.same through) in
    let commit : Contains (commits_of (moves_through e s.moves)) u =
    Contains-permutation (serial_through s e) (commits_of (moves_through e s.moves)) u (IsPermutation-sym (commits_of (moves_through e s.moves)) (serial_through s e) (theirs_through built base history legal e)) in_order in
    let found = given_item (λ (x : Timed). commit_of x.move) (moves_through e s.moves) u commit in
    let kept = filter_item (λ (x : Timed). nat_le x.epoch e) s.moves found.0 found.1 in
    (found.0, kept.0, leb-true found.0.epoch e kept.1, found.2)

-- the slot of a number
slot_is : (n : ℕ) (x : Timed) → is_slot n x.move ≡ true → x ≡ record { epoch = x.epoch; move = Slot n }
slot_is n x is = by_move x.move is where
  by_move : (v : Move) → is_slot n v ≡ true → ◌≡◌ {A = Timed} (record { epoch = x.epoch; move = v }) (record { epoch = x.epoch; move = Slot n })
  by_move (Slot k) is = ap (λ i. let m : Timed = record { epoch = x.epoch; move = Slot i } in m) (same_number k n is)
  by_move (CommitShort t) is = cc
  by_move (CommitHome t) is = cc
  by_move (CommitBefore t target) is = cc
  by_move (Leave k) is = cc

-- in moves whose epochs never fall, what comes before the epoch of a slot comes before the slot
earlier_until : (n epoch : ℕ) (moves : List Timed) → has_slot moves n ≡ true → IsPairwise (λ a b. a.epoch ≤ b.epoch) moves → ((e : ℕ) → Contains moves (record { epoch = e; move = Slot n }) → e ≡ epoch)
    → (m : Timed) → Contains moves m → m.epoch < epoch → Contains (moves_until n moves) m
earlier_until n epoch moves slotted rising one m here less =
    let test : Timed → Bool = λ (x : Timed). is_slot n x.move in
    let at = find_any test moves slotted in
    let parts = find_splits test moves at.0 at.1 in
    by_part (moves_until n moves) at.0 parts.0 parts.1 (subst (λ l. Contains l m) parts.1 here) (slot_at at.0 (find_contains test moves at.0 at.1) (find_passes test moves at.0 at.1)) where
      slot_at : (x : Timed) → Contains moves x → is_slot n x.move ≡ true → x.epoch ≡ epoch
      slot_at x c is = one x.epoch (subst (Contains moves) (slot_is n x is) c)

      by_part : (front : List Timed) (x : Timed) (back : List Timed) → moves ≡ front ++ x ∷ back → Contains (front ++ x ∷ back) m → x.epoch ≡ epoch → Contains front m
      by_part front x back parts c same = by_case (contains_parts front (x ∷ back) m c) where
        behind : AllByRecursion (λ (y : Timed). x.epoch ≤ y.epoch) back
        behind = pairs_behind (λ (a : Timed) (b : Timed). a.epoch ≤ b.epoch) front x back (subst (IsPairwise (λ (a : Timed) (b : Timed). a.epoch ≤ b.epoch)) parts rising)

        by_item : (x ≡ m) ⊎ Contains back m → Contains front m
        by_item (inl e) = let own : x.epoch ≡ m.epoch = ap (λ (y : Timed). y.epoch) e in absurd (let none : ⊥ = omega arith in none)
        by_item (inr d) = let low : x.epoch ≤ m.epoch = all_contains (λ (y : Timed). x.epoch ≤ y.epoch) back m behind d in absurd (let none : ⊥ = omega arith in none)

        by_case : Contains front m ⊎ Contains (x ∷ back) m → Contains front m
        by_case (inl c) = c
        by_case (inr c) = by_item (contains_cases x back m c)

-- begun once, so in one epoch
begun_in_one : (past : List Entry) (s : State) → AreBegun past s → (n a b : ℕ) → IsPrintedBatchAt past n a → IsPrintedBatchAt past n b → a ≡ b
begun_in_one past s h n a b x y =
    let same : x.entry.reply ≡ y.entry.reply = h.one x.entry y.entry n x.here y.here (ap effect_of x.printed) (ap effect_of y.printed) in
    let replies_same : replies.BegunAt n a ≡ replies.BegunAt n b = sym x.printed ∙ same ∙ y.printed in
    let r : a ≡ b = cc in r

-- a commit among the entries
module _ (built : State → Line → Bool) (base : Base) (history more : List Entry) (entry : Entry) (sound : IsSound base) (legal : IsLegalWith built base (history ++ entry ∷ more)) (t : Transaction) (commits : committed_by (opens_from [] history) entry ≡ Some t) where
  abbrev then : State
  then = state base history

  before_is : IsLegalWith built base history
  before_is = (legal-parts built (first_state base) history (entry ∷ more) legal).0

  who : IsCommitter then entry t
  who = committer_is built base history more entry sound legal t commits

  number : who.active.number ≡ t.number
  number = ap (λ (u : Transaction). u.number) who.same

  abbrev After : Transaction → ℕ → Type 0
  After u n = StandsBefore (order (state base (history ++ entry ∷ more))) u.number n

  pub short_printed_after : IsPrintedShort (history ++ entry ∷ more) t.number → (u : Transaction) → Contains (committed_in history) u → After u t.number
  short_printed_after short u done =
      let kind : who.active.kind ≡ IsShort = begun_short_is built base history more entry sound legal who.active who.commit (subst (IsPrintedShort (history ++ entry ∷ more)) (sym number) short) in
      subst (After u) number (short_after built base history more entry sound legal who.active who.commit kind u (committed_serial built base history sound before_is u done))

  pub home_printed_after : (epoch : ℕ) → IsPrintedBatchAt (history ++ entry ∷ more) t.number epoch → IsHomeReply entry.reply → (u : Transaction) (e : ℕ) → IsPrintedCommitIn history u e → e < epoch → After u t.number
  home_printed_after epoch batch home u e printed less =
      let o : Active = who.active in
      let live = begun_batch_is built base history more entry sound legal o who.commit (epoch, subst (λ n. IsPrintedBatchAt (history ++ entry ∷ more) n epoch) (sym number) batch) in
      let stands : IsLiveBatch then.agenda then.moves o.number live.0 live.1 o.steps = live_stands base then (structure_of built base history before_is) who.commit.session o who.commit.opened live.0 live.1 live.2 in
      let whole : AreBegun (history ++ entry ∷ more) (state base (history ++ entry ∷ more)) = begun_of built base (history ++ entry ∷ more) legal in
      let one : (k : ℕ) → Contains then.moves (record { epoch = k; move = Slot o.number }) → k ≡ epoch = λ k c.
      begun_in_one (history ++ entry ∷ more) (state base (history ++ entry ∷ more)) whole t.number k epoch (wider k (subst (λ n. IsPrintedBatchAt history n k) number (slot_printed built base history sound before_is o.number k c))) batch in
      let (m, here, low, commit) = commit_moved built base history sound before_is u e printed in
      let until : Contains (moves_until o.number then.moves) m = earlier_until o.number epoch then.moves stands.slotted (timely_of built base history before_is).rising one m here (under m low) in
      let inside : Contains live.1 u = subst (λ l. Contains l u) (sym stands.taken) (taken (moves_until o.number then.moves) (from_first (λ (x : Timed). is_slot o.number x.move) then.moves) (sym (parts_join (λ (x : Timed). is_slot o.number x.move) then.moves)) m until commit) in
      subst (After u) number (home_after built base history more entry sound legal o who.commit live.0 live.1 live.2 home u inside) where
        wider : (k : ℕ) → IsPrintedBatchAt history t.number k → IsPrintedBatchAt (history ++ entry ∷ more) t.number k
        wider k h = record { entry = h.entry; here = contains_front history (entry ∷ more) h.entry h.here; printed = h.printed }

        under : (m : Timed) → m.epoch ≤ e → m.epoch < epoch
        under m low = let r : m.epoch < epoch = omega arith in r

        taken : (front back : List Timed) → then.moves ≡ front ++ back → (m : Timed) → Contains front m → commit_of m.move ≡ Some u → Contains (serial (agenda_from [] front)) u
        taken front back parts m here is =
            Contains-permutation (commits_of front) (serial (agenda_from [] front)) u
            (theirs_all front (lawful_front [] front back (subst (AreLawful []) parts (timely_of built base history before_is).lawful)))
            (given_here (λ (x : Timed). commit_of x.move) front m u here is)

-- refusals among the entries
module _ (built : State → Line → Bool) (base : Base) (history more : List Entry) (entry : Entry) (sound : IsSound base) (legal : IsLegalWith built base (history ++ entry ∷ more)) where
  pub first_legal : IsLegalWith built base (history ++ entry ∷ [])
  first_legal = (legal-parts built (first_state base) (history ++ entry ∷ []) more (subst (IsLegalWith built base) (sym (append_assoc history (entry ∷ []) more)) legal)).0
