-- The members before the floor stay first, entry by entry: a move changes only what stands from the floor on, and no later floor stands among them.
use Rattle.std.proofs.Common.{◌≡◌, ◌≢◌, ℕ, ◌+◌, Bool, true, false, cond, not, ◌==◌, nat_lt, List, [], ◌∷◌, ◌++◌, map, Contains, Some, refl, sym, ap, ◌∙◌, subst, append_assoc, append-nil}
use Rattle.std.proofs.lemmas.Bool.{and_parts, both_ways, ne_eqb}
use Rattle.std.specs.List.{AllByRecursion}
use Rattle.ltx_model.specs.declared.commands.Op.{Op}
use Rattle.ltx_model.specs.declared.replies.Reply.{Reply}
use Rattle.ltx_model.specs.Lists.{before_first, from_first, without_first}
use Rattle.ltx_model.specs.Operations.{Transaction}
use Rattle.ltx_model.specs.Agenda.{Member, LiveSlot, Committed, number_of, has_number, is_member, without_member, insert_before, commit_at_slot, CommitShort, CommitHome, CommitBefore, Leave, Timed, commits_batch, part_before, serial, commits_after}
use Rattle.ltx_model.specs.States.{Declaration, Kind, IsShort, IsPending, IsLive, Active, transaction_of, Base, State, is_of, active_of, latest}
use Rattle.ltx_model.specs.Histories.{begun, answered, with_kind, made_live, closed, moved, left, in_epoch, advanced, durable_if, made_durable}
use Rattle.ltx_model.specs.Batches.{committed_ahead, writes_what_looks, overtakes, target, counts_for_floor, before_floor}
use Rattle.ltx_lemmas.proofs.Lists.{true_false, all_map, all_find, all_from, all_contains, before_past, before_fails, before_contains, parts_join, find_passes, find_contains, filter_append, filter_all}
use Rattle.ltx_lemmas.proofs.Members.{apart_one}
use Rattle.ltx_laws.specs.Structure.{if_live, IsKnown, Structure}
use Rattle.ltx_laws.specs.Orders.{IsPrefix}
use Rattle.ltx_laws.proofs.Transitions.{Cases, live_of}
use Rattle.ltx_laws.proofs.Targets.{target_found}
use Rattle.ltx_laws.proofs.ReadsKept.{apart_members, live_slot, slots_active}
use Rattle.ltx_laws.proofs.FloorCounts.{any_live, counts_committed, counts_by, live_without, live_step, live_push, live_silent, live_advanced, slots_of, members_of, slots_silent, advanced_moves, advanced_agenda}

-- a committed member counts for no live batch after these moves
abbrev IsFree : List Timed → List Active → Transaction → Type 0
IsFree moves active t = any_live (λ n. commits_after moves n t.number) active ≡ false

-- none of the members has the number
abbrev HasNone : ℕ → List Member → Type 0
HasNone n ms = AllByRecursion (λ m. has_number n m ≡ false) ms

module _ (base : Base) (s : State) (structure : Structure base s) where
  abbrev front : List Member
  front = before_floor s

  abbrev behind : List Member
  behind = from_first (counts_for_floor s) s.agenda

  parts : front ++ behind ≡ s.agenda
  parts = parts_join (counts_for_floor s) s.agenda

  -- the members before the floor are committed, and count for no live batch
  committed_fails : (m : Member) → counts_for_floor s m ≡ false → (t : Transaction) × (m ≡ Committed t) × IsFree s.moves s.active t
  committed_fails (LiveSlot n) e = absurd (true_false e)
  committed_fails (Committed t) e = (t, refl, sym (counts_committed s t) ∙ e)

  -- in the next state they are first again, where the agenda begins with them and they count for none of its live batches
  first_again : (after : State) (rest : List Member) → after.agenda ≡ front ++ rest
      → ((t : Transaction) → Contains s.agenda (Committed t) → IsFree s.moves s.active t → IsFree after.moves after.active t) → IsPrefix front (before_floor after)
  first_again after rest agenda free =
      let fails : AllByRecursion (λ m. counts_for_floor after m ≡ false) front =
      all_from (λ m. counts_for_floor after m ≡ false) front (λ m here.
      let (t, is, old) = committed_fails m (all_contains (λ x. counts_for_floor s x ≡ false) front m (before_fails (counts_for_floor s) s.agenda) here) in
      let there : Contains s.agenda (Committed t) = subst (Contains s.agenda) is (before_contains (counts_for_floor s) s.agenda m here) in
      ap (counts_for_floor after) is ∙ counts_committed after t ∙ free t there old) in
      record { rest = before_first (counts_for_floor after) rest; parts = ap (before_first (counts_for_floor after)) agenda ∙ before_past (counts_for_floor after) front rest fails }

  -- a member that counts stands from the floor on, and so none before it has its number
  none_in_front : (m : Member) → Contains s.agenda m → counts_for_floor s m ≡ true → HasNone (number_of m) front
  none_in_front m here counts = all_from (λ x. has_number (number_of m) x ≡ false) front (λ x c.
      ne_eqb (number_of x) (number_of m) (λ same.
      let one : x ≡ m = apart_one s.agenda x m (apart_members base s structure) (before_contains (counts_for_floor s) s.agenda x c) here same in
      let fails : counts_for_floor s x ≡ false = all_contains (λ y. counts_for_floor s y ≡ false) front x (before_fails (counts_for_floor s) s.agenda) c in
      both_ways (counts_for_floor s m) (sym (ap (counts_for_floor s) one) ∙ fails) counts))

  -- the members from the floor on, after a member with the number leaves, commits at its slot, or another is put before it
  without_front : (n : ℕ) → HasNone n front → without_member s.agenda n ≡ front ++ without_member behind n
  without_front n none =
      ap (λ ms. without_member ms n) (sym parts) ∙ filter_append (λ m. not (has_number n m)) front behind
      ∙ ap (λ l. l ++ without_member behind n) (filter_all (λ m. not (has_number n m)) front (all_map (λ m. has_number n m ≡ false) (λ m. not (has_number n m) ≡ true) (λ m e. ap not e) front none))

  home_front : (t : Transaction) (ms : List Member) → HasNone t.number ms → (ns : List Member) → map (commit_at_slot t) (ms ++ ns) ≡ ms ++ map (commit_at_slot t) ns
  home_front t [] none ns = refl
  home_front t (m ∷ ms) none ns = λ i. cond (none.0 i) (Committed t) m ∷ home_front t ms none.1 ns i

  insert_front : (x : Member) (p : ℕ) (ms : List Member) → HasNone p ms → (ns : List Member) → insert_before x p (ms ++ ns) ≡ ms ++ insert_before x p ns
  insert_front x p [] none ns = refl
  insert_front x p (m ∷ ms) none ns = λ i. cond (none.0 i) (x ∷ m ∷ (ms ++ ns)) (m ∷ insert_front x p ms none.1 ns i)

  -- the same state, as far as the floor goes
  itself : IsPrefix front front
  itself = record { rest = []; parts = sym (append-nil front) }

  same_agenda : (after : State) → after.agenda ≡ s.agenda → ((t : Transaction) → IsFree s.moves s.active t → IsFree after.moves after.active t) → IsPrefix front (before_floor after)
  same_agenda after agenda free = first_again after behind (agenda ∙ sym parts) (λ t here. free t)

  -- whoever a live batch overtakes counts, and so does its target
  module _ (o : Active) (d : Declaration) (snapshot : List Transaction) (there : Contains s.active o) (kind : o.kind ≡ IsLive d snapshot) where
    overtaken_counts : (m : Member) → overtakes s (live_of o d snapshot) m ≡ true → counts_for_floor s m ≡ true
    overtaken_counts (LiveSlot j) e = refl
    overtaken_counts (Committed t) e =
        let ahead = and_parts (committed_ahead s (live_of o d snapshot) t) (writes_what_looks (live_of o d snapshot) t) e in
        let later = and_parts (commits_after s.moves o.number t.number) (is_member (part_before o.number s.agenda) t.number) ahead.0 in
        counts_by s o d snapshot t there kind later.0

    pub target_counts : (p : ℕ) → target s (live_of o d snapshot) ≡ Some p → (m : Member) × Contains s.agenda m × (counts_for_floor s m ≡ true) × (number_of m ≡ p)
    target_counts p aim =
        let (m, found, number) = target_found s (live_of o d snapshot) p aim in
        (m, find_contains (overtakes s (live_of o d snapshot)) s.agenda m found, overtaken_counts m (find_passes (overtakes s (live_of o d snapshot)) s.agenda m found), number)

  module _ (session : ℕ) (o : Active) (is : active_of s session ≡ Some o) where
    -- a move of its number commits no other
    other_number : (t : Transaction) → Contains s.agenda (Committed t) → (o.number == t.number) ≡ false
    other_number t here =
        let known : AllByRecursion (λ u. u.number ≢ t.number) s.active = all_contains (IsKnown s.active s.moves) s.agenda (Committed t) structure.members.known here in
        ne_eqb o.number t.number (all_find (λ u. u.number ≢ t.number) (is_of session) s.active o known is)

    move_free : (m : Timed) (t : Transaction) → commits_batch t.number m.move ≡ false → IsFree s.moves s.active t → IsFree (s.moves ++ m ∷ []) (without_first (is_of session) s.active) t
    move_free m t silent free =
        live_without (λ n. commits_after (s.moves ++ m ∷ []) n t.number) (is_of session) s.active
        (live_silent s.agenda s.moves (m ∷ []) t.number s.active structure.stands (silent, tt) ∙ free)

    pub short_floor : IsPrefix front (before_floor (moved (closed s session) s.epoch (CommitShort (transaction_of o))))
    short_floor =
        let new : List Member = Committed (transaction_of o) ∷ [] in
        first_again (moved (closed s session) s.epoch (CommitShort (transaction_of o))) (behind ++ new) (ap (λ l. l ++ new) (sym parts) ∙ append_assoc front behind new)
        (λ t here. move_free (record { epoch = s.epoch; move = CommitShort (transaction_of o) }) t refl)

    module _ (d : Declaration) (snapshot : List Transaction) (kind : o.kind ≡ IsLive d snapshot) where
      slot_none : HasNone o.number front
      slot_none = none_in_front (LiveSlot o.number) (live_slot base s structure session o d snapshot is kind) refl

      pub home_floor : IsPrefix front (before_floor (moved (closed s session) s.epoch (CommitHome (transaction_of o))))
      home_floor =
          first_again (moved (closed s session) s.epoch (CommitHome (transaction_of o))) (map (commit_at_slot (transaction_of o)) behind)
          (ap (map (commit_at_slot (transaction_of o))) (sym parts) ∙ home_front (transaction_of o) front slot_none behind)
          (λ t here. move_free (record { epoch = s.epoch; move = CommitHome (transaction_of o) }) t (other_number t here))

      pub leave_floor : IsPrefix front (before_floor (moved (closed s session) s.epoch (Leave o.number)))
      leave_floor = first_again (moved (closed s session) s.epoch (Leave o.number)) (without_member behind o.number) (without_front o.number slot_none) (λ t here. move_free (record { epoch = s.epoch; move = Leave o.number }) t refl)

      pub before_prefix : (p : ℕ) → target s (live_of o d snapshot) ≡ Some p → IsPrefix front (before_floor (moved (closed s session) s.epoch (CommitBefore (transaction_of o) p)))
      before_prefix p aim =
          let (m, here, counts, number) = target_counts o d snapshot (find_contains (is_of session) s.active o is) kind p aim in
          let none : HasNone p front = subst (λ k. HasNone k front) number (none_in_front m here counts) in
          let new : Member = Committed (transaction_of o) in
          first_again (moved (closed s session) s.epoch (CommitBefore (transaction_of o) p)) (insert_before new p (without_member behind o.number))
          (ap (insert_before new p) (without_front o.number slot_none) ∙ insert_front new p front none (without_member behind o.number))
          (λ t there. move_free (record { epoch = s.epoch; move = CommitBefore (transaction_of o) p }) t (other_number t there))

    ended_floor : (k : Kind) → o.kind ≡ k → IsPrefix front (before_floor (left (closed s session) k o.number))
    ended_floor IsShort kind = same_agenda (closed s session) refl (λ t. live_without (λ n. commits_after s.moves n t.number) (is_of session) s.active)
    ended_floor (IsPending d) kind = same_agenda (closed s session) refl (λ t. live_without (λ n. commits_after s.moves n t.number) (is_of session) s.active)
    ended_floor (IsLive d snapshot) kind = leave_floor d snapshot kind

  begun_floor : (kind : Kind) (n session : ℕ) → ((b : Bool) → if_live kind b ≡ false) → IsPrefix front (before_floor (begun s kind n session))
  begun_floor kind n session dead = same_agenda (begun s kind n session) refl (λ t free.
      live_push (λ k. commits_after s.moves k t.number) (without_first (is_of session) s.active) (record { session = session; kind = kind; number = n; steps = [] }) (dead (commits_after s.moves n t.number))
      ∙ live_without (λ k. commits_after s.moves k t.number) (is_of session) s.active free)

  answered_floor : (session : ℕ) (op : Op) (reply : Reply) → IsPrefix front (before_floor (answered s op reply session))
  answered_floor session op reply = same_agenda (answered s op reply session) refl (λ t free.
      live_step (λ k. commits_after s.moves k t.number) (is_of session) (record { op = op; reply = reply; order = serial s.agenda; latest = latest s }) s.active ∙ free)

  advanced_floor : (epoch : ℕ) → IsPrefix front (before_floor (advanced s epoch))
  advanced_floor epoch =
      let new = members_of s.active in
      let slots = slots_of epoch s.active in
      let opens : (advanced s epoch).active ≡ map (λ o. with_kind (made_live (serial s.agenda) o.kind) o) s.active = slots_active epoch (in_epoch s epoch) s.active in
      first_again (advanced s epoch) (behind ++ new)
      (advanced_agenda epoch (in_epoch s epoch) s.active ∙ ap (λ l. l ++ new) (sym parts) ∙ append_assoc front behind new)
      (λ t here free. subst (λ moves. IsFree moves (advanced s epoch).active t) (sym (advanced_moves epoch (in_epoch s epoch) s.active))
      (subst (λ active. IsFree (s.moves ++ slots) active t) (sym opens)
      (live_advanced s.agenda s.moves slots (serial s.agenda) t.number s.active structure.stands (slots_silent epoch t.number s.active) free)))

  durable_floor : (epoch : ℕ) → IsPrefix front (before_floor (made_durable s epoch))
  durable_floor epoch = by_test (nat_lt s.durable epoch) where
    by_test : (b : Bool) → IsPrefix front (before_floor (durable_if b s epoch))
    by_test true = same_agenda (durable_if true s epoch) refl (λ t free. free)
    by_test false = itself

  -- what each entry of a legal history leaves
  pub floor_cases : Cases s (λ line reply after. IsPrefix (before_floor s) (before_floor after))
  floor_cases = record {
    nothing = λ line reply leaves. itself;
    begins_short = λ session none. begun_floor IsShort (s.last + 1) session (λ b. refl);
    begins_long = λ session writes reads none. begun_floor (IsPending (record { writes = writes; reads = reads; from = s.epoch + 1 })) (s.last + 1) session (λ b. refl);
    answers_short = λ session op o reply is kind free sees answers. answered_floor session op reply;
    answers_batch = λ session op o d snapshot reply is kind free sees answers. answered_floor session op reply;
    commits_short = λ session o is kind free unchanged. short_floor session o is;
    commits_home = λ session o d snapshot is kind none. home_floor session o is d snapshot kind;
    commits_before = λ session o d snapshot p is kind aim free elder. before_prefix session o is d snapshot kind p aim;
    ends = λ session verb reply o is ends. ended_floor session o is o.kind refl;
    advances = advanced_floor (s.epoch + 1);
    flushes = λ epoch which. durable_floor epoch;
  }
