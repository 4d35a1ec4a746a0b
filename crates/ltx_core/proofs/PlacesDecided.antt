-- What the decision to commit a live batch at a place says of the place, and who wrote the versions of the store then.
use Rattle.std.proofs.Common.{◌≡◌, ◌≢◌, ◌⊎◌, inl, inr, ℕ, zero, suc, ◌<◌, ◌≤◌, ◌-◌, true, false, ◌==◌, List, [], ◌∷◌, ◌++◌, map, Some, sym, ap, ◌∙◌, subst, nat_lt, arith, Contains}
use Rattle.std.specs.Prelude.{slice_get}
use Rattle.std.proofs.lemmas.Bool.{eqb-true, false_from_ne_true}
use Rattle.std.proofs.lemmas.Bool.Decides.{nat_tests}
use Rattle.std.proofs.lemmas.List.Sorted.{Contains-permutation}
use Rattle.std.specs.List.{AllByRecursion}
use Rattle.ltx_model.specs.declared.rows.StoredRow.{StoredRow}
use Rattle.ltx_model.specs.declared.writes.Target.{Target}
use Rattle.ltx_model.specs.declared.writes.Target.TheVariants as targets
use Rattle.ltx_model.specs.Keys.{Cell, same_cell}
use Rattle.ltx_model.specs.StoredRows.{cell_of}
use Rattle.ltx_model.specs.Operations.{Transaction}
use Rattle.ltx_model.specs.Agenda.{LiveSlot, number_of, has_number, is_member, agenda_after, serial, commits_of, part_before}
use Rattle.ltx_model.specs.Batches.{Overtakes, IsTarget}
use Rattle.ltx_model.specs.Decisions.{CommitAt, IsDecision}
use Rattle.ltx_model.specs.Listings as listed
use Rattle.ltx_model.specs.States.{transaction_of, Base, IsSound, State, LiveBatch}
use Rattle.ltx_lemmas.proofs.Lists.{true_false, some_same, all_map, all_contains, all_find, any_item, any_map, map_item, contains_here, contains_later, contains_front, contains_back, contains_parts}
use Rattle.ltx_lemmas.proofs.Members.{before_self}
use Rattle.ltx_lemmas.proofs.Serials.{serial_is_member}
use Rattle.ltx_laws.specs.Structure.{Structure}
use Rattle.ltx_laws.proofs.ReadsKept.{apart_members, live_slot}
use Rattle.ltx_chain.specs.declared.chain.Version.{Version}
use Rattle.ltx_store.specs.Kept.{versions_at}
use Rattle.ltx_open.specs.declared.stage.Declared.{Declared}
use Rattle.ltx_open.specs.Views.{OpenView, declaration}
use Rattle.ltx_core.specs.Views.{CoreView}
use Rattle.ltx_core.specs.Installed.{AreByMembers}
use Rattle.ltx_core.specs.Decided.{list_at}
use Rattle.ltx_core.specs.Stands.{HasMark, StandsAt}
use Rattle.ltx_core.proofs.LiveFound.{IsLiveAt}
use Rattle.ltx_core.proofs.BatchPlaces.{HasPlace, home_place, before_place}
use Rattle.ltx_core.proofs.CommittedBefore.{move_at, list_moved}

-- nobody who wrote a row of the base is a member
base_strangers : (base : Base) (s : State) → IsSound base → Structure base s → AllByRecursion (λ (row : StoredRow). is_member s.agenda row.writer ≡ false) s.base
base_strangers base s sound structure = subst (AllByRecursion (λ (row : StoredRow). is_member s.agenda row.writer ≡ false)) (sym structure.rows)
    (all_map (λ (row : StoredRow). row.writer ≤ base.last) (λ (row : StoredRow). is_member s.agenda row.writer ≡ false) strange base.rows sound.writers) where
      strange : (row : StoredRow) → row.writer ≤ base.last → is_member s.agenda row.writer ≡ false
      strange row within = false_from_ne_true (is_member s.agenda row.writer) (λ is.
          let found = any_item (has_number row.writer) s.agenda is in
          let same : number_of found.0 ≡ row.writer = eqb-true (number_of found.0) row.writer found.2 in
          let above : base.last < number_of found.0 = all_contains (λ m. base.last < number_of m) s.agenda found.0 structure.members.above found.1 in
          let wrong : ⊥ = omega (arith, within, same, above) in wrong)

-- a batch is not its own target
pub target_apart : (s : State) (i : LiveBatch) (p : ℕ) → IsTarget s i p → p ≢ i.tx.number
target_apart s i p t same = by_way t.overtaken where
  by_way : Overtakes s i p → ⊥
  by_way (inl c) = true_false (sym c.before ∙ ap (λ k. is_member (part_before i.tx.number s.agenda) k) same ∙ before_self s.agenda i.tx.number)
  by_way (inr l) = let less : p < i.tx.number = l.smaller in let wrong : ⊥ = omega (arith, same) in wrong

-- what stands at a place of a list is in it
got_contains : {A : Type 0} (xs : List A) (k : ℕ) (x : A) → slice_get xs k ≡ Some x → Contains xs x
got_contains [] k x is = absurd (let no : ⊥ = cc in no)
got_contains (y ∷ ys) zero x is = subst (λ z. Contains (z ∷ ys) x) (sym (some_same is)) (contains_here x ys)
got_contains (y ∷ ys) (suc k) x is = contains_later y ys x (got_contains ys k x is)

module _ (old : CoreView) (session : ℕ) (a : OpenView) (e : Declared) (mark : ℕ) (base : Base) (s : State) (sound : IsSound base) (structure : Structure base s) (stands : StandsAt old s)
    (x : IsLiveAt old session a e mark s) where
  abbrev t : Transaction
  t = transaction_of x.open_tx

  slot : Contains s.agenda (LiveSlot t.number)
  slot = live_slot base s structure session x.open_tx (declaration e) x.snapshot x.found x.kind

  -- where the batch is committed
  module _ (i : LiveBatch) (same : i.tx ≡ transaction_of x.open_tx) where
    other : (p : ℕ) → IsTarget s i p → p ≢ t.number
    other p target here = target_apart s i p target (here ∙ sym (ap (λ (u : Transaction). u.number) same))

    pub decided_place : (place : Target) → IsDecision s i (CommitAt place) → HasPlace s.base s.agenda (transaction_of x.open_tx) (move_at place (transaction_of x.open_tx))
    decided_place targets.Home nobody = home_place s.base s.agenda t (apart_members base s structure) slot (base_strangers base s sound structure)
    decided_place (targets.Before p) forwarded =
        before_place s.base s.agenda t (apart_members base s structure) slot (base_strangers base s sound structure) p forwarded.target.member (other p forwarded.target)

    -- a target is a member, and not the batch
    pub target_listed : (p : ℕ) → IsDecision s i (CommitAt (targets.Before p)) → (listed.is_member old.list p ≡ true) × (a.number ≢ p)
    target_listed p forwarded = (
      ap (λ l. listed.is_member l p) stands.agenda.list_is ∙ any_map (λ m. m == p) number_of s.agenda ∙ forwarded.target.member,
      λ here. other p forwarded.target (sym here ∙ x.number),
    )

  -- the agenda with the batch at its place
  module _ (place : Target) (fits : HasPlace s.base s.agenda (transaction_of x.open_tx) (move_at place (transaction_of x.open_tx))) where
    list_there : list_at place a.number old.list ≡ map number_of (agenda_after s.agenda (move_at place t))
    list_there = (λ j. list_at place (x.number j) (stands.agenda.list_is j)) ∙ list_moved place t s.agenda

    -- who stands in the order is a member
    in_order : (u : Transaction) → Contains (serial (agenda_after s.agenda (move_at place t))) u → listed.is_member (list_at place a.number old.list) u.number ≡ true
    in_order u here =
        ap (λ l. listed.is_member l u.number) list_there ∙ any_map (λ m. m == u.number) number_of (agenda_after s.agenda (move_at place t))
        ∙ serial_is_member (agenda_after s.agenda (move_at place t)) u here

    with_it : (u : Transaction) → Contains (fits.front ++ fits.back) u → Contains (serial (agenda_after s.agenda (move_at place t))) u
    with_it u here = subst (λ l. Contains l u) (sym fits.now) (by_part (contains_parts fits.front fits.back u here)) where
      by_part : Contains fits.front u ⊎ Contains fits.back u → Contains (fits.front ++ t ∷ fits.back) u
      by_part (inl c) = contains_front fits.front (t ∷ fits.back) u c
      by_part (inr c) = contains_back fits.front (t ∷ fits.back) u (contains_later t fits.back u c)

    -- the batch is a member
    pub batch_listed : listed.is_member (list_at place a.number old.list) a.number ≡ true
    batch_listed = ap (listed.is_member (list_at place a.number old.list)) x.number
        ∙ in_order t (subst (λ l. Contains l t) (sym fits.now) (contains_back fits.front (t ∷ fits.back) t (contains_here t fits.back)))

    -- whoever wrote a version is a member, unless it is a row of the base
    by_mark : (cell : Cell) (v : Version) → HasMark s.base (map (λ u. u.number) (commits_of s.moves)) cell v → listed.is_member (list_at place a.number old.list) v.writer ≡ nat_lt 0 v.mark
    by_mark cell v (inl row) =
        let zero_mark : v.mark ≡ 0 = row.mark in
        let none : false ≡ nat_lt 0 v.mark = grind (arith, nat_tests) in
        ap (λ l. listed.is_member l v.writer) list_there
        ∙ all_find (λ (r : StoredRow). listed.is_member (map number_of (agenda_after s.agenda (move_at place t))) r.writer ≡ false) (λ (r : StoredRow). same_cell (cell_of r) cell) s.base _ fits.between.strangers row.row
        ∙ none
    by_mark cell v (inr at) =
        let above : 0 < v.mark = at.0 in
        let some : true ≡ nat_lt 0 v.mark = grind (arith, nat_tests) in
        let found = map_item (λ (u : Transaction). u.number) (commits_of s.moves) v.writer (got_contains (map (λ (u : Transaction). u.number) (commits_of s.moves)) (v.mark - 1) v.writer at.1) in
        let here : Contains (serial s.agenda) found.0 = Contains-permutation (commits_of s.moves) (serial s.agenda) found.0 structure.committed found.1 in
        ap (listed.is_member (list_at place a.number old.list)) (sym found.2)
        ∙ in_order found.0 (with_it found.0 (subst (λ l. Contains l found.0) (sym fits.before) here))
        ∙ some

    pub writers_listed : (cell : Cell) → AreByMembers (list_at place a.number old.list) (versions_at old.store cell)
    writers_listed cell =
        all_map (HasMark s.base (map (λ u. u.number) (commits_of s.moves)) cell) (λ v. listed.is_member (list_at place a.number old.list) v.writer ≡ nat_lt 0 v.mark) (by_mark cell) (versions_at old.store cell) (stands.store.marks cell)
