-- What is kept of the open transactions of a state, each at its session.
use Rattle.std.proofs.Common.{◌≡◌, ℕ, suc, ◌+◌, Bool, true, false, cond, ◌==◌, List, [], ◌∷◌, ◌++◌, map, length, Option, Some, None, Contains, refl, sym, ap, ◌∙◌, subst, nat_le}
use Rattle.std.specs.List.{find, AllByRecursion}
use Rattle.std.proofs.lemmas.Bool.{eqb-true}
use Rattle.ltx_model.specs.declared.looked.Noted.{Noted}
use Rattle.ltx_model.specs.declared.writes.Look.{Look}
use Rattle.ltx_model.specs.Lists.{numbered, numbered_from, change_first, without_first, IsPairwise}
use Rattle.ltx_model.specs.Keys.{Cell}
use Rattle.ltx_model.specs.LastWrites.{last_write}
use Rattle.ltx_model.specs.Operations.{Transaction}
use Rattle.ltx_model.specs.Notes.{AreNotesBy}
use Rattle.ltx_model.specs.Decisions.{IsAskedLook}
use Rattle.ltx_model.specs.States.{Declaration, Kind, IsShort, IsPending, IsLive, Step, Active, transaction_of, answered_of, is_of}
use Rattle.ltx_model.specs.Answers.{is_full}
use Rattle.ltx_model.specs.Limits.{most_operations}
use Rattle.ltx_lemmas.proofs.Lists.{contains_here, contains_later, all_map, all_push, all_without, all_find, some_same, none_some, find_none, find_passes}
use Rattle.ltx_open.specs.declared.stage.Declared.{Declared}
use Rattle.ltx_open.specs.declared.stage.Stage.{Stage}
use Rattle.ltx_open.specs.declared.stage.Stage.TheVariants as stages
use Rattle.ltx_open.specs.Views.{OpenView, declaration}
use Rattle.ltx_open.specs.Slots.{opened, HasAt}
use Rattle.ltx_open.specs.Same.{IsSameOpen, IsSameAt, AreSameOpens}
use Rattle.ltx_core.specs.Stands.{Ground, everybody, AreMarked, IsShortOpen, IsPendingOpen, IsLiveOpen, IsOfKind, IsOpen, IsFound, AreApart, HasOpens}
use Rattle.ltx_core.proofs.Sessions.{pairs_without, apart_changed, none_changed, apart_left, find_left, apart_more, find_more, apart_back}

-- how many
length_notes : (tells : Step → Cell → Option Look → Type 0) (n : ℕ) (earlier steps : List Step) (notes : List Noted) → AreNotesBy tells (numbered_from n earlier steps) notes → length notes ≡ length steps
length_notes tells n earlier [] [] are = refl
length_notes tells n earlier [] (note ∷ notes) are = absurd are
length_notes tells n earlier (b ∷ bs) [] are = absurd are
length_notes tells n earlier (b ∷ bs) (note ∷ notes) are = ap suc (length_notes tells (n + 1) (earlier ++ b ∷ []) bs notes are.1)

length_answered : (steps : List Step) → length (map answered_of steps) ≡ length steps
length_answered [] = refl
length_answered (b ∷ bs) = ap suc (length_answered bs)

-- the same is kept, with other room
kind_same : (g : Ground) (n : ℕ) (steps : List Step) (a b : OpenView) (kind : Kind) (stage : Stage) → b.notes.notes ≡ a.notes.notes → b.notes.marks ≡ a.notes.marks
    → IsOfKind g n steps a kind stage → IsOfKind g n steps b kind stage
kind_same g n steps a b IsShort stages.Short notes marks is = record {
  notes = subst (AreNotesBy (λ step. IsAskedLook everybody (last_write g.base step.order)) (numbered steps)) (sym notes) is.notes;
  marks = subst (AreMarked g.store g.commits steps) (sym marks) is.marks;
  moments = is.moments;
  rising = is.rising;
}
kind_same g n steps a b (IsPending d) (stages.Pending e) notes marks is = (is.0, record { idle = is.1.idle; notes = notes ∙ is.1.notes })
kind_same g n steps a b (IsLive d snapshot) (stages.Live e mark) notes marks is =
    (is.0, record { slot_at = is.1.slot_at; rows = is.1.rows; writes = is.1.writes; notes = subst (AreNotesBy (λ step. IsAskedLook everybody (last_write g.base snapshot)) (numbered steps)) (sym notes) is.1.notes })
kind_same g n steps a b IsShort (stages.Pending e) notes marks is = absurd is
kind_same g n steps a b IsShort (stages.Live e mark) notes marks is = absurd is
kind_same g n steps a b (IsPending d) stages.Short notes marks is = absurd is
kind_same g n steps a b (IsPending d) (stages.Live e mark) notes marks is = absurd is
kind_same g n steps a b (IsLive d snapshot) stages.Short notes marks is = absurd is
kind_same g n steps a b (IsLive d snapshot) (stages.Pending e) notes marks is = absurd is

pub open_same : (g : Ground) (o : Active) (a b : OpenView) → IsSameOpen a b → IsOpen g o a → IsOpen g o b
open_same g o a b same is = record {
  number = same.number ∙ is.number;
  own = same.own ∙ is.own;
  kind = subst (IsOfKind g o.number o.steps b o.kind) (sym same.stage) (kind_same g o.number o.steps a b o.kind a.stage same.notes same.marks is.kind);
}

-- as many notes as answered operations
count_is : (g : Ground) (n : ℕ) (steps : List Step) (a : OpenView) (kind : Kind) (stage : Stage) → IsOfKind g n steps a kind stage → length a.notes.notes ≡ length steps
count_is g n steps a IsShort stages.Short is = length_notes (λ step. IsAskedLook everybody (last_write g.base step.order)) 1 [] steps a.notes.notes is.notes
count_is g n steps a (IsPending d) (stages.Pending e) is = ap length is.1.notes ∙ ap length (sym is.1.idle)
count_is g n steps a (IsLive d snapshot) (stages.Live e mark) is = length_notes (λ step. IsAskedLook everybody (last_write g.base snapshot)) 1 [] steps a.notes.notes is.1.notes
count_is g n steps a IsShort (stages.Pending e) is = absurd is
count_is g n steps a IsShort (stages.Live e mark) is = absurd is
count_is g n steps a (IsPending d) stages.Short is = absurd is
count_is g n steps a (IsPending d) (stages.Live e mark) is = absurd is
count_is g n steps a (IsLive d snapshot) stages.Short is = absurd is
count_is g n steps a (IsLive d snapshot) (stages.Pending e) is = absurd is

pub full_is : (g : Ground) (o : Active) (a : OpenView) → IsOpen g o a → nat_le most_operations (length a.notes.notes) ≡ is_full (transaction_of o)
full_is g o a is = ap (λ n. nat_le most_operations n) (count_is g o.number o.steps a o.kind a.stage is.kind ∙ sym (length_answered o.steps))

-- what a batch declared, and its mark
abbrev declared_in : Declared → Stage → Declared
declared_in e stages.Short = e
declared_in e (stages.Pending d) = d
declared_in e (stages.Live d mark) = d

abbrev mark_in : Stage → ℕ
mark_in stages.Short = 0
mark_in (stages.Pending d) = 0
mark_in (stages.Live d mark) = mark

-- what is kept of a short, of a pending batch, and of a live one
pub as_short : (g : Ground) (n : ℕ) (steps : List Step) (a : OpenView) (kind : Kind) (stage : Stage) → stage ≡ stages.Short → IsOfKind g n steps a kind stage → (kind ≡ IsShort) × IsShortOpen g steps a
as_short g n steps a IsShort stages.Short at is = (refl, is)
as_short g n steps a (IsPending d) stages.Short at is = absurd is
as_short g n steps a (IsLive d snapshot) stages.Short at is = absurd is
as_short g n steps a kind (stages.Pending e) at is = cc
as_short g n steps a kind (stages.Live e mark) at is = cc

pub as_pending : (g : Ground) (n : ℕ) (steps : List Step) (a : OpenView) (kind : Kind) (stage : Stage) (e : Declared) → stage ≡ stages.Pending e → IsOfKind g n steps a kind stage
    → (kind ≡ IsPending (declaration e)) × IsPendingOpen steps a
as_pending g n steps a (IsPending d) (stages.Pending f) e at is =
    let same : declaration e ≡ d = ap (λ s. declaration (declared_in e s)) (sym at) ∙ is.0 in
    (ap IsPending (sym same), is.1)
as_pending g n steps a IsShort (stages.Pending f) e at is = absurd is
as_pending g n steps a (IsLive d snapshot) (stages.Pending f) e at is = absurd is
as_pending g n steps a kind stages.Short e at is = cc
as_pending g n steps a kind (stages.Live f mark) e at is = cc

-- What is kept of a live batch.
pub record FoundLive (g : Ground) (n : ℕ) (steps : List Step) (a : OpenView) (kind : Kind) (d : Declaration) (mark : ℕ) : Type 0 where
  pub snapshot : List Transaction
  pub kind_is : kind ≡ IsLive d snapshot
  pub live : IsLiveOpen g n d.writes snapshot steps mark a

pub as_live_open : (g : Ground) (n : ℕ) (steps : List Step) (a : OpenView) (kind : Kind) (stage : Stage) (e : Declared) (mark : ℕ) → stage ≡ stages.Live e mark → IsOfKind g n steps a kind stage
    → FoundLive g n steps a kind (declaration e) mark
as_live_open g n steps a (IsLive d snapshot) (stages.Live f m) e mark at is =
    let same : declaration e ≡ d = ap (λ s. declaration (declared_in e s)) (sym at) ∙ is.0 in
    let marked : mark ≡ m = ap mark_in (sym at) in
    record {
      snapshot = snapshot;
      kind_is = ap (λ c. IsLive c snapshot) (sym same);
      live = subst (λ c. IsLiveOpen g n c.writes snapshot steps mark a) (sym same) (subst (λ k. IsLiveOpen g n d.writes snapshot steps k a) (sym marked) is.1);
    }
as_live_open g n steps a IsShort (stages.Live f m) e mark at is = absurd is
as_live_open g n steps a (IsPending d) (stages.Live f m) e mark at is = absurd is
as_live_open g n steps a kind stages.Short e mark at is = cc
as_live_open g n steps a kind (stages.Pending f) e mark at is = cc

-- what is kept of all of them
module _ (g : Ground) (opens : List (Option OpenView)) (active : List Active) (has : HasOpens g opens active) where
  -- on other ground
  pub opens_on : (new : Ground) → ((o : Active) (a : OpenView) → Contains active o → IsOpen g o a → IsOpen new o a) → HasOpens new opens active
  opens_on new each = record { found = all_with active has.found (λ o here. here); others = has.others; apart = has.apart } where
    all_with : (os : List Active) → AllByRecursion (IsFound g opens) os → ((o : Active) → Contains os o → Contains active o) → AllByRecursion (IsFound new opens) os
    all_with [] all within = tt
    all_with (o ∷ os) all within = (
      record { open_tx = all.0.open_tx; here = all.0.here; is_open = each o all.0.open_tx (within o (contains_here o os)) all.0.is_open },
      all_with os all.1 (λ u here. within u (contains_later o os u here)),
    )

  -- the same are kept, with other room
  pub opens_same : (new : List (Option OpenView)) → AreSameOpens opens new → HasOpens g new active
  opens_same new same = record {
    found = all_map _ _ each active has.found;
    others = λ session none. none_same (opened opens session) (opened new session) (same session) (has.others session none);
    apart = has.apart;
  } where
    none_same : (o u : Option OpenView) → IsSameAt o u → o ≡ None → u ≡ None
    none_same o None is none = refl
    none_same None (Some u) is none = absurd is
    none_same (Some o) (Some u) is none = absurd (none_some (sym none))

    each : (o : Active) → IsFound g opens o → IsFound g new o
    each o f = by_option (opened new o.session) refl (subst (λ p. IsSameAt p (opened new o.session)) f.here (same o.session)) where
      by_option : (u : Option OpenView) → opened new o.session ≡ u → IsSameAt (Some f.open_tx) u → IsFound g new o
      by_option None is at = absurd at
      by_option (Some b) is at = record { open_tx = b; here = is; is_open = open_same g o f.open_tx b at f.is_open }

  -- the open transaction of a session
  found_at : (session : ℕ) (o : Active) → find (is_of session) active ≡ Some o → (a : OpenView) × (opened opens session ≡ Some a) × IsOpen g o a
  found_at session o is =
      let f : IsFound g opens o = all_find (IsFound g opens) (is_of session) active o has.found is in
      let same : o.session ≡ session = eqb-true o.session session (find_passes (is_of session) active o is) in
      (f.open_tx, ap (opened opens) (sym same) ∙ f.here, f.is_open)

  pub opens_none : (session : ℕ) → opened opens session ≡ None → find (is_of session) active ≡ None
  opens_none session none = by_found (find (is_of session) active) refl where
    by_found : (f : Option Active) → find (is_of session) active ≡ f → f ≡ None
    by_found None is = refl
    by_found (Some o) is = absurd (none_some (sym none ∙ (found_at session o is).1))

  pub record FoundOpen (session : ℕ) (a : OpenView) : Type 0 where
    pub open_tx : Active
    pub found : find (is_of session) active ≡ Some open_tx
    pub is_open : IsOpen g open_tx a

  pub opens_some : (session : ℕ) (a : OpenView) → opened opens session ≡ Some a → FoundOpen session a
  opens_some session a some = by_found (find (is_of session) active) refl where
    by_found : (f : Option Active) → find (is_of session) active ≡ f → FoundOpen session a
    by_found None is = absurd (none_some (sym (has.others session is) ∙ some))
    by_found (Some o) is =
        let at = found_at session o is in
        record { open_tx = o; found = is; is_open = subst (IsOpen g o) (some_same (sym at.1 ∙ some)) at.2 }

  -- the others stay, where one session's slot changes
  other_stays : (session : ℕ) (x : Option OpenView) (new : List (Option OpenView)) → HasAt opens session x new → (o : Active) → is_of session o ≡ false
      → IsFound g opens o → IsFound g new o
  other_stays session x new at o apart f = record { open_tx = f.open_tx; here = at.others o.session apart ∙ f.here; is_open = f.is_open }

  both_all : (P Q R : Active → Type 0) → ((o : Active) → P o → Q o → R o) → (os : List Active) → AllByRecursion P os → AllByRecursion Q os → AllByRecursion R os
  both_all P Q R f [] all also = tt
  both_all P Q R f (o ∷ os) all also = (f o all.0 also.0, both_all P Q R f os all.1 also.1)

  -- one more, of a session that has none
  pub opens_begun : (o : Active) (a : OpenView) (new : List (Option OpenView)) → find (is_of o.session) active ≡ None → HasAt opens o.session (Some a) new → IsOpen g o a
      → HasOpens g new (active ++ o ∷ [])
  opens_begun o a new none at is = record {
    found = all_push (IsFound g new) active o
        (both_all (λ u. is_of o.session u ≡ false) (IsFound g opens) (IsFound g new) (other_stays o.session (Some a) new at) active (find_none (is_of o.session) active none) has.found)
        (record { open_tx = a; here = at.here; is_open = is });
    others = λ session nothing. let both = find_more session active o nothing in at.others session (apart_back o.session session both.1) ∙ has.others session both.0;
    apart = apart_more active o has.apart none;
  }

  -- one less
  pub opens_ended : (session : ℕ) (o : Active) (new : List (Option OpenView)) → find (is_of session) active ≡ Some o → HasAt opens session None new
      → HasOpens g new (without_first (is_of session) active)
  opens_ended session o new is at = record {
    found = both_all (λ u. is_of session u ≡ false) (IsFound g opens) (IsFound g new) (other_stays session None new at) (without_first (is_of session) active)
        (apart_left session active o has.apart is) (all_without (IsFound g opens) (is_of session) active has.found);
    others = λ n nothing. by_test n nothing (n == session) refl;
    apart = pairs_without AreApart (is_of session) active has.apart;
  } where
    by_test : (n : ℕ) → find (is_of n) (without_first (is_of session) active) ≡ None → (b : Bool) → (n == session) ≡ b → opened new n ≡ None
    by_test n nothing true same = ap (opened new) (eqb-true n session same) ∙ at.here
    by_test n nothing false apart = at.others n apart ∙ has.others n (find_left session n active apart nothing)

  -- one changed
  pub opens_changed : (session : ℕ) (f : Active → Active) (o : Active) (b : OpenView) (new : List (Option OpenView)) → ((u : Active) → (f u).session ≡ u.session) → find (is_of session) active ≡ Some o
      → HasAt opens session (Some b) new → IsOpen g (f o) b → HasOpens g new (change_first (is_of session) f active)
  opens_changed session f o b new stays is at open_is = record {
    found = changed active is has.found has.apart;
    others = λ n nothing. by_test n nothing (n == session) refl;
    apart = apart_changed session f stays active has.apart;
  } where
    changed : (os : List Active) → find (is_of session) os ≡ Some o → AllByRecursion (IsFound g opens) os → IsPairwise AreApart os
        → AllByRecursion (IsFound g new) (change_first (is_of session) f os)
    changed [] found all pairs = tt
    changed (u ∷ us) found all pairs = by_head (is_of session u) refl found (λ later. changed us later all.1 pairs.1) where
      by_head : (t : Bool) → is_of session u ≡ t → cond t (Some u) (find (is_of session) us) ≡ Some o
          → (find (is_of session) us ≡ Some o → AllByRecursion (IsFound g new) (change_first (is_of session) f us))
          → AllByRecursion (IsFound g new) (cond t (f u ∷ us) (u ∷ change_first (is_of session) f us))
      by_head true here found later =
          let same : u.session ≡ session = eqb-true u.session session here in (
            record { open_tx = b; here = ap (opened new) (stays u ∙ same) ∙ at.here; is_open = subst (λ w. IsOpen g (f w) b) (sym (some_same found)) open_is },
            both_all (AreApart u) (IsFound g opens) (IsFound g new)
                (λ v apart. other_stays session (Some b) new at v (subst (λ k. (v.session == k) ≡ false) same apart)) us pairs.0 all.1,
          )
      by_head false here found later = (other_stays session (Some b) new at u here all.0, later found)

    by_test : (n : ℕ) → find (is_of n) (change_first (is_of session) f active) ≡ None → (t : Bool) → (n == session) ≡ t → opened new n ≡ None
    by_test n nothing true same = absurd (none_some (sym (none_changed session f stays session active (subst (λ k. find (is_of k) (change_first (is_of session) f active) ≡ None) (eqb-true n session same) nothing)) ∙ is))
    by_test n nothing false apart = at.others n apart ∙ has.others n (none_changed session f stays n active nothing)
