-- A core that stands for a history still does so where nothing that it keeps has changed.
use Rattle.std.proofs.Common.{◌≡◌, ℕ, ◌≤◌, List, [], ◌∷◌, ◌++◌, map, refl, sym, ap, ◌∙◌, subst}
use Rattle.std.specs.Prelude.{if◌then◌else◌}
use Rattle.std.specs.List.{AllByRecursion}
use Rattle.ltx_model.specs.declared.commands.Command.{Command}
use Rattle.ltx_model.specs.declared.commands.Line.{Line}
use Rattle.ltx_model.specs.declared.commands.Line.TheVariants as lines
use Rattle.ltx_model.specs.declared.replies.Entry.{Entry}
use Rattle.ltx_model.specs.declared.replies.Reply.{Reply}
use Rattle.ltx_model.specs.declared.replies.Reply.TheVariants as replies
use Rattle.ltx_model.specs.declared.rows.StoredRow.{StoredRow}
use Rattle.ltx_model.specs.Keys.{Cell}
use Rattle.ltx_model.specs.Operations.{Transaction}
use Rattle.ltx_model.specs.Records.{AreRecordsOf}
use Rattle.ltx_model.specs.States.{Base, State, first_state}
use Rattle.ltx_model.specs.Histories.{reply_changes, after, state}
use Rattle.ltx_model.specs.Answers.{command_reply, answer, staged}
use Rattle.ltx_model.proofs.OneMore.{state-push, after-is}
use Rattle.ltx_chain.specs.Versions as versions
use Rattle.ltx_store.specs.Kept.{Kept, versions_at, rows_at, latest_rows}
use Rattle.ltx_core.specs.Built.{built}
use Rattle.ltx_core.specs.Views.{CoreView}
use Rattle.ltx_open.specs.Slots.{opened}
use Rattle.ltx_open.specs.Same.{AreSameOpens}
use Rattle.ltx_core.specs.Same.{IsSame}
use Rattle.ltx_core.specs.Stands.{ground, IsSlotOf, HasMark, write_seen, HasStore, HasOpens, StandsAt}
use Rattle.ltx_core.specs.Steps.{IsStep, Steps}
use Rattle.ltx_open.proofs.SameOpens.{same_at_itself, same_at_back}
use Rattle.ltx_core.proofs.Grounds.{with_store, open_restored}
use Rattle.ltx_core.proofs.OpensKept.{opens_on, opens_same}
use Rattle.ltx_store.proofs.Changes.{same_itself}

-- what a state answers a command, by whether it is built
pub staged_is : (s : State) (command : Command) → (if built s (lines.Good command) then command_reply s command else replies.Later) ≡ staged built s (lines.Good command)
unfolding answer
staged_is s command = refl

-- a core at a state that one entry more leads to
pub stands_after : (core : CoreView) (base : Base) (history : List Entry) (entry : Entry) (s : State) → after (state base history) entry ≡ s → StandsAt core s → StandsAt core (state base (history ++ entry ∷ []))
stands_after core base history entry s is at = subst (StandsAt core) (sym (state-push (first_state base) history entry ∙ is)) at

-- a step by what the reply changes
pub leads : (base : Base) (history : List Entry) (line : Line) (answer reply : Reply) (new : CoreView) → answer ≡ staged built (state base history) line → reply ≡ answer
    → StandsAt new (reply_changes (state base history) line answer) → IsStep new base history line reply
leads base history line answer reply new is replies stands =
    let entry : Entry = record { line = line; reply = reply } in
    record {
      reply_is = replies ∙ is;
      stands = stands_after new base history entry (reply_changes (state base history) line answer)
          (after-is (state base history) line reply ∙ ap (reply_changes (state base history) line) replies) stands;
    }

-- the versions of each key are the same
store_same : (old new : List Kept) (base now : List StoredRow) (serially commits : List Transaction) → latest_rows new ≡ latest_rows old → ((cell : Cell) → versions_at new cell ≡ versions_at old cell)
    → HasStore old base now serially commits → HasStore new base now serially commits
store_same old new base now serially commits latest same has = record {
  rows = latest ∙ has.rows;
  written = λ cell. ap (λ vs. write_seen (versions.latest vs)) (same cell) ∙ has.written cell;
  marks = λ cell. subst (AllByRecursion (HasMark base (map (λ t. t.number) commits) cell)) (sym (same cell)) (has.marks cell);
}

pub same_core : (old new : CoreView) → new ≡ old → IsSame old new
same_core old new e = subst (IsSame old) (sym e) (record { counters = refl; list = refl; commits = refl; batch = refl; store = same_itself old.store; preserve = refl; opens = λ n. same_at_itself (opened old.opens n); records = refl; areas = refl; log = record { durable = refl; closed = refl; present = refl } })

-- What two cores have in common where one keeps the same as the other.
record IsLike (old new : CoreView) : Type 0 where
  counters : new.counters ≡ old.counters
  list : new.list ≡ old.list
  commits : new.commits ≡ old.commits
  batch : new.batch ≡ old.batch
  rows : (m : ℕ) → rows_at m new.store ≡ rows_at m old.store
  latest : latest_rows new.store ≡ latest_rows old.store
  versions : (cell : Cell) → versions_at new.store cell ≡ versions_at old.store cell
  preserve : new.preserve ≡ old.preserve
  opens : AreSameOpens old.opens new.opens
  records : new.records ≡ old.records
  areas : new.areas ≡ old.areas

like : (old new : CoreView) → IsSame old new → IsLike old new
like old new same = record {
  counters = same.counters;
  list = same.list;
  commits = same.commits;
  batch = same.batch;
  rows = same.store.rows;
  latest = same.store.latest;
  versions = same.store.versions;
  preserve = same.preserve;
  opens = same.opens;
  records = same.records;
  areas = same.areas;
}

like_back : (old new : CoreView) → IsSame old new → IsLike new old
like_back old new same = record {
  counters = sym same.counters;
  list = sym same.list;
  commits = sym same.commits;
  batch = sym same.batch;
  rows = λ m. sym (same.store.rows m);
  latest = sym same.store.latest;
  versions = λ cell. sym (same.store.versions cell);
  preserve = sym same.preserve;
  opens = λ n. same_at_back (opened old.opens n) (opened new.opens n) (same.opens n);
  records = sym same.records;
  areas = sym same.areas;
}

-- such a core stands for the same
stands_like : (old new : CoreView) (s : State) → IsLike old new → StandsAt old s → StandsAt new s
stands_like old new s same at = record {
  counters = same.counters ∙ at.counters;
  agenda = record {
    list_is = same.list ∙ at.agenda.list_is;
    count_is = same.commits ∙ at.agenda.count_is;
    batch_within = subst (λ b. b ≤ new.commits) (sym same.batch) (subst (λ c. old.batch ≤ c) (sym same.commits) at.agenda.batch_within);
    slots = subst (λ hs. AllByRecursion (IsSlotOf hs) s.agenda) (sym same.preserve) at.agenda.slots;
  };
  holders = same.preserve ∙ at.holders;
  store = store_same old.store new.store _ _ _ _ same.latest same.versions at.store;
  opens = opens_same (ground new s) old.opens s.active opens_there new.opens same.opens;
  records = subst (AreRecordsOf s) (sym same.records) at.records;
  areas = same.areas ∙ at.areas;
} where
  moved : HasOpens (with_store (ground old s) new.store) old.opens s.active
  moved = opens_on (ground old s) old.opens s.active at.opens (with_store (ground old s) new.store) (λ o a here. open_restored (ground old s) new.store same.rows same.versions o a)

  same_ground : with_store (ground old s) new.store ≡ ground new s
  same_ground i = record { store = new.store; commits = sym same.commits i; batch = sym same.batch i; base = s.base; agenda = s.agenda; moves = s.moves }

  opens_there : HasOpens (ground new s) old.opens s.active
  opens_there = subst (λ g. HasOpens g old.opens s.active) same_ground moved

-- a core that keeps the same stands for the same, and so does the one before it
pub stands_same_at : (old new : CoreView) (s : State) → IsSame old new → StandsAt old s → StandsAt new s
stands_same_at old new s same at = stands_like old new s (like old new same) at

pub stands_same : (old new : CoreView) (base : Base) (history : List Entry) → IsSame old new → StandsAt old (state base history) → StandsAt new (state base history)
stands_same old new base history same stands = stands_like old new (state base history) (like old new same) stands

pub stands_same_back : (old new : CoreView) (base : Base) (history : List Entry) → IsSame old new → StandsAt new (state base history) → StandsAt old (state base history)
stands_same_back old new base history same stands = stands_like new old (state base history) (like_back old new same) stands

-- an entry that changes nothing, whatever room there is
pub stays : (old new : CoreView) (command : Command) (reply : Reply) (base : Base) (history : List Entry) → IsSame old new → StandsAt old (state base history)
    → (answer : Reply) → answer ≡ staged built (state base history) (lines.Good command) → reply ≡ answer → reply_changes (state base history) (lines.Good command) answer ≡ state base history → IsStep new base history (lines.Good command) reply
stays old new command reply base history same stands answer is replies quiet =
    leads base history (lines.Good command) answer reply new is replies (subst (StandsAt new) (sym quiet) (stands_same_at old new (state base history) same stands))

-- what is not built is answered `later`
pub later_steps : (old : CoreView) (command : Command) → ((s : State) → staged built s (lines.Good command) ≡ replies.Later) → Steps old command replies.Later old
later_steps old command is base history sound legal stands = stays old old command replies.Later base history (same_core old old refl) stands replies.Later (sym (is (state base history))) refl refl
