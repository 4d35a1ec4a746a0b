-- What the entry of a command leaves of what is kept for the log.
use Rattle.std.proofs.Common.{◌≡◌, ◌⊎◌, inl, inr, ℕ, ◌+◌, ◌-◌, ◌<◌, true, nat_lt, Result, IfOk, List, [], ◌∷◌, ◌++◌, Some, append-nil, refl, sym, ap, ◌∙◌, subst, arith}
use Rattle.std.proofs.lemmas.Bool.{lt-ltb}
use Rattle.std.specs.List.{cons_option}
use Rattle.ltx_model.specs.declared.commands.Op.{Op}
use Rattle.ltx_model.specs.declared.commands.Verb.TheVariants as verbs
use Rattle.ltx_model.specs.declared.commands.Command.{Command}
use Rattle.ltx_model.specs.declared.commands.Command.TheVariants as commands
use Rattle.ltx_model.specs.declared.commands.Line.{Line}
use Rattle.ltx_model.specs.declared.commands.Line.TheVariants as lines
use Rattle.ltx_model.specs.declared.replies.Entry.{Entry}
use Rattle.ltx_model.specs.declared.replies.Reply.{Reply}
use Rattle.ltx_model.specs.declared.replies.Reply.TheVariants as replies
use Rattle.ltx_model.specs.Agenda.{Move, Leave}
use Rattle.ltx_model.specs.States.{Kind, IsShort, IsPending, IsLive, Active, State, Base, first_state}
use Rattle.ltx_model.specs.Frames.{LogEvent, event_of}
use Rattle.ltx_model.specs.Histories.{begun, answered, closed, moved, left, reply_changes, durable_if, made_durable, after, state}
use Rattle.ltx_model.proofs.OneMore.{state-push, after-is}
use Rattle.ltx_laws.proofs.Transitions.{Cases, entry_case}
use Rattle.ltx_laws.proofs.DropsFrames.{sealed_events}
use Rattle.ltx_core.specs.Built.{built}
use Rattle.ltx_core.specs.Views.{LogView, CoreView}
use Rattle.ltx_core.specs.Logged.{events_at, IsLogged, IsSameLog, HasLogged}
use Rattle.ltx_core.specs.Same.{IsSame}
use Rattle.ltx_core.specs.Stands.{StandsAt, StandsFor}
use Rattle.ltx_core.specs.Steps.{Steps, IsAnswered}
use Rattle.ltx_core.proofs.LogMoves.{events_between, between_moved, at_moved, between_none}
use Rattle.ltx_open.proofs.Results.{if_ok}
use Rattle.ltx_core.proofs.StandsStill.{stands_same, stands_same_back}

pub log_kept : (log : LogView) → IsSameLog log log
log_kept log = record { durable = refl; closed = refl; present = refl }

-- the state has the same durable epoch, epoch and moves
pub logged_as : (log new : LogView) (s t : State) → IsSameLog log new → t.durable ≡ s.durable → t.epoch ≡ s.epoch → t.moves ≡ s.moves → IsLogged log s → IsLogged new t
logged_as log new s t same durable epoch moves is = record {
  durable = same.durable ∙ is.durable ∙ sym durable;
  closed = same.closed ∙ is.closed ∙ sealed_events s ∙ (λ i. events_between (sym durable i) (sym epoch i) (sym moves i)) ∙ sym (sealed_events t);
  present = same.present ∙ is.present ∙ (λ i. events_at (sym epoch i) (sym moves i));
}

-- it has one move more, of the present epoch
pub logged_moved : (log new : LogView) (s : State) (session : ℕ) (move : Move) → new.durable ≡ log.durable → new.events.closed ≡ log.events.closed → new.events.present ≡ log.events.present ++ cons_option (event_of s.epoch move) []
    → IsLogged log s → IsLogged new (moved (closed s session) s.epoch move)
logged_moved log new s session move durable closed_is present is = record {
  durable = durable ∙ is.durable;
  closed = closed_is ∙ is.closed ∙ sealed_events s ∙ sym (between_moved s.durable s.epoch s.moves move) ∙ sym (sealed_events (moved (closed s session) s.epoch move));
  present = present ∙ ap (λ es. es ++ cons_option (event_of s.epoch move) []) is.present ∙ sym (at_moved s.epoch s.moves move);
}

-- a move with an event
pub logged_event : (log new : LogView) (s : State) (session : ℕ) (move : Move) (event made : LogEvent) → HasLogged log new event → event ≡ made → event_of s.epoch move ≡ Some made → IsLogged log s → IsLogged new (moved (closed s session) s.epoch move)
logged_event log new s session move event made has same is_event is =
    logged_moved log new s session move has.durable has.closed (has.present ∙ ap (λ e. log.events.present ++ e ∷ []) same ∙ ap (λ e. log.events.present ++ cons_option e []) (sym is_event)) is

-- a core that keeps the same stands for the same, and so does the one before it
pub stands_for_same : (old new : CoreView) (base : Base) (history : List Entry) → IsSame old new → StandsFor old base history → StandsFor new base history
stands_for_same old new base history same stands = record {
  at = stands_same old new base history same stands.at;
  logged = logged_as old.log new.log (state base history) (state base history) same.log refl refl refl stands.logged;
}

pub stands_for_same_back : (old new : CoreView) (base : Base) (history : List Entry) → IsSame old new → StandsFor new base history → StandsFor old base history
stands_for_same_back old new base history same stands =
    let back : IsSameLog new.log old.log = record { durable = sym same.log.durable; closed = sym same.log.closed; present = sym same.log.present } in
    record {
      at = stands_same_back old new base history same stands.at;
      logged = logged_as new.log old.log (state base history) (state base history) back refl refl refl stands.logged;
    }

-- an entry that changes nothing
pub quiet : (core : CoreView) (base : Base) (history : List Entry) (entry : Entry) → after (state base history) entry ≡ state base history → StandsFor core base history → StandsFor core base (history ++ entry ∷ [])
quiet core base history entry same stands =
    let there : state base (history ++ entry ∷ []) ≡ state base history = state-push (first_state base) history entry ∙ same in
    record { at = subst (StandsAt core) (sym there) stands.at; logged = subst (IsLogged core.log) (sym there) stands.logged }

-- operations alone have replies that no line of the code names
abbrev pub IsDo : Line → Type 0
IsDo (lines.Good commands.Epoch) = ⊥
IsDo (lines.Good commands.Flush) = ⊥
IsDo (lines.Good commands.Prune) = ⊥
IsDo (lines.Good (commands.Ask session verbs.Short)) = ⊥
IsDo (lines.Good (commands.Ask session (verbs.Long writes reads))) = ⊥
IsDo (lines.Good (commands.Ask session (verbs.Do op))) = Unit {0}
IsDo (lines.Good (commands.Ask session verbs.Commit)) = ⊥
IsDo (lines.Good (commands.Ask session verbs.Abort)) = ⊥
IsDo (lines.Bad cause) = ⊥

-- a reply that leaves no event and no epoch
abbrev pub IsQuiet : Reply → Type 0
IsQuiet (replies.Committed epoch) = ⊥
IsQuiet (replies.CommittedBefore epoch target) = ⊥
IsQuiet (replies.Advanced epoch) = ⊥
IsQuiet (replies.Durable epoch) = ⊥
IsQuiet reply = Unit {0}

abbrev pub IsCalm : Line → Reply → Type 0
IsCalm line reply = IsDo line ⊎ IsQuiet reply

module _ (log new : LogView) (s : State) (same : IsSameLog log new) (is : IsLogged log s) where
  still : (t : State) → t.durable ≡ s.durable → t.epoch ≡ s.epoch → t.moves ≡ s.moves → IsLogged new t
  still t durable epoch moves = logged_as log new s t same durable epoch moves is

  after_end : (session : ℕ) (o : Active) (k : Kind) → IsLogged new (left (closed s session) k o.number)
  after_end session o IsShort = still (closed s session) refl refl refl
  after_end session o (IsPending d) = still (closed s session) refl refl refl
  after_end session o (IsLive d snapshot) = logged_moved log new s session (Leave o.number) same.durable same.closed (same.present ∙ sym (append-nil log.events.present)) is

  calm_cases : Cases s (λ line reply s'. IsCalm line reply → IsLogged new s')
  calm_cases = record {
    nothing = λ line reply leaves calm. still s refl refl refl;
    begins_short = λ session none calm. still (begun s IsShort (s.last + 1) session) refl refl refl;
    begins_long = λ session writes reads none calm. still (begun s (IsPending (record { writes = writes; reads = reads; from = s.epoch + 1 })) (s.last + 1) session) refl refl refl;
    answers_short = λ session op o reply is kind free sees answers calm. still (answered s op reply session) refl refl refl;
    answers_batch = λ session op o d snapshot reply is kind free sees answers calm. still (answered s op reply session) refl refl refl;
    commits_short = λ session o is kind free unchanged calm. absurd (no_commit calm);
    commits_home = λ session o d snapshot is kind none calm. absurd (no_commit calm);
    commits_before = λ session o d snapshot p is kind aim free elder calm. absurd (no_commit calm);
    ends = λ session verb reply o is ends calm. after_end session o o.kind;
    advances = λ calm. absurd (no_commit calm);
    flushes = λ epoch which calm. absurd (no_commit calm);
  } where
    no_commit : ⊥ ⊎ ⊥ → ⊥
    no_commit (inl n) = n
    no_commit (inr n) = n

-- after an entry, by what its reply changes
pub logged_after : (log : LogView) (base : Base) (history : List Entry) (line : Line) (answer reply : Reply) → reply ≡ answer → IsLogged log (reply_changes (state base history) line answer)
    → IsLogged log (state base (history ++ record { line = line; reply = reply } ∷ []))
logged_after log base history line answer reply same is =
    subst (IsLogged log)
    (sym (state-push (first_state base) history (record { line = line; reply = reply }) ∙ after-is (state base history) line reply ∙ ap (reply_changes (state base history) line) same)) is

pub stands_leads : (core : CoreView) (base : Base) (history : List Entry) (line : Line) (answer reply : Reply) → reply ≡ answer → StandsAt core (reply_changes (state base history) line answer)
    → StandsAt core (state base (history ++ record { line = line; reply = reply } ∷ []))
stands_leads core base history line answer reply same at =
    subst (StandsAt core)
    (sym (state-push (first_state base) history (record { line = line; reply = reply }) ∙ after-is (state base history) line reply ∙ ap (reply_changes (state base history) line) same)) at

-- a command whose answer leaves no event and no epoch
pub calm_answered : (old : CoreView) (command : Command) (reply : Reply) (new : CoreView) → Steps old command reply new → IsSameLog old.log new.log → IsCalm (lines.Good command) reply → IsAnswered old command reply new
calm_answered old command reply new steps same calm = record {
  steps = steps;
  logs = λ base history sound legal stands.
      let entry : Entry = record { line = lines.Good command; reply = reply } in
      subst (IsLogged new.log) (sym (state-push (first_state base) history entry))
      (entry_case (state base history) (λ line reply s'. IsCalm line reply → IsLogged new.log s') (calm_cases old.log new.log (state base history) same stands.logged) built entry
      (steps base history sound legal stands.at).reply_is calm);
}

-- by the fields of a core
pub calm_from : (v w : CoreView) → v ≡ w → (command : Command) (reply : Reply) (new : CoreView) → Steps w command reply new → IsSameLog v.log new.log → IsCalm (lines.Good command) reply → IsAnswered w command reply new
calm_from v w is command reply new steps same calm = calm_answered w command reply new steps (subst (λ (u : CoreView). IsSameLog u.log new.log) is same) calm

pub calm_result : (v w : CoreView) → v ≡ w → (session : ℕ) (op : Op) (new : CoreView) → IsSameLog v.log new.log → {E : Type 0} → (r : Result Reply E) → IfOk r (λ reply. Steps w (commands.Ask session (verbs.Do op)) reply new)
    → IfOk r (λ reply. IsAnswered w (commands.Ask session (verbs.Do op)) reply new)
calm_result v w is session op new same r steps =
    if_ok _ _ (λ reply does. calm_from v w is (commands.Ask session (verbs.Do op)) reply new does same (inl tt)) r steps

-- what was closed is durable
pub logged_durable : (log new : LogView) (s : State) → log.durable + 1 < s.epoch → new.durable ≡ s.epoch - 1 → new.events.closed ≡ [] → new.events.present ≡ log.events.present → IsLogged log s
    → IsLogged new (made_durable s (s.epoch - 1))
logged_durable log new s ahead durable closed_is present is =
    let same : log.durable ≡ s.durable = is.durable in
    let less : nat_lt s.durable (s.epoch - 1) ≡ true = lt-ltb s.durable (s.epoch - 1) (let h : s.durable < s.epoch - 1 = omega arith in h) in
    let then : State = durable_if true s (s.epoch - 1) in
    subst (λ b. IsLogged new (durable_if b s (s.epoch - 1))) (sym less) (record {
      durable = durable;
      closed = closed_is ∙ sym (sealed_events then ∙ between_none s.epoch s.moves (let h : 0 < s.epoch = omega arith in h));
      present = present ∙ is.present;
    })
