-- A flush is answered `later` without effect, so the core stands for the history without the flushes, and for no other state.
use Rattle.std.proofs.Common.{◌≡◌, ◌≢◌, Bool, true, false, cond, not, Result, Ok, Err, IfOk, List, [], ◌∷◌, ◌++◌, filter, refl, sym, ap, ◌∙◌, subst}
use Rattle.ltx_model.specs.declared.commands.Command.{Command}
use Rattle.ltx_model.specs.declared.commands.Command.TheVariants as commands
use Rattle.ltx_model.specs.declared.commands.Line.{Line}
use Rattle.ltx_model.specs.declared.commands.Line.TheVariants as lines
use Rattle.ltx_model.specs.declared.replies.Entry.{Entry}
use Rattle.ltx_model.specs.declared.replies.Reply.{Reply}
use Rattle.ltx_model.specs.declared.replies.Reply.TheVariants as replies
use Rattle.ltx_model.specs.States.{Base, IsSound, State, first_state}
use Rattle.ltx_model.specs.Histories.{reply_changes, after, state, state_from}
use Rattle.ltx_model.specs.Answers.{staged, IsLegalFrom, IsLegalWith}
use Rattle.ltx_model.proofs.OneMore.{state-push, after-is}
use Rattle.ltx_core.specs.Built as core
use Rattle.ltx_core.specs.Logged.{IsLogged}
use Rattle.ltx_core.specs.Views.{CoreView}
use Rattle.ltx_core.specs.Stands.{StandsAt, StandsFor}
use Rattle.ltx_top.specs.Built.{built}

abbrev pub is_flush : Line → Bool
is_flush (lines.Good commands.Epoch) = false
is_flush (lines.Good commands.Flush) = true
is_flush (lines.Good commands.Prune) = false
is_flush (lines.Good (commands.Ask session verb)) = false
is_flush (lines.Bad cause) = false

abbrev pub unflushed : List Entry → List Entry
unflushed history = filter (λ e. not (is_flush e.line)) history

-- any other line is answered alike
pub same_answer : (s : State) (line : Line) → is_flush line ≡ false → staged core.built s line ≡ staged built s line
same_answer s (lines.Good commands.Epoch) none = refl
same_answer s (lines.Good commands.Flush) none = cc
same_answer s (lines.Good commands.Prune) none = refl
same_answer s (lines.Good (commands.Ask session verb)) none = refl
same_answer s (lines.Bad cause) none = refl

-- a flush leaves the state
flush_leaves : (s : State) (line : Line) → is_flush line ≡ true → reply_changes s line (staged built s line) ≡ s
flush_leaves s (lines.Good commands.Epoch) flush = cc
flush_leaves s (lines.Good commands.Flush) flush = refl
flush_leaves s (lines.Good commands.Prune) flush = cc
flush_leaves s (lines.Good (commands.Ask session verb)) flush = cc
flush_leaves s (lines.Bad cause) flush = cc

legal_without : (s : State) (history : List Entry) → IsLegalFrom built s history → IsLegalFrom core.built s (unflushed history) × (state_from s (unflushed history) ≡ state_from s history)
unfolding IsLegalFrom state_from
legal_without s [] legal = (tt, refl)
legal_without s (entry ∷ entries) legal = by_test (is_flush entry.line) refl (legal_without (after s entry) entries legal.1) where
  by_test : (b : Bool) → is_flush entry.line ≡ b → IsLegalFrom core.built (after s entry) (unflushed entries) × (state_from (after s entry) (unflushed entries) ≡ state_from (after s entry) entries)
      → IsLegalFrom core.built s (cond (not b) (entry ∷ unflushed entries) (unflushed entries)) × (state_from s (cond (not b) (entry ∷ unflushed entries) (unflushed entries)) ≡ state_from (after s entry) entries)
  by_test true is rest =
      let same : after s entry ≡ s = after-is s entry.line entry.reply ∙ ap (reply_changes s entry.line) legal.0 ∙ flush_leaves s entry.line is in
      (subst (λ t. IsLegalFrom core.built t (unflushed entries)) same rest.0, ap (λ t. state_from t (unflushed entries)) (sym same) ∙ rest.1)
  by_test false is rest = ((legal.0 ∙ sym (same_answer s entry.line is), rest.0), rest.1)

stands_where : (core_now : CoreView) (base : Base) (h g : List Entry) → state base h ≡ state base g → StandsFor core_now base h → StandsFor core_now base g
stands_where core_now base h g same stands = record { at = subst (StandsAt core_now) same stands.at; logged = subst (IsLogged core_now.log) same stands.logged }

-- what the core says of a line that is no flush
module _ (base : Base) (history : List Entry) (legal : IsLegalWith built base history) (line : Line) (other : is_flush line ≡ false) where
  abbrev shorter : List Entry
  shorter = unflushed history

  same_state : state base shorter ≡ state base history
  same_state = (legal_without (first_state base) history legal).1

  pub shorter_legal : IsLegalWith core.built base shorter
  shorter_legal = (legal_without (first_state base) history legal).0

  pub shorter_stands : (old : CoreView) → StandsFor old base history → StandsFor old base shorter
  shorter_stands old stands = stands_where old base history shorter (sym same_state) stands

  pub longer_answer : (reply : Reply) → reply ≡ staged core.built (state base shorter) line → reply ≡ staged built (state base history) line
  longer_answer reply is = is ∙ ap (λ s. staged core.built s line) same_state ∙ same_answer (state base history) line other

  pub longer_stands : (new : CoreView) (reply : Reply) → StandsFor new base (shorter ++ record { line = line; reply = reply } ∷ []) → StandsFor new base (history ++ record { line = line; reply = reply } ∷ [])
  longer_stands new reply stands =
      let entry : Entry = record { line = line; reply = reply } in
      stands_where new base (shorter ++ entry ∷ []) (history ++ entry ∷ []) (state-push (first_state base) shorter entry ∙ ap (λ s. after s entry) same_state ∙ sym (state-push (first_state base) history entry)) stands

-- a line that is no flush is none
pub not_flush : (command : Command) → command ≢ commands.Flush → is_flush (lines.Good command) ≡ false
not_flush commands.Epoch other = refl
not_flush commands.Flush other = absurd (other refl)
not_flush commands.Prune other = refl
not_flush (commands.Ask session verb) other = refl

-- a flush is answered `later`, and the core stands for the history with this entry
pub flush_later : (s : State) → replies.Later ≡ staged built s (lines.Good commands.Flush)
flush_later s = refl

pub flush_stands : (core_now : CoreView) (base : Base) (history : List Entry) → StandsFor core_now base history → StandsFor core_now base (history ++ record { line = lines.Good commands.Flush; reply = replies.Later } ∷ [])
flush_stands core_now base history stands =
    let entry : Entry = record { line = lines.Good commands.Flush; reply = replies.Later } in
    stands_where core_now base history (history ++ entry ∷ []) (sym (state-push (first_state base) history entry ∙ after-is (state base history) (lines.Good commands.Flush) replies.Later)) stands

-- the clauses on a command's answer
pub record IsAnsweredAs (E : Type 0) (old : CoreView) (line : Line) (result : Result Reply E) (new : CoreView) : Type 0 where
  pub reply : IfOk result (λ reply. (base : Base) (history : List Entry) → IsSound base → IsLegalWith built base history → StandsFor old base history → reply ≡ staged built (state base history) line)
  pub stands : IfOk result (λ reply. (base : Base) (history : List Entry) → IsSound base → IsLegalWith built base history → StandsFor old base history → StandsFor new base (history ++ record { line = line; reply = reply } ∷ []))

pub step_answers : (E : Type 0) (old : CoreView) (line : Line) (command : Command) (result : Result Reply E) (new : CoreView) → line ≡ lines.Good command → is_flush (lines.Good command) ≡ false
    → IfOk result (λ reply. (base : Base) (history : List Entry) → IsSound base → IsLegalWith core.built base history → StandsFor old base history → reply ≡ staged core.built (state base history) (lines.Good command))
    → IfOk result (λ reply. (base : Base) (history : List Entry) → IsSound base → IsLegalWith core.built base history → StandsFor old base history → StandsFor new base (history ++ record { line = lines.Good command; reply = reply } ∷ []))
    → IsAnsweredAs E old line result new
step_answers E old line command (Ok reply) new is other says stands =
    subst (λ l. IsAnsweredAs E old l (Ok reply) new) (sym is) (record {
      reply = λ base history sound legal at. longer_answer base history legal (lines.Good command) other reply (says base (unflushed history) sound (shorter_legal base history legal (lines.Good command) other) (shorter_stands base history legal (lines.Good command) other old at));
      stands = λ base history sound legal at. longer_stands base history legal (lines.Good command) other new reply (stands base (unflushed history) sound (shorter_legal base history legal (lines.Good command) other) (shorter_stands base history legal (lines.Good command) other old at));
    })
step_answers E old line command (Err e) new is other says stands = record { reply = tt; stands = tt }
