-- The serial order explains each legal history.
use Rattle.std.proofs.Common.{Bool, List, [], sym, subst}
use Rattle.ltx_model.specs.declared.commands.Line.{Line}
use Rattle.ltx_model.specs.declared.replies.Entry.{Entry}
use Rattle.ltx_model.specs.States.{Base, IsSound, State, first_state, order}
use Rattle.ltx_model.specs.Histories.{state}
use Rattle.ltx_model.specs.Answers.{IsLegalWith}
use Rattle.ltx_model.specs.Explained.{IsExplained}
use Rattle.ltx_model.proofs.OneMore.{gives-none, legal-none, state-none}
use Rattle.ltx_laws.proofs.Transitions.{Cases, along}
use Rattle.ltx_laws.proofs.Told.{commits_told}
use Rattle.ltx_laws.proofs.GuardedStates.{IsGuardedState, guarded_cases, guarded_of}
use Rattle.ltx_laws.proofs.Unread.{are_unread}
use Rattle.ltx_laws.proofs.ReadsKept.{Reads}
use Rattle.ltx_laws.proofs.Explained.{are_ahead, reads_cases, explained_by}

-- what is guarded and read
record IsReadState (base : Base) (s : State) : Type 0 where
  guarded : IsGuardedState base s
  reads : Reads base.rows s

read_cases : (base : Base) → IsSound base → (s : State) → IsReadState base s → Cases s (λ line reply after. IsReadState base after)
read_cases base sound s h =
    let g = guarded_cases base s h.guarded in
    let r = reads_cases base s sound h.guarded.structure (are_unread base s h.guarded) (are_ahead base s h.guarded.structure) h.reads in
    record {
      nothing = λ line reply leaves. h;
      begins_short = λ session none. record { guarded = g.begins_short session none; reads = r.begins_short session none };
      begins_long = λ session writes reads none. record { guarded = g.begins_long session writes reads none; reads = r.begins_long session writes reads none };
      answers_short = λ session op o reply is kind free sees answers. record { guarded = g.answers_short session op o reply is kind free sees answers; reads = r.answers_short session op o reply is kind free sees answers };
      answers_batch = λ session op o d snapshot reply is kind free sees answers. record { guarded = g.answers_batch session op o d snapshot reply is kind free sees answers; reads = r.answers_batch session op o d snapshot reply is kind free sees answers };
      commits_short = λ session o is kind free unchanged. record { guarded = g.commits_short session o is kind free unchanged; reads = r.commits_short session o is kind free unchanged };
      commits_home = λ session o d snapshot is kind none. record { guarded = g.commits_home session o d snapshot is kind none; reads = r.commits_home session o d snapshot is kind none };
      commits_before = λ session o d snapshot p is kind aim free elder. record { guarded = g.commits_before session o d snapshot p is kind aim free elder; reads = r.commits_before session o d snapshot p is kind aim free elder };
      ends = λ session verb reply o is ends. record { guarded = g.ends session verb reply o is ends; reads = r.ends session verb reply o is ends };
      advances = record { guarded = g.advances; reads = r.advances };
      flushes = λ epoch which. record { guarded = g.flushes epoch which; reads = r.flushes epoch which };
    }

first_read : (built : State → Line → Bool) (base : Base) → IsReadState base (first_state base)
first_read built base = record { guarded = subst (IsGuardedState base) (state-none (first_state base)) (guarded_of built base [] (legal-none built (first_state base))); reads = record { explained = gives-none base.rows; read = tt } }

-- what open transactions have read in a state of a legal history
pub reads_of : (built : State → Line → Bool) (base : Base) (history : List Entry) → IsSound base → IsLegalWith built base history → Reads base.rows (state base history)
reads_of built base history sound legal = (along built (IsReadState base) (read_cases base sound) (first_state base) history (first_read built base) legal).reads

pub explained : (built : State → Line → Bool) (base : Base) (history : List Entry) → IsSound base → IsLegalWith built base history → IsExplained base history (order (state base history))
explained built base history sound legal =
    let h : IsReadState base (state base history) = along built (IsReadState base) (read_cases base sound) (first_state base) history (first_read built base) legal in
    explained_by base history (state base history) h.guarded.structure (sym (commits_told built base history legal)) h.reads
