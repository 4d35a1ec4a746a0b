-- A commit is in the order through its epoch and each later one, and in none before.
use Rattle.std.proofs.Common.{◌≡◌, ◌≢◌, inl, inr, ℕ, ◌<◌, ◌≤◌, Bool, nat_le, List, [], ◌∷◌, ◌++◌, Some, None, refl, sym, ap, ◌∙◌, subst, subst₂, append_assoc, append-nil, Contains, IsPermutation}
use Rattle.std.proofs.lemmas.Bool.{le-leb}
use Rattle.std.proofs.lemmas.List.Sorted.{Contains-permutation, IsPermutation-refl, IsPermutation-sym}
use Rattle.ltx_model.specs.declared.commands.Line.{Line}
use Rattle.ltx_model.specs.declared.replies.Entry.{Entry}
use Rattle.ltx_model.specs.Operations.{Transaction}
use Rattle.ltx_model.specs.Agenda.{Member, has_number, part_before, part_from, agenda_after, agenda_from, serial, Move, Slot, CommitShort, CommitHome, CommitBefore, Leave, Timed, commit_of, commits_of}
use Rattle.ltx_model.specs.States.{Active, transaction_of, Base, IsSound, State, first_state, is_of, serial_through}
use Rattle.ltx_model.specs.Histories.{closed, moved, after, state, state_from}
use Rattle.ltx_model.specs.Answers.{IsLegalFrom, IsLegalWith}
use Rattle.ltx_model.specs.Logs.{moves_through}
use Rattle.ltx_model.proofs.OneMore.{legal-parts, legal-first}
use Rattle.ltx_lemmas.proofs.Lists.{all_contains, contains_front, contains_back, contains_here, filter_here, filter_item, find_contains, given_item, given_here}
use Rattle.ltx_lemmas.proofs.Serials.{serial_slot, serial_push, serial_parts, serial_home, serial_before, serial_without}
use Rattle.ltx_laws.specs.Commits.{IsCommitOf, IsCommitReply}
use Rattle.ltx_laws.specs.Drops.{IsLawful, AreLawful}
use Rattle.ltx_laws.proofs.Standing.{commits_push, commits_none}
use Rattle.ltx_laws.proofs.Places.{any_before, before_apart}
use Rattle.ltx_laws.proofs.Agendas.{agenda_more, IsInserted, inserted_at_end, inserted_permutes}
use Rattle.ltx_laws.proofs.Transitions.{entry_case}
use Rattle.ltx_laws.proofs.Structures.{structure_of}
use Rattle.ltx_laws.proofs.DropsLists.{IsLoggedAfter, logged_step, logged_all, lawful_front}
use Rattle.ltx_laws.proofs.DropsHistories.{timely_of, through_first}
use Rattle.ltx_laws.proofs.DropsFrames.{Grows, grows_cases, closed_over}
use Rattle.ltx_laws.proofs.CommitCases.{IsOneCommit, commit_of_entry}
use Rattle.ltx_laws.proofs.PlacesByCommit.{entry_is}
use Rattle.ltx_laws.proofs.SlotsKept.{none_open, state_more}

-- the committed members of the agenda are what the moves commit
abbrev pub AreTheirs : List Timed → Type 0
AreTheirs moves = IsPermutation (commits_of moves) (serial (agenda_from [] moves))

-- one lawful move more
module _ (past : List Timed) (epoch : ℕ) (h : IsLoggedAfter past) (p : AreTheirs past) where
  abbrev agenda : List Member
  agenda = agenda_from [] past

  abbrev new : Move → Timed
  new m = record { epoch = epoch; move = m }

  -- a move that commits nothing, and one that commits t somewhere in the order
  plain : (m : Move) → commit_of m ≡ None → serial (agenda_after agenda m) ≡ serial agenda → AreTheirs (past ++ new m ∷ [])
  plain m none same = subst₂ IsPermutation (sym (commits_none past (new m) none)) (sym (ap serial (agenda_more [] past (new m)) ∙ same)) p

  commits : (m : Move) (t : Transaction) → commit_of m ≡ Some t → IsInserted t (serial agenda) (serial (agenda_after agenda m)) → AreTheirs (past ++ new m ∷ [])
  commits m t is i =
      subst₂ IsPermutation (sym (commits_push past (new m) t is)) (sym (ap serial (agenda_more [] past (new m)))) (inserted_permutes t (commits_of past) (serial agenda) (serial (agenda_after agenda m)) i p)

  theirs_step : (m : Move) → IsLawful past agenda m → AreTheirs (past ++ new m ∷ [])
  theirs_step (Slot n) lawful = plain (Slot n) refl (serial_slot agenda n)
  theirs_step (CommitShort t) lawful = commits (CommitShort t) t refl (subst (IsInserted t (serial agenda)) (sym (serial_push agenda t)) (inserted_at_end t (serial agenda)))
  theirs_step (CommitHome t) lawful = commits (CommitHome t) t refl (record {
    front = serial (part_before t.number agenda);
    back = serial (part_from t.number agenda);
    before = sym (serial_parts t.number agenda);
    after = serial_home t agenda h.apart lawful;
  })
  theirs_step (CommitBefore t target) lawful = commits (CommitBefore t target) t refl (record {
    front = serial (part_before target agenda);
    back = serial (part_from target agenda);
    before = sym (serial_parts target agenda);
    after = serial_before t target agenda h.apart lawful.0 (before_apart t.number target agenda lawful.1) (any_before (has_number target) (has_number t.number) agenda lawful.1);
  })
  theirs_step (Leave n) lawful = plain (Leave n) refl (serial_without n agenda h.apart lawful.0)

theirs_from : (past moves : List Timed) → IsLoggedAfter past → AreTheirs past → AreLawful past moves → AreTheirs (past ++ moves)
theirs_from past [] h p lawful = subst AreTheirs (sym (append-nil past)) p
theirs_from past (m ∷ ms) h p lawful =
    subst AreTheirs (append_assoc past (m ∷ []) ms) (theirs_from (past ++ m ∷ []) ms (logged_step past m.epoch h m.move lawful.0) (theirs_step past m.epoch h p m.move lawful.0) lawful.1)

-- the order that lawful moves give has what they commit
pub theirs_all : (moves : List Timed) → AreLawful [] moves → AreTheirs moves
theirs_all moves lawful = theirs_from [] moves (logged_all [] tt) (IsPermutation-refl []) lawful

-- moves stay
moves_stay : (built : State → Line → Bool) (s : State) (history : List Entry) (m : Timed) → IsLegalFrom built s history → Contains s.moves m → Contains (state_from s history).moves m
unfolding IsLegalFrom state_from
moves_stay built s [] m legal here = here
moves_stay built s (entry ∷ entries) m legal here =
    let g : Grows s (after s entry) = entry_case s (λ line reply s'. Grows s s') (grows_cases s) built entry legal.0 in
    moves_stay built (after s entry) entries m legal.1 (subst (λ l. Contains l m) (sym g.moves) (contains_front s.moves g.rest m here))

module _ (built : State → Line → Bool) (base : Base) (history : List Entry) (legal : IsLegalWith built base history) (d : ℕ) where
  abbrev there : State
  there = state base history

  pub theirs_through : AreTheirs (moves_through d there.moves)
  theirs_through =
      let t = timely_of built base history legal in
      let first = through_first d there.moves t.rising in
      theirs_all (moves_through d there.moves) (lawful_front [] (moves_through d there.moves) first.rest (subst (AreLawful []) first.parts t.lawful))

-- a commit of a legal history
module _ (built : State → Line → Bool) (base : Base) (history more : List Entry) (entry : Entry) (sound : IsSound base) (legal : IsLegalWith built base (history ++ entry ∷ more)) (o : Active) (epoch d : ℕ) (c : IsCommitOf (state base history) entry o) (printed : IsCommitReply entry.reply epoch) where
  abbrev s : State
  s = state base history

  abbrev later : State
  later = state base (history ++ entry ∷ more)

  parts : IsLegalFrom built (first_state base) history × IsLegalFrom built (state_from (first_state base) history) (entry ∷ more)
  parts = legal-parts built (first_state base) history (entry ∷ more) legal

  one : IsOneCommit s c.session o entry.reply (after s entry)
  one = commit_of_entry built s entry o (entry_is built base history more entry sound legal) c

  -- the printed epoch is that of the state
  of_state : epoch ≡ s.epoch
  of_state = by_case one printed where
    by_case : IsOneCommit s c.session o entry.reply (after s entry) → IsCommitReply entry.reply epoch → epoch ≡ s.epoch
    by_case (inl h) (inl e) = cc (sym e ∙ h.reply_is)
    by_case (inl h) (inr e) = absurd (let none : ⊥ = cc (sym e.1 ∙ h.reply_is) in none)
    by_case (inr (inl h)) (inl e) = cc (sym e ∙ h.reply_is)
    by_case (inr (inl h)) (inr e) = absurd (let none : ⊥ = cc (sym e.1 ∙ h.reply_is) in none)
    by_case (inr (inr h)) (inl e) = absurd (let none : ⊥ = cc (sym e ∙ h.reply_is) in none)
    by_case (inr (inr h)) (inr e) = cc (sym e.1 ∙ h.reply_is)

  by_move : (move : Move) → commit_of move ≡ Some (transaction_of o) → after s entry ≡ moved (closed s c.session) s.epoch move → s.epoch ≤ d → Contains (serial_through later d) (transaction_of o)
  by_move move is e less =
      let m : Timed = record { epoch = s.epoch; move = move } in
      let first = legal-first built s entry more parts.1 in
      let now : Contains (after s entry).moves m = subst (λ (x : State). Contains x.moves m) (sym e) (contains_back s.moves (m ∷ []) m (contains_here m [])) in
      let kept : Contains later.moves m = subst (λ (x : State). Contains x.moves m) (sym (state_more base history more entry)) (moves_stay built (after s entry) more m first.1 now) in
      let within : Contains (moves_through d later.moves) m = filter_here (λ (x : Timed). nat_le x.epoch d) later.moves m kept (le-leb s.epoch d less) in
      Contains-permutation (commits_of (moves_through d later.moves)) (serial_through later d) (transaction_of o) (theirs_through built base (history ++ entry ∷ more) legal d)
      (given_here (λ (x : Timed). commit_of x.move) (moves_through d later.moves) m (transaction_of o) within is)

  pub commit_through : epoch ≤ d → Contains (serial_through later d) (transaction_of o)
  commit_through from = by_case one (subst (λ e. e ≤ d) of_state from) where
    by_case : IsOneCommit s c.session o entry.reply (after s entry) → s.epoch ≤ d → Contains (serial_through later d) (transaction_of o)
    by_case (inl h) less = by_move (CommitShort (transaction_of o)) refl h.after_is less
    by_case (inr (inl h)) less = by_move (CommitHome (transaction_of o)) refl h.after_is less
    by_case (inr (inr h)) less = by_move (CommitBefore (transaction_of o) h.place) refl h.after_is less

  pub commit_not_before : d < epoch → (t : Transaction) → Contains (serial_through later d) t → t.number ≢ o.number
  commit_not_before under t here same =
      let ahead : d < s.epoch = subst (λ e. d < e) of_state under in
      let before : Contains (serial_through s d) t = subst (λ l. Contains l t) (closed_over built base history (entry ∷ more) sound legal d ahead) here in
      let theirs : AreTheirs (moves_through d s.moves) = theirs_through built base history parts.0 d in
      let commit : Contains (commits_of (moves_through d s.moves)) t = Contains-permutation (serial_through s d) (commits_of (moves_through d s.moves)) t (IsPermutation-sym (commits_of (moves_through d s.moves)) (serial_through s d) theirs) before in
      let found = given_item (λ (x : Timed). commit_of x.move) (moves_through d s.moves) t commit in
      let kept = filter_item (λ (x : Timed). nat_le x.epoch d) s.moves found.0 found.1 in
      let apart = none_open base s (structure_of built base history parts.0) t found.0 found.2 kept.0 in
      all_contains (λ (u : Active). u.number ≢ t.number) s.active o apart (find_contains (is_of c.session) s.active o c.opened) (sym same)
