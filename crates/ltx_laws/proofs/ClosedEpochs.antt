-- Closed epochs keep their rows, durable ones are closed, and acknowledged ones are durable.
use Rattle.std.proofs.Common.{◌≡◌, ⊎_elim, ℕ, ◌+◌, ◌<◌, ◌≤◌, Bool, List, [], ◌∷◌, ◌++◌, sym, ap, ◌∙◌, subst, arith, le_refl}
use Rattle.ltx_model.specs.declared.commands.Line.{Line}
use Rattle.ltx_model.specs.declared.replies.Entry.{Entry}
use Rattle.ltx_model.specs.Rows.{run}
use Rattle.ltx_model.specs.States.{Base, IsSound, State, first_state, rows_through}
use Rattle.ltx_model.specs.Histories.{after, state, state_from}
use Rattle.ltx_model.specs.Answers.{IsLegalFrom, IsLegalWith}
use Rattle.ltx_model.proofs.OneMore.{state-append, legal-parts}
use Rattle.ltx_lemmas.proofs.Lists.{contains_cases, contains_none}
use Rattle.ltx_laws.specs.Acknowledged.{AreAcknowledgedUpTo}
use Rattle.ltx_laws.proofs.Transitions.{entry_case}
use Rattle.ltx_laws.proofs.Structures.{structure_of}
use Rattle.ltx_laws.proofs.DropsFrames.{Grows, grows_cases, closed_over, stays_open}
use Rattle.ltx_laws.proofs.DurableReplies.{durable_then, durable_from, durable_closed}

pub rows_over : (built : State → Line → Bool) (base : Base) (history more : List Entry) → IsSound base → IsLegalWith built base (history ++ more)
    → (d : ℕ) → d < (state base history).epoch → rows_through (state base (history ++ more)) d ≡ rows_through (state base history) d
rows_over built base history more sound legal d closed =
    let before = (legal-parts built (first_state base) history more legal).0 in
    λ i. run (((structure_of built base (history ++ more) legal).rows ∙ sym (structure_of built base history before).rows) i) (closed_over built base history more sound legal d closed i)

pub durable_least : (built : State → Line → Bool) (base : Base) (history : List Entry) → IsSound base → IsLegalWith built base history → base.durable ≤ (state base history).durable
durable_least built base history sound legal = (durable_from built (first_state base) history base.durable (let h : base.durable < base.durable + 1 = omega arith in h) (le_refl base.durable) legal).0

pub durable_over : (built : State → Line → Bool) (base : Base) (history more : List Entry) → IsSound base → IsLegalWith built base (history ++ more) → (state base history).durable ≤ (state base (history ++ more)).durable
durable_over built base history more sound legal =
    let s : State = state base history in
    let parts = legal-parts built (first_state base) history more legal in
    subst (λ (x : State). s.durable ≤ x.durable) (sym (state-append (first_state base) history more))
    (durable_from built s more s.durable (durable_closed built base history sound parts.0) (le_refl s.durable) parts.1).0

epoch_from : (built : State → Line → Bool) (s : State) (history : List Entry) → IsLegalFrom built s history → s.epoch ≤ (state_from s history).epoch
unfolding IsLegalFrom state_from
epoch_from built s [] legal = le_refl s.epoch
epoch_from built s (entry ∷ entries) legal =
    let g : Grows s (after s entry) = entry_case s (λ line reply s'. Grows s s') (grows_cases s) built entry legal.0 in
    let rises : s.epoch ≤ (after s entry).epoch = g.epoch in
    let rest : (after s entry).epoch ≤ (state_from (after s entry) entries).epoch = epoch_from built (after s entry) entries legal.1 in
    let h : s.epoch ≤ (state_from (after s entry) entries).epoch = omega arith in h

pub epoch_over : (built : State → Line → Bool) (base : Base) (history more : List Entry) → IsSound base → IsLegalWith built base (history ++ more) → (state base history).epoch ≤ (state base (history ++ more)).epoch
epoch_over built base history more sound legal =
    subst (λ (x : State). (state base history).epoch ≤ x.epoch) (sym (state-append (first_state base) history more))
    (epoch_from built (state base history) more (legal-parts built (first_state base) history more legal).1)

acknowledged_from : (built : State → Line → Bool) (s : State) (history : List Entry) → s.durable < s.epoch → IsLegalFrom built s history → AreAcknowledgedUpTo (state_from s history).durable history
unfolding IsLegalFrom state_from
acknowledged_from built s [] ahead legal = λ entry here. absurd (contains_none entry here)
acknowledged_from built s (first ∷ entries) ahead legal =
    let g : Grows s (after s first) = entry_case s (λ line reply s'. Grows s s') (grows_cases s) built first legal.0 in
    let open_then : (after s first).durable < (after s first).epoch = stays_open s (after s first) g ahead in
    λ entry here d printed. ⊎_elim
    (λ same.
    let now : (after s first).durable ≡ d = durable_then s built first d ahead legal.0 (ap (λ (e : Entry). e.reply) same ∙ printed) in
    (durable_from built (after s first) entries d open_then (subst (λ e. d ≤ e) (sym now) (le_refl d)) legal.1).0)
    (λ later. acknowledged_from built (after s first) entries open_then legal.1 entry later d printed)
    (contains_cases first entries entry here)

pub acknowledged_up_to : (built : State → Line → Bool) (base : Base) (history : List Entry) → IsSound base → IsLegalWith built base history → AreAcknowledgedUpTo (state base history).durable history
acknowledged_up_to built base history sound legal = acknowledged_from built (first_state base) history (let h : base.durable < base.durable + 1 = omega arith in h) legal
