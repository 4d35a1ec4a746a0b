-- The frame of a flush, and what is left after it.
use Rattle.std.proofs.Common.{◌≡◌, ℕ, ◌+◌, ◌-◌, ◌<◌, true, nat_lt, List, [], ◌∷◌, ◌++◌, refl, sym, ap, ◌∙◌, subst, arith}
use Rattle.std.proofs.lemmas.Bool.{lt-ltb}
use Rattle.ltx_model.specs.declared.commands.Command.TheVariants.{Flush}
use Rattle.ltx_model.specs.declared.commands.Line.TheVariants.{Good}
use Rattle.ltx_model.specs.declared.replies.Entry.{Entry}
use Rattle.ltx_model.specs.declared.replies.Reply.TheVariants.{Durable}
use Rattle.ltx_model.specs.Frames.{Frame, sealed}
use Rattle.ltx_model.specs.States.{Base, State}
use Rattle.ltx_model.specs.Histories.{durable_if, state}
use Rattle.ltx_events.specs.Kept.{Unsealed}
use Rattle.ltx_laws.proofs.LawfulFrames.{sealed_epoch}
use Rattle.ltx_core.specs.Views.{Counters, LogView, CoreView}
use Rattle.ltx_core.specs.Stands.{StandsAt, StandsFor}
use Rattle.ltx_core.specs.Steps.{IsCore}
use Rattle.ltx_core.proofs.LogSteps.{logged_after, logged_durable, stands_leads}
use Rattle.ltx_core.proofs.LogWithin.{events_forgotten}
use Rattle.ltx_core.proofs.RecordsKept.{records_still}

-- the frame of the closed epochs
pub sealed_frame : (v w : CoreView) → v ≡ w → (frame : Frame) → frame ≡ record { epoch = v.counters.epoch - 1; events = v.log.events.closed } → (base : Base) (history : List Entry) → StandsFor w base history → frame ≡ sealed (state base history)
sealed_frame v w same frame is base history stands =
    let s : State = state base history in
    let epoch : v.counters.epoch - 1 ≡ (sealed s).epoch = ap (λ (u : CoreView). u.counters.epoch - 1) same ∙ ap (λ (c : Counters). c.epoch - 1) stands.at.counters ∙ sym (sealed_epoch s) in
    let events : v.log.events.closed ≡ (sealed s).events = ap (λ (u : CoreView). u.log.events.closed) same ∙ stands.logged.closed in
    is ∙ (λ i. record { epoch = epoch i; events = events i })

-- a core with this log
abbrev with_log : CoreView → LogView → CoreView
with_log c log = record { counters = c.counters; list = c.list; room = c.room; commits = c.commits; batch = c.batch; store = c.store; preserve = c.preserve; opens = c.opens; records = c.records; areas = c.areas; log = log }

pub flushed_core : (v : CoreView) (durable : ℕ) (events : Unsealed) → IsCore v → events.closed ≡ [] → events.present ≡ v.log.events.present → events.last ≡ v.log.events.last → events.room ≡ v.log.events.room → IsCore (with_log v (record { durable = durable; events = events }))
flushed_core v durable events core closed present last room = record {
  within = record {
    marks = core.within.marks;
    room = core.within.room;
    listed = core.within.listed;
    epoch_bound = core.within.epoch_bound;
    epoch_positive = core.within.epoch_positive;
    last_bound = core.within.last_bound;
    log = events_forgotten v.counters.epoch _ v.log.events events core.within.log closed present last room;
  };
  standing = record {
    base = core.standing.base;
    history = core.standing.history;
    sound = core.standing.sound;
    legal = core.standing.legal;
    stands =
        let at = core.standing.stands in
        record { counters = at.counters; agenda = at.agenda; holders = at.holders; store = at.store; opens = at.opens; records = at.records; areas = at.areas };
  };
}

-- where everything closed is durable, a core stands as before
still_stands : (v : CoreView) (log : LogView) (s : State) (epoch : ℕ) → StandsAt v s → StandsAt (with_log v log) (durable_if true s epoch)
still_stands v log s epoch at = record {
  counters = at.counters;
  agenda = at.agenda;
  holders = at.holders;
  store = at.store;
  opens = at.opens;
  records = records_still s (durable_if true s epoch) v.records refl refl refl at.records;
  areas = at.areas;
}

pub flushed_stands : (v w : CoreView) → v ≡ w → (durable : ℕ) (events : Unsealed) → w.log.durable + 1 < w.counters.epoch → durable ≡ v.counters.epoch - 1 → events.closed ≡ [] → events.present ≡ v.log.events.present
    → (base : Base) (history : List Entry) → StandsFor w base history → StandsFor (with_log v (record { durable = durable; events = events })) base (history ++ record { line = Good Flush; reply = Durable (w.counters.epoch - 1) } ∷ [])
flushed_stands v w same durable events ahead is closed present base history stands =
    let s : State = state base history in
    let log : LogView = record { durable = durable; events = events } in
    let at : StandsFor v base history = subst (λ (u : CoreView). StandsFor u base history) (sym same) stands in
    let epoch : w.counters.epoch ≡ s.epoch = ap (λ (c : Counters). c.epoch) stands.at.counters in
    let here : v.counters.epoch ≡ s.epoch = ap (λ (c : Counters). c.epoch) at.at.counters in
    let was : w.log.durable ≡ s.durable = stands.logged.durable in
    let own : v.log.durable ≡ s.durable = at.logged.durable in
    let less : nat_lt s.durable (s.epoch - 1) ≡ true = lt-ltb s.durable (s.epoch - 1) (let h : s.durable < s.epoch - 1 = omega arith in h) in
    let reply = ap (λ n. Durable (n - 1)) epoch in
    record {
      at = stands_leads (with_log v log) base history (Good Flush) (Durable (s.epoch - 1)) (Durable (w.counters.epoch - 1)) reply
          (subst (λ b. StandsAt (with_log v log) (durable_if b s (s.epoch - 1))) (sym less) (still_stands v log s (s.epoch - 1) at.at));
      logged = logged_after log base history (Good Flush) (Durable (s.epoch - 1)) (Durable (w.counters.epoch - 1)) reply
          (logged_durable v.log log s (let h : v.log.durable + 1 < s.epoch = omega arith in h) (is ∙ ap (λ n. n - 1) here) closed present at.logged);
    }
