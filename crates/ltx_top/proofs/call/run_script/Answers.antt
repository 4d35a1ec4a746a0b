use Rattle.std.proofs.Common.{◌≡◌, [], arith, rules, subst}
use Rattle.std.proofs.lemmas.Result.{err_from_is_err_and}
use Rattle.ltx_model.specs.Recovery.{blank_base}
use Rattle.ltx_model.specs.States.{Base, base_of}
use Rattle.ltx_core.specs.Stands.{StandsFor}
use Rattle.ltx_top.specs.Hands.{hand_of}
use Rattle.ltx_top.specs.Runs.{devices}
use Rattle.ltx_top.proofs.Steps.{blank_sound, nothing_stopped}
use Rattle.ltx_top.proofs.Results.{started_with, took_nothing}
use Rattle.ltx_top.proofs.call.run_script.Goals as goal

pub returns-in_default-clause-stops : goal.returns-in_default-clause-stops
returns-in_default-clause-stops g c =
    (nothing_stopped blank_base (devices (g.S.Source.left c.args.source.now) (g.S.Source.reads c.args.source.now) (g.K.Sink.written c.args.sink.now)) blank_sound, omega (arith, took_nothing (g.S.Source.left c.args.source.now)))

pub work-requires : goal.work-requires
work-requires g c =
    let is : base_of c.blank.result 17 ≡ blank_base = search rules in
    let stands = subst (λ (b : Base). StandsFor c.in-Ok.runner.responder.core b []) is (c.in-Ok.ensures.core 17) in
    record {
      under_way = (
        record { base = blank_base; old = devices (g.S.Source.left c.args.source.now) (g.S.Source.reads c.args.source.now) (g.K.Sink.written c.args.sink.now) },
        started_with blank_base (devices (g.S.Source.left c.args.source.now) (g.S.Source.reads c.args.source.now) (g.K.Sink.written c.args.sink.now)) (hand_of c.in-Ok.runner) blank_sound c.in-Ok.ensures.lines stands c.in-Ok.ensures.text c.in-Ok.ensures.malformed,
      );
    }

pub returns-in_err-work-clause-stops : goal.returns-in_err-work-clause-stops
returns-in_err-work-clause-stops g c =
    let p = err_from_is_err_and c.from_residual.result c.from_residual.ensures.1 in
    let is : base_of c.blank.result 17 ≡ blank_base = search rules in
    let stands = subst (λ (b : Base). StandsFor c.in-Ok.runner.responder.core b []) is (c.in-Ok.ensures.core 17) in
    let now = devices (g.S.Source.left c.args.source.now) (g.S.Source.reads c.args.source.now) (g.K.Sink.written c.args.sink.now) in
    rw (p.1, p.2) (c.in_err-work.ensures.stops (record { base = blank_base; old = now }) (started_with blank_base now (hand_of c.in-Ok.runner) blank_sound c.in-Ok.ensures.lines stands c.in-Ok.ensures.text c.in-Ok.ensures.malformed))

pub returns-clause-ran : goal.returns-clause-ran
returns-clause-ran g c =
    let is : base_of c.blank.result 17 ≡ blank_base = search rules in
    let stands = subst (λ (b : Base). StandsFor c.in-Ok.runner.responder.core b []) is (c.in-Ok.ensures.core 17) in
    let now = devices (g.S.Source.left c.args.source.now) (g.S.Source.reads c.args.source.now) (g.K.Sink.written c.args.sink.now) in
    c.in_ok-work.ensures.ran (record { base = blank_base; old = now }) (started_with blank_base now (hand_of c.in-Ok.runner) blank_sound c.in-Ok.ensures.lines stands c.in-Ok.ensures.text c.in-Ok.ensures.malformed)
