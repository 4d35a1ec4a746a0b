use Rattle.std.proofs.Common.{rules, ◌≡◌, ◌≤◌, ◌<◌, ◌+◌, [], ◌∷◌, ◌++◌, length, inl}
use Rattle.ltx_model.specs.Spellings.{body_bytes}
use Rattle.ltx_model.specs.Contents.{framed}
use Rattle.ltx_log.specs.Running.{MayAddFrame, AddsFrame}
use Rattle.ltx_log.proofs.Exits.{still_since, still_now, kept_now, is_piece, next_place, frame_told, gate_shut, running_on}
use Rattle.ltx_log.proofs.log.Log.append.Goals as goal

pub returns-in-Err-clause-since : goal.returns-in-Err-clause-since
returns-in-Err-clause-since g c = rw (← c.self.view_is)
    (λ runs. still_since (MayAddFrame c.self.inside.gate c.self.inside.last c.args.frame.now) (λ bytes. inl (λ frames log. log)) _ _ (c.self.invariant.0 runs).still)

pub returns-in-Err-clause-left : goal.returns-in-Err-clause-left
returns-in-Err-clause-left g c = rw (← c.self.view_is) (kept_now c.self.inside.gate c.self.inside.last _ _ (c.self.invariant.0 c.if-self.false).still)

pub returns-in_default-clause-since : goal.returns-in_default-clause-since
returns-in_default-clause-since g c = rw (← c.self.view_is)
    (λ runs. still_since (MayAddFrame c.self.inside.gate c.self.inside.last c.args.frame.now) (λ bytes. inl (λ frames log. log)) _ _ (c.self.invariant.0 runs).still)

pub returns-in_default-clause-left : goal.returns-in_default-clause-left
returns-in_default-clause-left g c = rw (← c.self.view_is) (kept_now c.self.inside.gate c.self.inside.last _ _ (c.self.invariant.0 c.if-self.false).still)

pub invariant_of-self : goal.invariant_of-self
invariant_of-self g c =
    let bytes : c.deref.result.now ≡ framed (body_bytes c.args.frame.now) ++ 0 ∷ [] = search rules in
    let above : c.self.inside.last + 1 ≤ c.args.frame.now.epoch = rw (← c.self.view_is) at c.requires.above in
    let to : c.in-Some.next ≡ c.self.inside.gate + length c.deref.result.now = search rules in
    let below : c.in-Some.next < 1099511627776 = search rules in
    let spelled = is_piece c.deref.result.now c.self.inside.gate c.in-Some.next c.self.inside.last c.args.frame.now c.epoch-epoch.ensures.kept bytes above to below in
    let running = c.self.invariant.0 c.if-self.false in
    let shut = gate_shut _ _ c.self.inside.gate c.self.inside.last running in
    let added = frame_told c.self.inside.gate c.self.inside.last c.args.frame.now c.deref.result.now spelled _ _ shut c.in-Ok-write_frame.ensures.content in (
      λ runs. running_on c.self.inside.gate c.self.inside.last c.in-Some.next c.epoch-epoch.result c.args.frame.now _ _ _ _ running added c.write_frame.ensures.untold c.in-Ok-write_frame.ensures.settled
          (next_place c.deref.result.now c.self.inside.gate c.in-Some.next c.args.frame.now bytes to) c.epoch-epoch.ensures.value,
      below,
    )

pub returns-in-Ok-write_frame-clause-frames : goal.returns-in-Ok-write_frame-clause-frames
returns-in-Ok-write_frame-clause-frames g c =
    let bytes : c.deref.result.now ≡ framed (body_bytes c.args.frame.now) ++ 0 ∷ [] = search rules in
    let above : c.self.inside.last + 1 ≤ c.args.frame.now.epoch = rw (← c.self.view_is) at c.requires.above in
    let to : c.in-Some.next ≡ c.self.inside.gate + length c.deref.result.now = search rules in
    let below : c.in-Some.next < 1099511627776 = search rules in
    let spelled = is_piece c.deref.result.now c.self.inside.gate c.in-Some.next c.self.inside.last c.args.frame.now c.epoch-epoch.ensures.kept bytes above to below in
    let running = c.self.invariant.0 c.if-self.false in
    let shut = gate_shut _ _ c.self.inside.gate c.self.inside.last running in
    let added = frame_told c.self.inside.gate c.self.inside.last c.args.frame.now c.deref.result.now spelled _ _ shut c.in-Ok-write_frame.ensures.content in
    rw (← c.self.view_is) added

pub returns-in-Ok-write_frame-clause-added : goal.returns-in-Ok-write_frame-clause-added
returns-in-Ok-write_frame-clause-added g c =
    let bytes : c.deref.result.now ≡ framed (body_bytes c.args.frame.now) ++ 0 ∷ [] = search rules in
    let above : c.self.inside.last + 1 ≤ c.args.frame.now.epoch = rw (← c.self.view_is) at c.requires.above in
    let to : c.in-Some.next ≡ c.self.inside.gate + length c.deref.result.now = search rules in
    let below : c.in-Some.next < 1099511627776 = search rules in
    let spelled = is_piece c.deref.result.now c.self.inside.gate c.in-Some.next c.self.inside.last c.args.frame.now c.epoch-epoch.ensures.kept bytes above to below in
    let running = c.self.invariant.0 c.if-self.false in
    let shut = gate_shut _ _ c.self.inside.gate c.self.inside.last running in
    let added = frame_told c.self.inside.gate c.self.inside.last c.args.frame.now c.deref.result.now spelled _ _ shut c.in-Ok-write_frame.ensures.content in
    rw (← c.self.view_is) (still_now (AddsFrame c.self.inside.gate c.self.inside.last c.args.frame.now) _ _ _ added c.in-Ok-write_frame.ensures.settled)

pub returns-clause-since : goal.returns-clause-since
returns-clause-since g c =
    let bytes : c.deref.result.now ≡ framed (body_bytes c.args.frame.now) ++ 0 ∷ [] = search rules in
    let above : c.self.inside.last + 1 ≤ c.args.frame.now.epoch = rw (← c.self.view_is) at c.requires.above in
    let to : c.in-Some.next ≡ c.self.inside.gate + length c.deref.result.now = search rules in
    let below : c.in-Some.next < 1099511627776 = search rules in
    let spelled = is_piece c.deref.result.now c.self.inside.gate c.in-Some.next c.self.inside.last c.args.frame.now c.epoch-epoch.ensures.kept bytes above to below in
    rw (← c.self.view_is) (λ runs. c.write_frame.ensures.since c.self.inside.last c.args.frame.now spelled)
