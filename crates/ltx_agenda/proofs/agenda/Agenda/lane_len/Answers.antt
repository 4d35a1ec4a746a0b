use Rattle.std.proofs.Common.{◌≡◌, ◌+◌, ◌-◌, ◌<◌, [], length, get_or, ap, ◌∙◌, sym, arith}
use Rattle.std.proofs.lemmas.List.{get_or_read}
use Rattle.ltx_agenda.specs.Runs.{rows_of}
use Rattle.ltx_agenda.specs.Lanes.{lanes_from, cut}
use Rattle.ltx_agenda.specs.Placed.{Listed}
use Rattle.ltx_agenda.proofs.InLanes.{has_lane-from}
use Rattle.ltx_agenda.proofs.Spots.{closed_length, first_length, later_length}
use Rattle.ltx_agenda.proofs.agenda.Agenda.lane_len.Goals as goal

pub returns-then-lane-closed : goal.returns-then-lane-closed
returns-then-lane-closed c =
    let fits = c.self.invariant.fits in
    let len = c.len-closed.ensures ∙ c.self.inside.lens.ok.0 in
    let below = c.if-lane-closed.true in
    get_or_read c.self.inside.lens.items c.args.lane c.index.result.now (omega arith) c.index.ensures 0
    ∙ sym (closed_length c.self.inside.settled.items c.self.inside.lens.items (lanes_from c.self.inside.lanes.ends (rows_of c.self.inside.lanes.runs)) c.args.lane (omega arith) (omega arith))
    ∙ ap (λ (v : Listed). length (get_or v.lanes c.args.lane [])) c.self.view_is

pub overflow_add-result : goal.overflow_add-result
overflow_add-result c =
    let fits = c.self.invariant.fits in
    let room = c.self.invariant.settled_room in
    let most = c.lane_len-members.ensures.most in
    let small = c.self.inside.settled.small in
    omega arith

pub returns-then-lane-closed-2 : goal.returns-then-lane-closed-2
returns-then-lane-closed-2 c =
    let fits = c.self.invariant.fits in
    let len = c.len-closed.ensures ∙ c.self.inside.lens.ok.0 in
    let here = c.if-lane-closed-2.true in
    let members = c.lane_len-members.ensures.value in
    let same = ap (λ k. length (get_or (lanes_from c.self.inside.lanes.ends (rows_of c.self.inside.lanes.runs)) (c.args.lane - k) [])) len in
    let whole = first_length c.self.inside.settled.items c.self.inside.lens.items (lanes_from c.self.inside.lanes.ends (rows_of c.self.inside.lanes.runs)) c.args.lane (omega arith) (has_lane-from c.self.inside.lanes.ends (rows_of c.self.inside.lanes.runs)) (omega arith) in
    let all : c.self.inside.open + c.lane_len-members.result ≡ length (get_or (cut c.self.inside.settled.items c.self.inside.lens.items (lanes_from c.self.inside.lanes.ends (rows_of c.self.inside.lanes.runs))) c.args.lane []) = omega arith in
    all ∙ ap (λ (v : Listed). length (get_or v.lanes c.args.lane [])) c.self.view_is

pub returns : goal.returns
returns c =
    let fits = c.self.invariant.fits in
    let len = c.len-closed.ensures ∙ c.self.inside.lens.ok.0 in
    let from = c.if-lane-closed.false in
    let differ = c.if-lane-closed-2.false in
    let past : length c.self.inside.lens.items < c.args.lane = omega arith in
    c.lane_len-members.ensures.value ∙ ap (λ k. length (get_or (lanes_from c.self.inside.lanes.ends (rows_of c.self.inside.lanes.runs)) (c.args.lane - k) [])) len
    ∙ sym (later_length c.self.inside.settled.items c.self.inside.lens.items (lanes_from c.self.inside.lanes.ends (rows_of c.self.inside.lanes.runs)) c.args.lane (omega arith) (has_lane-from c.self.inside.lanes.ends (rows_of c.self.inside.lanes.runs)) past)
    ∙ ap (λ (v : Listed). length (get_or v.lanes c.args.lane [])) c.self.view_is
