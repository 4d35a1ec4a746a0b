use Rattle.std.proofs.Common.{◌≡◌, [], ◌∷◌, ◌++◌, length-append, ap, ◌∙◌, sym, arith, subst, false, length, ◌<◌, ◌≢◌, Some, ℕ}
use Rattle.ltx_model.specs.Listings.{is_member}
use Rattle.ltx_agenda.specs.Runs.{rows_of, members_of}
use Rattle.ltx_agenda.specs.Seats.{seat_of}
use Rattle.ltx_agenda.specs.Placed.{Standing, IsPlaced, seat_at}
use Rattle.ltx_agenda.specs.Lanes.{lane_no, start_no}
use Rattle.ltx_agenda.specs.Marks.{ends_of, IsInLane, IsStarted}
use Rattle.ltx_agenda.proofs.Listings.{push_placed, push_counted, rows-push, length-rows}
use Rattle.ltx_agenda.proofs.Restarts.{in_lane-push, started-push}
use Rattle.ltx_agenda.proofs.lanes.Lanes.append.Goals as goal

pub invariant_of-self : goal.invariant_of-self
invariant_of-self c =
    let inv = c.self.invariant in
    let number = c.number.ensures.value in
    let range = c.number.ensures.range.0 in
    let some : 0 < c.args.tx = omega arith in
    let vec_len = c.self.inside.runs.ok.0 in
    let len : c.len.result ≡ length c.self.inside.runs.items = c.len.ensures ∙ vec_len in
    let pushed_is = c.push_reserved.ensures.items in
    let capacity = c.push_reserved.ensures.capacity in
    let spare = c.put_new.ensures.spare in
    let room : 0 < c.self.inside.room = subst (λ (v : Standing). 0 < v.room) (sym c.self.view_is) c.requires.room in
    let absent : is_member (members_of (rows_of c.self.inside.runs.items)) c.args.tx ≡ false = subst (λ (v : Standing). is_member v.list c.args.tx ≡ false) (sym c.self.view_is) c.requires.absent in
    let here : seat_of c.put_new.new.self c.args.tx ≡ Some (seat_at (length c.self.inside.runs.items) 0) = ap (seat_of c.put_new.new.self) (sym number) ∙ c.put_new.ensures.here ∙ ap (λ k. Some (seat_at k 0)) len in
    let others : (m : ℕ) → m ≢ c.args.tx → seat_of c.put_new.new.self m ≡ seat_of c.self.inside.seats m = λ m differ. c.put_new.ensures.others m (λ e. differ (e ∙ number)) in
    let more = push_counted c.self.inside.runs.items c.of.result c.args.tx c.of.ensures.items in
    let longer = c.push_reserved.ensures.len in
    let new_len = c.push_reserved.new.self.ok.0 in
    let marks_is = c.push_reserved-2.ensures.items in
    let marks_capacity = c.push_reserved-2.ensures.capacity in
    let marks_longer = c.push_reserved-2.ensures.len in
    let marks_len = c.push_reserved-2.new.self.ok.0 in
    let marks_were = c.self.inside.marks.ok.0 in
    let rows_are : rows_of c.push_reserved.new.self.items ≡ rows_of c.self.inside.runs.items ++ (c.args.tx ∷ []) ∷ [] = ap rows_of pushed_is ∙ rows-push c.self.inside.runs.items c.of.result c.args.tx c.of.ensures.items in
    let mark_lane : c.next_mark-mark.result.lane ≡ lane_no 0 (ends_of c.self.inside.marks.items) (length c.self.inside.marks.items) = c.next_mark-mark.ensures.lane ∙ ap (λ ms. lane_no 0 (ends_of ms) (length ms)) c.deref.ensures.value in
    let mark_start : c.next_mark-mark.result.start ≡ start_no 0 (ends_of c.self.inside.marks.items) (rows_of c.self.inside.runs.items) (length c.self.inside.marks.items) =
    c.next_mark-mark.ensures.start ∙ ap (λ ms. start_no 0 (ends_of ms) (rows_of c.deref-2.result.now) (length ms)) c.deref.ensures.value
    ∙ ap (λ rs. start_no 0 (ends_of c.self.inside.marks.items) (rows_of rs) (length c.self.inside.marks.items)) c.deref-2.ensures.value in
    record {
      placed = subst (λ runs. IsPlaced (rows_of runs) (seat_of c.put_new.new.self)) (sym pushed_is)
          (push_placed c.self.inside.runs.items c.of.result (seat_of c.self.inside.seats) (seat_of c.put_new.new.self) c.args.tx some inv.placed absent c.of.ensures.items here others);
      runs_room = let before = inv.runs_room in omega arith;
      seats_room = let before = inv.seats_room in omega arith;
      counted = let before = inv.counted in let same = ap (λ runs. length (members_of (rows_of runs))) pushed_is in omega arith;
      bounded = let before = inv.bounded in omega arith;
      marks_room = let before = inv.marks_room in let many = ap (λ ms. length ms) marks_is in omega arith;
      as_many = let many = ap (λ ms. length ms) marks_is in let one = length-append c.self.inside.marks.items (c.next_mark-mark.result ∷ []) in let runs = ap (λ rs. length rs) pushed_is in let another = length-append c.self.inside.runs.items (c.of.result ∷ []) in omega arith;
      in_lane = subst (λ ms. (b : ℕ) → b < length ms → IsInLane ms b) (sym marks_is)
          (λ b within. in_lane-push c.self.inside.marks.items c.next_mark-mark.result mark_lane inv.in_lane b (let one = length-append c.self.inside.marks.items (c.next_mark-mark.result ∷ []) in omega arith));
      started = subst (λ ms. (b : ℕ) → b < length ms → IsStarted ms (rows_of c.push_reserved.new.self.items) b) (sym marks_is)
          (λ b within. subst (λ rows. IsStarted (c.self.inside.marks.items ++ c.next_mark-mark.result ∷ []) rows b) (sym rows_are)
          (started-push c.self.inside.marks.items c.next_mark-mark.result (rows_of c.self.inside.runs.items) (c.args.tx ∷ []) (inv.as_many ∙ sym (length-rows c.self.inside.runs.items)) mark_start inv.started b
          (let one = length-append c.self.inside.marks.items (c.next_mark-mark.result ∷ []) in omega arith)));
    }
