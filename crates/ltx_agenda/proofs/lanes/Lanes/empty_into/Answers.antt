use Rattle.std.proofs.Common.{ℕ, ◌<◌, ◌++◌, length, take, ◌-◌, drop, arith, ap, ◌∙◌, sym, subst}
use Rattle.ltx_agenda.specs.Runs.{rows_of, members_of}
use Rattle.ltx_agenda.specs.Marks.{IsInLane, IsStarted}
use Rattle.ltx_agenda.specs.Seats.{seat_of}
use Rattle.ltx_agenda.specs.Placed.{Standing, IsPlaced}
use Rattle.ltx_agenda.proofs.Listings.{emptied, appended_part, IsUnseated}
use Rattle.ltx_agenda.proofs.lanes.Lanes.empty_into.Goals as goal

pub invariant_of-self : goal.invariant_of-self
invariant_of-self c =
    let inv = c.self.invariant in
    let left : IsUnseated (take (length c.deref.result.now - c.len-before.result) (drop c.len-before.result c.deref.result.now)) (seat_of c.self.inside.seats) (seat_of c.unseat.new.seats) = c.unseat.ensures.left in
    let empty = c.clear.ensures.items in
    let capacity = c.clear.ensures.capacity in
    let no_marks = c.clear-2.ensures.items in
    let marks_capacity = c.clear-2.ensures.capacity in
    let spare = c.unseat.ensures.spare in
    let vec_len = c.args.flat.now.ok.0 in
    let list = ap (λ (v : Standing). v.list) (sym c.self.view_is) in
    let moved = appended_part c.deref.result.now c.args.flat.now.items (members_of (rows_of c.self.inside.runs.items)) c.len-before.result
    (c.deref.ensures.value ∙ c.copy_to.ensures.items ∙ ap (λ xs. c.args.flat.now.items ++ xs) list) (c.len-before.ensures ∙ vec_len) in
    record {
      placed = subst (λ runs. IsPlaced (rows_of runs) (seat_of c.unseat.new.seats)) (sym empty)
          (emptied (rows_of c.self.inside.runs.items) (seat_of c.self.inside.seats) (seat_of c.unseat.new.seats) _ inv.placed moved left);
      runs_room = let before = inv.runs_room in let none = ap (λ runs. length runs) empty in omega arith;
      seats_room = let before = inv.seats_room in omega arith;
      counted = ap (λ runs. length (members_of (rows_of runs))) (sym empty);
      bounded = let before = inv.bounded in omega arith;
      marks_room = let before = inv.marks_room in let none = ap (λ ms. length ms) no_marks in omega arith;
      as_many = let none = ap (λ runs. length runs) empty in let nothing = ap (λ ms. length ms) no_marks in omega arith;
      in_lane = subst (λ ms. (b : ℕ) → b < length ms → IsInLane ms b) (sym no_marks) (λ b within. absurd (omega arith));
      started = subst (λ ms. (b : ℕ) → b < length ms → IsStarted ms (rows_of c.clear.new.self.items) b) (sym no_marks) (λ b within. absurd (omega arith));
    }
