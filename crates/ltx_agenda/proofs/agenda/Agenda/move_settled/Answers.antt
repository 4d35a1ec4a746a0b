use Rattle.std.proofs.Common.{◌≡◌, ◌<◌, ◌≤◌, ◌++◌, true, nat_lt, length, length-append, take, drop, vec_capacity, List, ℕ, ap, ◌∙◌, sym, refl, arith}
use Rattle.std.proofs.lemmas.Bool.Decides.{nat_tests}
use Rattle.ltx_model.specs.Listings.{is_member, without, place_of}
use Rattle.ltx_agenda.specs.Runs.{rows_of}
use Rattle.ltx_agenda.specs.Lanes.{cut, total, kept, longer, lanes_from, lanes_without, lanes_insert}
use Rattle.ltx_agenda.specs.Placed.{Listed, IsAgenda}
use Rattle.ltx_agenda.proofs.Joined.{length-without_member}
use Rattle.ltx_agenda.proofs.InLanes.{take_exact, length-kept, length-longer, longer_past, total-longer_in, flat_left, flat_came}
use Rattle.ltx_agenda.proofs.Listings.{member_without}
use Rattle.ltx_agenda.proofs.Settling.{all_settled, settled_left, moved_in, no_longer_behind, lanes_settled}
use Rattle.ltx_agenda.proofs.agenda.Agenda.move_settled.Goals.{then-lengthen, else-lengthen}
use Rattle.ltx_agenda.proofs.agenda.Agenda.move_settled.Goals as goal

pub recount-open-requires : goal.recount-open-requires
recount-open-requires c =
    let whole = c.empty_into.ensures.items ∙ ap (λ (v : Listed). v.list) c.self.view_is in
    let ok_settled = all_settled _ _ _ _ _ _ _ c.self.invariant c.empty_into.new.self c.empty_into.new.flat.items (vec_capacity c.empty_into.new.flat) c.close_lanes.new.lens.items (vec_capacity c.close_lanes.new.lens) c.close_lanes.result
    c.close_lanes.ensures.as_many c.close_lanes.ensures.listed c.empty_into.ensures.items c.empty_into.ensures.capacity c.close_lanes.ensures.lens c.close_lanes.ensures.capacity c.close_lanes.ensures.open
    c.empty_into.ensures.list c.empty_into.ensures.ends c.empty_into.ensures.room in
    let fits = ok_settled.fits in
    let lens = ap total c.deref_mut.ensures.value in
    let flat = ap (λ (xs : List ℕ). length xs) c.deref.ensures.value in
    record { fits = omega arith }

pub lengthen-requires : goal.lengthen-requires
lengthen-requires c =
    let whole = c.empty_into.ensures.items ∙ ap (λ (v : Listed). v.list) c.self.view_is in
    let ok_settled = all_settled _ _ _ _ _ _ _ c.self.invariant c.empty_into.new.self c.empty_into.new.flat.items (vec_capacity c.empty_into.new.flat) c.close_lanes.new.lens.items (vec_capacity c.close_lanes.new.lens) c.close_lanes.result
    c.close_lanes.ensures.as_many c.close_lanes.ensures.listed c.empty_into.ensures.items c.empty_into.ensures.capacity c.close_lanes.ensures.lens c.close_lanes.ensures.capacity c.close_lanes.ensures.open
    c.empty_into.ensures.list c.empty_into.ensures.ends c.empty_into.ensures.room in
    let lens_after : c.recount-open.new.lens ≡ kept c.empty_into.new.flat.items c.close_lanes.new.lens.items c.args.tx =
    c.recount-open.ensures.lens ∙ ap (λ ks. kept c.deref.result.now ks c.args.tx) c.deref_mut.ensures.value ∙ ap (λ xs. kept xs c.close_lanes.new.lens.items c.args.tx) c.deref.ensures.value in
    let open_after : c.recount-open.result ≡ length (without (drop (total c.close_lanes.new.lens.items) c.empty_into.new.flat.items) c.args.tx) =
    c.recount-open.ensures.open ∙ ap (λ ks. length (without (drop (total ks) c.deref.result.now) c.args.tx)) c.deref_mut.ensures.value ∙ ap (λ xs. length (without (drop (total c.close_lanes.new.lens.items) xs) c.args.tx)) c.deref.ensures.value in
    let ok_left : IsAgenda c.take_out.new.flat.items (vec_capacity c.take_out.new.flat) c.recount-open.new.lens (vec_capacity c.close_lanes.new.lens) c.recount-open.result c.empty_into.new.self c.self.inside.room =
    settled_left _ _ _ _ _ _ _ ok_settled c.args.tx c.take_out.new.flat.items (vec_capacity c.take_out.new.flat) c.recount-open.new.lens (vec_capacity c.close_lanes.new.lens) c.recount-open.result c.take_out.ensures.items c.take_out.ensures.capacity lens_after refl open_after in
    let lens_len = c.close_lanes.new.lens.ok.0 in
    let many = ap (λ (xs : List ℕ). length xs) lens_after in
    let alike = length-kept c.empty_into.new.flat.items c.close_lanes.new.lens.items c.args.tx in
    let written = take_exact c.recount-open.new.lens (drop (length c.recount-open.new.lens) c.close_lanes.new.lens.items) c.close_lanes.new.lens.len (omega arith) in
    let fits = ok_left.fits in
    let lens = ap total (c.deref_mut-2.ensures.value ∙ written) in
    let small = c.take_out.new.flat.small in
    let len = c.take_out.new.flat.ok in
    record { bounded = omega arith }

pub overflow_add-self : goal.overflow_add-self
overflow_add-self c =
    let whole = c.empty_into.ensures.items ∙ ap (λ (v : Listed). v.list) c.self.view_is in
    let ok_settled = all_settled _ _ _ _ _ _ _ c.self.invariant c.empty_into.new.self c.empty_into.new.flat.items (vec_capacity c.empty_into.new.flat) c.close_lanes.new.lens.items (vec_capacity c.close_lanes.new.lens) c.close_lanes.result
    c.close_lanes.ensures.as_many c.close_lanes.ensures.listed c.empty_into.ensures.items c.empty_into.ensures.capacity c.close_lanes.ensures.lens c.close_lanes.ensures.capacity c.close_lanes.ensures.open
    c.empty_into.ensures.list c.empty_into.ensures.ends c.empty_into.ensures.room in
    let lens_after : c.recount-open.new.lens ≡ kept c.empty_into.new.flat.items c.close_lanes.new.lens.items c.args.tx =
    c.recount-open.ensures.lens ∙ ap (λ ks. kept c.deref.result.now ks c.args.tx) c.deref_mut.ensures.value ∙ ap (λ xs. kept xs c.close_lanes.new.lens.items c.args.tx) c.deref.ensures.value in
    let open_after : c.recount-open.result ≡ length (without (drop (total c.close_lanes.new.lens.items) c.empty_into.new.flat.items) c.args.tx) =
    c.recount-open.ensures.open ∙ ap (λ ks. length (without (drop (total ks) c.deref.result.now) c.args.tx)) c.deref_mut.ensures.value ∙ ap (λ xs. length (without (drop (total c.close_lanes.new.lens.items) xs) c.args.tx)) c.deref.ensures.value in
    let ok_left : IsAgenda c.take_out.new.flat.items (vec_capacity c.take_out.new.flat) c.recount-open.new.lens (vec_capacity c.close_lanes.new.lens) c.recount-open.result c.empty_into.new.self c.self.inside.room =
    settled_left _ _ _ _ _ _ _ ok_settled c.args.tx c.take_out.new.flat.items (vec_capacity c.take_out.new.flat) c.recount-open.new.lens (vec_capacity c.close_lanes.new.lens) c.recount-open.result c.take_out.ensures.items c.take_out.ensures.capacity lens_after refl open_after in
    let lens_len = c.close_lanes.new.lens.ok.0 in
    let many = ap (λ (xs : List ℕ). length xs) lens_after in
    let alike = length-kept c.empty_into.new.flat.items c.close_lanes.new.lens.items c.args.tx in
    let written = take_exact c.recount-open.new.lens (drop (length c.recount-open.new.lens) c.close_lanes.new.lens.items) c.close_lanes.new.lens.len (omega arith) in
    let fits = ok_left.fits in
    let small = c.take_out.new.flat.small in
    let len = c.take_out.new.flat.ok in
    omega arith

pub put_before-requires-clause-target : goal.put_before-requires-clause-target
put_before-requires-clause-target c =
    let whole = c.empty_into.ensures.items ∙ ap (λ (v : Listed). v.list) c.self.view_is in
    ap (λ xs. is_member xs c.args.target) (c.take_out.ensures.items ∙ ap (λ xs. without xs c.args.tx) whole)
    ∙ member_without c.args.self.now.list c.args.tx c.args.target (λ e. c.requires.differ (sym e)) ∙ c.requires.target

pub put_before-requires-clause-room : goal.put_before-requires-clause-room
put_before-requires-clause-room c =
    let whole = c.empty_into.ensures.items ∙ ap (λ (v : Listed). v.list) c.self.view_is in
    let len = ap (λ (xs : List ℕ). length xs) (c.take_out.ensures.items ∙ ap (λ xs. without xs c.args.tx) whole) in
    let list = ap (λ (v : Listed). length v.list) c.self.view_is in
    let parts = length-append c.self.inside.settled.items c.self.inside.lanes.list in
    let less = length-without_member c.args.self.now.list c.args.tx c.requires.member in
    let room = c.self.invariant.settled_room in
    let first = c.empty_into.ensures.capacity in
    let second = c.take_out.ensures.capacity in
    omega arith

pub invariant_of-self : goal.invariant_of-self
invariant_of-self c =
    let whole = c.empty_into.ensures.items ∙ ap (λ (v : Listed). v.list) c.self.view_is in
    let ok_settled = all_settled _ _ _ _ _ _ _ c.self.invariant c.empty_into.new.self c.empty_into.new.flat.items (vec_capacity c.empty_into.new.flat) c.close_lanes.new.lens.items (vec_capacity c.close_lanes.new.lens) c.close_lanes.result
    c.close_lanes.ensures.as_many c.close_lanes.ensures.listed c.empty_into.ensures.items c.empty_into.ensures.capacity c.close_lanes.ensures.lens c.close_lanes.ensures.capacity c.close_lanes.ensures.open
    c.empty_into.ensures.list c.empty_into.ensures.ends c.empty_into.ensures.room in
    let lens_after : c.recount-open.new.lens ≡ kept c.empty_into.new.flat.items c.close_lanes.new.lens.items c.args.tx =
    c.recount-open.ensures.lens ∙ ap (λ ks. kept c.deref.result.now ks c.args.tx) c.deref_mut.ensures.value ∙ ap (λ xs. kept xs c.close_lanes.new.lens.items c.args.tx) c.deref.ensures.value in
    let open_after : c.recount-open.result ≡ length (without (drop (total c.close_lanes.new.lens.items) c.empty_into.new.flat.items) c.args.tx) =
    c.recount-open.ensures.open ∙ ap (λ ks. length (without (drop (total ks) c.deref.result.now) c.args.tx)) c.deref_mut.ensures.value ∙ ap (λ xs. length (without (drop (total c.close_lanes.new.lens.items) xs) c.args.tx)) c.deref.ensures.value in
    let ok_left : IsAgenda c.take_out.new.flat.items (vec_capacity c.take_out.new.flat) c.recount-open.new.lens (vec_capacity c.close_lanes.new.lens) c.recount-open.result c.empty_into.new.self c.self.inside.room =
    settled_left _ _ _ _ _ _ _ ok_settled c.args.tx c.take_out.new.flat.items (vec_capacity c.take_out.new.flat) c.recount-open.new.lens (vec_capacity c.close_lanes.new.lens) c.recount-open.result c.take_out.ensures.items c.take_out.ensures.capacity lens_after refl open_after in
    let lens_len = c.close_lanes.new.lens.ok.0 in
    let many = ap (λ (xs : List ℕ). length xs) lens_after in
    let alike = length-kept c.empty_into.new.flat.items c.close_lanes.new.lens.items c.args.tx in
    let written = take_exact c.recount-open.new.lens (drop (length c.recount-open.new.lens) c.close_lanes.new.lens.items) c.close_lanes.new.lens.len (omega arith) in
    let place : c.place-place.result ≡ place_of c.take_out.new.flat.items c.args.target = c.place-place.ensures ∙ ap (λ xs. place_of xs c.args.target) c.deref-2.ensures.value in
    let now = c.deref_mut-2.ensures.value ∙ written in
    let longer_lens : c.lengthen.new.lens ≡ longer c.recount-open.new.lens (place_of c.take_out.new.flat.items c.args.target) =
    c.lengthen.ensures.lens ∙ ap (λ ks. longer ks c.place-place.result) now ∙ ap (longer c.recount-open.new.lens) place in
    let more = ap (λ (xs : List ℕ). length xs) longer_lens in
    let as_many = length-longer c.recount-open.new.lens (place_of c.take_out.new.flat.items c.args.target) in
    let again = take_exact c.lengthen.new.lens (drop (length c.lengthen.new.lens) (take c.close_lanes.new.lens.len (c.recount-open.new.lens ++ drop (length c.recount-open.new.lens) c.close_lanes.new.lens.items))) c.close_lanes.new.lens.len (omega arith) in
    let target : is_member c.take_out.new.flat.items c.args.target ≡ true = ap (λ xs. is_member xs c.args.target) (c.take_out.ensures.items ∙ ap (λ xs. without xs c.args.tx) whole)
    ∙ member_without c.args.self.now.list c.args.tx c.args.target (λ e. c.requires.differ (sym e)) ∙ c.requires.target in
    let len = ap (λ (xs : List ℕ). length xs) (c.take_out.ensures.items ∙ ap (λ xs. without xs c.args.tx) whole) in
    let list = ap (λ (v : Listed). length v.list) c.self.view_is in
    let parts = length-append c.self.inside.settled.items c.self.inside.lanes.list in
    let less = length-without_member c.args.self.now.list c.args.tx c.requires.member in
    let room = c.self.invariant.settled_room in
    let first = c.empty_into.ensures.capacity in
    let second = c.take_out.ensures.capacity in
    let third = c.put_before.ensures.capacity in
    let fits = ok_left.fits in
    let total_now = ap total (again ∙ longer_lens) in
    let inside = c.lengthen.ensures.closed ∙ ap (nat_lt c.place-place.result) (ap total now) in
    moved_in _ _ _ _ _ _ _ ok_left c.args.tx c.args.target target c.empty_into.ensures.list c.put_before.new.flat.items _ _ c.if-lengthen.self c.put_before.ensures.items (omega arith) (again ∙ longer_lens)
    (elim c.if-lengthen.branch [
      | then-lengthen w ↦
          let below : c.place-place.result < total c.recount-open.new.lens = let yes = w.if-lengthen.true in grind (arith, nat_tests) in
          let one = total-longer_in c.recount-open.new.lens (place_of c.take_out.new.flat.items c.args.target) (omega arith) in
          let open_is = w.self-is in
          omega arith
      | else-lengthen w ↦
          let past : total c.recount-open.new.lens ≤ c.place-place.result = let no = w.if-lengthen.false in grind (arith, nat_tests) in
          let same = ap total (longer_past c.recount-open.new.lens (place_of c.take_out.new.flat.items c.args.target) (omega arith)) in
          let open_is = w.self-is in
          omega arith
    ])

pub returns-clause-lanes : goal.returns-clause-lanes
returns-clause-lanes c =
    let whole = c.empty_into.ensures.items ∙ ap (λ (v : Listed). v.list) c.self.view_is in
    let ok_settled = all_settled _ _ _ _ _ _ _ c.self.invariant c.empty_into.new.self c.empty_into.new.flat.items (vec_capacity c.empty_into.new.flat) c.close_lanes.new.lens.items (vec_capacity c.close_lanes.new.lens) c.close_lanes.result
    c.close_lanes.ensures.as_many c.close_lanes.ensures.listed c.empty_into.ensures.items c.empty_into.ensures.capacity c.close_lanes.ensures.lens c.close_lanes.ensures.capacity c.close_lanes.ensures.open
    c.empty_into.ensures.list c.empty_into.ensures.ends c.empty_into.ensures.room in
    let lens_after : c.recount-open.new.lens ≡ kept c.empty_into.new.flat.items c.close_lanes.new.lens.items c.args.tx =
    c.recount-open.ensures.lens ∙ ap (λ ks. kept c.deref.result.now ks c.args.tx) c.deref_mut.ensures.value ∙ ap (λ xs. kept xs c.close_lanes.new.lens.items c.args.tx) c.deref.ensures.value in
    let open_after : c.recount-open.result ≡ length (without (drop (total c.close_lanes.new.lens.items) c.empty_into.new.flat.items) c.args.tx) =
    c.recount-open.ensures.open ∙ ap (λ ks. length (without (drop (total ks) c.deref.result.now) c.args.tx)) c.deref_mut.ensures.value ∙ ap (λ xs. length (without (drop (total c.close_lanes.new.lens.items) xs) c.args.tx)) c.deref.ensures.value in
    let ok_left : IsAgenda c.take_out.new.flat.items (vec_capacity c.take_out.new.flat) c.recount-open.new.lens (vec_capacity c.close_lanes.new.lens) c.recount-open.result c.empty_into.new.self c.self.inside.room =
    settled_left _ _ _ _ _ _ _ ok_settled c.args.tx c.take_out.new.flat.items (vec_capacity c.take_out.new.flat) c.recount-open.new.lens (vec_capacity c.close_lanes.new.lens) c.recount-open.result c.take_out.ensures.items c.take_out.ensures.capacity lens_after refl open_after in
    let lens_len = c.close_lanes.new.lens.ok.0 in
    let many = ap (λ (xs : List ℕ). length xs) lens_after in
    let alike = length-kept c.empty_into.new.flat.items c.close_lanes.new.lens.items c.args.tx in
    let written = take_exact c.recount-open.new.lens (drop (length c.recount-open.new.lens) c.close_lanes.new.lens.items) c.close_lanes.new.lens.len (omega arith) in
    let place : c.place-place.result ≡ place_of c.take_out.new.flat.items c.args.target = c.place-place.ensures ∙ ap (λ xs. place_of xs c.args.target) c.deref-2.ensures.value in
    let now = c.deref_mut-2.ensures.value ∙ written in
    let longer_lens : c.lengthen.new.lens ≡ longer c.recount-open.new.lens (place_of c.take_out.new.flat.items c.args.target) =
    c.lengthen.ensures.lens ∙ ap (λ ks. longer ks c.place-place.result) now ∙ ap (longer c.recount-open.new.lens) place in
    let more = ap (λ (xs : List ℕ). length xs) longer_lens in
    let as_many = length-longer c.recount-open.new.lens (place_of c.take_out.new.flat.items c.args.target) in
    let again = take_exact c.lengthen.new.lens (drop (length c.lengthen.new.lens) (take c.close_lanes.new.lens.len (c.recount-open.new.lens ++ drop (length c.recount-open.new.lens) c.close_lanes.new.lens.items))) c.close_lanes.new.lens.len (omega arith) in
    let target : is_member c.take_out.new.flat.items c.args.target ≡ true = ap (λ xs. is_member xs c.args.target) (c.take_out.ensures.items ∙ ap (λ xs. without xs c.args.tx) whole)
    ∙ member_without c.args.self.now.list c.args.tx c.args.target (λ e. c.requires.differ (sym e)) ∙ c.requires.target in
    let fits = ok_left.fits in
    let behind = lanes_from c.empty_into.new.self.ends (rows_of c.empty_into.new.self.runs) in
    ap (λ ks. cut c.put_before.new.flat.items ks behind) (again ∙ longer_lens)
    ∙ ap (λ xs. cut xs (longer c.recount-open.new.lens (place_of c.take_out.new.flat.items c.args.target)) behind) c.put_before.ensures.items
    ∙ flat_came c.take_out.new.flat.items c.recount-open.new.lens behind c.args.tx c.args.target target (omega arith)
    ∙ ap (λ ks. lanes_insert c.args.tx c.args.target (cut c.take_out.new.flat.items ks behind)) lens_after
    ∙ ap (λ xs. lanes_insert c.args.tx c.args.target (cut xs (kept c.empty_into.new.flat.items c.close_lanes.new.lens.items c.args.tx) behind)) c.take_out.ensures.items
    ∙ ap (lanes_insert c.args.tx c.args.target) (flat_left c.empty_into.new.flat.items c.close_lanes.new.lens.items behind c.args.tx (no_longer_behind c.empty_into.new.self c.args.tx c.empty_into.ensures.ends))
    ∙ ap (λ ls. lanes_insert c.args.tx c.args.target (lanes_without ls c.args.tx))
    (lanes_settled c.self.inside.settled.items c.self.inside.lens.items c.self.inside.lanes c.empty_into.new.self c.self.inside.open c.empty_into.new.flat.items c.close_lanes.new.lens.items c.self.invariant.fits
    c.close_lanes.ensures.as_many c.close_lanes.ensures.listed c.empty_into.ensures.items c.close_lanes.ensures.lens c.empty_into.ensures.runs c.empty_into.ensures.ends ∙ ap (λ (v : Listed). v.lanes) c.self.view_is)
