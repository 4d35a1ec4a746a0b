use Rattle.std.proofs.Common.{rules, ◌≡◌, arith, ap, ◌∙◌, sym}
use Rattle.std.specs.List.{insert}
use Rattle.ltx_model.specs.Listings.{place_of}
use Rattle.ltx_agenda.proofs.Joined.{place_of_within, insert_before_at}
use Rattle.ltx_agenda.proofs.flat.put_before.Goals as goal

pub insert-requires : goal.insert-requires
insert-requires c =
    let within = place_of_within c.args.flat.now.items c.args.target c.requires.target in
    let place = c.place-place.ensures ∙ ap (λ xs. place_of xs c.args.target) c.deref.ensures.value in
    let len = c.args.flat.now.ok.0 in
    omega arith

pub returns-clause-items : goal.returns-clause-items
returns-clause-items c =
    let place = c.place-place.ensures ∙ ap (λ xs. place_of xs c.args.target) c.deref.ensures.value in
    let came : c.insert.new.self.items ≡ insert c.args.flat.now.items c.place-place.result c.args.tx = search rules in
    came ∙ ap (λ i. insert c.args.flat.now.items i c.args.tx) place ∙ sym (insert_before_at c.args.flat.now.items c.args.tx c.args.target c.requires.target)
