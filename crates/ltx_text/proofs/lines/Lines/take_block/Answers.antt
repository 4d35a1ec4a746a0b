use Rattle.std.proofs.Common.{◌≡◌, ◌∙◌, [], List, ℕ, ◌++◌, sym, ap, take, refl, arith}
use Rattle.std.proofs.lemmas.List.{append-nil}
use Rattle.ltx_text.specs.Block.{held}
use Rattle.ltx_text.specs.Lines.{LinesState}
use Rattle.ltx_text.proofs.LineLemmas.{Cuts-read, Consumes-same, feeds-kept}
use Rattle.ltx_text.proofs.lines.Lines.take_block.Goals as goal

pub returns-in-Err-clause-cuts : goal.returns-in-Err-clause-cuts
returns-in-Err-clause-cuts g c =
    let v = c.self.view_is in
    let kept : held c.make_room.new.self ≡ take 4097 c.args.self.now.held = c.make_room.ensures.held ∙ ap (λ (s : LinesState). take 4097 s.held) v in
    let taken = ap (λ (s : LinesState). s.taken) v in
    Cuts-read c.args.self.now _ _ _ [] c.requires.unended (c.in-Err.ensures.kept.0 ∙ kept ∙ sym (append-nil _)) (omega (arith, taken)) (Consumes-same _ _ c.in-Err.ensures.kept.1)

pub returns-in-Err-clause-read_fault : goal.returns-in-Err-clause-read_fault
returns-in-Err-clause-read_fault g c =
    let v = c.self.view_is in
    let kept : held c.make_room.new.self ≡ take 4097 c.args.self.now.held = c.make_room.ensures.held ∙ ap (λ (s : LinesState). take 4097 s.held) v in
    let within = c.requires.within in
    λ _. (
      feeds-kept c.args.self.now.held _ _ [] c.requires.unended kept (c.in-Err.ensures.kept.0 ∙ sym (append-nil _)) refl,
      omega (arith, ap (λ (s : LinesState). s.taken) v, ap (λ (s : LinesState). s.limit) v, within),
      c.in-Err.ensures.cause,
    )

pub returns-in-Ok-eq0-clause-cuts : goal.returns-in-Ok-eq0-clause-cuts
returns-in-Ok-eq0-clause-cuts g c =
    let v = c.self.view_is in
    let kept : held c.make_room.new.self ≡ take 4097 c.args.self.now.held = c.make_room.ensures.held ∙ ap (λ (s : LinesState). take 4097 s.held) v in
    let came = c.in-Ok-eq0.ensures.taken in
    let none = c.in-Ok-eq0.field-0-test in
    let taken = ap (λ (s : LinesState). s.taken) v in
    Cuts-read c.args.self.now _ _ _ came.0 c.requires.unended (came.2 ∙ ap (λ (t : List ℕ). t ++ came.0) kept) (omega (arith, taken, came.1, none)) came.3

pub returns-in-Ok-eq0-clause-more : goal.returns-in-Ok-eq0-clause-more
returns-in-Ok-eq0-clause-more g c =
    let v = c.self.view_is in
    let kept : held c.make_room.new.self ≡ take 4097 c.args.self.now.held = c.make_room.ensures.held ∙ ap (λ (s : LinesState). take 4097 s.held) v in
    let came = c.in-Ok-eq0.ensures.taken in
    (refl, c.in-Ok-eq0.ensures.end c.in-Ok-eq0.field-0-test, feeds-kept c.args.self.now.held _ _ came.0 c.requires.unended kept came.2 (came.1 ∙ c.in-Ok-eq0.field-0-test))

pub returns-in-Ok-clause-cuts : goal.returns-in-Ok-clause-cuts
returns-in-Ok-clause-cuts g c =
    let v = c.self.view_is in
    let kept : held c.make_room.new.self ≡ take 4097 c.args.self.now.held = c.make_room.ensures.held ∙ ap (λ (s : LinesState). take 4097 s.held) v in
    let came = c.in-Ok.ensures.taken in
    let some = c.in-Ok.field-0-test in
    let most = c.in-Ok.ensures.most in
    let one = c.most_to_read-most.ensures.one c.if-self.true in
    let within = c.requires.within in
    let taken = ap (λ (s : LinesState). s.taken) v in
    let limit = ap (λ (s : LinesState). s.limit) v in
    Cuts-read c.args.self.now _ _ _ came.0 c.requires.unended (came.2 ∙ ap (λ (t : List ℕ). t ++ came.0) kept) (omega (arith, taken, limit, within, came.1, some, most, one, c.if-self.true)) came.3

pub returns-in-Ok-2-clause-cuts : goal.returns-in-Ok-2-clause-cuts
returns-in-Ok-2-clause-cuts g c =
    let v = c.self.view_is in
    let kept : held c.make_room.new.self ≡ take 4097 c.args.self.now.held = c.make_room.ensures.held ∙ ap (λ (s : LinesState). take 4097 s.held) v in
    let came = c.in-Ok.ensures.taken in
    let taken = ap (λ (s : LinesState). s.taken) v in
    Cuts-read c.args.self.now _ _ _ came.0 c.requires.unended (came.2 ∙ ap (λ (t : List ℕ). t ++ came.0) kept) (omega (arith, taken, came.1)) came.3
