use Rattle.std.proofs.Common.{◌≡◌, ◌∙◌, Err, [], ap, sym, arith, rules}
use Rattle.ltx_text.specs.Lines.{feeds}
use Rattle.ltx_text.specs.declared.piece.TextFault.TheVariants.{ReadFault}
use Rattle.ltx_text.specs.Pieces.{faults_among}
use Rattle.std.proofs.lemmas.Result.{err_from_is_err_and}
use Rattle.ltx_text.proofs.LineLemmas.{Cuts-then}
use Rattle.ltx_text.proofs.LineAsks.{asks_more, calls_step, gave_end, gave_more, gave_fault}
use Rattle.ltx_text.proofs.lines.Lines.fill.Goals as goal

pub returns-in_err-take_block-clause-cuts : goal.returns-in_err-take_block-clause-cuts
returns-in_err-take_block-clause-cuts g c = Cuts-then _ _ _ _ _ _ [] [] c.loop-self.invariant.cuts c.take_block.ensures.cuts

pub returns-then-not-branch-clause-cuts : goal.returns-then-not-branch-clause-cuts
returns-then-not-branch-clause-cuts g c = Cuts-then _ _ _ _ _ _ [] [] c.loop-self.invariant.cuts c.take_block.ensures.cuts

pub returns-in-Some-clause-cuts : goal.returns-in-Some-clause-cuts
returns-in-Some-clause-cuts g c = Cuts-then _ _ _ _ _ _ [] [] c.loop-self.invariant.cuts c.take_block.ensures.cuts

pub loop-self-preserved : goal.loop-self-preserved
loop-self-preserved g c = record {
  cuts = Cuts-then _ _ _ _ _ _ [] [] c.loop-self.invariant.cuts c.take_block.ensures.cuts;
  unended = ap feeds (sym c.held.ensures) ∙ c.in_default.ensures;
  within = c.in_ok-take_block.ensures.within;
  limit = c.take_block.ensures.limit ∙ c.loop-self.invariant.limit;
  unmet = search rules;
  calls = calls_step _ _ _ c.args.self.now c.loop-self.self c.take_block.new.self c.loop-self.invariant.calls c.take_block.ensures.asked (omega (arith, c.loop-self.invariant.cuts.counted)) (rw c.if-not-branch.false at c.in_ok-take_block.ensures.more).0;
  calm = c.in_ok-take_block.ensures.calm (λ e. cc) ∙ c.loop-self.invariant.calm;
}

pub returns-then-not-branch-clause-asks : goal.returns-then-not-branch-clause-asks
returns-then-not-branch-clause-asks g c =
    let i = c.loop-self.invariant in
    let end = rw c.if-not-branch.true at c.in_ok-take_block.ensures.more in
    asks_more c.args.self.now c.loop-self.self c.take_block.new.self _ _ _ _ _ 0 i.cuts i.unended c.requires.unmet i.calls c.take_block.ensures.asked
    (gave_end c.loop-self.self c.take_block.new.self (omega (arith, c.take_block.ensures.cuts.counted)) end.0)

pub returns-then-not-branch-clause-calm : goal.returns-then-not-branch-clause-calm
returns-then-not-branch-clause-calm g c = λ _. c.in_ok-take_block.ensures.calm (λ e. cc) ∙ c.loop-self.invariant.calm

pub returns-in-Some-clause-asks : goal.returns-in-Some-clause-asks
returns-in-Some-clause-asks g c =
    let i = c.loop-self.invariant in
    let more = rw c.if-not-branch.false at c.in_ok-take_block.ensures.more in
    asks_more c.args.self.now c.loop-self.self c.take_block.new.self _ _ _ _ _ 0 i.cuts i.unended c.requires.unmet i.calls c.take_block.ensures.asked
    (gave_more c.loop-self.self c.take_block.new.self more.0)

pub returns-in-Some-clause-calm : goal.returns-in-Some-clause-calm
returns-in-Some-clause-calm g c = λ _. c.in_ok-take_block.ensures.calm (λ e. cc) ∙ c.loop-self.invariant.calm

pub returns-in_err-take_block-clause-asks : goal.returns-in_err-take_block-clause-asks
returns-in_err-take_block-clause-asks g c =
    let i = c.loop-self.invariant in
    let p = err_from_is_err_and c.from_residual.result c.from_residual.ensures.1 in
    let y = c.in_err-take_block.field-0.0 in
    let is : c.from_residual.result ≡ Err y = p.1 ∙ ap Err p.2 in
    let f = c.in_err-take_block.ensures in
    asks_more c.args.self.now c.loop-self.self c.take_block.new.self _ _ _ _ _ (faults_among c.from_residual.result) i.cuts i.unended c.requires.unmet i.calls c.take_block.ensures.asked
    (gave_fault y c.from_residual.result c.loop-self.self c.take_block.new.self is (omega (arith, c.take_block.ensures.cuts.counted)) c.take_block.ensures.limit f.memory f.too_much)

pub returns-in_err-take_block-clause-calm : goal.returns-in_err-take_block-clause-calm
returns-in_err-take_block-clause-calm g c =
    let p = err_from_is_err_and c.from_residual.result c.from_residual.ensures.1 in
    let is : c.from_residual.result ≡ Err c.in_err-take_block.field-0.0 = p.1 ∙ ap Err p.2 in
    λ other. c.in_err-take_block.ensures.calm (λ e. other (is ∙ (let same : c.in_err-take_block.field-0.0 ≡ ReadFault = cc in ap Err same))) ∙ c.loop-self.invariant.calm
