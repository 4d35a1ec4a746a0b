use Rattle.std.proofs.Common.{sym, ◌∙◌, ap, subst, ◌++◌, ◌∷◌, [], Some}
use Rattle.ltx_preserve.specs.Kept.{IsKept, lesser_of}
use Rattle.ltx_preserve.proofs.Holding.{one_more_idle, one_more_holder}
use Rattle.ltx_preserve.proofs.preserve.Entered.lesser_holder.Goals as goal

pub returns-then-holds : goal.returns-then-holds
returns-then-holds c = λ hs kept.
    subst (λ o. IsKept (hs ++ c.args.self.now ∷ []) c.args.table o) (sym (c.lesser.ensures ∙ ap (λ n. Some (lesser_of c.args.least n)) c.number.ensures))
    (one_more_holder c.args.table hs c.args.self.now c.args.least (sym c.holds.ensures ∙ c.if-holds.true) kept)

pub returns : goal.returns
returns c = λ hs kept. one_more_idle c.args.table hs c.args.self.now c.args.least (sym c.holds.ensures ∙ c.if-holds.false) kept
