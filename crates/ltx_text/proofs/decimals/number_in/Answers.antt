use Rattle.std.proofs.Common.{◌∙◌, sym, arith}
use Rattle.ltx_text.proofs.Numbers.{no_number, other_number, number_some}
use Rattle.ltx_text.proofs.decimals.number_in.Goals as goal
use Rattle.ltx_text.proofs.decimals.number_in.Goals.{else-first-n-via-then-first-n+else-n-past, else-first-n-via-else-first-n}

pub returns-in_err-n-clause-value : goal.returns-in_err-n-clause-value
returns-in_err-n-clause-value c =
    c.from_residual.ensures ∙ sym (no_number c.args.word.now c.args.first c.args.past (omega arith) c.in_err-n.ensures.none)

pub returns-then-n-past-clause-value : goal.returns-then-n-past-clause-value
returns-then-n-past-clause-value c =
    sym (number_some c.args.word.now c.args.first c.args.past c.in_ok-n.n (omega arith) (omega arith) (omega arith) c.in_ok-n.ensures.found)

pub returns-else-first-n-clause-value : goal.returns-else-first-n-clause-value
returns-else-first-n-clause-value c = elim c.else-first-n.branch [
  | else-first-n-via-then-first-n+else-n-past w ↦
      sym (other_number c.args.word.now c.args.first c.args.past c.in_ok-n.n (omega arith) (omega arith) c.in_ok-n.ensures.found (λ low high. omega (arith, high, w.if-n-past.false)))
  | else-first-n-via-else-first-n w ↦
      sym (other_number c.args.word.now c.args.first c.args.past c.in_ok-n.n (omega arith) (omega arith) c.in_ok-n.ensures.found (λ low high. omega (arith, low, w.if-first-n.false)))
]
