use Rattle.std.proofs.Common.{rules, ◌≡◌, ◌≢◌, ◌∷◌, ◌++◌, [], sym, subst}
use Rattle.ltx_model.specs.declared.commands.Command.TheVariants.{Flush}
use Rattle.ltx_model.specs.declared.commands.Line.TheVariants.{Good}
use Rattle.ltx_model.specs.declared.replies.Reply.TheVariants.{Later}
use Rattle.ltx_model.specs.Histories.{state}
use Rattle.ltx_model.specs.declared.memory.NoMemory.{NoMemory}
use Rattle.ltx_core.specs.Stands.{StandsFor}
use Rattle.ltx_top.proofs.Lines.{bad_answer, bad_stands}
use Rattle.ltx_top.proofs.Unflushed.{IsAnsweredAs, flush_stands, not_flush, step_answers}
use Rattle.ltx_top.proofs.reply.reply_to.Goals as goal

pub returns-in-Bad-clause-reply : goal.returns-in-Bad-clause-reply
returns-in-Bad-clause-reply c = λ base history sound legal stands. bad_answer c.args.line.now c.in-Bad.cause c.in-Bad.is (state base history)

pub returns-in-Bad-clause-stands : goal.returns-in-Bad-clause-stands
returns-in-Bad-clause-stands c = λ base history sound legal stands. bad_stands c.args.core.now base history c.args.line.now c.in-Bad.cause c.in-Bad.is stands

pub returns-in-Good-Flush-clause-stands : goal.returns-in-Good-Flush-clause-stands
returns-in-Good-Flush-clause-stands c base history sound legal stands =
    let is : c.args.line.now ≡ Good Flush = search rules in
    subst (λ line. StandsFor c.args.core.now base (history ++ record { line = line; reply = Later } ∷ [])) (sym is) (flush_stands c.args.core.now base history stands)

pub returns-in-Good : goal.returns-in-Good
returns-in-Good c =
    let other : c.in-Good.command ≢ Flush = search rules in
    let does : IsAnsweredAs NoMemory c.args.core.now c.args.line.now c.step.result c.step.new.self
    = step_answers NoMemory c.args.core.now c.args.line.now c.in-Good.command c.step.result c.step.new.self c.in-Good.is (not_flush c.in-Good.command other) c.step.ensures.reply c.step.ensures.stands in
    record { reply = does.reply; stands = does.stands; kept = c.step.ensures.kept; kept_back = c.step.ensures.kept_back }
