use Rattle.std.proofs.Common.{◌≡◌, ◌∙◌, sym, ap, rules}
use Rattle.std.specs.Prelude.{not}
use Rattle.ltx_check.specs.declared.commits.Way.TheVariants as ways
use Rattle.ltx_check.specs.Marks.{is_over}
use Rattle.ltx_check.proofs.Standing.{against_short, against_home, against_forwarded}
use Rattle.ltx_check.proofs.marks.Behind.allows.Goals as goal

pub returns-in-Short : goal.returns-in-Short
returns-in-Short c = λ run behind.
    let told : c.is_earlier.result ≡ is_over c.args.commit.now.place c.args.self.now.earliest = search rules in
    let way : c.args.commit.now.way ≡ ways.Short = search rules in
    ap not (told ∙ sym (against_short c.args.self.now c.args.commit.now run behind way))

pub returns-in-Home : goal.returns-in-Home
returns-in-Home c = λ run behind.
    let told : c.is_smaller.result ≡ is_over c.args.commit.now.number c.args.self.now.batch = search rules in
    let way : c.args.commit.now.way ≡ ways.Home = search rules in
    ap not (told ∙ sym (against_home c.args.self.now c.args.commit.now run behind way))

pub returns-in-Forwarded : goal.returns-in-Forwarded
returns-in-Forwarded c = λ run behind.
    let way : c.args.commit.now.way ≡ ways.Forwarded = search rules in
    ap not (sym (against_forwarded c.args.self.now c.args.commit.now run behind way))
