use Rattle.std.proofs.Common.{◌≡◌, ◌++◌, ◌<◌, ◌^◌, length, map}
use Rattle.ltx_text.specs.Decimals.{decimal_of}
use Rattle.ltx_script.specs.Commands.{tables_of}
use Rattle.ltx_text.specs.Cuts.{cut_at}
use Rattle.ltx_script.proofs.SetLemmas.{NoneFrom, Named}
use Rattle.ltx_script.proofs.arguments.tables_in.Given as goal

abbrev pub invariant-loop-table : goal.invariant-loop-table
invariant-loop-table l = record {
  fits : l.set < 2 ^ 64;
  below : NoneFrom l.set l.least;
  read : cut_at 44 l.fn.text ≡ map decimal_of (tables_of l.set) ++ cut_at 44 l.text;
  left : Named 0 (cut_at 44 l.fn.text) → Named l.least (cut_at 44 l.text);
}

abbrev pub decreases-loop-table : goal.decreases-loop-table
decreases-loop-table l = length l.text
