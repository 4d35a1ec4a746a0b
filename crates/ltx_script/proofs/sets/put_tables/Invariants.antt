use Rattle.std.proofs.Common.{◌≡◌, ◌++◌, ◌<◌, ◌∷◌}
use Rattle.ltx_script.specs.Commands.{commas}
use Rattle.ltx_script.proofs.Spellings.{between}
use Rattle.ltx_script.proofs.sets.put_tables.Given as goal

abbrev pub invariant-loop-n : goal.invariant-loop-n
invariant-loop-n l = record {
  text : l.out.items ≡ l.fn.out.items ++ commas (l.fn.least ∷ between l.set l.fn.least l.n);
  above : l.fn.least < l.n;
}
