use Rattle.std.proofs.Common.{◌≡◌, ◌+◌, ◌-◌, ◌≤◌, [], false}
use Rattle.ltx_text.specs.Lines.{Cuts, feeds}
use Rattle.ltx_text.proofs.LineAsks.{CallsWithin}
use Rattle.ltx_text.proofs.lines.Lines.fill.Given as goal

-- what was taken so far holds no line feed and is within the limit; each call gave a byte or more, and none failed
abbrev pub invariant-loop-self : goal.invariant-loop-self
invariant-loop-self g l = record {
  cuts : Cuts l.fn.self l.self (g.S.Source.left l.fn.source) (g.S.Source.left l.source) [];
  unended : feeds l.self.held ≡ 0;
  within : l.self.taken ≤ l.self.limit;
  limit : l.self.limit ≡ l.fn.self.limit;
  unmet : l.self.ended ≡ false;
  calls : CallsWithin (g.S.Source.reads l.fn.source) (g.S.Source.reads l.source) (l.self.taken - l.fn.self.taken);
  calm : g.S.Source.faults l.source ≡ g.S.Source.faults l.fn.source;
}

abbrev pub decreases-loop-self : goal.decreases-loop-self
decreases-loop-self g l = l.self.limit + 1 - l.self.taken
