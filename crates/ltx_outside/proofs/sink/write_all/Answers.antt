use Rattle.std.proofs.Common.{ap, length, ◌≡◌, List, ℕ, take, drop, subst, sym, ◌∙◌, length-drop, arith, rules}
use Rattle.std.proofs.Math.Seq.{take-add}
use Rattle.std.proofs.KnownBytes.{Appends-trans}
use Rattle.std.specs.Io.KnownBytes.{Appends}
use Rattle.ltx_outside.proofs.sink.write_all.Goals as goal

pub loop-done-preserved : goal.loop-done-preserved
loop-done-preserved g c =
    let done = c.loop-done.done in
    let text = c.args.text.now in
    let rest : c.split_at.result.1.now ≡ drop done text = search rules in
    let some = c.in_ok-count.ensures.part in
    record {
      front = omega (arith, length-drop done text, ap length rest, some.1);
      written = subst (λ (bs : List ℕ). Appends (g.K.Sink.written c.args.sink.now) (g.K.Sink.written c.write.new.self) bs) (sym (take-add done c.in_ok-count.count text))
          (Appends-trans _ _ _ (take done text) (take c.in_ok-count.count (drop done text)) c.loop-done.invariant.written (rw rest at c.in_ok-count.ensures.taken));
      untouched = λ none. absurd (omega (arith, some.0, none));
      counted = c.in_ok-count.ensures.calm ∙ c.loop-done.invariant.counted;
    }
