use Rattle.std.proofs.Common.{◌≡◌, true, false, get_or, refl, sym, rules, ◌∙◌, arith}
use Rattle.ltx_text.specs.Words.{is_visible}
use Rattle.ltx_script.proofs.Parts.{visible_taken, space_taken, other_taken, none_taken, all_taken}
use Rattle.ltx_script.proofs.cuts.are_words.Goals as goal
use Rattle.ltx_script.proofs.cuts.are_words.Goals.{then-is_visible, else-is_visible+then-in_word+then-byte-eq32, else-in_word-via-then-in_word+else-byte-eq32, else-in_word-via-else-in_word}

pub loop-byte-init : goal.loop-byte-init
loop-byte-init c = refl

pub returns-else-in_word : goal.returns-else-in_word
returns-else-in_word c =
    let text = c.args.line.now in
    let i = c.loop-byte.byte-index in
    let hidden : is_visible (get_or text i 0) ≡ false = search rules in
    elim c.else-in_word.branch [
      | else-in_word-via-then-in_word+else-byte-eq32 w ↦ sym (c.loop-byte.invariant ∙ other_taken c.loop-byte.in_word text i c.loop-byte-test.true hidden w.if-byte-eq32.false)
      | else-in_word-via-else-in_word w ↦ sym (c.loop-byte.invariant ∙ none_taken c.loop-byte.in_word text i c.loop-byte-test.true w.if-in_word.false hidden)
    ]

pub loop-byte-preserved : goal.loop-byte-preserved
loop-byte-preserved c =
    let text = c.args.line.now in
    let i = c.loop-byte.byte-index in
    elim c.if-is_visible.branch [
      | then-is_visible w ↦
          let visible : is_visible (get_or text i 0) ≡ true = search rules in
          rw w.in_word-is (c.loop-byte.invariant ∙ visible_taken c.loop-byte.in_word text i c.loop-byte-test.true visible)
      | else-is_visible+then-in_word+then-byte-eq32 w ↦
          rw w.in_word-is (c.loop-byte.invariant ∙ space_taken c.loop-byte.in_word text i c.loop-byte-test.true w.if-in_word.true w.if-byte-eq32.true)
    ]

pub returns : goal.returns
returns c = sym (c.loop-byte.invariant ∙ all_taken c.loop-byte.in_word c.args.line.now c.loop-byte.byte-index (omega (arith, c.loop-byte-test.false)))
