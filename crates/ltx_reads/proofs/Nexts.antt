-- The least key from a bound on that passes a test.
use Rattle.std.proofs.Common.{◌≡◌, ℕ, Bool, true, List, Option, Some, None, sym, ◌∙◌}
use Rattle.ltx_model.specs.NextKeys.{reaches}
use Rattle.ltx_reads.specs.Nexts.{IsNext}

-- two tests that say the same have the same least key
pub next_same : (from : List ℕ) (strict : Bool) (s t : List ℕ → Bool) → ((k : List ℕ) → t k ≡ s k) → (o : Option (List ℕ)) → IsNext from strict s o → IsNext from strict t o
next_same from strict s t same None n = λ k at e. n k at (sym (same k) ∙ e)
next_same from strict s t same (Some k) n = record { within = n.within; passes = same k ∙ n.passes; least = λ o at e less. n.least o at (sym (same o) ∙ e) less }
