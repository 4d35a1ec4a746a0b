-- The text of a refusal of a batch, in two pieces.
use Rattle.std.proofs.Common.{◌≡◌, ◌++◌, ℕ, List, [], ◌∷◌, length, take, refl, codes, sym, ap, ◌∙◌, append_assoc}
use Rattle.ltx_model.specs.declared.replies.Reply.{Reply}
use Rattle.ltx_model.specs.declared.replies.Reply.TheVariants.{Contradicts}
use Rattle.ltx_reply.specs.Texts.{witness_text, reply_text}

-- the text of a refusal of a batch by a contradicted reader
pub contradicts_text : (target op table : ℕ) (key : List ℕ) (reader : ℕ) → reply_text (Contradicts target op table key reader) ≡ codes "contradicts" ++ witness_text target op table key reader
unfolding reply_text
contradicts_text target op table key reader = refl

pub told : (old mid new : List ℕ) (reply : Reply) (target op table : ℕ) (key : List ℕ) (reader : ℕ) → reply ≡ Contradicts target op table key reader
    → mid ≡ old ++ codes "contradicts" → new ≡ mid ++ witness_text target op table key reader → new ≡ old ++ reply_text reply
told old mid new reply target op table key reader is named e =
    e ∙ ap (λ l. l ++ witness_text target op table key reader) named ∙ append_assoc old (codes "contradicts") (witness_text target op table key reader)
    ∙ ap (λ l. old ++ l) (sym (ap reply_text is ∙ contradicts_text target op table key reader))
