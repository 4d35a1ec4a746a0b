-- Rows that are read one after another.
use Rattle.std.proofs.Common.{◌≡◌, ℕ, List, [], ◌∷◌, ◌++◌, Option, Some, None, refl, sym, ap, ◌∙◌, append_assoc}
use Rattle.ltx_model.specs.declared.rows.Row.{Row}
use Rattle.ltx_reply.specs.Readings.{rows_in, key_at, value_at}

-- these rows, and those that are read behind them
abbrev pub joined : List Row → Option (List Row) → Option (List Row)
joined front None = None
joined front (Some more) = Some (front ++ more)

one_more : (front : List Row) (row : Row) (read : Option (List Row)) → joined front (joined (row ∷ []) read) ≡ joined (front ++ row ∷ []) read
one_more front row None = refl
one_more front row (Some more) = ap (λ (l : List Row). Some l) (sym (append_assoc front (row ∷ []) more))

two_words : (key value k v : List ℕ) (words : List (List ℕ)) (read : Option (List Row)) → rows_in words ≡ read → key_at key ≡ Some k → value_at value ≡ Some v
    → rows_in (key ∷ value ∷ words) ≡ joined (record { key = k; value = v } ∷ []) read
two_words key value k v words None e ke ve = rw (ke, ve, e) refl
two_words key value k v words (Some rows) e ke ve = rw (ke, ve, e) refl

pub rows_more : (whole : Option (List Row)) (front : List Row) (key value k v : List ℕ) (words behind : List (List ℕ)) → whole ≡ joined front (rows_in words)
    → words ≡ key ∷ value ∷ behind → key_at key ≡ Some k → value_at value ≡ Some v → whole ≡ joined (front ++ record { key = k; value = v } ∷ []) (rows_in behind)
rows_more whole front key value k v words behind e is ke ve =
    e ∙ ap (λ (ws : List (List ℕ)). joined front (rows_in ws)) is ∙ ap (joined front) (two_words key value k v behind (rows_in behind) refl ke ve)
    ∙ one_more front (record { key = k; value = v }) (rows_in behind)
