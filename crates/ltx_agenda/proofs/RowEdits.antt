-- A change of the one run in which a number stands, as a change of all runs.
use Rattle.std.proofs.Common.{◌≡◌, ℕ, zero, suc, ◌<◌, List, [], ◌∷◌, get_or, set, refl, sym, ap, ◌∙◌, arith, if◌then◌else◌}
use Rattle.std.specs.List.{insert, remove}
use Rattle.ltx_model.specs.Listings.{without, insert_before}
use Rattle.ltx_agenda.specs.Runs.{at}
use Rattle.ltx_agenda.specs.Lanes.{lanes_without, lanes_insert}
use Rattle.ltx_agenda.proofs.Singles.{member_at, member_nowhere, without_nowhere, without_only, insert_before_only}

rows_same : (rows : List (List ℕ)) (n : ℕ) → ((k q : ℕ) → at rows k q ≡ n → ⊥) → lanes_without rows n ≡ rows
rows_same [] n never = refl
rows_same (row ∷ rows) n never =
    ap (λ ys. ys ∷ lanes_without rows n) (without_nowhere row n (λ q is. never 0 q is)) ∙ ap (λ ys. row ∷ ys) (rows_same rows n (λ k q is. never (suc k) q is))

pub rows_left : (rows : List (List ℕ)) (n l p : ℕ) → 0 < n → at rows l p ≡ n → ((k q : ℕ) → at rows k q ≡ n → (k ≡ l) × (q ≡ p)) → set rows l (remove (get_or rows l []) p) ≡ lanes_without rows n
rows_left [] n l p some is only = absurd (omega arith)
rows_left (row ∷ rows) n zero p some is only =
    ap (λ ys. ys ∷ rows) (sym (without_only row n p some is (λ q there. (only 0 q there).1)))
    ∙ ap (λ ys. without row n ∷ ys) (sym (rows_same rows n (λ k q there. let e = (only (suc k) q there).0 in omega arith)))
rows_left (row ∷ rows) n (suc l) p some is only =
    ap (λ ys. row ∷ ys) (rows_left rows n l p some is (λ k q there. let e = (only (suc k) q there).0 in (omega arith, (only (suc k) q there).1)))
    ∙ ap (λ ys. ys ∷ lanes_without rows n) (sym (without_nowhere row n (λ q there. let e = (only 0 q there).0 in omega arith)))

pub rows_came : (rows : List (List ℕ)) (x t l p : ℕ) → 0 < t → at rows l p ≡ t → ((k q : ℕ) → at rows k q ≡ t → (k ≡ l) × (q ≡ p)) → set rows l (insert (get_or rows l []) p x) ≡ lanes_insert x t rows
rows_came [] x t l p some is only = absurd (omega arith)
rows_came (row ∷ rows) x t zero p some is only =
    ap (λ ys. ys ∷ rows) (sym (insert_before_only row x t p some is (λ q there. (only 0 q there).1)))
    ∙ ap (λ c. if c then insert_before x t row ∷ rows else row ∷ lanes_insert x t rows) (sym (member_at row t p some is))
rows_came (row ∷ rows) x t (suc l) p some is only =
    ap (λ ys. row ∷ ys) (rows_came rows x t l p some is (λ k q there. let e = (only (suc k) q there).0 in (omega arith, (only (suc k) q there).1)))
    ∙ ap (λ c. if c then insert_before x t row ∷ rows else row ∷ lanes_insert x t rows) (sym (member_nowhere row t (λ q there. let e = (only 0 q there).0 in omega arith)))
