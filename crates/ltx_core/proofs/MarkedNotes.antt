-- The marks of an open transaction's notes, with one note more, and while the store keeps the rows at them.
use Rattle.std.proofs.Common.{◌≡◌, ℕ, ◌≤◌, List, [], ◌∷◌, ◌++◌, ◌∙◌, arith}
use Rattle.ltx_model.specs.States.{Step}
use Rattle.ltx_store.specs.Kept.{Kept, rows_at}
use Rattle.ltx_validate.specs.Verdicts.{AreMarkedAt}
use Rattle.ltx_core.specs.Stands.{AreMarkedFrom, AreMarked}

-- the rows at these marks are as before, and there may be more commits
marked_later : (old new : List Kept) (low commits more : ℕ) (steps : List Step) (marks : List ℕ) → commits ≤ more → ((m : ℕ) → m ≤ commits → rows_at m new ≡ rows_at m old)
    → AreMarkedFrom old commits low steps marks → AreMarkedFrom new more low steps marks
marked_later old new low commits more [] [] above same are = tt
marked_later old new low commits more [] (m ∷ ms) above same are = absurd are
marked_later old new low commits more (b ∷ bs) [] above same are = absurd are
marked_later old new low commits more (b ∷ bs) (m ∷ ms) above same are =
    let first = are.0 in
    let within : m ≤ commits = first.within in
    (record { rises = first.rises; within = omega arith; rows = same m within ∙ first.rows }, marked_later old new m commits more bs ms above same are.1)

pub marks_stay : (old new : List Kept) (commits more : ℕ) (steps : List Step) (marks : List ℕ) → commits ≤ more → ((m : ℕ) → m ≤ commits → rows_at m new ≡ rows_at m old)
    → AreMarked old commits steps marks → AreMarked new more steps marks
marks_stay old new commits more steps marks above same are = marked_later old new 0 commits more steps marks above same are

-- one more, at the newest mark
marked_more : (store : List Kept) (low commits : ℕ) (steps : List Step) (marks : List ℕ) (b : Step) → low ≤ commits → rows_at commits store ≡ b.latest → AreMarkedFrom store commits low steps marks
    → AreMarkedFrom store commits low (steps ++ b ∷ []) (marks ++ commits ∷ [])
marked_more store low commits [] [] b above rows are = (record { rises = above; within = omega arith; rows = rows }, tt)
marked_more store low commits [] (m ∷ ms) b above rows are = absurd are
marked_more store low commits (c ∷ cs) [] b above rows are = absurd are
marked_more store low commits (c ∷ cs) (m ∷ ms) b above rows are = (are.0, marked_more store m commits cs ms b are.0.within rows are.1)

pub marks_push : (store : List Kept) (commits : ℕ) (steps : List Step) (marks : List ℕ) (b : Step) → rows_at commits store ≡ b.latest → AreMarked store commits steps marks
    → AreMarked store commits (steps ++ b ∷ []) (marks ++ commits ∷ [])
marks_push store commits steps marks b rows are = marked_more store 0 commits steps marks b (omega arith) rows are

-- the rows at the marks are those of the steps
marked_from : (store : List Kept) (low commits : ℕ) (steps : List Step) (marks : List ℕ) → AreMarkedFrom store commits low steps marks → AreMarkedAt (λ m. rows_at m store) steps marks
marked_from store low commits [] [] are = tt
marked_from store low commits [] (m ∷ ms) are = absurd are
marked_from store low commits (b ∷ bs) [] are = absurd are
marked_from store low commits (b ∷ bs) (m ∷ ms) are = (are.0.rows, marked_from store m commits bs ms are.1)

pub marked_at : (store : List Kept) (commits : ℕ) (steps : List Step) (marks : List ℕ) → AreMarked store commits steps marks → AreMarkedAt (λ m. rows_at m store) steps marks
marked_at store commits steps marks are = marked_from store 0 commits steps marks are
