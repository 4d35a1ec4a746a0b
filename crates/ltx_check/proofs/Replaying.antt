-- A replay, one operation after another and one transaction after another.
use Rattle.std.proofs.Common.{◌≡◌, ◌⊎◌, ◌≤◌, ◌<◌, ℕ, zero, suc, ◌+◌, Bool, true, false, List, [], ◌∷◌, ◌++◌, map, length, get_or, take, Option, Some, None, min, refl, sym, ap, subst, ◌∙◌, inl, inr, arith}
use Rattle.std.specs.List.{AllByRecursion}
use Rattle.std.proofs.lemmas.Bool.{cases_lt}
use Rattle.ltx_model.specs.declared.replies.Entry.{Entry}
use Rattle.ltx_model.specs.declared.rows.StoredRow.{StoredRow}
use Rattle.ltx_model.specs.Rows.{reply_on, rows_after, rows_after_transaction}
use Rattle.ltx_check.specs.Tables.{Pairs, AreRows}
use Rattle.ltx_check.specs.Replays.{Told, told_of, transaction_in, Differs, RunDiffers, Plays, RunPlays, Finds, IsToldIn, rows_told, PlayedPart, least_of, unless}
use Rattle.ltx_check.proofs.Placed.{take_more}
use Rattle.ltx_check.proofs.Explaining.{no_differs, run_no_differs}

-- ---- the least of two

module _ (G H K : Type 0) (D E F : ℕ → Type 0) (together : G → H → K) (left : (p : ℕ) → D p → F p) (right : (p : ℕ) → E p → F p) (either : (p : ℕ) → F p → D p ⊎ E p) (none : G → (p : ℕ) → D p → ⊥) (nil : H → (p : ℕ) → E p → ⊥) where
  pub finds_least : (a b : Option ℕ) → Finds G D a → Finds H E b → Finds K F (least_of a b)
  finds_least None None f g = together f g
  finds_least None (Some b) f g = (right b g.0, λ p d. from_either p (either p d))
    where
      from_either : (p : ℕ) → D p ⊎ E p → b ≤ p
      from_either p (inl d) = absurd (none f p d)
      from_either p (inr e) = g.1 p e
  finds_least (Some a) None f g = (left a f.0, λ p d. from_either p (either p d))
    where
      from_either : (p : ℕ) → D p ⊎ E p → a ≤ p
      from_either p (inl d) = f.1 p d
      from_either p (inr e) = absurd (nil g p e)
  finds_least (Some a) (Some b) f g = (here, λ p d. from_either p (either p d))
    where
      here : F (min a b)
      here = elim (cases_lt a b) [
        | inl low ↦ let is : a ≡ min a b = omega (arith, low) in subst F is (left a f.0)
        | inr high ↦ let is : b ≡ min a b = omega (arith, high) in subst F is (right b g.0)
      ]

      from_either : (p : ℕ) → D p ⊎ E p → min a b ≤ p
      from_either p (inl d) = let low = f.1 p d in omega (arith, low)
      from_either p (inr e) = let low = g.1 p e in omega (arith, low)

-- ---- one operation more

module _ (n : ℕ) where
  plays_more : (rows : List StoredRow) (xs : List Told) (x : Told) → Plays n rows xs → reply_on (rows_told n rows xs) x.answered.op ≡ x.answered.reply → Plays n rows (xs ++ x ∷ [])
  plays_more rows [] x all is = (is, tt)
  plays_more rows (y ∷ xs) x all is = (all.0, plays_more (rows_after n rows y.answered.op) xs x all.1 is)

  differs_left : (rows : List StoredRow) (xs : List Told) (x : Told) (p : ℕ) → Differs n rows xs p → Differs n rows (xs ++ x ∷ []) p
  differs_left rows [] x p d = absurd d
  differs_left rows (y ∷ xs) x p (inl d) = inl d
  differs_left rows (y ∷ xs) x p (inr d) = inr (differs_left (rows_after n rows y.answered.op) xs x p d)

  Other : List StoredRow → Told → ℕ → Type 0
  Other rows x p = (p ≡ x.place) × (reply_on rows x.answered.op ≡ x.answered.reply → ⊥)

  differs_right : (rows : List StoredRow) (xs : List Told) (x : Told) (p : ℕ) → Other (rows_told n rows xs) x p → Differs n rows (xs ++ x ∷ []) p
  unfolding Other
  differs_right rows [] x p d = inl d
  differs_right rows (y ∷ xs) x p d = inr (differs_right (rows_after n rows y.answered.op) xs x p d)

  differs_either : (rows : List StoredRow) (xs : List Told) (x : Told) (p : ℕ) → Differs n rows (xs ++ x ∷ []) p → Differs n rows xs p ⊎ Other (rows_told n rows xs) x p
  unfolding Other
  differs_either rows [] x p (inl d) = inr d
  differs_either rows [] x p (inr d) = absurd d
  differs_either rows (y ∷ xs) x p (inl d) = inl (inl d)
  differs_either rows (y ∷ xs) x p (inr d) = deeper (differs_either (rows_after n rows y.answered.op) xs x p d) where
    deeper : Differs n (rows_after n rows y.answered.op) xs p ⊎ Other (rows_told n (rows_after n rows y.answered.op) xs) x p → Differs n rows (y ∷ xs) p ⊎ Other (rows_told n rows (y ∷ xs)) x p
    deeper (inl e) = inl (inr e)
    deeper (inr e) = inr e

  rows_more : (rows : List StoredRow) (xs : List Told) (x : Told) → rows_told n rows (xs ++ x ∷ []) ≡ rows_after n (rows_told n rows xs) x.answered.op
  rows_more rows [] x = refl
  rows_more rows (y ∷ xs) x = rows_more (rows_after n rows y.answered.op) xs x

  one_found : (rows : List StoredRow) (x : Told) (same : Bool) → (same ≡ true → reply_on rows x.answered.op ≡ x.answered.reply) → (same ≡ false → reply_on rows x.answered.op ≡ x.answered.reply → ⊥)
      → Finds (reply_on rows x.answered.op ≡ x.answered.reply) (Other rows x) (unless same x.place)
  unfolding Other
  one_found rows x true given other = given refl
  one_found rows x false given other = ((refl, other refl), λ p d. omega (arith, d.0))

  pub found_more : (rows : List StoredRow) (xs : List Told) (x : Told) (first : Option ℕ) (same : Bool) → Finds (Plays n rows xs) (Differs n rows xs) first
      → (same ≡ true → reply_on (rows_told n rows xs) x.answered.op ≡ x.answered.reply) → (same ≡ false → reply_on (rows_told n rows xs) x.answered.op ≡ x.answered.reply → ⊥)
      → Finds (Plays n rows (xs ++ x ∷ [])) (Differs n rows (xs ++ x ∷ [])) (least_of first (unless same x.place))
  unfolding Other
  found_more rows xs x first same finds given other =
      finds_least _ _ _ (Differs n rows xs) (Other (rows_told n rows xs) x) (Differs n rows (xs ++ x ∷ []))
      (plays_more rows xs x) (differs_left rows xs x) (differs_right rows xs x) (differs_either rows xs x) (λ all p. no_differs n rows xs p all) (λ is p d. d.1 is)
      first (unless same x.place) finds (one_found (rows_told n rows xs) x same given other)

-- ---- one transaction more

-- the rows after the transactions with these numbers
abbrev pub rows_run : List Entry → List StoredRow → List ℕ → List StoredRow
rows_run history rows [] = rows
rows_run history rows (n ∷ order) = rows_run history (rows_after_transaction rows (transaction_in history n)) order

module _ (history : List Entry) where
  run_more : (rows : List StoredRow) (order : List ℕ) (n : ℕ) → RunPlays history rows order → Plays n (rows_run history rows order) (told_of history n) → RunPlays history rows (order ++ n ∷ [])
  run_more rows [] n all plays = (plays, tt)
  run_more rows (m ∷ order) n all plays = (all.0, run_more (rows_after_transaction rows (transaction_in history m)) order n all.1 plays)

  run_left : (rows : List StoredRow) (order : List ℕ) (n p : ℕ) → RunDiffers history rows order p → RunDiffers history rows (order ++ n ∷ []) p
  run_left rows [] n p d = absurd d
  run_left rows (m ∷ order) n p (inl d) = inl d
  run_left rows (m ∷ order) n p (inr d) = inr (run_left (rows_after_transaction rows (transaction_in history m)) order n p d)

  run_right : (rows : List StoredRow) (order : List ℕ) (n p : ℕ) → Differs n (rows_run history rows order) (told_of history n) p → RunDiffers history rows (order ++ n ∷ []) p
  run_right rows [] n p d = inl d
  run_right rows (m ∷ order) n p d = inr (run_right (rows_after_transaction rows (transaction_in history m)) order n p d)

  run_either : (rows : List StoredRow) (order : List ℕ) (n p : ℕ) → RunDiffers history rows (order ++ n ∷ []) p → RunDiffers history rows order p ⊎ Differs n (rows_run history rows order) (told_of history n) p
  run_either rows [] n p (inl d) = inr d
  run_either rows [] n p (inr d) = absurd d
  run_either rows (m ∷ order) n p (inl d) = inl (inl d)
  run_either rows (m ∷ order) n p (inr d) = deeper (run_either (rows_after_transaction rows (transaction_in history m)) order n p d) where
    deeper : RunDiffers history (rows_after_transaction rows (transaction_in history m)) order p ⊎ Differs n (rows_run history (rows_after_transaction rows (transaction_in history m)) order) (told_of history n) p
        → RunDiffers history rows (m ∷ order) p ⊎ Differs n (rows_run history rows (m ∷ order)) (told_of history n) p
    deeper (inl e) = inl (inr e)
    deeper (inr e) = inr e

  run_rows : (rows : List StoredRow) (order : List ℕ) (n : ℕ) → rows_run history rows (order ++ n ∷ []) ≡ rows_told n (rows_run history rows order) (told_of history n)
  run_rows rows [] n = refl
  run_rows rows (m ∷ order) n = run_rows (rows_after_transaction rows (transaction_in history m)) order n

  pub run_found : (rows : List StoredRow) (order : List ℕ) (n : ℕ) (first found : Option ℕ) → Finds (RunPlays history rows order) (RunDiffers history rows order) first
      → Finds (Plays n (rows_run history rows order) (told_of history n)) (Differs n (rows_run history rows order) (told_of history n)) found
      → Finds (RunPlays history rows (order ++ n ∷ [])) (RunDiffers history rows (order ++ n ∷ [])) (least_of first found)
  run_found rows order n first found finds one =
      finds_least _ _ _ (RunDiffers history rows order) (Differs n (rows_run history rows order) (told_of history n)) (RunDiffers history rows (order ++ n ∷ []))
      (run_more rows order n) (run_left rows order n) (run_right rows order n) (run_either rows order n) (λ all p. run_no_differs history rows order p all) (λ all p. no_differs n (rows_run history rows order) (told_of history n) p all)
      first found finds one

-- these transactions were run, and this was found
pub record Replayed (history : List Entry) (order : List ℕ) (tables : List Pairs) (first : Option ℕ) : Type 0 where
  pub finds : Finds (RunPlays history [] order) (RunDiffers history [] order) first
  pub rows : AreRows tables (rows_run history [] order)

pub replayed_none : (history : List Entry) (order : List ℕ) (tables : List Pairs) → AreRows tables [] → Replayed history (take 0 order) tables None
replayed_none history order tables are = record { finds = tt; rows = are }

pub replayed_more : (history : List Entry) (order : List ℕ) (i n : ℕ) (old new : List Pairs) (first found : Option ℕ) → take (i + 1) order ≡ take i order ++ n ∷ [] → AllByRecursion (IsToldIn history) (told_of history n)
    → Replayed history (take i order) old first → (places : List ℕ) → places ≡ map (λ x. x.place) (told_of history n) → PlayedPart history places old new found
    → (next : Option ℕ) → next ≡ least_of first found → Replayed history (take (i + 1) order) new next
replayed_more history order i n old new first found more all r places are part next next_is =
    let base = rows_run history [] (take i order) in
    let both = part n base (told_of history n) are all r.rows in
    subst (λ l. Replayed history l new next) (sym more) (record {
      finds = subst (Finds (RunPlays history [] (take i order ++ n ∷ [])) (RunDiffers history [] (take i order ++ n ∷ []))) (sym next_is) (run_found history [] (take i order) n first found r.finds both.0);
      rows = subst (AreRows new) (sym (run_rows history [] (take i order) n)) both.1;
    })

-- ---- the places of a transaction, one after another

pub record Playing (history : List Entry) (places : List ℕ) (i : ℕ) (old now : List Pairs) (first : Option ℕ) (n : ℕ) (rows : List StoredRow) (xs : List Told) : Type 0 where
  pub finds : Finds (Plays n rows (take i xs)) (Differs n rows (take i xs)) first
  pub held : AreRows now (rows_told n rows (take i xs))

-- whatever transaction and rows they are of
abbrev pub IsPlaying : List Entry → List ℕ → ℕ → List Pairs → List Pairs → Option ℕ → Type 0
IsPlaying history places i old now first =
    (n : ℕ) (rows : List StoredRow) (xs : List Told) → places ≡ map (λ x. x.place) xs → AllByRecursion (IsToldIn history) xs → AreRows old rows → Playing history places i old now first n rows xs

told_at : (xs : List Told) (i p : ℕ) → i < length (map (λ x. x.place) xs) → p ≡ get_or (map (λ x. x.place) xs) i 0 → (x : Told) × (p ≡ x.place) × (i < length xs) × (x ≡ get_or xs i x)
told_at [] i p low is = absurd (omega (arith, low))
told_at (x ∷ xs) zero p low is = (x, is, omega arith, refl)
told_at (x ∷ xs) (suc i) p low is = let r = told_at xs i p (omega (arith, low)) is in (r.0, r.1, omega (arith, r.2), r.3)

told_in_all : (P : Told → Type 0) (xs : List Told) (i : ℕ) (x : Told) → AllByRecursion P xs → i < length xs → x ≡ get_or xs i x → P x
told_in_all P [] i x all low is = absurd (omega (arith, low))
told_in_all P (y ∷ xs) zero x all low is = subst P (sym is) all.0
told_in_all P (y ∷ xs) (suc i) x all low is = told_in_all P xs i x all.1 (omega (arith, low)) is

pub playing_none : (history : List Entry) (places : List ℕ) (old : List Pairs) → IsPlaying history places 0 old old None
playing_none history places old n rows xs is all are = record { finds = tt; held = are }

pub playing_more : (history : List Entry) (places : List ℕ) (i p : ℕ) (old now new : List Pairs) (first : Option ℕ) (same : Bool) → i < length places → p ≡ get_or places i 0 → IsPlaying history places i old now first
    → ((x : Told) → x.place ≡ p → IsToldIn history x → same ≡ true → (held : List StoredRow) → AreRows now held → reply_on held x.answered.op ≡ x.answered.reply)
    → ((x : Told) → x.place ≡ p → IsToldIn history x → same ≡ false → (held : List StoredRow) → AreRows now held → reply_on held x.answered.op ≡ x.answered.reply → ⊥)
    → ((x : Told) → x.place ≡ p → IsToldIn history x → (n : ℕ) (held : List StoredRow) → AreRows now held → AreRows new (rows_after n held x.answered.op))
    → (next : Option ℕ) → next ≡ least_of first (unless same p) → IsPlaying history places (i + 1) old new next
playing_more history places i p old now new first same low is playing given other after next next_is n rows xs told all are =
    let here = told_at xs i p (subst (λ l. i < length l) told low) (is ∙ ap (λ l. get_or l i 0) told) in
    let x = here.0 in
    let stands : IsToldIn history x = told_in_all (IsToldIn history) xs i x all here.2 here.3 in
    let k = playing n rows xs told all are in
    let more : take (i + 1) xs ≡ take i xs ++ x ∷ [] = take_more xs i x here.2 here.3 in
    let found = found_more n rows (take i xs) x first same k.finds
    (λ so. given x (sym here.1) stands so (rows_told n rows (take i xs)) k.held) (λ so. other x (sym here.1) stands so (rows_told n rows (take i xs)) k.held) in
    record {
      finds = subst (λ l. Finds (Plays n rows l) (Differs n rows l) next) (sym more) (subst (Finds (Plays n rows (take i xs ++ x ∷ [])) (Differs n rows (take i xs ++ x ∷ []))) (sym next_is)
          (subst (λ q. Finds (Plays n rows (take i xs ++ x ∷ [])) (Differs n rows (take i xs ++ x ∷ [])) (least_of first (unless same q))) (sym here.1) found));
      held = subst (λ l. AreRows new (rows_told n rows l)) (sym more) (subst (AreRows new) (sym (rows_more n rows (take i xs) x)) (after x (sym here.1) stands n (rows_told n rows (take i xs)) k.held));
    }

pub playing_all : (history : List Entry) (places : List ℕ) (i : ℕ) (old now : List Pairs) (first : Option ℕ) → length places ≤ i → IsPlaying history places i old now first → PlayedPart history places old now first
playing_all history places i old now first far playing n rows xs told all are =
    let k = playing n rows xs told all are in
    let whole : take i xs ≡ xs = take_far xs i (subst (λ l. length l ≤ i) told far) in
    (subst (λ l. Finds (Plays n rows l) (Differs n rows l) first) whole k.finds, subst (λ l. AreRows now (rows_told n rows l)) whole k.held)
  where
    take_far : (ys : List Told) (j : ℕ) → length (map (λ x. x.place) ys) ≤ j → take j ys ≡ ys
    take_far [] zero low = refl
    take_far [] (suc j) low = refl
    take_far (y ∷ ys) zero low = absurd (omega (arith, low))
    take_far (y ∷ ys) (suc j) low = ap (λ l. y ∷ l) (take_far ys j (omega (arith, low)))
