-- Searches over numbered operations and over the keys that transactions wrote.
use Rattle.std.proofs.Common.{◌≡◌, ◌⊎◌, inl, inr, ℕ, suc, ◌+◌, Bool, true, false, cond, ◌||◌, List, [], ◌∷◌, ◌++◌, map, length, Option, Some, None, refl, sym, ap, ◌∙◌, subst, append_assoc, append-nil, arith}
use Rattle.std.proofs.lemmas.List.{map-append}
use Rattle.std.proofs.lemmas.Bool.{both_ways, or_right}
use Rattle.std.specs.List.{list_any, find, AllByRecursion, Contains}
use Rattle.std.specs.Option.{is_some}
use Rattle.ltx_model.specs.declared.commands.Op.{Op}
use Rattle.ltx_model.specs.declared.rows.StoredRow.{StoredRow}
use Rattle.ltx_model.specs.declared.writes.Write.{Write}
use Rattle.ltx_model.specs.Lists.{Numbered, numbered_from, numbered, or_else, first_some}
use Rattle.ltx_model.specs.Keys.{Cell, same_cell, put_in_order, item_at}
use Rattle.ltx_model.specs.StoredRows.{cell_of, row_at}
use Rattle.ltx_model.specs.Operations.{Transaction, operations, write_of, cell_of_write, is_write_at, writes_key, put_write, writes_after, writes_of}
use Rattle.ltx_model.specs.Shorts.{cells_into, cells_of_both}
use Rattle.ltx_model.specs.Batches.{last_writer_from, cells_written, cells_written_by}
use Rattle.ltx_lemmas.proofs.Lists.{true_false, none_some, any_map, any_item, any_not_all, find_not, contains_here, contains_later, contains_cases, contains_none}
use Rattle.ltx_model.proofs.CellOrder.{same_cell_same}
use Rattle.ltx_model.proofs.ItemsAt.{item_at-put}

-- the first item of which something is given
pub or_else_none : {A : Type 0} (a b : Option A) → or_else a b ≡ None → (a ≡ None) × (b ≡ None)
or_else_none None b e = (refl, e)
or_else_none (Some x) b e = cc

pub or_else_some : {A : Type 0} (a b : Option A) (x : A) → or_else a b ≡ Some x → (a ≡ Some x) ⊎ ((a ≡ None) × (b ≡ Some x))
or_else_some None b x e = inr (refl, e)
or_else_some (Some y) b x e = inl e

pub first_none : {X A : Type 0} (f : X → Option A) (xs : List X) → first_some f xs ≡ None → AllByRecursion (λ x. f x ≡ None) xs
first_none f [] e = tt
first_none f (x ∷ xs) e = let both = or_else_none (f x) (first_some f xs) e in (both.0, first_none f xs both.1)

pub first_none_from : {X A : Type 0} (f : X → Option A) (xs : List X) → AllByRecursion (λ x. f x ≡ None) xs → first_some f xs ≡ None
first_none_from f [] all = refl
first_none_from f (x ∷ xs) all = ap (λ o. or_else o (first_some f xs)) all.0 ∙ first_none_from f xs all.1

-- where something is given, it is given of one item, and nothing of those before it
pub record FirstGiven {X A : Type 0} (f : X → Option A) (xs : List X) (a : A) : Type 0 where
  pub front : List X
  pub item : X
  pub back : List X
  pub parts : xs ≡ front ++ item ∷ back
  pub none : AllByRecursion (λ x. f x ≡ None) front
  pub gives : f item ≡ Some a

pub first_given : {X A : Type 0} (f : X → Option A) (xs : List X) (a : A) → first_some f xs ≡ Some a → FirstGiven f xs a
first_given f [] a e = absurd (none_some e)
first_given f (x ∷ xs) a e = by_head (or_else_some (f x) (first_some f xs) a e) (first_given f xs a) where
  by_head : (f x ≡ Some a) ⊎ ((f x ≡ None) × (first_some f xs ≡ Some a)) → (first_some f xs ≡ Some a → FirstGiven f xs a) → FirstGiven f (x ∷ xs) a
  by_head (inl here) later = record { front = []; item = x; back = xs; parts = refl; none = tt; gives = here }
  by_head (inr there) later = let g = later there.1 in record { front = x ∷ g.front; item = g.item; back = g.back; parts = ap (λ l. x ∷ l) g.parts; none = (there.0, g.none); gives = g.gives }

-- numbered items
pub numbered_from_push : {X : Type 0} (k : ℕ) (earlier xs : List X) (x : X)
    → numbered_from k earlier (xs ++ x ∷ []) ≡ numbered_from k earlier xs ++ record { number = k + length xs; earlier = earlier ++ xs; item = x } ∷ []
numbered_from_push k earlier [] x =
    let number : k ≡ k + 0 = omega arith in
    λ i. record { number = number i; earlier = sym (append-nil earlier) i; item = x } ∷ []
numbered_from_push {X} k earlier (y ∷ ys) x =
    let number : (k + 1) + length ys ≡ k + suc (length ys) = omega arith in
    let before : (earlier ++ y ∷ []) ++ ys ≡ earlier ++ y ∷ ys = append_assoc earlier (y ∷ []) ys in
    let last : ◌≡◌ {A = Numbered X} (record { number = (k + 1) + length ys; earlier = (earlier ++ y ∷ []) ++ ys; item = x }) (record { number = k + length (y ∷ ys); earlier = earlier ++ y ∷ ys; item = x }) =
    λ i. record { number = number i; earlier = before i; item = x } in
    let first : Numbered X = record { number = k; earlier = earlier; item = y } in
    ap (λ l. first ∷ l) (numbered_from_push (k + 1) (earlier ++ y ∷ []) ys x) ∙ ap (λ z. first ∷ (numbered_from (k + 1) (earlier ++ y ∷ []) ys ++ z ∷ [])) last

-- the last item has the number of items, and all others before it
pub numbered_push : {X : Type 0} (xs : List X) (x : X) → numbered (xs ++ x ∷ []) ≡ numbered xs ++ record { number = 1 + length xs; earlier = xs; item = x } ∷ []
numbered_push xs x = numbered_from_push 1 [] xs x

pub numbered_from_item : {X : Type 0} (k : ℕ) (earlier xs : List X) (o : Numbered X) → Contains (numbered_from k earlier xs) o → Contains xs o.item
numbered_from_item k earlier [] o c = absurd (contains_none o c)
numbered_from_item {X} k earlier (x ∷ xs) o c = by_place (contains_cases (record { number = k; earlier = earlier; item = x }) (numbered_from (k + 1) (earlier ++ x ∷ []) xs) o c) (numbered_from_item (k + 1) (earlier ++ x ∷ []) xs o) where
  by_place : (◌≡◌ {A = Numbered X} (record { number = k; earlier = earlier; item = x }) o) ⊎ Contains (numbered_from (k + 1) (earlier ++ x ∷ []) xs) o → (Contains (numbered_from (k + 1) (earlier ++ x ∷ []) xs) o → Contains xs o.item) → Contains (x ∷ xs) o.item
  by_place (inl e) later = subst (λ (z : Numbered X). Contains (x ∷ xs) z.item) e (contains_here x xs)
  by_place (inr d) later = contains_later x xs o.item (later d)

pub numbered_item : {X : Type 0} (xs : List X) (o : Numbered X) → Contains (numbered xs) o → Contains xs o.item
numbered_item xs o c = numbered_from_item 1 [] xs o c

pub numbered_from_map : {X Y : Type 0} (f : X → Y) (k : ℕ) (earlier xs : List X) → numbered_from k (map f earlier) (map f xs) ≡ map (λ o. record { number = o.number; earlier = map f o.earlier; item = f o.item }) (numbered_from k earlier xs)
numbered_from_map f k earlier [] = refl
numbered_from_map {X} {Y} f k earlier (x ∷ xs) =
    let first : Numbered Y = record { number = k; earlier = map f earlier; item = f x } in
    ap (λ l. first ∷ numbered_from (k + 1) l (map f xs)) (sym (map-append f earlier (x ∷ []))) ∙ ap (λ l. first ∷ l) (numbered_from_map f (k + 1) (earlier ++ x ∷ []) xs)

pub numbered_map : {X Y : Type 0} (f : X → Y) (xs : List X) → numbered (map f xs) ≡ map (λ o. record { number = o.number; earlier = map f o.earlier; item = f o.item }) (numbered xs)
numbered_map f xs = numbered_from_map f 1 [] xs

-- keys among those that were put in order
any_is_found : {A : Type 0} (test : A → Bool) (xs : List A) → list_any test xs ≡ is_some (find test xs)
any_is_found test [] = refl
any_is_found {A} test (x ∷ xs) = by_test (test x) (any_is_found test xs) where
  by_test : (b : Bool) → list_any test xs ≡ is_some (find test xs) → (b || list_any test xs) ≡ is_some (cond {A = Option A} b (Some x) (find test xs))
  by_test true e = refl
  by_test false e = e

pub any_put : {A : Type 0} (cell : A → Cell) (x : A) (xs : List A) (q : Cell) → list_any (λ y. same_cell (cell y) q) (put_in_order cell x xs) ≡ (same_cell (cell x) q || list_any (λ y. same_cell (cell y) q) xs)
any_put {A} cell x xs q =
    any_is_found (λ y. same_cell (cell y) q) (put_in_order cell x xs) ∙ ap is_some (item_at-put cell x xs q) ∙ by_test (same_cell (cell x) q) ∙ sym (ap (λ b. same_cell (cell x) q || b) (any_is_found (λ y. same_cell (cell y) q) xs)) where
      by_test : (b : Bool) → is_some (cond {A = Option A} b (Some x) (item_at cell xs q)) ≡ (b || is_some (item_at cell xs q))
      by_test true = refl
      by_test false = refl

or_swap : (a b c : Bool) → ((a || b) || c) ≡ (b || (a || c))
or_swap true true c = refl
or_swap true false c = refl
or_swap false true c = refl
or_swap false false c = refl

or_nil : (b : Bool) → b ≡ (b || false)
or_nil true = refl
or_nil false = refl

-- a key is one of these cells
abbrev pub is_in : Cell → List Cell → Bool
is_in q cells = list_any (λ c. same_cell c q) cells

-- the keys of rows
pub is_in_rows : (q : Cell) (cells : List Cell) (rows : List StoredRow) → is_in q (cells_into cells rows) ≡ (is_in q cells || list_any (λ row. same_cell (cell_of row) q) rows)
is_in_rows q cells [] = or_nil (is_in q cells)
is_in_rows q cells (row ∷ rows) =
    is_in_rows q (put_in_order (λ c. c) (cell_of row) cells) rows
    ∙ ap (λ b. b || list_any (λ r. same_cell (cell_of r) q) rows) (any_put (λ c. c) (cell_of row) cells q)
    ∙ or_swap (same_cell (cell_of row) q) (is_in q cells) (list_any (λ r. same_cell (cell_of r) q) rows)

row_any : (rows : List StoredRow) (q : Cell) (row : StoredRow) → row_at rows q ≡ Some row → list_any (λ r. same_cell (cell_of r) q) rows ≡ true
row_any rows q row e = any_is_found (λ r. same_cell (cell_of r) q) rows ∙ ap is_some e

pub is_in_before : (q : Cell) (before now : List StoredRow) (row : StoredRow) → row_at before q ≡ Some row → is_in q (cells_of_both before now) ≡ true
is_in_before q before now row e = is_in_rows q (map cell_of before) now ∙ ap (λ b. b || list_any (λ r. same_cell (cell_of r) q) now) (any_map (λ c. same_cell c q) cell_of before ∙ row_any before q row e)

pub is_in_now : (q : Cell) (before now : List StoredRow) (row : StoredRow) → row_at now q ≡ Some row → is_in q (cells_of_both before now) ≡ true
is_in_now q before now row e = is_in_rows q (map cell_of before) now ∙ or_right (is_in q (map cell_of before)) (list_any (λ r. same_cell (cell_of r) q) now) (row_any now q row e)

-- the keys that operations write
pub is_written : (q : Cell) (ws : List Write) (ops : List Op) → list_any (λ w. same_cell (cell_of_write w) q) (writes_after ws ops) ≡ (list_any (λ w. same_cell (cell_of_write w) q) ws || writes_key ops q)
is_written q ws [] = or_nil (list_any (λ w. same_cell (cell_of_write w) q) ws)
is_written q ws (op ∷ ops) = is_written q (put_write (write_of op) ws) ops ∙ by_write (write_of op) where
  by_write : (o : Option Write) → (list_any (λ w. same_cell (cell_of_write w) q) (put_write o ws) || writes_key ops q) ≡ (list_any (λ w. same_cell (cell_of_write w) q) ws || (is_write_at q o || writes_key ops q))
  by_write None = refl
  by_write (Some w) = ap (λ b. b || writes_key ops q) (any_put cell_of_write w ws q) ∙ or_swap (same_cell (cell_of_write w) q) (list_any (λ v. same_cell (cell_of_write v) q) ws) (writes_key ops q)

pub is_written_of : (q : Cell) (ops : List Op) → list_any (λ w. same_cell (cell_of_write w) q) (writes_of ops) ≡ writes_key ops q
is_written_of q ops = is_written q [] ops

-- of a key that operations write, one of their writes is
pub write_at : (q : Cell) (ops : List Op) → writes_key ops q ≡ true → (w : Write) × Contains (writes_of ops) w × (cell_of_write w ≡ q)
write_at q ops e = let found = any_item (λ w. same_cell (cell_of_write w) q) (writes_of ops) (is_written_of q ops ∙ e) in (found.0, found.1, same_cell_same (cell_of_write found.0) q found.2)

is_in_written : (q : Cell) (cells : List Cell) (ws : List Write) → is_in q (cells_written cells ws) ≡ (is_in q cells || list_any (λ w. same_cell (cell_of_write w) q) ws)
is_in_written q cells [] = or_nil (is_in q cells)
is_in_written q cells (w ∷ ws) =
    is_in_written q (put_in_order (λ c. c) (cell_of_write w) cells) ws
    ∙ ap (λ b. b || list_any (λ v. same_cell (cell_of_write v) q) ws) (any_put (λ c. c) (cell_of_write w) cells q)
    ∙ or_swap (same_cell (cell_of_write w) q) (is_in q cells) (list_any (λ v. same_cell (cell_of_write v) q) ws)

or_join : (a b c : Bool) → ((a || b) || c) ≡ (a || (b || c))
or_join true b c = refl
or_join false b c = refl

-- the keys that transactions write
pub is_in_written_by : (q : Cell) (cells : List Cell) (ts : List Transaction) → is_in q (cells_written_by cells ts) ≡ (is_in q cells || list_any (λ t. writes_key (operations t) q) ts)
is_in_written_by q cells [] = or_nil (is_in q cells)
is_in_written_by q cells (t ∷ ts) =
    is_in_written_by q (cells_written cells (writes_of (operations t))) ts
    ∙ ap (λ b. b || list_any (λ u. writes_key (operations u) q) ts) (is_in_written q cells (writes_of (operations t)) ∙ ap (λ b. is_in q cells || b) (is_written_of q (operations t)))
    ∙ or_join (is_in q cells) (writes_key (operations t) q) (list_any (λ u. writes_key (operations u) q) ts)

-- a test that finds none of the cells fails at each of them
pub none_passes : (test : Cell → Bool) (q : Cell) (cells : List Cell) → find test cells ≡ None → is_in q cells ≡ true → test q ≡ false
none_passes test q cells none is =
    let found = any_item (λ c. same_cell c q) cells is in
    subst (λ c. test c ≡ false) (same_cell_same found.0 q found.2) (find_not test cells found.0 none found.1)

-- the last of two lists of transactions that writes a key
pub last_writer_append : (last : Option ℕ) (q : Cell) (xs ys : List Transaction) → last_writer_from last q (xs ++ ys) ≡ last_writer_from (last_writer_from last q xs) q ys
last_writer_append last q [] ys = refl
last_writer_append last q (x ∷ xs) ys = last_writer_append (cond (writes_key (operations x) q) (Some x.number) last) q xs ys

pub last_writer_silent : (last : Option ℕ) (q : Cell) (xs : List Transaction) → AllByRecursion (λ t. writes_key (operations t) q ≡ false) xs → last_writer_from last q xs ≡ last
last_writer_silent last q [] silent = refl
last_writer_silent last q (x ∷ xs) silent = ap (λ b. last_writer_from (cond b (Some x.number) last) q xs) silent.0 ∙ last_writer_silent last q xs silent.1

-- one of them writes the key: the last writer is one of them that does
pub last_writer_is : (last : Option ℕ) (q : Cell) (xs : List Transaction) → list_any (λ t. writes_key (operations t) q) xs ≡ true → (t : Transaction) × Contains xs t × (writes_key (operations t) q ≡ true) × (last_writer_from last q xs ≡ Some t.number)
last_writer_is last q [] e = absurd (true_false (sym e))
last_writer_is last q (x ∷ xs) e = by_tests (list_any (λ t. writes_key (operations t) q) xs) refl (writes_key (operations x) q) refl e (λ l. last_writer_is l q xs) where
  by_tests : (b : Bool) → list_any (λ t. writes_key (operations t) q) xs ≡ b → (w : Bool) → writes_key (operations x) q ≡ w → (w || list_any (λ t. writes_key (operations t) q) xs) ≡ true
      → ((l : Option ℕ) → list_any (λ t. writes_key (operations t) q) xs ≡ true → (t : Transaction) × Contains xs t × (writes_key (operations t) q ≡ true) × (last_writer_from l q xs ≡ Some t.number))
      → (t : Transaction) × Contains (x ∷ xs) t × (writes_key (operations t) q ≡ true) × (last_writer_from last q (x ∷ xs) ≡ Some t.number)
  by_tests true some w is h later = let r = later (cond (writes_key (operations x) q) (Some x.number) last) some in (r.0, contains_later x xs r.0 r.1, r.2, r.3)
  by_tests false none true is h later =
      (x, contains_here x xs, is, ap (λ b. last_writer_from (cond b (Some x.number) last) q xs) is ∙ last_writer_silent (Some x.number) q xs (any_not_all (λ t. writes_key (operations t) q) xs none))
  by_tests false none false is h later = absurd (let no : ⊥ = both_ways (list_any (λ t. writes_key (operations t) q) xs) none h in no)
