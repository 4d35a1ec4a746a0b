-- One entry more: what is open behind it, and whether it may stand there.
use Rattle.std.proofs.Common.{◌≡◌, ℕ, zero, suc, ◌+◌, ◌<◌, true, false, List, [], ◌∷◌, ◌++◌, length, get_or, take, drop, refl, sym, ap, subst, ◌∙◌, arith, add-one}
use Rattle.std.proofs.lemmas.List.{length-take, take-append-drop}
use Rattle.std.proofs.Math.Seq.{drop-cons}
use Rattle.ltx_model.specs.declared.replies.Entry.{Entry}
use Rattle.ltx_check.specs.Opens.{Desk, first_desk, desk_after, desk_from, is_open_fault, AreWellPlaced, IsWellPlaced, IsOpenFault}

pub desk_more : (d : Desk) (es : List Entry) (e : Entry) → desk_from d (es ++ e ∷ []) ≡ desk_after (desk_from d es) e
unfolding desk_from
desk_more d [] e = refl
desk_more d (x ∷ es) e = desk_more (desk_after d x) es e

pub placed_more : (d : Desk) (es : List Entry) (e : Entry) → AreWellPlaced d es → is_open_fault (desk_from d es) e ≡ false → AreWellPlaced d (es ++ e ∷ [])
unfolding desk_from AreWellPlaced
placed_more d [] e placed fine = (fine, tt)
placed_more d (x ∷ es) e placed fine = (placed.0, placed_more (desk_after d x) es e placed.1 fine)

take_suc : {A : Type 0} (xs : List A) (i : ℕ) (x : A) → i < length xs → x ≡ get_or xs i x → take (suc i) xs ≡ take i xs ++ x ∷ []
take_suc [] i x low is = absurd (omega (arith, low))
take_suc (y ∷ ys) zero x low is = ap (λ z. z ∷ []) (sym is)
take_suc (y ∷ ys) (suc i) x low is = ap (λ l. y ∷ l) (take_suc ys i x (omega (arith, low)) is)

pub take_more : {A : Type 0} (xs : List A) (i : ℕ) (x : A) → i < length xs → x ≡ get_or xs i x → take (i + 1) xs ≡ take i xs ++ x ∷ []
take_more xs i x low is = ap (λ k. take k xs) (add-one i) ∙ take_suc xs i x low is

-- what is kept while entries are read
pub record Read (entries : List Entry) (place : ℕ) (now : Desk) : Type 0 where
  pub desk : now ≡ desk_from first_desk (take place entries)
  pub placed : IsWellPlaced (take place entries)

pub read_none : (entries : List Entry) → Read entries 0 first_desk
unfolding desk_from AreWellPlaced
read_none entries = record { desk = refl; placed = tt }

pub read_more : (entries : List Entry) (place : ℕ) (old new : Desk) (entry : Entry) → Read entries place old → place < length entries → entry ≡ get_or entries place entry
    → is_open_fault old entry ≡ false → new ≡ desk_after old entry → Read entries (place + 1) new
read_more entries place old new entry kept low is fine next =
    let more = take_more entries place entry low is in
    let before : is_open_fault (desk_from first_desk (take place entries)) entry ≡ false = ap (λ d. is_open_fault d entry) (sym kept.desk) ∙ fine in
    record {
      desk = next ∙ ap (λ d. desk_after d entry) kept.desk ∙ sym (desk_more first_desk (take place entries) entry) ∙ ap (desk_from first_desk) (sym more);
      placed = subst IsWellPlaced (sym more) (placed_more first_desk (take place entries) entry kept.placed before);
    }

pub read_fault : (entries : List Entry) (place number : ℕ) (desk : Desk) (entry : Entry) → Read entries place desk → place < length entries → entry ≡ get_or entries place entry
    → is_open_fault desk entry ≡ true → number ≡ place + 1 → IsOpenFault entries number
read_fault entries place number desk entry kept low is fault counted = record {
  before = take place entries;
  entry = entry;
  after = drop (suc place) entries;
  parts = sym (take-append-drop place entries) ∙ ap (λ l. take place entries ++ l) (drop-cons entries place entry low ∙ ap (λ z. z ∷ drop (suc place) entries) (sym is));
  placed = kept.placed;
  fault = ap (λ d. is_open_fault d entry) (sym kept.desk) ∙ fault;
  counted = omega (arith, counted, low, length-take place entries);
}

pub read_all : (entries : List Entry) (place : ℕ) (desk : Desk) → Read entries place desk → take place entries ≡ entries → IsWellPlaced entries
read_all entries place desk kept all = subst IsWellPlaced all kept.placed
