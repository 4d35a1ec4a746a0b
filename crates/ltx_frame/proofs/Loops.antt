-- Items that are read one after another.
use Rattle.std.proofs.Common.{◌≡◌, ℕ, suc, ◌-◌, ◌+◌, ◌≤◌, ◌<◌, List, [], ◌∷◌, ◌++◌, Option, Some, None, refl, sym, ap, ◌∙◌, append_assoc, append-nil, arith}
use Rattle.ltx_frame.specs.declared.unread.Unread.{Unread}
use Rattle.ltx_frame.specs.declared.unread.Unread.TheVariants as causes
use Rattle.ltx_frame.specs.Readings.{◌>>=◌, items_at}
use Rattle.ltx_frame.specs.Readers.{Refuses}

-- what was read before, and what is read still
abbrev pub with_front : {X : Type 0} → List X → Option (List X × List ℕ) → Option (List X × List ℕ)
with_front front read = read >>= λ x. Some (front ++ x.0, x.1)

regroup : {X : Type 0} (front : List X) (x : X) (read : Option (List X × List ℕ)) → with_front front (read >>= λ y. Some (x ∷ y.0, y.1)) ≡ with_front (front ++ x ∷ []) read
regroup front x (Some y) = ap (λ xs. Some (xs, y.1)) (sym (append_assoc front (x ∷ []) y.0))
regroup front x None = refl

pub starts : {X : Type 0} (whole : Option (List X × List ℕ)) → with_front [] whole ≡ whole
starts (Some x) = refl
starts None = refl

pub goes_on : {X : Type 0} (read : List ℕ → Option (X × List ℕ)) (front : List X) (count i : ℕ) (bytes : List ℕ) (x : X) (behind : List ℕ) (whole : Option (List X × List ℕ)) → i < count
    → read bytes ≡ Some (x, behind) → with_front front (items_at read (count - i) bytes) ≡ whole → with_front (front ++ x ∷ []) (items_at read (count - (i + 1)) behind) ≡ whole
unfolding items_at
goes_on read front count i bytes x behind whole lt h so_far =
    let k : count - i ≡ suc (count - (i + 1)) = omega arith in
    let one : with_front front (items_at read (count - i) bytes) ≡ with_front (front ++ x ∷ []) (items_at read (count - (i + 1)) behind) =
    rw (k, h) (regroup front x (items_at read (count - (i + 1)) behind)) in
    sym one ∙ so_far

pub ends : {X : Type 0} (read : List ℕ → Option (X × List ℕ)) (e : Unread) (front : List X) (count i : ℕ) (bytes : List ℕ) (whole : Option (List X × List ℕ)) → i < count
    → Refuses e (read bytes) → with_front front (items_at read (count - i) bytes) ≡ whole → Refuses e whole
unfolding items_at
ends read causes.Memory front count i bytes whole lt h so_far = tt
ends read causes.NoFrame front count i bytes whole lt h so_far =
    let k : count - i ≡ suc (count - (i + 1)) = omega arith in
    let one : with_front front (items_at read (count - i) bytes) ≡ None = rw (k, h) refl in
    sym so_far ∙ one

pub is_done : {X : Type 0} (read : List ℕ → Option (X × List ℕ)) (front : List X) (count i : ℕ) (bytes : List ℕ) (whole : Option (List X × List ℕ)) → count ≤ i
    → with_front front (items_at read (count - i) bytes) ≡ whole → whole ≡ Some (front, bytes)
unfolding items_at
is_done read front count i bytes whole le so_far =
    let k : count - i ≡ 0 = omega arith in
    let one : with_front front (items_at read (count - i) bytes) ≡ Some (front, bytes) = rw k (ap (λ xs. Some (xs, bytes)) (append-nil front)) in
    sym so_far ∙ one
