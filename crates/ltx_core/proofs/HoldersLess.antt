-- Who ended is not entered as a batch any more.
use Rattle.std.proofs.Common.{◌≡◌, ◌≢◌, ℕ, ◌<◌, false, ◌||◌, List, [], ◌∷◌, Some, refl, sym, ap, ◌∙◌}
use Rattle.std.specs.List.{find, AllByRecursion, cons_option}
use Rattle.std.proofs.lemmas.Bool.{ne_eqb}
use Rattle.ltx_model.specs.Lists.{without_first, IsPairwise}
use Rattle.ltx_model.specs.States.{Kind, IsShort, IsPending, IsLive, Active, is_of}
use Rattle.ltx_model.specs.Holders.{Holder, is_entered, holder_of}
use Rattle.ltx_laws.proofs.Standing.{others_rising}
use Rattle.ltx_core.specs.Stands.{batches_of}

-- nobody with another number is entered with this one
strange_by_kind : (n m : ℕ) (kind : Kind) (hs : List Holder) → n ≢ m → is_entered hs n ≡ false → is_entered (cons_option (holder_of kind m) hs) n ≡ false
strange_by_kind n m IsShort hs apart rest = rest
strange_by_kind n m (IsPending d) hs apart rest = ap (λ b. b || is_entered hs n) (ne_eqb m n (λ e. apart (sym e))) ∙ rest
strange_by_kind n m (IsLive d snapshot) hs apart rest = ap (λ b. b || is_entered hs n) (ne_eqb m n (λ e. apart (sym e))) ∙ rest

strange : (n : ℕ) (active : List Active) → AllByRecursion (λ u. n ≢ u.number) active → is_entered (batches_of active) n ≡ false
strange n [] all = refl
strange n (o ∷ os) all = strange_by_kind n o.number o.kind (batches_of os) all.0 (strange n os all.1)

pub entered_gone : (active : List Active) (session : ℕ) (o : Active) → IsPairwise (λ a b. a.number < b.number) active → find (is_of session) active ≡ Some o
    → is_entered (batches_of (without_first (is_of session) active)) o.number ≡ false
entered_gone active session o rising is = strange o.number (without_first (is_of session) active) (others_rising active session o is rising)
