-- Open transactions that keep the same, both ways.
use Rattle.std.proofs.Common.{◌≡◌, ℕ, List, Option, Some, None, refl, sym, subst}
use Rattle.ltx_open.specs.Views.{OpenView}
use Rattle.ltx_open.specs.Slots.{opened}
use Rattle.ltx_open.specs.Same.{IsSameOpen, IsSameAt, AreSameOpens}

same_open_back : (a b : OpenView) → IsSameOpen a b → IsSameOpen b a
same_open_back a b same = record { number = sym same.number; stage = sym same.stage; notes = sym same.notes; marks = sym same.marks; own = sym same.own }

pub same_at_back : (o u : Option OpenView) → IsSameAt o u → IsSameAt u o
same_at_back None None same = tt
same_at_back None (Some u) same = absurd same
same_at_back (Some o) None same = absurd same
same_at_back (Some o) (Some u) same = same_open_back o u same

-- what is as it was keeps the same
pub same_at_itself : (o : Option OpenView) → IsSameAt o o
same_at_itself None = tt
same_at_itself (Some a) = record { number = refl; stage = refl; notes = refl; marks = refl; own = refl }

pub same_opens : (opens new : List (Option OpenView)) → ((n : ℕ) → opened new n ≡ opened opens n) → AreSameOpens opens new
same_opens opens new same n = subst (IsSameAt (opened opens n)) (sym (same n)) (same_at_itself (opened opens n))
