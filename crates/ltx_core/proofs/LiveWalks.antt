-- Walks over the batches that are entered: how many are live, and the areas of the live ones.
use Rattle.std.proofs.Common.{◌≡◌, ℕ, zero, suc, ◌<◌, ◌≤◌, Bool, true, false, cond, not, List, [], ◌∷◌, drop, filter, length, get_or, slice_get, Some, None, is_some, refl, sym, ap, ◌∙◌, arith}
use Rattle.ltx_model.specs.Holders.{Holder}
use Rattle.ltx_lemmas.proofs.Lists.{true_false}
use Rattle.ltx_preserve.specs.Kept.{pending_number}
use Rattle.ltx_forward.specs.declared.decide.Live.{Live}
use Rattle.ltx_core.specs.Recorded.{areas_of_live}

-- how many are live
abbrev pub live_count : List Holder → ℕ
live_count holders = length (filter (λ h. h.live) holders)

-- who has no pending number is live
live_of : (h : Holder) (b : Bool) → is_some (pending_number (Some h)) ≡ b → h.live ≡ not b
live_of h b is = by_live h.live is where
  by_live : (l : Bool) → is_some (cond l None (Some h.number)) ≡ b → l ≡ not b
  by_live true e = ap not e
  by_live false e = ap not e

count_first : (h : Holder) (hs : List Holder) (b : Bool) → h.live ≡ b → live_count (h ∷ hs) ≡ cond b (suc (live_count hs)) (live_count hs)
count_first h hs true is = rw is refl
count_first h hs false is = rw is refl

areas_first : (h : Holder) (hs : List Holder) (live : Live) (more : List Live) (b : Bool) → h.live ≡ b → areas_of_live (h ∷ hs) (live ∷ more) ≡ cond b (live ∷ areas_of_live hs more) (areas_of_live hs more)
areas_first h hs live more true is = rw is refl
areas_first h hs live more false is = rw is refl

-- a live one more
pub count_live : (holders : List Holder) (k : ℕ) → k < length holders → is_some (pending_number (slice_get holders k)) ≡ false → live_count (drop k holders) ≡ suc (live_count (drop (suc k) holders))
count_live [] k within is = let wrong : ⊥ = omega arith in absurd wrong
count_live (h ∷ hs) zero within is = count_first h hs true (live_of h false is)
count_live (h ∷ hs) (suc k) within is = count_live hs k (omega arith) is

-- a pending one
pub count_pending : (holders : List Holder) (k : ℕ) → is_some (pending_number (slice_get holders k)) ≡ true → live_count (drop k holders) ≡ live_count (drop (suc k) holders)
count_pending [] k is = absurd (true_false (sym is))
count_pending (h ∷ hs) zero is = count_first h hs false (live_of h true is)
count_pending (h ∷ hs) (suc k) is = count_pending hs k is

pub count_most : (holders : List Holder) → live_count holders ≤ length holders
count_most [] = omega arith
count_most (h ∷ hs) = by_live h.live (count_most hs) where
  by_live : (l : Bool) → live_count hs ≤ length hs → length (cond l (h ∷ filter (λ x. x.live) hs) (filter (λ x. x.live) hs)) ≤ suc (length hs)
  by_live true most = omega arith
  by_live false most = omega arith

pub count_past : (holders : List Holder) (k : ℕ) → length holders ≤ k → live_count (drop k holders) ≡ 0
count_past [] zero past = refl
count_past [] (suc k) past = refl
count_past (h ∷ hs) zero past = let wrong : ⊥ = omega arith in absurd wrong
count_past (h ∷ hs) (suc k) past = count_past hs k (omega arith)

-- the area of a live one more
pub areas_live_next : (holders : List Holder) (areas : List Live) (k : ℕ) (other live : Live) → length areas ≡ length holders → k < length areas → get_or areas k other ≡ live → is_some (pending_number (slice_get holders k)) ≡ false
    → areas_of_live (drop k holders) (drop k areas) ≡ live ∷ areas_of_live (drop (suc k) holders) (drop (suc k) areas)
areas_live_next holders [] k other live same within is none = let wrong : ⊥ = omega arith in absurd wrong
areas_live_next [] (a ∷ more) k other live same within is none = let wrong : ⊥ = omega (arith, same) in absurd wrong
areas_live_next (h ∷ hs) (a ∷ more) zero other live same within is none = areas_first h hs a more true (live_of h false none) ∙ ap (λ x. x ∷ areas_of_live hs more) is
areas_live_next (h ∷ hs) (a ∷ more) (suc k) other live same within is none = areas_live_next hs more k other live (omega (arith, same)) (omega arith) is none

-- that of a pending one
pub areas_pending_next : (holders : List Holder) (areas : List Live) (k : ℕ) → length areas ≡ length holders → is_some (pending_number (slice_get holders k)) ≡ true
    → areas_of_live (drop k holders) (drop k areas) ≡ areas_of_live (drop (suc k) holders) (drop (suc k) areas)
areas_pending_next [] areas k same is = absurd (true_false (sym is))
areas_pending_next (h ∷ hs) [] k same is = let wrong : ⊥ = omega (arith, same) in absurd wrong
areas_pending_next (h ∷ hs) (a ∷ more) zero same is = areas_first h hs a more false (live_of h true is)
areas_pending_next (h ∷ hs) (a ∷ more) (suc k) same is = areas_pending_next hs more k (omega (arith, same)) is
