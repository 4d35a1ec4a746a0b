-- Writes that are collected one after another, with those that are still to come.
use Rattle.std.proofs.Common.{◌≡◌, ℕ, zero, suc, ◌+◌, ◌<◌, List, [], ◌∷◌, ◌++◌, length, get_or, drop, Option, refl, sym, ap, ◌∙◌, append_assoc, append-nil}
use Rattle.std.proofs.lemmas.List.{drop_more}
use Rattle.ltx_model.specs.Played.{Played, PlayedSlot, PlayedCommit}
use Rattle.ltx_recover.specs.declared.member.Member.{Member}
use Rattle.ltx_recover.specs.Orders.{shown, played_of}
use Rattle.ltx_recover.specs.Stamps.{Stamped, stamped_by, stamped_all}

all_append : (p : Played) (ps : List Played) → stamped_all (p ∷ ps) ≡ stamped_all (p ∷ []) ++ stamped_all ps
all_append (PlayedSlot n) ps = refl
all_append (PlayedCommit n ws) ps = ap (λ l. l ++ stamped_all ps) (sym (append-nil (stamped_by n ws)))

drop_played : (of : ℕ → Option Member) (ns : List ℕ) (i n : ℕ) → i < length ns → n ≡ get_or ns i n → stamped_all (played_of of (drop i ns)) ≡ stamped_all (shown n (of n) ∷ []) ++ stamped_all (played_of of (drop (i + 1) ns))
drop_played of ns i n within is =
    ap (λ l. stamped_all (played_of of l)) (drop_more ns i n within ∙ ap (λ y. y ∷ drop (i + 1) ns) (sym is)) ∙ all_append (shown n (of n)) (played_of of (drop (i + 1) ns))

played_drop : (of : ℕ → Option Member) (ns : List ℕ) (i : ℕ) → drop i (played_of of ns) ≡ played_of of (drop i ns)
played_drop of ns zero = refl
played_drop of [] (suc i) = refl
played_drop of (n ∷ ns) (suc i) = played_drop of ns i

pub members_more : (of : ℕ → Option Member) (ns : List ℕ) (ps : List Played) (i n : ℕ) (done new all : List Stamped) → played_of of ns ≡ ps → i < length ns → n ≡ get_or ns i n → new ≡ done ++ stamped_all (shown n (of n) ∷ [])
    → done ++ stamped_all (drop i ps) ≡ all → new ++ stamped_all (drop (i + 1) ps) ≡ all
members_more of ns ps i n done new all view within is pushed whole =
    let left : (k : ℕ) → drop k ps ≡ played_of of (drop k ns) = λ k. ap (drop k) (sym view) ∙ played_drop of ns k in
    let later = stamped_all (played_of of (drop (i + 1) ns)) in
    ap (λ l. new ++ stamped_all l) (left (i + 1)) ∙ ap (λ l. l ++ later) pushed ∙ append_assoc done (stamped_all (shown n (of n) ∷ [])) later ∙ ap (λ l. done ++ l) (sym (drop_played of ns i n within is))
    ∙ ap (λ l. done ++ stamped_all l) (sym (left i)) ∙ whole
