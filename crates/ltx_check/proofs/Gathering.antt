-- The places kept for each number, one entry after another.
use Rattle.std.proofs.Common.{◌≡◌, ℕ, zero, suc, ◌+◌, ◌<◌, Bool, true, false, ◌==◌, ◌&&◌, List, [], ◌∷◌, ◌++◌, map, length, get_or, take, Option, Some, None, option_map, refl, sym, ap, subst, ◌∙◌, append_assoc, arith}
use Rattle.std.specs.Prelude.{is_some, slice_get}
use Rattle.std.specs.List.{AllByRecursion, find, cons_option}
use Rattle.std.specs.BTreeMap.{BTreeMap}
use Rattle.ltx_model.specs.declared.commands.Op.{Op}
use Rattle.ltx_model.specs.declared.replies.Entry.{Entry}
use Rattle.ltx_model.specs.declared.replies.Reply.{Reply}
use Rattle.ltx_model.specs.Operations.{Answered}
use Rattle.ltx_model.specs.Histories.{session_of, operation_of}
use Rattle.ltx_model.specs.Explained.{Open, is_session, Effect, Begins, Answers, Commits, Ends, Leaves, effect_of, opens_after, opens_from}
use Rattle.ltx_model.proofs.OneMore.{opens-push}
use Rattle.ltx_check.specs.declared.desk.Seat.{Seat}
use Rattle.ltx_check.specs.Opens.{Desk, first_desk, desk_after, seat_of}
use Rattle.ltx_check.specs.Replays.{Told, answer_by, has_number, told_if, told_in, told_by, told_from, told_of, places_at, place_if, is_number, number_if, is_answering, answered_number_in, answered_number, IsToldIn}
use Rattle.ltx_check.proofs.Told.{AreAlike, alike_find, entry_alike}
use Rattle.ltx_check.proofs.Placed.{take_more}
use Rattle.ltx_check.proofs.Committed.{told_push}

placed_of : Option Told → List ℕ
placed_of None = []
placed_of (Some t) = t.place ∷ []

mapped : (ts : List Told) (o : Option Told) → map (λ x. x.place) (ts ++ cons_option o []) ≡ map (λ x. x.place) ts ++ placed_of o
unfolding placed_of
mapped [] None = refl
mapped [] (Some t) = refl
mapped (x ∷ ts) o = ap (λ l. x.place ∷ l) (mapped ts o)

-- what is told by the open transactions is what the seats answer
numbered : (n place : ℕ) (seat : Option Seat) (o : Option Open) (a : Answered) → option_map (λ s. s.number) seat ≡ option_map (λ t. t.number) (option_map (λ x. x.tx) o)
    → placed_of (told_if (has_number n o) place (Some a)) ≡ place_if (is_number n (option_map (λ s. s.number) seat)) place
unfolding placed_of
numbered n place seat None a is = rw is refl
numbered n place seat (Some o) a is = rw is (by (o.tx.number == n)) where
  by : (b : Bool) → placed_of (told_if b place (Some a)) ≡ place_if b place
  by true = refl
  by false = refl

untold : (b : Bool) (place : ℕ) → placed_of (told_if b place None) ≡ []
unfolding placed_of
untold true place = refl
untold false place = refl

by_effect : (n place : ℕ) (seat : Option Seat) (o : Option Open) (effect : Effect) (op : Option Op) (reply : Reply) → option_map (λ s. s.number) seat ≡ option_map (λ t. t.number) (option_map (λ x. x.tx) o)
    → placed_of (told_if (has_number n o) place (answer_by effect op reply)) ≡ place_if (is_number n (number_if (is_some op && is_answering effect) seat)) place
by_effect n place seat o Answers (Some op) reply is = numbered n place seat o (record { op = op; reply = reply }) is
by_effect n place seat o Answers None reply is = untold (has_number n o) place
by_effect n place seat o (Begins m) (Some op) reply is = untold (has_number n o) place
by_effect n place seat o (Begins m) None reply is = untold (has_number n o) place
by_effect n place seat o Commits (Some op) reply is = untold (has_number n o) place
by_effect n place seat o Commits None reply is = untold (has_number n o) place
by_effect n place seat o Ends (Some op) reply is = untold (has_number n o) place
by_effect n place seat o Ends None reply is = untold (has_number n o) place
by_effect n place seat o Leaves (Some op) reply is = untold (has_number n o) place
by_effect n place seat o Leaves None reply is = untold (has_number n o) place

same_place : (n place : ℕ) (d : Desk) (opens : List Open) (entry : Entry) → AreAlike d.seats opens → placed_of (told_by n place opens entry) ≡ place_if (is_number n (answered_number d entry)) place
unfolding placed_of
same_place n place d opens entry alike = by (session_of entry.line) where
  by : (s : Option ℕ) → placed_of (told_in n place s opens entry) ≡ place_if (is_number n (answered_number_in s d entry)) place
  by None = refl
  by (Some session) = by_effect n place (seat_of d.seats session) (find (is_session session) opens) (effect_of entry.reply) (operation_of entry.line) entry.reply (alike_find session d.seats opens alike)

-- these entries were read, and these places are kept
pub record Gathered (entries : List Entry) (place : ℕ) (now : Desk) (parts : BTreeMap ℕ (List ℕ)) : Type 0 where
  pub alike : AreAlike now.seats (opens_from [] (take place entries))
  pub told : (n : ℕ) → places_at parts n ≡ map (λ x. x.place) (told_of (take place entries) n)

pub gathered_none : (entries : List Entry) (d : Desk) (parts : BTreeMap ℕ (List ℕ)) → d ≡ first_desk → ((n : ℕ) → places_at parts n ≡ []) → Gathered entries 0 d parts
unfolding opens_from told_from
gathered_none entries d parts desk none = subst (λ e. Gathered entries 0 e parts) (sym desk) (record { alike = tt; told = none })

pub length_take : {A : Type 0} (xs : List A) (i : ℕ) → i < length xs → length (take i xs) ≡ i
length_take [] i low = absurd (omega (arith, low))
length_take (x ∷ xs) zero low = refl
length_take (x ∷ xs) (suc i) low = let rest = length_take xs i (omega (arith, low)) in omega (arith, rest)

pub gathered_more : (entries : List Entry) (place : ℕ) (old new : Desk) (before after : BTreeMap ℕ (List ℕ)) (entry : Entry) → Gathered entries place old before → place < length entries → entry ≡ get_or entries place entry
    → new ≡ desk_after old entry → ((q : ℕ) → places_at after q ≡ places_at before q ++ place_if (is_number q (answered_number old entry)) place) → Gathered entries (place + 1) new after
gathered_more entries place old new before after entry g low is next noted =
    let more = take_more entries place entry low is in
    let front = take place entries in
    let opens : opens_from [] (take (place + 1) entries) ≡ opens_after (opens_from [] front) entry = ap (opens_from []) more ∙ opens-push [] front entry in
    record {
      alike = subst (λ o. AreAlike new.seats o) (sym opens) (subst (λ d. AreAlike d.seats (opens_after (opens_from [] front) entry)) (sym next) (entry_alike old (opens_from [] front) entry g.alike));
      told = λ n.
          noted n ∙ ap (λ l. l ++ place_if (is_number n (answered_number old entry)) place) (g.told n)
          ∙ ap (λ l. map (λ x. x.place) (told_of front n) ++ l) (sym (same_place n place old (opens_from [] front) entry g.alike))
          ∙ ap (λ k. map (λ x. x.place) (told_of front n) ++ placed_of (told_by n k (opens_from [] front) entry)) (sym (length_take entries place low))
          ∙ sym (mapped (told_of front n) (told_by n (length front) (opens_from [] front) entry))
          ∙ sym (ap (map (λ x. x.place)) (told_push front entry n))
          ∙ ap (λ es. map (λ x. x.place) (told_of es n)) (sym more);
    }

pub gathered_all : (entries : List Entry) (place : ℕ) (d : Desk) (parts : BTreeMap ℕ (List ℕ)) → Gathered entries place d parts → take place entries ≡ entries → (n : ℕ) → places_at parts n ≡ map (λ x. x.place) (told_of entries n)
gathered_all entries place d parts g all n = g.told n ∙ ap (λ es. map (λ x. x.place) (told_of es n)) all

-- ---- each answered operation is that of the entry at its place

at_length : (front rest : List Entry) (entry : Entry) → slice_get (front ++ entry ∷ rest) (length front) ≡ Some entry
at_length [] rest entry = refl
at_length (x ∷ front) rest entry = at_length front rest entry

told_is : (history : List Entry) (n place : ℕ) (opens : List Open) (entry : Entry) (x : Told) → slice_get history place ≡ Some entry → told_by n place opens entry ≡ Some x → IsToldIn history x
told_is history n place opens entry x here is = by (session_of entry.line) is where
  by_answer : (b : Bool) (e : Effect) (op : Option Op) → operation_of entry.line ≡ op → told_if b place (answer_by e op entry.reply) ≡ Some x → IsToldIn history x
  by_answer true Answers (Some op) asks e =
      let same : ◌≡◌ {A = Told} (record { place = place; answered = record { op = op; reply = entry.reply } }) x = cc in
      subst (IsToldIn history) same (record { entry = entry; here = here; asks = asks; answers = refl })
  by_answer false Answers (Some op) asks e = cc
  by_answer true Answers None asks e = cc
  by_answer false Answers None asks e = cc
  by_answer true (Begins m) op asks e = cc
  by_answer false (Begins m) op asks e = cc
  by_answer true Commits op asks e = cc
  by_answer false Commits op asks e = cc
  by_answer true Ends op asks e = cc
  by_answer false Ends op asks e = cc
  by_answer true Leaves op asks e = cc
  by_answer false Leaves op asks e = cc

  by : (s : Option ℕ) → told_in n place s opens entry ≡ Some x → IsToldIn history x
  by None e = cc
  by (Some session) e = by_answer (has_number n (find (is_session session) opens)) (effect_of entry.reply) (operation_of entry.line) refl e

told_all : (history front rest : List Entry) (n : ℕ) (opens : List Open) → front ++ rest ≡ history → AllByRecursion (IsToldIn history) (told_from n (length front) opens rest)
unfolding told_from
told_all history front [] n opens is = tt
told_all history front (entry ∷ rest) n opens is = joined (told_by n (length front) opens entry) refl
    (subst (λ k. AllByRecursion (IsToldIn history) (told_from n k (opens_after opens entry) rest)) (longer front) (told_all history (front ++ entry ∷ []) rest n (opens_after opens entry) (append_assoc front (entry ∷ []) rest ∙ is)))
  where
    longer : (xs : List Entry) → length (xs ++ entry ∷ []) ≡ length xs + 1
    longer [] = refl
    longer (y ∷ xs) = let rest = longer xs in omega (arith, rest)

    joined : (o : Option Told) → told_by n (length front) opens entry ≡ o → AllByRecursion (IsToldIn history) (told_from n (length front + 1) (opens_after opens entry) rest)
        → AllByRecursion (IsToldIn history) (cons_option o (told_from n (length front + 1) (opens_after opens entry) rest))
    joined None e all = all
    joined (Some x) e all = (told_is history n (length front) opens entry x (subst (λ h. slice_get h (length front) ≡ Some entry) is (at_length front rest entry)) e, all)

pub told_stand : (history : List Entry) (n : ℕ) → AllByRecursion (IsToldIn history) (told_of history n)
told_stand history n = told_all history [] history n [] refl
