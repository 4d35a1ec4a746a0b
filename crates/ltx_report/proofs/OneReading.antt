-- What is found on a disk is fixed by its content: the frames to the place where reading ends, and what they give.
use Rattle.std.proofs.Common.{◌≡◌, ◌≢◌, ℕ, ◌+◌, Bool, true, false, List, [], ◌∷◌, ◌++◌, length, Some, None, refl, sym, ap, ◌∙◌, subst, arith, append-nil}
use Rattle.std.specs.Prelude.{IsSomeAnd}
use Rattle.ltx_model.specs.Frames.{LogEvent, Frame}
use Rattle.ltx_model.specs.Logs.{events_in}
use Rattle.ltx_model.specs.Contents.{Placed, frames_in, epoch_after, next_gate, IsClosedAt, StandsAt, LeadsTo, IsLogOf, IsFaultyAt}
use Rattle.ltx_model.specs.Played.{Played, after_event, after_events}
use Rattle.ltx_model.specs.Recovery.{AreLawfulMoves, AreLawfulFrames, IsLawfulMove, is_lawful_move, Unlawful, unlawful_in, unlawful_from, first_unlawful, IsFirstUnlawful}
use Rattle.ltx_recover.proofs.Unlawful.{lawful_from, lawful_tested, after_join, frame_passes, frame_fails, unlawful_is}
use Rattle.ltx_log.proofs.OneLog.{frame_once}

-- ---- reading

-- no frame stands where these lead
abbrev IsLast : List ℕ → ℕ → List Placed → ℕ → Type 0
IsLast bytes before ps gate = (f : Frame) → StandsAt bytes gate (epoch_after before (frames_in ps)) f → ⊥

closed_is_last : (bytes : List ℕ) (before : ℕ) (ps : List Placed) (gate : ℕ) → IsClosedAt bytes gate → IsLast bytes before ps gate
closed_is_last bytes before ps gate closed = λ f s. let other : 1 ≢ 1 = subst (λ o. IsSomeAnd o (λ byte. byte ≢ 1)) s.open_gate closed in other refl

walk_once : (bytes : List ℕ) (ps qs : List Placed) (place before gate other : ℕ) → LeadsTo bytes place before ps gate → LeadsTo bytes place before qs other
    → IsLast bytes before ps gate → IsLast bytes before qs other → (ps ≡ qs) × (gate ≡ other)
walk_once bytes [] [] place before gate other first second last end = (refl, first ∙ sym second)
walk_once bytes [] (q ∷ qs) place before gate other first second last end = absurd (last q.frame (subst (λ (k : ℕ). StandsAt bytes k before q.frame) (sym first) second.1))
walk_once bytes (p ∷ ps) [] place before gate other first second last end = absurd (end p.frame (subst (λ (k : ℕ). StandsAt bytes k before p.frame) (sym second) first.1))
walk_once bytes (p ∷ ps) (q ∷ qs) place before gate other first second last end =
    let same : p.frame ≡ q.frame = frame_once bytes place before p.frame q.frame first.1 second.1 in
    let at : p.at ≡ q.at = first.0 ∙ sym second.0 in
    let rest = walk_once bytes ps qs (next_gate place q.frame) q.frame.epoch gate other (subst (λ (f : Frame). LeadsTo bytes (next_gate place f) f.epoch ps gate) same first.2) second.2
    (subst (λ (f : Frame). IsLast bytes f.epoch ps gate) same last) end in
    ((λ i. record { at = at i; frame = same i } ∷ rest.0 i), rest.1)

pub no_fault : (bytes : List ℕ) (ps : List Placed) (gate at : ℕ) → IsLogOf bytes ps gate → IsFaultyAt bytes at → ⊥
no_fault bytes ps gate at log faulty =
    let same = walk_once bytes ps faulty.frames 17 0 gate at log.frames_are faulty.frames_are (closed_is_last bytes 0 ps gate log.closed) faulty.none in
    let closed : IsClosedAt bytes at = subst (IsClosedAt bytes) same.1 log.closed in
    let other : 1 ≢ 1 = subst (λ o. IsSomeAnd o (λ byte. byte ≢ 1)) faulty.open_gate closed in
    other refl

pub fault_once : (bytes : List ℕ) (at other : ℕ) → IsFaultyAt bytes at → IsFaultyAt bytes other → at ≡ other
fault_once bytes at other first second = (walk_once bytes first.frames second.frames 17 0 at other first.frames_are second.frames_are first.none second.none).1

-- ---- events

moves_pass : (before : ℕ) (ps : List Played) (k : ℕ) (es rest : List LogEvent) → AreLawfulMoves before ps es → unlawful_in before ps k (es ++ rest) ≡ unlawful_in before (after_events ps es) (k + length es) rest
moves_pass before ps k [] rest lawful = let same : k ≡ k + 0 = omega arith in ap (λ (n : ℕ). unlawful_in before ps n rest) same
moves_pass before ps k (e ∷ es) rest lawful =
    let count : k + 1 + length es ≡ k + length (e ∷ es) = omega arith in
    let later : unlawful_in before (after_event ps e) (k + 1) (es ++ rest) ≡ unlawful_in before (after_events ps (e ∷ es)) (k + length (e ∷ es)) rest = moves_pass before (after_event ps e) (k + 1) es rest lawful.1 ∙ ap (λ (n : ℕ). unlawful_in before (after_events ps (e ∷ es)) n rest) count in
    rw (lawful_tested before ps e lawful.0) later

frame_none : (before : ℕ) (ps : List Played) (es : List LogEvent) → AreLawfulMoves before ps es → unlawful_in before ps 0 es ≡ None
frame_none before ps es lawful = ap (unlawful_in before ps 0) (sym (append-nil es)) ∙ moves_pass before ps 0 es [] lawful

frames_pass : (before : ℕ) (ps : List Played) (fs rest : List Placed) → AreLawfulFrames before ps (frames_in fs)
    → unlawful_from before ps (fs ++ rest) ≡ unlawful_from (epoch_after before (frames_in fs)) (after_events ps (events_in (frames_in fs))) rest
frames_pass before ps [] rest lawful = refl
frames_pass before ps (f ∷ fs) rest lawful =
    frame_passes before ps (after_events ps f.frame.events) f (fs ++ rest) (frame_none before ps f.frame.events lawful.0) refl
    ∙ frames_pass f.frame.epoch (after_events ps f.frame.events) fs rest lawful.1
    ∙ ap (λ (l : List Played). unlawful_from (epoch_after f.frame.epoch (frames_in fs)) l rest) (sym (after_join ps f.frame.events (events_in (frames_in fs))))

fails_here : (before : ℕ) (ps : List Played) (k : ℕ) (e : LogEvent) (es : List LogEvent) → (IsLawfulMove before ps e → ⊥) → unlawful_in before ps k (e ∷ es) ≡ Some k
fails_here before ps k e es unlawful = by_test (is_lawful_move before ps e) refl where
  by_test : (b : Bool) → is_lawful_move before ps e ≡ b → unlawful_in before ps k (e ∷ es) ≡ Some k
  by_test true is = absurd (unlawful (lawful_from before ps e is))
  by_test false is = rw is refl

first_is : (fs : List Placed) (u : Unlawful) → IsFirstUnlawful fs u → first_unlawful fs ≡ Some u
first_is fs u first =
    let before = epoch_after 0 (frames_in first.front) in
    let played = after_events [] (events_in (frames_in first.front)) in
    let number : 0 + length first.earlier ≡ u.event = omega (arith, first.number) in
    let in_frame : unlawful_in before played 0 first.placed.frame.events ≡ Some u.event =
    ap (unlawful_in before played 0) first.events
    ∙ moves_pass before played 0 first.earlier (first.event ∷ first.later) first.earlier_lawful
    ∙ fails_here before (after_events played first.earlier) (0 + length first.earlier) first.event first.later first.unlawful
    ∙ ap Some number in
    unlawful_is fs ∙ ap (unlawful_from 0 []) first.parts ∙ frames_pass 0 [] first.front (first.placed ∷ first.back) first.front_lawful
    ∙ frame_fails before played first.placed first.back u.event in_frame
    ∙ ap (λ (n : ℕ). Some (record { at = n; event = u.event })) first.at

none_is : (fs : List Placed) → AreLawfulFrames 0 [] (frames_in fs) → first_unlawful fs ≡ None
none_is fs lawful = unlawful_is fs ∙ ap (unlawful_from 0 []) (sym (append-nil fs)) ∙ frames_pass 0 [] fs [] lawful

pub unlawful_once : (fs : List Placed) (u v : Unlawful) → IsFirstUnlawful fs u → IsFirstUnlawful fs v → u ≡ v
unlawful_once fs u v first second = let same : Some u ≡ Some v = sym (first_is fs u first) ∙ first_is fs v second in cc

pub no_unlawful : (fs : List Placed) (u : Unlawful) → AreLawfulFrames 0 [] (frames_in fs) → IsFirstUnlawful fs u → ⊥
no_unlawful fs u lawful first = let no : None ≡ Some u = sym (none_is fs lawful) ∙ first_is fs u first in absurd cc
