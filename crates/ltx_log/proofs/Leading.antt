-- Frames that lead from gate to gate, with one more at their end.
use Rattle.std.proofs.Common.{◌≡◌, ℕ, List, [], ◌∷◌, ◌++◌, refl, ap, ◌∙◌, sym, subst, Option, Some, None}
use Rattle.std.specs.Prelude.{IfSome, true, false}
use Rattle.ltx_model.specs.Frames.{Frame}
use Rattle.ltx_model.specs.Contents.{Placed, frames_in, next_gate, epoch_after, IsLog, IsOpenAt, StandsAt, LeadsTo, IsLogOf, IsFaultyAt}
use Rattle.ltx_log.specs.declared.head.Head.{Head}
use Rattle.ltx_log.specs.Readings.{IsGateAt, IsHead}

pub leads_on : (bytes : List ℕ) (ps : List Placed) (place before gate : ℕ) (p : Placed) → LeadsTo bytes place before ps gate → p.at ≡ gate → StandsAt bytes gate (epoch_after before (frames_in ps)) p.frame
    → LeadsTo bytes place before (ps ++ p ∷ []) (next_gate gate p.frame)
leads_on bytes [] place before gate p leads at stands = (at ∙ leads, subst (λ (k : ℕ). StandsAt bytes k before p.frame) leads stands, ap (λ (k : ℕ). next_gate k p.frame) leads)
leads_on bytes (q ∷ qs) place before gate p leads at stands = (leads.0, leads.1, leads_on bytes qs (next_gate place q.frame) q.frame.epoch gate p leads.2 at stands)

pub epoch_on : (ps : List Placed) (before : ℕ) (p : Placed) → epoch_after before (frames_in (ps ++ p ∷ [])) ≡ p.frame.epoch
epoch_on [] before p = refl
epoch_on (q ∷ qs) before p = epoch_on qs q.frame.epoch p

-- where a reading stands: the frames so far lead to a gate, and the last one has this epoch
pub record IsCourse (content : Option (List ℕ)) (ps : List Placed) (gate epoch : ℕ) : Type 0 where
  pub leads : IfSome content (λ bytes. LeadsTo bytes 17 0 ps gate)
  pub epoch_is : epoch ≡ epoch_after 0 (frames_in ps)

no_frames : (content : Option (List ℕ)) (ps : List Placed) (gate : ℕ) → ps ≡ [] → gate ≡ 17 → IfSome content (λ bytes. LeadsTo bytes 17 0 ps gate)
no_frames None ps gate none start = tt
no_frames (Some bytes) ps gate none start = subst (λ qs. LeadsTo bytes 17 0 qs gate) (sym none) start

pub course_starts : (content : Option (List ℕ)) (ps : List Placed) (gate epoch : ℕ) → ps ≡ [] → gate ≡ 17 → epoch ≡ 0 → IsCourse content ps gate epoch
course_starts content ps gate epoch none start first = record {
  leads = no_frames content ps gate none start;
  epoch_is = first ∙ sym (ap (λ qs. epoch_after 0 (frames_in qs)) none);
}

one_more : (content : Option (List ℕ)) (ps : List Placed) (gate epoch : ℕ) (p : Placed) → p.at ≡ gate → IsCourse content ps gate epoch → IfSome content (λ bytes. StandsAt bytes gate epoch p.frame)
    → IfSome content (λ bytes. LeadsTo bytes 17 0 (ps ++ p ∷ []) (next_gate gate p.frame))
one_more None ps gate epoch p at course stands = tt
one_more (Some bytes) ps gate epoch p at course stands = leads_on bytes ps 17 0 gate p course.leads at (subst (λ (e : ℕ). StandsAt bytes gate e p.frame) course.epoch_is stands)

pub course_goes_on : (content : Option (List ℕ)) (ps qs : List Placed) (gate next epoch later : ℕ) (f : Frame) → IsCourse content ps gate epoch
    → IfSome content (λ bytes. StandsAt bytes gate epoch f) → qs ≡ ps ++ record { at = gate; frame = f } ∷ [] → next ≡ next_gate gate f → later ≡ f.epoch → IsCourse content qs next later
course_goes_on content ps qs gate next epoch later f course stands more to last =
    let p : Placed = record { at = gate; frame = f } in
    record {
      leads = subst (λ rs. IfSome content (λ bytes. LeadsTo bytes 17 0 rs next)) (sym more)
          (subst (λ (k : ℕ). IfSome content (λ bytes. LeadsTo bytes 17 0 (ps ++ p ∷ []) k)) (sym to) (one_more content ps gate epoch p refl course stands));
      epoch_is = last ∙ sym (epoch_on ps 0 p) ∙ sym (ap (λ rs. epoch_after 0 (frames_in rs)) more);
    }

-- the reading ends at a closed gate
pub course_ends : (content : Option (List ℕ)) (ps : List Placed) (gate epoch : ℕ) (head : Head) → IfSome content IsLog → IsCourse content ps gate epoch
    → head.is_open ≡ false → IfSome content (λ bytes. IsHead bytes gate head) → IfSome content (λ bytes. IsLogOf bytes ps gate)
course_ends None ps gate epoch head log course shut here = tt
course_ends (Some bytes) ps gate epoch head log course shut here = record { log = log; frames_are = course.leads; closed = subst (λ b. IsGateAt b bytes gate) shut here.gate_is }

-- or at an open one over no frame
pub course_fails : (content : Option (List ℕ)) (ps : List Placed) (gate epoch : ℕ) → IfSome content IsLog → IsCourse content ps gate epoch
    → IfSome content (λ bytes. IsOpenAt bytes gate) → IfSome content (λ bytes. (f : Frame) → StandsAt bytes gate epoch f → ⊥) → IfSome content (λ bytes. IsFaultyAt bytes gate)
course_fails None ps gate epoch log course opens none = tt
course_fails (Some bytes) ps gate epoch log course opens none = record {
  log = log;
  frames = ps;
  frames_are = course.leads;
  open_gate = opens;
  none = λ f stands. none f (subst (λ (e : ℕ). StandsAt bytes gate e f) (sym course.epoch_is) stands);
}

pub opens : (content : Option (List ℕ)) (gate : ℕ) (head : Head) → head.is_open ≡ true → IfSome content (λ bytes. IsHead bytes gate head) → IfSome content (λ bytes. IsOpenAt bytes gate)
opens None gate head is here = tt
opens (Some bytes) gate head is here = subst (λ b. IsGateAt b bytes gate) is here.gate_is
