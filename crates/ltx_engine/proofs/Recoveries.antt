-- What a content recovers, by what was found on it, and what an opening leaves.
use Rattle.std.specs.Prelude.{IfSome, slice_get}
use Rattle.std.proofs.Common.{◌≡◌, inl, inr, ⊎_elim, ℕ, ◌<◌, List, [], Option, Some, None, refl, sym, ap, ◌∙◌, subst, append-nil, arith}
use Rattle.ltx_model.specs.States.{Base, IsSound, State, base_of, first_state}
use Rattle.ltx_model.specs.Histories.{state}
use Rattle.ltx_model.specs.Restored.{Restored, IsRestored}
use Rattle.ltx_model.specs.Frames.{Frame}
use Rattle.ltx_model.specs.Contents.{Placed, first_gate, frames_in, epoch_after, IsBlank, IsLog}
use Rattle.ltx_model.specs.Disks.{Crashes}
use Rattle.ltx_model.specs.Recovery.{AreLawfulFrames, recovered, blank_base, IsRecovered}
use Rattle.ltx_log.specs.Images.{IsStill, EachSince}
use Rattle.ltx_model.proofs.OneMore.{state-none, legal-none}
use Rattle.ltx_recover.specs.Frames.{IsBaseOf}
use Rattle.ltx_core.specs.Built.{built}
use Rattle.ltx_core.specs.Views.{CoreView}
use Rattle.ltx_core.specs.Stands as core_stands
use Rattle.ltx_log.specs.Running.{LogState, IsLogTo, IsOpenedAs, OpensTo, EachNow}
use Rattle.ltx_log.proofs.Images.{settled_image}
use Rattle.ltx_log.proofs.Moments.{told_map, since_as}
use Rattle.ltx_engine.specs.Views.{EngineView}
use Rattle.ltx_engine.specs.Stands.{StandsFor, IsWritten}
use Rattle.ltx_engine.specs.Steps.{IsRunning}
use Rattle.ltx_engine.specs.Openings.{Found, base_found, IsFound}
use Rattle.ltx_engine.specs.Images.{RecoversAlike}

-- no disk is blank and a log
byte_once : (a b : ℕ) (o : Option ℕ) → o ≡ Some a → o ≡ Some b → a ≡ b
byte_once a b o is other = let same : Some a ≡ Some b = sym is ∙ other in cc

pub blank_no_log : (bytes : List ℕ) → IsBlank bytes → IsLog bytes → ⊥
blank_no_log bytes blank log = ⊎_elim
    (λ short. omega (arith, short, log.long))
    (λ more. ⊎_elim
    (λ header. let same : 0 ≡ 1 = byte_once 0 1 (slice_get bytes 0) header.1 log.open_gate in omega (arith, same))
    (λ unopened. unopened.shut log.open_gate)
    more)
    blank

blank_gives : (gate : ℕ) → gate ≡ first_gate → recovered [] gate ≡ blank_base
unfolding recovered
blank_gives gate is = ap (λ (g : ℕ). recovered [] g) is

-- what was found on it is what it recovers
pub opened_recovers : (bytes : List ℕ) (frames : List Placed) (gate : ℕ) → AreLawfulFrames 0 [] (frames_in frames) → IsOpenedAs bytes frames gate → IsRecovered bytes (recovered (frames_in frames) gate)
opened_recovers bytes frames gate lawful found = ⊎_elim
    (λ blank. inl (blank.0, ap (λ (ps : List Placed). recovered (frames_in ps) gate) blank.1 ∙ blank_gives gate blank.2))
    (λ log. inr (record { frames = frames; gate = gate; log = log; lawful = lawful; base_is = refl }))
    found

-- an opening leaves what recovers the same
pub opens_alike : (old new : List ℕ) → OpensTo old new → RecoversAlike old new
opens_alike old new opens = λ base gives. ⊎_elim
    (λ same. subst (λ bytes. IsRecovered bytes base) (sym same) gives)
    (λ fresh. ⊎_elim
    (λ blank. subst (IsRecovered new) (sym blank.1) (⊎_elim
    (λ still. inl (still, refl))
    (λ made. inr (record { frames = []; gate = 17; log = made; lawful = tt; base_is = sym (blank_gives 17 refl) }))
    fresh.1))
    (λ log. absurd (blank_no_log old fresh.0 log.log.log))
    gives)
    opens

pub since_alike : (o : Option (List ℕ)) (x y : Option Crashes) → EachSince OpensTo o x y → EachSince RecoversAlike o x y
since_alike o x y since = since_as OpensTo RecoversAlike o x y (by_told o) since where
  by_told : (o : Option (List ℕ)) → IfSome o (λ bytes. (image : List ℕ) → OpensTo bytes image → RecoversAlike bytes image)
  by_told None = tt
  by_told (Some bytes) = λ image opens. opens_alike bytes image opens

-- what recovery gives is a sound base
pub sound_base : (r : Restored) (gate : ℕ) → IsRestored r → IsSound (base_of r gate)
sound_base r gate kept = record { rising = kept.rising; writers = kept.writers; durable = kept.epoch; last = kept.last }

-- what recovery gives is what the frames give
pub base_same : (r : Restored) (fs : List Frame) (gate : ℕ) → IsBaseOf r (recovered fs gate) → base_of r gate ≡ recovered fs gate
unfolding recovered
base_same r fs gate e = λ i. record { rows = e.rows i; durable = e.epoch i; last = e.last i; gate = gate }

gate_given : (fs : List Frame) (gate : ℕ) → (recovered fs gate).gate ≡ gate
unfolding recovered
gate_given fs gate = refl

durable_given : (fs : List Frame) (gate : ℕ) → (recovered fs gate).durable ≡ epoch_after 0 fs
unfolding recovered
durable_given fs gate = refl

-- what an opening found
pub is_found : (r : Restored) (core : CoreView) (frames : List Placed) (gate epoch : ℕ) → IsRestored r → ((g : ℕ) → core_stands.StandsFor core (base_of r g) []) → IsBaseOf r (recovered (frames_in frames) gate)
    → AreLawfulFrames 0 [] (frames_in frames) → epoch ≡ epoch_after 0 (frames_in frames) → gate < 1099511627776 → IsFound (record { core = core; frames = frames; gate = gate; epoch = epoch })
is_found r core frames gate epoch kept stands gives lawful last limit =
    let same : base_of r gate ≡ recovered (frames_in frames) gate = base_same r (frames_in frames) gate gives in
    record {
      sound = subst IsSound same (sound_base r gate kept);
      lawful = lawful;
      stands = subst (λ (b : Base). core_stands.StandsFor core b []) same (stands gate);
      epoch_is = last ∙ sym (durable_given (frames_in frames) gate);
      limit = limit;
    }

-- an engine over it
module _ (f : Found) (log : LogState) (found : IsFound f) (gate : log.gate ≡ f.gate) (last : log.last ≡ f.epoch) (content : IfSome log.content (λ bytes. IsLogTo bytes f.frames f.gate f.epoch)) where
  abbrev base : Base
  base = base_found f

  abbrev engine : EngineView
  engine = record { core = f.core; log = log }

  first_there : state base [] ≡ first_state base
  first_there = state-none (first_state base)

  written : (bytes : List ℕ) → IsLogTo bytes f.frames f.gate f.epoch → IsWritten base [] log.gate log.last bytes
  written bytes of = record {
    frames = f.frames;
    log = subst (λ (g : ℕ). IsLogTo bytes f.frames g log.last) (sym gate) (subst (λ (e : ℕ). IsLogTo bytes f.frames f.gate e) (sym last) of);
    are = record {
      earlier = f.frames;
      later = [];
      parts = sym (append-nil f.frames);
      lawful = found.lawful;
      given = ap (recovered (frames_in f.frames)) (gate_given (frames_in f.frames) f.gate);
      written = refl;
    };
  }

  pub over_stands : StandsFor engine base []
  over_stands = record {
    core = found.stands;
    gate = gate ∙ sym (gate_given (frames_in f.frames) f.gate) ∙ ap (λ (s : State). s.gate) (sym first_there);
    frames = λ runs. told_map (λ bytes. IsLogTo bytes f.frames f.gate f.epoch) (IsWritten base [] log.gate log.last) log.content written content;
  }

  pub over_runs : IsStill log.content log.crashes → IsRunning engine
  over_runs still = record {
    base = base;
    history = [];
    sound = found.sound;
    legal = legal-none built (first_state base);
    stands = over_stands;
    last = last ∙ found.epoch_is ∙ ap (λ (s : State). s.durable) (sym first_there);
    still = λ runs. still;
  }

  -- each image recovers what was found
  pub over_images : IsStill log.content log.crashes → EachNow (λ bytes image. IsRecovered image base) log.content log.crashes
  over_images still = by_told log.content log.crashes content still where
    by_told : (o : Option (List ℕ)) (x : Option Crashes) → IfSome o (λ bytes. IsLogTo bytes f.frames f.gate f.epoch) → IsStill o x → EachNow (λ bytes image. IsRecovered image base) o x
    by_told None x of still = tt
    by_told (Some bytes) None of still = tt
    by_told (Some bytes) (Some told) of still = λ image left.
        subst (λ (b : List ℕ). IsRecovered b base) (sym (settled_image bytes image told.now still left)) (opened_recovers bytes f.frames f.gate found.lawful (inr of.log))
