-- Texts of recovered logs that are known, computed by the checker.
use Rattle.std.proofs.Common.{◌≡◌, ℕ, List, [], ◌∷◌, ◌++◌, refl, codes, Some}
use Rattle.std.specs.Fmt.{digits}
use Rattle.ltx_model.specs.declared.writes.Write.{Write}
use Rattle.ltx_model.specs.Frames.{ShortEvent, BatchEvent}
use Rattle.ltx_model.specs.Recovery.{recovered, blank_base, first_unlawful}
use Rattle.ltx_text.specs.Words.{byte_spelling}
use Rattle.ltx_reply.specs.Recoveries.{recovery_text, faulty_text, unlawful_text, foreign_text}

two_frames_text : recovery_text (recovered (
    record { epoch = 1; events = ShortEvent 1 1 (record { table = 0; key = 120 ∷ []; put = Some (97 ∷ []) } ∷ []) ∷ [] } ∷
    record { epoch = 2; events = ShortEvent 2 2 (record { table = 0; key = 120 ∷ []; put = Some (98 ∷ []) } ∷ []) ∷ [] } ∷ []) 107)
    ≡ codes "row 0 x b by 2" ++ 10 ∷ codes "through 2 last 2" ++ 10 ∷ []
unfolding recovery_text recovered byte_spelling digits
two_frames_text = refl

blank_text : recovery_text blank_base ≡ codes "through 0 last 0" ++ 10 ∷ []
unfolding recovery_text digits
blank_text = refl

unlawful_line : unlawful_text (record { at = 17; event = 0 }) ≡ codes "damaged 17 event 0" ++ 10 ∷ []
unfolding digits
unlawful_line = refl

faulty_line : faulty_text 17 ≡ codes "damaged 17" ++ 10 ∷ []
unfolding digits
faulty_line = refl

foreign_line : foreign_text ≡ codes "notalog" ++ 10 ∷ []
foreign_line = refl
