-- A text has one verdict.
use Rattle.std.proofs.Common.{◌≡◌, ℕ, true, false, List, [], ◌∷◌, ◌++◌, length, Result, Ok, Err, IfOk, refl, sym, ap, subst, ◌∙◌, arith}
use Rattle.ltx_model.specs.declared.replies.Entry.{Entry}
use Rattle.ltx_check.specs.declared.verdict.Fault.TheVariants as faults
use Rattle.ltx_check.specs.declared.verdict.Verdict.{Verdict}
use Rattle.ltx_check.specs.declared.verdict.Verdict.TheVariants as verdicts
use Rattle.ltx_check.specs.Opens.{Desk, first_desk, desk_after, desk_from, is_open_fault, AreWellPlaced, IsWellPlaced, IsOpenFault}
use Rattle.ltx_model.specs.Recovery.{blank_base}
use Rattle.ltx_model.specs.Explained.{IsExplained}
use Rattle.ltx_check.specs.Replays.{IsReplayFault}
use Rattle.ltx_check.specs.Marks.{KeepsPlaces, IsMarksFault, in_order, commits_of}
use Rattle.ltx_check.specs.Checked.{IsChecked}
use Rattle.ltx_check.specs.Verdicts.{IsMisordered, IsRepliedOtherwise, IsMisplacedCommit, IsVerdict}
use Rattle.ltx_check.proofs.Standing.{apart_no_against}
use Rattle.ltx_check.proofs.Explaining.{explained_has, explained_plays, run_no_differs}
use Rattle.ltx_check.specs.Lines.{Says}
use Rattle.ltx_check.specs.Orders.{HasCommitted}
use Rattle.ltx_check.proofs.Unique.{says_one, says_order, says_no_fault, one_text_fault}

not_placed : (d : Desk) (before : List Entry) (entry : Entry) (after : List Entry) → AreWellPlaced d (before ++ entry ∷ after) → is_open_fault (desk_from d before) entry ≡ true → ⊥
unfolding desk_from AreWellPlaced
not_placed d [] entry after placed fault = let e : true ≡ false = sym fault ∙ placed.0 in cc
not_placed d (x ∷ before) entry after placed fault = not_placed (desk_after d x) before entry after placed.1 fault

-- two first faults stand in one place
first_placed : (d : Desk) (a b : List Entry) (x y : Entry) (more others : List Entry) → a ++ x ∷ more ≡ b ++ y ∷ others → AreWellPlaced d a → AreWellPlaced d b
    → is_open_fault (desk_from d a) x ≡ true → is_open_fault (desk_from d b) y ≡ true → length a ≡ length b
unfolding desk_from AreWellPlaced
first_placed d [] [] x y more others is placed placed' fault fault' = refl
first_placed d [] (z ∷ b) x y more others is placed placed' fault fault' =
    let heads : x ≡ z = cc in
    let e : true ≡ false = sym fault ∙ ap (is_open_fault d) heads ∙ placed'.0 in cc
first_placed d (z ∷ a) [] x y more others is placed placed' fault fault' =
    let heads : z ≡ y = cc in
    let e : true ≡ false = sym fault' ∙ ap (is_open_fault d) (sym heads) ∙ placed.0 in cc
first_placed d (w ∷ a) (z ∷ b) x y more others is placed placed' fault fault' =
    let heads : w ≡ z = cc in
    let tails : a ++ x ∷ more ≡ b ++ y ∷ others = cc in
    let same : length a ≡ length b
    = first_placed (desk_after d w) a b x y more others tails placed.1 (subst (λ e. AreWellPlaced (desk_after d e) b) (sym heads) placed'.1) fault (ap (λ e. is_open_fault (desk_from (desk_after d e) b) y) heads ∙ fault') in
    omega (arith, same)

placed_no_fault : (history other : List Entry) (n : ℕ) → history ≡ other → IsWellPlaced history → IsOpenFault other n → ⊥
placed_no_fault history other n same placed f =
    not_placed first_desk f.before f.entry f.after (subst (AreWellPlaced first_desk) (same ∙ f.parts) placed) f.fault

one_open_fault : (history other : List Entry) (m n : ℕ) → history ≡ other → IsOpenFault history m → IsOpenFault other n → m ≡ n
one_open_fault history other m n same f g =
    let long : length f.before ≡ length g.before
    = first_placed first_desk f.before g.before f.entry g.entry f.after g.after (sym f.parts ∙ same ∙ g.parts) f.placed g.placed f.fault g.fault in
    omega (arith, f.counted, g.counted, long)

-- a text that says a history whose entries may stand where they do, and an order that explains it
record Explained (text : List ℕ) : Type 0 where
  history : List Entry
  order : List ℕ
  durable : ℕ
  says : Says text history order durable
  placed : IsWellPlaced history
  explained : IsExplained blank_base history order

checked : (text : List ℕ) → IsChecked text → Explained text
checked text f = record { history = f.history; order = f.order; durable = f.durable; says = f.says; placed = f.placed; explained = f.explained }

marked : (text : List ℕ) (n : ℕ) → IsMisplacedCommit text n → Explained text
marked text n f = record { history = f.history; order = f.order; durable = f.durable; says = f.says; placed = f.placed; explained = f.explained }

ordered_no_fault : (text : List ℕ) → Explained text → (n : ℕ) → IsMisordered text n → ⊥
ordered_no_fault text f n g =
    let same = says_one text f.history g.history f.order g.order f.durable g.durable f.says g.says in
    let orders = says_order text f.history g.history f.order g.order f.durable g.durable f.says g.says in
    g.others (subst (λ o. HasCommitted g.history o) orders (subst (λ h. HasCommitted h f.order) same (explained_has f.history f.order f.explained)))

one_misordered : (text : List ℕ) (m n : ℕ) → IsMisordered text m → IsMisordered text n → m ≡ n
one_misordered text m n f g =
    let long : length f.history ≡ length g.history = ap length (says_one text f.history g.history f.order g.order f.durable g.durable f.says g.says) in
    omega (arith, f.counted, g.counted, long)

explained_no_other : (text : List ℕ) → Explained text → (n : ℕ) → IsRepliedOtherwise text n → ⊥
explained_no_other text f n g =
    let same = says_one text f.history g.history f.order g.order f.durable g.durable f.says g.says in
    let orders = says_order text f.history g.history f.order g.order f.durable g.durable f.says g.says in
    let explained : IsExplained blank_base g.history g.order = subst (IsExplained blank_base g.history) orders (subst (λ h. IsExplained blank_base h f.order) same f.explained) in
    run_no_differs g.history [] g.order g.fault.place (explained_plays g.history g.order g.placed explained) g.fault.differs

members_no_fault : (text : List ℕ) (m n : ℕ) → IsRepliedOtherwise text m → IsMisordered text n → ⊥
members_no_fault text m n f g =
    let same = says_one text f.history g.history f.order g.order f.durable g.durable f.says g.says in
    let orders = says_order text f.history g.history f.order g.order f.durable g.durable f.says g.says in
    g.others (subst (λ o. HasCommitted g.history o) orders (subst (λ h. HasCommitted h f.order) same f.members))

one_fault : (history : List Entry) (order : List ℕ) (m n : ℕ) → IsReplayFault history order m → IsReplayFault history order n → m ≡ n
one_fault history order m n f g =
    let low = f.first g.place g.differs in
    let high = g.first f.place f.differs in
    omega (arith, low, high, f.counted, g.counted)

one_other : (text : List ℕ) (m n : ℕ) → IsRepliedOtherwise text m → IsRepliedOtherwise text n → m ≡ n
one_other text m n f g =
    let same = says_one text f.history g.history f.order g.order f.durable g.durable f.says g.says in
    let orders = says_order text f.history g.history f.order g.order f.durable g.durable f.says g.says in
    one_fault g.history g.order m n (subst (λ o. IsReplayFault g.history o m) orders (subst (λ h. IsReplayFault h f.order m) same f.fault)) g.fault

checked_no_marks : (text : List ℕ) → IsChecked text → (n : ℕ) → IsMisplacedCommit text n → ⊥
checked_no_marks text f n g =
    let same = says_one text f.history g.history f.order g.order f.durable g.durable f.says g.says in
    let orders = says_order text f.history g.history f.order g.order f.durable g.durable f.says g.says in
    let places : KeepsPlaces g.history g.order = subst (KeepsPlaces g.history) orders (subst (λ h. KeepsPlaces h f.order) same f.places) in
    apart_no_against (in_order (commits_of g.history) g.order) places g.fault.place g.fault.against

one_place : (history : List Entry) (order : List ℕ) (m n : ℕ) → IsMarksFault history order m → IsMarksFault history order n → m ≡ n
one_place history order m n f g =
    let low = f.first g.place g.against in
    let high = g.first f.place f.against in
    omega (arith, low, high, f.counted, g.counted)

one_marks : (text : List ℕ) (m n : ℕ) → IsMisplacedCommit text m → IsMisplacedCommit text n → m ≡ n
one_marks text m n f g =
    let same = says_one text f.history g.history f.order g.order f.durable g.durable f.says g.says in
    let orders = says_order text f.history g.history f.order g.order f.durable g.durable f.says g.says in
    one_place g.history g.order m n (subst (λ o. IsMarksFault g.history o m) orders (subst (λ h. IsMarksFault h f.order m) same f.fault)) g.fault

pub one_verdict : (text : List ℕ) (a b : Verdict) → IsVerdict text a → IsVerdict text b → a ≡ b
one_verdict text verdicts.Yes verdicts.Yes f g = refl
one_verdict text verdicts.Yes (verdicts.No n faults.Text) f g = absurd (says_no_fault text f.history f.order f.durable n f.says g)
one_verdict text verdicts.Yes (verdicts.No n faults.Open) f g =
    absurd (placed_no_fault f.history g.history n (says_one text f.history g.history f.order g.order f.durable g.durable f.says g.says) f.placed g.fault)
one_verdict text verdicts.Yes (verdicts.No n faults.Order) f g = absurd (ordered_no_fault text (checked text f) n g)
one_verdict text (verdicts.No m faults.Text) verdicts.Yes f g = absurd (says_no_fault text g.history g.order g.durable m g.says f)
one_verdict text (verdicts.No m faults.Text) (verdicts.No n faults.Text) f g = ap (λ k. verdicts.No k faults.Text) (one_text_fault text m n f g)
one_verdict text (verdicts.No m faults.Text) (verdicts.No n faults.Open) f g = absurd (says_no_fault text g.history g.order g.durable m g.says f)
one_verdict text (verdicts.No m faults.Text) (verdicts.No n faults.Order) f g = absurd (says_no_fault text g.history g.order g.durable m g.says f)
one_verdict text (verdicts.No m faults.Open) verdicts.Yes f g =
    absurd (placed_no_fault g.history f.history m (says_one text g.history f.history g.order f.order g.durable f.durable g.says f.says) g.placed f.fault)
one_verdict text (verdicts.No m faults.Open) (verdicts.No n faults.Text) f g = absurd (says_no_fault text f.history f.order f.durable n f.says g)
one_verdict text (verdicts.No m faults.Open) (verdicts.No n faults.Open) f g =
    ap (λ k. verdicts.No k faults.Open) (one_open_fault f.history g.history m n (says_one text f.history g.history f.order g.order f.durable g.durable f.says g.says) f.fault g.fault)
one_verdict text (verdicts.No m faults.Open) (verdicts.No n faults.Order) f g =
    absurd (placed_no_fault g.history f.history m (says_one text g.history f.history g.order f.order g.durable f.durable g.says f.says) g.placed f.fault)
one_verdict text (verdicts.No m faults.Order) verdicts.Yes f g = absurd (ordered_no_fault text (checked text g) m f)
one_verdict text (verdicts.No m faults.Order) (verdicts.No n faults.Text) f g = absurd (says_no_fault text f.history f.order f.durable n f.says g)
one_verdict text (verdicts.No m faults.Order) (verdicts.No n faults.Open) f g =
    absurd (placed_no_fault f.history g.history n (says_one text f.history g.history f.order g.order f.durable g.durable f.says g.says) f.placed g.fault)
one_verdict text (verdicts.No m faults.Order) (verdicts.No n faults.Order) f g = ap (λ k. verdicts.No k faults.Order) (one_misordered text m n f g)
one_verdict text verdicts.Yes (verdicts.No n faults.Replay) f g = absurd (explained_no_other text (checked text f) n g)
one_verdict text (verdicts.No m faults.Replay) verdicts.Yes f g = absurd (explained_no_other text (checked text g) m f)
one_verdict text (verdicts.No m faults.Replay) (verdicts.No n faults.Text) f g = absurd (says_no_fault text f.history f.order f.durable n f.says g)
one_verdict text (verdicts.No m faults.Replay) (verdicts.No n faults.Open) f g =
    absurd (placed_no_fault f.history g.history n (says_one text f.history g.history f.order g.order f.durable g.durable f.says g.says) f.placed g.fault)
one_verdict text (verdicts.No m faults.Replay) (verdicts.No n faults.Order) f g = absurd (members_no_fault text m n f g)
one_verdict text (verdicts.No m faults.Replay) (verdicts.No n faults.Replay) f g = ap (λ k. verdicts.No k faults.Replay) (one_other text m n f g)
one_verdict text (verdicts.No m faults.Text) (verdicts.No n faults.Replay) f g = absurd (says_no_fault text g.history g.order g.durable m g.says f)
one_verdict text (verdicts.No m faults.Open) (verdicts.No n faults.Replay) f g =
    absurd (placed_no_fault g.history f.history m (says_one text g.history f.history g.order f.order g.durable f.durable g.says f.says) g.placed f.fault)
one_verdict text (verdicts.No m faults.Order) (verdicts.No n faults.Replay) f g = absurd (members_no_fault text n m g f)
one_verdict text verdicts.Yes (verdicts.No n faults.Marks) f g = absurd (checked_no_marks text f n g)
one_verdict text (verdicts.No m faults.Marks) verdicts.Yes f g = absurd (checked_no_marks text g m f)
one_verdict text (verdicts.No m faults.Text) (verdicts.No n faults.Marks) f g = absurd (says_no_fault text g.history g.order g.durable m g.says f)
one_verdict text (verdicts.No m faults.Marks) (verdicts.No n faults.Text) f g = absurd (says_no_fault text f.history f.order f.durable n f.says g)
one_verdict text (verdicts.No m faults.Open) (verdicts.No n faults.Marks) f g =
    absurd (placed_no_fault g.history f.history m (says_one text g.history f.history g.order f.order g.durable f.durable g.says f.says) g.placed f.fault)
one_verdict text (verdicts.No m faults.Marks) (verdicts.No n faults.Open) f g =
    absurd (placed_no_fault f.history g.history n (says_one text f.history g.history f.order g.order f.durable g.durable f.says g.says) f.placed g.fault)
one_verdict text (verdicts.No m faults.Order) (verdicts.No n faults.Marks) f g = absurd (ordered_no_fault text (marked text n g) m f)
one_verdict text (verdicts.No m faults.Marks) (verdicts.No n faults.Order) f g = absurd (ordered_no_fault text (marked text m f) n g)
one_verdict text (verdicts.No m faults.Replay) (verdicts.No n faults.Marks) f g = absurd (explained_no_other text (marked text n g) m f)
one_verdict text (verdicts.No m faults.Marks) (verdicts.No n faults.Replay) f g = absurd (explained_no_other text (marked text m f) n g)
one_verdict text (verdicts.No m faults.Marks) (verdicts.No n faults.Marks) f g = ap (λ k. verdicts.No k faults.Marks) (one_marks text m n f g)

-- so a verdict that holds of a text is the one
pub only_verdict : {E : Type 0} (text : List ℕ) (r : Result Verdict E) → IfOk r (λ verdict. IsVerdict text verdict) → IfOk r (λ verdict. (other : Verdict) → IsVerdict text other → other ≡ verdict)
only_verdict text (Ok verdict) holds = λ other is. one_verdict text other verdict is holds
only_verdict text (Err fault) holds = tt
