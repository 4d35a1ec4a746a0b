-- What a call in a run leaves, by what it returned.
use Rattle.std.proofs.Common.{◌≡◌, ℕ, ◌+◌, ◌<◌, ◌≤◌, Bool, true, false, nat_le, ◌||◌, List, [], ◌∷◌, ◌++◌, length, take, drop, Option, Some, None, Result, Ok, Err, IfOk, IfErr, OnOk, OnErr, IsErrOf, refl, sym, ap, ◌∙◌, subst, arith, inl, inr}
use Rattle.std.proofs.lemmas.Bool.{cases_lt, leb-false}
use Rattle.std.proofs.lemmas.List.{append-nil, length-drop, length-map}
use Rattle.std.specs.Io.KnownBytes.{Appends, IsAtEnd}
use Rattle.ltx_model.specs.declared.commands.Line.{Line}
use Rattle.ltx_model.specs.declared.replies.Entry.{Entry}
use Rattle.ltx_model.specs.States.{Base, IsSound, order}
use Rattle.ltx_model.specs.Histories.{state}
use Rattle.ltx_outside.specs.Faults.{Rose}
use Rattle.ltx_outside.specs.Reads.{Reads}
use Rattle.ltx_core.specs.Views.{CoreView}
use Rattle.ltx_core.specs.Stands.{StandsFor}
use Rattle.ltx_text.specs.Lines.{LinesState, AsksOf, Cuts, IsFirstFeed, Knows, NoFeedAhead, ends, feeds, fresh, piece_of, to_go}
use Rattle.ltx_text.proofs.LineGiven.{lent_line}
use Rattle.ltx_script.specs.Lines.{line_of}
use Rattle.ltx_script.specs.Causes.{too_long}
use Rattle.ltx_script.proofs.OneCause.{one_cause}
use Rattle.ltx_model.specs.declared.commands.Bad.TheVariants as causes
use Rattle.ltx_text.proofs.LineRuns.{fewer_to_go}
use Rattle.ltx_top.specs.declared.status.Stop.{Stop}
use Rattle.ltx_top.specs.declared.status.Stop.TheVariants as stops
use Rattle.ltx_top.specs.Transcripts.{line_of_piece, entry_text, ending, ending_of}
use Rattle.ltx_top.specs.Runs.{Devices, devices, most_of_script, took, Ran}
use Rattle.ltx_top.specs.Endings.{RoseAt, Stops, failed_reads}
use Rattle.ltx_top.specs.Progress.{Start, Hand, Progress, Halted, Ends, Served}
use Rattle.ltx_text.specs.declared.piece.Piece.{Piece}
use Rattle.ltx_text.specs.declared.piece.Piece.TheVariants as pieces
use Rattle.ltx_text.specs.Pieces.{OnEnd, given}
use Rattle.ltx_top.specs.Spellings.{lines_in}
use Rattle.ltx_top.proofs.Steps.{ReaderStep, ends_most, handed, half_handed, lent_step, taken_line, answered_line, lost_line, halt, source_failed, source_passed, took_past, took_short, progress_within, halted_within, ran, ending_stopped, halted_stopped, halted_stops, started}

not_past : (a b : ℕ) → (a < b → ⊥) → b ≤ a
not_past a b refuted = elim (cases_lt a b) [ inl p ↦ absurd (refuted p) | inr p ↦ p ]

-- ---- a stop that is the sink's

pub way_stops : (stop : Stop) → stop ≡ stops.Sink → (left : Option (List ℕ)) (reads : Option Reads) (before after : Option (List ℕ)) (hand : Hand) (pending : List Line) (text : List ℕ) (n : ℕ) → Appends before after (take n hand.text)
    → (start : Start) → Progress start (devices left reads before) hand pending → Ends stop start (devices left reads after) text
way_stops stop is left reads before after hand pending text n out start p =
    subst (λ (s : Stop). Ends s start (devices left reads after) text) (sym is) (half_handed start left reads before after hand pending n out p)

pub way_rose : (stop : Stop) → stop ≡ stops.Sink → (s k k' : ℕ) → Rose k k' → RoseAt stop s s k k'
way_rose stop is s k k' rose = subst (λ (x : Stop). RoseAt x s s k k') (sym is) (refl, rose)

-- ---- a piece is taken, where no text is in hand any more

module _ (before after : Option (List ℕ)) (reads0 reads1 : Option Reads) (w0 w1 : Option (List ℕ)) (reader next : LinesState) (core : CoreView) (text0 text1 : List ℕ) (malformed : Bool)
    (out : Appends w0 w1 text0) (none : text1 ≡ []) (limit : next.limit ≡ reader.limit)
    (knows : Knows reader before → Knows next after) (quiet : 0 < feeds reader.held → (reads1 ≡ reads0) × (next.taken ≡ reader.taken)) where
  abbrev Begins : Start → Type 0
  Begins start = Progress start (devices before reads0 w0) (record { reader = reader; core = core; text = text0; malformed = malformed }) []

  begins : (start : Start) → Begins start → Progress start (devices before reads0 w1) (record { reader = reader; core = core; text = text1; malformed = malformed }) []
  begins start p = handed start before reads0 w0 w1 reader core text0 text1 text0 malformed [] out (ap (λ (t : List ℕ). text0 ++ t) none ∙ append-nil text0) p

  step_of : (start : Start) → Begins start → (gave : List (Option (List ℕ))) (failed : ℕ) → (Knows reader before → Cuts reader next before after gave) → AsksOf reader next before reads0 reads1 failed
      → ReaderStep before after reads0 reads1 reader next gave failed
  step_of start p gave failed cuts asks = record { cuts = cuts p.knows; knows = knows p.knows; asks = asks; quiet = quiet; limit = limit }

  pub took_on : (r : Result Piece Stop) → AsksOf reader next before reads0 reads1 (failed_reads r) → IfOk r (λ piece. Knows reader before → Cuts reader next before after (given (Ok piece)))
      → (next.limit < next.taken → IsErrOf r stops.TooMuch)
      → IfOk r (λ piece. (start : Start) → Begins start → Progress start (devices after reads1 w1) (record { reader = next; core = core; text = text1; malformed = malformed }) (lines_in piece))
  took_on (Ok piece) asks gave past = λ start p.
      taken_line start before after reads0 reads1 w1 reader next core text1 malformed (given (Ok piece)) (lines_in piece) (step_of start p (given (Ok piece)) 0 gave asks) refl
      (not_past next.limit next.taken (λ over. let e = past over in cc)) (begins start p)
  took_on (Err stop) asks gave past = tt

  pub took_stops : (r : Result Piece Stop) → AsksOf reader next before reads0 reads1 (failed_reads r)
      → (IsErrOf r stops.NoMemory → Knows reader before → Cuts reader next before after [])
      → (IsErrOf r stops.Source → Knows reader before → Cuts reader next before after [])
      → (IsErrOf r stops.Source → (feeds next.held ≡ 0) × (next.ended ≡ false))
      → (IsErrOf r stops.TooMuch → Knows reader before → Cuts reader next before after [])
      → (IsErrOf r stops.TooMuch → next.limit < next.taken)
      → (IsErrOf r stops.TooMuch → reader.taken ≤ reader.limit → (feeds reader.held ≡ 0) × NoFeedAhead reader before)
      → (next.limit < next.taken → IsErrOf r stops.TooMuch) → (IsErrOf r stops.Sink → ⊥)
      → IfErr r (λ stop. (start : Start) → Begins start → Ends stop start (devices after reads1 w1) text1)
  took_stops (Ok piece) asks lost failed unmet passed over below past other = tt
  took_stops (Err stops.NoMemory) asks lost failed unmet passed over below past other = λ start p.
      lost_line start before after reads0 reads1 w1 reader next core text1 malformed [] (step_of start p [] 0 (lost refl) asks) (not_past next.limit next.taken (λ more. let e = past more in cc)) (begins start p)
  took_stops (Err stops.Source) asks lost failed unmet passed over below past other = λ start p.
      let s = step_of start p [] 1 (failed refl) asks in
      let open_still = unmet refl in
      let few : ends next + 1 ≤ 1 = omega (arith, ap (λ (b : Bool). ends (record next { ended = b })) open_still.1) in
      let within : next.taken ≤ next.limit = not_past next.limit next.taken (λ more. let e = past more in cc) in (
        source_failed start before after reads0 reads1 w1 reader next core text1 malformed 1 s few none (begins start p) within open_still.0,
        took_short start before after reads0 reads1 w1 reader next core text1 malformed 1 s few none (begins start p) within,
      )
  took_stops (Err stops.Sink) asks lost failed unmet passed over below past other = absurd (other refl)
  took_stops (Err stops.TooMuch) asks lost failed unmet passed over below past other = λ start p.
      let s = step_of start p [] 0 (passed refl) asks in
      let few : ends next + 0 ≤ 1 = omega (arith, ends_most next) in (
        source_passed start before after reads0 reads1 w1 reader next core text1 malformed 0 s few none (begins start p) (over refl) (below refl),
        took_past start before after reads0 reads1 w1 reader next core text1 malformed 0 s few none (begins start p) (over refl),
      )

-- the end of what was taken is the source's
pub took_ended : (r : Result Piece Stop) (after : Option (List ℕ)) (next : LinesState) → Knows next after → IfOk r (λ piece. OnEnd (Ok piece) ((next.held ≡ []) × (next.ended ≡ true)))
    → IfOk r (λ piece. OnEnd (Ok piece) ((next.held ≡ []) × IsAtEnd after))
took_ended (Err stop) after next knows ended = tt
took_ended (Ok (pieces.Line line)) after next knows ended = tt
took_ended (Ok pieces.TooLong) after next knows ended = tt
took_ended (Ok pieces.End) after next knows ended = (ended.0, knows ended.1)

pub took_calm : {T : Type 0} (r : Result T Stop) (s s' k k' : ℕ) → k' ≡ k → ((IsErrOf r stops.Source → ⊥) → s' ≡ s) → OnOk r ((s' ≡ s) × (k' ≡ k))
took_calm (Ok x) s s' k k' same calm = (calm (λ e. cc), same)
took_calm (Err stop) s s' k k' same calm = tt

pub took_rose : (r : Result Piece Stop) (s s' k k' : ℕ) → k' ≡ k → (IsErrOf r stops.Source → Rose s s') → ((IsErrOf r stops.Source → ⊥) → s' ≡ s) → (IsErrOf r stops.Sink → ⊥) → IfErr r (λ stop. RoseAt stop s s' k k')
took_rose (Ok piece) s s' k k' same rose calm other = tt
took_rose (Err stops.NoMemory) s s' k k' same rose calm other = calm (λ e. cc)
took_rose (Err stops.Source) s s' k k' same rose calm other = (rose refl, same)
took_rose (Err stops.Sink) s s' k k' same rose calm other = absurd (other refl)
took_rose (Err stops.TooMuch) s s' k k' same rose calm other = (calm (λ e. cc), same)

pub took_less : (r : Result Piece Stop) (before after : Option (List ℕ)) (reader next : LinesState) → Knows reader before → IfOk r (λ piece. Knows reader before → Cuts reader next before after (given (Ok piece)))
    → next.taken ≤ next.limit + 1 → next.limit ≡ reader.limit → IfOk r (λ piece. 0 < length (lines_in piece) → to_go next < to_go reader)
took_less (Ok piece) before after reader next knows gave least limit = λ some.
    omega (arith, fewer_to_go reader next before after (given (Ok piece)) (gave knows) least limit, length-map (given (Ok piece)) line_of_piece, some)
took_less (Err stop) before after reader next knows gave least limit = tt

-- ---- a line that is held is lent, and let go when it was answered

-- what is given of a line says what the line says, also where it is too long
line_of_any : (line : List ℕ) → line_of_piece (piece_of line) ≡ line_of line
line_of_any line = by_length (nat_le (length line) 4096) refl where
  by_length : (short : Bool) → nat_le (length line) 4096 ≡ short → line_of_piece (piece_of line) ≡ line_of line
  by_length true is = rw is refl
  by_length false is = rw is (sym (one_cause line causes.Long (too_long (leb-false (length line) 4096 is))))

-- the line that stands before the first line feed is pending once it is let go
pub held_line : (start : Start) (left : Option (List ℕ)) (reads : Option Reads) (written : Option (List ℕ)) (reader next : LinesState) (core : CoreView) (text : List ℕ) (malformed : Bool) (line : List ℕ)
    → IsFirstFeed reader.held (length line) → line ≡ take (length line) reader.held → next ≡ record reader { held = drop (length line + 1) reader.held }
    → Progress start (devices left reads written) (record { reader = reader; core = core; text = text; malformed = malformed }) []
    → Progress start (devices left reads written) (record { reader = next; core = core; text = text; malformed = malformed }) (line_of line ∷ [])
held_line start left reads written reader next core text malformed line first is state p =
    let rest : LinesState = record reader { held = drop (length line + 1) reader.held } in
    let gave : List (Option (List ℕ)) = piece_of (take (length line) reader.held) ∷ [] in
    subst (λ (n : LinesState). Progress start (devices left reads written) (record { reader = n; core = core; text = text; malformed = malformed }) (line_of line ∷ [])) (sym state)
    (taken_line start left left reads reads written reader rest core text malformed gave (line_of line ∷ [])
    (lent_step left reads reader rest gave (lent_line reader left (length line) first) p.knows refl refl refl)
    (ap (λ (l : List ℕ). line_of_piece (piece_of l) ∷ []) (sym is) ∙ ap (λ (l : Line). l ∷ []) (line_of_any line)) (omega (arith, p.within, p.limit)) p)

-- fewer bytes are to go
pub held_less : (reader next : LinesState) (n : ℕ) → IsFirstFeed reader.held n → next ≡ record reader { held = drop (n + 1) reader.held } → to_go next < to_go reader
held_less reader next n first state =
    subst (λ (s : LinesState). to_go s < to_go reader) (sym state) (omega (arith, first.within, length-drop (n + 1) reader.held))

-- ---- a line is answered

pub unserved : (left : Option (List ℕ)) (reads : Option Reads) (written : Option (List ℕ)) (reader : LinesState) (core : CoreView) (text kept : List ℕ) (malformed : Bool) (pending : List Line) → kept ≡ text → (start : Start)
    → Progress start (devices left reads written) (record { reader = reader; core = core; text = text; malformed = malformed }) pending
    → Halted start (devices left reads written) kept
unserved left reads written reader core text kept malformed pending same start p =
    subst (λ (t : List ℕ). Halted start (devices left reads written) t) (sym same) (halt start (devices left reads written) (record { reader = reader; core = core; text = text; malformed = malformed }) pending p)

module _ (w0 w1 : Option (List ℕ)) (core next : CoreView) (text0 text1 text2 : List ℕ) (malformed : Bool) (line : Line) (bad : Bool) (s : Served core next line text0 text1 bad) where
  abbrev Pends : Start → Option (List ℕ) → Option Reads → LinesState → Type 0
  Pends start left reads reader = Progress start (devices left reads w0) (record { reader = reader; core = core; text = text0; malformed = malformed }) (line ∷ [])

  served : (start : Start) (left : Option (List ℕ)) (reads : Option Reads) (reader : LinesState) → Pends start left reads reader
      → Progress start (devices left reads w0) (record { reader = reader; core = next; text = text1; malformed = malformed || bad }) []
  served start left reads reader p =
      subst (λ (t : List ℕ). Progress start (devices left reads w0) (record { reader = reader; core = next; text = t; malformed = malformed || bad }) []) (sym s.text)
      (subst (λ (b : Bool). Progress start (devices left reads w0) (record { reader = reader; core = next; text = text0 ++ entry_text (record { line = line; reply = s.reply }); malformed = malformed || b }) []) (sym s.tells)
      (answered_line start (devices left reads w0) reader core next text0 malformed line s.reply s.told s.stands p))

  pub served_on : {T : Type 0} (r : Result T Stop) → OnOk r ((done : List ℕ) × Appends w0 w1 done × (done ++ text2 ≡ text1))
      → OnOk r ((left : Option (List ℕ)) (reads : Option Reads) (reader : LinesState) (start : Start) → Pends start left reads reader → Progress start (devices left reads w1) (record { reader = reader; core = next; text = text2; malformed = malformed || bad }) [])
  served_on (Ok x) whole = λ left reads reader start p. handed start left reads w0 w1 reader next text1 text2 whole.0 (malformed || bad) [] whole.1 whole.2 (served start left reads reader p)
  served_on (Err stop) whole = tt

  pub served_stops : {T : Type 0} (r : Result T Stop) → IfErr r (λ stop. stop ≡ stops.Sink) → ((n : ℕ) × Appends w0 w1 (take n text1))
      → IfErr r (λ stop. (left : Option (List ℕ)) (reads : Option Reads) (reader : LinesState) (start : Start) → Pends start left reads reader → Ends stop start (devices left reads w1) text2)
  served_stops (Ok x) cause front = tt
  served_stops (Err stop) cause front = λ left reads reader start p.
      way_stops stop cause left reads w0 w1 (record { reader = reader; core = next; text = text1; malformed = malformed || bad }) [] text2 front.0 front.1 start (served start left reads reader p)

pub served_rose : {T : Type 0} (r : Result T Stop) (k k' : ℕ) → IfErr r (λ stop. stop ≡ stops.Sink) → OnErr r (Rose k k') → IfErr r (λ stop. (s : ℕ) → RoseAt stop s s k k')
served_rose (Ok x) k k' cause rose = tt
served_rose (Err stop) k k' cause rose = λ s. way_rose stop cause s k k' rose

-- ---- counts over several calls, of which the first changed none

pub rose_after : (stop : Stop) (s s1 s' k k1 k' : ℕ) → s1 ≡ s → k1 ≡ k → RoseAt stop s1 s' k1 k' → RoseAt stop s s' k k'
rose_after stop s s1 s' k k1 k' source sink rose = subst (λ (x : ℕ). RoseAt stop x s' k k') source (subst (λ (y : ℕ). RoseAt stop s1 s' y k') sink rose)

pub rose_from : {T : Type 0} (r : Result T Stop) (s s' k k1 k' : ℕ) → k1 ≡ k → IfErr r (λ stop. RoseAt stop s s' k1 k') → IfErr r (λ stop. RoseAt stop s s' k k')
rose_from (Ok x) s s' k k1 k' sink rose = tt
rose_from (Err stop) s s' k k1 k' sink rose = rose_after stop s s s' k k1 k' refl sink rose

pub calm_after : {T : Type 0} (r : Result T Stop) (s s1 k k1 k' : ℕ) → s1 ≡ s → k1 ≡ k → OnOk r (k' ≡ k1) → OnOk r ((s1 ≡ s) × (k' ≡ k))
calm_after (Ok x) s s1 k k1 k' source sink calm = (source, calm ∙ sink)
calm_after (Err stop) s s1 k k1 k' source sink calm = tt

pub calm_from : {T : Type 0} (r : Result T Stop) (s s' k k1 k' : ℕ) → k1 ≡ k → OnOk r ((s' ≡ s) × (k' ≡ k1)) → OnOk r ((s' ≡ s) × (k' ≡ k))
calm_from (Ok x) s s' k k1 k' sink calm = (calm.0, calm.1 ∙ sink)
calm_from (Err stop) s s' k k1 k' sink calm = tt

pub gave_up_rose : (stop : Stop) → stop ≡ stops.NoMemory → (s s' k k' : ℕ) → s' ≡ s → RoseAt stop s s' k k'
gave_up_rose stop is s s' k k' source = subst (λ (x : Stop). RoseAt x s s' k k') (sym is) source

-- ---- the end

module _ (before after : Option (List ℕ)) (hand : Hand) (text : List ℕ)
    (closes : (base : Base) (history : List Entry) → StandsFor hand.core base history → text ≡ hand.text ++ ending_of (state base history)) where
  pub closed_ran : {T : Type 0} (r : Result T Stop) (kept : List ℕ) → OnOk r (Appends before after text × (kept ≡ []))
      → OnOk r ((start : Start) (left : Option (List ℕ)) (reads : Option Reads) → hand.reader.held ≡ [] → IsAtEnd left → Progress start (devices left reads before) hand [] → Ran start.base start.old (devices left reads after) hand.malformed)
  closed_ran (Ok x) kept out = λ start left reads none end p. ran start left reads before after hand text none end closes out.0 p
  closed_ran (Err stop) kept out = tt

  pub closed_stops : {T : Type 0} (r : Result T Stop) → IfErr r (λ stop. stop ≡ stops.Sink) → ((n : ℕ) × Appends before after (take n text))
      → IfErr r (λ stop. (start : Start) (left : Option (List ℕ)) (reads : Option Reads) → hand.reader.held ≡ [] → IsAtEnd left → Progress start (devices left reads before) hand [] → Stops stop start.base start.old (devices left reads after))
  closed_stops (Ok x) cause front = tt
  closed_stops (Err stop) cause front = λ start left reads none end p.
      subst (λ (s : Stop). Stops s start.base start.old (devices left reads after)) (sym cause)
      (ending_stopped start left reads before after hand text front.0 none end closes front.1 p, progress_within start (devices left reads before) hand [] p)

-- the text in hand is given up
pub halted_end : (start : Start) (left : Option (List ℕ)) (reads : Option Reads) (before after : Option (List ℕ)) (rest : List ℕ) → ((n : ℕ) × Appends before after (take n rest)) → Halted start (devices left reads before) rest
    → Stops stops.NoMemory start.base start.old (devices left reads after)
halted_end start left reads before after rest front h = (halted_stopped start left reads before after rest front.0 front.1 h, halted_within start (devices left reads before) rest h)

-- the ending is in hand
pub closed : {T E : Type 0} (r : Result T E) (old new : List ℕ) (core : CoreView) (txs : List ℕ) (durable : ℕ) → OnOk r (new ≡ old ++ ending txs durable)
    → ((base : Base) (history : List Entry) → StandsFor core base history → txs ≡ order (state base history)) → ((base : Base) (history : List Entry) → StandsFor core base history → durable ≡ (state base history).durable)
    → OnOk r ((base : Base) (history : List Entry) → StandsFor core base history → new ≡ old ++ ending_of (state base history))
closed (Ok x) old new core txs durable put is lasts = λ base history stands. put ∙ (λ i. old ++ ending (is base history stands i) (lasts base history stands i))
closed (Err e) old new core txs durable put is lasts = tt

-- the ending found no memory, and the text in hand is given up
pub unclosed : (stop : Stop) → stop ≡ stops.NoMemory → (before after : Option (List ℕ)) (hand : Hand) (kept : List ℕ) → kept ≡ hand.text → ((n : ℕ) × Appends before after (take n kept))
    → (start : Start) (left : Option (List ℕ)) (reads : Option Reads) → hand.reader.held ≡ [] → IsAtEnd left → Progress start (devices left reads before) hand [] → Stops stop start.base start.old (devices left reads after)
unclosed stop is before after hand kept same front start left reads none end p =
    subst (λ (s : Stop). Stops s start.base start.old (devices left reads after)) (sym is)
    (halted_end start left reads before after hand.text (front.0, subst (λ (t : List ℕ). Appends before after (take front.0 t)) same front.1) (halt start (devices left reads before) hand [] p))

pub gave_up : (stop : Stop) → stop ≡ stops.NoMemory → (start : Start) (left : Option (List ℕ)) (reads : Option Reads) (before after : Option (List ℕ)) (rest : List ℕ) → ((n : ℕ) × Appends before after (take n rest))
    → Halted start (devices left reads before) rest → Stops stop start.base start.old (devices left reads after)
gave_up stop is start left reads before after rest front h = subst (λ (s : Stop). Stops s start.base start.old (devices left reads after)) (sym is) (halted_end start left reads before after rest front h)

-- all lines were answered, and the ending was printed, or not
module _ (Began : Start → Type 0) (left : Option (List ℕ)) (reads : Option Reads) (before after : Option (List ℕ)) (hand : Hand) (on : (start : Start) → Began start → Progress start (devices left reads before) hand []) where
  pub worked_ran : {T : Type 0} (r : Result T Stop) (bad : Bool) → bad ≡ hand.malformed → hand.reader.held ≡ [] → IsAtEnd left
      → OnOk r ((start : Start) (left : Option (List ℕ)) (reads : Option Reads) → hand.reader.held ≡ [] → IsAtEnd left → Progress start (devices left reads before) hand [] → Ran start.base start.old (devices left reads after) hand.malformed)
      → OnOk r ((start : Start) → Began start → Ran start.base start.old (devices left reads after) bad × (took start.old.left left ≤ most_of_script))
  worked_ran (Ok x) bad same none end ran = λ start p.
      (subst (λ (b : Bool). Ran start.base start.old (devices left reads after) b) (sym same) (ran start left reads none end (on start p)), progress_within start (devices left reads before) hand [] (on start p))
  worked_ran (Err stop) bad same none end ran = tt

  pub worked_stops : {T : Type 0} (r : Result T Stop) → hand.reader.held ≡ [] → IsAtEnd left
      → IfErr r (λ stop. (start : Start) (left : Option (List ℕ)) (reads : Option Reads) → hand.reader.held ≡ [] → IsAtEnd left → Progress start (devices left reads before) hand [] → Stops stop start.base start.old (devices left reads after))
      → IfErr r (λ stop. (start : Start) → Began start → Stops stop start.base start.old (devices left reads after))
  worked_stops (Ok x) none end halts = tt
  worked_stops (Err stop) none end halts = λ start p. halts start left reads none end (on start p)

pub worked_rose : {T : Type 0} (r : Result T Stop) (s s1 k l m : ℕ) → s1 ≡ s → l ≡ k → IfErr r (λ stop. (x : ℕ) → RoseAt stop x x l m) → IfErr r (λ stop. RoseAt stop s s1 k m)
worked_rose (Ok x) s s1 k l m source sink rose = tt
worked_rose (Err stop) s s1 k l m source sink rose = rose_after stop s s1 s1 k l m source sink (rose s1)

-- a whole run starts
pub started_with : (base : Base) (now : Devices) (hand : Hand) → IsSound base → hand.reader ≡ fresh most_of_script → StandsFor hand.core base [] → hand.text ≡ [] → hand.malformed ≡ false
    → Progress (record { base = base; old = now }) now hand []
started_with base now hand sound same stands none calm =
    subst (λ (b : Bool). Progress (record { base = base; old = now }) now (record { reader = hand.reader; core = hand.core; text = hand.text; malformed = b }) []) (sym calm)
    (subst (λ (t : List ℕ). Progress (record { base = base; old = now }) now (record { reader = hand.reader; core = hand.core; text = t; malformed = false }) []) (sym none)
    (started base now hand.reader hand.core sound same stands))

-- a stop that leaves nothing to hand over
pub end_stops : (stop : Stop) (start : Start) (now : Devices) (text : List ℕ) → Ends stop start now text → Stops stop start.base start.old now
end_stops stops.NoMemory start now text h = (halted_stops start now text h, halted_within start now text h)
end_stops stops.Source start now text e = e
end_stops stops.Sink start now text e = (halted_stops start now e.0 e.1, halted_within start now e.0 e.1)
end_stops stops.TooMuch start now text e = e

-- nothing was taken
pub took_nothing : (left : Option (List ℕ)) → took left left ≡ 0
took_nothing None = refl
took_nothing (Some bytes) = omega arith
