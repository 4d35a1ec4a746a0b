-- An operation at a mark that leaves one note: a get, or a write.
use Rattle.std.proofs.Common.{◌≡◌, ℕ, true, false, List, [], ◌∷◌, ◌++◌, Option, Some, None, is_some, option_map, Result, Ok, Err, IfOk, OnOk, refl, sym, ap, ◌∙◌}
use Rattle.ltx_model.specs.declared.commands.Op.{Op}
use Rattle.ltx_model.specs.declared.commands.Op.TheVariants.{Get, Scan, Put, Del}
use Rattle.ltx_model.specs.declared.looked.Reach.TheVariants.{Nothing, Point}
use Rattle.ltx_model.specs.declared.looked.Noted.{Noted}
use Rattle.ltx_model.specs.declared.memory.NoMemory.{NoMemory}
use Rattle.ltx_model.specs.declared.replies.Reply.{Reply}
use Rattle.ltx_model.specs.declared.replies.Reply.TheVariants.{Done}
use Rattle.ltx_model.specs.declared.rows.StoredRow.{StoredRow}
use Rattle.ltx_model.specs.declared.writes.Look.{Look}
use Rattle.ltx_model.specs.declared.writes.Write.{Write}
use Rattle.ltx_model.specs.Keys.{Cell, put_in_order, IsRising}
use Rattle.ltx_model.specs.StoredRows.{row_at}
use Rattle.ltx_model.specs.Operations.{cell_of_write, table_of, write_of, writes_key, put_write, writes_of}
use Rattle.ltx_model.specs.Notes.{IsReachBy, IsNoteBy}
use Rattle.ltx_model.specs.Rows.{found, reply_on, rows_after_all, see}
use Rattle.ltx_model.specs.NoteLists.{NoteList, with_note}
use Rattle.ltx_model.proofs.OneMore.{see-is}
use Rattle.ltx_lemmas.proofs.Lists.{some_same, none_some, true_false}
use Rattle.ltx_lemmas.proofs.Views.{agree_written}
use Rattle.ltx_buffer.specs.Own.{write_at, row_under}
use Rattle.ltx_buffer.proofs.Keys.{is_own, own_row}
use Rattle.ltx_chain.specs.declared.chain.Version.{Version}
use Rattle.ltx_chain.specs.Versions.{visible}
use Rattle.ltx_store.specs.Kept.{Kept, cell_of_kept, versions_at, row_put, row_of_version, rows_at}
use Rattle.ltx_store.specs.Scans.{look_of_version}
use Rattle.ltx_store.proofs.Changes.{row_of_seen}
use Rattle.ltx_store.proofs.Rows.{rows_rising}
use Rattle.ltx_open.specs.declared.stage.Stage.TheVariants as stages
use Rattle.ltx_open.specs.Views.{OpenView}
use Rattle.ltx_open.specs.Operations.{HasDone, IsSeenLook}
use Rattle.ltx_open.specs.Seen.{answered, put_by}

-- What the fields of an open transaction say of an operation that it did: its note, its write, and what was seen.
pub done_by : (kept : List Kept) (mark : ℕ) (old new : OpenView) (op : Op) (reply : Reply) (note : Noted)
    → (old.stage ≡ stages.Short → old.notes.mark ≡ mark) → new.number ≡ old.number → new.stage ≡ old.stage → new.notes ≡ with_note old.notes note
    → new.own.writes ≡ put_write (write_of op) old.own.writes
    → ((earlier : List Op) → old.own.writes ≡ writes_of earlier → reply ≡ see old.number (rows_at mark kept) earlier op)
    → ((earlier : List Op) → old.own.writes ≡ writes_of earlier → IsNoteBy (IsSeenLook kept mark) earlier op note)
    → HasDone kept mark old op reply new
done_by kept mark old new op reply note marked number stage notes own seen note_is = record {
  number = number;
  stage = stage;
  note = note;
  noted = ap (λ (l : NoteList). l.notes) notes;
  marked = λ short. ap (λ (l : NoteList). l.marks) notes ∙ ap (λ m. old.notes.marks ++ m ∷ []) (marked short);
  own = own;
  seen = seen;
  note_is = note_is;
}

-- a write is answered `done`, whatever stands there
write_done : (kept : List Kept) (mark : ℕ) (old new : OpenView) (table : ℕ) (key : List ℕ) (put : Option (List ℕ)) (op : Op) (reply : Reply)
    → write_of op ≡ Some (record { table = table; key = key; put = put })
    → reply ≡ Done
    → (old.stage ≡ stages.Short → old.notes.mark ≡ mark) → new.number ≡ old.number → new.stage ≡ old.stage → new.notes ≡ with_note old.notes (record { table = table; reach = Nothing; write = Some key })
    → new.own.writes ≡ put_in_order cell_of_write (record { table = table; key = key; put = put }) old.own.writes
    → HasDone kept mark old op reply new
write_done kept mark old new table key put op reply is answer marked number stage notes own =
    let note : Noted = record { table = table; reach = Nothing; write = Some key } in
    let write : Write = record { table = table; key = key; put = put } in
    done_by kept mark old new op reply note marked number stage notes (own ∙ ap (λ o. put_write o old.own.writes) (sym is))
    (λ earlier same. answer ∙ sym (see-is old.number (rows_at mark kept) earlier op ∙ by_op op is (rows_after_all old.number (rows_at mark kept) earlier)))
    (λ earlier same. record { table = in_table op is; reach = nothing op is earlier; write = sym (ap (option_map (λ w. w.key)) is) }) where
      by_op : (op : Op) → write_of op ≡ Some (record { table = table; key = key; put = put }) → (rows : List StoredRow) → reply_on rows op ≡ Done
      by_op (Get t k) is rows = absurd (none_some is)
      by_op (Scan t l h) is rows = absurd (none_some is)
      by_op (Put t k v) is rows = refl
      by_op (Del t k) is rows = refl

      in_table : (op : Op) → write_of op ≡ Some (record { table = table; key = key; put = put }) → table ≡ table_of op
      in_table (Get t k) is = absurd (none_some is)
      in_table (Scan t l h) is = absurd (none_some is)
      in_table (Put t k v) is = ap (λ (w : Write). w.table) (sym (some_same is))
      in_table (Del t k) is = ap (λ (w : Write). w.table) (sym (some_same is))

      nothing : (op : Op) → write_of op ≡ Some (record { table = table; key = key; put = put }) → (earlier : List Op) → IsReachBy (IsSeenLook kept mark) earlier op Nothing
      nothing (Get t k) is earlier = absurd (none_some is)
      nothing (Scan t l h) is earlier = absurd (none_some is)
      nothing (Put t k v) is earlier = tt
      nothing (Del t k) is earlier = tt

pub write_gives : (kept : List Kept) (mark : ℕ) (old new : OpenView) (w : Write) (op : Op) (r : Result Reply NoMemory) → write_of op ≡ Some w
    → IfOk r (λ reply. reply ≡ Done) → (old.stage ≡ stages.Short → old.notes.mark ≡ mark) → OnOk r (new.number ≡ old.number) → OnOk r (new.stage ≡ old.stage)
    → OnOk r (new.notes ≡ with_note old.notes (record { table = w.table; reach = Nothing; write = Some w.key }))
    → OnOk r (new.own.writes ≡ put_in_order cell_of_write w old.own.writes)
    → IfOk r (λ reply. HasDone kept mark old op reply new)
write_gives kept mark old new w op (Ok reply) is answer marked number stage notes own = write_done kept mark old new w.table w.key w.put op reply is answer marked number stage notes own
write_gives kept mark old new w op (Err e) is answer marked number stage notes own = tt

-- the value of a key under its own write
found_under : (tx : ℕ) (w : Write) (put : Option (List ℕ)) → w.put ≡ put → found (row_under tx (Some w) None) ≡ answered put
found_under tx w None is = rw is refl
found_under tx w (Some value) is = rw is refl

-- the value of a key of which a version is seen
found_put : (c : Cell) (writer : ℕ) (put : Option (List ℕ)) → found (row_put c writer put) ≡ answered put
found_put c writer None = refl
found_put c writer (Some value) = refl

found_seen : (c : Cell) (o : Option Version) → found (row_of_version c o) ≡ answered (put_by o)
found_seen c None = refl
found_seen c (Some v) = found_put c v.writer v.put

-- a key of a table
abbrev at : ℕ → List ℕ → Cell
at table key = record { table = table; key = key }

-- a get of a key that the transaction wrote
pub own_got : (kept : List Kept) (mark : ℕ) (old new : OpenView) (table : ℕ) (key : List ℕ) (w : Write) (reply : Reply)
    → write_at old.own.writes (at table key) ≡ Some w → reply ≡ answered w.put
    → (old.stage ≡ stages.Short → old.notes.mark ≡ mark) → new.number ≡ old.number → new.stage ≡ old.stage
    → new.notes ≡ with_note old.notes (record { table = table; reach = Point key None true; write = None }) → new.own.writes ≡ old.own.writes
    → HasDone kept mark old (Get table key) reply new
own_got kept mark old new table key w reply has answer marked number stage notes own =
    done_by kept mark old new (Get table key) reply (record { table = table; reach = Point key None true; write = None }) marked number stage notes own seen
    (λ earlier same. record { table = refl; reach = (refl, record { own_key = sym (written earlier same); looked = λ no. absurd (true_false no) }); write = refl }) where
      written : (earlier : List Op) → old.own.writes ≡ writes_of earlier → writes_key earlier (at table key) ≡ true
      written earlier same = sym (is_own earlier (at table key)) ∙ ap (λ ws. is_some (write_at ws (at table key))) (sym same) ∙ ap is_some has

      seen : (earlier : List Op) → old.own.writes ≡ writes_of earlier → reply ≡ see old.number (rows_at mark kept) earlier (Get table key)
      seen earlier same =
          answer
          ∙ sym (see-is old.number (rows_at mark kept) earlier (Get table key)
          ∙ ap found (agree_written old.number (rows_at mark kept) [] earlier (at table key) (written earlier same) ∙ own_row old.number [] earlier (at table key) tt ∙ ap (λ ws. row_under old.number (write_at ws (at table key)) None) (sym same) ∙ ap (λ o. row_under old.number o None) has)
          ∙ found_under old.number w w.put refl)

-- a get of another key, from the store
pub seen_got : (kept : List Kept) (mark : ℕ) → IsRising cell_of_kept kept → (old new : OpenView) (table : ℕ) (key : List ℕ) (seen : Option Version) (look : Option Look) (reply : Reply)
    → write_at old.own.writes (at table key) ≡ None → seen ≡ visible mark (versions_at kept (at table key))
    → reply ≡ answered (put_by seen) → look ≡ look_of_version key seen
    → (old.stage ≡ stages.Short → old.notes.mark ≡ mark) → new.number ≡ old.number → new.stage ≡ old.stage
    → new.notes ≡ with_note old.notes (record { table = table; reach = Point key look false; write = None }) → new.own.writes ≡ old.own.writes
    → HasDone kept mark old (Get table key) reply new
seen_got kept mark rising old new table key seen look reply has at_mark_is answer look_at marked number stage notes own =
    done_by kept mark old new (Get table key) reply (record { table = table; reach = Point key look false; write = None }) marked number stage notes own replied
    (λ earlier same. record { table = refl; reach = (refl, record { own_key = sym (unwritten earlier same); looked = λ no. look_at ∙ ap (look_of_version key) at_mark_is }); write = refl }) where
      unwritten : (earlier : List Op) → old.own.writes ≡ writes_of earlier → writes_key earlier (at table key) ≡ false
      unwritten earlier same = sym (is_own earlier (at table key)) ∙ ap (λ ws. is_some (write_at ws (at table key))) (sym same) ∙ ap is_some has

      replied : (earlier : List Op) → old.own.writes ≡ writes_of earlier → reply ≡ see old.number (rows_at mark kept) earlier (Get table key)
      replied earlier same =
          answer ∙ ap (λ o. answered (put_by o)) at_mark_is ∙ sym (found_seen (at table key) (visible mark (versions_at kept (at table key))))
          ∙ ap found (row_of_seen (visible mark) refl (at table key) kept rising)
          ∙ sym (see-is old.number (rows_at mark kept) earlier (Get table key)
          ∙ ap found (own_row old.number (rows_at mark kept) earlier (at table key) (rows_rising (visible mark) kept rising) ∙ ap (λ ws. row_under old.number (write_at ws (at table key)) (row_at (rows_at mark kept) (at table key))) (sym same) ∙ ap (λ o. row_under old.number o (row_at (rows_at mark kept) (at table key))) has))
