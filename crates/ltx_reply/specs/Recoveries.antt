-- The text of a recovered log: a line for each row, and the durable epoch with the last number; and that of a disk that gives none.
use Rattle.std.specs.Prelude.{ℕ, List, [], ◌∷◌, ◌++◌, flat_map, codes}
use Rattle.ltx_model.specs.declared.rows.StoredRow.{StoredRow}
use Rattle.ltx_model.specs.States.{Base}
use Rattle.ltx_model.specs.Recovery.{Unlawful}
use Rattle.ltx_text.specs.Decimals.{decimal_of}
use Rattle.ltx_text.specs.Words.{word_of}

-- `row T K V by W` and a line feed
abbrev pub row_line : StoredRow → List ℕ
row_line row = codes "row " ++ decimal_of row.table ++ 32 ∷ word_of row.key ++ 32 ∷ word_of row.value ++ codes " by " ++ decimal_of row.writer ++ 10 ∷ []

-- the rows in order of table and key, then `through D last N` and a line feed
unfoldable pub recovery_text : Base → List ℕ
recovery_text base = flat_map row_line base.rows ++ codes "through " ++ decimal_of base.durable ++ codes " last " ++ decimal_of base.last ++ 10 ∷ []

-- an open gate at this place stands over no frame
abbrev pub faulty_text : ℕ → List ℕ
faulty_text at = codes "damaged " ++ decimal_of at ++ 10 ∷ []

-- an event is not lawful
abbrev pub unlawful_text : Unlawful → List ℕ
unlawful_text u = codes "damaged " ++ decimal_of u.at ++ codes " event " ++ decimal_of u.event ++ 10 ∷ []

-- the disk is neither blank nor a log
abbrev pub foreign_text : List ℕ
foreign_text = codes "notalog" ++ 10 ∷ []
