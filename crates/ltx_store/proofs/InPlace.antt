-- What a table in its place answers of the store.
use Rattle.std.proofs.Common.{◌≡◌, ℕ, ◌+◌, Bool, List, Option, Some, None, IfSome, IfNone, refl, sym, ap, ◌∙◌, arith}
use Rattle.ltx_model.specs.Keys.{Cell}
use Rattle.ltx_model.specs.StoredRows.{row_at, writer_at}
use Rattle.ltx_model.specs.Rows.{rows_between}
use Rattle.ltx_model.specs.NextKeys.{IsNextKey, HasNoNextKey}
use Rattle.ltx_index.specs.Pairs.{value_at}
use Rattle.ltx_chain.specs.declared.chain.Version.{Version}
use Rattle.ltx_chain.specs.Versions.{latest, visible}
use Rattle.ltx_store.specs.Kept.{Kept, items_of, row_of_version, rows_at, latest_rows}
use Rattle.ltx_store.specs.Latest.{putter, putter_at, IsNextPut, HasNoNextPut}
use Rattle.ltx_store.specs.Scans.{between, rows_seen, looks_between, looks_seen}
use Rattle.ltx_store.proofs.Changes.{row_of_seen}
use Rattle.ltx_store.proofs.Looks.{writer_of_seen}
use Rattle.ltx_store.proofs.Places.{Pairs, IsPlace, in_range, chain_in_place, kept_rising}
use Rattle.ltx_store.proofs.Scans.{rows_between-of_tables, looks_between-of_tables}

module _ {kept : List Kept} {ts : List Pairs} {i n : ℕ} {pairs : Pairs} (p : IsPlace kept ts i n pairs) where
  pub rows_in_place : (low high : List ℕ) (mark : ℕ) → rows_between (rows_at mark kept) n low high ≡ rows_seen mark (between low high pairs)
  rows_in_place low high mark =
      let at = p.at in
      let sum : n ≡ 0 + i = omega arith in
      ap (λ k. rows_between (rows_at mark k) n low high) (sym p.kept_is) ∙ rows_between-of_tables low high mark 0 i n ts pairs sum (in_range p) p.is

  pub looks_in_place : (low high : List ℕ) (mark : ℕ) → looks_between mark kept n low high ≡ looks_seen mark (between low high pairs)
  looks_in_place low high mark =
      let at = p.at in
      let sum : n ≡ 0 + i = omega arith in
      ap (λ k. looks_between mark k n low high) (sym p.kept_is) ∙ looks_between-of_tables low high mark 0 i n ts pairs sum (in_range p) p.is

  pub writer_in_place : (key : List ℕ) → writer_at (latest_rows kept) (record { table = n; key = key }) ≡ putter_at pairs key
  writer_in_place key =
      let c : Cell = record { table = n; key = key } in
      writer_of_seen latest refl kept c (kept_rising p) ∙ ap (λ o. putter (latest (items_of o))) (chain_in_place p key)

module _ {kept : List Kept} {ts : List Pairs} {i n : ℕ} {pairs : Pairs} (p : IsPlace kept ts i n pairs) where
  -- the row of a key at a mark, by the version that is seen there
  pub row_in_place : (key : List ℕ) (mark : ℕ) (o : Option Version) → o ≡ visible mark (items_of (value_at pairs key)) → row_of_version (record { table = n; key = key }) o ≡ row_at (rows_at mark kept) (record { table = n; key = key })
  row_in_place key mark o is =
      let c : Cell = record { table = n; key = key } in
      ap (row_of_version c) (is ∙ ap (λ v. visible mark (items_of v)) (sym (chain_in_place p key))) ∙ row_of_seen (visible mark) refl c kept (kept_rising p)

  next_in_place : (from : List ℕ) (strict : Bool) (key : List ℕ) (writer : ℕ) → IsNextPut pairs from strict key writer → IsNextKey (latest_rows kept) n from strict key writer
  next_in_place from strict key writer next = record {
    within = next.within;
    written = writer_in_place p key ∙ next.written;
    least = λ other at less. writer_in_place p other ∙ next.least other at less;
  }

  -- the next key with a row, as a call answers it
  pub found_in_place : {X : Type 0} (from : List ℕ) (strict : Bool) (key : X → List ℕ) (writer : X → ℕ) (o : Option X) → IfSome o (λ x. IsNextPut pairs from strict (key x) (writer x)) → IfSome o (λ x. IsNextKey (latest_rows kept) n from strict (key x) (writer x))
  found_in_place from strict key writer None found = tt
  found_in_place from strict key writer (Some x) found = next_in_place from strict (key x) (writer x) found

  pub none_in_place : {X : Type 0} (from : List ℕ) (strict : Bool) (o : Option X) → IfNone o (HasNoNextPut pairs from strict) → IfNone o (HasNoNextKey (latest_rows kept) n from strict)
  none_in_place from strict None none = λ key at. writer_in_place p key ∙ none key at
  none_in_place from strict (Some x) none = tt
