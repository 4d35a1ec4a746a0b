use Rattle.std.proofs.Common.{rules, ◌≡◌, ℕ, [], ◌+◌, ◌∙◌, ap, refl, subst}
use Rattle.std.specs.List.{AllByRecursion}
use Rattle.std.specs.Option.{option_map}
use Rattle.ltx_model.specs.Keys.{Cell}
use Rattle.ltx_model.specs.LastWrites.{made_before}
use Rattle.ltx_model.specs.StoredRows.{row_at}
use Rattle.ltx_model.specs.States.{base_of}
use Rattle.ltx_model.specs.Histories.{state}
use Rattle.ltx_chain.specs.Versions.{latest}
use Rattle.ltx_store.specs.Kept.{versions_at}
use Rattle.ltx_core.specs.Views.{CoreView}
use Rattle.ltx_core.specs.Stands.{IsOfBase, write_seen, StandsAt}
use Rattle.ltx_core.proofs.NewCores.{new_core, new_logged, new_within, new_is_core}
use Rattle.ltx_core.proofs.state.Core.new.Goals as goal

abbrev made : goal.After-new-6 → CoreView
made c = record {
  counters = record { epoch = c.epoch-durable.result + 1; last = c.last-last.result };
  list = c.new.result.list;
  room = c.new.result.room;
  commits = 0;
  batch = 0;
  store = c.in_ok-load.field-0;
  preserve = c.new-2.result;
  opens = c.new-3.result;
  records = c.new-4.result;
  areas = c.new-5.result.items;
  log = record { durable = c.epoch-durable.result; events = c.new-6.result };
}

stands : (c : goal.After-new-6) (gate : ℕ) → StandsAt (made c) (state (base_of c.args.base gate) [])
stands c =
    new_core c.args.base (made c) c.epoch-durable.ensures.kept (c.in_ok-load.ensures.rows ∙ c.into_rows.ensures.value)
    (subst (λ rows. (cell : Cell) → AllByRecursion (IsOfBase rows cell) (versions_at c.in_ok-load.field-0 cell)) c.into_rows.ensures.value c.in_ok-load.ensures.versions)
    (subst (λ rows. (cell : Cell) → write_seen (latest (versions_at c.in_ok-load.field-0 cell)) ≡ option_map made_before (row_at rows cell)) c.into_rows.ensures.value c.in_ok-load.ensures.written)
    c.new.ensures.list refl refl c.new-2.ensures c.new-3.ensures c.new-4.ensures.kept c.new-4.ensures.commits (search rules) (ap (λ n. n + 1) c.epoch-durable.ensures.value) c.last-last.ensures.value

pub returns : goal.returns
returns c = record { stands = λ gate. record { at = stands c gate; logged = new_logged c.args.base (made c).log c.epoch-durable.ensures.value c.new-6.ensures.closed c.new-6.ensures.present gate } }

pub invariant_of-result : goal.invariant_of-result
invariant_of-result c =
    new_is_core c.args.base (made c) c.epoch-durable.ensures.kept (stands c)
    (new_within c.args.base (made c) c.epoch-durable.ensures.kept c.in_ok-load.ensures.marks c.new.ensures.list c.new.ensures.room c.new-2.ensures (ap (λ n. n + 1) c.epoch-durable.ensures.value) c.last-last.ensures.value
    c.new-6.ensures.closed c.new-6.ensures.present c.new-6.ensures.last)
