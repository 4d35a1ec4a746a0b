-- Keys and tables: what is looked up is looked into, and what a live batch wrote is in a table that it declared.
use Rattle.std.proofs.Common.{◌≡◌, Bool, true, false, not, ◌&&◌, ◌==◌, List, map, None, refl, sym, ap, ◌∙◌, subst}
use Rattle.std.proofs.lemmas.Bool.{and_parts, both_ways, eqb-true, eq-eqb, false_from_ne_true}
use Rattle.std.specs.List.{list_any, AllByRecursion}
use Rattle.ltx_model.specs.declared.commands.Op.{Op}
use Rattle.ltx_model.specs.declared.commands.Op.TheVariants.{Get, Scan, Put, Del}
use Rattle.ltx_model.specs.declared.replies.Reply.{Reply}
use Rattle.ltx_model.specs.declared.replies.Reply.TheVariants as replies
use Rattle.ltx_model.specs.Tables.{has_table}
use Rattle.ltx_model.specs.Lists.{numbered}
use Rattle.ltx_model.specs.Keys.{Cell, same_cell, in_range}
use Rattle.ltx_model.specs.Operations.{writes_at, writes_key, looks_up, looks_up_key, looks_into, looks_into_table}
use Rattle.ltx_model.specs.States.{Declaration, Step}
use Rattle.ltx_model.specs.Answers.{unless_in, refusal}
use Rattle.ltx_lemmas.proofs.Lists.{true_false, none_some, all_contains, any_item, any_contains, any_map}
use Rattle.ltx_lemmas.proofs.Members.{same_number}
use Rattle.ltx_model.proofs.CellOrder.{same_cell_same, same_cell_refl}

-- one operation that looks a key up looks into its table
looks_into_one : (q : Cell) (earlier : List Op) (op : Op) → looks_up q earlier op ≡ true → looks_into q.table earlier op ≡ true
looks_into_one q earlier (Get table key) e =
    let c : Cell = record { table = table; key = key } in
    let parts = and_parts (same_cell c q) (not (list_any (writes_at q) earlier)) e in
    let cell : c ≡ q = same_cell_same c q parts.0 in
    let at : (d : Cell) → c ≡ d → not (list_any (writes_at d) earlier) ≡ true → ((table == d.table) && (same_cell c c && not (list_any (writes_at c) earlier))) ≡ true =
    λ d is fresh. subst (λ x. not (list_any (writes_at x) earlier) ≡ true → ((table == x.table) && (same_cell c c && not (list_any (writes_at c) earlier))) ≡ true) is
    (λ f. ap (λ b. b && (same_cell c c && not (list_any (writes_at c) earlier))) (same_number table) ∙ ap (λ b. b && not (list_any (writes_at c) earlier)) (same_cell_refl c) ∙ f) fresh in
    at q cell parts.1
looks_into_one q earlier (Scan table low high) e =
    let covered = and_parts ((q.table == table) && in_range low high q.key) (not (list_any (writes_at q) earlier)) e in
    let tables = and_parts (q.table == table) (in_range low high q.key) covered.0 in
    eq-eqb table q.table (sym (eqb-true q.table table tables.0))
looks_into_one q earlier (Put table key value) e = absurd (true_false (sym e))
looks_into_one q earlier (Del table key) e = absurd (true_false (sym e))

pub looks_into_its : (ops : List Op) (q : Cell) → looks_up_key ops q ≡ true → looks_into_table ops q.table ≡ true
looks_into_its ops q e =
    let (o, here, looks) = any_item (λ o. looks_up q o.earlier o.item) (numbered ops) e in
    any_contains (λ o. looks_into q.table o.earlier o.item) (numbered ops) o here (looks_into_one q o.earlier o.item looks)

pub not_looked_up : (ops : List Op) (q : Cell) → looks_into_table ops q.table ≡ false → looks_up_key ops q ≡ false
not_looked_up ops q e = false_from_ne_true (looks_up_key ops q) (λ looks. both_ways (looks_into_table ops q.table) e (looks_into_its ops q looks))

-- what was not refused is in a declared table
not_refused : (b : Bool) (reply : Reply) → unless_in b reply ≡ None → b ≡ true
not_refused true reply e = refl
not_refused false reply e = absurd (none_some (sym e))

declared_one : (d : Declaration) (q : Cell) (op : Op) → refusal d op ≡ None → writes_at q op ≡ true → has_table d.writes q.table ≡ true
declared_one d q (Get table key) free e = absurd (true_false (sym e))
declared_one d q (Scan table low high) free e = absurd (true_false (sym e))
declared_one d q (Put table key value) free e =
    let c : Cell = record { table = table; key = key } in
    subst (λ (x : Cell). has_table d.writes x.table ≡ true) (same_cell_same c q e) (not_refused (has_table d.writes table) (replies.NotPreserved table) free)
declared_one d q (Del table key) free e =
    let c : Cell = record { table = table; key = key } in
    subst (λ (x : Cell). has_table d.writes x.table ≡ true) (same_cell_same c q e) (not_refused (has_table d.writes table) (replies.NotPreserved table) free)

pub writes_declared : (d : Declaration) (steps : List Step) (q : Cell) → AllByRecursion (λ step. refusal d step.op ≡ None) steps → writes_key (map (λ b. b.op) steps) q ≡ true → has_table d.writes q.table ≡ true
writes_declared d steps q inside e =
    let (step, here, writes) = any_item (λ (s : Step). writes_at q s.op) steps (sym (any_map (writes_at q) (λ (b : Step). b.op) steps) ∙ e) in
    declared_one d q step.op (all_contains (λ step. refusal d step.op ≡ None) steps step inside here) writes
