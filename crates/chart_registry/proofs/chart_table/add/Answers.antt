use Rattle.std.proofs.Common.{arith, ◌≡◌, ℕ, List, [], ◌∷◌, ◌++◌, cond, length, Some, sym, subst, ◌∙◌, string_bytes}
use Rattle.std.specs.Str.{bytes_eq}
use Rattle.std.proofs.lemmas.Map.Text.{hash_map_updates_text}
use Rattle.history.specs.Registry.{same_chart}
use Rattle.chart_registry.proofs.Places.{put-absent}
use Rattle.chart_registry.specs.Places.{FindsCharts, place_in}
use Rattle.chart_registry.proofs.TablesLemmas.{chart-added}
use Rattle.chart_registry.proofs.chart_table.add.Goals as goal

pub returns-clause-found : goal.returns-clause-found
returns-clause-found c =
    let defs = c.args.defs.now.items in
    let old = c.args.places.now in
    let new = c.insert.new.self in
    let pushed : c.push.new.self.items ≡ defs ++ c.args.def ∷ [] = grind arith in
    let named : string_bytes c.into_string-id.result ≡ c.args.def.id = c.into_string-id.ensures ∙ c.in_ok-clone.ensures.cases in
    let place : c.len.result ≡ length defs = grind arith in
    let finds : (other : List ℕ) → place_in new.entries other ≡ cond (bytes_eq c.args.def.id other) (Some (length defs)) (place_in old.entries other)
    = λ other. hash_map_updates_text (string_bytes c.into_string-id.result) old new (Some c.len.result) c.in_ok-insert.ensures.updates other
    ∙ (λ i. cond (bytes_eq (named i) other) (Some (place i)) (place_in old.entries other)) in
    subst (FindsCharts new.entries) (sym pushed) (chart-added defs c.args.def old.entries new.entries c.requires.found c.requires.absent finds)

pub returns-clause-ok : goal.returns-clause-ok
returns-clause-ok c =
    let pushed : c.push.new.self.items ≡ c.args.defs.now.items ++ c.args.def ∷ [] = grind arith in
    pushed ∙ sym (put-absent same_chart c.args.def c.args.defs.now.items c.requires.absent)
