use Rattle.std.proofs.Common.{arith, ◌≡◌, ℕ, List, [], ◌∷◌, ◌++◌, length, sym, subst, ◌∙◌, string_bytes}
use Rattle.history.specs.Registry.{same_dimension}
use Rattle.chart_registry.proofs.Places.{put-absent}
use Rattle.chart_registry.specs.Places.{place_in, table_in, EntersPlace, FindsDimensions}
use Rattle.chart_registry.proofs.TablesLemmas.{dimension-added}
use Rattle.chart_registry.proofs.dimension_table.add.Goals as goal

pub enter-requires : goal.enter-requires
enter-requires c =
    let def = c.args.dimension in
    let chart : string_bytes c.into_string-chart.result ≡ def.chart = c.into_string-chart.ensures ∙ c.in_ok-clone.ensures.cases in
    let id : string_bytes c.into_string-id.result ≡ def.def.id = c.into_string-id.ensures ∙ c.in_ok-clone-2.ensures.cases in
    record { absent = (λ i. place_in (table_in c.args.tables.now.entries (chart i)) (id i)) ∙ c.requires.found.finds def.chart def.def.id ∙ c.requires.absent }

pub returns-clause-found : goal.returns-clause-found
returns-clause-found c =
    let defs = c.args.defs.now.items in
    let def = c.args.dimension in
    let old = c.args.tables.now.entries in
    let new = c.enter.new.tables.entries in
    let pushed : c.push.new.self.items ≡ defs ++ def ∷ [] = grind arith in
    let place : c.len.result ≡ length defs = grind arith in
    let chart : string_bytes c.into_string-chart.result ≡ def.chart = c.into_string-chart.ensures ∙ c.in_ok-clone.ensures.cases in
    let id : string_bytes c.into_string-id.result ≡ def.def.id = c.into_string-id.ensures ∙ c.in_ok-clone-2.ensures.cases in
    let enters : EntersPlace old def.chart def.def.id (length defs) new
    = subst (λ (place : ℕ). EntersPlace old def.chart def.def.id place new) place
    (subst (λ (text : List ℕ). EntersPlace old def.chart text c.len.result new) id
    (subst (λ (text : List ℕ). EntersPlace old text (string_bytes c.into_string-id.result) c.len.result new) chart c.in_ok-enter.ensures.ok)) in
    subst (FindsDimensions new) (sym pushed) (dimension-added defs def old new c.requires.found enters c.requires.absent)

pub returns-clause-ok : goal.returns-clause-ok
returns-clause-ok c =
    let pushed : c.push.new.self.items ≡ c.args.defs.now.items ++ c.args.dimension ∷ [] = grind arith in
    pushed ∙ sym (put-absent same_dimension c.args.dimension c.args.defs.now.items c.requires.absent)
