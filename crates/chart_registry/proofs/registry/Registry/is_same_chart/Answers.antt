use Rattle.std.proofs.Common.{◌≡◌, List, ℕ, Bool, ◌&&◌, true, false, nat_eq, sym, ap, ◌∙◌}
use Rattle.history.specs.Registry.{chart_of}
use Rattle.chart_registry.specs.Taking.{is_number}
use Rattle.chart_registry.proofs.TakenLemmas.{same-chart}
use Rattle.chart_registry.proofs.registry.Registry.is_same_chart.Goals as goal

pub returns-then-is_number_of : goal.returns-then-is_number_of
returns-then-is_number_of c =
    let r = c.args.self.now in
    let chart = c.args.chart.now in
    let old = c.chart.result.now in
    let yes : is_number chart.number (chart_of r chart.def.id) ≡ true
    = ap (λ (id : List ℕ). is_number chart.number (chart_of r id)) (sym c.as_str.ensures) ∙ sym c.is_number_of.ensures.value ∙ c.if-is_number_of.true in
    sym (same-chart r chart old c.chart.ensures.value ∙ ap (λ (b : Bool). b && nat_eq old.update_every chart.def.update_every) yes)

pub returns-else-is_number_of : goal.returns-else-is_number_of
returns-else-is_number_of c =
    let r = c.args.self.now in
    let chart = c.args.chart.now in
    let old = c.chart.result.now in
    let no : is_number chart.number (chart_of r chart.def.id) ≡ false
    = ap (λ (id : List ℕ). is_number chart.number (chart_of r id)) (sym c.as_str.ensures) ∙ sym c.is_number_of.ensures.value ∙ c.if-is_number_of.false in
    c.if-is_number_of.false ∙ sym (same-chart r chart old c.chart.ensures.value ∙ ap (λ (b : Bool). b && nat_eq old.update_every chart.def.update_every) no)
