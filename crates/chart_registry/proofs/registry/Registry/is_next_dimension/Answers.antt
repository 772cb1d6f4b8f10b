use Rattle.std.proofs.Common.{◌≡◌, Bool, not, ◌&&◌, true, false, nat_eq, length, is_none, sym, ap, ◌∙◌}
use Rattle.std.proofs.lemmas.Bool.{eq-eqb, ne_eqb}
use Rattle.history.specs.Refusal.{dimensions_full}
use Rattle.history.specs.Registry.{series_of}
use Rattle.chart_registry.specs.Defining.{chart_id, nothing_open}
use Rattle.chart_registry.proofs.Steps.{and-no}
use Rattle.chart_registry.proofs.TakenLemmas.{next-series, none-told}
use Rattle.chart_registry.proofs.registry.Registry.is_next_dimension.Goals as goal

pub returns-then-is_full : goal.returns-then-is_full
returns-then-is_full c =
    let r = c.args.self.now in
    let dimension = c.args.dimension.now in
    let owner = chart_id r dimension.chart in
    let full : dimensions_full r nothing_open owner ≡ true = sym c.is_full.ensures ∙ c.if-is_full.true in
    sym (next-series r dimension c.requires.next
    ∙ ap (λ (b : Bool). not b && (nat_eq dimension.series (length r.dimensions) && is_none (series_of r owner dimension.def.id))) full)

pub returns-then-dimension-dimensions : goal.returns-then-dimension-dimensions
returns-then-dimension-dimensions c =
    let r = c.args.self.now in
    let dimension = c.args.dimension.now in
    let owner = chart_id r dimension.chart in
    let room : dimensions_full r nothing_open owner ≡ false = sym c.is_full.ensures ∙ c.if-is_full.false in
    let same : nat_eq dimension.series (length r.dimensions) ≡ true = eq-eqb dimension.series (length r.dimensions) (c.if-dimension-dimensions.true ∙ c.dimensions.ensures.value) in
    none-told c.is_none.result c.series_of.result c.is_none.ensures ∙ ap is_none (c.series_of.ensures.value ∙ ap (series_of r owner) c.as_str-id.ensures)
    ∙ sym (next-series r dimension c.requires.next ∙ (λ i. not (room i) && (same i && is_none (series_of r owner dimension.def.id))))

pub returns-else-dimension-dimensions : goal.returns-else-dimension-dimensions
returns-else-dimension-dimensions c =
    let r = c.args.self.now in
    let dimension = c.args.dimension.now in
    let owner = chart_id r dimension.chart in
    let full = dimensions_full r nothing_open owner in
    let other : nat_eq dimension.series (length r.dimensions) ≡ false = ne_eqb dimension.series (length r.dimensions) (λ same. c.if-dimension-dimensions.false (same ∙ sym c.dimensions.ensures.value)) in
    ne_eqb dimension.series c.dimensions.result c.if-dimension-dimensions.false
    ∙ sym (next-series r dimension c.requires.next ∙ ap (λ (b : Bool). not full && (b && is_none (series_of r owner dimension.def.id))) other ∙ and-no (not full))
