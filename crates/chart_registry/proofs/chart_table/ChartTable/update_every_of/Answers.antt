use Rattle.std.proofs.Common.{arith, sym, ap, ◌∙◌, find}
use Rattle.std.specs.Option.{option_map}
use Rattle.history.specs.declared.chart.ChartDef.{ChartDef}
use Rattle.history.specs.Registry.{is_chart}
use Rattle.chart_registry.proofs.TablesLemmas.{place-within, find-place, find-nowhere}
use Rattle.chart_registry.proofs.chart_table.ChartTable.update_every_of.Goals as goal

pub index-requires : goal.index-requires
index-requires c =
    let found = sym (c.self.invariant c.args.id.now) ∙ sym c.in-Some.ensures.value in
    omega (arith, place-within (is_chart c.args.id.now) c.self.inside.defs.items c.in-Some.place.now found)

pub returns-in-Some : goal.returns-in-Some
returns-in-Some c =
    let found = sym (c.self.invariant c.args.id.now) ∙ sym c.in-Some.ensures.value in
    sym (ap (option_map (λ (def : ChartDef). def.update_every)) (ap (find (is_chart c.args.id.now)) (sym c.self.view_is)
    ∙ find-place (is_chart c.args.id.now) c.self.inside.defs.items c.in-Some.place.now found c.index.result.now c.index.ensures))

pub returns-in-None : goal.returns-in-None
returns-in-None c =
    let none = sym (c.self.invariant c.args.id.now) ∙ sym c.in-None.ensures.value in
    sym (ap (option_map (λ (def : ChartDef). def.update_every)) (ap (find (is_chart c.args.id.now)) (sym c.self.view_is)
    ∙ find-nowhere (is_chart c.args.id.now) c.self.inside.defs.items none))
