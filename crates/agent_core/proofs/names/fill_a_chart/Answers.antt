use Rattle.std.proofs.Common.{List, rules, sym, subst, ◌∙◌}
use Rattle.std.proofs.lemmas.List.{take_all}
use Rattle.replication.specs.declared.names.DimName.{DimName}
use Rattle.agent_core.specs.NewNames.{CountsNew}
use Rattle.agent_core.proofs.NewNames.{counts-next, counts-none, none-fills, one-fills, room-none}
use Rattle.agent_core.proofs.names.fill_a_chart.Goals as goal

pub loop-dimension-init : goal.loop-dimension-init
loop-dimension-init c = record {
  counted = counts-none c.args.registry.now c.args.names.now 4096 c.requires.few;
  room = room-none c.args.registry.now c.args.names.now 4096 c.requires.few;
  size = search rules;
}

pub loop-dimension-preserved : goal.loop-dimension-preserved
loop-dimension-preserved c = record {
  counted = counts-next c.args.registry.now c.args.names.now _ c.loop-dimension.dimension-index c.dimension-item.result
      c.loop-dimension-test.true (sym c.dimension-item.is) c.loop-dimension.counts c.fills_chart.new.counts c.loop-dimension.invariant.counted (c.fills_chart.ensures.counted c.if-fills_chart.false);
  room = c.fills_chart.ensures.room c.if-fills_chart.false c.loop-dimension.invariant.room;
  size = search rules;
}

pub returns-then-fills_chart : goal.returns-then-fills_chart
returns-then-fills_chart c =
    sym (one-fills c.args.registry.now c.args.names.now c.requires.apart.charts c.loop-dimension.counts c.loop-dimension.dimension-index c.dimension-item.result
    (search rules) (search rules) (search rules) (c.fills_chart.ensures.full c.if-fills_chart.true))

pub returns : goal.returns
returns c =
    let registry = c.args.registry.now in
    let names = c.args.names.now in
    let counts = c.loop-dimension.counts in
    let counted : CountsNew registry names names.dimensions counts
    = subst (λ (dimensions : List DimName). CountsNew registry names dimensions counts) (take_all _ _ (search rules) ∙ c.as_slice-dimensions.ensures) c.loop-dimension.invariant.counted in
    sym (none-fills registry names c.requires.apart.charts counts counted c.loop-dimension.invariant.room)
