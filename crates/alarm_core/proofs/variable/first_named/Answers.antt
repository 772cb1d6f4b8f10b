use Rattle.std.proofs.Common.{sym, ◌∙◌}
use Rattle.alarm_core.specs.Series.{has_name}
use Rattle.alarm_core.proofs.FindLemmas.{find_at, find_more, find_none}
use Rattle.alarm_core.proofs.variable.first_named.Goals as goal

pub loop-one-preserved : goal.loop-one-preserved
loop-one-preserved c =
    find_more (has_name c.args.registry.now c.args.name.now) c.args.series.now c.loop-one.one-index 0 c.loop-one-test.true c.loop-one.invariant (sym c.has_name.ensures ∙ c.if-has_name.false)

pub returns-then-has_name : goal.returns-then-has_name
returns-then-has_name c =
    sym (find_at (has_name c.args.registry.now c.args.name.now) c.args.series.now c.loop-one.one-index 0 c.loop-one-test.true c.loop-one.invariant (sym c.has_name.ensures ∙ c.if-has_name.true))

pub returns : goal.returns
returns c =
    find_none (has_name c.args.registry.now c.args.name.now) c.args.series.now c.loop-one.one-index c.loop-one-test.false c.loop-one.invariant
