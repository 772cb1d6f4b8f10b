use Rattle.std.proofs.Common.{◌&&◌, map, arith, sym, ◌∙◌}
use Rattle.std.proofs.lemmas.List.{length-map}
use Rattle.health_config.specs.Entity.{alarm_of}
use Rattle.alarm_core.specs.Pairs.{goes_before_at, is_on_at}
use Rattle.alarm_core.proofs.PairLemmas.{any_found, any_more, any_none}
use Rattle.alarm_core.proofs.pairs.is_replaced.Goals as goal

pub loop-f-preserved : goal.loop-f-preserved
loop-f-preserved c =
    any_more (λ f. goes_before_at (map alarm_of c.args.entities.now) f c.args.e && is_on_at (map alarm_of c.args.entities.now) c.args.def.now f) c.loop-f.f c.loop-f.invariant
    (sym c.counts_before.ensures ∙ c.if-counts_before.false)

pub returns-then-counts_before : goal.returns-then-counts_before
returns-then-counts_before c =
    any_found (λ f. goes_before_at (map alarm_of c.args.entities.now) f c.args.e && is_on_at (map alarm_of c.args.entities.now) c.args.def.now f) _ c.loop-f.f
    (omega (arith, c.loop-f-test.true, length-map c.args.entities.now alarm_of)) (sym c.counts_before.ensures ∙ c.if-counts_before.true)

pub returns : goal.returns
returns c =
    any_none (λ f. goes_before_at (map alarm_of c.args.entities.now) f c.args.e && is_on_at (map alarm_of c.args.entities.now) c.args.def.now f) c.loop-f.f _
    (omega (arith, length-map c.args.entities.now alarm_of)) c.loop-f.invariant
