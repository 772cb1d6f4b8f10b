use Rattle.std.proofs.Common.{◌≤◌, refl, sym, subst, ◌∙◌}
use Rattle.query_engine.specs.Points.{Tiers}
use Rattle.alarm_core.proofs.LookupLemmas.{gathered_none, gathered_more, gathered_all}
use Rattle.alarm_core.proofs.gather.gather.Goals as goal

pub loop-series-init : goal.loop-series-init
loop-series-init g c = record {
  same = refl;
  still = λ told tells. tells;
  holds = refl;
  unfailed = refl;
  so_far = λ told tells low. gathered_none c.args.scene.now.registry.now c.args.lookup.now c.args.window.start c.args.window.stop told c.args.scene.now.series.now;
}

pub loop-series-preserved : goal.loop-series-preserved
loop-series-preserved g c = record {
  same = c.gather_one.ensures.tiers ∙ c.loop-series.invariant.same;
  still = λ told tells. c.gather_one.ensures.told told (c.loop-series.invariant.still told tells);
  holds = c.gather_one.ensures.held ∙ c.loop-series.invariant.holds;
  unfailed = c.in_ok-gathered.ensures.cause.stays (λ e. absurd cc) ∙ c.loop-series.invariant.unfailed;
  so_far = λ told tells low.
      gathered_more c.args.scene.now.registry.now c.args.lookup.now c.args.window.start c.args.window.stop told c.args.scene.now.series.now c.loop-series.series-index 0
      c.loop-series.gathered _ (λ one. g.met.P.Points.rising_series c.args.points.now told tells one) c.args.window.short c.loop-series-test.true c.args.scene.now.few
      (c.loop-series.invariant.so_far told tells low)
      (c.in_ok-gathered.ensures.adds told (c.loop-series.invariant.still told tells)
      (subst (λ (tiers : Tiers). tiers.floor 0 ≤ c.args.window.start) (sym c.loop-series.invariant.same) low));
}

pub returns-clause-gathered : goal.returns-clause-gathered
returns-clause-gathered g c = λ told tells low.
    gathered_all c.args.scene.now.registry.now c.args.lookup.now c.args.window.start c.args.window.stop told c.args.scene.now.series.now c.loop-series.series-index
    c.loop-series.gathered c.loop-series-test.false (c.loop-series.invariant.so_far told tells low)
