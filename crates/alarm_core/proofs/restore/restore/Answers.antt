use Rattle.std.proofs.Common.{◌<◌, [], ◌∷◌, ◌++◌, List, length, map, ap, ◌∙◌}
use Rattle.health_config.specs.Entity.{alarm_of}
use Rattle.alarm_events.specs.declared.state.KeptState.{KeptState}
use Rattle.alarm_core.specs.declared.pairs.Pair.{Pair}
use Rattle.alarm_core.specs.Kept as spec
use Rattle.alarm_core.proofs.RestoreLemmas.{states_more, lost_more}
use Rattle.alarm_core.proofs.restore.restore.Goals as goal

pub loop-kept-preserved : goal.loop-kept-preserved
loop-kept-preserved c =
    let alarms = map alarm_of c.args.entities.now in
    let kepts : List KeptState = c.args.states.now in
    let kept : KeptState = c.kept-item.result in
    let before = c.loop-kept.restored in
    let after = c.restore_one.new.restored in
    let inside : c.loop-kept.kept-index < length kepts = c.loop-kept-test.true in
    record {
      states =
          states_more alarms c.args.pairs.now kepts c.loop-kept.kept-index kept before.states after.states before.lost inside c.kept-item.is
          c.loop-kept.invariant.states c.loop-kept.invariant.lost
          (c.in_ok-restore_one.ensures.states
          ∙ ap (λ (pairs : List Pair). before.states ++ spec.state_by (spec.holder_of (length before.lost) (spec.pair_of alarms pairs kept)) kept ∷ []) c.in_ok-of_pairs.ensures);
      lost =
          lost_more alarms c.args.pairs.now kepts c.loop-kept.kept-index kept before.lost after.lost inside c.kept-item.is c.loop-kept.invariant.lost
          (c.in_ok-restore_one.ensures.lost
          ∙ ap (λ (pairs : List Pair). before.lost ++ map (λ (kept : KeptState). kept.alarm) (spec.lost_among alarms pairs (kept ∷ []))) c.in_ok-of_pairs.ensures);
    }
