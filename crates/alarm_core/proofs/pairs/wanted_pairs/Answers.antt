use Rattle.std.proofs.Common.{◌≡◌, ℕ, ◌≤◌, [], length, List, map, arith, sym, ap, subst, ◌∙◌}
use Rattle.std.proofs.lemmas.List.{length-map}
use Rattle.health_config.specs.Entity.{alarm_of}
use Rattle.std.specs.List.{flat_map, range_with_len}
use Rattle.alarm_core.specs.declared.pairs.Pair.{Pair}
use Rattle.alarm_core.specs.Pairs.{pairs_of, first_pairs, most_pairs}
use Rattle.alarm_core.proofs.PairLemmas.{first_few, first_short, alarm_more}
use Rattle.alarm_core.proofs.pairs.wanted_pairs.Goals as goal

pub push_pairs-requires : goal.push_pairs-requires
push_pairs-requires c = subst (λ (pairs : List Pair). length pairs ≤ most_pairs) (sym c.loop-alarm.invariant) (first_few _)

pub loop-alarm-init : goal.loop-alarm-init
loop-alarm-init c = c.new-pairs.ensures ∙ first_short [] (omega arith)

pub loop-alarm-preserved : goal.loop-alarm-preserved
loop-alarm-preserved c =
    alarm_more (pairs_of (map alarm_of c.args.entities.now) c.args.registry.now.charts) c.loop-alarm.pairs c.push_pairs.new.pairs c.loop-alarm.alarm c.loop-alarm.invariant c.in_ok-push_pairs.ensures

pub returns : goal.returns
returns c =
    let end : c.loop-alarm.alarm ≡ length (map alarm_of c.args.entities.now) =
    omega (arith, c.loop-alarm-test.false, c.loop-alarm.auto.alarm-end, length-map c.args.entities.now alarm_of) in
    c.loop-alarm.invariant ∙ ap (λ (n : ℕ). first_pairs (flat_map (pairs_of (map alarm_of c.args.entities.now) c.args.registry.now.charts) (range_with_len 0 n))) end
