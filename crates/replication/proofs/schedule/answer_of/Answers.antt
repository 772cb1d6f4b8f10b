use Rattle.std.proofs.Common.{◌≡◌, length, subst, sym, ap, ◌∙◌, arith, Option}
use Rattle.std.specs.Prelude.{IfOk}
use Rattle.replication.specs.declared.message.Data.{Data}
use Rattle.replication.specs.Answer.{AreNames, AreBeatsOf, HaveWords, data_of}
use Rattle.replication.specs.Copies.{RisesFrom}
use Rattle.replication.specs.Names.{beat_moment}
use Rattle.replication.specs.Points.{points_of, names_in, names_of, numbered_beats}
use Rattle.replication.specs.World.{floor_now}
use Rattle.replication.proofs.PointsLaws.{names_of-AreNames, numbered_beats-AreBeatsOf}
use Rattle.replication.proofs.WorldLaws.{length-in_order, numbered-rises, numbered_beats-HaveWords}
use Rattle.replication.proofs.schedule.answer_of.Goals as goal

pub names_of-requires : goal.names_of-requires
names_of-requires c =
    let all = c.as_slice-all.ensures.value ∙ c.in_ok-points.ensures ∙ ap names_in c.as_slice-child.ensures in
    omega (arith, ap length all, length-in_order (points_of c.args.world.now.beats), c.requires.few)

pub numbered_beats-requires : goal.numbered_beats-requires
numbered_beats-requires c =
    let all = c.as_slice-all.ensures.value ∙ c.in_ok-points.ensures ∙ ap names_in c.as_slice-child.ensures in
    omega (arith, ap length all, length-in_order (points_of c.args.world.now.beats), c.requires.few)

pub answer-requires-clause-names : goal.answer-requires-clause-names
answer-requires-clause-names c = subst AreNames (sym c.in_ok-names.ensures) (names_of-AreNames c.as_slice-all.result.now)

pub answer-requires-clause-rises : goal.answer-requires-clause-rises
answer-requires-clause-rises c =
    subst (RisesFrom beat_moment 0) (sym (c.in_ok-beats.ensures ∙ ap (numbered_beats c.as_slice-all.result.now) c.as_slice-child.ensures))
    (numbered-rises c.as_slice-all.result.now c.args.world.now.beats c.requires.sound.rises)

pub answer-requires-clause-words : goal.answer-requires-clause-words
answer-requires-clause-words c =
    subst HaveWords (sym (c.in_ok-beats.ensures ∙ ap (numbered_beats c.as_slice-all.result.now) c.as_slice-child.ensures))
    (numbered_beats-HaveWords c.as_slice-all.result.now c.args.world.now.beats c.requires.sound.points)

pub answer-requires-clause-series : goal.answer-requires-clause-series
answer-requires-clause-series c =
    let child = c.args.world.now.beats in
    let all : c.as_slice-all.result.now ≡ names_in child = c.as_slice-all.ensures.value ∙ c.in_ok-points.ensures ∙ ap names_in c.as_slice-child.ensures in
    let names : c.in_ok-names.names ≡ names_of (names_in child) = c.in_ok-names.ensures ∙ ap names_of all in
    let beats : c.in_ok-beats.beats ≡ numbered_beats (names_in child) child = c.in_ok-beats.ensures ∙ (λ i. numbered_beats (all i) (c.as_slice-child.ensures i)) in
    subst (λ names. AreBeatsOf (length names.dimensions) c.in_ok-beats.beats) (sym names)
    (subst (AreBeatsOf (length (names_of (names_in child)).dimensions)) (sym beats) (numbered_beats-AreBeatsOf child))

pub returns : goal.returns
returns c =
    let child = c.args.world.now.beats in
    let all : c.as_slice-all.result.now ≡ names_in child = c.as_slice-all.ensures.value ∙ c.in_ok-points.ensures ∙ ap names_in c.as_slice-child.ensures in
    let names : c.in_ok-names.names ≡ names_of (names_in child) = c.in_ok-names.ensures ∙ ap names_of all in
    let beats : c.in_ok-beats.beats ≡ numbered_beats (names_in child) child = c.in_ok-beats.ensures ∙ (λ i. numbered_beats (all i) (c.as_slice-child.ensures i)) in
    let floor : c.last_moment-floor.result ≡ floor_now 0 c.args.world.now.floors = c.last_moment-floor.ensures ∙ ap (floor_now 0) c.as_slice-floors.ensures in
    subst (λ (answer : Option Data). IfOk c.answer.result (λ found. found ≡ answer)) (λ i. data_of 1 (floor i) (names i) (beats i) c.args.ask.now) c.answer.ensures
