use Rattle.std.proofs.Common.{arith, ◌<◌, length, below_more, sym, ap, ◌∙◌}
use Rattle.std.specs.Str.{bytes_eq}
use Rattle.std.proofs.lemmas.List.{get_or_default}
use Rattle.history.specs.Looking.{is_value}
use Rattle.collect_block.specs.Marks.{has_bit}
use Rattle.chart_registry.proofs.Lists.{position-reached, position-missed}
use Rattle.collect_block.proofs.MarksLemmas.{length-marks, mark-apart, values-unseen}
use Rattle.collect_block.proofs.block_values.place_of.Goals as goal
use Rattle.collect_block.proofs.block_values.place_of.Goals.{else-mark-other-via-then-mark-other+else-eq, else-mark-other-via-else-mark-other}

pub returns-then-not-may_have : goal.returns-then-not-may_have
returns-then-not-may_have c =
    let seen = c.args.seen.now in
    sym (values-unseen c.args.marks.now c.args.values.now c.requires.marked seen c.args.id.now c.requires.seen
    (ap (has_bit seen) (sym c.requires.mark) ∙ sym c.may_have.ensures ∙ c.if-not-may_have.true))

pub loop-place-preserved : goal.loop-place-preserved
loop-place-preserved c =
    let marks = c.args.marks.now in
    let values = c.args.values.now in
    let id = c.args.id.now in
    let k = c.loop-place.place in
    let within : k < length values = omega (arith, length-marks marks values c.requires.marked) in
    below_more _ _ c.loop-place.invariant (λ d.
    elim c.else-mark-other.branch [
      | else-mark-other-via-then-mark-other+else-eq w ↦
          ap (is_value id) (get_or_default values k d w.index-values-place.result within)
          ∙ ap (bytes_eq id) (sym w.as_str.ensures) ∙ sym w.eq.ensures ∙ w.if-eq.false
      | else-mark-other-via-else-mark-other w ↦ mark-apart marks values c.requires.marked id k within (λ same. w.if-mark-other.false (c.requires.mark ∙ same)) d
    ])

pub returns-then-eq : goal.returns-then-eq
returns-then-eq c =
    let values = c.args.values.now in
    let id = c.args.id.now in
    let within : c.loop-place.place < length values = omega (arith, length-marks c.args.marks.now values c.requires.marked) in
    sym (position-reached (is_value id) values c.loop-place.place c.loop-place.invariant c.index-values-place.result within
    (ap (bytes_eq id) (sym c.as_str.ensures) ∙ sym c.eq.ensures ∙ c.if-eq.true))

pub returns : goal.returns
returns c =
    let values = c.args.values.now in
    sym (position-missed (is_value c.args.id.now) values c.loop-place.place c.loop-place.invariant (omega (arith, length-marks c.args.marks.now values c.requires.marked)))
