use Rattle.std.proofs.Common.{◌≡◌, not, filter, position, Some, sym, ap, ◌∙◌}
use Rattle.history.specs.declared.beat.OpenValue.{OpenValue}
use Rattle.history.specs.Looking.{is_value}
use Rattle.chart_registry.proofs.Places.{first-from_position, nowhere-from_position}
use Rattle.chart_registry.proofs.Lists.{filter-remove, filter-nowhere}
use Rattle.collect_block.proofs.MarksLemmas.{marks-removed, seen-removed}
use Rattle.collect_block.proofs.block_values.drop_value.Goals as goal

pub loop-place-preserved : goal.loop-place-preserved
loop-place-preserved c =
    let values = c.loop-place.values.items in
    let own = is_value c.args.id.now in
    let found : position own values ≡ Some c.in-Some.place = ap (position own) (sym c.as_slice-in-loop-place.ensures.value) ∙ sym c.in-Some.ensures in
    record {
      marked = marks-removed c.loop-place.marks.items values c.loop-place.invariant.marked c.in-Some.place
          c.remove.new.self.items c.remove-in-Some.new.self.items c.remove.ensures.items c.remove-in-Some.ensures.items;
      seen = seen-removed c.args.seen.now c.loop-place.marks.items c.loop-place.invariant.seen c.in-Some.place c.remove.new.self.items c.remove.ensures.items;
      others = ap (filter (λ (value : OpenValue). not (own value))) c.remove-in-Some.ensures.items
          ∙ filter-remove own values c.in-Some.place (first-from_position own values c.in-Some.place found) ∙ c.loop-place.invariant.others;
    }

pub returns-clause-dropped : goal.returns-clause-dropped
returns-clause-dropped c =
    let values = c.loop-place.values.items in
    let own = is_value c.args.id.now in
    sym (filter-nowhere own values (nowhere-from_position own values (ap (position own) (sym c.as_slice-in-loop-place.ensures.value) ∙ sym c.in_default.ensures)))
    ∙ c.loop-place.invariant.others
