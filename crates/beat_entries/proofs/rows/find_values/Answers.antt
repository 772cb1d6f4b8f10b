use Rattle.std.proofs.Common.{◌≡◌, Bool, not, ◌||◌, sym, ap, ◌∙◌}
use Rattle.history.specs.declared.beat.OpenValue.{OpenValue}
use Rattle.history.specs.Refusal.{has_dimension}
use Rattle.beat_entries.specs.Gathered.{value_at}
use Rattle.beat_entries.specs.Rules.{with_beat}
use Rattle.beat_entries.proofs.Gathering.{gathered-more}
use Rattle.beat_entries.proofs.RowsFound.{any-more}
use Rattle.beat_entries.proofs.rows.find_values.Goals as goal
use Rattle.beat_entries.proofs.rows.find_values.Goals.{then-lack, else-lack}

pub loop-value-preserved : goal.loop-value-preserved
loop-value-preserved c =
    let registry = c.args.coming.now.registry.now in
    let beat = c.args.coming.now.beat.now in
    let index = c.loop-value.value-index in
    let value = c.value-item.result in
    let there = c.take_value-there.result in
    let lack : c.if-lack.lack ≡ (c.loop-value.lack || not there)
    = elim c.if-lack.branch [
      | then-lack w ↦ w.lack-is ∙ w.if-lack.true ∙ ap (λ (b : Bool). b || not there) (sym w.if-lack.true)
      | else-lack w ↦ w.lack-is ∙ ap (λ (b : Bool). b || not there) (sym w.if-lack.false)
    ] in (
      lack ∙ (λ i. c.loop-value.invariant.0 i || not (c.take_value-there.ensures.found i))
          ∙ any-more (λ (value : OpenValue). not (has_dimension registry beat c.args.chart.now value.id)) c.args.given.now index value c.loop-value-test.true (sym c.value-item.is),
      λ can whole. gathered-more (value_at (with_beat registry beat) c.args.chart.now) c.args.given.now index value c.loop-value.values.items.items c.take_value-there.new.values.items.items
          c.loop-value-test.true (sym c.value-item.is) (c.take_value-there.ensures.items can whole) (c.loop-value.invariant.1 can (c.take_value-there.ensures.before whole)),
    )
