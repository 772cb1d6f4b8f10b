use Rattle.std.proofs.Common.{sym, ap, ◌∙◌}
use Rattle.history.specs.Put.{put}
use Rattle.history.specs.Refusal.{is_new_dimension}
use Rattle.history.specs.Registry.{same_dimension}
use Rattle.beat_entries.proofs.DefinedLemmas.{dimension-alike, dimension-itself}
use Rattle.beat_entries.proofs.FreshLemmas.{none-next, put-next_passing}
use Rattle.beat_entries.proofs.fresh.fresh_dimensions.Goals as goal
use Rattle.beat_entries.proofs.fresh.fresh_dimensions.Goals.{then-is_new_dimension+in_ok-clone+in_ok-clone-2+in_ok-define, else-is_new_dimension}

pub loop-dimension-preserved : goal.loop-dimension-preserved
loop-dimension-preserved c =
    let dimensions = c.args.dimensions.now in
    let dimension = c.dimension-item.result in
    let index = c.loop-dimension.dimension-index in
    let test = is_new_dimension c.args.registry.now in
    elim c.if-is_new_dimension.branch [
      | then-is_new_dimension+in_ok-clone+in_ok-clone-2+in_ok-define w ↦
          w.table-is ∙ w.in_ok-define.ensures.ok
          ∙ (λ i. put same_dimension c.loop-dimension.table (record { chart = w.in_ok-clone.ensures.cases i; def = w.in_ok-clone-2.ensures.cases i }))
          ∙ ap (λ table. put same_dimension table dimension) c.loop-dimension.invariant
          ∙ put-next_passing same_dimension dimension-itself dimension-alike dimensions index dimension c.requires c.loop-dimension-test.true (sym c.dimension-item.is) test
          (sym c.is_new_dimension.ensures ∙ w.if-is_new_dimension.true)
      | else-is_new_dimension w ↦
          w.table-is ∙ c.loop-dimension.invariant
          ∙ none-next test dimensions index dimension c.loop-dimension-test.true (sym c.dimension-item.is) (sym c.is_new_dimension.ensures ∙ w.if-is_new_dimension.false)
    ]
