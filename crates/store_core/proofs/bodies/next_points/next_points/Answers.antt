use Rattle.std.proofs.Common.{ℕ, List, ap, ◌∙◌, subst}
use Rattle.beat_tiers.specs.declared.item.Item.{Item}
use Rattle.beat_tiers.specs.declared.item.Stepped.{Stepped}
use Rattle.checkpoint_body.specs.declared.body.Extent.{Extent}
use Rattle.store_core.specs.pages.Pages.{AreSlotPagesOf}
use Rattle.store_core.specs.bodies.Next.{AreNextPoints}
use Rattle.store_core.proofs.bodies.next_points.next_points.Goals as goal

pub returns : goal.returns
returns c = record {
  floor = ap (λ (counts : ℕ × ℕ × ℕ). counts.0) c.fitting-floor.ensures.value ∙ c.floor.ensures;
  before = ap (λ (counts : ℕ × ℕ × ℕ). counts.1) c.fitting-floor.ensures.value ∙ c.before-2.ensures;
  sealed = ap (λ (counts : ℕ × ℕ × ℕ). counts.2) c.fitting-floor.ensures.value ∙ c.count.ensures;
  fit = c.fitting-floor.ensures.fit;
  pages = subst (λ (items : List (Item Stepped)). AreSlotPagesOf items c.in_ok-pages.pages) c.unsealed.ensures c.in_ok-pages.ensures;
  extents =
      subst (λ (old : List Extent). AreNextPoints c.args.moment old c.args.now.now.kept c.in_ok-extents.extents c.in_ok-extents.new) c.as_slice.ensures c.in_ok-extents.ensures;
}
