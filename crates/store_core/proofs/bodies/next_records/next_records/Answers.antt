use Rattle.std.proofs.Common.{ℕ, List, map, arith, ap, ◌∙◌, subst}
use Rattle.fixed_num.specs.declared.units.Record.{Record as ARecord}
use Rattle.beat_tiers.specs.declared.item.Item.{Item}
use Rattle.beat_tiers.specs.Room.{records_held, SegmentsHeld}
use Rattle.checkpoint_body.specs.declared.body.Extent.{Extent}
use Rattle.tier_settings.specs.declared.tier.Tier.{Tier}
use Rattle.store_core.specs.pages.Pages.{AreRecordPagesOf}
use Rattle.store_core.specs.bodies.Next.{AreNextRecords}
use Rattle.store_core.specs.bodies.Tiers.{open_record_of}
use Rattle.store_core.proofs.bodies.next_records.next_records.Goals as goal

pub returns : goal.returns
returns c =
    let held = c.segments-kept.ensures in
    let width = ap (λ (tier : Tier). tier.width) c.tier-width.ensures in
    record {
      floor = ap (λ (counts : ℕ × ℕ × ℕ). counts.0) c.fitting-floor.ensures.value ∙ c.floor.ensures ∙ ap (λ (segments : SegmentsHeld ARecord). segments.kept.floor) held;
      sealed = ap (λ (counts : ℕ × ℕ × ℕ). counts.2) c.fitting-floor.ensures.value ∙ c.count.ensures ∙ ap (λ (segments : SegmentsHeld ARecord). segments.kept.count) held;
      fit = record { floor = c.fitting-floor.ensures.fit.floor; before = omega arith; count = c.fitting-floor.ensures.fit.count };
      open_records =
          c.in_ok-open_records.ensures.records ∙ ap (map (open_record_of c.args.last c.tier-width.result.width)) (c.as_slice.ensures ∙ c.in_ok-current.ensures)
          ∙ ap (λ (seconds : ℕ). map (open_record_of c.args.last seconds) (records_held c.args.now.now).current) width;
      open_fit = c.in_ok-open_records.ensures.fit;
      pages =
          subst (λ (seconds : ℕ). AreRecordPagesOf c.args.number seconds c.args.now.now.segments.kept.unsealed c.in_ok-pages.pages) width
          (subst (λ (items : List (Item ARecord)). AreRecordPagesOf c.args.number c.tier-width.result.width items c.in_ok-pages.pages)
          (c.unsealed.ensures ∙ ap (λ (segments : SegmentsHeld ARecord). segments.kept.unsealed) held)
          (c.in_ok-pages.ensures c.args.number c.requires.number));
      extents =
          subst (λ (seconds : ℕ). AreNextRecords c.args.number seconds c.args.moment c.args.old.now.extents c.args.now.now.segments.kept c.in_ok-extents.extents c.in_ok-extents.new) width
          (subst (λ (segments : SegmentsHeld ARecord). AreNextRecords c.args.number c.tier-width.result.width c.args.moment c.args.old.now.extents segments.kept c.in_ok-extents.extents c.in_ok-extents.new) held
          (subst (λ (old : List Extent). AreNextRecords c.args.number c.tier-width.result.width c.args.moment old c.segments-kept.result.now.kept c.in_ok-extents.extents c.in_ok-extents.new)
          c.as_slice-old_extents.ensures c.in_ok-extents.ensures));
    }
