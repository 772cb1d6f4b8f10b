use Rattle.std.proofs.Common.{◌≡◌, true, false, rules, arith, refl}
use Rattle.std.proofs.lemmas.Grind.{common_steps}
use Rattle.link_frames.specs.DataForm.{same_dimension}
use Rattle.link_frames.proofs.ApartLaw.{none-apart, keys-none, keys-next, keys-new, keys-twice}
use Rattle.link_frames.proofs.apart.are_dimensions_apart.Goals as goal

pub loop-dimension-init : goal.loop-dimension-init
loop-dimension-init c = record { apart = none-apart same_dimension; seen = keys-none c.new-seen.result c.new-seen.ensures.empty }

pub returns-then-not-branch : goal.returns-then-not-branch
returns-then-not-branch c =
    let old : c.in_ok-insert.field-0 ≡ false = first_of (search rules, grind (arith, common_steps)) in (
      λ is. absurd cc,
      λ apart. absurd (keys-twice c.loop-dimension.seen (c.dimension-item.result.chart, c.as_str.result) c.args.dimensions.now c.loop-dimension.dimension-index c.dimension-item.result c.loop-dimension-test.true c.dimension-item.is c.loop-dimension.invariant.seen
          c.in_ok-insert.field-0 refl c.as_str.ensures c.in_ok-insert.ensures.added old apart),
    )

pub loop-dimension-preserved : goal.loop-dimension-preserved
loop-dimension-preserved c =
    let new : c.in_ok-insert.field-0 ≡ true = first_of (search rules, grind (arith, common_steps)) in
    record {
      apart = keys-new c.loop-dimension.seen (c.dimension-item.result.chart, c.as_str.result) c.args.dimensions.now c.loop-dimension.dimension-index c.dimension-item.result c.loop-dimension-test.true c.dimension-item.is c.loop-dimension.invariant.seen
          c.in_ok-insert.field-0 refl c.as_str.ensures c.loop-dimension.invariant.apart c.in_ok-insert.ensures.added new;
      seen = keys-next c.loop-dimension.seen (c.dimension-item.result.chart, c.as_str.result) c.args.dimensions.now c.loop-dimension.dimension-index c.dimension-item.result c.loop-dimension-test.true c.dimension-item.is c.loop-dimension.invariant.seen
          c.insert.new.self refl c.as_str.ensures c.in_ok-insert.ensures.updates;
    }
