use Rattle.std.proofs.Common.{◌-◌, ◌/◌, get_or, arith, ap, subst, ◌∙◌, max, min}
use Rattle.query_engine.specs.Points.{IsFirstRecord}
use Rattle.query_engine.proofs.PartLemmas.{AreBuckets, buckets_read, part_end, part_found, part_empty}
use Rattle.query_engine.proofs.window.read_records.Goals as goal

pub returns-in-Some-clause-part : goal.returns-in-Some-clause-part
returns-in-Some-clause-part g c =
    let plan = c.args.plan in
    let w = c.from-width.result in
    let are : AreBuckets plan.width c.args.from c.args.end (c.args.from / w) ((c.min.result - 1) / w) =
    buckets_read plan.width w c.args.from c.args.end c.min.result c.from-width.ensures c.min.ensures c.requires.plan.positive c.requires.from c.requires.end c.requires.buckets.0 c.requires.buckets.1 in
    part_end plan c.args.from c.args.end (c.args.from / w) ((c.min.result - 1) / w) c.clamp.result w are c.from-width.ensures c.requires.plan.positive
    (omega (arith, c.clamp.ensures)) (omega (arith, c.clamp.ensures, are.in_order))

pub returns-in-Some-clause-found : goal.returns-in-Some-clause-found
returns-in-Some-clause-found g c = λ told tells high.
    let plan = c.args.plan in
    let w = c.from-width.result in
    let tiers = g.P.Points.tiers c.args.points.now in
    let are : AreBuckets plan.width c.args.from c.args.end (c.args.from / w) ((c.min.result - 1) / w) =
    buckets_read plan.width w c.args.from c.args.end c.min.result c.from-width.ensures c.min.ensures c.requires.plan.positive c.requires.from c.requires.end c.requires.buckets.0 c.requires.buckets.1 in
    part_found plan tiers c.args.from c.args.end (c.args.from / w) ((c.min.result - 1) / w) c.in-Some.bucket c.clamp.result w (told c.args.series) c.in-Some.record are c.requires.plan
    c.from-width.ensures (c.clamp.ensures ∙ ap (λ b. max (c.args.from / w) (min b ((c.min.result - 1) / w))) c.from.ensures)
    (g.met.P.Points.rising_series c.args.points.now told tells c.args.series) high
    (subst (IsFirstRecord (get_or tiers.widths plan.tier 0) (tiers.floor plan.tier) (c.args.from / w) ((c.min.result - 1) / w) (told c.args.series)) c.in-Some.is (c.in_ok-found.ensures.found told tells))

pub returns-in-None-clause-found : goal.returns-in-None-clause-found
returns-in-None-clause-found g c = λ told tells high.
    let plan = c.args.plan in
    let w = c.from-width.result in
    let tiers = g.P.Points.tiers c.args.points.now in
    let are : AreBuckets plan.width c.args.from c.args.end (c.args.from / w) ((c.min.result - 1) / w) =
    buckets_read plan.width w c.args.from c.args.end c.min.result c.from-width.ensures c.min.ensures c.requires.plan.positive c.requires.from c.requires.end c.requires.buckets.0 c.requires.buckets.1 in
    part_empty plan tiers c.args.from c.args.end (c.args.from / w) ((c.min.result - 1) / w) (told c.args.series) are c.requires.plan
    (g.met.P.Points.rising_series c.args.points.now told tells c.args.series) high
    (subst (IsFirstRecord (get_or tiers.widths plan.tier 0) (tiers.floor plan.tier) (c.args.from / w) ((c.min.result - 1) / w) (told c.args.series)) c.in-None.is (c.in_ok-found.ensures.found told tells))
