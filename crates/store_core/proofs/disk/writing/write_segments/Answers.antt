use Rattle.std.proofs.Common.{◌≡◌, ◌≢◌, map, take, get_or, sym, ap, ◌∙◌, subst, arith, ◌+◌, ◌≤◌}
use Rattle.std.specs.List.{All}
use Rattle.std.proofs.lemmas.List.{get_or-map, length-map}
use Rattle.host_model.specs.Images.{Synced, contents}
use Rattle.host_model.specs.Past.{of}
use Rattle.host_model.specs.Moments.{OnlyOn, begins}
use Rattle.host_model.proofs.MomentLemmas.{at_end, joined, OnlyOn-change, OnlyOn-joined, OnlyOn-same}
use Rattle.host_model.proofs.RunLemmas.{images_in_sync}
use Rattle.extent_file.specs.Slot.{tier_of, slot_size, slot_start}
use Rattle.store_core.specs.disk.Next.{IsWritable, Written}
use Rattle.store_core.specs.disk.Standing.{AllStand, StandsIn}
use Rattle.host_model.proofs.SizeLemmas.{within_sync}
use Rattle.store_core.proofs.DiskProofs.ListLemmas.{item_of_map}
use Rattle.store_core.proofs.DiskProofs.WriteLemmas.{before_apart, stand_at_start, stand_before, stand_each, stand_more, synced_after}
use Rattle.store_core.proofs.disk.writing.write_segments.Goals as goal

pub returns-in_err-sync-clause-stays : goal.returns-in_err-sync-clause-stays
returns-in_err-sync-clause-stays g c h others beside held =
    images_in_sync (AllStand (tier_of c.args.file) c.args.items others) g.H.Host.honest c.sync.result c.args.file (g.H.Host.seen c.args.host.now).past (g.H.Host.seen c.sync.new.self).past h
    c.sync.ensures.done c.sync.ensures.torn (g.met.H.Host.reads_an_image c.args.host.now c.args.file h) held

pub loop-segment-init : goal.loop-segment-init
loop-segment-init g c =
    let old = (g.H.Host.seen c.args.host.now).past in
    let new = (g.H.Host.seen c.sync.new.self).past in (
      λ h. synced_after c.args.file old new (c.in_ok-sync.ensures.done h),
      λ h others beside held.
          images_in_sync (AllStand (tier_of c.args.file) c.args.items others) g.H.Host.honest c.sync.result c.args.file old new h
          c.sync.ensures.done c.sync.ensures.torn (g.met.H.Host.reads_an_image c.args.host.now c.args.file h) held,
      λ h k d within. absurd (omega (arith, within)),
      λ h.
          subst (OnlyOn c.args.file old) (sym (c.in_ok-sync.ensures.done h)) (OnlyOn-change c.args.file Synced old old (OnlyOn-same c.args.file old)),
      c.in_ok-sync.ensures.cause.stays (λ failed. cc),
      c.sync.ensures.output,
      λ size fits h before.
          within_sync g.H.Host.honest c.sync.result size c.args.file old old new h c.sync.ensures.done c.sync.ensures.torn
          (g.met.H.Host.reads_an_image c.args.host.now c.args.file h) (begins before),
    )

pub write_segment-requires-clause-writable : goal.write_segment-requires-clause-writable
write_segment-requires-clause-writable g c =
    item_of_map g.S.Segment.written (IsWritable (tier_of c.args.file) c.args.items) c.args.segments.now c.loop-segment.segment-index c.segment-item.result
    c.requires.writable c.loop-segment-test.true c.segment-item.is

pub returns-in_err-write_segment-clause-stays : goal.returns-in_err-write_segment-clause-stays
returns-in_err-write_segment-clause-stays g c h others beside held =
    let before = c.loop-segment.invariant.1 h others beside held in
    let file = c.args.file in let past = (g.H.Host.seen c.loop-segment.host).past in
    joined before
    (c.write_segment.ensures.stays h others
    (item_of_map g.S.Segment.written (λ (one : Written). All (λ (other : Written). other.slot ≢ one.slot) others) c.args.segments.now c.loop-segment.segment-index c.segment-item.result
    beside c.loop-segment-test.true c.segment-item.is)
    (at_end before (contents (of file past)) (g.met.H.Host.reads_an_image c.loop-segment.host file h)))

pub loop-segment-preserved : goal.loop-segment-preserved
loop-segment-preserved g c =
    let file = c.args.file in let tier = tier_of c.args.file in let items = c.args.items in
    let segments = map g.S.Segment.written c.args.segments.now in let index = c.loop-segment.segment-index in
    let start = (g.H.Host.seen c.args.host.now).past in
    let past = (g.H.Host.seen c.loop-segment.host).past in
    let new = (g.H.Host.seen c.write_segment.new.host).past in
    let one = g.S.Segment.written c.segment-item.result in
    let long = length-map c.args.segments.now g.S.Segment.written in
    let test = c.loop-segment-test.true in
    let here : (d : Written) → get_or segments index d ≡ one =
    (λ d. get_or-map g.S.Segment.written c.args.segments.now index c.segment-item.result d c.loop-segment-test.true ∙ ap g.S.Segment.written (sym c.segment-item.is)) in (
      c.in_ok-write_segment.ensures.synced,
      λ h others beside held.
          let before = c.loop-segment.invariant.1 h others beside held in
          joined before
          (c.write_segment.ensures.stays h others
          (item_of_map g.S.Segment.written (λ (w : Written). All (λ (other : Written). other.slot ≢ w.slot) others) c.args.segments.now c.loop-segment.segment-index c.segment-item.result
          beside c.loop-segment-test.true c.segment-item.is)
          (at_end before (contents (of c.args.file (g.H.Host.seen c.loop-segment.host).past)) (g.met.H.Host.reads_an_image c.loop-segment.host c.args.file h))),
      λ h.
          let apart = before_apart segments index one c.requires.apart (omega (arith, test, long)) in
          let stand = stand_before tier items (contents (of file past)) segments index (c.loop-segment.invariant.2 h) in
          let stays = at_end (c.write_segment.ensures.stays h (take index segments)
          (subst (λ (w : Written). All (λ (other : Written). other.slot ≢ w.slot) (take index segments)) (here one) apart) stand)
          (contents (of file new)) (g.met.H.Host.reads_an_image c.write_segment.new.host file h) in
          stand_more tier items (contents (of file new)) segments index
          (stand_each tier items (contents (of file new)) segments index (omega (arith, test, long)) stays)
          (λ d. subst (StandsIn tier items (contents (of file new))) (sym (here d)) (c.in_ok-write_segment.ensures.held h)),
      λ h. OnlyOn-joined file start past new (c.loop-segment.invariant.3 h) (c.write_segment.ensures.only_here h),
      c.in_ok-write_segment.ensures.cause.stays (λ failed. cc) ∙ c.loop-segment.invariant.4,
      c.write_segment.ensures.output ∙ c.loop-segment.invariant.5,
      λ size fits h before.
          let sofar = c.loop-segment.invariant.6 size fits h before in
          joined sofar
          (c.write_segment.ensures.bound size
          (item_of_map g.S.Segment.written (λ (one : Written). slot_start (tier_of c.args.file) c.args.items one.slot + slot_size (tier_of c.args.file) c.args.items ≤ size) c.args.segments.now c.loop-segment.segment-index c.segment-item.result
          fits c.loop-segment-test.true c.segment-item.is)
          h (at_end sofar)),
    )

pub returns-clause-held : goal.returns-clause-held
returns-clause-held g c h =
    let segments = map g.S.Segment.written c.args.segments.now in
    let long = length-map c.args.segments.now g.S.Segment.written in
    let done = c.loop-segment-test.false in
    stand_at_start c.args.file c.args.items (g.H.Host.seen c.loop-segment.host).past segments (c.loop-segment.invariant.0 h)
    (λ k d within. c.loop-segment.invariant.2 h k d (omega (arith, within, done, long)))

pub returns-in_err-sync-clause-bound : goal.returns-in_err-sync-clause-bound
returns-in_err-sync-clause-bound g c size fits h before =
    let old = (g.H.Host.seen c.args.host.now).past in
    within_sync g.H.Host.honest c.sync.result size c.args.file old old (g.H.Host.seen c.sync.new.self).past h c.sync.ensures.done c.sync.ensures.torn
    (g.met.H.Host.reads_an_image c.args.host.now c.args.file h) (begins before)

pub returns-in_err-write_segment-clause-bound : goal.returns-in_err-write_segment-clause-bound
returns-in_err-write_segment-clause-bound g c size fits h before =
    let sofar = c.loop-segment.invariant.6 size fits h before in
    joined sofar
    (c.write_segment.ensures.bound size
    (item_of_map g.S.Segment.written (λ (one : Written). slot_start (tier_of c.args.file) c.args.items one.slot + slot_size (tier_of c.args.file) c.args.items ≤ size) c.args.segments.now c.loop-segment.segment-index c.segment-item.result
    fits c.loop-segment-test.true c.segment-item.is)
    h (at_end sofar))

pub returns-clause-bound : goal.returns-clause-bound
returns-clause-bound g c = c.loop-segment.invariant.6
