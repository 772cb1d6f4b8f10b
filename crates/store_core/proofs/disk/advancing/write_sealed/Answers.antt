use Rattle.std.proofs.Common.{List, map, refl, sym, subst, ◌≡◌, ℕ}
use Rattle.host_model.specs.declared.file.File.TheVariants.{Tier0, Tier1, Tier2}
use Rattle.host_model.specs.Moments.{EveryImage}
use Rattle.host_model.proofs.MomentLemmas.{at_end, joined}
use Rattle.store_core.specs.declared.disk.sealed.SlotExtent.{SlotExtent}
use Rattle.store_core.specs.declared.disk.sealed.RecordExtent.{RecordExtent}
use Rattle.store_core.specs.disk.Next.{written_records, written_slots}
use Rattle.store_core.specs.disk.Standing.{AllStand, AreBeside}
use Rattle.store_core.specs.disk.Shares.{EndWithin}
use Rattle.store_core.proofs.DiskProofs.ShareLemmas.{within_on}
use Rattle.store_core.proofs.DiskProofs.TierLemmas.{hours_step, image_later, kept_next, minutes_step, points_step}
use Rattle.store_core.proofs.disk.advancing.write_sealed.Goals as goal

pub returns-in_err-write_segments-clause-any_moment : goal.returns-in_err-write_segments-clause-any_moment
returns-in_err-write_segments-clause-any_moment g c h what kept holds next =
    let past0 = (g.H.Host.seen c.args.host.now).past in let past1 = (g.H.Host.seen c.write_segments.new.host).past in
    let step0 = points_step what c.args.sealed.now c.args.body.now kept next c.items_of-points.result past0 past1 (λ file. g.met.H.Host.reads_an_image c.args.host.now file h) holds
    c.items_of-points.ensures.value (c.write_segments.ensures.only_here h)
    (λ others beside held. c.write_segments.ensures.stays h others (subst (λ (l : List SlotExtent). AreBeside others (map written_slots l)) (sym c.as_slice.ensures) beside) held) in
    step0

pub returns-in_err-write_segments-2-clause-any_moment : goal.returns-in_err-write_segments-2-clause-any_moment
returns-in_err-write_segments-2-clause-any_moment g c h what kept holds next =
    let past0 = (g.H.Host.seen c.args.host.now).past in let past1 = (g.H.Host.seen c.write_segments.new.host).past in let past2 = (g.H.Host.seen c.write_segments-2.new.host).past in
    let step0 = points_step what c.args.sealed.now c.args.body.now kept next c.items_of-points.result past0 past1 (λ file. g.met.H.Host.reads_an_image c.args.host.now file h) holds
    c.items_of-points.ensures.value (c.write_segments.ensures.only_here h)
    (λ others beside held. c.write_segments.ensures.stays h others (subst (λ (l : List SlotExtent). AreBeside others (map written_slots l)) (sym c.as_slice.ensures) beside) held) in
    let step1 = minutes_step what c.args.sealed.now c.args.body.now kept next c.items_of-minutes.result past1 past2 (λ file. g.met.H.Host.reads_an_image c.write_segments.new.host file h) (at_end step0)
    c.items_of-minutes.ensures.value (c.write_segments-2.ensures.only_here h)
    (λ others beside held. c.write_segments-2.ensures.stays h others (subst (λ (l : List RecordExtent). AreBeside others (map written_records l)) (sym c.as_slice-2.ensures) beside) held) in
    joined step0 step1

pub returns-in_err-write_segments-3-clause-any_moment : goal.returns-in_err-write_segments-3-clause-any_moment
returns-in_err-write_segments-3-clause-any_moment g c h what kept holds next =
    let past0 = (g.H.Host.seen c.args.host.now).past in let past1 = (g.H.Host.seen c.write_segments.new.host).past in let past2 = (g.H.Host.seen c.write_segments-2.new.host).past in let past3 = (g.H.Host.seen c.write_segments-3.new.host).past in
    let step0 = points_step what c.args.sealed.now c.args.body.now kept next c.items_of-points.result past0 past1 (λ file. g.met.H.Host.reads_an_image c.args.host.now file h) holds
    c.items_of-points.ensures.value (c.write_segments.ensures.only_here h)
    (λ others beside held. c.write_segments.ensures.stays h others (subst (λ (l : List SlotExtent). AreBeside others (map written_slots l)) (sym c.as_slice.ensures) beside) held) in
    let step1 = minutes_step what c.args.sealed.now c.args.body.now kept next c.items_of-minutes.result past1 past2 (λ file. g.met.H.Host.reads_an_image c.write_segments.new.host file h) (at_end step0)
    c.items_of-minutes.ensures.value (c.write_segments-2.ensures.only_here h)
    (λ others beside held. c.write_segments-2.ensures.stays h others (subst (λ (l : List RecordExtent). AreBeside others (map written_records l)) (sym c.as_slice-2.ensures) beside) held) in
    let step2 = hours_step what c.args.sealed.now c.args.body.now kept next c.items_of-hours.result past2 past3 (λ file. g.met.H.Host.reads_an_image c.write_segments-2.new.host file h) (at_end step1)
    c.items_of-hours.ensures.value (c.write_segments-3.ensures.only_here h)
    (λ others beside held. c.write_segments-3.ensures.stays h others (subst (λ (l : List RecordExtent). AreBeside others (map written_records l)) (sym c.as_slice-3.ensures) beside) held) in
    joined (joined step0 step1) step2

pub returns-clause-any_moment : goal.returns-clause-any_moment
returns-clause-any_moment g c h what kept holds next =
    let past0 = (g.H.Host.seen c.args.host.now).past in let past1 = (g.H.Host.seen c.write_segments.new.host).past in let past2 = (g.H.Host.seen c.write_segments-2.new.host).past in let past3 = (g.H.Host.seen c.write_segments-3.new.host).past in
    let step0 = points_step what c.args.sealed.now c.args.body.now kept next c.items_of-points.result past0 past1 (λ file. g.met.H.Host.reads_an_image c.args.host.now file h) holds
    c.items_of-points.ensures.value (c.write_segments.ensures.only_here h)
    (λ others beside held. c.write_segments.ensures.stays h others (subst (λ (l : List SlotExtent). AreBeside others (map written_slots l)) (sym c.as_slice.ensures) beside) held) in
    let step1 = minutes_step what c.args.sealed.now c.args.body.now kept next c.items_of-minutes.result past1 past2 (λ file. g.met.H.Host.reads_an_image c.write_segments.new.host file h) (at_end step0)
    c.items_of-minutes.ensures.value (c.write_segments-2.ensures.only_here h)
    (λ others beside held. c.write_segments-2.ensures.stays h others (subst (λ (l : List RecordExtent). AreBeside others (map written_records l)) (sym c.as_slice-2.ensures) beside) held) in
    let step2 = hours_step what c.args.sealed.now c.args.body.now kept next c.items_of-hours.result past2 past3 (λ file. g.met.H.Host.reads_an_image c.write_segments-2.new.host file h) (at_end step1)
    c.items_of-hours.ensures.value (c.write_segments-3.ensures.only_here h)
    (λ others beside held. c.write_segments-3.ensures.stays h others (subst (λ (l : List RecordExtent). AreBeside others (map written_records l)) (sym c.as_slice-3.ensures) beside) held) in
    joined (joined step0 step1) step2

pub returns-clause-written : goal.returns-clause-written
returns-clause-written g c h what kept holds next =
    let past0 = (g.H.Host.seen c.args.host.now).past in let past1 = (g.H.Host.seen c.write_segments.new.host).past in let past2 = (g.H.Host.seen c.write_segments-2.new.host).past in let past3 = (g.H.Host.seen c.write_segments-3.new.host).past in
    let step0 = points_step what c.args.sealed.now c.args.body.now kept next c.items_of-points.result past0 past1 (λ file. g.met.H.Host.reads_an_image c.args.host.now file h) holds
    c.items_of-points.ensures.value (c.write_segments.ensures.only_here h)
    (λ others beside held. c.write_segments.ensures.stays h others (subst (λ (l : List SlotExtent). AreBeside others (map written_slots l)) (sym c.as_slice.ensures) beside) held) in
    let step1 = minutes_step what c.args.sealed.now c.args.body.now kept next c.items_of-minutes.result past1 past2 (λ file. g.met.H.Host.reads_an_image c.write_segments.new.host file h) (at_end step0)
    c.items_of-minutes.ensures.value (c.write_segments-2.ensures.only_here h)
    (λ others beside held. c.write_segments-2.ensures.stays h others (subst (λ (l : List RecordExtent). AreBeside others (map written_records l)) (sym c.as_slice-2.ensures) beside) held) in
    let step2 = hours_step what c.args.sealed.now c.args.body.now kept next c.items_of-hours.result past2 past3 (λ file. g.met.H.Host.reads_an_image c.write_segments-2.new.host file h) (at_end step1)
    c.items_of-hours.ensures.value (c.write_segments-3.ensures.only_here h)
    (λ others beside held. c.write_segments-3.ensures.stays h others (subst (λ (l : List RecordExtent). AreBeside others (map written_records l)) (sym c.as_slice-3.ensures) beside) held) in
    let zero : EveryImage Tier0 (AllStand 0 c.items_of-points.result (map written_slots c.args.sealed.now.points)) past1 =
    subst (λ (l : List SlotExtent). EveryImage Tier0 (AllStand 0 c.items_of-points.result (map written_slots l)) past1) c.as_slice.ensures (c.in_ok-write_segments.ensures.held h) in
    let one : EveryImage Tier1 (AllStand 1 c.items_of-minutes.result (map written_records c.args.sealed.now.minutes)) past2 =
    subst (λ (l : List RecordExtent). EveryImage Tier1 (AllStand 1 c.items_of-minutes.result (map written_records l)) past2) c.as_slice-2.ensures (c.in_ok-write_segments-2.ensures.held h) in
    let two : EveryImage Tier2 (AllStand 2 c.items_of-hours.result (map written_records c.args.sealed.now.hours)) past3 =
    subst (λ (l : List RecordExtent). EveryImage Tier2 (AllStand 2 c.items_of-hours.result (map written_records l)) past3) c.as_slice-3.ensures (c.in_ok-write_segments-3.ensures.held h) in
    let only1 = c.write_segments-2.ensures.only_here h in let only2 = c.write_segments-3.ensures.only_here h in
    kept_next what c.args.sealed.now c.args.body.now kept c.items_of-points.result c.items_of-minutes.result c.items_of-hours.result past3 next
    c.items_of-points.ensures.value c.items_of-minutes.ensures.value c.items_of-hours.ensures.value (at_end step2)
    (image_later (AllStand 0 c.items_of-points.result (map written_slots c.args.sealed.now.points)) Tier0 Tier2 past2 past3 refl only2
    (image_later (AllStand 0 c.items_of-points.result (map written_slots c.args.sealed.now.points)) Tier0 Tier1 past1 past2 refl only1 zero))
    (image_later (AllStand 1 c.items_of-minutes.result (map written_records c.args.sealed.now.minutes)) Tier1 Tier2 past2 past3 refl only2 one)
    two

-- the same extents, with the same items
ends_as_slots : (tier size items same : ℕ) (new others : List SlotExtent) → items ≡ same → new ≡ others
    → EndWithin tier items size (map written_slots new) → EndWithin tier same size (map written_slots others)
ends_as_slots tier size items same new others is are within =
    subst (λ (l : List SlotExtent). EndWithin tier same size (map written_slots l)) are
    (subst (λ (n : ℕ). EndWithin tier n size (map written_slots new)) is within)

ends_as_records : (tier size items same : ℕ) (new others : List RecordExtent) → items ≡ same → new ≡ others
    → EndWithin tier items size (map written_records new) → EndWithin tier same size (map written_records others)
ends_as_records tier size items same new others is are within =
    subst (λ (l : List RecordExtent). EndWithin tier same size (map written_records l)) are
    (subst (λ (n : ℕ). EndWithin tier n size (map written_records new)) is within)

pub returns-in_err-write_segments-clause-bound : goal.returns-in_err-write_segments-clause-bound
returns-in_err-write_segments-clause-bound g c shares room h before =
    let past0 = (g.H.Host.seen c.args.host.now).past in let past1 = (g.H.Host.seen c.write_segments.new.host).past in
    let step0 = within_on shares Tier0 past0 past1 (c.write_segments.ensures.only_here h) before
    (c.write_segments.ensures.bound (shares Tier0) (ends_as_slots 0 (shares Tier0) _ _ _ _ (sym c.items_of-points.ensures.value) (sym c.as_slice.ensures) room.points) h (before Tier0)) in
    step0

pub returns-in_err-write_segments-2-clause-bound : goal.returns-in_err-write_segments-2-clause-bound
returns-in_err-write_segments-2-clause-bound g c shares room h before =
    let past0 = (g.H.Host.seen c.args.host.now).past in let past1 = (g.H.Host.seen c.write_segments.new.host).past in let past2 = (g.H.Host.seen c.write_segments-2.new.host).past in
    let step0 = within_on shares Tier0 past0 past1 (c.write_segments.ensures.only_here h) before
    (c.write_segments.ensures.bound (shares Tier0) (ends_as_slots 0 (shares Tier0) _ _ _ _ (sym c.items_of-points.ensures.value) (sym c.as_slice.ensures) room.points) h (before Tier0)) in
    let step1 = within_on shares Tier1 past1 past2 (c.write_segments-2.ensures.only_here h) (at_end step0)
    (c.write_segments-2.ensures.bound (shares Tier1) (ends_as_records 1 (shares Tier1) _ _ _ _ (sym c.items_of-minutes.ensures.value) (sym c.as_slice-2.ensures) room.minutes) h ((at_end step0) Tier1)) in
    joined step0 step1

pub returns-in_err-write_segments-3-clause-bound : goal.returns-in_err-write_segments-3-clause-bound
returns-in_err-write_segments-3-clause-bound g c shares room h before =
    let past0 = (g.H.Host.seen c.args.host.now).past in let past1 = (g.H.Host.seen c.write_segments.new.host).past in let past2 = (g.H.Host.seen c.write_segments-2.new.host).past in let past3 = (g.H.Host.seen c.write_segments-3.new.host).past in
    let step0 = within_on shares Tier0 past0 past1 (c.write_segments.ensures.only_here h) before
    (c.write_segments.ensures.bound (shares Tier0) (ends_as_slots 0 (shares Tier0) _ _ _ _ (sym c.items_of-points.ensures.value) (sym c.as_slice.ensures) room.points) h (before Tier0)) in
    let step1 = within_on shares Tier1 past1 past2 (c.write_segments-2.ensures.only_here h) (at_end step0)
    (c.write_segments-2.ensures.bound (shares Tier1) (ends_as_records 1 (shares Tier1) _ _ _ _ (sym c.items_of-minutes.ensures.value) (sym c.as_slice-2.ensures) room.minutes) h ((at_end step0) Tier1)) in
    let step2 = within_on shares Tier2 past2 past3 (c.write_segments-3.ensures.only_here h) (at_end step1)
    (c.write_segments-3.ensures.bound (shares Tier2) (ends_as_records 2 (shares Tier2) _ _ _ _ (sym c.items_of-hours.ensures.value) (sym c.as_slice-3.ensures) room.hours) h ((at_end step1) Tier2)) in
    joined (joined step0 step1) step2

pub returns-clause-bound : goal.returns-clause-bound
returns-clause-bound g c shares room h before =
    let past0 = (g.H.Host.seen c.args.host.now).past in let past1 = (g.H.Host.seen c.write_segments.new.host).past in let past2 = (g.H.Host.seen c.write_segments-2.new.host).past in let past3 = (g.H.Host.seen c.write_segments-3.new.host).past in
    let step0 = within_on shares Tier0 past0 past1 (c.write_segments.ensures.only_here h) before
    (c.write_segments.ensures.bound (shares Tier0) (ends_as_slots 0 (shares Tier0) _ _ _ _ (sym c.items_of-points.ensures.value) (sym c.as_slice.ensures) room.points) h (before Tier0)) in
    let step1 = within_on shares Tier1 past1 past2 (c.write_segments-2.ensures.only_here h) (at_end step0)
    (c.write_segments-2.ensures.bound (shares Tier1) (ends_as_records 1 (shares Tier1) _ _ _ _ (sym c.items_of-minutes.ensures.value) (sym c.as_slice-2.ensures) room.minutes) h ((at_end step0) Tier1)) in
    let step2 = within_on shares Tier2 past2 past3 (c.write_segments-3.ensures.only_here h) (at_end step1)
    (c.write_segments-3.ensures.bound (shares Tier2) (ends_as_records 2 (shares Tier2) _ _ _ _ (sym c.items_of-hours.ensures.value) (sym c.as_slice-3.ensures) room.hours) h ((at_end step1) Tier2)) in
    joined (joined step0 step1) step2
