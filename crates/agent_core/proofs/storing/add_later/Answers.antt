use Rattle.std.proofs.Common.{◌≡◌, ◌+◌, ℕ, suc, Some, Ok, Err, rules, slice_get, take, refl, sym, ap, subst, ◌∙◌, arith}
use Rattle.std.proofs.lemmas.Option.{slice_get-get_or}
use Rattle.std.proofs.lemmas.Result.{err_from_is_err_and}
use Rattle.history.specs.History.{copied}
use Rattle.history.specs.Registry.{Registry}
use Rattle.beat_tiers.specs.State.{TiersState}
use Rattle.replication.specs.Copies.{latest as latest_of}
use Rattle.replication.specs.Names.{beat_moment}
use Rattle.link_frames.specs.DataForm.{has_rising_places, has_storage_numbers}
use Rattle.agent_core.specs.declared.fault.AgentFault.TheVariants.{Memory}
use Rattle.agent_core.specs.Kept.{onto}
use Rattle.agent_core.specs.Storing.{later_copies, named_series}
use Rattle.agent_core.proofs.PrefixLemmas.{all-at, later-at, later_copy, latest-next, rises-at, room-moments, sent-later, stored-moments, stored-more, stored-none, stored-room, takes-next, HaveStored}
use Rattle.agent_core.proofs.KeepsLemmas.{keeps-after, keeps-both, keeps-err, keeps-so-far, own-joined}
use Rattle.agent_core.proofs.BoundLemmas.{grows-both, grows-none}
use Rattle.agent_core.proofs.StoringLemmas.{nothing-canonical, nothing-within}
use Rattle.agent_core.proofs.storing.add_later.Goals as goal

pub loop-beat-init : goal.loop-beat-init
loop-beat-init g c = record {
  stored = λ true_host set h holds by all.
      let past = (g.H.Host.seen c.args.host.now).past in
      let more = later_copies c.args.left.now.registry c.args.message.now c.args.beats.now in
      subst (HaveStored past past set h more 0 c.args.store.now c.args.left.now) (sym c.new-events.ensures) (stored-none past set h more c.args.store.now c.args.left.now holds by);
  registry = refl;
  role = λ role. role;
  ready = c.requires.ready;
  replayed = c.requires.replayed;
  going = c.requires.going;
  up_to = c.requires.up_to;
  last = refl;
  settings = refl;
  bound = λ true_host set h holds by all limit fits. grows-none set limit (g.H.Host.seen c.args.host.now).past c.args.store.now;
  gaps = refl;
  only_here = search rules;
  faults = refl;
  tells = refl;
}

pub add_copy-requires-clause-later : goal.add_copy-requires-clause-later
add_copy-requires-clause-later g c =
    let beats = c.args.beats.now in
    let beat = c.beat-item.result in
    let at : slice_get beats c.loop-beat.beat-index ≡ Some beat = slice_get-get_or beats c.loop-beat.beat-index beat c.loop-beat-test.true ∙ ap Some (sym c.beat-item.is) in
    let rises = rises-at c.args.store.now.tiers.last beats c.loop-beat.beat-index beat at c.requires.sent.rises in
    let same = ap (λ (t : TiersState). t.last) c.make_room.ensures.tiers in
    omega (arith, c.loop-beat.invariant.last, same, rises)

pub returns-in_err-make_room-clause-any_moment : goal.returns-in_err-make_room-clause-any_moment
returns-in_err-make_room-clause-any_moment g c true_host set h holds by all =
    let more = later_copies c.args.left.now.registry c.args.message.now c.args.beats.now in
    let n = c.loop-beat.beat-index in
    let was = c.loop-beat.invariant.stored true_host set h holds by all in
    room-moments (g.H.Host.seen c.args.host.now).past (g.H.Host.seen c.loop-beat.host).past (g.H.Host.seen c.make_room.new.host).past set h more n c.loop-beat.store c.loop-beat.left c.loop-beat.events was
    (c.make_room.ensures.any_moment true_host set (onto h (take n more)) was.added.holds was.added.left_by)

pub returns-in_err-more-clause-any_moment : goal.returns-in_err-more-clause-any_moment
returns-in_err-more-clause-any_moment g c true_host set h holds by all =
    let registry = c.args.left.now.registry in
    let message = c.args.message.now in
    let beats = c.args.beats.now in
    let beat = c.beat-item.result in
    let n = c.loop-beat.beat-index in
    let more = later_copies registry message beats in
    let at : slice_get beats n ≡ Some beat = slice_get-get_or beats n beat c.loop-beat-test.true ∙ ap Some (sym c.beat-item.is) in
    let here = later-at registry message beats n beat at in
    let past = (g.H.Host.seen c.args.host.now).past in
    let roomed = (g.H.Host.seen c.make_room.new.host).past in
    let was = c.loop-beat.invariant.stored true_host set h holds by all in
    let stored = stored-room past (g.H.Host.seen c.loop-beat.host).past roomed set h more n c.loop-beat.store c.loop-beat.left c.loop-beat.events was
    (c.make_room.ensures.any_moment true_host set (onto h (take n more)) was.added.holds was.added.left_by) c.make_room.new.store
    (c.in_ok-make_room.ensures.done true_host set (onto h (take n more)) was.added.holds was.added.left_by) in
    let sent = sent-later c.loop-beat.left.registry registry message beat (onto h (take n more))
    c.loop-beat.invariant.registry stored.added.left_by.registry_is (takes-next h more n (copied (later_copy registry message beat)) here all) in
    stored-moments past roomed (g.H.Host.seen c.add_copy.new.host).past set h more n c.make_room.new.store c.loop-beat.left
    c.loop-beat.events stored (copied (later_copy registry message beat)) here (c.add_copy.ensures.any_moment true_host set (onto h (take n more)) (later_copy registry message beat) stored.added.holds sent)

pub returns-in_err-add_events-clause-any_moment : goal.returns-in_err-add_events-clause-any_moment
returns-in_err-add_events-clause-any_moment g c true_host set h holds by all =
    let registry = c.args.left.now.registry in
    let message = c.args.message.now in
    let beats = c.args.beats.now in
    let beat = c.beat-item.result in
    let n = c.loop-beat.beat-index in
    let more = later_copies registry message beats in
    let at : slice_get beats n ≡ Some beat = slice_get-get_or beats n beat c.loop-beat-test.true ∙ ap Some (sym c.beat-item.is) in
    let here = later-at registry message beats n beat at in
    let past = (g.H.Host.seen c.args.host.now).past in
    let roomed = (g.H.Host.seen c.make_room.new.host).past in
    let was = c.loop-beat.invariant.stored true_host set h holds by all in
    let stored = stored-room past (g.H.Host.seen c.loop-beat.host).past roomed set h more n c.loop-beat.store c.loop-beat.left c.loop-beat.events was
    (c.make_room.ensures.any_moment true_host set (onto h (take n more)) was.added.holds was.added.left_by) c.make_room.new.store
    (c.in_ok-make_room.ensures.done true_host set (onto h (take n more)) was.added.holds was.added.left_by) in
    let sent = sent-later c.loop-beat.left.registry registry message beat (onto h (take n more))
    c.loop-beat.invariant.registry stored.added.left_by.registry_is (takes-next h more n (copied (later_copy registry message beat)) here all) in
    stored-moments past roomed (g.H.Host.seen c.add_copy.new.host).past set h more n c.make_room.new.store c.loop-beat.left
    c.loop-beat.events stored (copied (later_copy registry message beat)) here (c.add_copy.ensures.any_moment true_host set (onto h (take n more)) (later_copy registry message beat) stored.added.holds sent)

pub loop-beat-preserved : goal.loop-beat-preserved
loop-beat-preserved g c =
    let registry = c.args.left.now.registry in
    let message = c.args.message.now in
    let beats = c.args.beats.now in
    let beat = c.beat-item.result in
    let n = c.loop-beat.beat-index in
    let more = later_copies registry message beats in
    let at : slice_get beats n ≡ Some beat = slice_get-get_or beats n beat c.loop-beat-test.true ∙ ap Some (sym c.beat-item.is) in
    let here = later-at registry message beats n beat at in
    let next : suc n ≡ n + 1 = omega arith in
    record {
      stored = λ true_host set h holds by all.
          let past = (g.H.Host.seen c.args.host.now).past in
          let roomed = (g.H.Host.seen c.make_room.new.host).past in
          let was = c.loop-beat.invariant.stored true_host set h holds by all in
          let stored = stored-room past (g.H.Host.seen c.loop-beat.host).past roomed set h more n c.loop-beat.store c.loop-beat.left c.loop-beat.events was
          (c.make_room.ensures.any_moment true_host set (onto h (take n more)) was.added.holds was.added.left_by) c.make_room.new.store
          (c.in_ok-make_room.ensures.done true_host set (onto h (take n more)) was.added.holds was.added.left_by) in
          let sent = sent-later c.loop-beat.left.registry registry message beat (onto h (take n more))
          c.loop-beat.invariant.registry stored.added.left_by.registry_is (takes-next h more n (copied (later_copy registry message beat)) here all) in
          let did = c.in_ok-more.ensures.done true_host c.loop-beat.left.registry set (onto h (take n more)) (later_copy registry message beat) stored.added.holds stored.added.left_by sent in
          subst (λ (k : ℕ). HaveStored (g.H.Host.seen c.args.host.now).past (g.H.Host.seen c.add_copy.new.host).past set h more k c.add_copy.new.store c.add_copy.new.left c.add_events.new.events) next
          (stored-more past roomed (g.H.Host.seen c.add_copy.new.host).past set h more n c.make_room.new.store c.loop-beat.left
          c.loop-beat.events stored (copied (later_copy registry message beat)) here (c.add_copy.ensures.any_moment true_host set (onto h (take n more)) (later_copy registry message beat) stored.added.holds sent)
          c.add_copy.new.store c.add_copy.new.left c.in_ok-more.more c.add_events.new.events did c.in_ok-add_events.ensures);
      registry = c.add_copy.ensures.registry ∙ c.loop-beat.invariant.registry;
      role = λ role. c.in_ok-more.ensures.role;
      ready = c.add_copy.ensures.keeps.ready;
      replayed = c.add_copy.ensures.keeps.replayed;
      going = c.in_ok-more.ensures.keeps.going;
      up_to = c.in_ok-more.ensures.up_to;
      last = c.in_ok-more.ensures.last ∙ latest-next c.args.store.now.tiers.last beats n beat at ∙ ap (λ (k : ℕ). latest_of beat_moment c.args.store.now.tiers.last (take k beats)) next;
      settings = c.add_copy.ensures.keeps.settings ∙ c.make_room.ensures.keeps.settings ∙ c.loop-beat.invariant.settings;
      bound = λ true_host set h holds by all limit fits.
          let registry = c.args.left.now.registry in
          let message = c.args.message.now in
          let more = later_copies registry message c.args.beats.now in
          let n = c.loop-beat.beat-index in
          let past = (g.H.Host.seen c.args.host.now).past in
          let here = (g.H.Host.seen c.loop-beat.host).past in
          let roomed = (g.H.Host.seen c.make_room.new.host).past in
          let was = c.loop-beat.invariant.stored true_host set h holds by all in
          let so_far = c.loop-beat.invariant.bound true_host set h holds by all limit fits in
          let first = grows-both set limit past here roomed c.args.store.now c.loop-beat.store c.make_room.new.store so_far (c.make_room.ensures.bound true_host set (onto h (take n more)) was.added.holds was.added.left_by limit fits) in
          let room = c.in_ok-make_room.ensures.done true_host set (onto h (take n more)) was.added.holds was.added.left_by in
          grows-both set limit past roomed (g.H.Host.seen c.add_copy.new.host).past c.args.store.now c.make_room.new.store c.add_copy.new.store first (c.add_copy.ensures.bound true_host set (onto h (take n more)) room limit);
      gaps = c.add_copy.ensures.gaps ∙ c.loop-beat.invariant.gaps;
      only_here = λ h.
          own-joined _ _ _ (own-joined _ _ _ (c.loop-beat.invariant.only_here h) (c.in_ok-make_room.ensures.keeps.only_here h)) (c.in_ok-more.ensures.keeps.only_here h);
      faults = c.in_ok-more.ensures.keeps.cause.stays (λ e. cc) ∙ c.in_ok-make_room.ensures.keeps.cause.stays (λ e. cc) ∙ c.loop-beat.invariant.faults;
      tells = c.add_copy.ensures.keeps.tells ∙ c.make_room.ensures.keeps.tells ∙ c.loop-beat.invariant.tells;
    }

pub add_copy-requires-clause-places : goal.add_copy-requires-clause-places
add_copy-requires-clause-places g c =
    let beats = c.args.beats.now in
    let beat = c.beat-item.result in
    let n = c.loop-beat.beat-index in
    let at : slice_get beats n ≡ Some beat = slice_get-get_or beats n beat c.loop-beat-test.true ∙ ap Some (sym c.beat-item.is) in
    all-at has_rising_places beats n beat at c.requires.sent.places

pub add_copy-requires-clause-words : goal.add_copy-requires-clause-words
add_copy-requires-clause-words g c =
    let beats = c.args.beats.now in
    let beat = c.beat-item.result in
    let n = c.loop-beat.beat-index in
    let at : slice_get beats n ≡ Some beat = slice_get-get_or beats n beat c.loop-beat-test.true ∙ ap Some (sym c.beat-item.is) in
    all-at has_storage_numbers beats n beat at c.requires.sent.words

pub returns-in_err-make_room-clause-keeps : goal.returns-in_err-make_room-clause-keeps
returns-in_err-make_room-clause-keeps g c =
    let inv = c.loop-beat.invariant in
    let so_far = keeps-so-far g.H.Host.honest (g.H.Host.seen c.args.host.now) (g.H.Host.seen c.loop-beat.host) c.args.store.now c.loop-beat.store inv.ready inv.replayed inv.going inv.settings inv.only_here inv.faults inv.tells in
    let p = err_from_is_err_and c.from_residual.result c.from_residual.ensures.1 in
    rw (p.1, p.2) (keeps-err g.H.Host.honest (g.H.Host.seen c.args.host.now) (g.H.Host.seen c.make_room.new.host) c.args.store.now c.make_room.new.store c.in_err-make_room.field-0.0
    (keeps-both g.H.Host.honest (g.H.Host.seen c.args.host.now) (g.H.Host.seen c.loop-beat.host) (g.H.Host.seen c.make_room.new.host) c.args.store.now c.loop-beat.store c.make_room.new.store tt (Err c.in_err-make_room.field-0.0) so_far c.in_err-make_room.ensures.keeps))

pub returns-in_err-more-clause-keeps : goal.returns-in_err-more-clause-keeps
returns-in_err-more-clause-keeps g c =
    let inv = c.loop-beat.invariant in
    let so_far = keeps-so-far g.H.Host.honest (g.H.Host.seen c.args.host.now) (g.H.Host.seen c.loop-beat.host) c.args.store.now c.loop-beat.store inv.ready inv.replayed inv.going inv.settings inv.only_here inv.faults inv.tells in
    let room = keeps-both g.H.Host.honest (g.H.Host.seen c.args.host.now) (g.H.Host.seen c.loop-beat.host) (g.H.Host.seen c.make_room.new.host) c.args.store.now c.loop-beat.store c.make_room.new.store tt (Ok c.in_ok-make_room.field-0) so_far c.in_ok-make_room.ensures.keeps in
    let p = err_from_is_err_and c.from_residual-in_err-more.result c.from_residual-in_err-more.ensures.1 in
    rw (p.1, p.2) (keeps-both g.H.Host.honest (g.H.Host.seen c.args.host.now) (g.H.Host.seen c.make_room.new.host) (g.H.Host.seen c.add_copy.new.host) c.args.store.now c.make_room.new.store c.add_copy.new.store c.in_ok-make_room.field-0 (Err c.in_err-more.field-0.0) room c.in_err-more.ensures.keeps)

pub returns-in_err-add_events-clause-keeps : goal.returns-in_err-add_events-clause-keeps
returns-in_err-add_events-clause-keeps g c =
    let inv = c.loop-beat.invariant in
    let so_far = keeps-so-far g.H.Host.honest (g.H.Host.seen c.args.host.now) (g.H.Host.seen c.loop-beat.host) c.args.store.now c.loop-beat.store inv.ready inv.replayed inv.going inv.settings inv.only_here inv.faults inv.tells in
    let room = keeps-both g.H.Host.honest (g.H.Host.seen c.args.host.now) (g.H.Host.seen c.loop-beat.host) (g.H.Host.seen c.make_room.new.host) c.args.store.now c.loop-beat.store c.make_room.new.store tt (Ok c.in_ok-make_room.field-0) so_far c.in_ok-make_room.ensures.keeps in
    let p = err_from_is_err_and c.from_residual-in_err-add_events.result c.from_residual-in_err-add_events.ensures.1 in
    rw (p.1, p.2) (keeps-after g.H.Host.honest (g.H.Host.seen c.args.host.now) (g.H.Host.seen c.add_copy.new.host) (g.H.Host.seen c.add_copy.new.host) c.args.store.now c.add_copy.new.store c.add_copy.new.store c.in_ok-more.more (Err Memory)
    (keeps-both g.H.Host.honest (g.H.Host.seen c.args.host.now) (g.H.Host.seen c.make_room.new.host) (g.H.Host.seen c.add_copy.new.host) c.args.store.now c.make_room.new.store c.add_copy.new.store c.in_ok-make_room.field-0 (Ok c.in_ok-more.more) room c.in_ok-more.ensures.keeps) refl refl refl)

pub returns-in_err-make_room-clause-bound : goal.returns-in_err-make_room-clause-bound
returns-in_err-make_room-clause-bound g c true_host set h holds by all limit fits =
    let registry = c.args.left.now.registry in
    let message = c.args.message.now in
    let more = later_copies registry message c.args.beats.now in
    let n = c.loop-beat.beat-index in
    let past = (g.H.Host.seen c.args.host.now).past in
    let here = (g.H.Host.seen c.loop-beat.host).past in
    let roomed = (g.H.Host.seen c.make_room.new.host).past in
    let was = c.loop-beat.invariant.stored true_host set h holds by all in
    let so_far = c.loop-beat.invariant.bound true_host set h holds by all limit fits in
    let first = grows-both set limit past here roomed c.args.store.now c.loop-beat.store c.make_room.new.store so_far (c.make_room.ensures.bound true_host set (onto h (take n more)) was.added.holds was.added.left_by limit fits) in
    first

pub returns-in_err-more-clause-bound : goal.returns-in_err-more-clause-bound
returns-in_err-more-clause-bound g c true_host set h holds by all limit fits =
    let registry = c.args.left.now.registry in
    let message = c.args.message.now in
    let more = later_copies registry message c.args.beats.now in
    let n = c.loop-beat.beat-index in
    let past = (g.H.Host.seen c.args.host.now).past in
    let here = (g.H.Host.seen c.loop-beat.host).past in
    let roomed = (g.H.Host.seen c.make_room.new.host).past in
    let was = c.loop-beat.invariant.stored true_host set h holds by all in
    let so_far = c.loop-beat.invariant.bound true_host set h holds by all limit fits in
    let first = grows-both set limit past here roomed c.args.store.now c.loop-beat.store c.make_room.new.store so_far (c.make_room.ensures.bound true_host set (onto h (take n more)) was.added.holds was.added.left_by limit fits) in
    let room = c.in_ok-make_room.ensures.done true_host set (onto h (take n more)) was.added.holds was.added.left_by in
    grows-both set limit past roomed (g.H.Host.seen c.add_copy.new.host).past c.args.store.now c.make_room.new.store c.add_copy.new.store first (c.add_copy.ensures.bound true_host set (onto h (take n more)) room limit)

pub returns-in_err-add_events-clause-bound : goal.returns-in_err-add_events-clause-bound
returns-in_err-add_events-clause-bound g c true_host set h holds by all limit fits =
    let registry = c.args.left.now.registry in
    let message = c.args.message.now in
    let more = later_copies registry message c.args.beats.now in
    let n = c.loop-beat.beat-index in
    let past = (g.H.Host.seen c.args.host.now).past in
    let here = (g.H.Host.seen c.loop-beat.host).past in
    let roomed = (g.H.Host.seen c.make_room.new.host).past in
    let was = c.loop-beat.invariant.stored true_host set h holds by all in
    let so_far = c.loop-beat.invariant.bound true_host set h holds by all limit fits in
    let first = grows-both set limit past here roomed c.args.store.now c.loop-beat.store c.make_room.new.store so_far (c.make_room.ensures.bound true_host set (onto h (take n more)) was.added.holds was.added.left_by limit fits) in
    let room = c.in_ok-make_room.ensures.done true_host set (onto h (take n more)) was.added.holds was.added.left_by in
    grows-both set limit past roomed (g.H.Host.seen c.add_copy.new.host).past c.args.store.now c.make_room.new.store c.add_copy.new.store first (c.add_copy.ensures.bound true_host set (onto h (take n more)) room limit)

pub add_copy-requires-clause-series : goal.add_copy-requires-clause-series
add_copy-requires-clause-series g c = c.requires.series ∙ ap (λ (r : Registry). named_series r c.args.message.now.names) (sym c.loop-beat.invariant.registry)

pub add_copy-requires-clause-within : goal.add_copy-requires-clause-within
add_copy-requires-clause-within g c = nothing-within

pub add_copy-requires-clause-canonical : goal.add_copy-requires-clause-canonical
add_copy-requires-clause-canonical g c = nothing-canonical
