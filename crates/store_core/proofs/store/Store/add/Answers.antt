use Rattle.std.proofs.Common.{◌≡◌, ◌+◌, ◌≤◌, List, [], sym, ap, ◌∙◌, subst, arith}
use Rattle.host_model.specs.Moments.{begins}
use Rattle.journal_core.specs.Form.{record_size}
use Rattle.beat_tiers.specs.declared.item.BeatPoint.{BeatPoint}
use Rattle.beat_tiers.specs.Room.{tiers_held}
use Rattle.beat_tiers.specs.State.{after_beat}
use Rattle.store_core.specs.disk.Files.{FilesState, IsOpenOf}
use Rattle.store_core.specs.disk.Files as files
use Rattle.store_core.specs.disk.Holds.{journal_file}
use Rattle.store_core.specs.disk.Shares.{share}
use Rattle.store_core.specs.Counts.{raised}
use Rattle.store_core.specs.Store.{IsReady, IsStoreOf, StoreState}
use Rattle.store_core.specs.Stored.{stored_with}
use Rattle.store_core.proofs.FollowLemmas.{added_is, append_moments, files_ready, fits_share, may_follow, nothing_done, one_more, ready_more, unsealed}
use Rattle.store_core.proofs.store.Store.add.Goals as goal

-- what adding the record requires

pub append-requires-clause-ready : goal.append-requires-clause-ready
append-requires-clause-ready g c =
    let old = (g.H.Host.seen c.args.host.now).past in
    subst (λ (s : StoreState). files.IsReady g.H.Host.honest old s.files) (sym c.self.view_is)
    (files_ready g.H.Host.honest old c.args.self.now c.requires.ready c.requires.going)

-- where nothing was written

pub returns-in_err-body-clause-any_moment : goal.returns-in_err-body-clause-any_moment
returns-in_err-body-clause-any_moment g c h stored is_of =
    begins (nothing_done (g.H.Host.seen c.args.host.now).past c.args.self.now stored c.args.beat.now is_of)

pub returns-in_err-body-clause-bound : goal.returns-in_err-body-clause-bound
returns-in_err-body-clause-bound g c side numbered h within = begins within

pub returns-in_err-reserve-clause-any_moment : goal.returns-in_err-reserve-clause-any_moment
returns-in_err-reserve-clause-any_moment g c h stored is_of =
    begins (nothing_done (g.H.Host.seen c.args.host.now).past c.args.self.now stored c.args.beat.now is_of)

pub returns-in_err-reserve-clause-bound : goal.returns-in_err-reserve-clause-bound
returns-in_err-reserve-clause-bound g c side numbered h within = begins within

pub returns-then-journal_bytes-gt-JOURNAL_LIMIT-clause-any_moment :
    goal.returns-then-journal_bytes-gt-JOURNAL_LIMIT-clause-any_moment
returns-then-journal_bytes-gt-JOURNAL_LIMIT-clause-any_moment g c h stored is_of =
    begins (nothing_done (g.H.Host.seen c.args.host.now).past c.args.self.now stored c.args.beat.now is_of)

pub returns-then-journal_bytes-gt-JOURNAL_LIMIT-clause-bound : goal.returns-then-journal_bytes-gt-JOURNAL_LIMIT-clause-bound
returns-then-journal_bytes-gt-JOURNAL_LIMIT-clause-bound g c side numbered h within = begins within

-- and where the record was

pub returns-in_err-append-clause-any_moment : goal.returns-in_err-append-clause-any_moment
returns-in_err-append-clause-any_moment g c h stored is_of =
    let old = (g.H.Host.seen c.args.host.now).past in
    let store = c.args.self.now in
    let same : c.self.inside.files ≡ store.files = ap (λ (s : StoreState). s.files) c.self.view_is in
    append_moments old (g.H.Host.seen c.append.new.host).past store c.as_slice.result.now stored c.args.beat.now is_of (c.as_slice.ensures ∙ c.in_ok-body.ensures)
    (may_follow old store stored [] c.args.beat.now is_of c.requires.form c.requires.later (unsealed store c.requires.not_due))
    (λ contents opened. c.append.ensures.any_moment h contents (subst (λ (f : FilesState). IsOpenOf old f contents) (sym same) opened))

pub returns-in_err-append-clause-bound : goal.returns-in_err-append-clause-bound
returns-in_err-append-clause-bound g c side numbered h within =
    let store = c.args.self.now in
    let shares = share store.body.settings side in
    let same : c.self.inside.files ≡ store.files = ap (λ (s : StoreState). s.files) c.self.view_is in
    let fits = fits_share store side c.as_slice.result.now c.args.beat.now c.requires.not_due numbered (c.as_slice.ensures ∙ c.in_ok-body.ensures) c.requires.size in
    c.append.ensures.bound shares (subst (λ (f : FilesState). f.journal.bytes + record_size c.as_slice.result.now ≤ shares (journal_file f.number)) (sym same) fits) h within

pub returns-clause-any_moment : goal.returns-clause-any_moment
returns-clause-any_moment g c h stored is_of =
    let old = (g.H.Host.seen c.args.host.now).past in
    let store = c.args.self.now in
    let same : c.self.inside.files ≡ store.files = ap (λ (s : StoreState). s.files) c.self.view_is in
    append_moments old (g.H.Host.seen c.append.new.host).past store c.as_slice.result.now stored c.args.beat.now is_of (c.as_slice.ensures ∙ c.in_ok-body.ensures)
    (may_follow old store stored [] c.args.beat.now is_of c.requires.form c.requires.later (unsealed store c.requires.not_due))
    (λ contents opened. c.append.ensures.any_moment h contents (subst (λ (f : FilesState). IsOpenOf old f contents) (sym same) opened))

pub returns-clause-bound : goal.returns-clause-bound
returns-clause-bound g c side numbered h within =
    let store = c.args.self.now in
    let shares = share store.body.settings side in
    let same : c.self.inside.files ≡ store.files = ap (λ (s : StoreState). s.files) c.self.view_is in
    let fits = fits_share store side c.as_slice.result.now c.args.beat.now c.requires.not_due numbered (c.as_slice.ensures ∙ c.in_ok-body.ensures) c.requires.size in
    c.append.ensures.bound shares (subst (λ (f : FilesState). f.journal.bytes + record_size c.as_slice.result.now ≤ shares (journal_file f.number)) (sym same) fits) h within

-- the store after it

pub returns-clause-stored : goal.returns-clause-stored
returns-clause-stored g c h stored is_of =
    let old = (g.H.Host.seen c.args.host.now).past in
    let new = (g.H.Host.seen c.append.new.host).past in
    let store = c.args.self.now in
    let beat = c.args.beat.now in
    let opened = c.append.new.self in
    let same : c.self.inside.files ≡ store.files = ap (λ (s : StoreState). s.files) c.self.view_is in
    let taken : tiers_held c.take.new.self ≡ after_beat beat.moment beat.points store.tiers =
    c.take.ensures
    ∙ ap (after_beat beat.moment c.as_slice-points.result.now) c.reserve.ensures.kept
    ∙ ap (λ (points : List BeatPoint). after_beat beat.moment points (tiers_held c.self.inside.tiers)) c.as_slice-points.ensures
    ∙ ap (λ (s : StoreState). after_beat beat.moment beat.points s.tiers) c.self.view_is in
    let count : c.saturating_add-self-inside.result ≡ raised c.self.inside.count = omega (arith, c.saturating_add-self-inside.ensures) in
    let whole = added_is _ store c.saturating_add-self-inside.result (tiers_held c.take.new.self) opened beat c.self.view_is count taken in
    subst (λ (s : StoreState). IsStoreOf new s (stored_with stored beat)) (sym whole)
    (one_more old new store opened c.as_slice.result.now stored beat is_of (c.as_slice.ensures ∙ c.in_ok-body.ensures)
    (may_follow old store stored [] beat is_of c.requires.form c.requires.later (unsealed store c.requires.not_due))
    (λ contents opened. c.in_ok-append.ensures.stored h contents (subst (λ (f : FilesState). IsOpenOf old f contents) (sym same) opened)))

pub returns-clause-ready : goal.returns-clause-ready
returns-clause-ready g c =
    let old = (g.H.Host.seen c.args.host.now).past in
    let new = (g.H.Host.seen c.append.new.host).past in
    let store = c.args.self.now in
    let beat = c.args.beat.now in
    let opened = c.append.new.self in
    let same : c.self.inside.files ≡ store.files = ap (λ (s : StoreState). s.files) c.self.view_is in
    let number : opened.number ≡ store.files.number = ap (λ (f : FilesState). f.number) c.in_ok-append.ensures.files ∙ ap (λ (f : FilesState). f.number) same in
    let taken : tiers_held c.take.new.self ≡ after_beat beat.moment beat.points store.tiers =
    c.take.ensures
    ∙ ap (after_beat beat.moment c.as_slice-points.result.now) c.reserve.ensures.kept
    ∙ ap (λ (points : List BeatPoint). after_beat beat.moment points (tiers_held c.self.inside.tiers)) c.as_slice-points.ensures
    ∙ ap (λ (s : StoreState). after_beat beat.moment beat.points s.tiers) c.self.view_is in
    let count : c.saturating_add-self-inside.result ≡ raised c.self.inside.count = omega (arith, c.saturating_add-self-inside.ensures) in
    let whole = added_is _ store c.saturating_add-self-inside.result (tiers_held c.take.new.self) opened beat c.self.view_is count taken in
    subst (λ (s : StoreState). IsReady g.H.Host.honest new s) (sym whole)
    (ready_more g.H.Host.honest old new store opened c.as_slice.result.now beat c.requires.ready c.requires.replayed c.requires.form c.requires.later (unsealed store c.requires.not_due)
    (c.as_slice.ensures ∙ c.in_ok-body.ensures) c.requires.going number c.in_ok-append.ensures.ready
    (λ h contents opened. c.in_ok-append.ensures.stored h contents (subst (λ (f : FilesState). IsOpenOf old f contents) (sym same) opened)))

-- what was added takes the memory that was reserved

pub take-requires : goal.take-requires
take-requires g c = c.in_ok-reserve.ensures.room
