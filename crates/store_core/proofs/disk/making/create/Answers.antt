use Rattle.std.proofs.Common.{◌≡◌, None, refl, sym, ap, ◌∙◌, subst, ℕ, List}
use Rattle.host_model.proofs.MomentLemmas.{at_end, joined}
use Rattle.journal_core.specs.Journal.{JournalState}
use Rattle.store_core.specs.disk.Beginning.{empty_journal}
use Rattle.store_core.specs.disk.Contents.{new_contents}
use Rattle.store_core.specs.disk.Files.{FilesState, IsOpenOf, IsPlaced}
use Rattle.store_core.specs.disk.Shares.{HasRoom}
use Rattle.store_core.proofs.DiskProofs.ShareLemmas.{within_disks}
use Rattle.store_core.proofs.DiskProofs.AdvanceLemmas.{made_done, made_moments, own_both, still_before}
use Rattle.store_core.proofs.DiskProofs.AppendLemmas.{journal_of}
use Rattle.store_core.proofs.disk.making.create.Goals as goal

pub returns-in_err-expect_none-clause-any_moment : goal.returns-in_err-expect_none-clause-any_moment
returns-in_err-expect_none-clause-any_moment g c h =
    let old = (g.H.Host.seen c.args.host.now).past in
    still_before c.args.body.now old old (g.H.Host.seen c.expect_none.new.host).past (c.expect_none.ensures.any_moment h)

pub returns-in_err-bytes-clause-any_moment : goal.returns-in_err-bytes-clause-any_moment
returns-in_err-bytes-clause-any_moment g c h =
    let old = (g.H.Host.seen c.args.host.now).past in
    still_before c.args.body.now old old (g.H.Host.seen c.expect_none.new.host).past (c.expect_none.ensures.any_moment h)

pub returns-in_err-bytes-clause-memory_moment : goal.returns-in_err-bytes-clause-memory_moment
returns-in_err-bytes-clause-memory_moment g c is h = c.expect_none.ensures.any_moment h

pub returns-in_err-begin-clause-any_moment : goal.returns-in_err-begin-clause-any_moment
returns-in_err-begin-clause-any_moment g c h =
    let old = (g.H.Host.seen c.args.host.now).past in let middle = (g.H.Host.seen c.expect_none.new.host).past in let new = (g.H.Host.seen c.begin.new.host).past in
    joined (still_before c.args.body.now old old middle (c.expect_none.ensures.any_moment h))
    (made_moments c.args.body.now c.as_slice.result.now (c.as_slice.ensures ∙ c.in_ok-bytes.ensures) c.requires.spelt c.requires.empty old middle new
    (c.begin.ensures.any_moment h None (c.in_ok-expect_none.ensures.every_disk h) refl))

pub returns-in_err-begin-clause-only_here : goal.returns-in_err-begin-clause-only_here
returns-in_err-begin-clause-only_here g c h =
    let old = (g.H.Host.seen c.args.host.now).past in let middle = (g.H.Host.seen c.expect_none.new.host).past in let new = (g.H.Host.seen c.begin.new.host).past in
    own_both 0 old middle new (c.expect_none.ensures.only_here h) (at_end (c.begin.ensures.only_here h))

pub returns-clause-any_moment : goal.returns-clause-any_moment
returns-clause-any_moment g c h =
    let old = (g.H.Host.seen c.args.host.now).past in let middle = (g.H.Host.seen c.expect_none.new.host).past in let new = (g.H.Host.seen c.begin.new.host).past in
    joined (still_before c.args.body.now old old middle (c.expect_none.ensures.any_moment h))
    (made_moments c.args.body.now c.as_slice.result.now (c.as_slice.ensures ∙ c.in_ok-bytes.ensures) c.requires.spelt c.requires.empty old middle new
    (c.begin.ensures.any_moment h None (c.in_ok-expect_none.ensures.every_disk h) refl))

pub returns-clause-only_here : goal.returns-clause-only_here
returns-clause-only_here g c h =
    let old = (g.H.Host.seen c.args.host.now).past in let middle = (g.H.Host.seen c.expect_none.new.host).past in let new = (g.H.Host.seen c.begin.new.host).past in
    own_both 0 old middle new (c.expect_none.ensures.only_here h) (at_end (c.begin.ensures.only_here h))

pub returns-clause-created : goal.returns-clause-created
returns-clause-created g c h =
    let new = (g.H.Host.seen c.begin.new.host).past in
    let made : c.new.result ≡ record { number = 0; journal = empty_journal 0 } =
    c.new.ensures ∙ ap {B = FilesState} (λ (j : JournalState). record { number = 0; journal = j }) c.begun_journal.ensures in
    subst (λ (files : FilesState). IsOpenOf new files (new_contents c.args.body.now)) (sym made)
    (made_done c.args.body.now c.as_slice.result.now (c.as_slice.ensures ∙ c.in_ok-bytes.ensures) c.requires.spelt c.requires.empty new
    (c.in_ok-begin.ensures.begun h None (c.in_ok-expect_none.ensures.every_disk h) refl) (c.in_ok-begin.ensures.journal h))

pub returns-clause-ready : goal.returns-clause-ready
returns-clause-ready g c =
    let made : c.new.result ≡ record { number = 0; journal = empty_journal 0 } =
    c.new.ensures ∙ ap {B = FilesState} (λ (j : JournalState). record { number = 0; journal = j }) c.begun_journal.ensures in
    record {
      place = subst IsPlaced (sym made) (record { file = refl; generation = refl });
      journal = λ h. journal_of (g.H.Host.seen c.begin.new.host).past c.new.result (new_contents c.args.body.now) (returns-clause-created g c h);
    }

pub returns-in_err-expect_none-clause-bound : goal.returns-in_err-expect_none-clause-bound
returns-in_err-expect_none-clause-bound g c shares room h before =
    within_disks shares (g.H.Host.seen c.args.host.now).past (g.H.Host.seen c.expect_none.new.host).past before (c.expect_none.ensures.any_moment h)

pub returns-in_err-bytes-clause-bound : goal.returns-in_err-bytes-clause-bound
returns-in_err-bytes-clause-bound g c shares room h before =
    within_disks shares (g.H.Host.seen c.args.host.now).past (g.H.Host.seen c.expect_none.new.host).past before (c.expect_none.ensures.any_moment h)

pub returns-in_err-begin-clause-bound : goal.returns-in_err-begin-clause-bound
returns-in_err-begin-clause-bound g c shares room h before =
    let old = (g.H.Host.seen c.args.host.now).past in let middle = (g.H.Host.seen c.expect_none.new.host).past in
    let first = within_disks shares old middle before (c.expect_none.ensures.any_moment h) in
    let here = subst (λ (l : List ℕ). HasRoom shares 0 l) (sym (c.as_slice.ensures ∙ c.in_ok-bytes.ensures)) room in
    joined first (c.begin.ensures.bound shares here h (at_end first))

pub returns-clause-bound : goal.returns-clause-bound
returns-clause-bound g c shares room h before =
    let old = (g.H.Host.seen c.args.host.now).past in let middle = (g.H.Host.seen c.expect_none.new.host).past in
    let first = within_disks shares old middle before (c.expect_none.ensures.any_moment h) in
    let here = subst (λ (l : List ℕ). HasRoom shares 0 l) (sym (c.as_slice.ensures ∙ c.in_ok-bytes.ensures)) room in
    joined first (c.begin.ensures.bound shares here h (at_end first))
