use Rattle.std.proofs.Common.{◌≡◌, ℕ, List, Err, refl, ap, sym, ◌∙◌, subst, rules}
use Rattle.host_model.specs.Disks.{reads_as}
use Rattle.store_core.specs.declared.fault.OpenFault.TheVariants.{Damaged, NotADatabase}
use Rattle.store_core.specs.beats.Records.{beats_from}
use Rattle.store_core.proofs.BeatProofs.RecordLaw.{AreBytes}
use Rattle.std.proofs.lemmas.Result.{err_from_is_err_and}
use Rattle.store_core.proofs.DamageLemmas.{left-records}
use Rattle.store_core.proofs.OpenLemmas.{left-form, left-ready}
use Rattle.store_core.proofs.StandLemmas.{none-made}
use Rattle.store_core.proofs.opening.open_left.Goals as goal

pub returns-in_err-left-clause-none : goal.returns-in_err-left-clause-none
returns-in_err-left-clause-none g c is h =
    let p = err_from_is_err_and c.from_residual.result c.from_residual.ensures.1 in
    let fault : p.0 ≡ NotADatabase = cc in
    none-made (reads_as (g.H.Host.seen c.args.host.now).past) (c.in_err-left.ensures.none (ap Err (sym p.2 ∙ fault)) h)

pub returns-in_err-waiting-clause-damaged : goal.returns-in_err-waiting-clause-damaged
returns-in_err-waiting-clause-damaged g c part is h =
    let left = c.in_ok-left.left in
    let fault : c.in_err-waiting.field-0.0 ≡ Damaged part = search (rules, is) in
    let none = c.in_err-waiting.ensures.damaged part (ap Err fault) in
    left-records part left.files.number left.body left.records (reads_as (g.H.Host.seen c.args.host.now).past) (c.in_ok-left.ensures.formed h) none.0
    (ap (beats_from left.body.last) (sym c.as_slice.ensures) ∙ none.1)

pub returns-clause-ready : goal.returns-clause-ready
returns-clause-ready g c =
    let left = c.in_ok-left.left in
    left-ready g.H.Host.honest (g.H.Host.seen c.open_left.new.host).past _ left.body.last left.records refl c.in_ok-tiers.ensures.sound c.in_ok-tiers.ensures.last
    (ap (beats_from left.body.last) (sym c.as_slice.ensures) ∙ c.in_ok-waiting.ensures.beats) (subst (λ (l : List (List ℕ)). AreBytes l) c.as_slice.ensures c.in_ok-waiting.ensures.bytes)
    c.in_ok-left.ensures.ready

pub returns-clause-form : goal.returns-clause-form
returns-clause-form g c h =
    let left = c.in_ok-left.left in
    left-form left.body _ left.files.number left.records (reads_as (g.H.Host.seen c.args.host.now).past) (c.in_ok-left.ensures.formed h)
    (ap (beats_from left.body.last) (sym c.as_slice.ensures) ∙ c.in_ok-waiting.ensures.beats)
