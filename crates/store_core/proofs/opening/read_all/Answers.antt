use Rattle.std.proofs.Common.{◌≡◌, Err, ap, sym, ◌∙◌, rules}
use Rattle.store_core.specs.declared.fault.OpenFault.TheVariants.{Damaged}
use Rattle.store_core.specs.beats.Records.{beats_from}
use Rattle.store_core.specs.disk.Opened.{contents_of}
use Rattle.store_core.proofs.OpenLemmas.{unread}
use Rattle.store_core.proofs.opening.read_all.Goals as goal

pub returns-in_err-tiers-clause-broken : goal.returns-in_err-tiers-clause-broken
returns-in_err-tiers-clause-broken c part is stored has =
    let fault : c.in_err-tiers.field-0.0 ≡ Damaged part = search (rules, is) in
    c.in_err-tiers.ensures.broken part (ap Err fault) stored has

pub returns-in_err-waiting-clause-broken : goal.returns-in_err-waiting-clause-broken
returns-in_err-waiting-clause-broken c part is stored has =
    let fault : c.in_err-waiting.field-0.0 ≡ Damaged part = search (rules, is) in
    unread (contents_of c.args.opened.now) (ap (beats_from c.args.opened.now.body.last) (sym c.as_slice.ensures) ∙ (c.in_err-waiting.ensures.damaged part (ap Err fault)).1) stored has
