use Rattle.std.proofs.lemmas.Bool.{false≢true}
use Rattle.store_core.specs.disk.Opened.{contents_of}
use Rattle.store_core.proofs.OpenLemmas.{uncounted}
use Rattle.store_core.proofs.opening.read_tiers.Goals as goal

pub returns-then-not-has_counted-clause-broken : goal.returns-then-not-has_counted-clause-broken
returns-then-not-has_counted-clause-broken c part is stored has =
    uncounted (contents_of c.args.opened.now) (λ counted. false≢true (c.if-not-has_counted.ensures.1 counted)) stored has
