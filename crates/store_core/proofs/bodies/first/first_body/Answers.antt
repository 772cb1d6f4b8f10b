use Rattle.std.proofs.Common.{ap, sym, subst, ◌∙◌}
use Rattle.beat_tiers.specs.State.{no_beats}
use Rattle.checkpoint_body.specs.declared.body.Body.{Body}
use Rattle.checkpoint_body.specs.Body.{HasSpelling}
use Rattle.store_core.specs.disk.Contents.{no_pages}
use Rattle.tier_settings.specs.declared.settings.Settings.{Settings}
use Rattle.tier_settings.specs.Settings.{first_tier, other_tiers}
use Rattle.store_core.specs.bodies.First.{first_body}
use Rattle.store_core.specs.bodies.Tiers.{AreTiersOfBody}
use Rattle.store_core.proofs.BodyProofs.FirstLemmas.{begun}
use Rattle.store_core.proofs.bodies.first.first_body.Goals as goal

pub returns-clause-spelt : goal.returns-clause-spelt
returns-clause-spelt c =
    subst HasSpelling (sym (c.body_of.ensures ∙ ap (λ (set : Settings). first_body set c.args.side) c.in_ok-copy.ensures))
    (begun c.args.settings.now c.args.side c.requires.settings c.requires.short).spelt

pub returns-clause-tiers : goal.returns-clause-tiers
returns-clause-tiers c =
    subst (λ (body : Body). AreTiersOfBody body no_pages (no_beats (first_tier c.args.settings.now) (other_tiers c.args.settings.now)))
    (sym (c.body_of.ensures ∙ ap (λ (set : Settings). first_body set c.args.side) c.in_ok-copy.ensures))
    (begun c.args.settings.now c.args.side c.requires.settings c.requires.short).tiers
