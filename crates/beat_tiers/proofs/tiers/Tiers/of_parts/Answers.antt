use Rattle.std.proofs.Common.{◌+◌}
use Rattle.std.proofs.lemmas.Bool.{and_parts}
use Rattle.beat_tiers.specs.Parts.{are_kept}
use Rattle.beat_tiers.proofs.PartLemmas.{kept-have}
use Rattle.beat_tiers.proofs.tiers.Tiers.of_parts.Goals as goal

pub restore-requires : goal.restore-requires
restore-requires c =
    kept-have c.args.first c.args.last (c.args.last + 1) c.args.points
    (and_parts (are_kept c.args.first c.args.last (c.args.last + 1) c.args.points) _ c.requires.form).0
