use Rattle.std.proofs.Common.{ap, sym, ◌∙◌}
use Rattle.std.proofs.lemmas.List.{drop_all}
use Rattle.beat_tiers.specs.Parts.{are_record_tiers}
use Rattle.beat_tiers.proofs.PartLemmas.{none-left}
use Rattle.beat_tiers.proofs.form.are_record_tiers.Goals as goal

pub returns : goal.returns
returns c =
    c.is_empty.ensures
    ∙ none-left c.args.last c.loop-kept.ahead.now
    ∙ ap (are_record_tiers c.args.last c.loop-kept.ahead.now) (sym (drop_all c.loop-kept.kept-index c.args.records.now c.loop-kept-test.false))
    ∙ c.loop-kept.invariant.0
