use Rattle.std.proofs.Common.{rules, ℕ, List, sym, ap, ◌∙◌}
use Rattle.history.specs.Refusal.{dimension_refusal}
use Rattle.collect_block.specs.BeatTables.{beat_of}
use Rattle.collect_block.proofs.FeedLemmas.{dimension-refused}
use Rattle.collect_block.proofs.feed.Feed.dimension_refusal.Goals as goal

pub returns-in-Some-clause-reason : goal.returns-in-Some-clause-reason
returns-in-Some-clause-reason c = λ every past copies last is counts.
    c.dimension_refusal.ensures counts.beat c.args.def.now (sym c.as_str-in-Some.ensures)
    ∙ ap (λ (chart : List ℕ). dimension_refusal c.args.registry.now (beat_of c.args.self.now.beat) chart c.args.def.now) c.as_str.ensures
    ∙ sym (dimension-refused c.args.registry.now c.args.self.now every past copies last c.args.def.now c.in-Some.chart is (search rules) (search rules))
