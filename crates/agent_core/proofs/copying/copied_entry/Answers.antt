use Rattle.std.proofs.Common.{rules}
use Rattle.agent_core.specs.Storing.{defining}
use Rattle.agent_core.proofs.EntryLemmas.{told-spelt}
use Rattle.agent_core.proofs.copying.copied_entry.Goals as goal

pub returns-clause-spelt : goal.returns-clause-spelt
returns-clause-spelt c =
    let charts = c.in_ok-told_charts.field-0 in
    let dimensions = c.in_ok-told_dimensions.field-0 in
    let words = c.in_ok-entry_words.field-0 in
    told-spelt c.args.child c.args.moment (defining c.args.charts.now c.args.dimensions.now) c.requires.within c.requires.canonical c.args.words.now c.requires.rising c.requires.stored c.requires.few charts dimensions words
    c.in_ok-told_charts.ensures.told c.in_ok-told_dimensions.ensures.told c.in_ok-entry_words.ensures.words
    (search rules) (search rules) c.in_ok-told_charts.ensures.short c.in_ok-told_dimensions.ensures.short c.in_ok-entry_words.ensures.short
