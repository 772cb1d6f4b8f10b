use Rattle.std.proofs.Common.{rules}
use Rattle.history.specs.History.{Gap}
use Rattle.agent_core.proofs.StoringLemmas.{gap-form, gap-size, gap-spelt}
use Rattle.agent_core.proofs.copying.kept_gap.Goals as goal

pub returns-clause-form : goal.returns-clause-form
returns-clause-form c =
    let gap : Gap = record { child = c.args.child; from = c.args.from; to = c.args.to } in
    gap-form gap c.new.result c.new.ensures c.in_ok-note.note c.in_ok-note.ensures.spelling c.requires (search rules)

pub returns-clause-size : goal.returns-clause-size
returns-clause-size c =
    let gap : Gap = record { child = c.args.child; from = c.args.from; to = c.args.to } in
    gap-size gap c.new.result c.new.ensures c.in_ok-note.note c.in_ok-note.ensures.spelling

pub write_entry-requires : goal.write_entry-requires
write_entry-requires c =
    let gap : Gap = record { child = c.args.child; from = c.args.from; to = c.args.to } in
    gap-spelt gap (search rules) (search rules) (search rules)

pub returns-clause-spelt : goal.returns-clause-spelt
returns-clause-spelt c =
    let gap : Gap = record { child = c.args.child; from = c.args.from; to = c.args.to } in
    gap-spelt gap (search rules) (search rules) (search rules)
