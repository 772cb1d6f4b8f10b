use Rattle.std.proofs.Common.{◌≡◌, false, rules, sym, ap, subst, ◌∙◌}
use Rattle.std.proofs.lemmas.Result.{err_from_is_err_and}
use Rattle.agent_core.specs.declared.left.Left.{Left}
use Rattle.agent_core.specs.Notes.{names_series, noted_in}
use Rattle.agent_core.specs.Replay.{HasRows, HasSeen}
use Rattle.agent_core.proofs.LimitLemmas.{entry-limits}
use Rattle.agent_core.proofs.NoteLemmas.{no-note, note-left, note-stops, note-takes}
use Rattle.agent_core.proofs.ReplayLemmas.{beat-taken, does-after, entry-once, never-broken, only-memory}
use Rattle.agent_core.proofs.notes.replay_beat.Goals as goal

pub returns-in_err-entry-clause-stands : goal.returns-in_err-entry-clause-stands
returns-in_err-entry-clause-stands c =
    let error = err_from_is_err_and c.from_residual.result c.from_residual.ensures.1 in
    rw (error.1, error.2) (λ set g beats beat are of was.
    only-memory c.in_err-entry.field-0.0 c.in_err-entry.ensures.faults
    (λ damaged. never-broken set g beats beat c.args.kept.now c.args.left.now are of was (no-note (noted_in c.args.left.now) c.args.kept.now (c.in_err-entry.ensures.refused damaged))))

pub returns-in_err-does-clause-stands : goal.returns-in_err-does-clause-stands
returns-in_err-does-clause-stands c =
    let error = err_from_is_err_and c.from_residual-in_err-does.result c.from_residual-in_err-does.ensures.1 in
    rw (error.1, error.2) (λ set g beats beat are of was.
    only-memory c.in_err-does.field-0.0 c.in_err-does.ensures.faults
    (λ damaged. never-broken set g beats beat c.args.kept.now c.args.left.now are of was
    (note-stops (noted_in c.args.left.now) c.args.kept.now c.in_ok-entry.entry c.in_ok-entry.ensures.found (c.in_err-does.ensures.broken damaged))))

pub returns-then-not-names_series-clause-stands : goal.returns-then-not-names_series-clause-stands
returns-then-not-names_series-clause-stands c set g beats beat are of was =
    let none : names_series c.take_entry.new.left.registry c.args.kept.now.points ≡ false = ap (names_series c.take_entry.new.left.registry) (sym c.as_slice-points.ensures) ∙ sym c.names_series.ensures ∙ (search rules) in
    absurd (never-broken set g beats beat c.args.kept.now c.args.left.now are of was
    (note-takes (noted_in c.args.left.now) c.args.kept.now c.in_ok-entry.entry c.in_ok-entry.ensures.found false (noted_in c.take_entry.new.left) c.in_ok-does.ensures.next c.in_ok-does.ensures.left none))

pub returns-clause-left : goal.returns-clause-left
returns-clause-left c =
    ap noted_in c.see_entry.ensures.only
    ∙ note-left (noted_in c.args.left.now) c.args.kept.now c.in_ok-entry.entry c.in_ok-entry.ensures.found (noted_in c.take_entry.new.left) c.in_ok-does.ensures.left

pub returns-clause-alarms : goal.returns-clause-alarms
returns-clause-alarms c = ap (λ (l : Left). l.alarms) c.see_entry.ensures.only ∙ c.take_entry.ensures.alarms

pub returns-clause-taken : goal.returns-clause-taken
returns-clause-taken c set g beats beat is_tier are of before was =
    let old = c.args.left.now in
    let took = c.take_entry.new.left in
    let new = c.see_entry.new.left in
    let kept = c.args.kept.now in
    let entry = c.in_ok-entry.entry in
    let only = c.see_entry.ensures.only in
    let rows = subst (λ (l : Left). HasRows l.registry old.last_rows l.last_rows entry) (sym only) c.in_ok-does.ensures.rows in
    let points = subst (HasSeen took.registry took.latest new.latest entry) c.as_slice-points.ensures c.in_ok-see_entry.ensures.seen in
    let seen = subst (λ (l : Left). HasSeen l.registry old.latest new.latest entry kept.points) (sym only) (rw (sym c.take_entry.ensures.latest) points) in
    beat-taken set g beats beat kept old new entry is_tier are of was c.in_ok-entry.ensures.found
    (ap noted_in only ∙ note-left (noted_in old) kept entry c.in_ok-entry.ensures.found (noted_in took) c.in_ok-does.ensures.left)
    rows seen (c.in_ok-see_entry.ensures.before ∙ before) (ap (λ (l : Left). l.gaps) only ∙ c.in_ok-does.ensures.gaps) (ap (λ (l : Left). l.alarms) only ∙ c.take_entry.ensures.alarms)

pub returns-clause-charts : goal.returns-clause-charts
returns-clause-charts c =
    let made = ap noted_in c.see_entry.ensures.only ∙ c.in_ok-does.ensures.left in
    (entry-once (noted_in c.args.left.now) (noted_in c.see_entry.new.left) c.in_ok-entry.entry made c.requires.charts c.requires.dimensions).0

pub returns-clause-dimensions : goal.returns-clause-dimensions
returns-clause-dimensions c =
    let made = ap noted_in c.see_entry.ensures.only ∙ c.in_ok-does.ensures.left in
    (entry-once (noted_in c.args.left.now) (noted_in c.see_entry.new.left) c.in_ok-entry.entry made c.requires.charts c.requires.dimensions).1

pub returns-clause-limits : goal.returns-clause-limits
returns-clause-limits c =
    let made = ap noted_in c.see_entry.ensures.only ∙ c.in_ok-does.ensures.left in
    entry-limits (noted_in c.args.left.now) (noted_in c.see_entry.new.left) c.in_ok-entry.entry made c.in_ok-does.ensures.next c.requires.limits

pub returns-clause-does : goal.returns-clause-does
returns-clause-does c g beat of = does-after g beat c.args.kept.now c.in_ok-entry.entry c.in_ok-does.does of c.in_ok-entry.ensures.found c.in_ok-does.ensures.does
