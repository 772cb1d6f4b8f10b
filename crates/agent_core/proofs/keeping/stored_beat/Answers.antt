use Rattle.std.proofs.Common.{Some, map, ap, ◌∙◌, rules}
use Rattle.agent_core.specs.Kept.{point_of}
use Rattle.agent_core.specs.Notes.{names_series}
use Rattle.agent_core.proofs.FormLemmas.{kept-form, kept-size, note-length}
use Rattle.agent_core.proofs.PointLemmas.{words-named}
use Rattle.agent_core.proofs.keeping.stored_beat.Goals as goal

pub returns-clause-form : goal.returns-clause-form
returns-clause-form c =
    let registry = c.args.registry.now in
    let numbered = c.args.numbered.now in
    let rises = c.in-Ok.ensures.rising c.requires.numbered.0 c.requires.charts c.requires.numbered.1 in
    kept-form registry c.requires.registry c.in-Ok.words c.in-Ok.ensures.words rises
    c.in_ok-points.points (c.in_ok-points.ensures.points ∙ ap (map (point_of registry)) c.as_slice.ensures) c.in_ok-note.note
    (note-length numbered c.requires.limits c.in_ok-note.note c.in_ok-note.ensures.spelling)
    numbered.moment c.requires.later (search rules) c.in_ok-points.ensures.short

pub returns-clause-size : goal.returns-clause-size
returns-clause-size c =
    let registry = c.args.registry.now in
    let numbered = c.args.numbered.now in
    let rises = c.in-Ok.ensures.rising c.requires.numbered.0 c.requires.charts c.requires.numbered.1 in
    kept-size registry c.requires.registry c.in-Ok.words c.in-Ok.ensures.words rises
    c.in_ok-points.points (c.in_ok-points.ensures.points ∙ ap (map (point_of registry)) c.as_slice.ensures) c.in_ok-note.note
    (note-length numbered c.requires.limits c.in_ok-note.note c.in_ok-note.ensures.spelling)
    (Some numbered.moment)

pub returns-clause-named : goal.returns-clause-named
returns-clause-named c =
    let registry = c.args.registry.now in
    ap (names_series registry) (c.in_ok-points.ensures.points ∙ ap (map (point_of registry)) c.as_slice.ensures) ∙ words-named registry c.in-Ok.words c.in-Ok.ensures.words
