use Rattle.std.proofs.Common.{◌≡◌, ◌-◌, ◌∷◌, ◌++◌, List, Option, length, replicate, sym, subst, ◌∙◌, vec_len}
use Rattle.algorithms.specs.declared.last.Last.{Last}
use Rattle.history.specs.History.{collected}
use Rattle.history.specs.declared.row.Row.{Row}
use Rattle.chart_registry.proofs.Finding.{take-prefix}
use Rattle.beat_points.specs.LastRows.{AreLastOf, Takes}
use Rattle.beat_points.specs.Numbered.{rows_values}
use Rattle.beat_points.proofs.Growing.{nothing}
use Rattle.beat_points.proofs.LastLemmas.{collected-taken}
use Rattle.beat_points.proofs.last_rows.LastRows.apply.Goals as goal

pub returns-clause-ok : goal.returns-clause-ok
returns-clause-ok c =
    let registry = c.args.registry.now in
    let old = c.args.self.now in
    let beat = c.args.beat.now in
    let room : c.deref_mut.result.now ≡ old ++ replicate (length registry.dimensions - length old) nothing
    = c.deref_mut.ensures.value ∙ c.in_ok-make_room.ensures.ok ∙ (λ i. c.self.view_is i ++ replicate (c.dimensions.ensures.value i - length (c.self.view_is i)) nothing) in
    let takes : Takes beat.moment (rows_values beat.rows) (old ++ replicate (length registry.dimensions - length old) nothing) c.take_rows.new.last
    = subst (λ (rs : List Row). Takes beat.moment (rows_values rs) (old ++ replicate (length registry.dimensions - length old) nothing) c.take_rows.new.last) c.as_slice.ensures
    (subst (λ (grown : List (Option Last)). Takes beat.moment (rows_values c.as_slice.result.now) grown c.take_rows.new.last) room c.take_rows.ensures) in
    let count : length c.take_rows.new.last ≡ vec_len c.make_room.new.last = c.take_rows.ensures.length_is ∙ c.deref_mut.ensures.len in
    λ h opened lasts same regular is.
    subst (λ (new : List (Option Last)). AreLastOf new (collected beat.moment opened ∷ h)) (sym (take-prefix c.take_rows.new.last _ _ count))
    (collected-taken registry h beat opened old c.take_rows.new.last takes lasts same regular is)
