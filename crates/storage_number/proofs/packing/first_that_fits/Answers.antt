use Rattle.std.proofs.Common.{◌≡◌, ◌∙◌, ap, sym, rules}
use Rattle.std.specs.List.{slice_get}
use Rattle.storage_number.specs.Step.{steps}
use Rattle.storage_number.specs.Packing.{chosen, fits}
use Rattle.storage_number.proofs.Fitting.{ratio, place, chosen_place, chosen_fits, found_in_table}
use Rattle.storage_number.proofs.packing.first_that_fits.Goals as goal

value : (c : goal.After-step_at) → c.step_at.result ≡ chosen c.args.size c.args.den
unfolding ratio place
value c =
    let w : c.quotient.result ≡ ratio c.args.size c.args.den = search rules in
    c.step_at.ensures
    ∙ ap (λ p. slice_get steps p) c.place_of-place.ensures
    ∙ sym (chosen_place c.args.size c.args.den c.digit_count.result c.requires.positive (rw w at c.digit_count.ensures.above) (rw w at c.digit_count.ensures.below))

pub returns-clause-value : goal.returns-clause-value
returns-clause-value c = value c

pub returns-clause-step : goal.returns-clause-step
returns-clause-step c = found_in_table (fits c.args.size c.args.den) c.step_at.result (value c)

pub returns-clause-fits : goal.returns-clause-fits
returns-clause-fits c = chosen_fits c.args.size c.args.den c.step_at.result (value c)
