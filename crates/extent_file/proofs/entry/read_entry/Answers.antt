use Rattle.std.proofs.Common.{◌+◌, ◌-◌, ◌^◌, arith}
use Rattle.std.proofs.lemmas.Result.{err_from_is_err_and}
use Rattle.extent_file.specs.Directory.{between, first_field, count_field}
use Rattle.extent_file.proofs.FormLemmas.{ahead, fails}
use Rattle.extent_file.proofs.EntryLemmas.{after_series, after_first, after_step, after_count, after_place}
use Rattle.extent_file.proofs.entry.read_entry.Goals as goal

pub returns-in_err-series-clause-leads : goal.returns-in_err-series-clause-leads
returns-in_err-series-clause-leads c next bytes size form prefix enough leads =
    let tier = c.args.tier in let whole = c.args.size in let left = c.args.left in let before = c.args.before in
    let p = err_from_is_err_and c.from_residual.result c.from_residual.ensures.1 in
    rw (p.1, p.2)
    (fails c.args.seen.now bytes c.args.at size form (between 4 c.args.before.series (2 ^ 32 - 1)) c.between.result (λ s. after_series tier whole left before next s) c.in_err-series.field-0.0 prefix (omega (arith, enough)) c.between.ensures (c.in_err-series.ensures.leads (λ s. after_series tier whole left before next s)) leads)

pub returns-in_err-first-clause-leads : goal.returns-in_err-first-clause-leads
returns-in_err-first-clause-leads c next bytes size form prefix enough leads =
    let tier = c.args.tier in let whole = c.args.size in let left = c.args.left in let before = c.args.before in
    let l1 = ahead c.args.seen.now bytes c.args.at (c.args.at + 4) size form (between 4 c.args.before.series (2 ^ 32 - 1)) c.between.result (λ s. after_series tier whole left before next s) c.in_ok-series.series prefix (omega arith) (omega (arith, enough)) c.between.ensures (c.in_ok-series.ensures.leads (λ s. after_series tier whole left before next s)) leads in
    let series = c.in_ok-series.series in
    let p = err_from_is_err_and c.from_residual-in_err-first.result c.from_residual-in_err-first.ensures.1 in
    rw (p.1, p.2)
    (fails c.args.seen.now bytes (c.args.at + 4) size form (first_field before series) c.first_field.result (λ s. after_first tier whole left before next series s) c.in_err-first.field-0.0 prefix (omega (arith, enough)) c.first_field.ensures.value (c.in_err-first.ensures.leads (λ s. after_first tier whole left before next series s)) l1)

pub returns-in_err-step-clause-leads : goal.returns-in_err-step-clause-leads
returns-in_err-step-clause-leads c next bytes size form prefix enough leads =
    let tier = c.args.tier in let whole = c.args.size in let left = c.args.left in let before = c.args.before in
    let l1 = ahead c.args.seen.now bytes c.args.at (c.args.at + 4) size form (between 4 c.args.before.series (2 ^ 32 - 1)) c.between.result (λ s. after_series tier whole left before next s) c.in_ok-series.series prefix (omega arith) (omega (arith, enough)) c.between.ensures (c.in_ok-series.ensures.leads (λ s. after_series tier whole left before next s)) leads in
    let series = c.in_ok-series.series in
    let l2 = ahead c.args.seen.now bytes (c.args.at + 4) (c.args.at + 8) size form (first_field before series) c.first_field.result (λ s. after_first tier whole left before next series s) c.in_ok-first.first prefix (omega arith) (omega (arith, enough)) c.first_field.ensures.value (c.in_ok-first.ensures.leads (λ s. after_first tier whole left before next series s)) l1 in
    let first = c.in_ok-first.first in
    let p = err_from_is_err_and c.from_residual-in_err-step.result c.from_residual-in_err-step.ensures.1 in
    rw (p.1, p.2)
    (fails c.args.seen.now bytes (c.args.at + 8) size form (between 4 1 (2 ^ 32 - 1)) c.between-2.result (λ s. after_step tier whole left before next series first s) c.in_err-step.field-0.0 prefix (omega (arith, enough)) c.between-2.ensures (c.in_err-step.ensures.leads (λ s. after_step tier whole left before next series first s)) l2)

pub returns-in_err-count-clause-leads : goal.returns-in_err-count-clause-leads
returns-in_err-count-clause-leads c next bytes size form prefix enough leads =
    let tier = c.args.tier in let whole = c.args.size in let left = c.args.left in let before = c.args.before in
    let l1 = ahead c.args.seen.now bytes c.args.at (c.args.at + 4) size form (between 4 c.args.before.series (2 ^ 32 - 1)) c.between.result (λ s. after_series tier whole left before next s) c.in_ok-series.series prefix (omega arith) (omega (arith, enough)) c.between.ensures (c.in_ok-series.ensures.leads (λ s. after_series tier whole left before next s)) leads in
    let series = c.in_ok-series.series in
    let l2 = ahead c.args.seen.now bytes (c.args.at + 4) (c.args.at + 8) size form (first_field before series) c.first_field.result (λ s. after_first tier whole left before next series s) c.in_ok-first.first prefix (omega arith) (omega (arith, enough)) c.first_field.ensures.value (c.in_ok-first.ensures.leads (λ s. after_first tier whole left before next series s)) l1 in
    let first = c.in_ok-first.first in
    let l3 = ahead c.args.seen.now bytes (c.args.at + 8) (c.args.at + 12) size form (between 4 1 (2 ^ 32 - 1)) c.between-2.result (λ s. after_step tier whole left before next series first s) c.in_ok-step.step prefix (omega arith) (omega (arith, enough)) c.between-2.ensures (c.in_ok-step.ensures.leads (λ s. after_step tier whole left before next series first s)) l2 in
    let step = c.in_ok-step.step in
    let p = err_from_is_err_and c.from_residual-in_err-count.result c.from_residual-in_err-count.ensures.1 in
    rw (p.1, p.2)
    (fails c.args.seen.now bytes (c.args.at + 12) size form (count_field tier whole left before.place first step) c.count_field-counts.result (λ s. after_count tier whole left before next series first step s) c.in_err-count.field-0.0 prefix (omega (arith, enough)) c.count_field-counts.ensures.value (c.in_err-count.ensures.leads (λ s. after_count tier whole left before next series first step s)) l3)

pub returns-in_err-place-clause-leads : goal.returns-in_err-place-clause-leads
returns-in_err-place-clause-leads c next bytes size form prefix enough leads =
    let tier = c.args.tier in let whole = c.args.size in let left = c.args.left in let before = c.args.before in
    let l1 = ahead c.args.seen.now bytes c.args.at (c.args.at + 4) size form (between 4 c.args.before.series (2 ^ 32 - 1)) c.between.result (λ s. after_series tier whole left before next s) c.in_ok-series.series prefix (omega arith) (omega (arith, enough)) c.between.ensures (c.in_ok-series.ensures.leads (λ s. after_series tier whole left before next s)) leads in
    let series = c.in_ok-series.series in
    let l2 = ahead c.args.seen.now bytes (c.args.at + 4) (c.args.at + 8) size form (first_field before series) c.first_field.result (λ s. after_first tier whole left before next series s) c.in_ok-first.first prefix (omega arith) (omega (arith, enough)) c.first_field.ensures.value (c.in_ok-first.ensures.leads (λ s. after_first tier whole left before next series s)) l1 in
    let first = c.in_ok-first.first in
    let l3 = ahead c.args.seen.now bytes (c.args.at + 8) (c.args.at + 12) size form (between 4 1 (2 ^ 32 - 1)) c.between-2.result (λ s. after_step tier whole left before next series first s) c.in_ok-step.step prefix (omega arith) (omega (arith, enough)) c.between-2.ensures (c.in_ok-step.ensures.leads (λ s. after_step tier whole left before next series first s)) l2 in
    let step = c.in_ok-step.step in
    let l4 = ahead c.args.seen.now bytes (c.args.at + 12) (c.args.at + 16) size form (count_field tier whole left before.place first step) c.count_field-counts.result (λ s. after_count tier whole left before next series first step s) c.in_ok-count.count prefix (omega arith) (omega (arith, enough)) c.count_field-counts.ensures.value (c.in_ok-count.ensures.leads (λ s. after_count tier whole left before next series first step s)) l3 in
    let count = c.in_ok-count.count in
    let p = err_from_is_err_and c.from_residual-in_err-place.result c.from_residual-in_err-place.ensures.1 in
    rw (p.1, p.2)
    (fails c.args.seen.now bytes (c.args.at + 16) size form (between 8 before.place before.place) c.exactly.result (λ s. after_place tier whole left before next series first step count s) c.in_err-place.field-0.0 prefix (omega (arith, enough)) c.exactly.ensures (c.in_err-place.ensures.leads (λ s. after_place tier whole left before next series first step count s)) l4)

pub returns-clause-leads : goal.returns-clause-leads
returns-clause-leads c next bytes size form prefix enough leads =
    let tier = c.args.tier in let whole = c.args.size in let left = c.args.left in let before = c.args.before in
    let l1 = ahead c.args.seen.now bytes c.args.at (c.args.at + 4) size form (between 4 c.args.before.series (2 ^ 32 - 1)) c.between.result (λ s. after_series tier whole left before next s) c.in_ok-series.series prefix (omega arith) (omega (arith, enough)) c.between.ensures (c.in_ok-series.ensures.leads (λ s. after_series tier whole left before next s)) leads in
    let series = c.in_ok-series.series in
    let l2 = ahead c.args.seen.now bytes (c.args.at + 4) (c.args.at + 8) size form (first_field before series) c.first_field.result (λ s. after_first tier whole left before next series s) c.in_ok-first.first prefix (omega arith) (omega (arith, enough)) c.first_field.ensures.value (c.in_ok-first.ensures.leads (λ s. after_first tier whole left before next series s)) l1 in
    let first = c.in_ok-first.first in
    let l3 = ahead c.args.seen.now bytes (c.args.at + 8) (c.args.at + 12) size form (between 4 1 (2 ^ 32 - 1)) c.between-2.result (λ s. after_step tier whole left before next series first s) c.in_ok-step.step prefix (omega arith) (omega (arith, enough)) c.between-2.ensures (c.in_ok-step.ensures.leads (λ s. after_step tier whole left before next series first s)) l2 in
    let step = c.in_ok-step.step in
    let l4 = ahead c.args.seen.now bytes (c.args.at + 12) (c.args.at + 16) size form (count_field tier whole left before.place first step) c.count_field-counts.result (λ s. after_count tier whole left before next series first step s) c.in_ok-count.count prefix (omega arith) (omega (arith, enough)) c.count_field-counts.ensures.value (c.in_ok-count.ensures.leads (λ s. after_count tier whole left before next series first step s)) l3 in
    let count = c.in_ok-count.count in
    let l5 = ahead c.args.seen.now bytes (c.args.at + 16) (c.args.at + 24) size form (between 8 before.place before.place) c.exactly.result (λ s. after_place tier whole left before next series first step count s) c.in_ok-place.place prefix (omega arith) (omega (arith, enough)) c.exactly.ensures (c.in_ok-place.ensures.leads (λ s. after_place tier whole left before next series first step count s)) l4 in
    l5
