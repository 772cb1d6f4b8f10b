use Rattle.std.proofs.Common.{ℕ, min, max, ap, ◌∙◌, arith}
use Rattle.std.proofs.lemmas.Result.{err_from_is_err_and}
use Rattle.extent_file.specs.Directory.{between, pages_field, extent_form}
use Rattle.extent_file.proofs.FormLemmas.{ahead, fails}
use Rattle.extent_file.proofs.HeadLemmas.{after_mark, after_tier, after_pages, after_size}
use Rattle.extent_file.proofs.head.read_head.Goals as goal

pub returns-in_err-read_at-clause-leads : goal.returns-in_err-read_at-clause-leads
unfolding extent_form
returns-in_err-read_at-clause-leads c bytes size form prefix enough leads =
    let tier = c.args.tier in let whole = c.args.size in let slot = c.args.slot in
    let p = err_from_is_err_and c.from_residual.result c.from_residual.ensures.1 in
    rw (p.1, p.2)
    (fails c.args.seen.now bytes 0 size form (between 8 0x31305458_4541444E 0x31305458_4541444E) c.exactly.result (λ _. after_mark tier slot whole) c.in_err-read_at.field-0.0 prefix (omega (arith, enough)) c.exactly.ensures (c.in_err-read_at.ensures.leads (λ _. after_mark tier slot whole)) leads)

pub returns-in_err-read_at-2-clause-leads : goal.returns-in_err-read_at-2-clause-leads
unfolding extent_form
returns-in_err-read_at-2-clause-leads c bytes size form prefix enough leads =
    let tier = c.args.tier in let whole = c.args.size in let slot = c.args.slot in
    let l1 = ahead c.args.seen.now bytes 0 8 size form (between 8 0x31305458_4541444E 0x31305458_4541444E) c.exactly.result (λ _. after_mark tier slot whole) c.in_ok-read_at.field-0 prefix (omega arith) (omega (arith, enough)) c.exactly.ensures (c.in_ok-read_at.ensures.leads (λ _. after_mark tier slot whole)) leads in
    let p = err_from_is_err_and c.from_residual-in_err-read_at-2.result c.from_residual-in_err-read_at-2.ensures.1 in
    rw (p.1, p.2)
    (fails c.args.seen.now bytes 8 size form (between 4 tier tier) c.exactly-2.result (λ _. after_tier tier slot whole) c.in_err-read_at-2.field-0.0 prefix (omega (arith, enough)) (c.exactly-2.ensures ∙ ap (λ (n : ℕ). between 4 n n) c.from.ensures) (c.in_err-read_at-2.ensures.leads (λ _. after_tier tier slot whole)) l1)

pub returns-in_err-pages-clause-leads : goal.returns-in_err-pages-clause-leads
unfolding extent_form
returns-in_err-pages-clause-leads c bytes size form prefix enough leads =
    let tier = c.args.tier in let whole = c.args.size in let slot = c.args.slot in
    let l1 = ahead c.args.seen.now bytes 0 8 size form (between 8 0x31305458_4541444E 0x31305458_4541444E) c.exactly.result (λ _. after_mark tier slot whole) c.in_ok-read_at.field-0 prefix (omega arith) (omega (arith, enough)) c.exactly.ensures (c.in_ok-read_at.ensures.leads (λ _. after_mark tier slot whole)) leads in
    let l2 = ahead c.args.seen.now bytes 8 12 size form (between 4 tier tier) c.exactly-2.result (λ _. after_tier tier slot whole) c.in_ok-read_at-2.field-0 prefix (omega arith) (omega (arith, enough)) (c.exactly-2.ensures ∙ ap (λ (n : ℕ). between 4 n n) c.from.ensures) (c.in_ok-read_at-2.ensures.leads (λ _. after_tier tier slot whole)) l1 in
    let p = err_from_is_err_and c.from_residual-in_err-pages.result c.from_residual-in_err-pages.ensures.1 in
    rw (p.1, p.2)
    (fails c.args.seen.now bytes 12 size form (pages_field tier slot whole) c.pages_field.result (λ pages. after_pages tier slot whole pages) c.in_err-pages.field-0.0 prefix (omega (arith, enough)) c.pages_field.ensures.value (c.in_err-pages.ensures.leads (λ pages. after_pages tier slot whole pages)) l2)

pub returns-in_err-read_at-3-clause-leads : goal.returns-in_err-read_at-3-clause-leads
unfolding extent_form
returns-in_err-read_at-3-clause-leads c bytes size form prefix enough leads =
    let tier = c.args.tier in let whole = c.args.size in let slot = c.args.slot in
    let l1 = ahead c.args.seen.now bytes 0 8 size form (between 8 0x31305458_4541444E 0x31305458_4541444E) c.exactly.result (λ _. after_mark tier slot whole) c.in_ok-read_at.field-0 prefix (omega arith) (omega (arith, enough)) c.exactly.ensures (c.in_ok-read_at.ensures.leads (λ _. after_mark tier slot whole)) leads in
    let l2 = ahead c.args.seen.now bytes 8 12 size form (between 4 tier tier) c.exactly-2.result (λ _. after_tier tier slot whole) c.in_ok-read_at-2.field-0 prefix (omega arith) (omega (arith, enough)) (c.exactly-2.ensures ∙ ap (λ (n : ℕ). between 4 n n) c.from.ensures) (c.in_ok-read_at-2.ensures.leads (λ _. after_tier tier slot whole)) l1 in
    let l3 = ahead c.args.seen.now bytes 12 16 size form (pages_field tier slot whole) c.pages_field.result (λ pages. after_pages tier slot whole pages) c.in_ok-pages.pages prefix (omega arith) (omega (arith, enough)) c.pages_field.ensures.value (c.in_ok-pages.ensures.leads (λ pages. after_pages tier slot whole pages)) l2 in
    let pages = c.in_ok-pages.pages in
    let p = err_from_is_err_and c.from_residual-in_err-read_at-3.result c.from_residual-in_err-read_at-3.ensures.1 in
    rw (p.1, p.2)
    (fails c.args.seen.now bytes 16 size form (between 8 (max whole 24) (min whole slot)) c.size_field.result (λ _. after_size tier slot whole pages) c.in_err-read_at-3.field-0.0 prefix (omega (arith, enough)) c.size_field.ensures (c.in_err-read_at-3.ensures.leads (λ _. after_size tier slot whole pages)) l3)

pub returns-clause-leads : goal.returns-clause-leads
unfolding extent_form
returns-clause-leads c bytes size form prefix enough leads =
    let tier = c.args.tier in let whole = c.args.size in let slot = c.args.slot in
    let l1 = ahead c.args.seen.now bytes 0 8 size form (between 8 0x31305458_4541444E 0x31305458_4541444E) c.exactly.result (λ _. after_mark tier slot whole) c.in_ok-read_at.field-0 prefix (omega arith) (omega (arith, enough)) c.exactly.ensures (c.in_ok-read_at.ensures.leads (λ _. after_mark tier slot whole)) leads in
    let l2 = ahead c.args.seen.now bytes 8 12 size form (between 4 tier tier) c.exactly-2.result (λ _. after_tier tier slot whole) c.in_ok-read_at-2.field-0 prefix (omega arith) (omega (arith, enough)) (c.exactly-2.ensures ∙ ap (λ (n : ℕ). between 4 n n) c.from.ensures) (c.in_ok-read_at-2.ensures.leads (λ _. after_tier tier slot whole)) l1 in
    let l3 = ahead c.args.seen.now bytes 12 16 size form (pages_field tier slot whole) c.pages_field.result (λ pages. after_pages tier slot whole pages) c.in_ok-pages.pages prefix (omega arith) (omega (arith, enough)) c.pages_field.ensures.value (c.in_ok-pages.ensures.leads (λ pages. after_pages tier slot whole pages)) l2 in
    let pages = c.in_ok-pages.pages in
    let l4 = ahead c.args.seen.now bytes 16 24 size form (between 8 (max whole 24) (min whole slot)) c.size_field.result (λ _. after_size tier slot whole pages) c.in_ok-read_at-3.field-0 prefix (omega arith) (omega (arith, enough)) c.size_field.ensures (c.in_ok-read_at-3.ensures.leads (λ _. after_size tier slot whole pages)) l3 in
    l4
