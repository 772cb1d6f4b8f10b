use Rattle.std.proofs.Common.{◌≡◌, ◌+◌, ◌-◌, ◌*◌, ℕ, List, [], drop, Err, refl, sym, ap, ◌∙◌, subst, arith}
use Rattle.extent_file.specs.declared.entry.Entry.{Entry}
use Rattle.extent_file.specs.declared.fault.ExtentFault.TheVariants.{BadExtent, Memory}
use Rattle.std.proofs.lemmas.Result.{err_from_is_err_and}
use Rattle.host_model.specs.Images.{contents}
use Rattle.host_model.specs.Past.{Event, of}
use Rattle.extent_file.specs.Form.{Rest, Says, Leads, StopsAt}
use Rattle.extent_file.specs.Slot.{tier_of, slot_size, slot_start}
use Rattle.extent_file.specs.Directory.{Directory, HasHead, at_first, directory_form, extent_form}
use Rattle.extent_file.proofs.OpenLemmas.{moved_head, bad_late, bad_of, bad_end, opened}
use Rattle.extent_file.proofs.extent.Extent.open.Goals as goal

pub returns-then-len-start-clause-bad : goal.returns-then-len-start-clause-bad
returns-then-len-start-clause-bad g c place is h =
    let tier = tier_of c.args.file in let items = c.args.items in
    let bytes = contents (of c.args.file (g.H.Host.seen c.args.host.now).past) in
    let start_is : c.slot_start-start.result ≡ slot_start tier items c.args.slot = c.slot_start-start.ensures.value ∙ ap (λ (t : ℕ). slot_start t items c.args.slot) c.tier_of-tier.ensures.value in
    let same : c.in-Ok.len ≡ place = cc in
    bad_late tier tier (slot_size tier items) (slot_size tier items) (slot_start tier items c.args.slot) c.slot_start-start.result c.args.bytes bytes
    refl refl start_is place c.in-Ok.len (c.in-Ok.ensures.len h) c.if-len-start.true same

pub returns-in_err-pages-clause-bad : goal.returns-in_err-pages-clause-bad
returns-in_err-pages-clause-bad g c place is h =
    let tier = tier_of c.args.file in let items = c.args.items in
    let file = c.args.file in
    let bytes = contents (of file (g.H.Host.seen c.args.host.now).past) in
    let start_is : c.slot_start-start.result ≡ slot_start tier items c.args.slot = c.slot_start-start.ensures.value ∙ ap (λ (t : ℕ). slot_start t items c.args.slot) c.tier_of-tier.ensures.value in
    let slot_is : c.slot_size.result ≡ slot_size tier items = c.slot_size.ensures.value ∙ ap (λ (t : ℕ). slot_size t items) c.tier_of-tier.ensures.value in
    let p = err_from_is_err_and c.from_residual.result c.from_residual.ensures.1 in
    let fault = rw (p.1, p.2) at is in let same_fault : c.in_err-pages.field-0.0 ≡ BadExtent place = cc in
    let stop = c.in_err-pages.ensures.bad place (ap Err same_fault) h in
    let same = c.in-Ok.ensures.past h in
    let long = c.in-Ok.ensures.len h in
    bad_of tier c.tier_of-tier.result (slot_size tier items) c.slot_size.result (slot_start tier items c.args.slot) c.slot_start-start.result c.args.bytes bytes
    c.tier_of-tier.ensures.value slot_is start_is place (omega (arith, long, c.if-len-start.false))
    (subst (λ (past : List Event). (at : ℕ) × (place ≡ c.slot_start-start.result + at)
    × StopsAt (extent_form c.tier_of-tier.result c.slot_size.result c.args.bytes) (drop c.slot_start-start.result (contents (of file past))) at) same stop)

pub returns-in_err-entries-clause-bad : goal.returns-in_err-entries-clause-bad
returns-in_err-entries-clause-bad g c place is h =
    let tier = tier_of c.args.file in let items = c.args.items in
    let file = c.args.file in let start = c.slot_start-start.result in
    let bytes = contents (of file (g.H.Host.seen c.args.host.now).past) in
    let start_is : start ≡ slot_start tier items c.args.slot = c.slot_start-start.ensures.value ∙ ap (λ (t : ℕ). slot_start t items c.args.slot) c.tier_of-tier.ensures.value in
    let slot_is : c.slot_size.result ≡ slot_size tier items = c.slot_size.ensures.value ∙ ap (λ (t : ℕ). slot_size t items) c.tier_of-tier.ensures.value in
    let form = extent_form c.tier_of-tier.result c.slot_size.result c.args.bytes in
    let p = err_from_is_err_and c.from_residual-in_err-entries.result c.from_residual-in_err-entries.ensures.1 in
    let first = c.in-Ok.ensures.past h in let second = c.in_ok-pages.ensures.past h in
    let leads = c.in_ok-pages.ensures.leads h in
    let there = subst (λ (past : List Event). Leads form (drop start (contents (of file past))) 24 (directory_form c.tier_of-tier.result c.args.bytes c.in_ok-pages.pages (at_first c.in_ok-pages.pages) [])) (sym second) leads in
    let fault = rw (p.1, p.2) at is in let same_fault : c.in_err-entries.field-0.0 ≡ BadExtent place = cc in
    let stop = c.in_err-entries.ensures.bad place (ap Err same_fault) h form there in
    let long = c.in-Ok.ensures.len h in
    bad_of tier c.tier_of-tier.result (slot_size tier items) c.slot_size.result (slot_start tier items c.args.slot) start c.args.bytes bytes
    c.tier_of-tier.ensures.value slot_is start_is place (omega (arith, long, c.if-len-start.false))
    (subst (λ (past : List Event). (at : ℕ) × (place ≡ start + at) × StopsAt form (drop start (contents (of file past))) at) (second ∙ first) stop)

pub returns-in_err-pages-clause-memory : goal.returns-in_err-pages-clause-memory
returns-in_err-pages-clause-memory g c is h =
    let p = err_from_is_err_and c.from_residual.result c.from_residual.ensures.1 in
    let fault = rw (p.1, p.2) at is in let same_fault : c.in_err-pages.field-0.0 ≡ Memory = cc in
    absurd (c.in_err-pages.ensures.no_memory (ap Err same_fault))

pub returns-in_err-entries-clause-memory : goal.returns-in_err-entries-clause-memory
returns-in_err-entries-clause-memory g c is h =
    let tier = tier_of c.args.file in let items = c.args.items in
    let file = c.args.file in let start = c.slot_start-start.result in
    let bytes = contents (of file (g.H.Host.seen c.args.host.now).past) in
    let start_is : start ≡ slot_start tier items c.args.slot = c.slot_start-start.ensures.value ∙ ap (λ (t : ℕ). slot_start t items c.args.slot) c.tier_of-tier.ensures.value in
    let slot_is : c.slot_size.result ≡ slot_size tier items = c.slot_size.ensures.value ∙ ap (λ (t : ℕ). slot_size t items) c.tier_of-tier.ensures.value in
    moved_head tier c.tier_of-tier.result (slot_size tier items) c.slot_size.result (slot_start tier items c.args.slot) start c.args.bytes bytes
    c.tier_of-tier.ensures.value slot_is start_is
    (subst (λ (past : List Event). HasHead c.tier_of-tier.result c.slot_size.result c.args.bytes (drop start (contents (of file past)))) (c.in-Ok.ensures.past h)
    (c.in_ok-pages.pages, c.in_ok-pages.ensures.leads h))

pub returns-then-len-start-2-clause-bad : goal.returns-then-len-start-2-clause-bad
returns-then-len-start-2-clause-bad g c place is h =
    let tier = tier_of c.args.file in let items = c.args.items in
    let file = c.args.file in let start = c.slot_start-start.result in let pages = c.in_ok-pages.pages in
    let bytes = contents (of file (g.H.Host.seen c.args.host.now).past) in
    let start_is : start ≡ slot_start tier items c.args.slot = c.slot_start-start.ensures.value ∙ ap (λ (t : ℕ). slot_start t items c.args.slot) c.tier_of-tier.ensures.value in
    let slot_is : c.slot_size.result ≡ slot_size tier items = c.slot_size.ensures.value ∙ ap (λ (t : ℕ). slot_size t items) c.tier_of-tier.ensures.value in
    let form = extent_form c.tier_of-tier.result c.slot_size.result c.args.bytes in
    let first = c.in-Ok.ensures.past h in let second = c.in_ok-pages.ensures.past h in
    let there = subst (λ (past : List Event). Leads form (drop start (contents (of file past))) 24 (directory_form c.tier_of-tier.result c.args.bytes pages (at_first pages) [])) (sym second) (c.in_ok-pages.ensures.leads h) in
    let whole = c.in_ok-entries.ensures.whole h form there in
    let here = subst (λ (past : List Event). Leads form (drop start (contents (of file past))) (24 + 24 * pages) (Rest (c.args.bytes - (24 + 24 * pages)) c.in_ok-entries.entries)) (second ∙ first) whole in
    let same : c.in-Ok.len ≡ place = cc in
    bad_end tier c.tier_of-tier.result (slot_size tier items) c.slot_size.result (slot_start tier items c.args.slot) start c.args.bytes bytes
    c.tier_of-tier.ensures.value slot_is start_is pages c.in-Ok.len c.in_ok-entries.entries (c.in-Ok.ensures.len h) (omega (arith, c.if-len-start.false)) here
    place c.if-len-start-2.true same

pub returns-clause-opened : goal.returns-clause-opened
returns-clause-opened g c h =
    let tier = tier_of c.args.file in let items = c.args.items in
    let file = c.args.file in let start = c.slot_start-start.result in let pages = c.in_ok-pages.pages in
    let bytes = contents (of file (g.H.Host.seen c.args.host.now).past) in
    let start_is : start ≡ slot_start tier items c.args.slot = c.slot_start-start.ensures.value ∙ ap (λ (t : ℕ). slot_start t items c.args.slot) c.tier_of-tier.ensures.value in
    let slot_is : c.slot_size.result ≡ slot_size tier items = c.slot_size.ensures.value ∙ ap (λ (t : ℕ). slot_size t items) c.tier_of-tier.ensures.value in
    let form = extent_form c.tier_of-tier.result c.slot_size.result c.args.bytes in
    let first = c.in-Ok.ensures.past h in let second = c.in_ok-pages.ensures.past h in
    let there = subst (λ (past : List Event). Leads form (drop start (contents (of file past))) 24 (directory_form c.tier_of-tier.result c.args.bytes pages (at_first pages) [])) (sym second) (c.in_ok-pages.ensures.leads h) in
    let whole = c.in_ok-entries.ensures.whole h form there in
    let here = subst (λ (past : List Event). Leads form (drop start (contents (of file past))) (24 + 24 * pages) (Rest (c.args.bytes - (24 + 24 * pages)) c.in_ok-entries.entries)) (second ∙ first) whole in
    subst (λ (entries : List Entry). Says (extent_form tier (slot_size tier items) c.args.bytes) (drop (slot_start tier items c.args.slot) bytes) entries)
    (sym (ap (λ (d : Directory). d.entries) c.of.ensures))
    (opened tier c.tier_of-tier.result (slot_size tier items) c.slot_size.result (slot_start tier items c.args.slot) start c.args.bytes bytes
    c.tier_of-tier.ensures.value slot_is start_is pages c.in-Ok.len c.in_ok-entries.entries (c.in-Ok.ensures.len h) (omega (arith, c.if-len-start.false)) here
    (omega (arith, c.if-len-start-2.false)))
