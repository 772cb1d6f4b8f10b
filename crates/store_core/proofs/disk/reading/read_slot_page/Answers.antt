use Rattle.std.proofs.Common.{◌≡◌, ℕ, ◌<◌, rules, sym, ap, ◌∙◌, Some, subst}
use Rattle.host_model.specs.Images.{contents}
use Rattle.host_model.specs.Past.{of}
use Rattle.page_buffer.specs.Page.{Page}
use Rattle.extent_file.specs.declared.entry.Entry.{Entry}
use Rattle.extent_file.specs.Slot.{tier_of}
use Rattle.store_core.specs.disk.Holds.{page_of_slots}
use Rattle.store_core.proofs.DiskProofs.NamedLemmas.{slot_named, too_short}
use Rattle.store_core.proofs.disk.reading.read_slot_page.Goals as goal

pub returns-in_err-bytes-clause-damaged : goal.returns-in_err-bytes-clause-damaged
returns-in_err-bytes-clause-damaged g c is h entry got page named =
    let extent = c.args.extent.now in
    let found = c.head-series.ensures.entry in
    let same : found.0 ≡ entry = (let e : Some found.0 ≡ Some entry = sym found.1 ∙ got in cc) in
    let head = found.2 in
    let some = c.head-series.ensures.count in
    too_short (tier_of extent.file) extent.start (contents (of extent.file (g.H.Host.seen c.args.host.now).past)) entry (page_of_slots page) c.requires.tier
    (subst (λ (n : ℕ). 0 < n) (ap (λ (h : ℕ × ℕ × ℕ × ℕ). h.3) head ∙ ap (λ (e : Entry). e.count) same) some)
    (c.in_err-bytes.ensures.damaged (search (rules, is)) h entry got) named

pub returns-clause-page : goal.returns-clause-page
returns-clause-page g c h entry got =
    let extent = c.args.extent.now in
    let found = c.head-series.ensures.entry in
    slot_named (tier_of extent.file) extent.start (contents (of extent.file (g.H.Host.seen c.args.host.now).past)) c.as_slice.result.now entry
    (c.as_slice.ensures.value ∙ c.in_ok-bytes.ensures.items h entry got) found.0 c.head-series.result (sym found.1 ∙ got) found.2
    c.in_ok-words.words c.requires.tier (c.in_ok-bytes.ensures.whole h entry got) c.in-Ok.ensures.ok.0
    (c.in_ok-words.ensures.words ∙ ap (λ (p : Page ℕ). p.items) c.in-Ok.ensures.ok.1)
