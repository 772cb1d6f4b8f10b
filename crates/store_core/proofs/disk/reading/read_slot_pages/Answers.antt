use Rattle.std.proofs.Common.{List, map, drop, rules, sym, ◌∙◌, subst, arith}
use Rattle.std.proofs.lemmas.List.{take_all}
use Rattle.host_model.specs.Images.{contents}
use Rattle.host_model.specs.Past.{Event, of}
use Rattle.extent_file.specs.declared.entry.Entry.{Entry}
use Rattle.extent_file.specs.Slot.{tier_of}
use Rattle.store_core.specs.disk.Holds.{page_of_slots}
use Rattle.store_core.specs.disk.Reading.{IsNamed, AreNamed}
use Rattle.store_core.proofs.DiskProofs.NamedLemmas.{named_at, read_more}
use Rattle.store_core.proofs.DiskProofs.ItemLemmas.{item_there}
use Rattle.store_core.proofs.disk.reading.read_slot_pages.Goals as goal

pub returns-in_err-page-clause-damaged : goal.returns-in_err-page-clause-damaged
returns-in_err-page-clause-damaged g c is h pages are =
    let extent = c.args.extent.now in
    let old = (g.H.Host.seen c.args.host.now).past in
    let there = item_there extent.entries c.loop-index.index (omega arith) in
    let named = named_at page_of_slots (tier_of extent.file) (drop extent.start (contents (of extent.file old))) extent.entries pages c.loop-index.index there.0 are there.1 in
    c.in_err-page.ensures.damaged (search (rules, is)) h there.0 there.1 named.0
    (subst (λ (past : List Event). IsNamed (tier_of extent.file) (drop extent.start (contents (of extent.file past))) there.0 (page_of_slots named.0))
    (sym (c.loop-index.invariant.past h)) named.1)

pub loop-index-preserved : goal.loop-index-preserved
loop-index-preserved g c = record {
  past = λ h. c.in_ok-page.ensures.past h ∙ c.loop-index.invariant.past h;
  named = λ h.
      let extent = c.args.extent.now in
      let old = (g.H.Host.seen c.args.host.now).past in
      let there = item_there extent.entries c.loop-index.index (omega arith) in
      read_more page_of_slots (tier_of extent.file) (drop extent.start (contents (of extent.file old))) extent.entries c.loop-index.index there.0 c.loop-index.pages c.push.new.self c.in_ok-page.page
      there.1 c.in_ok-push.ensures.ok (c.loop-index.invariant.named h)
      (subst (λ (past : List Event). IsNamed (tier_of extent.file) (drop extent.start (contents (of extent.file past))) there.0 (page_of_slots c.in_ok-page.page))
      (c.loop-index.invariant.past h) (c.in_ok-page.ensures.page h there.0 there.1));
  faults = search rules;
  output = search rules;
}

pub returns-clause-named : goal.returns-clause-named
returns-clause-named g c h =
    let extent = c.args.extent.now in
    let old = (g.H.Host.seen c.args.host.now).past in
    subst (λ (l : List Entry). AreNamed (tier_of extent.file) (drop extent.start (contents (of extent.file old))) l (map page_of_slots c.loop-index.pages))
    (take_all c.loop-index.index extent.entries (omega arith)) (c.loop-index.invariant.named h)
