use Rattle.std.proofs.Common.{ℕ, ◌+◌, List, get_or, length, map, rules, sym, ap, ◌∙◌, subst}
use Rattle.std.proofs.lemmas.List.{get_or_default, length_push}
use Rattle.host_model.specs.Images.{contents}
use Rattle.host_model.specs.Past.{Event, of}
use Rattle.extent_file.specs.Slot.{tier_of}
use Rattle.checkpoint_body.specs.declared.body.Extent.{Extent}
use Rattle.store_core.specs.disk.Holds.{page_of_records, LiesAs}
use Rattle.store_core.proofs.DiskProofs.NamedLemmas.{lie_at, kept_more}
use Rattle.store_core.proofs.disk.reading.read_tier.Goals as goal

none : Extent
none = record { slot = 0; serial = 0; sealed_at = 0; size = 0; beats = 0 }

pub returns-in_err-pages-clause-damaged : goal.returns-in_err-pages-clause-damaged
unfolding none
returns-in_err-pages-clause-damaged g c is h kept lie =
    let old = (g.H.Host.seen c.args.host.now).past in
    let extent = get_or c.args.extents.now c.loop-extent.extent-index none in
    let there = lie_at page_of_records (tier_of c.args.file) c.args.items (contents (of c.args.file old)) c.args.extents.now kept c.loop-extent.extent-index none lie c.loop-extent-test.true in
    c.in_err-pages.ensures.damaged (search (rules, is)) h there.0
    (subst (λ (past : List Event). LiesAs (tier_of c.args.file) c.args.items (contents (of c.args.file past)) extent (map page_of_records there.0)) (sym (c.loop-extent.invariant.past h)) there.1)

pub loop-extent-preserved : goal.loop-extent-preserved
unfolding none
loop-extent-preserved g c = record {
  past = λ h. c.in_ok-pages.ensures.past h ∙ c.loop-extent.invariant.past h;
  lie = λ h.
      let old = (g.H.Host.seen c.args.host.now).past in
      let extent = get_or c.args.extents.now c.loop-extent.extent-index none in
      kept_more page_of_records (tier_of c.args.file) c.args.items (contents (of c.args.file old)) c.args.extents.now c.loop-extent.extent-index extent c.loop-extent.kept c.push.new.self c.in_ok-pages.pages
      c.loop-extent-test.true (get_or_default c.args.extents.now c.loop-extent.extent-index none extent c.loop-extent-test.true)
      c.in_ok-push.ensures.ok (c.loop-extent.invariant.lie h)
      (subst (λ (past : List Event). LiesAs (tier_of c.args.file) c.args.items (contents (of c.args.file past)) extent (map page_of_records c.in_ok-pages.pages))
      (c.loop-extent.invariant.past h) (c.in_ok-pages.ensures.lies h));
  counted = ap length c.in_ok-push.ensures.ok ∙ length_push c.loop-extent.kept c.in_ok-pages.pages
      ∙ ap (λ (n : ℕ). n + 1) c.loop-extent.invariant.counted;
  faults = search rules;
  output = search rules;
}
