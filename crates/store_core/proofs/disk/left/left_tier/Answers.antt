use Rattle.std.proofs.Common.{List, get_or, rules, sym, ◌∙◌, subst}
use Rattle.std.proofs.lemmas.List.{get_or_default}
use Rattle.host_model.specs.Images.{contents}
use Rattle.host_model.specs.Past.{Event, of}
use Rattle.extent_file.specs.Slot.{tier_of}
use Rattle.checkpoint_body.specs.declared.body.Extent.{Extent}
use Rattle.store_core.specs.disk.Formed.{IsFormed}
use Rattle.store_core.proofs.BeatProofs.Loops.{one_more}
use Rattle.store_core.proofs.DiskProofs.LeftLemmas.{formed_at}
use Rattle.store_core.proofs.disk.left.left_tier.Goals as goal

none : Extent
none = record { slot = 0; serial = 0; sealed_at = 0; size = 0; beats = 0 }

pub returns-in_err-pages-clause-damaged : goal.returns-in_err-pages-clause-damaged
unfolding none
returns-in_err-pages-clause-damaged g c is h all =
    let old = (g.H.Host.seen c.args.host.now).past in
    let extent = get_or c.args.extents.now c.loop-extent.extent-index none in
    let there = formed_at (tier_of c.args.file) c.args.items (contents (of c.args.file old)) c.args.extents.now c.loop-extent.extent-index none all c.loop-extent-test.true in
    c.in_err-pages.ensures.damaged (search (rules, is)) h
    (subst (λ (past : List Event). IsFormed (tier_of c.args.file) c.args.items (contents (of c.args.file past)) extent) (sym (c.loop-extent.invariant.past h)) there)

pub loop-extent-preserved : goal.loop-extent-preserved
unfolding none
loop-extent-preserved g c = record {
  past = λ h. c.in_ok-pages.ensures.past h ∙ c.loop-extent.invariant.past h;
  formed = λ h.
      let old = (g.H.Host.seen c.args.host.now).past in
      let extent = get_or c.args.extents.now c.loop-extent.extent-index none in
      one_more (IsFormed (tier_of c.args.file) c.args.items (contents (of c.args.file old))) c.args.extents.now c.loop-extent.extent-index extent c.loop-extent-test.true
      (sym (get_or_default c.args.extents.now c.loop-extent.extent-index none extent c.loop-extent-test.true)) (c.loop-extent.invariant.formed h)
      (subst (λ (past : List Event). IsFormed (tier_of c.args.file) c.args.items (contents (of c.args.file past)) extent)
      (c.loop-extent.invariant.past h) (c.in_ok-pages.ensures.formed h));
  faults = search rules;
  output = search rules;
}
