use Rattle.std.proofs.Common.{◌≡◌, ℕ, ◌-◌, ◌++◌, length, replicate, refl, ap, ◌∙◌, subst, arith, rules}
use Rattle.std.proofs.lemmas.Bool.{false≢true}
use Rattle.std.proofs.lemmas.List.{take-replicate}
use Rattle.host_model.specs.Images.{contents}
use Rattle.host_model.specs.Past.{of}
use Rattle.host_model.specs.Moments.{Throughout, begins}
use Rattle.host_model.proofs.MomentLemmas.{at_end, OnlyOn-same}
use Rattle.host_model.proofs.CallLemmas.{only_changed}
use Rattle.host_model.proofs.RunLemmas.{RunsFrom, RunsFrom-start, then_from}
use Rattle.extent_file.proofs.WriteLemmas.{all_moments, longer, filled_here, filled_more, zeros_within}
use Rattle.extent_file.proofs.writing.write_zeros.Goals as goal

pub loop-at-init : goal.loop-at-init
loop-at-init g c = record {
  behind = omega arith;
  short = omega arith;
  end = c.requires.len;
  zeros = λ h. filled_here c.args.len (contents (of c.args.file (g.H.Host.seen c.args.host.now).past)) (omega (arith, c.requires.len h));
  moments = λ h. begins (RunsFrom-start c.args.file c.args.len (g.H.Host.seen c.args.host.now).past (c.requires.stable h));
  only_here = λ h. begins (OnlyOn-same c.args.file (g.H.Host.seen c.args.host.now).past);
  bound = λ size fits h short. begins short;
  faults = refl;
  output = refl;
}

pub returns-in_err-write_at-clause-any_moment : goal.returns-in_err-write_at-clause-any_moment
returns-in_err-write_at-clause-any_moment g c h =
    let file = c.args.file in let old = (g.H.Host.seen c.args.host.now).past in
    let past = (g.H.Host.seen c.loop-at.host).past in let new = (g.H.Host.seen c.write_at.new.self).past in
    all_moments file old new
    (subst (λ (n : ℕ). Throughout (RunsFrom file n old) old new) (c.requires.len h)
    (then_from g.H.Host.honest c.write_at.result file c.args.len c.loop-at.at _ _ old past new h c.loop-at.invariant.behind c.write_at.ensures.done c.write_at.ensures.torn (c.loop-at.invariant.moments h)))

pub returns-in_err-write_at-clause-only_here : goal.returns-in_err-write_at-clause-only_here
returns-in_err-write_at-clause-only_here g c h =
    let file = c.args.file in let old = (g.H.Host.seen c.args.host.now).past in
    let past = (g.H.Host.seen c.loop-at.host).past in let new = (g.H.Host.seen c.write_at.new.self).past in
    at_end (only_changed g.H.Host.honest c.write_at.result file _ _ old past new h c.write_at.ensures.done c.write_at.ensures.torn (c.loop-at.invariant.only_here h))

pub loop-at-preserved : goal.loop-at-preserved
loop-at-preserved g c =
    let file = c.args.file in let old = (g.H.Host.seen c.args.host.now).past in
    let past = (g.H.Host.seen c.loop-at.host).past in let new = (g.H.Host.seen c.write_at.new.self).past in
    record {
      behind = omega (arith, c.loop-at.invariant.behind);
      short = omega (arith, c.min-size.ensures, c.loop-at-test.true);
      end = λ h. longer file past new c.loop-at.at c.min-size.result _ (c.in_ok-write_at.ensures.done h) (c.loop-at.invariant.end h) (search rules);
      zeros = λ h. filled_more file past new c.loop-at.at c.min-size.result _ (contents (of file old)) (c.in_ok-write_at.ensures.done h) (c.loop-at.invariant.end h) (take-replicate c.min-size.result 4096 0 (omega (arith, c.min-size.ensures)))
          (omega (arith, c.requires.len h, c.loop-at.invariant.behind)) (c.loop-at.invariant.zeros h);
      moments = λ h. then_from g.H.Host.honest c.write_at.result file c.args.len c.loop-at.at _ _ old past new h c.loop-at.invariant.behind c.write_at.ensures.done c.write_at.ensures.torn (c.loop-at.invariant.moments h);
      only_here = λ h. only_changed g.H.Host.honest c.write_at.result file _ _ old past new h c.write_at.ensures.done c.write_at.ensures.torn (c.loop-at.invariant.only_here h);
      bound = λ size fits h short. zeros_within g.H.Host.honest c.write_at.result size file c.loop-at.at c.min-size.result _ _ old past new h c.write_at.ensures.done c.write_at.ensures.torn (search rules) (omega (arith, fits, c.min-size.ensures, c.loop-at-test.true)) (c.loop-at.invariant.bound size fits h short);
      faults = c.in_ok-write_at.ensures.cause.stays (λ failed. false≢true failed) ∙ c.loop-at.invariant.faults;
      output = c.write_at.ensures.output ∙ c.loop-at.invariant.output;
    }

pub returns-clause-any_moment : goal.returns-clause-any_moment
returns-clause-any_moment g c h =
    let file = c.args.file in let old = (g.H.Host.seen c.args.host.now).past in
    let new = (g.H.Host.seen c.loop-at.host).past in
    all_moments file old new
    (subst (λ (n : ℕ). Throughout (RunsFrom file n old) old new) (c.requires.len h) (c.loop-at.invariant.moments h))

pub returns-in_err-write_at-clause-bound : goal.returns-in_err-write_at-clause-bound
returns-in_err-write_at-clause-bound g c size fits h short =
    let file = c.args.file in let old = (g.H.Host.seen c.args.host.now).past in
    let past = (g.H.Host.seen c.loop-at.host).past in let new = (g.H.Host.seen c.write_at.new.self).past in
    zeros_within g.H.Host.honest c.write_at.result size file c.loop-at.at c.min-size.result _ _ old past new h c.write_at.ensures.done c.write_at.ensures.torn (search rules) (omega (arith, fits, c.min-size.ensures, c.loop-at-test.true)) (c.loop-at.invariant.bound size fits h short)

pub returns-clause-zeros : goal.returns-clause-zeros
returns-clause-zeros g c h =
    let old = contents (of c.args.file (g.H.Host.seen c.args.host.now).past) in
    let same : c.loop-at.at - length old ≡ c.args.end - length old = omega (arith, c.requires.len h, c.loop-at.invariant.behind, c.loop-at.invariant.short, c.loop-at-test.false) in
    c.loop-at.invariant.zeros h ∙ ap (λ (n : ℕ). old ++ replicate n 0) same
