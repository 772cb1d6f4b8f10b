use Rattle.std.proofs.Common.{◌+◌, ◌≤◌, List, ℕ, length, take, drop, sym, ap, ◌∙◌, subst, arith}
use Rattle.std.proofs.lemmas.Result.{on_ok_weaker}
use Rattle.host_model.specs.Images.{contents}
use Rattle.host_model.specs.Past.{of}
use Rattle.host_model.proofs.FileLemmas.{take-written}
use Rattle.host_model.proofs.MomentLemmas.{at_end, joined, weakened}
use Rattle.extent_file.specs.Writing.{LiesAt}
use Rattle.extent_file.proofs.WriteLemmas.{lies_beside, drop_there, filled_reaches}
use Rattle.extent_file.proofs.writing.put.Goals as goal

pub returns-clause-any_moment : goal.returns-clause-any_moment
returns-clause-any_moment g c place lies apart h held =
    let file = c.args.file in let middle = (g.H.Host.seen c.fill_to.new.host).past in
    let first = c.fill_to.ensures.any_moment place lies h held in
    let lie : LiesAt place lies (contents (of file middle)) = at_end first (contents (of file middle)) (g.met.H.Host.reads_an_image c.fill_to.new.host file h) in
    joined first
    (weakened (λ past kept bytes image. lies_beside place c.args.at (c.args.at + length c.args.bytes.now) lies (contents (of file middle)) bytes lie apart (kept bytes image))
    (c.write_over.ensures.any_moment h))

pub returns-clause-whole : goal.returns-clause-whole
returns-clause-whole g c =
    let file = c.args.file in let at = c.args.at in let bytes = c.args.bytes.now in
    let middle = contents (of file (g.H.Host.seen c.fill_to.new.host).past) in
    let within : g.H.Host.honest → at ≤ length middle = λ h. subst (λ (l : List ℕ). at ≤ length l) (sym (c.in_ok-fill_to.ensures.zeros h)) (filled_reaches at (contents (of file (g.H.Host.seen c.args.host.now).past))) in
    on_ok_weaker c.write_over.result
    (λ whole h. (drop (at + length bytes) middle, ap (drop at) (whole h) ∙ drop_there middle at bytes (within h)))
    c.write_over.ensures.whole

pub returns-clause-zeros : goal.returns-clause-zeros
returns-clause-zeros g c =
    let file = c.args.file in let at = c.args.at in let bytes = c.args.bytes.now in
    let middle = contents (of file (g.H.Host.seen c.fill_to.new.host).past) in
    let within : g.H.Host.honest → at ≤ length middle = λ h. subst (λ (l : List ℕ). at ≤ length l) (sym (c.in_ok-fill_to.ensures.zeros h)) (filled_reaches at (contents (of file (g.H.Host.seen c.args.host.now).past))) in
    on_ok_weaker c.write_over.result
    (λ whole h. ap (take at) (whole h) ∙ take-written middle at bytes at (omega arith) (within h) ∙ ap (take at) (c.in_ok-fill_to.ensures.zeros h))
    c.write_over.ensures.whole

pub write_over-requires-clause-inside : goal.write_over-requires-clause-inside
write_over-requires-clause-inside g c h =
    let file = c.args.file in let at = c.args.at in
    subst (λ (l : List ℕ). at ≤ length l) (sym (c.in_ok-fill_to.ensures.zeros h)) (filled_reaches at (contents (of file (g.H.Host.seen c.args.host.now).past)))

pub returns-in_err-fill_to-clause-bound : goal.returns-in_err-fill_to-clause-bound
returns-in_err-fill_to-clause-bound g c size fits h short = c.fill_to.ensures.bound size (omega (arith, fits)) h short

pub returns-clause-bound : goal.returns-clause-bound
returns-clause-bound g c size fits h short =
    let first = c.fill_to.ensures.bound size (omega (arith, fits)) h short in
    joined first (c.write_over.ensures.bound size fits h (at_end first))
