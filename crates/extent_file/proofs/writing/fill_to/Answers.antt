use Rattle.std.proofs.Common.{◌≡◌, ◌≤◌, List, sym, ap, ◌∙◌, subst}
use Rattle.std.proofs.lemmas.Result.{on_ok_weaker}
use Rattle.host_model.specs.Images.{Synced, contents, greatest}
use Rattle.host_model.specs.Past.{Event, of}
use Rattle.host_model.specs.Moments.{Throughout, EveryImage, begins}
use Rattle.host_model.proofs.MomentLemmas.{at_end, joined, weakened}
use Rattle.host_model.proofs.CallLemmas.{reads_after}
use Rattle.host_model.proofs.RunLemmas.{images_in_sync, then_sync}
use Rattle.host_model.proofs.SizeLemmas.{within_sync}
use Rattle.extent_file.specs.Writing.{LiesAt, filled_to}
use Rattle.extent_file.proofs.WriteLemmas.{lies_still}
use Rattle.extent_file.proofs.writing.fill_to.Goals as goal

pub returns-in_err-sync-clause-any_moment : goal.returns-in_err-sync-clause-any_moment
returns-in_err-sync-clause-any_moment g c place lies h held =
    let file = c.args.file in let old = (g.H.Host.seen c.args.host.now).past in
    images_in_sync (LiesAt place lies) g.H.Host.honest c.sync.result file old (g.H.Host.seen c.sync.new.self).past h c.sync.ensures.done c.sync.ensures.torn
    (g.met.H.Host.reads_an_image c.args.host.now file h) held

pub returns-in_err-len-clause-any_moment : goal.returns-in_err-len-clause-any_moment
returns-in_err-len-clause-any_moment g c place lies h held =
    let file = c.args.file in let old = (g.H.Host.seen c.args.host.now).past in let first = (g.H.Host.seen c.sync.new.self).past in
    let moments = images_in_sync (LiesAt place lies) g.H.Host.honest c.sync.result file old first h c.sync.ensures.done c.sync.ensures.torn
    (g.met.H.Host.reads_an_image c.args.host.now file h) held in
    subst (λ (past : List Event). Throughout (EveryImage file (LiesAt place lies)) old past) (sym (c.len.ensures.past h)) moments

pub returns-in_err-write_zeros-clause-any_moment : goal.returns-in_err-write_zeros-clause-any_moment
returns-in_err-write_zeros-clause-any_moment g c place lies h held =
    let file = c.args.file in let old = (g.H.Host.seen c.args.host.now).past in let first = (g.H.Host.seen c.sync.new.self).past in
    let second = (g.H.Host.seen c.len.new.self).past in let third = (g.H.Host.seen c.write_zeros.new.host).past in
    let moments = images_in_sync (LiesAt place lies) g.H.Host.honest c.sync.result file old first h c.sync.ensures.done c.sync.ensures.torn
    (g.met.H.Host.reads_an_image c.args.host.now file h) held in
    let there = subst (λ (past : List Event). Throughout (EveryImage file (LiesAt place lies)) old past) (sym (c.len.ensures.past h)) moments in
    let lie : LiesAt place lies (contents (of file second)) = at_end there (contents (of file second)) (g.met.H.Host.reads_an_image c.len.new.self file h) in
    joined there (weakened (λ past kept bytes image. lies_still place lies (contents (of file second)) bytes lie (kept bytes image)) (c.write_zeros.ensures.any_moment h))

pub returns-clause-any_moment : goal.returns-clause-any_moment
returns-clause-any_moment g c place lies h held =
    let file = c.args.file in let old = (g.H.Host.seen c.args.host.now).past in let first = (g.H.Host.seen c.sync.new.self).past in
    let second = (g.H.Host.seen c.len.new.self).past in let third = (g.H.Host.seen c.write_zeros.new.host).past in
    let moments = images_in_sync (LiesAt place lies) g.H.Host.honest c.sync.result file old first h c.sync.ensures.done c.sync.ensures.torn
    (g.met.H.Host.reads_an_image c.args.host.now file h) held in
    let there = subst (λ (past : List Event). Throughout (EveryImage file (LiesAt place lies)) old past) (sym (c.len.ensures.past h)) moments in
    let lie : LiesAt place lies (contents (of file second)) = at_end there (contents (of file second)) (g.met.H.Host.reads_an_image c.len.new.self file h) in
    let zeros = joined there (weakened (λ past kept bytes image. lies_still place lies (contents (of file second)) bytes lie (kept bytes image)) (c.write_zeros.ensures.any_moment h)) in
    then_sync (LiesAt place lies) g.H.Host.honest c.sync-2.result file old third (g.H.Host.seen c.sync-2.new.self).past h c.sync-2.ensures.done c.sync-2.ensures.torn
    (g.met.H.Host.reads_an_image c.write_zeros.new.host file h) zeros

pub returns-in_err-sync-clause-bound : goal.returns-in_err-sync-clause-bound
returns-in_err-sync-clause-bound g c size fits h short =
    let file = c.args.file in let old = (g.H.Host.seen c.args.host.now).past in let first = (g.H.Host.seen c.sync.new.self).past in
    let one = within_sync g.H.Host.honest c.sync.result size file old old first h c.sync.ensures.done c.sync.ensures.torn (g.met.H.Host.reads_an_image c.args.host.now file h) (begins short) in
    one

pub returns-in_err-len-clause-bound : goal.returns-in_err-len-clause-bound
returns-in_err-len-clause-bound g c size fits h short =
    let file = c.args.file in let old = (g.H.Host.seen c.args.host.now).past in let first = (g.H.Host.seen c.sync.new.self).past in
    let one = within_sync g.H.Host.honest c.sync.result size file old old first h c.sync.ensures.done c.sync.ensures.torn (g.met.H.Host.reads_an_image c.args.host.now file h) (begins short) in
    let two = subst (λ (past : List Event). Throughout (λ (p : List Event). greatest (of file p) ≤ size) old past) (sym (c.len.ensures.past h)) one in
    two

pub returns-in_err-write_zeros-clause-bound : goal.returns-in_err-write_zeros-clause-bound
returns-in_err-write_zeros-clause-bound g c size fits h short =
    let file = c.args.file in let old = (g.H.Host.seen c.args.host.now).past in let first = (g.H.Host.seen c.sync.new.self).past in
    let one = within_sync g.H.Host.honest c.sync.result size file old old first h c.sync.ensures.done c.sync.ensures.torn (g.met.H.Host.reads_an_image c.args.host.now file h) (begins short) in
    let two = subst (λ (past : List Event). Throughout (λ (p : List Event). greatest (of file p) ≤ size) old past) (sym (c.len.ensures.past h)) one in
    joined two (c.write_zeros.ensures.bound size fits h (at_end two))

pub returns-clause-bound : goal.returns-clause-bound
returns-clause-bound g c size fits h short =
    let file = c.args.file in let old = (g.H.Host.seen c.args.host.now).past in let first = (g.H.Host.seen c.sync.new.self).past in
    let one = within_sync g.H.Host.honest c.sync.result size file old old first h c.sync.ensures.done c.sync.ensures.torn (g.met.H.Host.reads_an_image c.args.host.now file h) (begins short) in
    let two = subst (λ (past : List Event). Throughout (λ (p : List Event). greatest (of file p) ≤ size) old past) (sym (c.len.ensures.past h)) one in
    let three = joined two (c.write_zeros.ensures.bound size fits h (at_end two)) in
    within_sync g.H.Host.honest c.sync-2.result size file old (g.H.Host.seen c.write_zeros.new.host).past (g.H.Host.seen c.sync-2.new.self).past h c.sync-2.ensures.done c.sync-2.ensures.torn
    (g.met.H.Host.reads_an_image c.write_zeros.new.host file h) three

pub returns-clause-zeros : goal.returns-clause-zeros
returns-clause-zeros g c =
    let file = c.args.file in let old = (g.H.Host.seen c.args.host.now).past in let first = (g.H.Host.seen c.sync.new.self).past in
    let second = (g.H.Host.seen c.len.new.self).past in let third = (g.H.Host.seen c.write_zeros.new.host).past in
    let before : g.H.Host.honest → contents (of file second) ≡ contents (of file old) =
    λ h. ap (λ (past : List Event). contents (of file past)) (c.len.ensures.past h) ∙ reads_after file Synced old first (c.in_ok-sync.ensures.done h) in
    on_ok_weaker c.sync-2.result
    (λ done h. reads_after file Synced third (g.H.Host.seen c.sync-2.new.self).past (done h) ∙ c.in_ok-write_zeros.ensures.zeros h ∙ ap (filled_to c.args.end) (before h))
    c.sync-2.ensures.done
