use Rattle.std.proofs.Common.{◌≡◌, ◌≤◌, List, ◌∷◌, ◌++◌, ◌∙◌, subst}
use Rattle.host_model.specs.declared.file.File.{File}
use Rattle.host_model.specs.Images.{contents, greatest}
use Rattle.host_model.specs.Past.{Event, of}
use Rattle.host_model.specs.Moments.{Throughout}
use Rattle.checkpoint.specs.Form.{slot_bytes}
use Rattle.checkpoint.proofs.FormLemmas.{whole_bytes}
use Rattle.checkpoint.proofs.MomentLemmas.{switch_moments_of, switch_done_of}
use Rattle.checkpoint.proofs.switching.switch.Goals as goal

pub returns-in_err-replace-clause-any_moment : goal.returns-in_err-replace-clause-any_moment
returns-in_err-replace-clause-any_moment g c h before held next =
    let number = c.args.number in
    let body = c.args.body.now in
    let head = c.head_bytes-head.result in
    switch_moments_of number body (1 ∷ (head ++ body)) c.slot_file_of.result (g.H.Host.seen c.args.host.now).past (g.H.Host.seen c.replace.new.host).past before
    c.slot_file_of.ensures (whole_bytes number head body c.head_bytes-head.ensures.bytes)
    c.ranges.number.fits c.head_bytes-head.ensures.fits next
    (g.met.H.Host.reads_an_image c.args.host.now c.slot_file_of.result h) (c.replace.ensures.only_here h) held (c.replace.ensures.any_moment h)

pub returns-clause-any_moment : goal.returns-clause-any_moment
returns-clause-any_moment g c h before held next =
    let number = c.args.number in
    let body = c.args.body.now in
    let head = c.head_bytes-head.result in
    switch_moments_of number body (1 ∷ (head ++ body)) c.slot_file_of.result (g.H.Host.seen c.args.host.now).past (g.H.Host.seen c.replace.new.host).past before
    c.slot_file_of.ensures (whole_bytes number head body c.head_bytes-head.ensures.bytes)
    c.ranges.number.fits c.head_bytes-head.ensures.fits next
    (g.met.H.Host.reads_an_image c.args.host.now c.slot_file_of.result h) (c.replace.ensures.only_here h) held (c.replace.ensures.any_moment h)

pub returns-clause-switched : goal.returns-clause-switched
returns-clause-switched g c h before held next =
    let number = c.args.number in
    let body = c.args.body.now in
    let head = c.head_bytes-head.result in
    switch_done_of number body (1 ∷ (head ++ body)) c.slot_file_of.result (g.H.Host.seen c.args.host.now).past (g.H.Host.seen c.replace.new.host).past before
    c.slot_file_of.ensures (whole_bytes number head body c.head_bytes-head.ensures.bytes)
    c.ranges.number.fits c.head_bytes-head.ensures.fits next
    (g.met.H.Host.reads_an_image c.args.host.now c.slot_file_of.result h) (c.replace.ensures.only_here h) held
    (c.in_ok-replace.ensures.synced h)
    (c.in_ok-replace.ensures.whole h)

pub returns-clause-whole : goal.returns-clause-whole
returns-clause-whole g c h =
    let body = c.args.body.now in
    let head = c.head_bytes-head.result in
    let new = (g.H.Host.seen c.replace.new.host).past in
    subst (λ (file : File). contents (of file new) ≡ slot_bytes 1 c.args.number body) c.slot_file_of.ensures
    (c.in_ok-replace.ensures.whole h ∙ whole_bytes c.args.number head body c.head_bytes-head.ensures.bytes)

pub returns-in_err-replace-clause-bound : goal.returns-in_err-replace-clause-bound
returns-in_err-replace-clause-bound g c size fits h =
    let old = (g.H.Host.seen c.args.host.now).past in
    subst (λ (file : File). greatest (of file old) ≤ size → Throughout (λ (past : List Event). greatest (of file past) ≤ size) old (g.H.Host.seen c.replace.new.host).past) c.slot_file_of.ensures
    (c.replace.ensures.bound size fits h)

pub returns-clause-bound : goal.returns-clause-bound
returns-clause-bound g c size fits h =
    let old = (g.H.Host.seen c.args.host.now).past in
    subst (λ (file : File). greatest (of file old) ≤ size → Throughout (λ (past : List Event). greatest (of file past) ≤ size) old (g.H.Host.seen c.replace.new.host).past) c.slot_file_of.ensures
    (c.replace.ensures.bound size fits h)
