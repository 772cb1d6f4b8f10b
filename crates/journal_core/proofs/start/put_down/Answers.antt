use Rattle.std.proofs.Common.{◌≡◌, ℕ, ◌+◌, ◌≤◌, List, [], ◌∷◌, ◌++◌, length, take, sym, ap, ◌∙◌, arith, rules}
use Rattle.std.proofs.lemmas.Result.{on_ok_weaker}
use Rattle.host_model.specs.Images.{Wrote, Cut, Synced, contents, written}
use Rattle.host_model.specs.Past.{of}
use Rattle.host_model.specs.Moments.{begins}
use Rattle.host_model.proofs.FileLemmas.{written-end}
use Rattle.host_model.proofs.MomentLemmas.{OnlyOn-same}
use Rattle.host_model.proofs.CallLemmas.{reads_after, only_changed, only_settled}
use Rattle.host_model.proofs.SizeLemmas.{within_write, within_cut, within_sync}
use Rattle.journal_core.proofs.start.put_down.Goals as goal

pub returns-in_err-cut-clause-any_moment : goal.returns-in_err-cut-clause-any_moment
returns-in_err-cut-clause-any_moment g c h =
    let file = c.args.file in
    let old = (g.H.Host.seen c.args.host.now).past in
    only_changed g.H.Host.honest c.cut.result file (Cut 0 (take 0 (contents (of file old)))) (λ now. Cut 0 now) old old (g.H.Host.seen c.cut.new.self).past h c.cut.ensures.done c.cut.ensures.torn
    (begins (OnlyOn-same file old))

pub returns-in_err-write_at-clause-any_moment : goal.returns-in_err-write_at-clause-any_moment
returns-in_err-write_at-clause-any_moment g c h =
    let file = c.args.file in
    let old = (g.H.Host.seen c.args.host.now).past in
    let cut = (g.H.Host.seen c.cut.new.self).past in
    only_changed g.H.Host.honest c.write_at.result file (Wrote 0 (length c.args.head) (written (contents (of file cut)) 0 c.args.head)) (λ now. Wrote 0 (length c.args.head) now) old cut (g.H.Host.seen c.write_at.new.self).past h c.write_at.ensures.done c.write_at.ensures.torn
    (only_changed g.H.Host.honest c.cut.result file (Cut 0 (take 0 (contents (of file old)))) (λ now. Cut 0 now) old old cut h c.cut.ensures.done c.cut.ensures.torn
    (begins (OnlyOn-same file old)))

pub returns-in_err-write_at-2-clause-any_moment : goal.returns-in_err-write_at-2-clause-any_moment
returns-in_err-write_at-2-clause-any_moment g c h =
    let file = c.args.file in
    let old = (g.H.Host.seen c.args.host.now).past in
    let cut = (g.H.Host.seen c.cut.new.self).past in
    let headed = (g.H.Host.seen c.write_at.new.self).past in
    only_changed g.H.Host.honest c.write_at-2.result file (Wrote 16 1 (written (contents (of file headed)) 16 (0 ∷ []))) (λ now. Wrote 16 1 now) old headed (g.H.Host.seen c.write_at-2.new.self).past h c.write_at-2.ensures.done c.write_at-2.ensures.torn
    (only_changed g.H.Host.honest c.write_at.result file (Wrote 0 (length c.args.head) (written (contents (of file cut)) 0 c.args.head)) (λ now. Wrote 0 (length c.args.head) now) old cut headed h c.write_at.ensures.done c.write_at.ensures.torn
    (only_changed g.H.Host.honest c.cut.result file (Cut 0 (take 0 (contents (of file old)))) (λ now. Cut 0 now) old old cut h c.cut.ensures.done c.cut.ensures.torn
    (begins (OnlyOn-same file old))))

pub returns-clause-any_moment : goal.returns-clause-any_moment
returns-clause-any_moment g c h =
    let file = c.args.file in
    let old = (g.H.Host.seen c.args.host.now).past in
    let cut = (g.H.Host.seen c.cut.new.self).past in
    let headed = (g.H.Host.seen c.write_at.new.self).past in
    let gated = (g.H.Host.seen c.write_at-2.new.self).past in
    only_settled g.H.Host.honest c.sync.result file old gated (g.H.Host.seen c.sync.new.self).past h c.sync.ensures.done c.sync.ensures.torn
    (only_changed g.H.Host.honest c.write_at-2.result file (Wrote 16 1 (written (contents (of file headed)) 16 (0 ∷ []))) (λ now. Wrote 16 1 now) old headed gated h c.write_at-2.ensures.done c.write_at-2.ensures.torn
    (only_changed g.H.Host.honest c.write_at.result file (Wrote 0 (length c.args.head) (written (contents (of file cut)) 0 c.args.head)) (λ now. Wrote 0 (length c.args.head) now) old cut headed h c.write_at.ensures.done c.write_at.ensures.torn
    (only_changed g.H.Host.honest c.cut.result file (Cut 0 (take 0 (contents (of file old)))) (λ now. Cut 0 now) old old cut h c.cut.ensures.done c.cut.ensures.torn
    (begins (OnlyOn-same file old)))))

-- a header and a gate, written into a file that was cut to nothing
put_down_reads : (head first second third : List ℕ) → length head ≡ 16 → first ≡ [] → second ≡ written first 0 head → third ≡ written second 16 (0 ∷ [])
    → third ≡ head ++ 0 ∷ []
put_down_reads head first second third size none headed gated =
    let all : second ≡ head = headed ∙ ap (λ (l : List ℕ). written l 0 head) none ∙ written-end [] head in
    gated ∙ ap (λ (l : List ℕ). written l 16 (0 ∷ [])) all ∙ ap (λ (n : ℕ). written head n (0 ∷ [])) (sym size) ∙ written-end head (0 ∷ [])

pub returns-clause-whole : goal.returns-clause-whole
returns-clause-whole g c =
    let file = c.args.file in
    let old = (g.H.Host.seen c.args.host.now).past in
    let cut = (g.H.Host.seen c.cut.new.self).past in
    let headed = (g.H.Host.seen c.write_at.new.self).past in
    let gated = (g.H.Host.seen c.write_at-2.new.self).past in
    on_ok_weaker c.sync.result
    (λ synced h.
    reads_after file Synced gated (g.H.Host.seen c.sync.new.self).past (synced h)
    ∙ put_down_reads c.args.head (contents (of file cut)) (contents (of file headed)) (contents (of file gated)) (search rules)
    (reads_after file (Cut 0 (take 0 (contents (of file old)))) old cut (c.in_ok-cut.ensures.done h))
    (reads_after file (Wrote 0 (length c.args.head) (written (contents (of file cut)) 0 c.args.head)) cut headed (c.in_ok-write_at.ensures.done h))
    (reads_after file (Wrote 16 1 (written (contents (of file headed)) 16 (0 ∷ []))) headed gated (c.in_ok-write_at-2.ensures.done h)))
    c.sync.ensures.done

-- the header is shorter than an empty journal
head_fits : (head : List ℕ) (size : ℕ) → length head ≡ 16 → 17 ≤ size → 0 + length head ≤ size
head_fits head size long fits = omega arith

pub returns-in_err-cut-clause-bound : goal.returns-in_err-cut-clause-bound
returns-in_err-cut-clause-bound g c size fits h short =
    let file = c.args.file in
    let old = (g.H.Host.seen c.args.host.now).past in
    within_cut g.H.Host.honest c.cut.result size file 0 (take 0 (contents (of file old))) old old (g.H.Host.seen c.cut.new.self).past h c.cut.ensures.done c.cut.ensures.torn
    (begins short)

pub returns-in_err-write_at-clause-bound : goal.returns-in_err-write_at-clause-bound
returns-in_err-write_at-clause-bound g c size fits h short =
    let file = c.args.file in
    let old = (g.H.Host.seen c.args.host.now).past in
    let cut = (g.H.Host.seen c.cut.new.self).past in
    within_write g.H.Host.honest c.write_at.result size file 0 (length c.args.head) (written (contents (of file cut)) 0 c.args.head) old cut (g.H.Host.seen c.write_at.new.self).past h (head_fits c.args.head size (search rules) fits) c.write_at.ensures.done c.write_at.ensures.torn
    (within_cut g.H.Host.honest c.cut.result size file 0 (take 0 (contents (of file old))) old old cut h c.cut.ensures.done c.cut.ensures.torn
    (begins short))

pub returns-in_err-write_at-2-clause-bound : goal.returns-in_err-write_at-2-clause-bound
returns-in_err-write_at-2-clause-bound g c size fits h short =
    let file = c.args.file in
    let old = (g.H.Host.seen c.args.host.now).past in
    let cut = (g.H.Host.seen c.cut.new.self).past in
    let headed = (g.H.Host.seen c.write_at.new.self).past in
    within_write g.H.Host.honest c.write_at-2.result size file 16 1 (written (contents (of file headed)) 16 (0 ∷ [])) old headed (g.H.Host.seen c.write_at-2.new.self).past h (omega arith) c.write_at-2.ensures.done c.write_at-2.ensures.torn
    (within_write g.H.Host.honest c.write_at.result size file 0 (length c.args.head) (written (contents (of file cut)) 0 c.args.head) old cut headed h (head_fits c.args.head size (search rules) fits) c.write_at.ensures.done c.write_at.ensures.torn
    (within_cut g.H.Host.honest c.cut.result size file 0 (take 0 (contents (of file old))) old old cut h c.cut.ensures.done c.cut.ensures.torn
    (begins short)))

pub returns-clause-bound : goal.returns-clause-bound
returns-clause-bound g c size fits h short =
    let file = c.args.file in
    let old = (g.H.Host.seen c.args.host.now).past in
    let cut = (g.H.Host.seen c.cut.new.self).past in
    let headed = (g.H.Host.seen c.write_at.new.self).past in
    let gated = (g.H.Host.seen c.write_at-2.new.self).past in
    within_sync g.H.Host.honest c.sync.result size file old gated (g.H.Host.seen c.sync.new.self).past h c.sync.ensures.done c.sync.ensures.torn
    (g.met.H.Host.reads_an_image c.write_at-2.new.self file h)
    (within_write g.H.Host.honest c.write_at-2.result size file 16 1 (written (contents (of file headed)) 16 (0 ∷ [])) old headed gated h (omega arith) c.write_at-2.ensures.done c.write_at-2.ensures.torn
    (within_write g.H.Host.honest c.write_at.result size file 0 (length c.args.head) (written (contents (of file cut)) 0 c.args.head) old cut headed h (head_fits c.args.head size (search rules) fits) c.write_at.ensures.done c.write_at.ensures.torn
    (within_cut g.H.Host.honest c.cut.result size file 0 (take 0 (contents (of file old))) old old cut h c.cut.ensures.done c.cut.ensures.torn
    (begins short))))
