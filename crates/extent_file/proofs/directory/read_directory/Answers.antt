use Rattle.std.proofs.Common.{◌≡◌, ℕ, ◌+◌, ◌*◌, ◌-◌, [], ◌∷◌, ◌++◌, length, sym, ap, subst, refl, arith}
use Rattle.std.proofs.lemmas.List.{length-append}
use Rattle.extent_file.specs.declared.entry.Entry.{Entry}
use Rattle.extent_file.specs.declared.entry.Before.{Before}
use Rattle.extent_file.specs.Form.{StopsAt}
use Rattle.extent_file.specs.Directory.{at_first, after_entry, directory_form, Follows}
use Rattle.host_model.proofs.CallLemmas.{ok_part}
use Rattle.extent_file.proofs.OrderLemmas.{order-push, after_all-push, one_left, one_read, all_read}
use Rattle.extent_file.proofs.directory.read_directory.Goals as goal

pub returns-in-Err-clause-bad : goal.returns-in-Err-clause-bad
returns-in-Err-clause-bad c place is bytes window form prefix enough leads =
    let left : ℕ = c.args.pages - 1 - c.loop-index.index in
    let here = one_left c.args.tier c.args.size c.args.pages c.loop-index.index c.loop-index.before c.loop-index.entries form bytes (24 + 24 * c.loop-index.index) (omega (arith, c.loop-index-test.true))
    (c.loop-index.invariant.leads bytes window form prefix enough leads) in
    let stop : StopsAt form bytes c.in-Err.place = c.in-Err.ensures.leads (λ (entry : Entry). directory_form c.args.tier c.args.size left (after_entry c.args.tier entry) (c.loop-index.entries ++ entry ∷ []))
    bytes window form prefix (omega (arith, enough, c.loop-index-test.true)) here in
    (c.in-Err.place, (let same : c.args.start + c.in-Err.place ≡ place = cc in sym same), stop)

pub loop-index-preserved : goal.loop-index-preserved
loop-index-preserved c =
    let tier = c.args.tier in let first = at_first c.args.pages in let entries = c.loop-index.entries in let entry = c.in-Ok.entry in
    let more : c.push.new.self ≡ entries ++ entry ∷ [] = ok_part c.push.result (sym c.if-is_err.ensures.value) c.push.ensures.ok in
    let follows : Follows tier c.loop-index.before entry = c.in-Ok.ensures.follows in
    let was = c.loop-index.invariant.before in let place = ap (λ (b : Before). b.place) c.after-before.ensures in
    let count = c.loop-index.invariant.count in let inside = c.in-Ok.ensures.inside in
    let long = ap length more in let both = length-append entries (entry ∷ []) in
    record {
      order = rw more (order-push tier first entries entry c.loop-index.invariant.order (subst (λ (b : Before). Follows tier b entry) was follows));
      before = rw (more, after_all-push tier first entries entry) c.after-before.ensures;
      count = omega (arith, long, both, count);
      inside = omega (arith, inside);
      place = omega (arith, place, inside);
      leads = λ bytes window form prefix enough start.
          let left : ℕ = c.args.pages - 1 - c.loop-index.index in
          let here = one_left tier c.args.size c.args.pages c.loop-index.index c.loop-index.before entries form bytes (24 + 24 * c.loop-index.index) (omega (arith, c.loop-index-test.true))
          (c.loop-index.invariant.leads bytes window form prefix enough start) in
          one_read tier c.args.size c.args.pages c.loop-index.index (24 + 24 * c.loop-index.index) c.after-before.result entries c.push.new.self entry form bytes more c.after-before.ensures refl
          (c.in-Ok.ensures.leads (λ (e : Entry). directory_form tier c.args.size left (after_entry tier e) (entries ++ e ∷ []))
          bytes window form prefix (omega (arith, enough, c.loop-index-test.true)) here);
    }

pub returns-clause-whole : goal.returns-clause-whole
returns-clause-whole c bytes window form prefix enough leads =
    all_read c.args.tier c.args.size c.args.pages c.loop-index.index c.loop-index.before c.loop-index.entries form bytes
    (omega (arith, c.loop-index-test.false, c.loop-index.auto.index-end)) c.loop-index.invariant.count
    (c.loop-index.invariant.leads bytes window form prefix enough leads)
