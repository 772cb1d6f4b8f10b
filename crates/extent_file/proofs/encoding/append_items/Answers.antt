use Rattle.std.proofs.Common.{◌≡◌, ℕ, ◌++◌, List, get_or, subst}
use Rattle.extent_file.specs.declared.page.Page.{Page}
use Rattle.extent_file.specs.Writing.{IsEncoded}
use Rattle.extent_file.proofs.EncodeLemmas.{items-more}
use Rattle.extent_file.proofs.encoding.append_items.Goals as goal

pub loop-page-preserved : goal.loop-page-preserved
loop-page-preserved c =
    let page = c.page-item.result in
    let is : page ≡ get_or c.args.pages.now c.loop-page.page-index page = c.page-item.is in
    items-more c.args.pages.now c.loop-page.page-index page c.args.out.now c.loop-page.out c.encode.new.out c.loop-page-test.true c.loop-page.invariant
    (subst (λ (p : Page). (more : List ℕ) × (c.encode.new.out ≡ c.loop-page.out ++ more) × IsEncoded p more) is c.in_ok-encode.ensures)
