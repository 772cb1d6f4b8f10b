use Rattle.std.proofs.Common.{◌≡◌, ◌-◌, take, ap, sym, ◌∙◌, arith}
use Rattle.plugin_text.specs.Text.{shortened}
use Rattle.plugin_text.proofs.TextLemmas.{cut_prefix}
use Rattle.plugin_text.proofs.text.shortened.Goals as goal

pub returns : goal.returns
unfolding shortened
returns c =
    let at = c.floor_char_boundary.ensures in
    let n = c.floor_char_boundary.result in
    let start : n - 0 ≡ n = omega arith in
    c.range.ensures.value ∙ ap (λ k. take k c.args.text.now) start
    ∙ sym (cut_prefix 200 n c.args.text.now (record { utf8 = c.utf8.text; bound = at.bound; boundary = at.boundary; nearest = at.nearest }))
