use Rattle.std.proofs.Common.{◌++◌}
use Rattle.std.proofs.lemmas.Result.{on_ok_weaker}
use Rattle.plugin_text.proofs.PartsLemmas.{parts_onward}
use Rattle.plugin_text.proofs.splitter.Splitter.feed.Goals as goal

pub returns-clause-onward : goal.returns-clause-onward
returns-clause-onward c =
    let text = c.self.inside.rest ++ c.args.piece.now in
    let cut = c.cut_lines-result in
    rw (← c.self.view_is) (on_ok_weaker cut.result (λ is more. parts_onward text cut.new.held more is) cut.ensures.rest)
