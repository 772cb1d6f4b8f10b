use Rattle.std.proofs.Common.{◌≡◌, List, [], ◌∷◌, ◌++◌, OnOk, ap, sym, subst, ◌∙◌}
use Rattle.beat_tiers.specs.declared.kept.KeptBeat.{KeptBeat}
use Rattle.beat_tiers.specs.Kept.{behind_beats}
use Rattle.beat_tiers.proofs.BeatRuns.{behind-last}
use Rattle.beat_tiers.proofs.kept.add_item.Goals as goal

pub returns-in-Some : goal.returns-in-Some
returns-in-Some c =
    let item = c.args.item.now in
    let same : c.pop.new.self.items ++ behind_beats (c.in-Some.last ∷ []) item ≡ behind_beats c.args.beats.now.items item =
    sym (ap (λ beats. behind_beats beats item) c.in-Some.ensures.items ∙ behind-last c.pop.new.self.items c.in-Some.last item) in
    subst (λ (beats : List KeptBeat). OnOk c.add_behind.result (c.add_behind.new.beats.items ≡ beats)) same c.add_behind.ensures
