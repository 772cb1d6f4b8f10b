use Rattle.std.proofs.Common.{◌≡◌, [], ◌++◌, flat_map, ap, sym, ◌∙◌, append_assoc}
use Rattle.beat_tiers.specs.declared.item.Stepped.{Stepped}
use Rattle.beat_tiers.specs.declared.parts.Segment.{Segment}
use Rattle.beat_tiers.specs.Kept.{beats_in, behind_all}
use Rattle.beat_tiers.proofs.BeatRuns.{behind-all-in}
use Rattle.beat_tiers.proofs.Searches.{items-split}
use Rattle.beat_tiers.proofs.kept.beats_of.Goals as goal

pub returns : goal.returns
returns c =
    let segments = c.args.segments.now.kept in
    let early = flat_map (λ (segment : Segment Stepped). segment.items) c.sealed.result.0.now in
    let late = flat_map (λ (segment : Segment Stepped). segment.items) c.sealed.result.1.now in
    let first : c.add_segments.new.beats.items ≡ beats_in early =
    c.in_ok-add_segments.ensures ∙ ap (λ beats. behind_all beats early) c.new-beats.ensures.items ∙ behind-all-in [] early in
    let second : c.add_segments-2.new.beats.items ≡ beats_in (early ++ late) =
    c.in_ok-add_segments-2.ensures ∙ ap (λ beats. behind_all beats late) first ∙ behind-all-in early late in
    c.from_vec.ensures ∙ c.in_ok-add_items.ensures
    ∙ ap (λ beats. behind_all beats c.unsealed.result.now) second ∙ behind-all-in (early ++ late) c.unsealed.result.now
    ∙ ap beats_in (append_assoc early late c.unsealed.result.now ∙ ap (λ zs. early ++ (late ++ zs)) c.unsealed.ensures
    ∙ sym (items-split segments c.sealed.result.0.now c.sealed.result.1.now c.sealed.ensures.all))
