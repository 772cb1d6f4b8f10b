use Rattle.std.proofs.Common.{◌≡◌, ℕ, ◌+◌, true, length, Option, Some, slice_get, rules, sym, ap, ◌∙◌, arith}
use Rattle.std.proofs.lemmas.Grind.{common_steps}
use Rattle.list_lemmas.proofs.Every.{all-at}
use Rattle.replication.specs.declared.message.Data.{Data}
use Rattle.replication.specs.Names.{named_beats, message_of}
use Rattle.replication.specs.Sound.{IsTrueData}
use Rattle.replication.specs.Verdict.{is_stored}
use Rattle.replication.specs.World.{kept_of, verdict_in}
use Rattle.replication.proofs.ScheduleCode.{judged-same, stored-first, stored-end, of-one}
use Rattle.replication.proofs.schedule.deliver.Goals as goal

pub returns-in_ok-store-in-None-clause-step : goal.returns-in_ok-store-in-None-clause-step
returns-in_ok-store-in-None-clause-step c =
    let w = c.args.world.now in
    let sent = c.in-Some.message.now in
    let found : slice_get w.messages c.args.place ≡ Some sent = sym c.in-Some.ensures in
    let own : is_stored (verdict_in w sent) ≡ true = sym (judged-same w c.args.parent.now sent _ c.requires.end c.stores-stored.ensures.stored) ∙ first_of (search rules, grind (arith, common_steps)) in
    let beats = c.in_ok-beats.ensures ∙ ap (named_beats sent.names) c.as_slice-numbered.ensures in
    stored-first w _ c.args.place _ c.args.keep sent _ found own beats
    (ap (λ beats. length beats + 1) (c.as_slice-list.ensures.value ∙ beats) ∙ ap (λ (keep : Option ℕ). kept_of keep (message_of sent)) (sym c.in-None.is)) (c.in_ok-store-in-None.ensures)

pub returns-in_ok-store-in-None-clause-end : goal.returns-in_ok-store-in-None-clause-end
returns-in_ok-store-in-None-clause-end c =
    let w = c.args.world.now in
    let sent = c.in-Some.message.now in
    let found : slice_get w.messages c.args.place ≡ Some sent = sym c.in-Some.ensures in
    let own : is_stored (verdict_in w sent) ≡ true = sym (judged-same w c.args.parent.now sent _ c.requires.end c.stores-stored.ensures.stored) ∙ first_of (search rules, grind (arith, common_steps)) in
    let beats = c.in_ok-beats.ensures ∙ ap (named_beats sent.names) c.as_slice-numbered.ensures in
    let taken = c.stores-stored.ensures.taken (first_of (search rules, grind (arith, common_steps))) in
    let truth = all-at (IsTrueData w.floors w.beats) w.messages c.args.place sent c.requires.sound.told found in
    let end = stored-end w _ _ sent _ truth.says own beats (ap (λ beats. length beats + 1) c.as_slice-list.ensures.value) (c.in_ok-store-in-None.ensures) in
    record {
      last = ap (λ parent. parent.last) taken ∙ end;
      child = of-one _ _ (omega (arith, end, truth.says.some)) (ap (λ parent. parent.child) taken ∙ ap Some (all-at (λ (sent : Data). sent.child ≡ 1) w.messages c.args.place sent c.requires.sound.child found));
    }

pub returns-in_ok-store-in-Some-keep-clause-step : goal.returns-in_ok-store-in-Some-keep-clause-step
returns-in_ok-store-in-Some-keep-clause-step c =
    let w = c.args.world.now in
    let sent = c.in-Some.message.now in
    let found : slice_get w.messages c.args.place ≡ Some sent = sym c.in-Some.ensures in
    let own : is_stored (verdict_in w sent) ≡ true = sym (judged-same w c.args.parent.now sent _ c.requires.end c.stores-stored.ensures.stored) ∙ first_of (search rules, grind (arith, common_steps)) in
    let beats = c.in_ok-beats.ensures ∙ ap (named_beats sent.names) c.as_slice-numbered.ensures in
    stored-first w _ c.args.place _ c.args.keep sent _ found own beats
    (ap (λ (keep : Option ℕ). kept_of keep (message_of sent)) (sym c.in-Some-keep.is)) (c.in_ok-store-in-Some-keep.ensures)
