use Rattle.std.proofs.Common.{map, ap, ◌∙◌}
use Rattle.alarm_core.specs.declared.telling.Told.{Told}
use Rattle.alarm_core.specs.Charts.{owner, owner_of}
use Rattle.alarm_core.specs.Course.{configured}
use Rattle.alarm_core.proofs.AgainLemmas.{pair_owners}
use Rattle.alarm_core.proofs.alarms.Alarms.configure.Goals as goal

pub invariant_of-self-3-clause-taken : goal.invariant_of-self-3-clause-taken
invariant_of-self-3-clause-taken c = λ is. record {
  owners = ap (map owner) (c.into_vec.ensures ∙ c.in_ok-made.ensures.states) ∙ pair_owners _ _ _ _ ∙ ap (map owner_of) c.as_slice-pairs.ensures;
  none_lost = c.clear-2.ensures;
}

pub returns-clause-events : goal.returns-clause-events
unfolding configured
returns-clause-events c =
    let wanted = rw (c.as_slice-4.ensures, c.into_parts-text.ensures.alarms) at c.in_ok-pairing.ensures.wanted in
    let told =
    rw (c.as_slice.ensures, c.as_slice-2.ensures, c.as_slice-3.ensures, c.as_slice-pairs.ensures, c.as_slice-states.ensures.value, c.clear.ensures, c.into_parts-text.ensures.alarms, wanted)
    at c.in_ok-made.ensures.told in
    c.replace.ensures.value ∙ ap (λ (told : Told). told.events) told
