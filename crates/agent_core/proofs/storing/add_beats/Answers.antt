use Rattle.std.proofs.Common.{◌≡◌, List, ◌∷◌, [], Ok, Err, refl, rules, sym, ap, subst, ◌∙◌}
use Rattle.std.proofs.lemmas.Result.{err_from_is_err_and}
use Rattle.host_model.specs.Disks.{EveryDisk}
use Rattle.host_model.specs.Moments.{begins, Throughout}
use Rattle.host_model.proofs.MomentLemmas.{joined}
use Rattle.history.specs.declared.numbered.NumberedChart.{NumberedChart}
use Rattle.history.specs.declared.numbered.NumberedDimension.{NumberedDimension}
use Rattle.entry_codec.specs.Entries.{is_collected_canonical, IsWithinLimits}
use Rattle.history.specs.History.{Beat, copied}
use Rattle.history.specs.Registry.{Registry}
use Rattle.agent_core.specs.declared.fault.AgentFault.TheVariants.{Memory}
use Rattle.agent_core.specs.Stands.{StandsForPrefix}
use Rattle.agent_core.specs.Storing.{defining, later_copies, named_series, AreSent, HasAdded, MayTakeAll}
use Rattle.agent_core.proofs.PrefixLemmas.{added-behind, copies-are, first_copy, first-moments, rest-moments, rest-sent, sent-first}
use Rattle.agent_core.proofs.KeepsLemmas.{keeps-after, keeps-both}
use Rattle.agent_core.proofs.KeptLemmas.{stays}
use Rattle.agent_core.proofs.BoundLemmas.{grows-both, grows-none}
use Rattle.agent_core.proofs.storing.add_beats.Goals as goal

pub returns-in_default-clause-any_moment : goal.returns-in_default-clause-any_moment
returns-in_default-clause-any_moment g c true_host before set h holds was is all = begins (λ disk images. (0, stays (g.H.Host.seen c.args.host.now).past c.args.store.now set h holds disk images))

pub returns-in_err-events-clause-any_moment : goal.returns-in_err-events-clause-any_moment
returns-in_err-events-clause-any_moment g c true_host before set h holds was is all =
    let registry = c.args.left.now.registry in
    let message = c.args.message.now in
    let first = c.in-Some.first.now in
    let rest = c.in-Some.rest.now in
    let beats : c.args.beats.now ≡ first ∷ rest = search rules in
    let same = copies-are registry message c.args.beats.now first rest beats in
    let copy = first_copy registry message first in
    let later = later_copies registry message rest in
    let mine : MayTakeAll h (copied copy ∷ later) = subst (MayTakeAll h) same all in
    let sent = sent-first before registry message c.as_slice-charts.result.now c.as_slice-dimensions.result.now first h (c.as_slice-charts.ensures ∙ c.requires.charts) (c.as_slice-dimensions.ensures ∙ c.requires.dimensions) was.registry_is is mine.0 in
    let past = (g.H.Host.seen c.args.host.now).past in
    let middle = (g.H.Host.seen c.add_copy.new.host).past in
    let begun = first-moments set h (copied copy) later past middle (c.add_copy.ensures.any_moment true_host set h copy holds sent) in
    subst (λ (more : List Beat). Throughout (EveryDisk (StandsForPrefix set h more)) past middle) (sym same) begun

pub returns-in_err-more-clause-any_moment : goal.returns-in_err-more-clause-any_moment
returns-in_err-more-clause-any_moment g c true_host before set h holds was is all =
    let registry = c.args.left.now.registry in
    let message = c.args.message.now in
    let first = c.in-Some.first.now in
    let rest = c.in-Some.rest.now in
    let beats : c.args.beats.now ≡ first ∷ rest = search rules in
    let same = copies-are registry message c.args.beats.now first rest beats in
    let copy = first_copy registry message first in
    let later = later_copies registry message rest in
    let mine : MayTakeAll h (copied copy ∷ later) = subst (MayTakeAll h) same all in
    let sent = sent-first before registry message c.as_slice-charts.result.now c.as_slice-dimensions.result.now first h (c.as_slice-charts.ensures ∙ c.requires.charts) (c.as_slice-dimensions.ensures ∙ c.requires.dimensions) was.registry_is is mine.0 in
    let past = (g.H.Host.seen c.args.host.now).past in
    let middle = (g.H.Host.seen c.add_copy.new.host).past in
    let begun = first-moments set h (copied copy) later past middle (c.add_copy.ensures.any_moment true_host set h copy holds sent) in
    let new = (g.H.Host.seen c.add_later.new.host).past in
    let stored = c.in_ok-events.ensures.done true_host before set h copy holds was sent in
    let more_is : later_copies c.add_copy.new.left.registry message rest ≡ later = ap (λ (r : Registry). later_copies r message rest) c.add_copy.ensures.registry in
    let takes : MayTakeAll (copied copy ∷ h) (later_copies c.add_copy.new.left.registry message rest) = subst (MayTakeAll (copied copy ∷ h)) (sym more_is) mine.1 in
    let went = rest-moments set h (copied copy) later middle new
    (subst (λ (more : List Beat). Throughout (EveryDisk (StandsForPrefix set (copied copy ∷ h) more)) middle new) more_is (c.add_later.ensures.any_moment true_host set (copied copy ∷ h) stored.holds stored.left_by takes)) in
    subst (λ (more : List Beat). Throughout (EveryDisk (StandsForPrefix set h more)) past new) (sym same) (joined begun went)

pub returns-in_err-add_events-clause-any_moment : goal.returns-in_err-add_events-clause-any_moment
returns-in_err-add_events-clause-any_moment g c true_host before set h holds was is all =
    let registry = c.args.left.now.registry in
    let message = c.args.message.now in
    let first = c.in-Some.first.now in
    let rest = c.in-Some.rest.now in
    let beats : c.args.beats.now ≡ first ∷ rest = search rules in
    let same = copies-are registry message c.args.beats.now first rest beats in
    let copy = first_copy registry message first in
    let later = later_copies registry message rest in
    let mine : MayTakeAll h (copied copy ∷ later) = subst (MayTakeAll h) same all in
    let sent = sent-first before registry message c.as_slice-charts.result.now c.as_slice-dimensions.result.now first h (c.as_slice-charts.ensures ∙ c.requires.charts) (c.as_slice-dimensions.ensures ∙ c.requires.dimensions) was.registry_is is mine.0 in
    let past = (g.H.Host.seen c.args.host.now).past in
    let middle = (g.H.Host.seen c.add_copy.new.host).past in
    let begun = first-moments set h (copied copy) later past middle (c.add_copy.ensures.any_moment true_host set h copy holds sent) in
    let new = (g.H.Host.seen c.add_later.new.host).past in
    let stored = c.in_ok-events.ensures.done true_host before set h copy holds was sent in
    let more_is : later_copies c.add_copy.new.left.registry message rest ≡ later = ap (λ (r : Registry). later_copies r message rest) c.add_copy.ensures.registry in
    let takes : MayTakeAll (copied copy ∷ h) (later_copies c.add_copy.new.left.registry message rest) = subst (MayTakeAll (copied copy ∷ h)) (sym more_is) mine.1 in
    let went = rest-moments set h (copied copy) later middle new
    (subst (λ (more : List Beat). Throughout (EveryDisk (StandsForPrefix set (copied copy ∷ h) more)) middle new) more_is (c.add_later.ensures.any_moment true_host set (copied copy ∷ h) stored.holds stored.left_by takes)) in
    subst (λ (more : List Beat). Throughout (EveryDisk (StandsForPrefix set h more)) past new) (sym same) (joined begun went)

pub returns-clause-any_moment : goal.returns-clause-any_moment
returns-clause-any_moment g c true_host before set h holds was is all =
    let registry = c.args.left.now.registry in
    let message = c.args.message.now in
    let first = c.in-Some.first.now in
    let rest = c.in-Some.rest.now in
    let beats : c.args.beats.now ≡ first ∷ rest = search rules in
    let same = copies-are registry message c.args.beats.now first rest beats in
    let copy = first_copy registry message first in
    let later = later_copies registry message rest in
    let mine : MayTakeAll h (copied copy ∷ later) = subst (MayTakeAll h) same all in
    let sent = sent-first before registry message c.as_slice-charts.result.now c.as_slice-dimensions.result.now first h (c.as_slice-charts.ensures ∙ c.requires.charts) (c.as_slice-dimensions.ensures ∙ c.requires.dimensions) was.registry_is is mine.0 in
    let past = (g.H.Host.seen c.args.host.now).past in
    let middle = (g.H.Host.seen c.add_copy.new.host).past in
    let begun = first-moments set h (copied copy) later past middle (c.add_copy.ensures.any_moment true_host set h copy holds sent) in
    let new = (g.H.Host.seen c.add_later.new.host).past in
    let stored = c.in_ok-events.ensures.done true_host before set h copy holds was sent in
    let more_is : later_copies c.add_copy.new.left.registry message rest ≡ later = ap (λ (r : Registry). later_copies r message rest) c.add_copy.ensures.registry in
    let takes : MayTakeAll (copied copy ∷ h) (later_copies c.add_copy.new.left.registry message rest) = subst (MayTakeAll (copied copy ∷ h)) (sym more_is) mine.1 in
    let went = rest-moments set h (copied copy) later middle new
    (subst (λ (more : List Beat). Throughout (EveryDisk (StandsForPrefix set (copied copy ∷ h) more)) middle new) more_is (c.add_later.ensures.any_moment true_host set (copied copy ∷ h) stored.holds stored.left_by takes)) in
    subst (λ (more : List Beat). Throughout (EveryDisk (StandsForPrefix set h more)) past new) (sym same) (joined begun went)

pub returns-clause-done : goal.returns-clause-done
returns-clause-done g c true_host before set h holds was is all some =
    let registry = c.args.left.now.registry in
    let message = c.args.message.now in
    let first = c.in-Some.first.now in
    let rest = c.in-Some.rest.now in
    let beats : c.args.beats.now ≡ first ∷ rest = search rules in
    let same = copies-are registry message c.args.beats.now first rest beats in
    let copy = first_copy registry message first in
    let later = later_copies registry message rest in
    let mine : MayTakeAll h (copied copy ∷ later) = subst (MayTakeAll h) same all in
    let sent = sent-first before registry message c.as_slice-charts.result.now c.as_slice-dimensions.result.now first h (c.as_slice-charts.ensures ∙ c.requires.charts) (c.as_slice-dimensions.ensures ∙ c.requires.dimensions) was.registry_is is mine.0 in
    let new = (g.H.Host.seen c.add_later.new.host).past in
    let stored = c.in_ok-events.ensures.done true_host before set h copy holds was sent in
    let more_is : later_copies c.add_copy.new.left.registry message rest ≡ later = ap (λ (r : Registry). later_copies r message rest) c.add_copy.ensures.registry in
    let takes : MayTakeAll (copied copy ∷ h) (later_copies c.add_copy.new.left.registry message rest) = subst (MayTakeAll (copied copy ∷ h)) (sym more_is) mine.1 in
    let followed = subst (λ (more : List Beat). HasAdded new c.add_later.new.store c.add_later.new.left set (copied copy ∷ h) more c.in_ok-more.more) more_is
    (c.in_ok-more.ensures.done true_host set (copied copy ∷ h) stored.holds stored.left_by takes) in
    subst (λ (more : List Beat). HasAdded new c.add_later.new.store c.add_later.new.left set h more c.add_events.new.events) (sym same)
    (added-behind new c.add_later.new.store c.add_later.new.left set h (copied copy ∷ []) later c.in_ok-events.events c.in_ok-more.more c.add_events.new.events stored.events_are followed c.in_ok-add_events.ensures)

pub add_later-requires-clause-sent : goal.add_later-requires-clause-sent
add_later-requires-clause-sent g c =
    let first = c.in-Some.first.now in
    let rest = c.in-Some.rest.now in
    let beats : c.args.beats.now ≡ first ∷ rest = search rules in
    rest-sent c.args.store.now.tiers.last c.add_copy.new.store.tiers.last c.args.message.now first rest (subst (AreSent c.args.store.now.tiers.last c.args.message.now) beats c.requires.sent) c.in_ok-events.ensures.last

pub returns-in_err-more-clause-keeps : goal.returns-in_err-more-clause-keeps
returns-in_err-more-clause-keeps g c =
    let p = err_from_is_err_and c.from_residual-in_err-more.result c.from_residual-in_err-more.ensures.1 in
    rw (p.1, p.2) (keeps-both g.H.Host.honest (g.H.Host.seen c.args.host.now) (g.H.Host.seen c.add_copy.new.host) (g.H.Host.seen c.add_later.new.host) c.args.store.now c.add_copy.new.store c.add_later.new.store c.in_ok-events.events (Err c.in_err-more.field-0.0) c.in_ok-events.ensures.keeps c.in_err-more.ensures.keeps)

pub returns-in_err-add_events-clause-keeps : goal.returns-in_err-add_events-clause-keeps
returns-in_err-add_events-clause-keeps g c =
    let p = err_from_is_err_and c.from_residual-in_err-add_events.result c.from_residual-in_err-add_events.ensures.1 in
    rw (p.1, p.2) (keeps-after g.H.Host.honest (g.H.Host.seen c.args.host.now) (g.H.Host.seen c.add_later.new.host) (g.H.Host.seen c.add_later.new.host) c.args.store.now c.add_later.new.store c.add_later.new.store c.in_ok-more.more (Err Memory)
    (keeps-both g.H.Host.honest (g.H.Host.seen c.args.host.now) (g.H.Host.seen c.add_copy.new.host) (g.H.Host.seen c.add_later.new.host) c.args.store.now c.add_copy.new.store c.add_later.new.store c.in_ok-events.events (Ok c.in_ok-more.more) c.in_ok-events.ensures.keeps c.in_ok-more.ensures.keeps) refl refl refl)

pub returns-clause-keeps : goal.returns-clause-keeps
returns-clause-keeps g c =
    keeps-after g.H.Host.honest (g.H.Host.seen c.args.host.now) (g.H.Host.seen c.add_later.new.host) (g.H.Host.seen c.add_later.new.host) c.args.store.now c.add_later.new.store c.add_later.new.store c.in_ok-more.more (Ok c.add_events.new.events)
    (keeps-both g.H.Host.honest (g.H.Host.seen c.args.host.now) (g.H.Host.seen c.add_copy.new.host) (g.H.Host.seen c.add_later.new.host) c.args.store.now c.add_copy.new.store c.add_later.new.store c.in_ok-events.events (Ok c.in_ok-more.more) c.in_ok-events.ensures.keeps c.in_ok-more.ensures.keeps) refl refl tt

pub returns-in_default-clause-bound : goal.returns-in_default-clause-bound
returns-in_default-clause-bound g c true_host before set h holds was is all limit fits =
    grows-none set limit (g.H.Host.seen c.args.host.now).past c.args.store.now

pub returns-in_err-events-clause-bound : goal.returns-in_err-events-clause-bound
returns-in_err-events-clause-bound g c true_host before set h holds was is all limit fits =
    c.add_copy.ensures.bound true_host set h holds limit

pub returns-in_err-more-clause-bound : goal.returns-in_err-more-clause-bound
returns-in_err-more-clause-bound g c true_host before set h holds was is all limit fits =
    let registry = c.args.left.now.registry in
    let message = c.args.message.now in
    let first = c.in-Some.first.now in
    let rest = c.in-Some.rest.now in
    let beats : c.args.beats.now ≡ first ∷ rest = search rules in
    let same = copies-are registry message c.args.beats.now first rest beats in
    let copy = first_copy registry message first in
    let later = later_copies registry message rest in
    let mine : MayTakeAll h (copied copy ∷ later) = subst (MayTakeAll h) same all in
    let sent = sent-first before registry message c.as_slice-charts.result.now c.as_slice-dimensions.result.now first h (c.as_slice-charts.ensures ∙ c.requires.charts) (c.as_slice-dimensions.ensures ∙ c.requires.dimensions) was.registry_is is mine.0 in
    let stored = c.in_ok-events.ensures.done true_host before set h copy holds was sent in
    let more_is : later_copies c.add_copy.new.left.registry message rest ≡ later = ap (λ (r : Registry). later_copies r message rest) c.add_copy.ensures.registry in
    let takes : MayTakeAll (copied copy ∷ h) (later_copies c.add_copy.new.left.registry message rest) = subst (MayTakeAll (copied copy ∷ h)) (sym more_is) mine.1 in
    grows-both set limit (g.H.Host.seen c.args.host.now).past (g.H.Host.seen c.add_copy.new.host).past (g.H.Host.seen c.add_later.new.host).past c.args.store.now c.add_copy.new.store c.add_later.new.store
    (c.add_copy.ensures.bound true_host set h holds limit) (c.add_later.ensures.bound true_host set (copied copy ∷ h) stored.holds stored.left_by takes limit fits)

pub returns-in_err-add_events-clause-bound : goal.returns-in_err-add_events-clause-bound
returns-in_err-add_events-clause-bound g c true_host before set h holds was is all limit fits =
    let registry = c.args.left.now.registry in
    let message = c.args.message.now in
    let first = c.in-Some.first.now in
    let rest = c.in-Some.rest.now in
    let beats : c.args.beats.now ≡ first ∷ rest = search rules in
    let same = copies-are registry message c.args.beats.now first rest beats in
    let copy = first_copy registry message first in
    let later = later_copies registry message rest in
    let mine : MayTakeAll h (copied copy ∷ later) = subst (MayTakeAll h) same all in
    let sent = sent-first before registry message c.as_slice-charts.result.now c.as_slice-dimensions.result.now first h (c.as_slice-charts.ensures ∙ c.requires.charts) (c.as_slice-dimensions.ensures ∙ c.requires.dimensions) was.registry_is is mine.0 in
    let stored = c.in_ok-events.ensures.done true_host before set h copy holds was sent in
    let more_is : later_copies c.add_copy.new.left.registry message rest ≡ later = ap (λ (r : Registry). later_copies r message rest) c.add_copy.ensures.registry in
    let takes : MayTakeAll (copied copy ∷ h) (later_copies c.add_copy.new.left.registry message rest) = subst (MayTakeAll (copied copy ∷ h)) (sym more_is) mine.1 in
    grows-both set limit (g.H.Host.seen c.args.host.now).past (g.H.Host.seen c.add_copy.new.host).past (g.H.Host.seen c.add_later.new.host).past c.args.store.now c.add_copy.new.store c.add_later.new.store
    (c.add_copy.ensures.bound true_host set h holds limit) (c.add_later.ensures.bound true_host set (copied copy ∷ h) stored.holds stored.left_by takes limit fits)

pub returns-clause-bound : goal.returns-clause-bound
returns-clause-bound g c true_host before set h holds was is all limit fits =
    let registry = c.args.left.now.registry in
    let message = c.args.message.now in
    let first = c.in-Some.first.now in
    let rest = c.in-Some.rest.now in
    let beats : c.args.beats.now ≡ first ∷ rest = search rules in
    let same = copies-are registry message c.args.beats.now first rest beats in
    let copy = first_copy registry message first in
    let later = later_copies registry message rest in
    let mine : MayTakeAll h (copied copy ∷ later) = subst (MayTakeAll h) same all in
    let sent = sent-first before registry message c.as_slice-charts.result.now c.as_slice-dimensions.result.now first h (c.as_slice-charts.ensures ∙ c.requires.charts) (c.as_slice-dimensions.ensures ∙ c.requires.dimensions) was.registry_is is mine.0 in
    let stored = c.in_ok-events.ensures.done true_host before set h copy holds was sent in
    let more_is : later_copies c.add_copy.new.left.registry message rest ≡ later = ap (λ (r : Registry). later_copies r message rest) c.add_copy.ensures.registry in
    let takes : MayTakeAll (copied copy ∷ h) (later_copies c.add_copy.new.left.registry message rest) = subst (MayTakeAll (copied copy ∷ h)) (sym more_is) mine.1 in
    grows-both set limit (g.H.Host.seen c.args.host.now).past (g.H.Host.seen c.add_copy.new.host).past (g.H.Host.seen c.add_later.new.host).past c.args.store.now c.add_copy.new.store c.add_later.new.store
    (c.add_copy.ensures.bound true_host set h holds limit) (c.add_later.ensures.bound true_host set (copied copy ∷ h) stored.holds stored.left_by takes limit fits)

pub returns-in_err-more-clause-gaps : goal.returns-in_err-more-clause-gaps
returns-in_err-more-clause-gaps g c = c.add_later.ensures.gaps ∙ c.add_copy.ensures.gaps

pub returns-in_err-add_events-clause-gaps : goal.returns-in_err-add_events-clause-gaps
returns-in_err-add_events-clause-gaps g c = c.add_later.ensures.gaps ∙ c.add_copy.ensures.gaps

pub returns-clause-gaps : goal.returns-clause-gaps
returns-clause-gaps g c = c.add_later.ensures.gaps ∙ c.add_copy.ensures.gaps

pub add_copy-requires-clause-series : goal.add_copy-requires-clause-series
add_copy-requires-clause-series g c = c.as_slice-series.ensures.value ∙ c.requires.series

pub add_later-requires-clause-series : goal.add_later-requires-clause-series
add_later-requires-clause-series g c =
    c.as_slice-series.ensures.value ∙ c.requires.series ∙ ap (λ (r : Registry). named_series r c.args.message.now.names) (sym c.add_copy.ensures.registry)

pub add_copy-requires-clause-within : goal.add_copy-requires-clause-within
add_copy-requires-clause-within g c =
    subst (λ (ds : List NumberedDimension). IsWithinLimits (defining c.as_slice-charts.result.now ds)) (sym c.as_slice-dimensions.ensures)
    (subst (λ (cs : List NumberedChart). IsWithinLimits (defining cs c.args.numbers.now.definitions.dimensions)) (sym c.as_slice-charts.ensures) c.requires.within)

pub add_copy-requires-clause-canonical : goal.add_copy-requires-clause-canonical
add_copy-requires-clause-canonical g c = (λ i. is_collected_canonical (defining (c.as_slice-charts.ensures i) (c.as_slice-dimensions.ensures i))) ∙ c.requires.canonical
