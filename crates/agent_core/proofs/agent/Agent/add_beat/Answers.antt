use Rattle.std.proofs.Common.{◌∷◌, ◌∙◌, inl, sym, ap, subst}
use Rattle.host_model.proofs.DiskLemmas.{disks_weaker}
use Rattle.history.specs.History.{collected}
use Rattle.history.specs.Numbered.{numbered_beat}
use Rattle.history.specs.Registry.{Registry}
use Rattle.beat_entries.specs.Rules.{with_beat}
use Rattle.beat_entries.specs.Taking.{IsJudged}
use Rattle.store_core.specs.Store.{is_due, StoreState}
use Rattle.agent_core.specs.Agent.{left_in, AgentState}
use Rattle.agent_core.specs.Bound.{GrowsWithin}
use Rattle.agent_core.specs.Keeping.{KeepsStore}
use Rattle.agent_core.specs.Kept.{IsJudgedAt}
use Rattle.agent_core.specs.Left.{IsLeftBy}
use Rattle.agent_core.specs.Rules.{HasLimits}
use Rattle.agent_core.specs.Stands.{HoldsHistory}
use Rattle.agent_core.proofs.BoundLemmas.{grows-both}
use Rattle.agent_core.proofs.KeepsLemmas.{keeps-both, limits-with_beat}
use Rattle.agent_core.proofs.KeptLemmas.{taken-of, then-either}
use Rattle.agent_core.proofs.Outcomes.{always, on_ok}
use Rattle.agent_core.proofs.agent.Agent.add_beat.Goals as goal

pub define_beat-requires-clause-judged : goal.define_beat-requires-clause-judged
define_beat-requires-clause-judged g c =
    let opened = c.requires.judged.0 in
    let judged : IsJudged c.self.inside.left.registry opened c.args.numbered.now = subst (λ (a : AgentState). IsJudged a.registry opened c.args.numbered.now) (sym c.self.view_is) c.requires.judged.1 in
    (opened, judged)

pub add-requires-clause-numbered : goal.add-requires-clause-numbered
add-requires-clause-numbered g c =
    let opened = c.requires.judged.0 in
    let judged : IsJudged c.self.inside.left.registry opened c.args.numbered.now = subst (λ (a : AgentState). IsJudged a.registry opened c.args.numbered.now) (sym c.self.view_is) c.requires.judged.1 in
    (opened, judged.numbered_is ∙ ap (λ (r : Registry). numbered_beat r c.args.numbered.now.moment opened) (sym (c.in_ok-define_beat.ensures.taken opened judged)))

pub add-requires-clause-registry : goal.add-requires-clause-registry
add-requires-clause-registry g c =
    let opened = c.requires.judged.0 in
    let judged : IsJudged c.self.inside.left.registry opened c.args.numbered.now = subst (λ (a : AgentState). IsJudged a.registry opened c.args.numbered.now) (sym c.self.view_is) c.requires.judged.1 in
    let limits : HasLimits c.self.inside.left.registry = subst (λ (a : AgentState). HasLimits a.registry) (sym c.self.view_is) c.requires.fits.limits in
    subst HasLimits (sym (c.in_ok-define_beat.ensures.taken opened judged)) (limits-with_beat c.self.inside.left.registry c.args.numbered.now.moment opened limits judged.is_open judged.content)

pub returns-in_err-make_room-clause-any_moment : goal.returns-in_err-make_room-clause-any_moment
returns-in_err-make_room-clause-any_moment g c true_host moment beat set h at holds was follows =
    let past = (g.H.Host.seen c.args.host.now).past in
    let kept = subst (λ (a : AgentState). HoldsHistory past a.store set h) (sym c.self.view_is) holds in
    let left = subst (λ (a : AgentState). IsLeftBy set h (left_in a)) (sym c.self.view_is) was in
    disks_weaker (λ disk stands. inl stands) (c.make_room.ensures.any_moment true_host set h kept left)

pub returns-in_err-define_beat-clause-any_moment : goal.returns-in_err-define_beat-clause-any_moment
returns-in_err-define_beat-clause-any_moment g c true_host moment beat set h at holds was follows =
    let past = (g.H.Host.seen c.args.host.now).past in
    let kept = subst (λ (a : AgentState). HoldsHistory past a.store set h) (sym c.self.view_is) holds in
    let left = subst (λ (a : AgentState). IsLeftBy set h (left_in a)) (sym c.self.view_is) was in
    disks_weaker (λ disk stands. inl stands) (c.make_room.ensures.any_moment true_host set h kept left)

pub returns-clause-any_moment : goal.returns-clause-any_moment
returns-clause-any_moment g c true_host moment beat set h at holds was follows =
    let inside = c.self.inside in
    let mine = subst (λ (a : AgentState). IsJudgedAt a.registry moment beat c.args.numbered.now) (sym c.self.view_is) at in
    let defined = c.in_ok-define_beat.ensures in
    let taken = taken-of inside.left.registry c.define_beat.new.registry moment beat c.args.numbered.now mine (defined.taken beat mine.judged) (defined.regular beat mine.judged) in
    let past = (g.H.Host.seen c.args.host.now).past in
    let kept = subst (λ (a : AgentState). HoldsHistory past a.store set h) (sym c.self.view_is) holds in
    let left = subst (λ (a : AgentState). IsLeftBy set h (left_in a)) (sym c.self.view_is) was in
    let room = c.in_ok-make_room.ensures.done true_host set h kept left in
    then-either past (g.H.Host.seen c.make_room.new.host).past (g.H.Host.seen c.add.new.host).past set h (collected moment beat ∷ h) (c.make_room.ensures.any_moment true_host set h kept left)
    (c.add.ensures.any_moment true_host inside.left.registry moment beat set h taken room left follows)

pub returns-clause-done : goal.returns-clause-done
returns-clause-done g c =
    on_ok _ _ c.add.result c.add.ensures.done (λ did true_host moment beat set h at holds was follows.
    let inside = c.self.inside in
    let mine = subst (λ (a : AgentState). IsJudgedAt a.registry moment beat c.args.numbered.now) (sym c.self.view_is) at in
    let defined = c.in_ok-define_beat.ensures in
    let taken = taken-of inside.left.registry c.define_beat.new.registry moment beat c.args.numbered.now mine (defined.taken beat mine.judged) (defined.regular beat mine.judged) in
    let past = (g.H.Host.seen c.args.host.now).past in
    let kept = subst (λ (a : AgentState). HoldsHistory past a.store set h) (sym c.self.view_is) holds in
    let left = subst (λ (a : AgentState). IsLeftBy set h (left_in a)) (sym c.self.view_is) was in
    let room = c.in_ok-make_room.ensures.done true_host set h kept left in
    did true_host inside.left.registry moment beat set h taken room left follows)

pub returns-clause-registry : goal.returns-clause-registry
returns-clause-registry g c =
    always _ c.add.result (λ beat judged.
    c.add.ensures.registry ∙ c.in_ok-define_beat.ensures.taken beat (subst (λ (a : AgentState). IsJudged a.registry beat c.args.numbered.now) (sym c.self.view_is) judged) ∙ ap (λ (a : AgentState). with_beat a.registry beat) c.self.view_is)

pub returns-clause-limits : goal.returns-clause-limits
returns-clause-limits g c =
    let opened = c.requires.judged.0 in
    let judged : IsJudged c.self.inside.left.registry opened c.args.numbered.now = subst (λ (a : AgentState). IsJudged a.registry opened c.args.numbered.now) (sym c.self.view_is) c.requires.judged.1 in
    let limits : HasLimits c.self.inside.left.registry = subst (λ (a : AgentState). HasLimits a.registry) (sym c.self.view_is) c.requires.fits.limits in
    let after = subst HasLimits (sym (c.in_ok-define_beat.ensures.taken opened judged)) (limits-with_beat c.self.inside.left.registry c.args.numbered.now.moment opened limits judged.is_open judged.content) in
    always _ c.add.result (subst HasLimits (sym c.add.ensures.registry) after)

pub returns-clause-keeps : goal.returns-clause-keeps
returns-clause-keeps g c =
    let host = g.H.Host.seen c.args.host.now in
    let new = g.H.Host.seen c.add.new.host in
    subst (λ (a : AgentState). KeepsStore g.H.Host.honest host a.store c.add.result new c.add.new.store) c.self.view_is
    (keeps-both g.H.Host.honest host (g.H.Host.seen c.make_room.new.host) new c.self.inside.store c.make_room.new.store c.add.new.store c.in_ok-make_room.field-0 c.add.result c.in_ok-make_room.ensures.keeps c.add.ensures.keeps)

pub returns-in_err-make_room-clause-untouched : goal.returns-in_err-make_room-clause-untouched
returns-in_err-make_room-clause-untouched g c not_due =
    let due = ap (λ (a : AgentState). is_due a.store) c.self.view_is ∙ not_due in
    ap (λ (s : StoreState). s.body) (c.make_room.ensures.untouched due).0 ∙ ap (λ (a : AgentState). a.store.body) c.self.view_is

pub returns-in_err-define_beat-clause-untouched : goal.returns-in_err-define_beat-clause-untouched
returns-in_err-define_beat-clause-untouched g c not_due =
    let due = ap (λ (a : AgentState). is_due a.store) c.self.view_is ∙ not_due in
    ap (λ (s : StoreState). s.body) (c.make_room.ensures.untouched due).0 ∙ ap (λ (a : AgentState). a.store.body) c.self.view_is

pub returns-clause-untouched : goal.returns-clause-untouched
returns-clause-untouched g c not_due =
    let due = ap (λ (a : AgentState). is_due a.store) c.self.view_is ∙ not_due in
    c.add.ensures.body ∙ ap (λ (s : StoreState). s.body) (c.make_room.ensures.untouched due).0 ∙ ap (λ (a : AgentState). a.store.body) c.self.view_is

pub returns-in_err-make_room-clause-bound : goal.returns-in_err-make_room-clause-bound
returns-in_err-make_room-clause-bound g c true_host set h holds was limit fits =
    let past = (g.H.Host.seen c.args.host.now).past in
    let kept = subst (λ (a : AgentState). HoldsHistory past a.store set h) (sym c.self.view_is) holds in
    let left = subst (λ (a : AgentState). IsLeftBy set h (left_in a)) (sym c.self.view_is) was in
    subst (λ (a : AgentState). GrowsWithin set limit past a.store (g.H.Host.seen c.make_room.new.host).past c.make_room.new.store) c.self.view_is
    (c.make_room.ensures.bound true_host set h kept left limit fits)

pub returns-in_err-define_beat-clause-bound : goal.returns-in_err-define_beat-clause-bound
returns-in_err-define_beat-clause-bound g c true_host set h holds was limit fits =
    let past = (g.H.Host.seen c.args.host.now).past in
    let kept = subst (λ (a : AgentState). HoldsHistory past a.store set h) (sym c.self.view_is) holds in
    let left = subst (λ (a : AgentState). IsLeftBy set h (left_in a)) (sym c.self.view_is) was in
    subst (λ (a : AgentState). GrowsWithin set limit past a.store (g.H.Host.seen c.make_room.new.host).past c.make_room.new.store) c.self.view_is
    (c.make_room.ensures.bound true_host set h kept left limit fits)

pub returns-clause-bound : goal.returns-clause-bound
returns-clause-bound g c true_host set h holds was limit fits =
    let past = (g.H.Host.seen c.args.host.now).past in
    let middle = (g.H.Host.seen c.make_room.new.host).past in
    let new = (g.H.Host.seen c.add.new.host).past in
    let kept = subst (λ (a : AgentState). HoldsHistory past a.store set h) (sym c.self.view_is) holds in
    let left = subst (λ (a : AgentState). IsLeftBy set h (left_in a)) (sym c.self.view_is) was in
    let room = c.in_ok-make_room.ensures.done true_host set h kept left in
    subst (λ (a : AgentState). GrowsWithin set limit past a.store new c.add.new.store) c.self.view_is
    (grows-both set limit past middle new c.self.inside.store c.make_room.new.store c.add.new.store (c.make_room.ensures.bound true_host set h kept left limit fits) (c.add.ensures.bound true_host set h room limit))

pub returns-clause-gaps : goal.returns-clause-gaps
returns-clause-gaps g c = c.add.ensures.gaps ∙ ap (λ (a : AgentState). a.gaps) c.self.view_is
