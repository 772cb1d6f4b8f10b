use Rattle.std.proofs.Common.{◌≡◌, ℕ, List, length, map, sym, ap, subst, ◌∙◌}
use Rattle.std.specs.List.{AllByRecursion}
use Rattle.beat_tiers.specs.declared.kept.KeptBeat.{KeptBeat}
use Rattle.replication.specs.declared.beats.Beat.{Beat}
use Rattle.replication.specs.Answer.{data_of}
use Rattle.replication.specs.Names.{placed_beat, uses, words_of}
use Rattle.agent_core.specs.Asking.{IsSendable}
use Rattle.agent_core.specs.Copies.{names_of, sent_beat}
use Rattle.agent_core.specs.Used.{has, Rise}
use Rattle.agent_core.proofs.UsedRegistry.{series-below}
use Rattle.agent_core.proofs.UsedRules.{used-answer, used-rules}
use Rattle.agent_core.proofs.asking.sent.Goals as goal

pub used_names-requires-clause-rise : goal.used_names-requires-clause-rise
used_names-requires-clause-rise c = subst Rise (sym c.as_slice-series.ensures.value) c.in_ok-used.ensures.rise

pub placed_beats-requires : goal.placed_beats-requires
placed_beats-requires c = subst Rise (sym c.as_slice-series.ensures.value) c.in_ok-used.ensures.rise

pub used_names-requires-clause-within : goal.used_names-requires-clause-within
used_names-requires-clause-within c =
    let size = length c.args.registry.now.dimensions in
    let beats = c.in_ok-sendable.sendable in
    let sendable : AllByRecursion (IsSendable size) beats = subst (λ (n : ℕ). AllByRecursion (IsSendable n) beats) c.dimensions.ensures.value c.in_ok-sendable.ensures.sendable in
    let same : has c.as_slice-series.result.now ≡ uses (words_of beats) =
    ap has c.as_slice-series.ensures.value ∙ c.in_ok-used.ensures.same ∙ ap (λ (some : List Beat). uses (words_of some)) c.as_slice-beats.ensures in
    series-below size beats c.as_slice-series.result.now same sendable

pub returns-clause-same : goal.returns-clause-same
returns-clause-same c all child floor ask =
    let registry = c.args.registry.now in
    let kept = c.args.kept.now in
    let beats = c.in_ok-sendable.sendable in
    let series = c.as_slice-series.result.now in
    let same : has series ≡ uses (words_of beats) = ap has c.as_slice-series.ensures.value ∙ c.in_ok-used.ensures.same ∙ ap (λ (some : List Beat). uses (words_of some)) c.as_slice-beats.ensures in
    let placed : c.in_ok-placed.placed ≡ map (placed_beat (has series)) beats = c.in_ok-placed.ensures ∙ ap (map (placed_beat (has series))) c.as_slice-beats.ensures in
    let whole : AllByRecursion (IsSendable (length registry.dimensions)) (map sent_beat kept) → beats ≡ map sent_beat kept =
    subst (λ (n : ℕ). AllByRecursion (IsSendable n) (map sent_beat kept) → beats ≡ map sent_beat kept) c.dimensions.ensures.value
    (subst (λ (some : List KeptBeat). AllByRecursion (IsSendable c.dimensions.result) (map sent_beat some) → beats ≡ map sent_beat some) c.as_slice.ensures c.in_ok-sendable.ensures.all) in
    used-answer (names_of registry) beats series same c.in_ok-names.names (c.in_ok-names.ensures.names (words_of beats) same) c.in_ok-placed.placed placed child floor ask
    ∙ ap (λ (some : List Beat). data_of child floor (names_of registry) some ask) (whole all)

pub returns-clause-rules : goal.returns-clause-rules
returns-clause-rules c =
    let registry = c.args.registry.now in
    let beats = c.in_ok-sendable.sendable in
    let series = c.as_slice-series.result.now in
    let same : has series ≡ uses (words_of beats) = ap has c.as_slice-series.ensures.value ∙ c.in_ok-used.ensures.same ∙ ap (λ (some : List Beat). uses (words_of some)) c.as_slice-beats.ensures in
    let placed : c.in_ok-placed.placed ≡ map (placed_beat (has series)) beats = c.in_ok-placed.ensures ∙ ap (map (placed_beat (has series))) c.as_slice-beats.ensures in
    let sendable : AllByRecursion (IsSendable (length registry.dimensions)) beats = subst (λ (n : ℕ). AllByRecursion (IsSendable n) beats) c.dimensions.ensures.value c.in_ok-sendable.ensures.sendable in
    used-rules registry c.requires.charts c.requires.dimensions c.requires.limits beats c.in_ok-sendable.ensures.rises c.in_ok-sendable.ensures.fits sendable
    series (subst Rise (sym c.as_slice-series.ensures.value) c.in_ok-used.ensures.rise) same
    c.in_ok-names.names (c.in_ok-names.ensures.names (words_of beats) same) c.in_ok-names.ensures.texts c.in_ok-names.ensures.owned c.in_ok-placed.placed placed
