use Rattle.std.proofs.Common.{ℕ, ◌<◌, get_or, length, sym, subst}
use Rattle.std.specs.List.{AllByRecursion}
use Rattle.list_lemmas.proofs.Every.{all-append}
use Rattle.replication.proofs.MarksCode.{all-index}
use Rattle.agent_core.specs.Asking.{HasChart, IsDimensionInUtf8}
use Rattle.agent_core.specs.Used.{has}
use Rattle.agent_core.proofs.SentBeats.{same-item}
use Rattle.agent_core.proofs.SentNames.{told}
use Rattle.agent_core.proofs.UsedNumbers.{holds-more, made-more}
use Rattle.agent_core.proofs.used.dimension_names.Goals as goal

pub dimension_name-requires-clause-within : goal.dimension_name-requires-clause-within
dimension_name-requires-clause-within c =
    let series = c.args.series.now in
    let n = c.loop-number.number-index in
    let lt = c.loop-number-test.true in
    all-index (λ (number : ℕ). number < length c.args.registry.now.dimensions) series n (get_or series n 0) c.requires.within lt (sym (same-item series n 0 lt))

pub loop-number-preserved : goal.loop-number-preserved
loop-number-preserved c =
    let registry = c.args.registry.now in
    let series = c.args.series.now in
    let n = c.loop-number.number-index in
    let lt = c.loop-number-test.true in
    let number = get_or series n 0 in
    let at = sym (same-item series n 0 lt) in
    let within = all-index (λ (number : ℕ). number < length registry.dimensions) series n number c.requires.within lt at in
    record {
      names = made-more registry.dimensions series n number lt at within (told registry (has c.args.charts.now)) c.in_ok-name.name c.loop-number.names c.push.new.self
          c.in_ok-name.ensures.name c.in_ok-push.ensures.ok c.loop-number.invariant.names;
      texts = subst (AllByRecursion IsDimensionInUtf8) (sym c.in_ok-push.ensures.ok) (all-append IsDimensionInUtf8 c.loop-number.names _ c.loop-number.invariant.texts (c.in_ok-name.ensures.text, tt));
      owned = holds-more registry.dimensions series n number lt at within (HasChart registry) c.in_ok-name.ensures.owned c.loop-number.invariant.owned;
    }
