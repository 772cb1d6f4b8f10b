use Rattle.std.proofs.Common.{◌+◌, [], drop, refl, sym, ap, ◌∙◌, arith}
use Rattle.std.proofs.lemmas.List.Elements.{All-push}
use Rattle.std.proofs.lemmas.Result.{err_from_is_err_and}
use Rattle.plugin_text.specs.LineList.{line_at, lines_at, IsWithin}
use Rattle.plugin_text.specs.Lines.{parts}
use Rattle.plugin_text.proofs.CutLemmas.{IsRest-nil, HasCut-start, HasCut-line, IsLongAfter-cut, BeginsWithLines-cut, lines-cut, rest-cut, AllPass-lines_cut, same_error}
use Rattle.plugin_text.proofs.LineListLemmas.{fits_at, too_long_at, lines_at-push}
use Rattle.plugin_text.proofs.line_list.add_places.Goals as goal

pub loop-place-init : goal.loop-place-init
loop-place-init c = record {
  within = c.requires.within;
  low = omega arith;
  high = c.requires.start;
  cut = HasCut-start [] (drop c.args.start c.args.bytes.now) (lines_at c.args.bytes.now c.args.places.now.items) IsRest-nil;
}

pub line_place-requires : goal.line_place-requires
line_place-requires c = c.loop-place.invariant.high

pub returns-in_err-add_place-clause-within : goal.returns-in_err-add_place-clause-within
returns-in_err-add_place-clause-within c = rw c.in_err-add_place.ensures.err c.loop-place.invariant.within

pub returns-in_err-add_place-clause-long : goal.returns-in_err-add_place-clause-long
returns-in_err-add_place-clause-long c =
    let bytes = c.args.bytes.now in
    let place = c.in-Some.place in
    let inside = c.in-Some.ensures.within in
    let within : IsWithin bytes place = (omega (arith, inside.0, inside.1), omega (arith, inside.2)) in
    let p = err_from_is_err_and c.from_residual.result c.from_residual.ensures.1 in
    let fault = c.in_err-add_place.ensures in
    rw (p.1, p.2) (λ is. IsLongAfter-cut _ _ _ _ _ c.loop-place.invariant.cut (line_at bytes place) (parts (drop (place.end + 1) bytes)) _ c.in-Some.ensures.place
    (too_long_at bytes place within (fault.too_long (same_error _ _ is))) (ap (lines_at bytes) fault.err))

pub returns-in_err-add_place-clause-memory : goal.returns-in_err-add_place-clause-memory
returns-in_err-add_place-clause-memory c =
    λ _. BeginsWithLines-cut _ _ _ _ _ c.loop-place.invariant.cut _ (ap (lines_at c.args.bytes.now) c.in_err-add_place.ensures.err)

pub loop-place-smaller : goal.loop-place-smaller
loop-place-smaller c =
    let inside = c.in-Some.ensures.within in
    omega (arith, inside.0, inside.1, inside.2)

pub loop-place-preserved : goal.loop-place-preserved
loop-place-preserved c =
    let bytes = c.args.bytes.now in
    let place = c.in-Some.place in
    let inside = c.in-Some.ensures.within in
    let within : IsWithin bytes place = (omega (arith, inside.0, inside.1), omega (arith, inside.2)) in
    let before = c.loop-place.invariant in
    let added = c.in_ok-add_place.ensures in
    record {
      within = rw added.ok (All-push (IsWithin bytes) c.loop-place.places.items place before.within within);
      low = omega (arith, before.low, inside.1);
      high = omega (arith, inside.2);
      cut = HasCut-line _ _ _ _ _ before.cut (line_at bytes place) (drop (place.end + 1) bytes) [] _ c.in-Some.ensures.place (fits_at bytes place within added.fits) refl
          (ap (lines_at bytes) added.ok ∙ lines_at-push bytes c.loop-place.places.items place);
    }

pub returns-clause-within : goal.returns-clause-within
returns-clause-within c = c.loop-place.invariant.within

pub returns-clause-end : goal.returns-clause-end
returns-clause-end c = (c.loop-place.invariant.low, c.loop-place.invariant.high)

pub returns-clause-lines : goal.returns-clause-lines
returns-clause-lines c = lines-cut _ _ _ _ _ c.loop-place.invariant.cut c.in_default.ensures.place

pub returns-clause-rest : goal.returns-clause-rest
returns-clause-rest c = sym (rest-cut _ _ _ _ _ c.loop-place.invariant.cut c.in_default.ensures.place)

pub returns-clause-short : goal.returns-clause-short
returns-clause-short c = AllPass-lines_cut _ _ _ _ _ c.loop-place.invariant.cut c.in_default.ensures.place
