use Rattle.std.proofs.Common.{◌≡◌, ℕ, ◌+◌, ◌*◌, ◌^◌, length, inl, inr, ap, sym, ◌∙◌, subst, arith}
use Rattle.std.proofs.lemmas.Bool.{cases_lt, false≢true}
use Rattle.extent_file.specs.Fields.{IsAllowed, GoesOn}
use Rattle.extent_file.proofs.FieldLemmas.{unit-step, goes_on, multiple_of, whole_allowed}
use Rattle.extent_file.proofs.field.first_wrong.Goals as goal

pub overflow_mul-unit : goal.overflow_mul-unit
overflow_mul-unit c =
    let step = unit-step c.loop-place.place (omega (arith, c.loop-place-test.true, c.min-place-end.ensures, c.requires.form.most)) in
    let e = ap (λ (u : ℕ). u * 256) c.loop-place.invariant.unit in
    omega (arith, step, e)

pub has_multiple-requires-clause-low : goal.has_multiple-requires-clause-low
has_multiple-requires-clause-low c =
    let step = unit-step c.loop-place.place (omega (arith, c.loop-place-test.true, c.min-place-end.ensures, c.requires.form.most)) in
    omega (arith, step, c.loop-place.invariant.unit)

pub has_multiple-requires-clause-high : goal.has_multiple-requires-clause-high
has_multiple-requires-clause-high c =
    let step = unit-step c.loop-place.place (omega (arith, c.loop-place-test.true, c.min-place-end.ensures, c.requires.form.most)) in
    omega (arith, step, c.loop-place.invariant.unit)

pub returns-then-not-has_multiple : goal.returns-then-not-has_multiple
returns-then-not-has_multiple c =
    let place : ℕ = c.loop-place.place in
    let step = unit-step place (omega (arith, c.loop-place-test.true, c.min-place-end.ensures, c.requires.form.most)) in
    let unit : c.loop-place.unit * 256 ≡ 256 ^ (place + 1) = ap (λ (u : ℕ). u * 256) c.loop-place.invariant.unit ∙ step.0 in
    record {
      within = omega (arith, c.loop-place-test.true, c.min-place-end.ensures);
      reaches = omega (arith, c.loop-place-test.true, c.min-place-end.ensures);
      before = c.loop-place.invariant.goes_on;
      here = λ inside goes.
          let more = multiple_of c.args.field (place + 1) c.args.bytes.now (omega (arith, inside)) goes in
          false≢true (sym c.if-not-has_multiple.true
          ∙ c.has_multiple.ensures.1 (more.0, rw (c.read_uint-number.ensures, unit) more.1));
      refused = c.requires.wrong;
    }

pub loop-place-preserved : goal.loop-place-preserved
loop-place-preserved c =
    let place : ℕ = c.loop-place.place in
    let step = unit-step place (omega (arith, c.loop-place-test.true, c.min-place-end.ensures, c.requires.form.most)) in
    let unit : c.loop-place.unit * 256 ≡ 256 ^ (place + 1) = ap (λ (u : ℕ). u * 256) c.loop-place.invariant.unit ∙ step.0 in
    record {
      unit = unit;
      goes_on = λ _.
          let more = c.has_multiple.ensures.0 c.if-not-has_multiple.false in
          goes_on c.args.field (place + 1) c.args.bytes.now more.0 c.requires.form
          (omega (arith, c.loop-place-test.true, c.min-place-end.ensures)) (omega (arith, c.loop-place-test.true, c.min-place-end.ensures))
          (let at : IsAllowed c.args.field (c.read_uint-number.result + c.loop-place.unit * 256 * more.0) = more.1 in
          let there = rw (c.read_uint-number.ensures, unit) at at in there);
    }

pub returns : goal.returns
returns c =
    let field = c.args.field in let bytes = c.args.bytes.now in
    elim (cases_lt (length bytes) field.width) [
      | inl short ↦
          let here : c.loop-place.place ≡ length bytes = omega (arith, short, c.loop-place-test.false, c.loop-place.auto.place-end, c.min-place-end.ensures) in
          record {
            within = short;
            reaches = omega arith;
            before = λ some. subst (λ (n : ℕ). GoesOn field n bytes) here (c.loop-place.invariant.goes_on (omega (arith, here, some)));
            here = λ below. absurd (omega (arith, below));
            refused = c.requires.wrong;
          }
      | inr long ↦
          let here : c.loop-place.place ≡ field.width = omega (arith, long, c.loop-place-test.false, c.loop-place.auto.place-end, c.min-place-end.ensures) in
          absurd (c.requires.wrong long (whole_allowed field bytes c.requires.form long
          (subst (λ (n : ℕ). GoesOn field n bytes) here (c.loop-place.invariant.goes_on (omega (arith, here, c.requires.form.some))))))
    ]
