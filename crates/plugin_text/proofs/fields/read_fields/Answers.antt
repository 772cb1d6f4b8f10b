use Rattle.std.proofs.Common.{◌∙◌, ◌≡◌, length, arith}
use Rattle.std.proofs.lemmas.Bool.Decides.{nat_tests}
use Rattle.plugin_text.specs.declared.fields.TheConstants.{FIELD_COUNT}
use Rattle.plugin_text.proofs.FieldsLemmas.{kept_full, kept_all}
use Rattle.plugin_text.proofs.fields.read_fields.Goals as goal

pub loop-word-preserved : goal.loop-word-preserved
loop-word-preserved c =
    let full : length c.loop-word.fields.items ≡ FIELD_COUNT = grind (arith, nat_tests) in
    record {
      fits = c.loop-word.invariant.fits;
      read = kept_full _ c.loop-word.fields.items _ _ _ _ full (rw c.in-Some.is at c.in_ok-word.ensures.word) c.loop-word.invariant.read;
      open_quote = c.in_ok-word.ensures.open_later ∙ c.loop-word.invariant.open_quote;
    }

pub returns-clause-words : goal.returns-clause-words
returns-clause-words c =
    kept_all _ c.loop-word.fields.items _ _ c.loop-word.invariant.fits (rw c.in_default.is at c.in_ok-word.ensures.end) c.loop-word.invariant.read
