use Rattle.std.specs.Prelude.{ℕ, List}
use Rattle.simple_pattern.specs.Words.{words}
use Rattle.simple_pattern.specs.declared.cut.Words.{Words}

-- the words that have not been cut yet
abbrev pub words_left : Words → List (List ℕ)
words_left reader = words reader.commas reader.rest.now
