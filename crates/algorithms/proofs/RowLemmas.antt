-- Sums and lists of a row's samples, one more at a time.
use Rattle.std.proofs.Common.{◌≡◌, ℕ, suc, ◌*◌, ◌≤◌, Bool, List, [], ◌∷◌, length, drop, take, map, Option, Result, Ok, Err, IfOk, ℤ, ◌+ℤ◌, unsigned_abs, arith, sym, refl, ap, ◌∙◌}
use Rattle.std.proofs.lemmas.List.{take_all, length-map}
use Rattle.std.proofs.lemmas.Simd.{map-map}
use Rattle.history.specs.declared.row.Value.{Value}
use Rattle.history.specs.declared.dimension.DimDef.{DimDef}
use Rattle.history.specs.Points.{Cell, word_by, row_words, total, total_difference}
use Rattle.algorithms.specs.declared.fault.AlgoFault.{AlgoFault}
use Rattle.algorithms.specs.declared.last.Last.{Last}
use Rattle.algorithms.specs.declared.sample.Sample.{Sample}
use Rattle.algorithms.specs.Cells.{cells}
use Rattle.algorithms.specs.Samples.{cell_at}
use Rattle.algorithms.specs.Words.{packed}

-- the sum of the samples before a place, by what those behind it give, and its bound
pub record SumsTo (sum_of : List Cell → ℤ) (samples : List Sample) (place most : ℕ) (sum : ℤ) : Type 0 where
  pub rest : sum +ℤ sum_of (map cell_at (drop place samples)) ≡ sum_of (map cell_at samples)
  pub bound : unsigned_abs sum ≤ place * most

-- the words of all samples, with their sums, are those of the row
pub words_are : (samples : List Sample) (count : ℕ) (words : List (Option ℕ)) (values rises : ℤ) → length samples ≤ count
    → words ≡ map (λ (sample : Sample). word_by packed sample.algorithm values rises (cell_at sample)) (take count samples)
    → values ≡ total (map cell_at samples) → rises ≡ total_difference (map cell_at samples)
    → words ≡ row_words packed (map cell_at samples)
words_are samples count words values rises all same values-is rises-is =
    same
    ∙ rw (take_all count samples all, values-is, rises-is) refl
    ∙ sym (map-map (λ (cell : Cell). word_by packed cell.algorithm (total (map cell_at samples)) (total_difference (map cell_at samples)) cell) cell_at samples)

-- a row has a cell for each value
pub length-cells : (update_every : ℕ) (store_first : Bool) (moment : ℕ) (now : List Value) (lasts : List (Option Last)) (defs : List DimDef)
    → length lasts ≡ length now → length defs ≡ length now → length (cells update_every store_first moment now lasts defs) ≡ length now
length-cells update_every store_first moment [] lasts defs l d = refl
length-cells update_every store_first moment (value ∷ now) [] defs l d = absurd (omega arith)
length-cells update_every store_first moment (value ∷ now) (last ∷ lasts) [] l d = absurd (omega arith)
length-cells update_every store_first moment (value ∷ now) (last ∷ lasts) (def ∷ defs) l d =
    ap suc (length-cells update_every store_first moment now lasts defs (omega arith) (omega arith))

pub length-samples : (samples : List Sample) (update_every : ℕ) (store_first : Bool) (moment : ℕ) (now : List Value) (lasts : List (Option Last)) (defs : List DimDef)
    → map cell_at samples ≡ cells update_every store_first moment now lasts defs
    → length lasts ≡ length now → length defs ≡ length now → length samples ≡ length now
length-samples samples update_every store_first moment now lasts defs same l d =
    sym (length-map samples cell_at) ∙ ap length same ∙ length-cells update_every store_first moment now lasts defs l d

-- a row has a word for each cell
pub words_counted : (cells : List Cell) (count : ℕ) (words : Result (List (Option ℕ)) AlgoFault)
    → IfOk words (λ words. words ≡ row_words packed cells) → length cells ≡ count → IfOk words (λ words. length words ≡ count)
words_counted cells count (Ok words) same counted = ap length same ∙ length-map cells _ ∙ counted
words_counted cells count (Err fault) same counted = tt
