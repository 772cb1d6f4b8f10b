use Rattle.std.proofs.Common.{◌≡◌, ◌≢◌, ◌==◌, ℕ, suc, true, false, List, [], ◌∷◌, ◌++◌, length, All, refl, sym, ap, ◌∙◌, arith, append_assoc, eq-eqb}
use Rattle.std.proofs.lemmas.Bool.Decides.{nat_tests}
use Rattle.std.proofs.lemmas.List.{append-nil, drop_at}
use Rattle.std.proofs.lemmas.List.Elements.{All-head, All-tail}
use Rattle.std.specs.List.{flat_map}
use Rattle.words.specs.Words.{words, words_from, is_open_from, rest_from, is_quote, Quoted}
use Rattle.words.specs.Cut.{Cuts}
use Rattle.words.specs.Quoting.{in_quotes, HasNo}
use Rattle.words.proofs.Behind.{rest_from-over}
use Rattle.words.proofs.Cutting.{Completes, ReadsAs-place, quoted_ends, quoted_goes_on, one_more}
use Rattle.words.proofs.Places.{place_behind-quote}

is_other : (byte quote : ℕ) → byte ≢ quote → (byte == quote) ≡ false
is_other byte quote other = grind (arith, nat_tests)

-- a word in quotes ends at the next such quote, whatever follows
over : (quote : ℕ) (word text rest : List ℕ) → HasNo quote text → Completes (Quoted quote word) (text ++ quote ∷ rest) (word ++ text) rest
over quote word [] rest none = rw append-nil (quoted_ends quote word quote rest (eq-eqb quote quote refl))
over quote word (byte ∷ text) rest none =
    let other : (byte == quote) ≡ false = is_other byte quote (All-head (λ b. b ≢ quote) byte text none) in
    one_more _ _ word byte (byte ∷ (text ++ quote ∷ rest)) (text ++ quote ∷ rest) text rest (quoted_goes_on quote word byte (text ++ quote ∷ rest) other)
    (over quote (word ++ byte ∷ []) text rest (All-tail (λ b. b ≢ quote) byte text none))

-- a text in quotes is one word
pub quoted_first : (quote : ℕ) (text rest : List ℕ) → is_quote quote ≡ true → HasNo quote text → Cuts (in_quotes quote text ++ rest) text rest
quoted_first quote text rest q none =
    let whole = append_assoc text (quote ∷ []) rest in
    let same = ReadsAs-place (text ++ quote ∷ [] ++ rest) _ _ (place_behind-quote quote q) in
    let more = over quote [] text rest none in
    record {
      first = same.all ∙ ap (λ bytes. words_from (Quoted quote []) bytes) whole ∙ more.all;
      open_quote = sym (same.open_quote ∙ ap (λ bytes. is_open_from (Quoted quote []) bytes) whole ∙ more.open_quote);
      behind = ap (λ p. rest_from p (text ++ quote ∷ [] ++ rest)) (place_behind-quote quote q) ∙ ap (λ bytes. rest_from (Quoted quote []) bytes) whole ∙ rest_from-over quote [] text rest none;
      end = record { from = suc (length (text ++ quote ∷ [])); is = sym (drop_at (text ++ quote ∷ []) rest _ refl) };
    }

pub quoted_one : (quote : ℕ) (text : List ℕ) → is_quote quote ≡ true → HasNo quote text → words (in_quotes quote text) ≡ text ∷ []
quoted_one quote text q none = rw append-nil at (quoted_first quote text [] q none).first

pub quoted_line : (quote : ℕ) (texts : List (List ℕ)) → is_quote quote ≡ true → All (HasNo quote) texts → words (flat_map (in_quotes quote) texts) ≡ texts
quoted_line quote [] q none = refl
quoted_line quote (text ∷ texts) q none =
    (quoted_first quote text _ q (All-head (HasNo quote) text texts none)).first ∙ ap (λ more. text ∷ more) (quoted_line quote texts q (All-tail (HasNo quote) text texts none))
