-- Where a text has a part that is too long.
use Rattle.std.proofs.Common.{◌≡◌, ℕ, Bool, true, false, List, [], ◌∷◌, ◌++◌, length, refl, sym, ap, ◌∙◌, subst, arith, append_assoc, length-append}
use Rattle.std.specs.List.{AllPass}
use Rattle.std.proofs.lemmas.Bool.Decides.{nat_tests}
use Rattle.std.proofs.lemmas.List.{same_from_push, take_at}
use Rattle.std.proofs.lemmas.List.Elements.{All-append, All-take}
use Rattle.plugin_text.specs.Lines.{parts, but_last, lines, rest, fits, HasNoLongLine, IsLongAfter}
use Rattle.plugin_text.proofs.PartsLemmas.{parts_first, parts_whole, but_last-append, parts-append, parts-append_parts}

-- a text that is too long stays so, however it goes on
pub fits-append : (text more : List ℕ) → fits text ≡ false → fits (text ++ more) ≡ false
fits-append text more too_long = grind (arith, nat_tests, length-append text more)

-- what passes as a whole passes as far as one likes
pub AllPass-prefix : (test : List ℕ → Bool) (xs ys : List (List ℕ)) → AllPass test (xs ++ ys) → AllPass test xs
AllPass-prefix test xs ys all =
    subst (AllPass test) (take_at xs ys (length xs) refl) (All-take (λ part. test part ≡ true) (length xs) (xs ++ ys) all)

-- the long part is the text's rest, or one of its lines
pub IsLongAfter-append : (text more : List ℕ) (before : List (List ℕ)) → IsLongAfter text before → IsLongAfter (text ++ more) before
IsLongAfter-append text more before h = at_rest h.more h.whole
  where
    at_rest : (others : List (List ℕ)) → parts text ≡ before ++ h.long ∷ others → IsLongAfter (text ++ more) before
    at_rest [] is =
        let some = parts_first more in
        let same = same_from_push _ _ _ _ (sym (parts_whole text) ∙ is) in
        record {
          long = h.long ++ some.0;
          more = some.1;
          whole = rw (← same.0, ← same.1) (parts-append_parts text more _ _ some.2);
          short = h.short;
          too_long = fits-append h.long some.0 h.too_long;
        }
    at_rest (next ∷ others) is =
        let these : lines text ≡ before ++ h.long ∷ but_last (next ∷ others) = ap but_last is ∙ but_last-append before h.long (next ∷ others) in
        record {
          long = h.long;
          more = but_last (next ∷ others) ++ parts (rest text ++ more);
          whole = parts-append text more ∙ ap (λ ls. ls ++ parts (rest text ++ more)) these ∙ simp append_assoc;
          short = h.short;
          too_long = h.too_long;
        }

-- the lines of a text with no long line
pub AllPass-lines : (text : List ℕ) → HasNoLongLine text → AllPass fits (lines text)
AllPass-lines text short = AllPass-prefix fits (lines text) (rest text ∷ []) (subst (AllPass fits) (parts_whole text) short)

pub HasNoLongLine-append : (text more : List ℕ) → HasNoLongLine text → HasNoLongLine (rest text ++ more) → HasNoLongLine (text ++ more)
HasNoLongLine-append text more short later =
    subst (AllPass fits) (sym (parts-append text more)) (All-append (λ part. fits part ≡ true) _ _ (AllPass-lines text short) later)

-- a long part of what follows a text is long in the whole text
pub IsLongAfter-later : (text more : List ℕ) (before : List (List ℕ)) → HasNoLongLine text → IsLongAfter (rest text ++ more) before → IsLongAfter (text ++ more) (lines text ++ before)
IsLongAfter-later text more before short h = record {
  long = h.long;
  more = h.more;
  whole = parts-append text more ∙ ap (λ ps. lines text ++ ps) h.whole ∙ sym (append_assoc (lines text) before (h.long ∷ h.more));
  short = All-append (λ part. fits part ≡ true) _ _ (AllPass-lines text short) h.short;
  too_long = h.too_long;
}
