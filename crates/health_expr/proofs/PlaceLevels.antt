-- How many levels hold a place hangs on the words up to it alone.
use Rattle.std.proofs.Common.{◌≡◌, ◌≤◌, ℕ, suc, List, [], ◌∷◌, ◌++◌, length, Option, Some, None, arith, sym, refl, ap, ◌∙◌}
use Rattle.health_expr.specs.declared.operator.Prefix.{Prefix}
use Rattle.health_expr.specs.declared.operator.Operator.{Operator}
use Rattle.health_expr.specs.declared.word.Kind.{Kind}
use Rattle.health_expr.specs.declared.word.Kind.TheVariants.{Number, Name, Nan, Infinity, Abs, Open, Close, Question, Colon, Not, Plus, Minus}
use Rattle.health_expr.specs.Grammar.{operator_of}
use Rattle.health_expr.specs.Spelling.{Spelled, at, levels_of, prefix_of, Spells, number, nan, infinity, name, prefixed, enclosed, size, tighter, combined, chosen}
use Rattle.health_expr.specs.Tree.{Tree}
use Rattle.health_expr.specs.Words.{Placed}
use Rattle.health_expr.proofs.Joined.{joined}
use Rattle.health_expr.proofs.Course.{kinds_of, kinds-append}
use Rattle.health_expr.proofs.Rereads.{looseness_bounds}

-- what is open, and how many levels hold what goes on behind it
data Around : Type 0 where
  parenthesis : (within behind : ℕ) → Around
  choice : (behind : ℕ) → Around

-- what comes next, how many levels hold it, and how many what goes on behind it
data Place : Type 0 where
  operand : (levels base : ℕ) (outer : List Around) → Place
  opening : (levels base : ℕ) (outer : List Around) → Place
  operated : (base : ℕ) (outer : List Around) → Place
  lost : Place

abbrev nowhere : ℕ × Place
nowhere = (0, lost)

abbrev on_operand : ℕ → ℕ → List Around → Kind → ℕ × Place
on_operand levels base outer Number = (levels, operated base outer)
on_operand levels base outer Name = (levels, operated base outer)
on_operand levels base outer Nan = (levels, operated base outer)
on_operand levels base outer Infinity = (levels, operated base outer)
on_operand levels base outer Abs = (levels, opening levels base outer)
on_operand levels base outer Open = (suc levels, operand (suc levels) (suc levels) (parenthesis (suc levels) base ∷ outer))
on_operand levels base outer Not = (levels, operand (suc levels) base outer)
on_operand levels base outer Plus = (levels, operand (suc levels) base outer)
on_operand levels base outer Minus = (levels, operand (suc levels) base outer)
on_operand levels base outer _ = nowhere

abbrev on_opening : ℕ → ℕ → List Around → Kind → ℕ × Place
on_opening levels base outer Open = (suc levels, operand (suc levels) (suc levels) (parenthesis (suc levels) base ∷ outer))
on_opening levels base outer _ = nowhere

abbrev on_close : List Around → ℕ × Place
on_close [] = nowhere
on_close (parenthesis within behind ∷ outer) = (within, operated behind outer)
on_close (choice behind ∷ outer) = nowhere

abbrev on_colon : List Around → ℕ × Place
on_colon [] = nowhere
on_colon (parenthesis within behind ∷ outer) = nowhere
on_colon (choice behind ∷ outer) = (behind, operand (suc behind) (suc behind) outer)

abbrev on_mark : ℕ → List Around → Kind → ℕ × Place
on_mark base outer Question = (base, operand (suc base) (suc base) (choice base ∷ outer))
on_mark base outer Close = on_close outer
on_mark base outer Colon = on_colon outer
on_mark base outer _ = nowhere

abbrev on_operated : ℕ → List Around → Kind → Option Operator → ℕ × Place
on_operated base outer kind (Some operator) = (base, operand base base outer)
on_operated base outer kind None = on_mark base outer kind

abbrev place_step : Place → Kind → ℕ × Place
place_step (operand levels base outer) kind = on_operand levels base outer kind
place_step (opening levels base outer) kind = on_opening levels base outer kind
place_step (operated base outer) kind = on_operated base outer kind (operator_of kind)
place_step lost kind = nowhere

-- the levels of words of these kinds
abbrev places : List Kind → Place → List ℕ
places [] place = []
places (kind ∷ kinds) place = let next : ℕ × Place = place_step place kind in next.0 ∷ places kinds next.1

abbrev then : ℕ × Place → List Kind → List ℕ
then next kinds = next.0 ∷ places kinds next.1

levels-append : (one two : List Spelled) (rest : List ℕ) → levels_of (one ++ two) ++ rest ≡ levels_of one ++ (levels_of two ++ rest)
levels-append [] two rest = refl
levels-append (s ∷ one) two rest = ap (λ (more : List ℕ). s.levels ∷ more) (levels-append one two rest)

prefix_place : (kind : Kind) (prefix : Prefix) (levels base : ℕ) (outer : List Around) → prefix_of kind ≡ Some prefix → on_operand levels base outer kind ≡ (levels, operand (suc levels) base outer)
prefix_place Not prefix levels base outer e = refl
prefix_place Minus prefix levels base outer e = refl
prefix_place Plus prefix levels base outer e = refl
prefix_place _ prefix levels base outer e = cc

-- the levels of a spelling, and what comes behind it: as an operand, in a row, and as an expression
record Tells (loose levels : ℕ) (words : List Spelled) : Type 0 where
  as_operand : loose ≡ 0 → (base : ℕ) (outer : List Around) (rest : List Kind) → places (kinds_of words ++ rest) (operand levels base outer) ≡ levels_of words ++ places rest (operated base outer)
  as_row : loose ≤ 6 → (outer : List Around) (rest : List Kind) → places (kinds_of words ++ rest) (operand levels levels outer) ≡ levels_of words ++ places rest (operated levels outer)
  as_whole : (outer : List Around) → (base : ℕ) × ((rest : List Kind) → places (kinds_of words ++ rest) (operand levels levels outer) ≡ levels_of words ++ places rest (operated base outer))

of_operand : (levels : ℕ) (words : List Spelled)
    → ((base : ℕ) (outer : List Around) (rest : List Kind) → places (kinds_of words ++ rest) (operand levels base outer) ≡ levels_of words ++ places rest (operated base outer)) → Tells 0 levels words
of_operand levels words is = record {
  as_operand = λ zero_is base outer rest. is base outer rest;
  as_row = λ low outer rest. is levels outer rest;
  as_whole = λ outer. (levels, λ rest. is levels outer rest);
}

of_word : (levels : ℕ) (word : Placed) (kind : Kind) → word.kind ≡ kind
    → ((base : ℕ) (outer : List Around) → on_operand levels base outer kind ≡ (levels, operated base outer)) → Tells 0 levels (at word levels ∷ [])
of_word levels word kind e is =
    of_operand levels (at word levels ∷ []) (λ base outer rest.
    ap (λ (k : Kind). then (on_operand levels base outer k) rest) e ∙ ap (λ (next : ℕ × Place). then next rest) (is base outer))

in_parentheses : (levels : ℕ) (close_word : Placed) (words : List Spelled) (base : ℕ) (outer : List Around) (rest : List Kind) → close_word.kind ≡ Close → Tells 7 (suc levels) words
    → places (kinds_of (words ++ at close_word (suc levels) ∷ []) ++ rest) (operand (suc levels) (suc levels) (parenthesis (suc levels) base ∷ outer))
    ≡ levels_of (words ++ at close_word (suc levels) ∷ []) ++ places rest (operated base outer)
in_parentheses levels close_word words base outer rest closes inner =
    let last : List Spelled = at close_word (suc levels) ∷ [] in
    let around : List Around = parenthesis (suc levels) base ∷ outer in
    let whole = inner.as_whole around in
    ap (λ (ks : List Kind). places ks (operand (suc levels) (suc levels) around)) (kinds-append words last rest)
    ∙ whole.1 (close_word.kind ∷ rest)
    ∙ ap (λ (k : Kind). levels_of words ++ places (k ∷ rest) (operated whole.0 around)) closes
    ∙ sym (levels-append words last (places rest (operated base outer)))

tells : (loose levels : ℕ) (tree : Tree) (words : List Spelled) → Spells loose levels tree words → Tells loose levels words
tells _ _ _ _ (number levels word units kind read) = of_word levels word Number kind (λ base outer. refl)
tells _ _ _ _ (nan levels word kind) = of_word levels word Nan kind (λ base outer. refl)
tells _ _ _ _ (infinity levels word kind) = of_word levels word Infinity kind (λ base outer. refl)
tells _ _ _ _ (name levels word kind) = of_word levels word Name kind (λ base outer. refl)
tells _ _ _ _ (prefixed levels word prefix inner words kind is) =
    let deeper = tells _ _ _ _ is in
    of_operand levels (at word levels ∷ words) (λ base outer rest.
    ap (λ (next : ℕ × Place). then next (kinds_of words ++ rest)) (prefix_place word.kind prefix levels base outer kind)
    ∙ ap (λ (more : List ℕ). levels ∷ more) (deeper.as_operand refl base outer rest))
tells _ _ _ _ (enclosed levels open_word close_word inner words opens closes is) =
    let deeper = tells _ _ _ _ is in
    of_operand levels (at open_word (suc levels) ∷ (words ++ at close_word (suc levels) ∷ [])) (λ base outer rest.
    ap (λ (k : Kind). then (on_operand levels base outer k) (kinds_of (words ++ at close_word (suc levels) ∷ []) ++ rest)) opens
    ∙ ap (λ (more : List ℕ). suc levels ∷ more) (in_parentheses levels close_word words base outer rest closes deeper))
tells _ _ _ _ (size levels word open_word close_word inner words kind opens closes is) =
    let deeper = tells _ _ _ _ is in
    of_operand levels (at word levels ∷ at open_word (suc levels) ∷ (words ++ at close_word (suc levels) ∷ [])) (λ base outer rest.
    ap (λ (k : Kind). then (on_operand levels base outer k) (open_word.kind ∷ (kinds_of (words ++ at close_word (suc levels) ∷ []) ++ rest))) kind
    ∙ ap (λ (k : Kind). levels ∷ then (on_opening levels base outer k) (kinds_of (words ++ at close_word (suc levels) ∷ []) ++ rest)) opens
    ∙ ap (λ (more : List ℕ). levels ∷ suc levels ∷ more) (in_parentheses levels close_word words base outer rest closes deeper))
tells _ _ _ _ (tighter loose levels inner words is) =
    let same = tells _ _ _ _ is in
    record {
      as_operand = λ zero_is. absurd (omega arith);
      as_row = λ low outer rest. same.as_row (omega arith) outer rest;
      as_whole = same.as_whole;
    }
tells _ _ _ _ (combined loose levels word operator left right one two joins first second) =
    let is = joined loose word.kind operator joins in
    let bounds = looseness_bounds operator in
    let some : 1 ≤ loose = omega (arith, bounds.0, is.1) in
    let most : loose ≤ 6 = omega (arith, bounds.1, is.1) in
    let on_left = tells _ _ _ _ first in
    let on_right = tells _ _ _ _ second in
    let row : (outer : List Around) (rest : List Kind) → places (kinds_of (one ++ at word levels ∷ two) ++ rest) (operand levels levels outer) ≡ levels_of (one ++ at word levels ∷ two) ++ places rest (operated levels outer) =
    λ outer rest.
    ap (λ (ks : List Kind). places ks (operand levels levels outer)) (kinds-append one (at word levels ∷ two) rest)
    ∙ on_left.as_row most outer (word.kind ∷ (kinds_of two ++ rest))
    ∙ ap (λ (o : Option Operator). levels_of one ++ then (on_operated levels outer word.kind o) (kinds_of two ++ rest)) is.0
    ∙ ap (λ (more : List ℕ). levels_of one ++ levels ∷ more) (on_right.as_row (omega arith) outer rest)
    ∙ sym (levels-append one (at word levels ∷ two) (places rest (operated levels outer))) in
    record {
      as_operand = λ zero_is. absurd (omega arith);
      as_row = λ low outer rest. row outer rest;
      as_whole = λ outer. (levels, λ rest. row outer rest);
    }
tells _ _ _ _ (chosen levels question colon condition if_true if_false one two three asks colons a b c) =
    let on_condition = tells _ _ _ _ a in
    let on_first = tells _ _ _ _ b in
    let on_second = tells _ _ _ _ c in
    let after_colon : List Spelled = at colon levels ∷ three in
    let after_question : List Spelled = at question levels ∷ (two ++ after_colon) in
    record {
      as_operand = λ zero_is. absurd (omega arith);
      as_row = λ low. absurd (omega arith);
      as_whole = λ outer.
          let first_whole = on_first.as_whole (choice levels ∷ outer) in
          let second_whole = on_second.as_whole outer in (
            second_whole.0,
            λ rest.
                ap (λ (ks : List Kind). places ks (operand levels levels outer)) (kinds-append one after_question rest)
                ∙ on_condition.as_row (omega arith) outer (question.kind ∷ (kinds_of (two ++ after_colon) ++ rest))
                ∙ ap (λ (k : Kind). levels_of one ++ then (on_operated levels outer k (operator_of k)) (kinds_of (two ++ after_colon) ++ rest)) asks
                ∙ ap (λ (more : List ℕ). levels_of one ++ levels ∷ more)
                (ap (λ (ks : List Kind). places ks (operand (suc levels) (suc levels) (choice levels ∷ outer))) (kinds-append two after_colon rest)
                ∙ first_whole.1 (colon.kind ∷ (kinds_of three ++ rest))
                ∙ ap (λ (k : Kind). levels_of two ++ then (on_operated first_whole.0 (choice levels ∷ outer) k (operator_of k)) (kinds_of three ++ rest)) colons
                ∙ ap (λ (more : List ℕ). levels_of two ++ levels ∷ more) (second_whole.1 rest)
                ∙ sym (levels-append two after_colon (places rest (operated second_whole.0 outer))))
                ∙ sym (levels-append one after_question (places rest (operated second_whole.0 outer))),
          );
    }

-- ---- the same words in front

places-append : (front more : List Kind) (place : Place) → (rest : List ℕ) × (places (front ++ more) place ≡ places front place ++ rest)
places-append [] more place = (places more place, refl)
places-append (kind ∷ front) more place =
    let deeper = places-append front more (place_step place kind).1 in
    (deeper.0, ap (λ (ns : List ℕ). (place_step place kind).0 ∷ ns) deeper.1)

places_long : (front : List Kind) (place : Place) → length (places front place) ≡ length front
places_long [] place = refl
places_long (kind ∷ front) place = ap suc (places_long front (place_step place kind).1)

levels_long : (front : List Spelled) → length (levels_of front) ≡ length (kinds_of front)
levels_long [] = refl
levels_long (s ∷ front) = ap suc (levels_long front)

same_front : (xs ys more rest : List ℕ) → xs ++ more ≡ ys ++ rest → length xs ≡ length ys → xs ≡ ys
same_front [] [] more rest e long = refl
same_front [] (y ∷ ys) more rest e long = absurd (omega arith)
same_front (x ∷ xs) [] more rest e long = absurd (omega arith)
same_front (x ∷ xs) (y ∷ ys) more rest e long =
    let heads : x ≡ y = cc in
    let tails : xs ++ more ≡ ys ++ rest = cc in
    let below : xs ≡ ys = same_front xs ys more rest tails (omega arith) in
    cc

-- the levels of the words in front, by their kinds
front_levels : (tree : Tree) (front more : List Spelled) → Spells 7 0 tree (front ++ more) → levels_of front ≡ places (kinds_of front) (operand 0 0 [])
front_levels tree front more is =
    let whole = (tells 7 0 tree (front ++ more) is).as_whole [] in
    let begun = places-append (kinds_of front) (kinds_of more ++ []) (operand 0 0 []) in
    let all : levels_of front ++ (levels_of more ++ []) ≡ places (kinds_of front) (operand 0 0 []) ++ begun.0 =
    sym (levels-append front more []) ∙ sym (whole.1 []) ∙ ap (λ (ks : List Kind). places ks (operand 0 0 [])) (kinds-append front more []) ∙ begun.1 in
    same_front _ _ _ _ all (levels_long front ∙ sym (places_long (kinds_of front) (operand 0 0 [])))

pub same_levels : (one two : Tree) (front other more rest : List Spelled) → Spells 7 0 one (front ++ more) → Spells 7 0 two (other ++ rest) → kinds_of front ≡ kinds_of other → levels_of front ≡ levels_of other
same_levels one two front other more rest first second same =
    front_levels one front more first ∙ ap (λ (ks : List Kind). places ks (operand 0 0 [])) same ∙ sym (front_levels two other rest second)
