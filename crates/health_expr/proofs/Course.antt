-- What may follow the words of a text, by their kinds alone: an operand, or what may stand behind one.
use Rattle.std.proofs.Common.{◌≡◌, ℕ, suc, List, [], ◌∷◌, ◌++◌, Option, Some, None, refl, ap, ◌∙◌}
use Rattle.health_expr.specs.declared.operator.Prefix.{Prefix}
use Rattle.health_expr.specs.declared.operator.Operator.{Operator}
use Rattle.health_expr.specs.declared.word.Kind.{Kind}
use Rattle.health_expr.specs.declared.word.Kind.TheVariants.{End, Number, Name, Nan, Infinity, Abs, Open, Close, Question, Colon, Not, Plus, Minus}
use Rattle.health_expr.specs.Faults.{kinds, GoesOn}
use Rattle.health_expr.specs.Grammar.{operator_of}
use Rattle.health_expr.specs.Spelling.{Spelled, at, placed_in, prefix_of, Spells, number, nan, infinity, name, prefixed, enclosed, size, tighter, combined, chosen}
use Rattle.health_expr.specs.Tree.{Tree}
use Rattle.health_expr.proofs.Joined.{joined}

-- what is open: a parenthesis, or a choice before its `:`
pub data Frame : Type 0 where
  parenthesis : Frame
  choice : Frame

pub data State : Type 0 where
  -- an operand comes next
  operand : List Frame → State
  -- the parenthesis of an `abs` comes next
  opening : List Frame → State
  -- an operand stands before
  operated : List Frame → State
  -- the text has ended
  done : State

abbrev pub on_operand : List Frame → Kind → Option State
on_operand around Number = Some (operated around)
on_operand around Name = Some (operated around)
on_operand around Nan = Some (operated around)
on_operand around Infinity = Some (operated around)
on_operand around Abs = Some (opening around)
on_operand around Open = Some (operand (parenthesis ∷ around))
on_operand around Not = Some (operand around)
on_operand around Plus = Some (operand around)
on_operand around Minus = Some (operand around)
on_operand around _ = None

abbrev pub on_opening : List Frame → Kind → Option State
on_opening around Open = Some (operand (parenthesis ∷ around))
on_opening around _ = None

abbrev pub on_close : List Frame → Option State
on_close [] = None
on_close (parenthesis ∷ around) = Some (operated around)
on_close (choice ∷ around) = None

abbrev pub on_colon : List Frame → Option State
on_colon [] = None
on_colon (parenthesis ∷ around) = None
on_colon (choice ∷ around) = Some (operand around)

abbrev pub on_end : List Frame → Option State
on_end [] = Some done
on_end (frame ∷ around) = None

abbrev pub on_mark : List Frame → Kind → Option State
on_mark around Question = Some (operand (choice ∷ around))
on_mark around Close = on_close around
on_mark around Colon = on_colon around
on_mark around End = on_end around
on_mark around _ = None

abbrev pub on_operated : List Frame → Kind → Option Operator → Option State
on_operated around kind (Some operator) = Some (operand around)
on_operated around kind None = on_mark around kind

abbrev pub course_step : State → Kind → Option State
course_step (operand around) kind = on_operand around kind
course_step (opening around) kind = on_opening around kind
course_step (operated around) kind = on_operated around kind (operator_of kind)
course_step done kind = None

abbrev pub on : Option State → (State → Option State) → Option State
on None f = None
on (Some state) f = f state

-- what comes next behind words of these kinds, if they fit
abbrev pub course : List Kind → State → Option State
course [] state = Some state
course (kind ∷ more) state = on (course_step state kind) (course more)

-- what does not fit does not fit with more behind it
none_more : (o : Option State) (f g : State → Option State) → ((s : State) → f s ≡ None → g s ≡ None) → on o f ≡ None → on o g ≡ None
none_more None f g h e = refl
none_more (Some s) f g h e = h s e

pub course_none : (front more : List Kind) (state : State) → course front state ≡ None → course (front ++ more) state ≡ None
course_none [] more state e = cc
course_none (kind ∷ front) more state e = none_more (course_step state kind) (course front) (course (front ++ more)) (λ s. course_none front more s) e

-- ---- the kinds of words

abbrev pub kinds_of : List Spelled → List Kind
kinds_of words = kinds (placed_in words)

pub kinds-append : (one two : List Spelled) (rest : List Kind) → kinds_of (one ++ two) ++ rest ≡ kinds_of one ++ (kinds_of two ++ rest)
kinds-append [] two rest = refl
kinds-append (s ∷ one) two rest = ap (λ (more : List Kind). s.word.kind ∷ more) (kinds-append one two rest)

pub prefix_goes_on : (kind : Kind) (prefix : Prefix) (around : List Frame) → prefix_of kind ≡ Some prefix → on_operand around kind ≡ Some (operand around)
prefix_goes_on Not prefix around e = refl
prefix_goes_on Minus prefix around e = refl
prefix_goes_on Plus prefix around e = refl
prefix_goes_on _ prefix around e = cc

-- what spells a tree is an operand
pub spells-course : (loose levels : ℕ) (tree : Tree) (words : List Spelled) → Spells loose levels tree words → (rest : List Kind) (around : List Frame)
    → course (kinds_of words ++ rest) (operand around) ≡ course rest (operated around)
spells-course _ _ _ _ (number levels word units kind read) rest around = ap (λ (k : Kind). course (k ∷ rest) (operand around)) kind
spells-course _ _ _ _ (nan levels word kind) rest around = ap (λ (k : Kind). course (k ∷ rest) (operand around)) kind
spells-course _ _ _ _ (infinity levels word kind) rest around = ap (λ (k : Kind). course (k ∷ rest) (operand around)) kind
spells-course _ _ _ _ (name levels word kind) rest around = ap (λ (k : Kind). course (k ∷ rest) (operand around)) kind
spells-course _ _ _ _ (prefixed levels word prefix inner words kind is) rest around =
    ap (λ (o : Option State). on o (course (kinds_of words ++ rest))) (prefix_goes_on word.kind prefix around kind) ∙ spells-course _ _ _ _ is rest around
spells-course _ _ _ _ (enclosed levels open_word close_word inner words opens closes is) rest around =
    let last : Spelled = at close_word (suc levels) in
    ap (λ (k : Kind). course (k ∷ (kinds_of (words ++ last ∷ []) ++ rest)) (operand around)) opens
    ∙ ap (λ (ks : List Kind). course ks (operand (parenthesis ∷ around))) (kinds-append words (last ∷ []) rest)
    ∙ spells-course _ _ _ _ is (close_word.kind ∷ rest) (parenthesis ∷ around)
    ∙ ap (λ (k : Kind). course (k ∷ rest) (operated (parenthesis ∷ around))) closes
spells-course _ _ _ _ (size levels word open_word close_word inner words kind opens closes is) rest around =
    let last : Spelled = at close_word (suc levels) in
    ap (λ (k : Kind). course (k ∷ open_word.kind ∷ (kinds_of (words ++ last ∷ []) ++ rest)) (operand around)) kind
    ∙ ap (λ (k : Kind). course (k ∷ (kinds_of (words ++ last ∷ []) ++ rest)) (opening around)) opens
    ∙ ap (λ (ks : List Kind). course ks (operand (parenthesis ∷ around))) (kinds-append words (last ∷ []) rest)
    ∙ spells-course _ _ _ _ is (close_word.kind ∷ rest) (parenthesis ∷ around)
    ∙ ap (λ (k : Kind). course (k ∷ rest) (operated (parenthesis ∷ around))) closes
spells-course _ _ _ _ (tighter loose levels inner words is) rest around = spells-course _ _ _ _ is rest around
spells-course _ _ _ _ (combined loose levels word operator left right one two joins first second) rest around =
    ap (λ (ks : List Kind). course ks (operand around)) (kinds-append one (at word levels ∷ two) rest)
    ∙ spells-course _ _ _ _ first (word.kind ∷ (kinds_of two ++ rest)) around
    ∙ ap (λ (o : Option Operator). on (on_operated around word.kind o) (course (kinds_of two ++ rest))) (joined loose word.kind operator joins).0
    ∙ spells-course _ _ _ _ second rest around
spells-course _ _ _ _ (chosen levels question colon condition if_true if_false one two three asks colons a b c) rest around =
    let after_colon : List Spelled = at colon levels ∷ three in
    let after_question : List Spelled = at question levels ∷ (two ++ after_colon) in
    ap (λ (ks : List Kind). course ks (operand around)) (kinds-append one after_question rest)
    ∙ spells-course _ _ _ _ a (question.kind ∷ (kinds_of (two ++ after_colon) ++ rest)) around
    ∙ ap (λ (k : Kind). course (k ∷ (kinds_of (two ++ after_colon) ++ rest)) (operated around)) asks
    ∙ ap (λ (ks : List Kind). course ks (operand (choice ∷ around))) (kinds-append two after_colon rest)
    ∙ spells-course _ _ _ _ b (colon.kind ∷ (kinds_of three ++ rest)) (choice ∷ around)
    ∙ ap (λ (k : Kind). course (k ∷ (kinds_of three ++ rest)) (operated (choice ∷ around))) colons
    ∙ spells-course _ _ _ _ c rest around

-- what has no course begins no spelling
pub never_begun : (begun : List Kind) → course begun (operand []) ≡ None → GoesOn begun → ⊥
never_begun begun none goes =
    let all : course (kinds_of goes.words ++ End ∷ []) (operand []) ≡ Some done = spells-course _ _ _ _ goes.spells (End ∷ []) [] in
    let same : course (kinds_of goes.words ++ End ∷ []) (operand []) ≡ course (begun ++ goes.more) (operand []) = ap (λ (ks : List Kind). course ks (operand [])) goes.begins in
    let stuck : course (begun ++ goes.more) (operand []) ≡ None = course_none begun goes.more (operand []) none in
    cc
