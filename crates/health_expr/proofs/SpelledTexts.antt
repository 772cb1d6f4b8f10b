-- A text that is read spells its tree, and a text that is refused has the fault that is told.
use Rattle.std.proofs.Common.{◌≡◌, ◌≢◌, ◌==◌, ◌&&◌, ℕ, zero, suc, ◌+◌, ◌-◌, Bool, true, false, cond, List, [], ◌∷◌, ◌++◌, length, take, drop, position, Option, Some, None, Result, Ok, Err, arith, subst, sym, refl, ap, ◌∙◌, append_assoc, append-nil, add-zero}
use Rattle.std.proofs.lemmas.Bool.{cond_both}
use Rattle.std.specs.Char.{is_ascii_digit}
use Rattle.std.specs.List.{AllByRecursion, prefix_len}
use Rattle.std.specs.Prelude.{slice_index, codes, IfOk}
use Rattle.std.specs.Str.{bytes_eq}
use Rattle.words.specs.Words.{is_blank}
use Rattle.health_expr.specs.declared.expr.Expr.{Expr}
use Rattle.health_expr.specs.declared.fault.ExprFault.{ExprFault}
use Rattle.health_expr.specs.declared.fault.ExprFault.TheVariants.{Syntax, TooDeep, NumberTooWide, Memory}
use Rattle.health_expr.specs.declared.word.Kind.{Kind}
use Rattle.health_expr.specs.declared.word.Kind.TheVariants.{End, Number}
use Rattle.health_expr.specs.Cut.{Cut, is_letter, is_brace, keyword, single, mark, braced, dollar, letters, marked, first_word}
use Rattle.health_expr.specs.Faults.{kinds, Reaches, IsMisfit, IsTooDeep, IsTooWide}
use Rattle.health_expr.specs.Grammar.{Outcome, expression, whole, tree_read}
use Rattle.health_expr.specs.Reads.{ReadsAll, Fails}
use Rattle.health_expr.specs.Spelling.{Spelled, placed_in, Spells, IsLow, IsSpelling}
use Rattle.health_expr.specs.Tree.{Tree}
use Rattle.health_expr.specs.TreeOf.{tree_of}
use Rattle.health_expr.specs.Words.{Placed, end_at, placed, words_from, words_of, first, after, sees}
use Rattle.health_expr.proofs.Course as go
use Rattle.health_expr.proofs.Course.{State, course, kinds_of, kinds-append, spells-course, never_begun}
use Rattle.health_expr.proofs.Numerals.{IsOnlyTooWide, number_only_wide}
use Rattle.health_expr.proofs.Rewords.{first_cons}
use Rattle.health_expr.proofs.WordsLemmas.{first_passes}
use Rattle.health_expr.proofs.Spellings.{ahead, seen, unseen, Starts, Reading, Stops, Sound, mark_whole, stuck_behind_expression}
use Rattle.health_expr.proofs.SpelledRows.{expression_sound}

-- ---- no word of a spelling is the end

-- behind the end of a text comes nothing
after_done : (ks : List Kind) (around : List go.Frame) → course ks go.done ≢ Some (go.operated around)
after_done [] around e = cc
after_done (k ∷ ks) around e = cc

end_only : (ks : List Kind) (state : State) (around : List go.Frame) → course (End ∷ ks) state ≢ Some (go.operated around)
end_only ks (go.operand open_frames) around e = cc
end_only ks (go.opening open_frames) around e = cc
end_only ks (go.operated []) around e = after_done ks around e
end_only ks (go.operated (frame ∷ open_frames)) around e = cc
end_only ks go.done around e = cc

abbrev pub HasNoEnd : List Kind → Type 0
HasNoEnd = AllByRecursion (λ kind. kind ≢ End)

rest_goes_on : (o : Option State) (ks : List Kind) (around : List go.Frame) → ((state : State) → course ks state ≡ Some (go.operated around) → HasNoEnd ks) → go.on o (course ks) ≡ Some (go.operated around) → HasNoEnd ks
rest_goes_on None ks around rest e = cc
rest_goes_on (Some state) ks around rest e = rest state e

no_end : (ks : List Kind) (state : State) (around : List go.Frame) → course ks state ≡ Some (go.operated around) → HasNoEnd ks
no_end [] state around e = tt
no_end (k ∷ ks) state around e = (
  λ is. end_only ks state around (ap (λ (kind : Kind). course (kind ∷ ks) state) (sym is) ∙ e),
  rest_goes_on (go.course_step state k) ks around (λ next. no_end ks next around) e,
)

pub no_end_in : (loose levels : ℕ) (inner : Tree) (words : List Spelled) → Spells loose levels inner words → HasNoEnd (kinds_of words)
no_end_in loose levels inner words is =
    let goes : course (kinds_of words ++ []) (go.operand []) ≡ Some (go.operated []) = spells-course loose levels inner words is [] [] in
    no_end (kinds_of words) (go.operand []) [] (ap (λ (ks : List Kind). course ks (go.operand [])) (sym (append-nil (kinds_of words))) ∙ goes)

pub front_none : (xs ys : List Spelled) → HasNoEnd (kinds_of (xs ++ ys)) → HasNoEnd (kinds_of xs)
front_none [] ys none = tt
front_none (x ∷ xs) ys none = (none.0, front_none xs ys none.1)

-- ---- the last word of a text is its end, and no other

pick : {X : Type 0} (Q : X → Type 0) (b : Bool) (x y : X) → Q x → Q y → Q (cond b x y)
pick Q true x y p q = p
pick Q false x y p q = q

-- neither the end nor a number
abbrev IsMark : Kind → Type 0
IsMark kind = (kind ≢ End) × (kind ≢ Number)

keyword_none : (bytes : List ℕ) → IsMark (keyword bytes)
keyword_none bytes =
    let Q : Kind → Type 0 = λ kind. IsMark kind in
    pick Q (bytes_eq bytes (codes "nan")) _ _ (λ e. cc, λ e. cc) (pick Q (bytes_eq bytes (codes "inf")) _ _ (λ e. cc, λ e. cc) (pick Q (bytes_eq bytes (codes "abs")) _ _ (λ e. cc, λ e. cc) (pick Q (bytes_eq bytes (codes "NOT")) _ _ (λ e. cc, λ e. cc) (pick Q (bytes_eq bytes (codes "AND")) _ _ (λ e. cc, λ e. cc) (pick Q (bytes_eq bytes (codes "OR")) _ _ (λ e. cc, λ e. cc) (λ e. cc, λ e. cc))))))

abbrev IsOther : Kind × ℕ → Type 0
IsOther found = IsMark found.0

single_none : (all b : ℕ) → IsOther (single all b)
single_none all b =
    pick IsOther (b == 40) _ _ (λ e. cc, λ e. cc) (pick IsOther (b == 41) _ _ (λ e. cc, λ e. cc) (pick IsOther (b == 63) _ _ (λ e. cc, λ e. cc) (pick IsOther (b == 58) _ _ (λ e. cc, λ e. cc) (pick IsOther (b == 33) _ _ (λ e. cc, λ e. cc) (pick IsOther (b == 43) _ _ (λ e. cc, λ e. cc) (pick IsOther (b == 45) _ _ (λ e. cc, λ e. cc) (pick IsOther (b == 42) _ _ (λ e. cc, λ e. cc) (pick IsOther (b == 47) _ _ (λ e. cc, λ e. cc) (pick IsOther (b == 60) _ _ (λ e. cc, λ e. cc) (pick IsOther (b == 62) _ _ (λ e. cc, λ e. cc) (λ e. cc, λ e. cc)))))))))))

mark_none : (all b c : ℕ) → IsOther (mark all b c)
mark_none all b c =
    pick IsOther (b == 124 && c == 124) _ _ (λ e. cc, λ e. cc) (pick IsOther (b == 38 && c == 38) _ _ (λ e. cc, λ e. cc) (pick IsOther (b == 61 && c == 61) _ _ (λ e. cc, λ e. cc) (pick IsOther (b == 33 && c == 61) _ _ (λ e. cc, λ e. cc) (pick IsOther (b == 60 && c == 62) _ _ (λ e. cc, λ e. cc) (pick IsOther (b == 60 && c == 61) _ _ (λ e. cc, λ e. cc) (pick IsOther (b == 62 && c == 61) _ _ (λ e. cc, λ e. cc) (single_none all b)))))))

abbrev IsNoEnd : Cut → Type 0
IsNoEnd cut = cut.kind ≢ End

braced_none : (text : List ℕ) (end : Option ℕ) → IsNoEnd (braced text end)
braced_none text None = λ e. cc
braced_none text (Some end) = λ e. cc

dollar_none : (text : List ℕ) → IsNoEnd (dollar text)
dollar_none text =
    pick IsNoEnd (slice_index text 1 == 123) _ _ (braced_none text (position is_brace (drop 2 text))) (pick IsNoEnd (prefix_len is_letter (drop 1 text) == 0) _ _ (λ e. cc) (λ e. cc))

first_word_none : (byte : ℕ) (text : List ℕ) → IsNoEnd (first_word (byte ∷ text))
first_word_none byte text =
    let all : List ℕ = byte ∷ text in
    subst IsNoEnd (sym (first_cons byte text))
    (pick IsNoEnd (is_ascii_digit byte) _ _ (λ e. cc)
    (pick IsNoEnd (byte == 36) _ _ (dollar_none all)
    (pick IsNoEnd (is_letter byte) _ _ (keyword_none (take (prefix_len is_letter all) all)).0 (mark_none (length all) byte (slice_index all 1)).0)))

-- a word that is a number is refused only as too wide
abbrev IsNumberCut : Cut → Type 0
IsNumberCut cut = cut.kind ≡ Number → IsOnlyTooWide cut.said

no_number : (cut : Cut) → cut.kind ≢ Number → IsNumberCut cut
no_number cut other is = absurd (other is)

braced_number : (text : List ℕ) (end : Option ℕ) → (braced text end).kind ≢ Number
braced_number text None = λ e. cc
braced_number text (Some end) = λ e. cc

dollar_number : (text : List ℕ) → IsNumberCut (dollar text)
dollar_number text =
    let Q : Cut → Type 0 = λ cut. cut.kind ≢ Number in
    no_number (dollar text)
    (pick Q (slice_index text 1 == 123) _ _ (braced_number text (position is_brace (drop 2 text))) (pick Q (prefix_len is_letter (drop 1 text) == 0) _ _ (λ e. cc) (λ e. cc)))

first_word_number : (byte : ℕ) (text : List ℕ) → IsNumberCut (first_word (byte ∷ text))
first_word_number byte text =
    let all : List ℕ = byte ∷ text in
    subst IsNumberCut (sym (first_cons byte text))
    (cond_both (is_ascii_digit byte) _ _ IsNumberCut (λ digit is. number_only_wide all (first_passes is_ascii_digit all (omega arith) digit))
    (λ none. pick IsNumberCut (byte == 36) _ _ (dollar_number all)
    (pick IsNumberCut (is_letter byte) _ _ (no_number (letters all) (keyword_none (take (prefix_len is_letter all) all)).1)
    (no_number (marked (mark (length all) byte (slice_index all 1))) (mark_none (length all) byte (slice_index all 1)).1))))

abbrev IsNumberWord : Placed → Type 0
IsNumberWord word = word.kind ≡ Number → IsOnlyTooWide word.said

number_words : (left place : ℕ) (text : List ℕ) → AllByRecursion IsNumberWord (words_from left place text)
number_words left place [] = (λ is. absurd (end_other is), tt)
  where
    end_other : End ≡ Number → ⊥
    end_other e = cc
number_words (suc left) place (byte ∷ text) = number_words left (suc place) text
number_words zero place (byte ∷ text) =
    pick (AllByRecursion IsNumberWord) (is_blank byte) _ _ (number_words zero (suc place) text)
    (first_word_number byte text, number_words ((first_word (byte ∷ text)).len - 1) (suc place) text)

number_word : (text : List ℕ) (before : List Placed) (word : Placed) (behind : List Placed) → words_of text ≡ before ++ word ∷ behind → IsNumberWord word
unfolding words_of
number_word text before word behind is = here before (subst (AllByRecursion IsNumberWord) is (number_words 0 0 text))
  where
    here : (before : List Placed) → AllByRecursion IsNumberWord (before ++ word ∷ behind) → IsNumberWord word
    here [] all = all.0
    here (first ∷ before) all = here before all.1

-- words, and the end behind them
record Ended (words : List Placed) (end : Placed) : Type 0 where
  init : List Placed
  is : words ≡ init ++ end ∷ []
  none : HasNoEnd (kinds init)

ended_more : (word : Placed) (words : List Placed) (end : Placed) → word.kind ≢ End → Ended words end → Ended (word ∷ words) end
ended_more word words end other ended = record { init = word ∷ ended.init; is = ap (λ (rest : List Placed). word ∷ rest) ended.is; none = (other, ended.none) }

ended_at : (words : List Placed) (here there : ℕ) → here ≡ there → Ended words (end_at here) → Ended words (end_at there)
ended_at words here there e ended = subst (λ (n : ℕ). Ended words (end_at n)) e ended

text_ended : (left place : ℕ) (text : List ℕ) → Ended (words_from left place text) (end_at (place + length text))
text_ended left place [] = record { init = []; is = ap (λ (n : ℕ). end_at n ∷ []) (sym (add-zero place)); none = tt }
text_ended (suc left) place (byte ∷ text) = ended_at _ (suc place + length text) (place + suc (length text)) (omega arith) (text_ended left (suc place) text)
text_ended zero place (byte ∷ text) =
    ended_at _ (suc place + length text) (place + suc (length text)) (omega arith)
    (pick (λ (words : List Placed). Ended words (end_at (suc place + length text))) (is_blank byte) _ _
    (text_ended zero (suc place) text)
    (ended_more (placed place (first_word (byte ∷ text))) _ _ (first_word_none byte text) (text_ended ((first_word (byte ∷ text)).len - 1) (suc place) text)))

words_ended : (text : List ℕ) → Ended (words_of text) (end_at (length text))
unfolding words_of
words_ended text = ended_at _ (0 + length text) (length text) (omega arith) (text_ended 0 0 text)

-- what stands behind words of which none is the end
behind_front : (init front rest : List Placed) (end : Placed) → init ++ end ∷ [] ≡ front ++ rest → end.kind ≡ End → HasNoEnd (kinds front) → rest ≡ first rest ∷ after rest
unfolding first after
behind_front init front [] end e is none = absurd (nothing init front end e is none)
  where
    nothing : (init front : List Placed) (end : Placed) → init ++ end ∷ [] ≡ front ++ [] → end.kind ≡ End → HasNoEnd (kinds front) → ⊥
    nothing [] [] end e is none = cc
    nothing (i ∷ init) [] end e is none = cc
    nothing [] (f ∷ front) end e is none =
        let same : f ≡ end = cc in
        none.0 (ap (λ (w : Placed). w.kind) same ∙ is)
    nothing (i ∷ init) (f ∷ front) end e is none =
        let tails : init ++ end ∷ [] ≡ front ++ [] = cc in
        nothing init front end tails is none.1
behind_front init front (r ∷ rest) end e is none = refl

-- where the end stands behind them, it is the last word
last_behind : (init front rest : List Placed) (end : Placed) → init ++ end ∷ [] ≡ front ++ rest → end.kind ≡ End → HasNoEnd (kinds init) → HasNoEnd (kinds front) → (first rest).kind ≡ End → rest ≡ end ∷ []
unfolding first
last_behind [] [] rest end e is outer inner ended = sym e
last_behind (i ∷ init) [] [] end e is outer inner ended = cc
last_behind (i ∷ init) [] (r ∷ rest) end e is outer inner ended =
    let same : i ≡ r = cc in
    absurd (outer.0 (ap (λ (w : Placed). w.kind) same ∙ ended))
last_behind [] (f ∷ front) rest end e is outer inner ended =
    let same : end ≡ f = cc in
    absurd (inner.0 (ap (λ (w : Placed). w.kind) (sym same) ∙ is))
last_behind (i ∷ init) (f ∷ front) rest end e is outer inner ended =
    let tails : init ++ end ∷ [] ≡ front ++ rest = cc in
    last_behind init front rest end tails is outer.1 inner.1 ended

-- ---- what is told of a text

abbrev pub IsTold : List ℕ → Result Tree ExprFault → Type 0
IsTold text (Ok inner) = IsSpelling text inner
IsTold text (Err (Syntax place)) = IsMisfit text place
IsTold text (Err TooDeep) = IsTooDeep text
IsTold text (Err NumberTooWide) = IsTooWide text
IsTold text (Err Memory) = ⊥

text_words : (text : List ℕ) (front : List Spelled) (rest : List Placed) → HasNoEnd (kinds_of front) → words_of text ≡ placed_in front ++ rest → rest ≡ first rest ∷ after rest
text_words text front rest none e =
    let ended = words_ended text in
    behind_front ended.init (placed_in front) rest (end_at (length text)) (sym ended.is ∙ e) refl none

reaches : (text : List ℕ) (levels : ℕ) (front : List Spelled) (next : List Spelled) (rest : List Placed) (spelled : Spelled) (word : Placed)
    → Starts 7 0 (front ++ next) → AllByRecursion IsLow front → next ≡ spelled ∷ [] → spelled.word.kind ≡ word.kind → Reaches (placed_in front) word.kind spelled.levels
reaches text levels front next rest spelled word starts low next_is kind =
    let group : (front ++ next) ++ starts.more ≡ front ++ spelled ∷ starts.more =
    ap (λ (ss : List Spelled). (front ++ ss) ++ starts.more) next_is ∙ append_assoc front (spelled ∷ []) starts.more in
    record {
      tree = starts.inner;
      front = front;
      next = spelled;
      more = starts.more;
      spells = subst (λ (ss : List Spelled). Spells 7 0 starts.inner ss) group starts.spells;
      begins = refl;
      low = low;
      kind_is = kind;
      levels_are = refl;
    }

stopped : (text : List ℕ) (fault : ExprFault) → Stops fault 7 0 (words_of text) → IsTold text (Err fault)
stopped text (Syntax place) stops =
    let begun : Spells 7 0 stops.starts.inner (stops.front ++ (stops.next ++ stops.starts.more)) =
    subst (λ (ss : List Spelled). Spells 7 0 stops.starts.inner ss) (append_assoc stops.front stops.next stops.starts.more) stops.starts.spells in
    let none = front_none stops.front (stops.next ++ stops.starts.more) (no_end_in 7 0 stops.starts.inner (stops.front ++ (stops.next ++ stops.starts.more)) begun) in
    record {
      before = placed_in stops.front;
      word = first stops.rest;
      splits = record {
        behind = after stops.rest;
        words = stops.words_are ∙ ap (λ (rest : List Placed). placed_in stops.front ++ rest) (text_words text stops.front stops.rest none stops.words_are);
      };
      place_is = stops.cause;
      fits = record { tree = stops.starts.inner; front = stops.front; more = stops.next ++ stops.starts.more; spells = begun; begins = refl; low = stops.low };
      never = never_begun (kinds_of stops.front ++ (first stops.rest).kind ∷ []) (stops.stuck []);
    }
stopped text TooDeep stops =
    let cause = stops.cause in
    record {
      before = placed_in stops.front;
      word = cause.word;
      splits = record { behind = cause.behind; words = stops.words_are ∙ ap (λ (rest : List Placed). placed_in stops.front ++ rest) cause.rest_is };
      levels = cause.spelled.levels;
      fits = reaches text 0 stops.front stops.next stops.rest cause.spelled cause.word stops.starts stops.low cause.next_is cause.kind;
      deep = cause.holds;
    }
stopped text NumberTooWide stops =
    let cause = stops.cause in
    record {
      before = placed_in stops.front;
      word = cause.word;
      splits = record { behind = cause.behind; words = stops.words_are ∙ ap (λ (rest : List Placed). placed_in stops.front ++ rest) cause.rest_is };
      levels = cause.spelled.levels;
      fits = reaches text 0 stops.front stops.next stops.rest cause.spelled cause.word stops.starts stops.low cause.next_is cause.kind;
      low = cause.holds.0;
      number = cause.holds.1;
      wide = number_word text (placed_in stops.front) cause.word cause.behind (stops.words_are ∙ ap (λ (rest : List Placed). placed_in stops.front ++ rest) cause.rest_is) cause.holds.1 cause.holds.2;
    }
stopped text Memory stops = stops.cause

end_outcome : (text : List ℕ) (read : Tree × List Placed) (b : Bool) → b ≡ sees End read.1 → Reading 7 0 (words_of text) read.0 read.1 → IsTold text (cond b (Ok read.0) (Err (Syntax (first read.1).place)))
end_outcome text read true e reading =
    let ended = words_ended text in
    let none = no_end_in 7 0 read.0 reading.used reading.spells in
    record {
      words = reading.used;
      spells = reading.spells;
      all = reading.words_are ∙ ap (λ (rest : List Placed). placed_in reading.used ++ rest)
          (last_behind ended.init (placed_in reading.used) read.1 (end_at (length text)) (sym ended.is ∙ reading.words_are) refl ended.none none (seen End read.1 e));
      low = reading.low;
    }
end_outcome text read false e reading =
    let kind = (first read.1).kind in
    let other : kind ≢ End = unseen End read.1 refl e in
    record {
      before = placed_in reading.used;
      word = first read.1;
      splits = record { behind = after read.1; words = reading.words_are ∙ ap (λ (rest : List Placed). placed_in reading.used ++ rest) (ahead read.1 other) };
      place_is = refl;
      fits = record {
        tree = read.0;
        front = reading.used;
        more = [];
        spells = subst (λ (ss : List Spelled). Spells 7 0 read.0 ss) (sym (append-nil reading.used)) reading.spells;
        begins = refl;
        low = reading.low;
      };
      never = never_begun (kinds_of reading.used ++ kind ∷ [])
          (spells-course 7 0 read.0 reading.used reading.spells (kind ∷ []) []
          ∙ stuck_behind_expression read.1 [] reading.quiet (mark_whole kind (reading.quiet.choices refl) other));
    }

whole_outcome : (text : List ℕ) (o : Outcome) → Sound 7 0 (words_of text) o → IsTold text (whole o)
whole_outcome text (Ok read) reading = end_outcome text read (sees End read.1) refl reading
whole_outcome text (Err fault) stops = stopped text fault stops

pub told : (text : List ℕ) → IsTold text (tree_read text)
unfolding tree_read
told text = whole_outcome text (expression 65 (words_of text)) (expression_sound (words_of text))

told_as : (text : List ℕ) (outcome : Result Tree ExprFault) → tree_read text ≡ outcome → IsTold text outcome
told_as text outcome e = subst (λ (r : Result Tree ExprFault). IsTold text r) e (told text)

pub spelling_of : (text : List ℕ) (inner : Tree) → tree_read text ≡ Ok inner → IsSpelling text inner
spelling_of text inner e = told_as text (Ok inner) e

pub misfit_of : (text : List ℕ) (place : ℕ) → tree_read text ≡ Err (Syntax place) → IsMisfit text place
misfit_of text place e = told_as text (Err (Syntax place)) e

pub too_deep_of : (text : List ℕ) → tree_read text ≡ Err TooDeep → IsTooDeep text
too_deep_of text e = told_as text (Err TooDeep) e

pub too_wide_of : (text : List ℕ) → tree_read text ≡ Err NumberTooWide → IsTooWide text
too_wide_of text e = told_as text (Err NumberTooWide) e

-- ---- what was returned

pub returned_spelling : (text : List ℕ) (result : Result Expr ExprFault) → ReadsAll (tree_read text) result → IfOk result (λ expr. IsSpelling text (tree_of expr))
returned_spelling text (Ok expr) is = spelling_of text (tree_of expr) is
returned_spelling text (Err fault) is = tt

returned_as : (text : List ℕ) (result : Result Expr ExprFault) (fault : ExprFault) → ReadsAll (tree_read text) result → result ≡ Err fault → Fails fault (tree_read text)
returned_as text result fault is e = subst (λ (r : Result Expr ExprFault). ReadsAll (tree_read text) r) e is

pub returned_misfit : (text : List ℕ) (result : Result Expr ExprFault) → ReadsAll (tree_read text) result → (place : ℕ) → result ≡ Err (Syntax place) → IsMisfit text place
returned_misfit text result is place e = misfit_of text place (returned_as text result (Syntax place) is e)

pub returned_too_deep : (text : List ℕ) (result : Result Expr ExprFault) → ReadsAll (tree_read text) result → result ≡ Err TooDeep → IsTooDeep text
returned_too_deep text result is e = too_deep_of text (returned_as text result TooDeep is e)

pub returned_too_wide : (text : List ℕ) (result : Result Expr ExprFault) → ReadsAll (tree_read text) result → result ≡ Err NumberTooWide → IsTooWide text
returned_too_wide text result is e = too_wide_of text (returned_as text result NumberTooWide is e)
