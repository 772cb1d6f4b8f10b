-- The words of an expression of operators that bind alike.
use Rattle.std.proofs.Common.{◌≡◌, List, [], ◌∷◌, ◌++◌, ap, sym, ◌∙◌, Result, Ok, Err, OnOk, append_assoc, append-nil, rules, Vec}
use Rattle.std.specs.Prelude.{Box}
use Rattle.std.specs.declared.alloc.Global.{Global}
use Rattle.std.specs.declared.alloc.AllocError.{AllocError}
use Rattle.health_expr.specs.declared.operator.Operator.{Operator}
use Rattle.health_expr.specs.declared.expr.Expr.{Expr, Binary, Choice, the_lemmas}
use Rattle.health_expr.specs.Tree.{Tree, combined, chosen}
use Rattle.health_expr.specs.TreeOf.{chain, tree_of, row_of}
use Rattle.health_expr.proofs.Trees.{tree_of-Binary}
use Rattle.alarm_core.specs.declared.expr_words.Word.{Word}
use Rattle.alarm_core.specs.declared.expr_words.Word.TheVariants as word
use Rattle.alarm_core.specs.Same.{words}
use Rattle.alarm_core.specs.Rows.{row_words}

pub words-chain : (left : Tree) (steps : List (Operator × Expr)) → words (chain left (row_of steps)) ≡ words left ++ row_words steps
words-chain left [] = sym (append-nil (words left))
words-chain left (step ∷ steps) =
    words-chain (combined step.0 left (tree_of step.1)) steps
    ∙ append_assoc (words left) (words (tree_of step.1) ++ word.Combined step.0 ∷ []) (row_words steps)
    ∙ ap (λ (more : List Word). words left ++ more) (append_assoc (words (tree_of step.1)) (word.Combined step.0 ∷ []) (row_words steps))

binary_words : (self head : Expr) (first : Box Expr Global) (rest : Vec (Operator × Expr) Global) (old middle new : List Word)
    → self ≡ Binary first rest → head ≡ first.value
    → middle ≡ old ++ words (tree_of head) → new ≡ middle ++ row_words rest.items → new ≡ old ++ words (tree_of self)
binary_words self head first rest old middle new is at prefix back =
    back
    ∙ ap (λ (more : List Word). more ++ row_words rest.items) (prefix ∙ ap (λ (e : Expr). old ++ words (tree_of e)) at)
    ∙ append_assoc old (words (tree_of first.value)) (row_words rest.items)
    ∙ ap (λ (more : List Word). old ++ more) (sym (words-chain (tree_of first.value) rest.items) ∙ ap words (sym (tree_of-Binary first rest)) ∙ ap (λ (e : Expr). words (tree_of e)) (sym is))

-- the words of an expression whose first operand was added, where its row is
pub words-Binary : (self head : Expr) (first : Box Expr Global) (rest : Vec (Operator × Expr) Global) (old middle new : List Word) (r : Result (Unit {0}) AllocError)
    → self ≡ Binary first rest → head ≡ first.value → middle ≡ old ++ words (tree_of head)
    → OnOk r (new ≡ middle ++ row_words rest.items) → OnOk r (new ≡ old ++ words (tree_of self))
words-Binary self head first rest old middle new (Ok u) is at prefix back = binary_words self head first rest old middle new is at prefix back
words-Binary self head first rest old middle new (Err e) is at prefix back = back

tree_of-Choice : (condition first second : Box Expr Global) → tree_of (Choice condition first second) ≡ chosen (tree_of condition.value) (tree_of first.value) (tree_of second.value)
tree_of-Choice condition first second = search (rules, the_lemmas)

three_words : (old one two three : List Word) → ((old ++ one) ++ two) ++ three ≡ old ++ (one ++ (two ++ three))
three_words old one two three = append_assoc (old ++ one) two three ∙ append_assoc old one (two ++ three)

choice_words : (self head middle end : Expr) (condition first second : Box Expr Global) (old one two three new : List Word)
    → self ≡ Choice condition first second → head ≡ condition.value → middle ≡ first.value → end ≡ second.value
    → one ≡ old ++ words (tree_of head) → two ≡ one ++ words (tree_of middle) → three ≡ two ++ words (tree_of end)
    → new ≡ three ++ word.Chosen ∷ [] → new ≡ old ++ words (tree_of self)
choice_words self head middle end condition first second old one two three new is at at_first at_second a b c d =
    let x : List Word = words (tree_of condition.value) in
    let y : List Word = words (tree_of first.value) in
    let z : List Word = words (tree_of second.value) in
    let all : three ≡ ((old ++ x) ++ y) ++ z =
    c ∙ ap (λ (e : Expr). two ++ words (tree_of e)) at_second
    ∙ ap (λ (l : List Word). l ++ z) (b ∙ ap (λ (e : Expr). one ++ words (tree_of e)) at_first
    ∙ ap (λ (l : List Word). l ++ y) (a ∙ ap (λ (e : Expr). old ++ words (tree_of e)) at)) in
    d
    ∙ ap (λ (l : List Word). l ++ word.Chosen ∷ []) all
    ∙ append_assoc ((old ++ x) ++ y) z (word.Chosen ∷ [])
    ∙ three_words old x y (z ++ word.Chosen ∷ [])
    ∙ ap (λ (tree : Tree). old ++ words tree) (sym (tree_of-Choice condition first second))
    ∙ ap (λ (e : Expr). old ++ words (tree_of e)) (sym is)

-- the words of a choice whose three parts were added, where what chooses is
pub words-Choice : (self head middle end : Expr) (condition first second : Box Expr Global) (old one two three new : List Word) (r : Result (Unit {0}) AllocError)
    → self ≡ Choice condition first second → head ≡ condition.value → middle ≡ first.value → end ≡ second.value
    → one ≡ old ++ words (tree_of head) → two ≡ one ++ words (tree_of middle) → three ≡ two ++ words (tree_of end)
    → OnOk r (new ≡ three ++ word.Chosen ∷ []) → OnOk r (new ≡ old ++ words (tree_of self))
words-Choice self head middle end condition first second old one two three new (Ok u) is at at_first at_second a b c d =
    choice_words self head middle end condition first second old one two three new is at at_first at_second a b c d
words-Choice self head middle end condition first second old one two three new (Err e) is at at_first at_second a b c d = d
