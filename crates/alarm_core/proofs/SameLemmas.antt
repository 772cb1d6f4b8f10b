-- Alarms that say the same differ in nothing.
use Rattle.std.proofs.Common.{◌≡◌, ℕ, ◌==◌, Bool, true, false, ◌↔◌, IsTrue, List, [], ◌∷◌, ◌++◌, Option, Some, None, ℤ, refl, sym, ap, ◌∙◌}
use Rattle.std.proofs.lemmas.Bool.{and_from, and_parts}
use Rattle.std.proofs.lemmas.Bool.Decides.{Decides-int_eq, Decides-eqb}
use Rattle.std.proofs.lemmas.Slice.Eq.{bytes_eq-Decides}
use Rattle.std.specs.Cmp.Lexicographic.{pointwise}
use Rattle.std.specs.Bool.{beq}
use Rattle.std.specs.Option.{option_eq}
use Rattle.std.specs.Ordering.{int_eq}
use Rattle.std.specs.Str.{bytes_eq}
use Rattle.health_config.specs.Entity.{Alarm}
use Rattle.health_config.specs.declared.lookup.Lookup.{Lookup}
use Rattle.health_config.specs.declared.lookup.Method.{Method}
use Rattle.health_config.specs.declared.lookup.Method.TheVariants as method
use Rattle.health_expr.specs.declared.operator.Operator.{Operator}
use Rattle.health_expr.specs.declared.operator.Operator.TheVariants as operator
use Rattle.health_expr.specs.declared.operator.Prefix.{Prefix}
use Rattle.health_expr.specs.declared.operator.Prefix.TheVariants as prefix
use Rattle.health_expr.specs.Tree.{Tree, number, nan, infinity, name, prefixed, combined, chosen}
use Rattle.alarm_core.specs.declared.expr_words.Word.{Word}
use Rattle.alarm_core.specs.declared.expr_words.Word.TheVariants as word
use Rattle.alarm_core.specs.Same.{words, prefix_number, operator_number, same_word, same_tree, method_number, same_lookup, same_texts, same_numbers, same_delay, same_trees, is_same}

-- ---- the tree of words, by a stack

put : Word → List Tree → List Tree
put (word.Number units) stack = number units ∷ stack
put word.Nan stack = nan ∷ stack
put word.Infinity stack = infinity ∷ stack
put (word.Name text) stack = name text ∷ stack
put (word.Prefixed prefix) (operand ∷ stack) = prefixed prefix operand ∷ stack
put (word.Prefixed prefix) [] = []
put (word.Combined operator) (right ∷ left ∷ stack) = combined operator left right ∷ stack
put (word.Combined operator) (right ∷ []) = []
put (word.Combined operator) [] = []
put word.Chosen (second ∷ first ∷ condition ∷ stack) = chosen condition first second ∷ stack
put word.Chosen (second ∷ first ∷ []) = []
put word.Chosen (second ∷ []) = []
put word.Chosen [] = []

put_all : List Word → List Tree → List Tree
put_all [] stack = stack
put_all (word ∷ more) stack = put_all more (put word stack)

put_all-append : (front back : List Word) (stack : List Tree) → put_all (front ++ back) stack ≡ put_all back (put_all front stack)
unfolding put_all
put_all-append [] back stack = refl
put_all-append (word ∷ front) back stack = put_all-append front back (put word stack)

put_words : (tree : Tree) (stack : List Tree) → put_all (words tree) stack ≡ tree ∷ stack
unfolding put_all put
put_words (number units) stack = refl
put_words nan stack = refl
put_words infinity stack = refl
put_words (name text) stack = refl
put_words (prefixed prefix operand) stack =
    put_all-append (words operand) (word.Prefixed prefix ∷ []) stack
    ∙ ap (put_all (word.Prefixed prefix ∷ [])) (put_words operand stack)
put_words (combined operator left right) stack =
    put_all-append (words left) (words right ++ word.Combined operator ∷ []) stack
    ∙ ap (put_all (words right ++ word.Combined operator ∷ [])) (put_words left stack)
    ∙ put_all-append (words right) (word.Combined operator ∷ []) (left ∷ stack)
    ∙ ap (put_all (word.Combined operator ∷ [])) (put_words right (left ∷ stack))
put_words (chosen condition first second) stack =
    put_all-append (words condition) (words first ++ (words second ++ word.Chosen ∷ [])) stack
    ∙ ap (put_all (words first ++ (words second ++ word.Chosen ∷ []))) (put_words condition stack)
    ∙ put_all-append (words first) (words second ++ word.Chosen ∷ []) (condition ∷ stack)
    ∙ ap (put_all (words second ++ word.Chosen ∷ [])) (put_words first (condition ∷ stack))
    ∙ put_all-append (words second) (word.Chosen ∷ []) (first ∷ condition ∷ stack)
    ∙ ap (put_all (word.Chosen ∷ [])) (put_words second (first ∷ condition ∷ stack))

-- trees of the same words are the same
tree_again : (one other : Tree) → words one ≡ words other → one ≡ other
tree_again one other same =
    let both : one ∷ [] ≡ other ∷ [] = sym (put_words one []) ∙ ap (λ (all : List Word). put_all all []) same ∙ put_words other [] in
    cc

-- ---- words

same_prefix : (one other : Prefix) → (prefix_number one == prefix_number other) ≡ true → one ≡ other
same_prefix prefix.Not prefix.Not is = refl
same_prefix prefix.Minus prefix.Minus is = refl
same_prefix prefix.Plus prefix.Plus is = refl
same_prefix prefix.Abs prefix.Abs is = refl
same_prefix _ _ is = absurd (cc)

same_operator : (one other : Operator) → (operator_number one == operator_number other) ≡ true → one ≡ other
same_operator operator.Or operator.Or is = refl
same_operator operator.And operator.And is = refl
same_operator operator.Equal operator.Equal is = refl
same_operator operator.NotEqual operator.NotEqual is = refl
same_operator operator.Less operator.Less is = refl
same_operator operator.AtMost operator.AtMost is = refl
same_operator operator.Greater operator.Greater is = refl
same_operator operator.AtLeast operator.AtLeast is = refl
same_operator operator.Add operator.Add is = refl
same_operator operator.Subtract operator.Subtract is = refl
same_operator operator.Multiply operator.Multiply is = refl
same_operator operator.Divide operator.Divide is = refl
same_operator _ _ is = absurd (cc)

word_again : (one other : Word) → same_word one other ≡ true → one ≡ other
word_again (word.Number one) (word.Number other) is = ap (λ (units : ℤ). word.Number units) ((Decides-int_eq one other).0 is)
word_again word.Nan word.Nan is = refl
word_again word.Infinity word.Infinity is = refl
word_again (word.Name one) (word.Name other) is = ap (λ (text : List ℕ). word.Name text) ((bytes_eq-Decides one other).0 is)
word_again (word.Prefixed one) (word.Prefixed other) is = ap (λ (prefix : Prefix). word.Prefixed prefix) (same_prefix one other is)
word_again (word.Combined one) (word.Combined other) is = ap (λ (operator : Operator). word.Combined operator) (same_operator one other is)
word_again word.Chosen word.Chosen is = refl
word_again _ _ is = absurd (cc)

words_again : (one other : List Word) → pointwise same_word one other ≡ true → one ≡ other
words_again [] [] is = refl
words_again [] (y ∷ ys) is = absurd (cc)
words_again (x ∷ xs) [] is = absurd (cc)
words_again (x ∷ xs) (y ∷ ys) is =
    let both = and_parts (same_word x y) (pointwise same_word xs ys) is in
    let first : x ≡ y = word_again x y both.0 in
    let more : xs ≡ ys = words_again xs ys both.1 in
    cc

-- expressions of the same words have the same tree
expr_again : (one other : Tree) → same_tree one other ≡ true → one ≡ other
unfolding same_tree
expr_again one other is = tree_again one other (words_again (words one) (words other) is)

-- ---- alarms

same_method : (one other : Method) → (method_number one == method_number other) ≡ true → one ≡ other
same_method method.Average method.Average is = refl
same_method method.Min method.Min is = refl
same_method method.Max method.Max is = refl
same_method method.Sum method.Sum is = refl
same_method method.Count method.Count is = refl
same_method method.AnomalyRate method.AnomalyRate is = refl
same_method _ _ is = absurd (cc)

same_bool : (one other : Bool) → beq one other ≡ true → one ≡ other
same_bool true true is = refl
same_bool false false is = refl
same_bool true false is = absurd (cc)
same_bool false true is = absurd (cc)

same_texts_in : (one other : List (List ℕ)) → pointwise bytes_eq one other ≡ true → one ≡ other
same_texts_in [] [] is = refl
same_texts_in [] (y ∷ ys) is = absurd (cc)
same_texts_in (x ∷ xs) [] is = absurd (cc)
same_texts_in (x ∷ xs) (y ∷ ys) is =
    let both = and_parts (bytes_eq x y) (pointwise bytes_eq xs ys) is in
    let first : x ≡ y = (bytes_eq-Decides x y).0 both.0 in
    let more : xs ≡ ys = same_texts_in xs ys both.1 in
    cc

same_option : {A : Type 0} (e : A → A → Bool) → ((x y : A) → e x y ≡ true → x ≡ y) → (one other : Option A) → option_eq e one other ≡ true → one ≡ other
same_option {A} e same None None is = refl
same_option {A} e same None (Some y) is = absurd (cc)
same_option {A} e same (Some x) None is = absurd (cc)
same_option {A} e same (Some x) (Some y) is = ap (λ (v : A). Some v) (same x y is)

lookup_of : Method → ℕ → ℕ → Bool → Bool → Bool → Option (List (List ℕ)) → Lookup
lookup_of method after before absolute percentage min2max dims = record {
  method = method;
  after = after;
  before = before;
  absolute = absolute;
  percentage = percentage;
  min2max = min2max;
  dims = dims;
}

lookup_of_same : (one other : Lookup) → one.method ≡ other.method → one.after ≡ other.after → one.before ≡ other.before → one.absolute ≡ other.absolute
    → one.percentage ≡ other.percentage → one.min2max ≡ other.min2max → one.dims ≡ other.dims
    → lookup_of one.method one.after one.before one.absolute one.percentage one.min2max one.dims
    ≡ lookup_of other.method other.after other.before other.absolute other.percentage other.min2max other.dims
lookup_of_same one other a b c d e f g = cc

same_fields : (one other : Lookup) → one.method ≡ other.method → one.after ≡ other.after → one.before ≡ other.before → one.absolute ≡ other.absolute
    → one.percentage ≡ other.percentage → one.min2max ≡ other.min2max → one.dims ≡ other.dims → one ≡ other
unfolding lookup_of
same_fields one other a b c d e f g = lookup_of_same one other a b c d e f g

lookup_again : (one other : Lookup) → same_lookup one other ≡ true → one ≡ other
unfolding same_lookup
lookup_again one other is =
    let a = and_parts (method_number one.method == method_number other.method) _ is in
    let b = and_parts (one.after == other.after) _ a.1 in
    let c = and_parts (one.before == other.before) _ b.1 in
    let d = and_parts (beq one.absolute other.absolute) _ c.1 in
    let e = and_parts (beq one.percentage other.percentage) _ d.1 in
    let f = and_parts (beq one.min2max other.min2max) _ e.1 in
    let method : one.method ≡ other.method = same_method one.method other.method a.0 in
    let after : one.after ≡ other.after = (Decides-eqb one.after other.after).0 b.0 in
    let before : one.before ≡ other.before = (Decides-eqb one.before other.before).0 c.0 in
    let absolute : one.absolute ≡ other.absolute = same_bool one.absolute other.absolute d.0 in
    let percentage : one.percentage ≡ other.percentage = same_bool one.percentage other.percentage e.0 in
    let min2max : one.min2max ≡ other.min2max = same_bool one.min2max other.min2max f.0 in
    let dims : one.dims ≡ other.dims = same_option (pointwise bytes_eq) same_texts_in one.dims other.dims f.1 in
    same_fields one other method after before absolute percentage min2max dims

abbrev itself : Alarm → Alarm
itself a = record {
  name = a.name;
  template = a.template;
  on = a.on;
  lookup = a.lookup;
  calc = a.calc;
  warn = a.warn;
  crit = a.crit;
  every = a.every;
  green = a.green;
  red = a.red;
  units = a.units;
  info = a.info;
  to = a.to;
  up = a.up;
  down = a.down;
  multiplier = a.multiplier;
  max = a.max;
  no_clear = a.no_clear;
}

-- alarms that say the same are the same
alarm_again : (one other : Alarm) → is_same one other ≡ true → one ≡ other
unfolding is_same same_texts same_numbers same_delay same_trees
alarm_again one other is =
    let texts = and_parts (same_texts one other) _ is in
    let numbers = and_parts (same_numbers one other) _ texts.1 in
    let delay = and_parts (same_delay one other) _ numbers.1 in
    let lookup = and_parts (option_eq same_lookup one.lookup other.lookup) _ delay.1 in
    let t1 = and_parts (bytes_eq one.name other.name) _ texts.0 in
    let t2 = and_parts (bytes_eq one.on other.on) _ t1.1 in
    let t3 = and_parts (bytes_eq one.units other.units) _ t2.1 in
    let t4 = and_parts (bytes_eq one.info other.info) _ t3.1 in
    let n1 = and_parts (beq one.template other.template) _ numbers.0 in
    let n2 = and_parts (one.every == other.every) _ n1.1 in
    let n3 = and_parts (option_eq int_eq one.green other.green) _ n2.1 in
    let n4 = and_parts (option_eq int_eq one.red other.red) _ n3.1 in
    let d1 = and_parts (one.up == other.up) _ delay.0 in
    let d2 = and_parts (one.down == other.down) _ d1.1 in
    let d3 = and_parts (int_eq one.multiplier other.multiplier) _ d2.1 in
    let e1 = and_parts (option_eq same_tree one.calc other.calc) _ lookup.1 in
    let e2 = and_parts (option_eq same_tree one.warn other.warn) _ e1.1 in
    let f1 : one.name ≡ other.name = (bytes_eq-Decides one.name other.name).0 t1.0 in
    let f2 : one.on ≡ other.on = (bytes_eq-Decides one.on other.on).0 t2.0 in
    let f3 : one.units ≡ other.units = (bytes_eq-Decides one.units other.units).0 t3.0 in
    let f4 : one.info ≡ other.info = (bytes_eq-Decides one.info other.info).0 t4.0 in
    let f5 : one.to ≡ other.to = (bytes_eq-Decides one.to other.to).0 t4.1 in
    let f6 : one.template ≡ other.template = same_bool one.template other.template n1.0 in
    let f7 : one.every ≡ other.every = (Decides-eqb one.every other.every).0 n2.0 in
    let f8 : one.green ≡ other.green = same_option int_eq (λ x y same. (Decides-int_eq x y).0 same) one.green other.green n3.0 in
    let f9 : one.red ≡ other.red = same_option int_eq (λ x y same. (Decides-int_eq x y).0 same) one.red other.red n4.0 in
    let f10 : one.no_clear ≡ other.no_clear = same_bool one.no_clear other.no_clear n4.1 in
    let f11 : one.up ≡ other.up = (Decides-eqb one.up other.up).0 d1.0 in
    let f12 : one.down ≡ other.down = (Decides-eqb one.down other.down).0 d2.0 in
    let f13 : one.multiplier ≡ other.multiplier = (Decides-int_eq one.multiplier other.multiplier).0 d3.0 in
    let f14 : one.max ≡ other.max = same_option ◌==◌ (λ x y same. (Decides-eqb x y).0 same) one.max other.max d3.1 in
    let f15 : one.lookup ≡ other.lookup = same_option same_lookup lookup_again one.lookup other.lookup lookup.0 in
    let f16 : one.calc ≡ other.calc = same_option same_tree expr_again one.calc other.calc e1.0 in
    let f17 : one.warn ≡ other.warn = same_option same_tree expr_again one.warn other.warn e2.0 in
    let f18 : one.crit ≡ other.crit = same_option same_tree expr_again one.crit other.crit e2.1 in
    let all : itself one ≡ itself other = cc in
    all

-- ---- and the other way round

bool_back : (one other : Bool) → one ≡ other → beq one other ≡ true
bool_back true true is = refl
bool_back false false is = refl
bool_back true false is = absurd (cc)
bool_back false true is = absurd (cc)

option_back : {A : Type 0} (e : A → A → Bool) → ((x y : A) → x ≡ y → e x y ≡ true) → (one other : Option A) → one ≡ other → option_eq e one other ≡ true
option_back {A} e back None None is = refl
option_back {A} e back None (Some y) is = absurd (cc)
option_back {A} e back (Some x) None is = absurd (cc)
option_back {A} e back (Some x) (Some y) is = let same : x ≡ y = cc in back x y same

pointwise_itself : {A : Type 0} (e : A → A → Bool) → ((x : A) → e x x ≡ true) → (xs : List A) → pointwise e xs xs ≡ true
pointwise_itself {A} e itself [] = refl
pointwise_itself {A} e itself (x ∷ xs) = and_from (e x x) (pointwise e xs xs) (itself x) (pointwise_itself e itself xs)

pub number_back : (one other : ℕ) → one ≡ other → (one == other) ≡ true
number_back one other = (Decides-eqb one other).1

pub bytes_back : (one other : List ℕ) → one ≡ other → bytes_eq one other ≡ true
bytes_back one other = (bytes_eq-Decides one other).1

units_back : (one other : ℤ) → one ≡ other → int_eq one other ≡ true
units_back one other = (Decides-int_eq one other).1

word_itself : (one : Word) → same_word one one ≡ true
word_itself (word.Number units) = units_back units units refl
word_itself word.Nan = refl
word_itself word.Infinity = refl
word_itself (word.Name text) = bytes_back text text refl
word_itself (word.Prefixed prefix) = number_back (prefix_number prefix) (prefix_number prefix) refl
word_itself (word.Combined operator) = number_back (operator_number operator) (operator_number operator) refl
word_itself word.Chosen = refl

expr_back : (one other : Tree) → one ≡ other → same_tree one other ≡ true
unfolding same_tree
expr_back one other is =
    ap (λ (tree : Tree). pointwise same_word (words one) (words tree)) (sym is)
    ∙ pointwise_itself same_word word_itself (words one)

lookup_itself : (one : Lookup) → same_lookup one one ≡ true
unfolding same_lookup
lookup_itself one =
    and_from _ _ (number_back (method_number one.method) (method_number one.method) refl)
    (and_from _ _ (number_back one.after one.after refl)
    (and_from _ _ (number_back one.before one.before refl)
    (and_from _ _ (bool_back one.absolute one.absolute refl)
    (and_from _ _ (bool_back one.percentage one.percentage refl)
    (and_from _ _ (bool_back one.min2max one.min2max refl)
    (option_back (pointwise bytes_eq) (λ x y is. ap (λ (z : List (List ℕ)). pointwise bytes_eq x z) (sym is) ∙ pointwise_itself bytes_eq (λ text. bytes_back text text refl) x) one.dims one.dims refl))))))

lookup_back : (one other : Lookup) → one ≡ other → same_lookup one other ≡ true
lookup_back one other is = ap (λ (lookup : Lookup). same_lookup one lookup) (sym is) ∙ lookup_itself one

texts_back : (one other : Alarm) → one ≡ other → same_texts one other ≡ true
unfolding same_texts
texts_back one other is =
    and_from _ _ (bytes_back one.name other.name (ap (λ (a : Alarm). a.name) is))
    (and_from _ _ (bytes_back one.on other.on (ap (λ (a : Alarm). a.on) is))
    (and_from _ _ (bytes_back one.units other.units (ap (λ (a : Alarm). a.units) is))
    (and_from _ _ (bytes_back one.info other.info (ap (λ (a : Alarm). a.info) is))
    (bytes_back one.to other.to (ap (λ (a : Alarm). a.to) is)))))

numbers_back : (one other : Alarm) → one ≡ other → same_numbers one other ≡ true
unfolding same_numbers
numbers_back one other is =
    and_from _ _ (bool_back one.template other.template (ap (λ (a : Alarm). a.template) is))
    (and_from _ _ (number_back one.every other.every (ap (λ (a : Alarm). a.every) is))
    (and_from _ _ (option_back int_eq units_back one.green other.green (ap (λ (a : Alarm). a.green) is))
    (and_from _ _ (option_back int_eq units_back one.red other.red (ap (λ (a : Alarm). a.red) is))
    (bool_back one.no_clear other.no_clear (ap (λ (a : Alarm). a.no_clear) is)))))

delay_back : (one other : Alarm) → one ≡ other → same_delay one other ≡ true
unfolding same_delay
delay_back one other is =
    and_from _ _ (number_back one.up other.up (ap (λ (a : Alarm). a.up) is))
    (and_from _ _ (number_back one.down other.down (ap (λ (a : Alarm). a.down) is))
    (and_from _ _ (units_back one.multiplier other.multiplier (ap (λ (a : Alarm). a.multiplier) is))
    (option_back ◌==◌ number_back one.max other.max (ap (λ (a : Alarm). a.max) is))))

exprs_back : (one other : Alarm) → one ≡ other → same_trees one other ≡ true
unfolding same_trees
exprs_back one other is =
    and_from _ _ (option_back same_tree expr_back one.calc other.calc (ap (λ (a : Alarm). a.calc) is))
    (and_from _ _ (option_back same_tree expr_back one.warn other.warn (ap (λ (a : Alarm). a.warn) is))
    (option_back same_tree expr_back one.crit other.crit (ap (λ (a : Alarm). a.crit) is)))

alarm_back : (one other : Alarm) → one ≡ other → is_same one other ≡ true
unfolding is_same
alarm_back one other is =
    and_from _ _ (texts_back one other is)
    (and_from _ _ (numbers_back one other is)
    (and_from _ _ (delay_back one other is)
    (and_from _ _ (option_back same_lookup lookup_back one.lookup other.lookup (ap (λ (a : Alarm). a.lookup) is))
    (exprs_back one other is))))

-- alarms say the same exactly where they are the same
pub alarms_alike : (one other : Alarm) → IsTrue (is_same one other) ↔ (one ≡ other)
alarms_alike one other = (alarm_again one other, alarm_back one other)
