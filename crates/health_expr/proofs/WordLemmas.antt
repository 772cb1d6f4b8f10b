-- A word of the code, against the definition.
use Rattle.std.proofs.Common.{◌≡◌, ◌==◌, ◌<◌, ℕ, ◌+◌, ◌-◌, Bool, true, false, cond, List, length, get_or, take, drop, position, Option, Some, None, arith, subst, sym, refl, ap, ◌∙◌, inl, inr}
use Rattle.std.proofs.lemmas.Bool.Decides.{nat_tests}
use Rattle.std.proofs.lemmas.List.{drop-drop, length-take-le}
use Rattle.std.proofs.lemmas.List.Sums.{prefix_len-le-length}
use Rattle.std.proofs.lemmas.List.Quantifiers.{position-Some}
use Rattle.std.proofs.lemmas.Str.{IsCharBoundary-end, IsCharBoundary-before_ascii, IsCharBoundary-after_ascii}
use Rattle.std.specs.Borrow.{Bor}
use Rattle.std.specs.List.{prefix_len}
use Rattle.std.specs.Str.{IsUtf8, IsCharBoundary}
use Rattle.health_expr.specs.declared.word.Kind.TheVariants.{Name}
use Rattle.health_expr.specs.declared.word.Word.{Word}
use Rattle.health_expr.specs.Cut.{is_letter, is_brace, unknown, braced, named, letters}
use Rattle.health_expr.specs.Word.{Is, EndsInAscii}

-- ---- where a text may be cut

pub behind_mark : (text : List ℕ) (n : ℕ) → IsUtf8 text → EndsInAscii text n → IsCharBoundary text n
behind_mark text n utf8 (inl e) = subst (IsCharBoundary text) (sym e) (IsCharBoundary-end text)
behind_mark text n utf8 (inr ends) = subst (IsCharBoundary text) (omega arith) (IsCharBoundary-after_ascii text (n - 1) utf8 (omega arith) ends.2)

pub behind_dollar : (text : List ℕ) → IsUtf8 text → 0 < length text → get_or text 0 0 ≡ 36 → IsCharBoundary text 1
behind_dollar text utf8 long e = IsCharBoundary-after_ascii text 0 utf8 long (omega arith)

pub behind_open_brace : (text : List ℕ) → IsUtf8 text → 1 < length text → get_or text 1 0 ≡ 123 → IsCharBoundary text 2
behind_open_brace text utf8 long e = IsCharBoundary-after_ascii text 1 utf8 long (omega arith)

brace_at : (text : List ℕ) (n : ℕ) → Some n ≡ position is_brace text → (n < length text) × (get_or text n 0 < 128)
brace_at text n e =
    let at = position-Some is_brace text n 0 (sym e) in
    (at.0, grind (arith, nat_tests))

pub before_brace : (text : List ℕ) (n : ℕ) → Some n ≡ position is_brace text → IsCharBoundary text n
before_brace text n e =
    let at = brace_at text n e in
    IsCharBoundary-before_ascii text n at.0 at.1

pub behind_brace : (text : List ℕ) (n : ℕ) → IsUtf8 text → Some n ≡ position is_brace text → IsCharBoundary text (n + 1)
behind_brace text n utf8 e =
    let at = brace_at text n e in
    IsCharBoundary-after_ascii text n utf8 at.0 at.1

-- ---- names

pub braced_open : (text inside : List ℕ) (word : Word) → inside ≡ drop 2 text → None ≡ position is_brace inside → Is (unknown text) text word
    → Is (braced text (position is_brace (drop 2 text))) text word
braced_open text inside word i none is =
    let found : None ≡ position is_brace (drop 2 text) = none ∙ ap (λ (bytes : List ℕ). position is_brace bytes) i in
    subst (λ (o : Option ℕ). Is (braced text o) text word) found is

pub braced_closed : (text inside : List ℕ) (said rest : Bor (List ℕ)) (end : ℕ) → inside ≡ drop 2 text → Some end ≡ position is_brace inside → said.now ≡ take (end - 0) inside → rest.now ≡ drop (end + 1) inside
    → Is (braced text (position is_brace (drop 2 text))) text (record { kind = Name; said = said; rest = rest })
braced_closed text inside said rest end i some s r =
    let found : Some end ≡ position is_brace (drop 2 text) = some ∙ ap (λ (bytes : List ℕ). position is_brace bytes) i in
    let start : end - 0 ≡ end = omega arith in
    let after : 2 + (end + 1) ≡ end + 3 = omega arith in
    let w : Word = record { kind = Name; said = said; rest = rest } in
    let is : Is (braced text (Some end)) text w = record {
      kind = refl;
      said = s ∙ ap (λ (n : ℕ). take n inside) start ∙ ap (λ (bytes : List ℕ). take end bytes) i;
      rest = r ∙ ap (λ (bytes : List ℕ). drop (end + 1) bytes) i ∙ drop-drop (end + 1) 2 text ∙ ap (λ (n : ℕ). drop n text) after;
    } in
    subst (λ (o : Option ℕ). Is (braced text o) text w) found is

letters_are : (len : ℕ) (rest letters : List ℕ) (b : Bool) → len ≡ prefix_len is_letter rest → letters ≡ take len rest → b ≡ (length letters == 0) → (len == 0) ≡ b
letters_are len rest letters b l e t =
    let within = prefix_len-le-length is_letter rest in
    let long : length letters ≡ len = ap length e ∙ length-take-le len rest (omega arith) in
    grind (arith, nat_tests)

pub named_empty : (text after said : List ℕ) (word : Word) → after ≡ drop 1 text → said ≡ take (prefix_len is_letter after) after → true ≡ (length said == 0) → Is (unknown text) text word
    → Is (named text (prefix_len is_letter (drop 1 text))) text word
named_empty text after said word a s empty is =
    let none : (prefix_len is_letter (drop 1 text) == 0) ≡ true = letters_are _ (drop 1 text) said true refl (s ∙ ap (λ (bytes : List ℕ). take (prefix_len is_letter bytes) bytes) a) empty in
    subst (λ (b : Bool). Is (cond b (unknown text) (record { kind = Name; said = take (prefix_len is_letter (drop 1 text)) (drop 1 text); len = prefix_len is_letter (drop 1 text) + 1 })) text word) (sym none) is

pub named_some : (text after : List ℕ) (said rest : Bor (List ℕ)) → after ≡ drop 1 text → said.now ≡ take (prefix_len is_letter after) after → rest.now ≡ drop (prefix_len is_letter after) after → false ≡ (length said.now == 0)
    → Is (named text (prefix_len is_letter (drop 1 text))) text (record { kind = Name; said = said; rest = rest })
named_some text after said rest a s r some =
    let one = drop 1 text in
    let said_is = s ∙ ap (λ (bytes : List ℕ). take (prefix_len is_letter bytes) bytes) a in
    let more : (prefix_len is_letter one == 0) ≡ false = letters_are _ one said.now false refl said_is some in
    let w : Word = record { kind = Name; said = said; rest = rest } in
    let behind : 1 + prefix_len is_letter one ≡ prefix_len is_letter one + 1 = omega arith in
    subst (λ (b : Bool). Is (cond b (unknown text) (record { kind = Name; said = take (prefix_len is_letter one) one; len = prefix_len is_letter one + 1 })) text w) (sym more) (record {
      kind = refl;
      said = said_is;
      rest = r ∙ ap (λ (bytes : List ℕ). drop (prefix_len is_letter bytes) bytes) a ∙ drop-drop (prefix_len is_letter one) 1 text ∙ ap (λ (n : ℕ). drop n text) behind;
    })
