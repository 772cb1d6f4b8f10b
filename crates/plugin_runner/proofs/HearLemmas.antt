-- How a child is heard, piece by piece.
use Rattle.std.proofs.Common.{◌≡◌, ℕ, ◌+◌, ◌<◌, ◌≤◌, Bool, true, false, cond, List, [], ◌∷◌, ◌++◌, length, take, refl, sym, ap, ◌∙◌, subst, arith, append_assoc, if◌then◌else◌}
use Rattle.std.specs.List.{AllPass, onto_first, join_with_byte}
use Rattle.std.proofs.lemmas.Bool.Decides.{nat_tests}
use Rattle.std.proofs.lemmas.List.{take_all}
use Rattle.std.proofs.lemmas.List.Elements.{All-head, All-tail}
use Rattle.std.proofs.lemmas.List.Splits.{join_with_byte-slice_split}
use Rattle.history.specs.Limits.{is_line_feed}
use Rattle.plugin_text.specs.Lines.{parts, fits, IsLongAfter, IsRest}
use Rattle.plugin_text.proofs.LongLemmas.{AllPass-prefix}
use Rattle.plugin_text.proofs.PartsLemmas.{parts_first}
use Rattle.plugin_runner.specs.Bytes.{bytes, bytes_of, IsPrefix}
use Rattle.plugin_runner.specs.Course.{said_in}
use Rattle.plugin_runner.specs.Looking.{beats_begun}
use Rattle.plugin_runner.specs.Steps.{IsPlain}
use Rattle.plugin_runner.specs.Text.{Origin, Text, said, Open, Closed, put, after, disables, hear}
use Rattle.plugin_runner.proofs.StepLemmas.{IsBehind, behind-self, prefix-trans, le-self, le-trans, grows-put}
use Rattle.plugin_runner.proofs.LinesLemmas.{after-append}

fits-head : (x : List ℕ) (xs : List (List ℕ)) → AllPass fits (x ∷ xs) → fits x ≡ true
fits-head x xs short = All-head (λ part. fits part ≡ true) x xs short

fits-tail : (x : List ℕ) (xs : List (List ℕ)) → AllPass fits (x ∷ xs) → AllPass fits xs
fits-tail x xs short = All-tail (λ part. fits part ≡ true) x xs short

fits-last : (xs : List (List ℕ)) (x : List ℕ) (ys : List (List ℕ)) → AllPass fits (xs ++ x ∷ ys) → fits x ≡ true
fits-last [] x ys short = fits-head x ys short
fits-last (y ∷ xs) x ys short = fits-last xs x ys (fits-tail y (xs ++ x ∷ ys) short)

-- a text has these lines, and maybe more
abbrev pub IsIn : List (List ℕ) → Text → Type 0
IsIn past whole = IsPrefix (bytes past) (bytes_of whole) × (beats_begun (said past) ≤ beats_begun (said_in whole))

in-open : (past : List (List ℕ)) → IsIn past (Open past)
in-open past = behind-self past

in-closed : (past : List (List ℕ)) (tail : List ℕ) → IsIn past (Closed past tail)
in-closed past tail = ((tail, refl), le-self (beats_begun (said past)))

in-trans : (past here : List (List ℕ)) (whole : Text) → IsBehind past here → IsIn here whole → IsIn past whole
in-trans past here whole near far = (prefix-trans _ _ _ near.0 far.0, le-trans _ _ _ near.1 far.1)

module _ (o : Origin) (rs : List ℕ) where
  -- a line that is not too long, and is not the last part
  hear-line : (past : List (List ℕ)) (line : List ℕ) (more : List (List ℕ)) (first : List ℕ) (others : List (List ℕ)) → fits line ≡ true
      → hear o rs past (line ∷ (more ++ first ∷ others))
      ≡ (if disables line then Closed (put line o rs past) [] else hear o rs (put line o rs past) (more ++ first ∷ others))
  hear-line past line [] first others fit = rw fit refl
  hear-line past line (next ∷ more) first others fit = rw fit refl

  -- lines none of which says DISABLE
  pub hear-lines : (xs : List (List ℕ)) (past : List (List ℕ)) (first : List ℕ) (others : List (List ℕ)) → IsPlain xs → AllPass fits xs
      → hear o rs past (xs ++ first ∷ others) ≡ hear o rs (after xs o rs past) (first ∷ others)
  hear-lines [] past first others plain short = refl
  hear-lines (x ∷ xs) past first others (here, plain) short =
      let step = hear-line past x xs first others (fits-head x xs short) in
      let goes : (if disables x then Closed (put x o rs past) [] else hear o rs (put x o rs past) (xs ++ first ∷ others)) ≡ hear o rs (put x o rs past) (xs ++ first ∷ others) =
      ap (λ (b : Bool). if b then Closed (put x o rs past) [] else hear o rs (put x o rs past) (xs ++ first ∷ others)) here in
      step ∙ goes ∙ hear-lines xs (put x o rs past) first others plain (fits-tail x xs short)

  -- lines, and then one that may say DISABLE
  hear-up_to : (prefix : List (List ℕ)) (last : List ℕ) (more : List (List ℕ)) (past : List (List ℕ)) (first : List ℕ) (others : List (List ℕ)) → IsPlain prefix → AllPass fits (prefix ++ last ∷ more)
      → hear o rs past ((prefix ++ last ∷ more) ++ first ∷ others)
      ≡ (if disables last then Closed (put last o rs (after prefix o rs past)) [] else hear o rs (put last o rs (after prefix o rs past)) (more ++ first ∷ others))
  hear-up_to prefix last more past first others plain short =
      ap (hear o rs past) (append_assoc prefix (last ∷ more) (first ∷ others))
      ∙ hear-lines prefix past last (more ++ first ∷ others) plain (AllPass-prefix fits prefix (last ∷ more) short)
      ∙ hear-line (after prefix o rs past) last more first others (fits-last prefix last more short)

  pub hear-disabled : (prefix : List (List ℕ)) (last : List ℕ) (more : List (List ℕ)) (past : List (List ℕ)) (first : List ℕ) (others : List (List ℕ)) → IsPlain prefix
      → AllPass fits (prefix ++ last ∷ more) → disables last ≡ true → hear o rs past ((prefix ++ last ∷ more) ++ first ∷ others) ≡ Closed (after (prefix ++ last ∷ []) o rs past) []
  hear-disabled prefix last more past first others plain short says =
      let here = put last o rs (after prefix o rs past) in
      hear-up_to prefix last more past first others plain short
      ∙ ap (λ (b : Bool). if b then Closed here [] else hear o rs here (more ++ first ∷ others)) says
      ∙ ap (λ (l : List (List ℕ)). Closed l []) (sym (after-append prefix (last ∷ []) o rs past))

  -- what is heard takes nothing away
  at_rest : (past : List (List ℕ)) (rest : List ℕ) (b : Bool) → IsIn past (if b then Open past else Closed past (take 8193 rest))
  at_rest past rest true = in-open past
  at_rest past rest false = in-closed past (take 8193 rest)

  at_line : (past : List (List ℕ)) (line : List ℕ) (parts' : List (List ℕ)) (b d : Bool) → IsIn (put line o rs past) (hear o rs (put line o rs past) parts')
      → IsIn past (if b then (if d then Closed (put line o rs past) [] else hear o rs (put line o rs past) parts') else Closed past (take 8193 line))
  at_line past line parts' true true later = in-trans past (put line o rs past) (Closed (put line o rs past) []) (grows-put line o rs past) (in-closed (put line o rs past) [])
  at_line past line parts' true false later = in-trans past (put line o rs past) (hear o rs (put line o rs past) parts') (grows-put line o rs past) later
  at_line past line parts' false d later = in-closed past (take 8193 line)

  pub hear-grows : (ps : List (List ℕ)) (past : List (List ℕ)) → IsIn past (hear o rs past ps)
  hear-grows [] past = in-open past
  hear-grows (rest ∷ []) past = at_rest past rest (fits rest)
  hear-grows (line ∷ next ∷ more) past = at_line past line (next ∷ more) (fits line) (disables line) (hear-grows (next ∷ more) (put line o rs past))

  at_last : (here : List (List ℕ)) (ps : List (List ℕ)) (d : Bool) → IsIn here (if d then Closed here [] else hear o rs here ps)
  at_last here ps true = in-closed here []
  at_last here ps false = hear-grows ps here

  pub hear-prefix : (prefix : List (List ℕ)) (last : List ℕ) (more : List (List ℕ)) (past : List (List ℕ)) (first : List ℕ) (others : List (List ℕ)) → IsPlain prefix
      → AllPass fits (prefix ++ last ∷ more) → IsIn (after (prefix ++ last ∷ []) o rs past) (hear o rs past ((prefix ++ last ∷ more) ++ first ∷ others))
  hear-prefix prefix last more past first others plain short =
      let here = put last o rs (after prefix o rs past) in
      subst (λ (l : List (List ℕ)). IsIn l (hear o rs past ((prefix ++ last ∷ more) ++ first ∷ others))) (sym (after-append prefix (last ∷ []) o rs past))
      (subst (λ whole. IsIn here whole) (sym (hear-up_to prefix last more past first others plain short)) (at_last here (more ++ first ∷ others) (disables last)))

  -- the rest of a child that is not too long
  pub hear-rest : (past : List (List ℕ)) (rest : List ℕ) → IsRest rest → hear o rs past (parts rest) ≡ Open past
  hear-rest past rest is =
      ap (hear o rs past) is.no_line_feed ∙ ap (λ (b : Bool). if b then Open past else Closed past (take 8193 rest)) is.short

-- ---- bytes that make a line too long
-- how many bytes these parts have, and one more for each
abbrev total : List (List ℕ) → ℕ
total [] = 0
total (part ∷ others) = length part + 1 + total others

total-append : (xs ys : List (List ℕ)) → total (xs ++ ys) ≡ total xs + total ys
total-append [] ys = omega arith
total-append (x ∷ xs) ys = omega (arith, total-append xs ys)

total-step : (byte : ℕ) (text : List ℕ) (b : Bool) (first : List ℕ) (others : List (List ℕ)) → parts text ≡ first ∷ others → total (parts text) ≡ length text + 1
    → total (cond b ([] ∷ parts text) (onto_first byte (parts text))) ≡ length text + 1 + 1
total-step byte text true first others e count = omega (arith, count)
total-step byte text false first others e count =
    let one : total (onto_first byte (parts text)) ≡ total ((byte ∷ first) ∷ others) = ap (λ (l : List (List ℕ)). total (onto_first byte l)) e in
    let two : total (parts text) ≡ total (first ∷ others) = ap total e in
    omega (arith, one, two, count)

total-parts : (text : List ℕ) → total (parts text) ≡ length text + 1
total-parts [] = refl
total-parts (byte ∷ text) =
    let some = parts_first text in
    let step = total-step byte text (is_line_feed byte) some.0 some.1 some.2 (total-parts text) in
    omega (arith, step)

one_part : (text long : List ℕ) → parts text ≡ long ∷ [] → long ≡ text
one_part text long e = sym (ap (join_with_byte 10) e) ∙ join_with_byte-slice_split 10 text

-- so many bytes with a part that is too long are this part
pub alone : (text : List ℕ) (handed : List (List ℕ)) → IsLongAfter text handed → length text ≤ 8193 → (parts text ≡ text ∷ []) × (length text ≡ 8193) × (fits text ≡ false)
alone text handed h size = at_prefix handed h.more h.whole
  where
    long_size : 8192 < length h.long
    long_size = grind (arith, nat_tests, h.too_long)

    at_prefix : (prefix more : List (List ℕ)) → parts text ≡ prefix ++ h.long ∷ more → (parts text ≡ text ∷ []) × (length text ≡ 8193) × (fits text ≡ false)
    at_prefix [] [] e =
        let same = one_part text h.long e in
        let size_is : length text ≡ 8193 = omega (arith, size, long_size, ap length same) in
        (e ∙ ap (λ (l : List ℕ). l ∷ []) same, size_is, subst (λ l. fits l ≡ false) same h.too_long)
    at_prefix [] (next ∷ more) e =
        let count : total (h.long ∷ next ∷ more) ≡ length text + 1 = sym (ap total e) ∙ total-parts text in
        let never : ⊥ = omega (arith, count, long_size, size) in
        absurd never
    at_prefix (x ∷ prefix) more e =
        let count : total (x ∷ (prefix ++ h.long ∷ more)) ≡ length text + 1 = sym (ap total e) ∙ total-parts text in
        let split = total-append prefix (h.long ∷ more) in
        let never : ⊥ = omega (arith, count, split, long_size, size) in
        absurd never

pub hear-long : (o : Origin) (rs : List ℕ) (past : List (List ℕ)) (text : List ℕ) (handed : List (List ℕ)) → IsLongAfter text handed → length text ≤ 8193
    → hear o rs past (parts text) ≡ Closed past text
hear-long o rs past text handed h size =
    let a = alone text handed h size in
    ap (hear o rs past) a.0 ∙ ap (λ (b : Bool). if b then Open past else Closed past (take 8193 text)) a.2 ∙ ap (Closed past) (take_all 8193 text size)
