-- The text of the children that are started, each with all its bytes and its end: what was put is a prefix of it.
use Rattle.std.proofs.Common.{◌≡◌, ℕ, suc, ◌+◌, ◌-◌, ◌==◌, Bool, true, false, List, [], ◌∷◌, ◌++◌, length, map, reverse, take, ℤ, pos, Option, Some, None, Result, Ok, Err, refl, sym, ap, ◌∙◌, subst, arith, if◌then◌else◌}
use Rattle.std.specs.Ordering.{int_eq}
use Rattle.std.proofs.lemmas.Bool.Decides.{Decides-eqb, Decides-int_eq}
use Rattle.std.proofs.lemmas.List.{length-map, map-append, reverse-append, reverse-reverse}
use Rattle.host_model.specs.Spawner.{Child, with_bytes}
use Rattle.plugin_text.specs.Lines.{parts, lines, rest, fits}
use Rattle.plugin_text.proofs.PartsLemmas.{parts_first, parts_whole, parts-append_parts}
use Rattle.plugin_runner.specs.declared.fault.RunFault.{RunFault}
use Rattle.plugin_runner.specs.declared.fault.RunFault.TheVariants as fault
use Rattle.plugin_runner.specs.declared.fault.Turn.{Turn}
use Rattle.plugin_runner.specs.declared.fault.Turn.TheVariants.{Ended}
use Rattle.plugin_runner.specs.Bytes.{bytes_of, IsPrefix}
use Rattle.plugin_runner.specs.Course.{Course, IsTold, answer_after, answer_at_end}
use Rattle.plugin_runner.specs.Run.{heard_whole, started, whole_children}
use Rattle.plugin_runner.specs.Text.{Origin, Text, Open, Closed, Heard, hear, at_end, with_child, text, put, disables}
use Rattle.plugin_runner.proofs.HearLemmas.{hear-grows}
use Rattle.plugin_runner.proofs.RunLemmas.{so, hear-closed, closed-rest, reverse-next, EndedAtZero, MayRun, Last, over, within}
use Rattle.plugin_runner.proofs.StepLemmas.{prefix-all, prefix-trans, grows-close}

-- ---- what was put
pub told-prefix : (answer : Option (Result Turn RunFault)) (course : Course) (whole : Text) → IsTold answer course whole → IsPrefix course.told (bytes_of whole)
told-prefix None course whole told = prefix-all course.told (bytes_of whole) (sym told.0)
told-prefix (Some (Ok turn)) course whole told = prefix-all course.told (bytes_of whole) (sym told.0)
told-prefix (Some (Err fault.SpawnFault)) course whole told = prefix-all course.told (bytes_of whole) (sym told.0)
told-prefix (Some (Err fault.PipeFault)) course whole told = prefix-all course.told (bytes_of whole) (sym told.0)
told-prefix (Some (Err (fault.Disabled status))) course whole told = prefix-all course.told (bytes_of whole) (sym told.0)
told-prefix (Some (Err fault.Memory)) course whole told = told.0

-- ---- which children are started

-- those that are started behind one that ends with this status, where so many more may be
abbrev onward : ℤ → ℕ → List Child → List Child
onward status starts others = if int_eq status (pos 0) then started starts others else []

abbrev AreFirst : List Child → Type 0
AreFirst ran = (starts : ℕ) (others : List Child) → started (starts + length ran) (reverse ran ++ others) ≡ reverse ran ++ started starts others

first_next : (ran : List Child) (child : Child) → AreFirst ran → (starts : ℕ) (others : List Child)
    → started (suc starts + length ran) (reverse (child ∷ ran) ++ others) ≡ reverse (child ∷ ran) ++ onward child.status starts others
first_next ran child first starts others =
    ap (started (suc starts + length ran)) (sym (reverse-next ran child others)) ∙ first (suc starts) (child ∷ others) ∙ reverse-next ran child (onward child.status starts others)

first : (ran : List Child) → EndedAtZero ran → AreFirst ran
first [] zeros starts others =
    let size : starts + 0 ≡ starts = omega arith in
    ap (λ (n : ℕ). started n others) size
first (child ∷ ran) zeros starts others =
    let size : starts + length (child ∷ ran) ≡ suc starts + length ran = omega arith in
    ap (λ (n : ℕ). started n (reverse (child ∷ ran) ++ others)) size
    ∙ first_next ran child (first ran zeros.1) starts others
    ∙ ap (λ (b : Bool). reverse (child ∷ ran) ++ (if b then started starts others else [])) ((Decides-int_eq child.status (pos 0)).1 zeros.0)

-- those that are started behind these, the latest of which comes first
abbrev behind : ℕ → List Child → List Child → List Child → List Child
behind starts coming [] others = started starts coming
behind starts coming (child ∷ earlier) others = onward child.status (starts - suc (length earlier)) others

started-is : (starts : ℕ) (coming ran others : List Child) → coming ≡ reverse ran ++ others → MayRun starts ran → started starts coming ≡ reverse ran ++ behind starts coming ran others
started-is starts coming [] others whole may = refl
started-is starts coming (child ∷ earlier) others whole may =
    let left = starts - suc (length earlier) in
    let size : starts ≡ suc left + length earlier = omega (arith, may.0) in
    ap (started starts) whole ∙ ap (λ (n : ℕ). started n (reverse (child ∷ earlier) ++ others)) size ∙ first_next earlier child (first earlier may.1) left others

whole-is : (starts : ℕ) (coming ran more : List Child) → started starts coming ≡ reverse ran ++ more → whole_children starts coming ≡ map heard_whole (reverse more) ++ map heard_whole ran
whole-is starts coming ran more is =
    let back : reverse (reverse ran ++ more) ≡ reverse more ++ ran = reverse-append (reverse ran) more ∙ ap (λ (l : List Child). reverse more ++ l) (reverse-reverse ran) in
    ap (λ (l : List Child). map heard_whole (reverse l)) is ∙ ap (map heard_whole) back ∙ map-append heard_whole (reverse more) ran

-- ---- a text grows with what is heard

abbrev IsPrefixText : Text → Text → Type 0
IsPrefixText one other = IsPrefix (bytes_of one) (bytes_of other)

prefix-same : (one other : Text) → one ≡ other → IsPrefixText one other
prefix-same one other same = prefix-all (bytes_of one) (bytes_of other) (ap bytes_of (sym same))

module _ (o : Origin) (rs : List ℕ) where
  end-grows : (status : Option ℤ) (whole : Text) → IsPrefixText whole (at_end status o rs whole)
  end-grows None whole = prefix-same whole whole refl
  end-grows (Some status) (Open past) = (grows-close o rs past).0
  end-grows (Some status) (Closed past tail) = prefix-same (Closed past tail) (Closed past tail) refl

  child-grows : (child : Heard) (before : Text) → IsPrefixText before (with_child child o rs before)
  child-grows child (Closed past tail) = prefix-same (Closed past tail) (Closed past tail) refl
  child-grows child (Open past) = prefix-trans _ _ _ (hear-grows o rs (parts child.bytes) past).0 (end-grows child.status (hear o rs past (parts child.bytes)))

  text-grows : (more earlier : List Heard) → IsPrefixText (text o rs earlier) (text o rs (more ++ earlier))
  text-grows [] earlier = prefix-same (text o rs earlier) (text o rs earlier) refl
  text-grows (child ∷ more) earlier = prefix-trans _ _ _ (text-grows more earlier) (child-grows child (text o rs (more ++ earlier)))

  text-closed : (p : List (List ℕ)) (t : List ℕ) (more earlier : List Heard) → text o rs earlier ≡ Closed p t → text o rs (more ++ earlier) ≡ Closed p t
  text-closed p t [] earlier is = is
  text-closed p t (child ∷ more) earlier is = ap (with_child child o rs) (text-closed p t more earlier is)

  -- ---- a child that writes more
  rest-grows : (past : List (List ℕ)) (r first : List ℕ) (following : List (List ℕ)) (b : Bool) → fits r ≡ b
      → IsPrefixText (if b then Open past else Closed past (take 8193 r)) (hear o rs past ((r ++ first) ∷ following))
  rest-grows past r first following true fit = (hear-grows o rs ((r ++ first) ∷ following) past).0
  rest-grows past r first following false fit =
      prefix-same (Closed past (take 8193 r)) (hear o rs past ((r ++ first) ∷ following)) (sym (closed-rest o rs past (take 8193 r) past r first following false fit refl))

  line-grows : (past : List (List ℕ)) (line : List ℕ) (b d : Bool) (one other : Text) → IsPrefixText one other
      → IsPrefixText (if b then (if d then Closed (put line o rs past) [] else one) else Closed past (take 8193 line)) (if b then (if d then Closed (put line o rs past) [] else other) else Closed past (take 8193 line))
  line-grows past line true true one other grows = prefix-same (Closed (put line o rs past) []) (Closed (put line o rs past) []) refl
  line-grows past line true false one other grows = grows
  line-grows past line false d one other grows = prefix-same (Closed past (take 8193 line)) (Closed past (take 8193 line)) refl

  lines-grow : (xs : List (List ℕ)) (past : List (List ℕ)) (r first : List ℕ) (following : List (List ℕ)) → IsPrefixText (hear o rs past (xs ++ r ∷ [])) (hear o rs past (xs ++ (r ++ first) ∷ following))
  lines-grow [] past r first following = rest-grows past r first following (fits r) refl
  lines-grow (x ∷ []) past r first following = line-grows past x (fits x) (disables x) _ _ (rest-grows (put x o rs past) r first following (fits r) refl)
  lines-grow (x ∷ y ∷ xs) past r first following = line-grows past x (fits x) (disables x) _ _ (lines-grow (y ∷ xs) (put x o rs past) r first following)

  hear-more : (past : List (List ℕ)) (heard more : List ℕ) → IsPrefixText (hear o rs past (parts heard)) (hear o rs past (parts (heard ++ more)))
  hear-more past heard more =
      let some = parts_first more in
      subst (λ (ps : List (List ℕ)). IsPrefixText (hear o rs past ps) (hear o rs past (parts (heard ++ more)))) (sym (parts_whole heard))
      (subst (λ (ps : List (List ℕ)). IsPrefixText (hear o rs past (lines heard ++ rest heard ∷ [])) (hear o rs past ps)) (sym (parts-append_parts heard more some.0 some.1 some.2))
      (lines-grow (lines heard) past (rest heard) some.0 some.1))

  rest-of-child : (bytes : List ℕ) (child : Child) (before : Text) → IsPrefixText (with_child (so bytes None) o rs before) (with_child (heard_whole (with_bytes bytes child)) o rs before)
  rest-of-child bytes child (Closed past tail) = prefix-same (Closed past tail) (Closed past tail) refl
  rest-of-child bytes child (Open past) = prefix-trans _ _ _ (hear-more past bytes child.left) (end-grows (Some child.status) (hear o rs past (parts (bytes ++ child.left))))

  closed-child : (p : List (List ℕ)) (t bytes : List ℕ) (child : Child) (before : Text) → with_child (so bytes None) o rs before ≡ Closed p t → with_child (heard_whole (with_bytes bytes child)) o rs before ≡ Closed p t
  closed-child p t bytes child (Closed past tail) is = is
  closed-child p t bytes child (Open past) is = ap (at_end (Some child.status) o rs) (hear-closed o rs p t past bytes child.left is)

  -- ---- the text of all that are started
  module _ (coming : List Child) (starts : ℕ) where
    abbrev all_of : List Heard
    all_of = whole_children starts coming

    abbrev IsPrefixOfAll : List Heard → Type 0
    IsPrefixOfAll heard = IsPrefixText (text o rs heard) (text o rs all_of)

    ran-prefix : (ran others : List Child) → coming ≡ reverse ran ++ others → MayRun starts ran → IsPrefixOfAll (map heard_whole ran)
    ran-prefix ran others whole may =
        let more = behind starts coming ran others in
        subst (λ (l : List Heard). IsPrefixText (text o rs (map heard_whole ran)) (text o rs l)) (sym (whole-is starts coming ran more (started-is starts coming ran others whole may)))
        (text-grows (map heard_whole (reverse more)) (map heard_whole ran))

    pub last-prefix : (heard : List Heard) → Last coming starts heard → IsPrefixOfAll heard
    last-prefix heard (over ran others is whole may) = subst IsPrefixOfAll (sym is) (ran-prefix ran others whole may)
    last-prefix heard (within ran others child bytes is whole may) =
        let here = with_bytes bytes child in
        subst IsPrefixOfAll (sym is)
        (prefix-trans _ _ _ (rest-of-child bytes child (text o rs (map heard_whole ran))) (ran-prefix (here ∷ ran) others (whole ∙ reverse-next ran here others) may))

    -- ---- at an end of the text
    abbrev AreAll : Result Turn RunFault → List Heard → Type 0
    AreAll ending heard = (text o rs heard ≡ text o rs all_of) × (answer_after starts (text o rs all_of) all_of ≡ Some ending)

    closed-answer : (p : List (List ℕ)) (t : List ℕ) (one other : List Heard) → answer_after starts (Closed p t) one ≡ answer_after starts (Closed p t) other
    closed-answer p [] one other = refl
    closed-answer p (byte ∷ tail) one other = refl

    ran-closed : (p : List (List ℕ)) (t : List ℕ) (ran others : List Child) → coming ≡ reverse ran ++ others → MayRun starts ran → text o rs (map heard_whole ran) ≡ Closed p t → text o rs all_of ≡ Closed p t
    ran-closed p t ran others whole may is =
        let more = behind starts coming ran others in
        ap (text o rs) (whole-is starts coming ran more (started-is starts coming ran others whole may)) ∙ text-closed p t (map heard_whole (reverse more)) (map heard_whole ran) is

    last-closed : (p : List (List ℕ)) (t : List ℕ) (heard : List Heard) → Last coming starts heard → text o rs heard ≡ Closed p t → text o rs all_of ≡ Closed p t
    last-closed p t heard (over ran others is whole may) closed = ran-closed p t ran others whole may (ap (text o rs) (sym is) ∙ closed)
    last-closed p t heard (within ran others child bytes is whole may) closed =
        let here = with_bytes bytes child in
        ran-closed p t (here ∷ ran) others (whole ∙ reverse-next ran here others) may
        (closed-child p t bytes child (text o rs (map heard_whole ran)) (ap (text o rs) (sym is) ∙ closed))

    none-behind : (child : Child) (earlier others : List Child) (count : ℕ) (ending : Result Turn RunFault) → count ≡ length (child ∷ earlier) → answer_at_end (Some child.status) starts count ≡ Some ending
        → behind starts coming (child ∷ earlier) others ≡ []
    none-behind child earlier others count ending size answer = by (int_eq child.status (pos 0)) (count == starts) refl answer
      where
        by : (z c : Bool) → (count == starts) ≡ c → (if z then (if c then Some (Ok Ended) else None) else Some (Err (fault.Disabled (Some child.status)))) ≡ Some ending
            → (if z then started (starts - suc (length earlier)) others else []) ≡ []
        by false c is answer = refl
        by true true is answer =
            let none : starts - suc (length earlier) ≡ 0 = omega (arith, size, (Decides-eqb count starts).0 is) in
            ap (λ (n : ℕ). started n others) none
        by true false is answer =
            let never : None ≡ Some ending = answer in
            absurd (cc never)

    ran-all : (ran others : List Child) → coming ≡ reverse ran ++ others → MayRun starts ran → (past : List (List ℕ)) (ending : Result Turn RunFault) → answer_after starts (Open past) (map heard_whole ran) ≡ Some ending
        → all_of ≡ map heard_whole ran
    ran-all [] others whole may past ending answer =
        let never : None ≡ Some ending = answer in
        absurd (cc never)
    ran-all (child ∷ earlier) others whole may past ending answer =
        let none = none-behind child earlier others (length (map heard_whole (child ∷ earlier))) ending (length-map (child ∷ earlier) heard_whole) answer in
        let all : started starts coming ≡ reverse (child ∷ earlier) ++ [] = started-is starts coming (child ∷ earlier) others whole may ∙ ap (λ (l : List Child). reverse (child ∷ earlier) ++ l) none in
        whole-is starts coming (child ∷ earlier) [] all

    last-all : (heard : List Heard) → Last coming starts heard → (past : List (List ℕ)) (ending : Result Turn RunFault) → answer_after starts (Open past) heard ≡ Some ending → all_of ≡ heard
    last-all heard (over ran others is whole may) past ending answer =
        ran-all ran others whole may past ending (subst (λ (h : List Heard). answer_after starts (Open past) h ≡ Some ending) is answer) ∙ sym is
    last-all heard (within ran others child bytes is whole may) past ending answer =
        let never : None ≡ Some ending = subst (λ (h : List Heard). answer_after starts (Open past) h ≡ Some ending) is answer in
        absurd (cc never)

    pub last-whole : (heard : List Heard) → Last coming starts heard → (ending : Result Turn RunFault) → answer_after starts (text o rs heard) heard ≡ Some ending → AreAll ending heard
    last-whole heard last ending answer = by (text o rs heard) refl answer
      where
        by : (whole : Text) → text o rs heard ≡ whole → answer_after starts whole heard ≡ Some ending → AreAll ending heard
        by (Closed p t) is answer =
            let all = last-closed p t heard last is in
            (is ∙ sym all, ap (λ w. answer_after starts w all_of) all ∙ closed-answer p t all_of heard ∙ answer)
        by (Open past) is answer =
            let all = last-all heard last past ending answer in
            (ap (text o rs) (sym all), ap (λ h. answer_after starts (text o rs h) h) all ∙ ap (λ w. answer_after starts w heard) is ∙ answer)
