-- What `clap` finds of the words of a command line is the command that they give.
use Rattle.std.proofs.Common.{◌≡◌, ◌∙◌, ◌<◌, ◌≤◌, ◌⊎◌, ◌&&◌, ◌||◌, ◌==◌, ℕ, Bool, true, false, refl, sym, ap, subst, arith, List, [], ◌∷◌, length, Option, Some, None, Result, Ok, IfOk, inl, inr, codes, true≢false, nat_lt}
use Rattle.std.proofs.lemmas.Bool.Decides.{nat_tests}
use Rattle.std.proofs.lemmas.Slice.Eq.{bytes_eq-Decides}
use Rattle.std.specs.Prelude.{if◌then◌else◌, map, nat_le, slice_index_or}
use Rattle.std.specs.List.{list_any}
use Rattle.std.specs.Option.{option_map, option_and_then}
use Rattle.std.specs.Str.{bytes_eq}
use Rattle.fixed_num.specs.UnitsText.{is_numeral}
use Rattle.clap.specs.Lexer.{usize_max}
use Rattle.clap.specs.Kinds.{HasKind, IsAmong, Kinds, range_kinds}
use Rattle.clap.proofs.WalkLemmas.{raw_values-rows}
use Rattle.clap.specs.Matches.{matched_of, raw_values}
use Rattle.clap.specs.Values.{kind_of}
use Rattle.clap.specs.Walk.{Text, rows_of}
use Rattle.clap.specs.declared.parser.matches.Found.{Found}
use Rattle.clap.specs.declared.error.Error.{Error}
use Rattle.clap.specs.Simple.{subcommand_of}
use Rattle.clap.specs.Faults.{fault_of}
use Rattle.clap.specs.declared.error.kind.ErrorKind.{ErrorKind}
use Rattle.clap.specs.declared.error.kind.ErrorKind.TheVariants as kind
use Rattle.agent_app.specs.Command.{addressed, collect_of, command_of, form_named, form_of, is_option, number_of, plan_of, plan_with, quota_of, up_to}
use Rattle.agent_app.specs.Forms.{addressed_in, collect_in, command_in, form_in, forms, plan_in}
use Rattle.tier_settings.specs.declared.limits.TheConstants.{MOST_ITEMS}
use Rattle.history.specs.declared.limits.TheConstants.{UPDATE_EVERY_LIMIT}
use Rattle.agent_app.specs.declared.command.TheConstants.{STARTS_LIMIT}
use Rattle.agent_app.specs.declared.command.Command.{Command}
use Rattle.agent_app.specs.declared.command.Command.TheVariants.{Collect, New, Query, Receive, Send}
use Rattle.agent_app.proofs.FormLemmas.{or_false, leaf_fault, leaf_missing, leaf_rows, alone_fault, stray_word, collect_fault, convert_fault, health_fault, log_fault, new_fault, query_fault, receive_fault, run_fault, send_fault, collect_rows, convert_rows, health_rows, log_rows, new_rows, query_rows, receive_rows, run_rows, send_rows, unknown_fault, empty_fault}

cons≢nil : (k : ErrorKind) (ks : Kinds) → k ∷ ks ≡ [] → ⊥
cons≢nil k ks e = true≢false (ap some e)
  where
    some : Kinds → Bool
    some [] = false
    some (x ∷ xs) = true

flip : (x y : Text) (b : Bool) → bytes_eq x y ≡ b → bytes_eq y x ≡ b
flip x y true e = (bytes_eq-Decides y x).1 (sym ((bytes_eq-Decides x y).0 e))
flip x y false e = other (bytes_eq y x) refl
  where
    other : (b : Bool) → bytes_eq y x ≡ b → b ≡ false
    other true is = absurd (true≢false (sym ((bytes_eq-Decides x y).1 (sym ((bytes_eq-Decides y x).0 is))) ∙ e))
    other false is = refl

-- ---- how many words

fits_7 : (n : ℕ) → 0 < n → n ≤ 7 → range_kinds 1 7 n ≡ []
fits_7 n some most =
    let a : (n == 0) ≡ false = grind (arith, nat_tests) in
    let b : nat_lt n 1 ≡ false = grind (arith, nat_tests) in
    let c : nat_lt 7 n ≡ false = grind (arith, nat_tests) in
    rw (a, b, c) refl

past_7 : (n : ℕ) (k : ErrorKind) (ks : Kinds) → 0 < n → range_kinds 1 7 n ≡ k ∷ ks → 7 < n
past_7 n k ks some is = by (nat_lt 7 n) refl
  where
    by : (b : Bool) → nat_lt 7 n ≡ b → 7 < n
    by true e = grind (arith, nat_tests)
    by false e = absurd (cons≢nil k ks (sym is ∙ fits_7 n some (grind (arith, nat_tests))))

few : (least n : ℕ) → nat_lt 0 least ≡ true → (least == usize_max) ≡ false → 0 < n → nat_lt n least ≡ true → range_kinds least usize_max n ≡ kind.TooFewValues ∷ []
few least n any apart some less =
    let a : (n == 0) ≡ false = grind (arith, nat_tests) in
    rw (a, any, apart, less) refl

enough : (least n : ℕ) → nat_lt 0 least ≡ true → (least == usize_max) ≡ false → 0 < n → n ≤ usize_max → nat_lt n least ≡ false → range_kinds least usize_max n ≡ []
enough least n any apart some most less =
    let a : (n == 0) ≡ false = grind (arith, nat_tests) in
    let b : nat_lt usize_max n ≡ false = grind (arith, nat_tests) in
    rw (a, any, apart, less, b) refl

some_fit : (n : ℕ) → 0 < n → n ≤ usize_max → range_kinds 1 usize_max n ≡ []
some_fit n some most =
    let a : (n == 0) ≡ false = grind (arith, nat_tests) in
    let b : nat_lt n 1 ≡ false = grind (arith, nat_tests) in
    let c : nat_lt usize_max n ≡ false = grind (arith, nat_tests) in
    rw (a, b, c) refl

pub plan-past : (words : List Text) → 7 < length words → plan_of words ≡ None
plan-past [] past = refl
plan-past (a ∷ []) past = absurd (omega arith)
plan-past (a ∷ b ∷ []) past = refl
plan-past (a ∷ b ∷ c ∷ []) past = refl
plan-past (a ∷ b ∷ c ∷ d ∷ []) past = refl
plan-past (a ∷ b ∷ c ∷ d ∷ e ∷ []) past = refl
plan-past (a ∷ b ∷ c ∷ d ∷ e ∷ f ∷ []) past = refl
plan-past (a ∷ b ∷ c ∷ d ∷ e ∷ f ∷ g ∷ []) past = absurd (omega arith)
plan-past (a ∷ b ∷ c ∷ d ∷ e ∷ f ∷ g ∷ h ∷ more) past = refl

pub collect-read : {B : Type 0} (f : B → Text) (words : List B) (d : B) (every starts : ℕ) → 2 < length words
    → option_and_then (up_to UPDATE_EVERY_LIMIT) (number_of (f (slice_index_or words 0 d))) ≡ Some every
    → option_and_then (up_to STARTS_LIMIT) (number_of (f (slice_index_or words 1 d))) ≡ Some starts → Some (Collect every starts) ≡ collect_of (map f words)
collect-read f [] d every starts three e s = absurd (omega (arith, three))
collect-read f (a ∷ []) d every starts three e s = absurd (omega (arith, three))
collect-read f (a ∷ b ∷ []) d every starts three e s = absurd (omega (arith, three))
collect-read f (a ∷ b ∷ c ∷ more) d every starts three e s = rw (e, s) refl

pub collect-short : (words : List Text) → length words < 3 → collect_of words ≡ None
collect-short [] few = refl
collect-short (a ∷ []) few = refl
collect-short (a ∷ b ∷ []) few = refl
collect-short (a ∷ b ∷ c ∷ more) few = absurd (omega (arith, few))

-- ---- each command

abbrev Agrees : List Text → Type 0
Agrees words = (fault_of forms words ≡ [] → command_in (subcommand_of forms words) ≡ command_of words)
    × ((k : ErrorKind) (ks : Kinds) → fault_of forms words ≡ k ∷ ks → command_of words ≡ None)

-- words that `clap` takes
taken : (words : List Text) → fault_of forms words ≡ [] → command_in (subcommand_of forms words) ≡ command_of words → Agrees words
taken words passes same = (λ e. same, λ k ks e. absurd (cons≢nil k ks (sym e ∙ passes)))

-- words that it refuses
refused : (words : List Text) (k : ErrorKind) (ks : Kinds) → fault_of forms words ≡ k ∷ ks → command_of words ≡ None → Agrees words
refused words k ks fails none = (λ e. absurd (cons≢nil k ks (sym fails ∙ e)), λ _ _ _. none)

agrees-collect : (more : List Text) → length more ≤ usize_max → list_any is_option more ≡ false → Agrees (codes "collect" ∷ more)
agrees-collect [] most plain = refused _ _ _ (collect_fault [] ∙ leaf_missing 3 usize_max refl (codes "collect")) refl
agrees-collect (w ∷ more) most plain = by (nat_lt (length (w ∷ more)) 3) refl
  where
    fault : fault_of forms (codes "collect" ∷ w ∷ more) ≡ range_kinds 3 usize_max (length (w ∷ more))
    fault = collect_fault (w ∷ more) ∙ leaf_fault 3 usize_max refl (codes "collect") w more plain

    by : (b : Bool) → nat_lt (length (w ∷ more)) 3 ≡ b → Agrees (codes "collect" ∷ w ∷ more)
    by true less = refused _ _ _ (fault ∙ few 3 (length (w ∷ more)) refl refl (omega arith) less) (rw (plain, collect-short (w ∷ more) (grind (arith, nat_tests))) refl)
    by false less = taken _ (fault ∙ enough 3 (length (w ∷ more)) refl refl (omega arith) most less) (rw (collect_rows (w ∷ more), leaf_rows 3 usize_max refl w more plain, plain) refl)

agrees-convert : (more : List Text) → list_any is_option more ≡ false → Agrees (codes "convert" ∷ more)
agrees-convert [] plain = taken _ (convert_fault [] ∙ alone_fault (codes "convert")) (rw (convert_rows []) refl)
agrees-convert (w ∷ more) plain = refused _ _ _ (convert_fault (w ∷ more) ∙ stray_word (codes "convert") w more (or_false (is_option w) (list_any is_option more) plain).0) refl

agrees-run : (more : List Text) → list_any is_option more ≡ false → Agrees (codes "run" ∷ more)
agrees-run [] plain = taken _ (run_fault [] ∙ alone_fault (codes "run")) (rw (run_rows []) refl)
agrees-run (w ∷ more) plain = refused _ _ _ (run_fault (w ∷ more) ∙ stray_word (codes "run") w more (or_false (is_option w) (list_any is_option more) plain).0) refl

agrees-health : (more : List Text) → list_any is_option more ≡ false → Agrees (codes "health" ∷ more)
agrees-health [] plain = taken _ (health_fault [] ∙ alone_fault (codes "health")) (rw (health_rows []) refl)
agrees-health (w ∷ more) plain = refused _ _ _ (health_fault (w ∷ more) ∙ stray_word (codes "health") w more (or_false (is_option w) (list_any is_option more) plain).0) refl

agrees-log : (more : List Text) → length more ≤ usize_max → list_any is_option more ≡ false → Agrees (codes "log" ∷ more)
agrees-log [] most plain = refused _ _ _ (log_fault [] ∙ leaf_missing 1 usize_max refl (codes "log")) refl
agrees-log (w ∷ more) most plain =
    taken _ (log_fault (w ∷ more) ∙ leaf_fault 1 usize_max refl (codes "log") w more plain ∙ some_fit (length (w ∷ more)) (omega arith) most)
    (rw (log_rows (w ∷ more), leaf_rows 1 usize_max refl w more plain) refl)

agrees-new : (more : List Text) → list_any is_option more ≡ false → Agrees (codes "new" ∷ more)
agrees-new [] plain = refused _ _ _ (new_fault [] ∙ leaf_missing 1 7 refl (codes "new")) refl
agrees-new (w ∷ more) plain =
    let fault : fault_of forms (codes "new" ∷ w ∷ more) ≡ range_kinds 1 7 (length (w ∷ more)) = new_fault (w ∷ more) ∙ leaf_fault 1 7 refl (codes "new") w more plain in (
      λ e. rw (new_rows (w ∷ more), leaf_rows 1 7 refl w more plain) refl,
      λ k ks e. ap (option_map New) (plan-past (w ∷ more) (past_7 (length (w ∷ more)) k ks (omega arith) (sym fault ∙ e))),
    )

agrees-query : (more : List Text) → length more ≤ usize_max → list_any is_option more ≡ false → Agrees (codes "query" ∷ more)
agrees-query [] most plain = refused _ _ _ (query_fault [] ∙ leaf_missing 5 usize_max refl (codes "query")) refl
agrees-query (w ∷ more) most plain = by (nat_lt (length (w ∷ more)) 5) refl
  where
    fault : fault_of forms (codes "query" ∷ w ∷ more) ≡ range_kinds 5 usize_max (length (w ∷ more))
    fault = query_fault (w ∷ more) ∙ leaf_fault 5 usize_max refl (codes "query") w more plain

    by : (b : Bool) → nat_lt (length (w ∷ more)) 5 ≡ b → Agrees (codes "query" ∷ w ∷ more)
    by true less =
        let short : nat_le 5 (length (w ∷ more)) ≡ false = grind (arith, nat_tests) in
        refused _ _ _ (fault ∙ few 5 (length (w ∷ more)) refl refl (omega arith) less) (rw short refl)
    by false less =
        let long : nat_le 5 (length (w ∷ more)) ≡ true = grind (arith, nat_tests) in
        taken _ (fault ∙ enough 5 (length (w ∷ more)) refl refl (omega arith) most less) (rw (query_rows (w ∷ more), long, plain) refl)

agrees-receive : (more : List Text) → length more ≤ usize_max → list_any is_option more ≡ false → Agrees (codes "receive" ∷ more)
agrees-receive [] most plain = refused _ _ _ (receive_fault [] ∙ leaf_missing 1 usize_max refl (codes "receive")) refl
agrees-receive (w ∷ more) most plain =
    taken _ (receive_fault (w ∷ more) ∙ leaf_fault 1 usize_max refl (codes "receive") w more plain ∙ some_fit (length (w ∷ more)) (omega arith) most)
    (rw (receive_rows (w ∷ more), leaf_rows 1 usize_max refl w more plain, plain) refl)

agrees-send : (more : List Text) → length more ≤ usize_max → list_any is_option more ≡ false → Agrees (codes "send" ∷ more)
agrees-send [] most plain = refused _ _ _ (send_fault [] ∙ leaf_missing 1 usize_max refl (codes "send")) refl
agrees-send (w ∷ more) most plain =
    taken _ (send_fault (w ∷ more) ∙ leaf_fault 1 usize_max refl (codes "send") w more plain ∙ some_fit (length (w ∷ more)) (omega arith) most)
    (rw (send_rows (w ∷ more), leaf_rows 1 usize_max refl w more plain, plain) refl)

module _ (w : Text) (collect : bytes_eq (codes "collect") w ≡ false) (convert : bytes_eq (codes "convert") w ≡ false) (health : bytes_eq (codes "health") w ≡ false) (log : bytes_eq (codes "log") w ≡ false)
    (new : bytes_eq (codes "new") w ≡ false) (query : bytes_eq (codes "query") w ≡ false) (receive : bytes_eq (codes "receive") w ≡ false) (run : bytes_eq (codes "run") w ≡ false)
    (send : bytes_eq (codes "send") w ≡ false) where
  unknown : (more : List Text) → command_of (w ∷ more) ≡ None
  unknown [] = rw (flip (codes "convert") w false convert, flip (codes "health") w false health, flip (codes "run") w false run) refl
  unknown (next ∷ more) =
      rw (flip (codes "collect") w false collect, flip (codes "log") w false log, flip (codes "new") w false new, flip (codes "query") w false query, flip (codes "receive") w false receive, flip (codes "send") w false send) refl

pub agrees : (words : List Text) → length words ≤ usize_max → list_any is_option words ≡ false → Agrees words
agrees [] most plain = refused _ _ _ empty_fault refl
agrees (w ∷ more) most plain =
    by (bytes_eq (codes "collect") w) (bytes_eq (codes "convert") w) (bytes_eq (codes "health") w) (bytes_eq (codes "log") w) (bytes_eq (codes "new") w) (bytes_eq (codes "query") w) (bytes_eq (codes "receive") w)
    (bytes_eq (codes "run") w) (bytes_eq (codes "send") w) refl refl refl refl refl refl refl refl refl
  where
    each : (is_option w ≡ false) × (list_any is_option more ≡ false)
    each = or_false (is_option w) (list_any is_option more) plain

    named : (name : Text) → bytes_eq name w ≡ true → Agrees (name ∷ more) → Agrees (w ∷ more)
    named name is h = subst (λ (x : Text). Agrees (x ∷ more)) ((bytes_eq-Decides name w).0 is) h

    by : (a b c d e f g h i : Bool) → bytes_eq (codes "collect") w ≡ a → bytes_eq (codes "convert") w ≡ b → bytes_eq (codes "health") w ≡ c → bytes_eq (codes "log") w ≡ d → bytes_eq (codes "new") w ≡ e
        → bytes_eq (codes "query") w ≡ f → bytes_eq (codes "receive") w ≡ g → bytes_eq (codes "run") w ≡ h → bytes_eq (codes "send") w ≡ i → Agrees (w ∷ more)
    by true b c d e f g h i collect convert health log new query receive run send = named (codes "collect") collect (agrees-collect more (omega arith) each.1)
    by false true c d e f g h i collect convert health log new query receive run send = named (codes "convert") convert (agrees-convert more each.1)
    by false false true d e f g h i collect convert health log new query receive run send = named (codes "health") health (agrees-health more each.1)
    by false false false true e f g h i collect convert health log new query receive run send = named (codes "log") log (agrees-log more (omega arith) each.1)
    by false false false false true f g h i collect convert health log new query receive run send = named (codes "new") new (agrees-new more each.1)
    by false false false false false true g h i collect convert health log new query receive run send = named (codes "query") query (agrees-query more (omega arith) each.1)
    by false false false false false false true h i collect convert health log new query receive run send = named (codes "receive") receive (agrees-receive more (omega arith) each.1)
    by false false false false false false false true i collect convert health log new query receive run send = named (codes "run") run (agrees-run more each.1)
    by false false false false false false false false true collect convert health log new query receive run send = named (codes "send") send (agrees-send more (omega arith) each.1)
    by false false false false false false false false false collect convert health log new query receive run send =
        refused _ _ _ (unknown_fault w more each.0 collect convert health log new query receive run send) (unknown w collect convert health log new query receive run send more)

-- ---- a word that begins with `-`

is_45 : (x : ℕ) → (x == 45) ≡ true → x ≡ 45
is_45 x e = grind (arith, nat_tests)

no_number : (w : Text) → is_option w ≡ true → number_of w ≡ None
no_number [] e = absurd (true≢false (sym e))
no_number (x ∷ xs) e =
    let digits : is_numeral (45 ∷ xs) ≡ false = and_false _ in
    subst (λ (y : ℕ). number_of (y ∷ xs) ≡ None) (sym (is_45 x e)) (rw digits refl)
  where
    and_false : (b : Bool) → (b && false) ≡ false
    and_false true = refl
    and_false false = refl

nothing_then : {X Y : Type 0} (f : X → Option Y) (o : Option X) → ((x : X) → f x ≡ None) → option_and_then f o ≡ None
nothing_then f None none = refl
nothing_then f (Some x) none = none x

no_items : (items extents : Text) → is_option items ≡ true → quota_of items extents ≡ None
no_items items extents e = rw (no_number items e) refl

no_extents : (items extents : Text) → is_option extents ≡ true → quota_of items extents ≡ None
no_extents items extents e = rw (no_number extents e) (nothing_then _ (option_and_then (up_to MOST_ITEMS) (number_of items)) (λ i. refl))

no_quota : (items extents : Text) → (is_option items || is_option extents) ≡ true → quota_of items extents ≡ None
no_quota items extents e = by (is_option items) refl e
  where
    by : (b : Bool) → is_option items ≡ b → (b || is_option extents) ≡ true → quota_of items extents ≡ None
    by true is h = no_items items extents is
    by false is h = no_extents items extents h

without_quota0 : (id : Option ℕ) (quota1 quota2 : Option (ℕ × ℕ)) → plan_with id None quota1 quota2 ≡ None
without_quota0 None quota1 quota2 = refl
without_quota0 (Some id) quota1 quota2 = refl

without_quota1 : (id : Option ℕ) (quota0 quota2 : Option (ℕ × ℕ)) → plan_with id quota0 None quota2 ≡ None
without_quota1 None quota0 quota2 = refl
without_quota1 (Some id) None quota2 = refl
without_quota1 (Some id) (Some quota0) quota2 = refl

without_quota2 : (id : Option ℕ) (quota0 quota1 : Option (ℕ × ℕ)) → plan_with id quota0 quota1 None ≡ None
without_quota2 None quota0 quota1 = refl
without_quota2 (Some id) None quota1 = refl
without_quota2 (Some id) (Some quota0) None = refl
without_quota2 (Some id) (Some quota0) (Some quota1) = refl

or_last : (b : Bool) → (b || false) ≡ true → b ≡ true
or_last true e = refl
or_last false e = absurd (true≢false (sym e))

-- one of these words begins with `-`
any_of_7 : (a b c d e f g : Bool) → (a || (b || (c || (d || (e || (f || (g || false))))))) ≡ true → (a ≡ true) ⊎ (((b || c) ≡ true) ⊎ (((d || e) ≡ true) ⊎ ((f || g) ≡ true)))
any_of_7 true b c d e f g is = inl refl
any_of_7 false true c d e f g is = inr (inl refl)
any_of_7 false false true d e f g is = inr (inl refl)
any_of_7 false false false true e f g is = inr (inr (inl refl))
any_of_7 false false false false true f g is = inr (inr (inl refl))
any_of_7 false false false false false true g is = inr (inr (inr refl))
any_of_7 false false false false false false g is = inr (inr (inr (or_last g is)))

no_plan : (words : List Text) → list_any is_option words ≡ true → plan_of words ≡ None
no_plan [] is = refl
no_plan (a ∷ []) is = rw (no_number a (or_last (is_option a) is)) refl
no_plan (a ∷ b ∷ []) is = refl
no_plan (a ∷ b ∷ c ∷ []) is = refl
no_plan (a ∷ b ∷ c ∷ d ∷ []) is = refl
no_plan (a ∷ b ∷ c ∷ d ∷ e ∷ []) is = refl
no_plan (a ∷ b ∷ c ∷ d ∷ e ∷ f ∷ []) is = refl
no_plan (a ∷ b ∷ c ∷ d ∷ e ∷ f ∷ g ∷ []) is =
    elim (any_of_7 (is_option a) (is_option b) (is_option c) (is_option d) (is_option e) (is_option f) (is_option g) is) [
      | inl h ↦ rw (no_number a h) refl
      | inr (inl h) ↦ rw (no_quota b c h) (without_quota0 (number_of a) (quota_of d e) (quota_of f g))
      | inr (inr (inl h)) ↦ rw (no_quota d e h) (without_quota1 (number_of a) (quota_of b c) (quota_of f g))
      | inr (inr (inr h)) ↦ rw (no_quota f g h) (without_quota2 (number_of a) (quota_of b c) (quota_of d e))
    ]
no_plan (a ∷ b ∷ c ∷ d ∷ e ∷ f ∷ g ∷ h ∷ more) is = refl

no_form : (words : List Text) → list_any is_option words ≡ true → form_of words ≡ None
no_form [] is = refl
no_form (a ∷ []) is = by a (or_last (is_option a) is)
  where
    by : (w : Text) → is_option w ≡ true → form_named w ≡ None
    by [] e = absurd (true≢false (sym e))
    by (x ∷ xs) e = subst (λ (y : ℕ). form_named (y ∷ xs) ≡ None) (sym (is_45 x e)) refl
no_form (a ∷ b ∷ more) is = refl

no_command : (b : Bool) (command other : Option Command) → (if b && false then command else other) ≡ other
no_command true command other = refl
no_command false command other = refl

none_either : (log new query receive send long : Bool) (more : List Text)
    → (let none : Option Command = None in if log then none else if new then none else if query && (long && false) then Some Query else if receive && false then addressed Receive more else if send && false then addressed Send more else none) ≡ None
none_either true new query receive send long more = refl
none_either false true query receive send long more = refl
none_either false false query receive send long more = rw (never query long) (no_command receive _ _ ∙ no_command send _ _)
  where
    never : (query long : Bool) → (query && (long && false)) ≡ false
    never true true = refl
    never true false = refl
    never false long = refl

begins : (w : Text) (more : List Text) → is_option w ≡ true → command_of (w ∷ more) ≡ None
begins [] more e = absurd (true≢false (sym e))
begins (x ∷ xs) more e = subst (λ (y : ℕ). command_of ((y ∷ xs) ∷ more) ≡ None) (sym (is_45 x e)) (by more)
  where
    by : (more : List Text) → command_of ((45 ∷ xs) ∷ more) ≡ None
    by [] = refl
    by (next ∷ more) = refl

pub options-none : (words : List Text) → list_any is_option words ≡ true → command_of words ≡ None
options-none [] is = absurd (true≢false (sym is))
options-none (w ∷ []) is = begins w [] (or_last (is_option w) is)
options-none (w ∷ next ∷ more) is = by (is_option w) refl is
  where
    by : (b : Bool) → is_option w ≡ b → (b || list_any is_option (next ∷ more)) ≡ true → command_of (w ∷ next ∷ more) ≡ None
    by true e h = begins w (next ∷ more) e
    by false e h = rw (no_form (next ∷ more) h, no_plan (next ∷ more) h, h)
        (no_command (bytes_eq w (codes "collect")) (collect_of (next ∷ more)) _
        ∙ none_either (bytes_eq w (codes "log")) (bytes_eq w (codes "new")) (bytes_eq w (codes "query")) (bytes_eq w (codes "receive")) (bytes_eq w (codes "send")) (nat_le 5 (length (next ∷ more))) (next ∷ more))

-- ---- settings

pub plan-between : (words : List Text) → 1 < length words → length words < 7 → plan_of words ≡ None
plan-between [] least most = refl
plan-between (a ∷ []) least most = absurd (omega arith)
plan-between (a ∷ b ∷ []) least most = refl
plan-between (a ∷ b ∷ c ∷ []) least most = refl
plan-between (a ∷ b ∷ c ∷ d ∷ []) least most = refl
plan-between (a ∷ b ∷ c ∷ d ∷ e ∷ []) least most = refl
plan-between (a ∷ b ∷ c ∷ d ∷ e ∷ f ∷ []) least most = refl
plan-between (a ∷ b ∷ c ∷ d ∷ e ∷ f ∷ g ∷ []) least most = absurd (omega arith)
plan-between (a ∷ b ∷ c ∷ d ∷ e ∷ f ∷ g ∷ h ∷ more) least most = refl

-- ---- what a parse refuses

pub refused-none : (words : List Text) → length words ≤ usize_max → list_any is_option words ≡ false → (e : Error) → HasKind (fault_of forms words) e
    → (kind_of e ≡ kind.OutOfMemory → ⊥) → None ≡ command_of words
refused-none words most plain e has other = elim has [
  | inl is ↦ absurd (other is)
  | inr among ↦ sym (by (fault_of forms words) refl among)
]
  where
    by : (f : Kinds) → fault_of forms words ≡ f → IsAmong (kind_of e) f → command_of words ≡ None
    by [] is among = absurd among
    by (k ∷ ks) is among = (agrees words most plain).1 k ks is

pub plan-found : (f : Found) (o : Option (List Text)) → o ≡ option_map raw_values (matched_of f (codes "words")) → option_and_then plan_of o ≡ plan_in (rows_of f)
plan-found f o is = ap (option_and_then plan_of) (is ∙ raw_values-rows f (codes "words"))

pub collect-found : (f : Found) (o : Option (List Text)) → o ≡ option_map raw_values (matched_of f (codes "words")) → option_and_then collect_of o ≡ collect_in (rows_of f)
collect-found f o is = ap (option_and_then collect_of) (is ∙ raw_values-rows f (codes "words"))

pub form-found : (f : Found) (o : Option (List Text)) → o ≡ option_map raw_values (matched_of f (codes "words")) → option_and_then form_of o ≡ form_in (rows_of f)
form-found f o is = ap (option_and_then form_of) (is ∙ raw_values-rows f (codes "words"))

pub addressed-found : (command : Command) (f : Found) (o : Option (List Text)) → o ≡ option_map raw_values (matched_of f (codes "words")) → option_and_then (addressed command) o ≡ addressed_in command (rows_of f)
addressed-found command f o is = ap (option_and_then (addressed command)) (is ∙ raw_values-rows f (codes "words"))

-- ---- what was read of the words

-- words that give a command are some
pub has-word : {E : Type 0} (read : Result (Option Command) E) (words : List (List ℕ)) (command : Command) → read ≡ Ok (Some command) → IfOk read (λ (c : Option Command). c ≡ command_of words) → 0 < length words
has-word {E} read words command is says = by words (subst (λ (r : Result (Option Command) E). IfOk r (λ (c : Option Command). c ≡ command_of words)) is says)
  where
    by : (words : List (List ℕ)) → Some command ≡ command_of words → 0 < length words
    by [] e = cc
    by (word ∷ more) e = omega arith
