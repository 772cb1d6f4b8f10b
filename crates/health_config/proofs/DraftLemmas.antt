-- What one setting more does to what is set.
use Rattle.std.proofs.Common.{◌≡◌, ◌≤◌, ◌+◌, Bool, List, [], ◌∷◌, ◌++◌, Option, Some, None, Result, Ok, Err, refl, sym, ap, ◌∙◌, arith, append_assoc}
use Rattle.std.specs.Option.{option_or}
use Rattle.health_config.specs.declared.fault.ConfigFault.{ConfigFault}
use Rattle.health_config.specs.declared.lines.Line.{Line}
use Rattle.health_config.specs.Draft.{Draft, drafted, last, skips, skipped_count, with}
use Rattle.health_config.specs.Fault.{◌>>=◌}
use Rattle.health_config.specs.Setting.{Setting, skipped, settings, said_at}

or-none : {A : Type 0} (o : Option A) → option_or None o ≡ option_or o None
or-none None = refl
or-none (Some a) = refl

or-assoc : {A : Type 0} (a b c : Option A) → option_or (option_or a b) c ≡ option_or a (option_or b c)
or-assoc None b c = refl
or-assoc (Some a) b c = refl

-- the last of all is the last
last-append : {A : Type 0} (said : Setting → Option A) (all : List Setting) (setting : Setting) → last said (all ++ setting ∷ []) ≡ option_or (said setting) (last said all)
last-append said [] setting = or-none (said setting)
last-append said (first ∷ all) setting =
    ap (λ (o : Option _). option_or o (said first)) (last-append said all setting) ∙ or-assoc (said setting) (last said all) (said first)

skipped-append : (all : List Setting) (setting : Setting) → skipped_count (all ++ setting ∷ []) ≡ skipped_count all + skips setting
skipped-append [] setting = omega arith
skipped-append (first ∷ all) setting = omega (arith, skipped-append all setting)

pub drafted-append : (all : List Setting) (setting : Setting) → drafted (all ++ setting ∷ []) ≡ with setting (drafted all)
drafted-append all setting = simp (last-append, skipped-append) refl

pub skips_one : (setting : Setting) → skips setting ≤ 1
skips_one skipped = omega arith
skips_one _ = omega arith

-- ---- the lines that are left

-- what was set by these settings, and then by lines
abbrev pub then_read : List Setting → Result (List Setting) ConfigFault → Result Draft ConfigFault
then_read done left = left >>= λ more. Ok (drafted (done ++ more))

onward_by : (done : List Setting) (setting : Setting) (left : Result (List Setting) ConfigFault)
    → then_read done (left >>= λ more. Ok (setting ∷ more)) ≡ then_read (done ++ setting ∷ []) left
onward_by done setting (Ok more) = ap (λ (all : List Setting). Ok (drafted all)) (sym (append_assoc done (setting ∷ []) more))
onward_by done setting (Err fault) = refl

-- a line more
pub onward : (inside : Bool) (done : List Setting) (line : Line) (lines : List Line) (setting : Setting) → said_at inside line ≡ Ok setting
    → then_read done (settings inside (line ∷ lines)) ≡ then_read (done ++ setting ∷ []) (settings inside lines)
onward inside done line lines setting said =
    ap (λ (read : Result Setting ConfigFault). then_read done (read >>= λ first. settings inside lines >>= λ more. Ok (first ∷ more))) said
    ∙ onward_by done setting (settings inside lines)

pub refused : (inside : Bool) (done : List Setting) (line : Line) (lines : List Line) (fault : ConfigFault) → said_at inside line ≡ Err fault
    → then_read done (settings inside (line ∷ lines)) ≡ Err fault
refused inside done line lines fault said =
    ap (λ (read : Result Setting ConfigFault). then_read done (read >>= λ first. settings inside lines >>= λ more. Ok (first ∷ more))) said
