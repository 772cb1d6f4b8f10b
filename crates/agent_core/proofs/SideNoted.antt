-- What the side of a history leaves.
use Rattle.std.proofs.Common.{◌≡◌, ℕ, Bool, true, ◌&&◌, List, Option, Some, None, is_some, refl, ap, ◌∙◌, if◌then◌else◌}
use Rattle.std.specs.Option.{option_and_then}
use Rattle.history.specs.History.{Beat, registry_of}
use Rattle.history.specs.Registry.{Registry, empty}
use Rattle.alarm_core.specs.Course.{Held}
use Rattle.alarm_core.specs.Kept.{kept, of_kept}
use Rattle.beat_entries.specs.Next.{goes_on, with_numbered}
use Rattle.store_core.specs.declared.beats.beat.Beat.{Beat as StoreBeat}
use Rattle.side_codec.specs.declared.side.Side.{Side}
use Rattle.side_codec.specs.Sides.{read_side}
use Rattle.side_codec.proofs.SidesLaw.{reads_back}
use Rattle.tier_settings.specs.declared.settings.Settings.{Settings}
use Rattle.agent_core.specs.declared.left.Role.{Role}
use Rattle.agent_core.specs.declared.left.Role.TheVariants.{Undecided, Collects, Copies}
use Rattle.agent_core.specs.Alarms.{alarms_at}
use Rattle.agent_core.specs.Kept.{AreBeatsOf}
use Rattle.agent_core.specs.Notes.{is_good, noted_by, noted_if, noted_in_side, noted_of, role_in, Noted}
use Rattle.agent_core.specs.Roles.{role_of}
use Rattle.agent_core.specs.Sides.{side_of, side_role, IsSideOf}
use Rattle.agent_core.proofs.SideAlarms.{alarms-again}
use Rattle.agent_core.proofs.SideRegistry.{all-defined, all-go-on, defining, of-history}

role-again : (role : Role) → role_in (side_role role) ≡ role
role-again Undecided = refl
role-again Collects = refl
role-again (Copies child) = refl

-- it is good, and leaves what the history leaves
pub side-noted : (set : Settings) (h : List Beat) (beats : List StoreBeat) → AreBeatsOf h beats → (bytes : List ℕ) → IsSideOf set h bytes → noted_in_side bytes ≡ Some (noted_of h)
unfolding noted_in_side side_of
side-noted set h beats are bytes is =
    let registry = registry_of h in
    let sound = of-history h beats are in
    let reads : read_side bytes ≡ Some (side_of set h) = ap read_side is.bytes_are ∙ reads_back (side_of set h) is.spelt in
    let goes : goes_on empty (defining registry) ≡ true = all-go-on registry sound in
    let defined : with_numbered empty (defining registry) ≡ registry = all-defined registry sound in
    let alarms : is_some (of_kept (with_numbered empty (defining registry)) (kept (alarms_at set h))) ≡ true =
    ap (λ (r : Registry). is_some (of_kept r (kept (alarms_at set h)))) defined ∙ ap (λ (o : Option Held). is_some o) (alarms-again set h beats are) in
    let good : is_good (side_of set h) ≡ true = λ i. goes i && alarms i in
    let left : noted_by (side_of set h) ≡ noted_of h = λ i. record { registry = defined i; role = role-again (role_of h) i } in
    ap (λ (o : Option Side). option_and_then noted_if o) reads
    ∙ ap (λ (b : Bool). if b then Some (noted_by (side_of set h)) else None) good
    ∙ ap (λ (n : Noted). Some n) left
