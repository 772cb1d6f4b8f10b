-- What a spawner tells over the calls of a turn.
use Rattle.std.proofs.Common.{◌≡◌, ◌≢◌, ℕ, ◌≤◌, List, [], length, take, Option, Some, None, refl, ap, arith}
use Rattle.std.proofs.lemmas.List.{length-take}
use Rattle.std.specs.Option.{option_map}
use Rattle.host_model.specs.Spawner.{Child, Children, with_bytes, before_bytes}

with_nothing : (running : Option Child) → option_map (with_bytes []) running ≡ running
with_nothing None = refl
with_nothing (Some child) = refl

pub before_nothing : (children : Option Children) → option_map (before_bytes []) children ≡ children
before_nothing None = refl
before_nothing (Some told) = ap (λ (r : Option Child). Some (record told { running = r })) (with_nothing told.running)

-- bytes were taken
pub some_bytes : (count : ℕ) (bytes : List ℕ) → count ≤ length bytes → count ≢ 0 → take count bytes ≢ []
some_bytes count bytes within some none =
    let size : length (take count bytes) ≡ 0 = ap length none in
    some (omega (arith, size, within, length-take count bytes))
