-- A role is spelt as a byte and the id of the child, which is 0 where there is none.
use Rattle.std.specs.Prelude.{ℕ, zero, suc, ◌<◌, ◌^◌, ◌==◌, Bool, ◌&&◌, ◌||◌, nat_lt, List, ◌++◌}
use Rattle.field_codec.specs.declared.fault.FieldFault.TheVariants.{Range}
use Rattle.field_codec.specs.Reading.{ReadOf, read_as, read_passing, read_u8, read_u64}
use Rattle.field_codec.specs.Spelling.{u8_bytes, u64_bytes}
use Rattle.field_codec.specs.Lists.{◌>>◌}
use Rattle.side_codec.specs.declared.role.SideRole.{SideRole}
use Rattle.side_codec.specs.declared.role.SideRole.TheVariants.{Undecided, Collects, Copies}

-- the byte, and the child
abbrev pub parts_of : SideRole → ℕ × ℕ
parts_of Undecided = (0, 0)
parts_of Collects = (1, 0)
parts_of (Copies child) = (2, child)

abbrev pub role_by : ℕ → ℕ → SideRole
role_by zero child = Undecided
role_by (suc zero) child = Collects
role_by (suc (suc _)) child = Copies child

abbrev pub role_of : ℕ × ℕ → SideRole
role_of parts = role_by parts.0 parts.1

-- the byte is that of a role, and there is a child only where the role has one
abbrev pub is_role : ℕ × ℕ → Bool
is_role parts = nat_lt parts.0 3 && ((parts.0 == 2) || (parts.1 == 0))

unfoldable pub role_bytes : SideRole → List ℕ
role_bytes role = u8_bytes (parts_of role).0 ++ u64_bytes (parts_of role).1

unfoldable pub read_role : List ℕ → ReadOf SideRole
read_role bytes = read_as role_of (read_passing is_role Range (read_u8 bytes >> read_u64))

-- the roles that have a spelling
abbrev pub IsRole : SideRole → Type 0
IsRole Undecided = Unit {0}
IsRole Collects = Unit {0}
IsRole (Copies child) = child < 2 ^ 64
