-- Permissions: who has which access to an object.
use Rattle.std.specs.Prelude.{ℕ, ◌/◌, ◌%◌, ◌==◌, ◌||◌, if◌then◌else◌, Bool, true}
use Rattle.st_model.specs.Tree.{Node}
use Rattle.st_model.specs.declared.permission.Permission.{Permission}
use Rattle.st_model.specs.declared.permission.Want.{Want}
use Rattle.st_model.specs.declared.permission.Want.TheVariants.{Read, Write, Search, Execute}

-- the permission bit, of three, that an access needs
abbrev pub bit_of : Want → ℕ
bit_of Read = 4
bit_of Write = 2
bit_of Search = 1
bit_of Execute = 1

-- the three permission bits that apply to a user and a group: the owner's, otherwise the group's, otherwise the others'
abbrev pub permission_bits : Permission → ℕ → ℕ → ℕ
permission_bits permission uid gid =
    if uid == permission.uid then permission.mode / 64 % 8
    else if gid == permission.gid then permission.mode / 8 % 8
    else permission.mode % 8

-- whether this bit is set in the bits
abbrev pub has_bit : ℕ → ℕ → Bool
has_bit bits bit = (bits / bit) % 2 == 1

-- whether the owner, the group or the others may execute
abbrev pub is_executable : ℕ → Bool
is_executable mode = has_bit mode 64 || has_bit mode 8 || has_bit mode 1

-- whether user 0 has an access: always, except that it may not execute what nobody may execute
abbrev pub root_is_allowed : ℕ → Want → Bool
root_is_allowed mode Read = true
root_is_allowed mode Write = true
root_is_allowed mode Search = true
root_is_allowed mode Execute = is_executable mode

-- whether a user and a group have this access under a permission
abbrev pub is_permitted : Permission → ℕ → ℕ → Want → Bool
is_permitted permission uid gid want =
    if uid == 0 then root_is_allowed permission.mode want else has_bit (permission_bits permission uid gid) (bit_of want)

-- an object's owner, group and mode
abbrev pub permission_of : Node → Permission
permission_of node = record { uid = node.uid; gid = node.gid; mode = node.mode }

-- whether a user and a group have this access to an object
abbrev pub allowed : Node → ℕ → ℕ → Want → Bool
allowed node uid gid want = is_permitted (permission_of node) uid gid want
