-- The arguments that policies judge, and their labels.
use Rattle.std.specs.Prelude.{ℕ, Bool, ◌&&◌, ◌==◌, if◌then◌else◌, List, [], ◌∷◌, ◌++◌, codes, decimal, find, Option}
use Rattle.std.specs.List.{list_any}
use Rattle.std.specs.Str.{bytes_eq}
use Rattle.st_calls.specs.declared.call.SysCall.{SysCall}
use Rattle.st_calls.specs.declared.call.SysCall.TheVariants as call
use Rattle.st_calls.specs.declared.argument.ArgSpec.{ArgSpec}
use Rattle.st_calls.specs.declared.argument.Label.{Label}
use Rattle.st_calls.specs.declared.argument.Label.TheVariants.{Filename, String, Mode, Uid, Gid, Argv, Pid, Signum, SockDom, SockType, SockAddr}
use Rattle.st_calls.specs.declared.argument.PartKind.{PartKind}
use Rattle.st_calls.specs.declared.argument.PartKind.TheVariants as kind
use Rattle.st_calls.specs.declared.rule.Rule.{Rule}
use Rattle.st_calls.specs.declared.rule.Rule.TheVariants.{Call, FsRead, FsWrite}

-- the first argument with this label, of this kind, in this register
abbrev pub argument : Label → ℕ → PartKind → ArgSpec
argument label register kind = record { label = label; index = 0; register = register; kind = kind }

-- the name in register 0
abbrev pub filename : ArgSpec
filename = argument Filename 0 kind.Name

-- the second of two names, in register 1
abbrev pub second_filename : ArgSpec
second_filename = record { label = Filename; index = 1; register = 1; kind = kind.Name }

-- the arguments of a call that policies judge under its own name, in order
abbrev pub args_of_call : SysCall → List ArgSpec
args_of_call call.Open = filename ∷ []
args_of_call call.Stat = filename ∷ []
args_of_call call.Lstat = filename ∷ []
args_of_call call.Access = filename ∷ []
args_of_call call.Readlink = filename ∷ []
args_of_call call.Unlink = filename ∷ []
args_of_call call.Link = filename ∷ second_filename ∷ []
args_of_call call.Symlink = argument String 0 kind.Plain ∷ argument Filename 1 kind.Name ∷ []
args_of_call call.Rename = filename ∷ second_filename ∷ []
args_of_call call.Mkdir = filename ∷ []
args_of_call call.Rmdir = filename ∷ []
args_of_call call.Chdir = filename ∷ []
args_of_call call.Chmod = filename ∷ argument Mode 1 kind.Octal ∷ []
args_of_call call.Chown = filename ∷ argument Uid 1 kind.Decimal ∷ argument Gid 2 kind.Decimal ∷ []
args_of_call call.Truncate = filename ∷ []
args_of_call call.Execve = filename ∷ argument Argv 1 kind.Argv ∷ []
args_of_call call.Kill = argument Pid 0 kind.Decimal ∷ argument Signum 1 kind.Decimal ∷ []
args_of_call call.SetUid = argument Uid 0 kind.Decimal ∷ []
args_of_call call.SetEuid = argument Uid 0 kind.Decimal ∷ []
args_of_call call.SetGid = argument Gid 0 kind.Decimal ∷ []
args_of_call call.SetEgid = argument Gid 0 kind.Decimal ∷ []
args_of_call call.Socket = argument SockDom 0 kind.Domain ∷ argument SockType 1 kind.SockType ∷ []
args_of_call call.Bind = argument SockAddr 1 kind.Addr ∷ []
args_of_call call.Connect = argument SockAddr 1 kind.Addr ∷ []
args_of_call _ = []

-- the arguments that policies judge under a rule, in order
abbrev pub args_of : Rule → List ArgSpec
args_of (Call call) = args_of_call call
args_of FsRead = filename ∷ []
args_of FsWrite = filename ∷ []

-- the name of a label, as a policy writes it
abbrev pub name_of_label : Label → List ℕ
name_of_label Filename = codes "filename"
name_of_label String = codes "string"
name_of_label Mode = codes "mode"
name_of_label Uid = codes "uid"
name_of_label Gid = codes "gid"
name_of_label Argv = codes "argv"
name_of_label Pid = codes "pid"
name_of_label Signum = codes "signum"
name_of_label SockDom = codes "sockdom"
name_of_label SockType = codes "socktype"
name_of_label SockAddr = codes "sockaddr"

-- every label
abbrev pub every_label : List Label
every_label = Filename ∷ String ∷ Mode ∷ Uid ∷ Gid ∷ Argv ∷ Pid ∷ Signum ∷ SockDom ∷ SockType ∷ SockAddr ∷ []

-- the label whose name is this word
abbrev pub label_named : List ℕ → Option Label
label_named word = find (λ label. bytes_eq (name_of_label label) word) every_label

-- whether a rule has an argument whose label has this name
abbrev pub has_label : Rule → List ℕ → Bool
has_label rule word = list_any (λ spec. bytes_eq (name_of_label spec.label) word) (args_of rule)

-- whether a rule has an argument whose label has this name, with this index
abbrev pub has_argument : Rule → List ℕ → ℕ → Bool
has_argument rule word index = list_any (λ spec. bytes_eq (name_of_label spec.label) word && spec.index == index) (args_of rule)

-- an argument's index as it is written: nothing for index 0, and [N] for any other index
abbrev pub index_text : ℕ → List ℕ
index_text n = if n == 0 then [] else codes "[" ++ decimal n ++ codes "]"
