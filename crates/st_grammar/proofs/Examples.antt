-- Texts that the definitions read as expected.
use Rattle.std.proofs.Common.{◌≡◌, ℕ, List, [], ◌∷◌, ◌++◌, None, Some, Ok, true, false, refl, codes}
use Rattle.st_grammar.proofs.Common.{And, Call, Deny, DuplicatePolicy, ElevateOnSetId, ElevateWithoutIds, Env, fault_in, FilterValue, FsRead, Lex, Not, NotSupported, Or, Permit, policies_in, refusal_in, Test, True, UnknownCall}
use Rattle.st_grammar.specs.declared.place.Place.TheVariants as place
use Rattle.st_lex.specs.declared.token.LexFault.TheVariants.{OpenQuote}
use Rattle.st_grammar.specs.declared.fault.Unsupported.TheVariants.{Emulation, Re}
use Rattle.st_base.specs.declared.errno.Errno.TheVariants.{ENOENT}
use Rattle.st_calls.specs.declared.call.SysCall.TheVariants.{Bind}
use Rattle.st_emulation.specs.declared.emulation.Emulation.TheVariants.{Linux, Native}
use Rattle.st_filter.specs.declared.filter.Cmp.TheVariants as cmp
use Rattle.st_filter.specs.declared.filter.FilterName.TheVariants as name
use Rattle.st_filter.specs.declared.filter.Op.TheVariants.{Eq}
use Rattle.st_filter.specs.declared.filter.Who.TheVariants.{User}

abbrev with_elevate : Env
with_elevate = record {
  dollars = record { home = codes "/root"; user = codes "root"; cwd = codes "/" };
  users = record { name = codes "root"; id = 0 } ∷ [];
  groups = record { name = codes "wheel"; id = 0 } ∷ [];
  elevate = true;
  learn = false;
  emulation = Native;
}

abbrev without_elevate : Env
without_elevate = record with_elevate { elevate = false }

abbrev with_linux : Env
with_linux = record with_elevate { emulation = Linux }

abbrev after_header : List ℕ → List ℕ
after_header row = codes "Policy: /bin/a, Emulation: native" ++ 10 ∷ row

open_quote : fault_in (after_header (codes "native-fsread: filename eq \"/etc")) with_elevate [] ≡ Some (Lex (OpenQuote 61))
open_quote = refl

regular_expression : fault_in (after_header (codes "native-fsread: filename re \"x\" then permit")) with_elevate [] ≡ Some (NotSupported 58 Re)
regular_expression = refl

no_ids : fault_in (after_header (codes "native-bind: permit as root")) without_elevate [] ≡ Some (ElevateWithoutIds 54)
no_ids = refl

sets_ids : fault_in (after_header (codes "native-setuid: permit as root")) with_elevate [] ≡ Some (ElevateOnSetId 56)
sets_ids = refl

good : fault_in (after_header (codes "native-fsread: filename eq \"/etc\" or not true and true then deny[enoent] log, if user != root")) with_elevate [] ≡ None
good = refl

abbrev denial : FilterValue
denial = record {
  name = name.Rule FsRead;
  formula = Or (Test (codes "filename") 0 Eq (codes "/etc")) (And (Not True) True);
  action = Deny ENOENT;
  grant = None;
  log = true;
  predicate = Some (record { who = User; cmp = cmp.Other; id = 0 });
}

abbrev permission : FilterValue
permission = record {
  name = name.Rule (Call Bind);
  formula = True;
  action = Permit;
  grant = Some (record { user = Some 0; group = Some 0 });
  log = true;
  predicate = None;
}

good_set : policies_in (after_header (codes "native-fsread: filename eq \"/etc\" or not true and true then deny[enoent] log, if user != root" ++ 10 ∷ codes "native-bind: permit log as 0:wheel")) with_elevate []
    ≡ Ok (record { binary = codes "/bin/a"; filters = denial ∷ permission ∷ [] } ∷ [])
good_set = refl

refused : refusal_in (codes "Policy: /a, Emulation: native") with_elevate (record { binary = codes "/a"; filters = [] } ∷ []) ≡ Some (record { fault = DuplicatePolicy 8; place = place.Binary })
refused = refl

-- ---- emulations

abbrev linux_header : List ℕ
linux_header = codes "Policy: /bin/a, Emulation: linux\n"

native_word : fault_in (after_header []) with_linux [] ≡ Some (NotSupported 27 Emulation)
native_word = refl

linux_word : fault_in linux_header with_elevate [] ≡ Some (NotSupported 27 Emulation)
linux_word = refl

native_prefix : fault_in (linux_header ++ codes "native-bind: permit") with_linux [] ≡ Some (UnknownCall 33)
native_prefix = refl

linux_prefix : fault_in (after_header (codes "linux-bind: permit")) with_elevate [] ≡ Some (UnknownCall 34)
linux_prefix = refl

linux_set : policies_in (linux_header ++ codes "linux-bind: permit log as 0:wheel") with_linux [] ≡ Ok (record { binary = codes "/bin/a"; filters = permission ∷ [] } ∷ [])
linux_set = refl
