-- When complete arguments are fit for their call.
use Rattle.std.specs.Prelude.{◌≤◌, ◌<◌, ◌^◌, ℕ, List, length, [], slice_get, unwrap_or}
use Rattle.std.specs.Option.{option_map}
use Rattle.st_calls.specs.declared.argument.ArgText.{ArgText}
use Rattle.st_calls.specs.declared.call.SysCall.{SysCall}
use Rattle.st_calls.specs.declared.call.SysCall.TheVariants.{Bind, Chdir, Connect}
use Rattle.st_names.specs.Name.{Components, components_of, printed_name}
use Rattle.st_names.specs.declared.limits.TheConstants.{LONGEST_NAME}
use Rattle.st_effects.specs.Sockets.{port_in}

-- the text of the first argument
abbrev pub first_text : List ArgText → List ℕ
first_text args = unwrap_or (option_map (λ arg. arg.text) (slice_get args 0)) []

-- the name that the first argument spells
abbrev pub first_name : List ArgText → Components
first_name args = components_of (first_text args)

-- the arguments are fit for the call: the name of a directory isn't too long, and an address has a port of 16 bits
abbrev pub AreFit : SysCall → List ArgText → Type 0
AreFit Chdir args = length (printed_name (first_name args)) ≤ LONGEST_NAME
AreFit Bind args = port_in (first_text args) < 2 ^ 16
AreFit Connect args = port_in (first_text args) < 2 ^ 16
AreFit _ args = Unit {0}
