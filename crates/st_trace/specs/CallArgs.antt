-- The arguments of a call, wherever they are stored.
use Rattle.std.specs.Prelude.{List}
use Rattle.st_calls.specs.declared.argument.ArgText.{ArgText}
use Rattle.st_trace.specs.declared.call_args.HeldArgs.{HeldArgs}
use Rattle.st_trace.specs.declared.call_args.HeldArgs.TheVariants.{Own, Judged}

-- the arguments: the call's own list, or the parts of the snapshot that was judged
abbrev pub args_held : HeldArgs → List ArgText
args_held (Own args) = args
args_held (Judged copies) = copies.parts
