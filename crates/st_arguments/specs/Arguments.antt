-- The arguments of a call that is made in one step.
use Rattle.st_arguments.specs.declared.arguments.Arguments.{Arguments}
use Rattle.st_arguments.specs.declared.arguments.Arguments.TheVariants as arguments
use Rattle.st_effects.specs.Progress.{Progress, Ready, Stuck}

-- the progress of a call's arguments: all have their texts, or one has a fault
abbrev pub arguments_progress : Arguments → Progress
arguments_progress (arguments.Ready args) = Ready args
arguments_progress (arguments.Stuck errno) = Stuck errno
