-- Ports, and who may bind to them.
use Rattle.std.specs.Prelude.{ℕ, ◌^◌, ◌<◌, ◌==◌, ◌&&◌, not, nat_lt, false, [], ◌∷◌, Option}
use Rattle.st_base.specs.Errno.{error_if, first_error}
use Rattle.st_base.specs.declared.errno.Errno.{Errno}
use Rattle.st_base.specs.declared.errno.Errno.TheVariants.{EACCES}
use Rattle.st_model.specs.DescriptorCalls.{bind_refused_at}
use Rattle.st_model.specs.Descriptors.{Table, file_at}
use Rattle.st_effects.specs.Sockets.{least_unprivileged_port, port_in}
use Rattle.st_effects.specs.System.{Request, arg_text_at, register}

-- the address that a call is made with has a port of 16 bits, as the text of every address has
abbrev pub HasPort : Request → Type 0
HasPort request = port_in (arg_text_at request 0) < 2 ^ 16

-- why a descriptor can't be bound to a port, whether the port is free or not
abbrev pub low_bind_refused : Table → Request → ℕ → Option Errno
low_bind_refused table request port = first_error (
    bind_refused_at (file_at table request.pid (register request 0)) port false ∷
    error_if (nat_lt port least_unprivileged_port && not (request.ids.euid == 0)) EACCES ∷ [])
