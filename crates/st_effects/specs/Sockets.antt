-- Calls on sockets: the outcome of each call, with its reasons for refusal in the order in which they are tested.
use Rattle.std.specs.Prelude.{ℕ, ◌+◌, ◌-◌, ◌*◌, ◌==◌, ◌&&◌, not, nat_lt, if◌then◌else◌, true, false, List, [], ◌∷◌, None}
use Rattle.std.specs.List.{fold}
use Rattle.st_base.specs.Errno.{error_if}
use Rattle.st_base.specs.declared.errno.Errno.TheVariants.{EACCES}
use Rattle.st_model.specs.DescriptorCalls.{open_refused, table_after_open, bind_refused, bind_refused_at, table_after_bind, connect_refused, table_after_connect}
use Rattle.st_model.specs.Descriptors.{file_at}
use Rattle.st_model.specs.declared.open_file.FileKind.TheVariants as file
use Rattle.st_model.specs.declared.open_file.OpenFile.{OpenFile}
use Rattle.st_effects.specs.Descriptors.{next_descriptor}
use Rattle.st_effects.specs.System.{System, Request, Outcome, success_with_table, unless_refused, register, arg_text_at}

-- the open file of a new socket
abbrev pub socket_file : OpenFile
socket_file = record { kind = file.Socket None false; read = true; write = true; append = false; offset = 0 }

-- the outcome of socket(domain, type)
abbrev pub socket_outcome : System → Request → Outcome
socket_outcome system request =
    unless_refused system (open_refused system.descriptors request.pid ∷ [])
    (success_with_table (next_descriptor system request) [] (table_after_open system.descriptors request.pid socket_file))

-- the byte `:`
abbrev pub colon : ℕ
colon = 58

-- the port of an address: the decimal number after the last colon of its text
abbrev pub port_in : List ℕ → ℕ
port_in text = fold (λ n byte. if byte == colon then 0 else 10 * n + (byte - 48)) 0 text

-- the least port that every user may bind
abbrev pub least_unprivileged_port : ℕ
least_unprivileged_port = 1024

-- the outcome of bind(fd, addr)
abbrev pub bind_outcome : System → Request → Outcome
bind_outcome system request =
    let port = port_in (arg_text_at request 0) in
    let fd = register request 0 in
    unless_refused system (
    bind_refused_at (file_at system.descriptors request.pid fd) port false ∷
    error_if (nat_lt port least_unprivileged_port && not (request.ids.euid == 0)) EACCES ∷
    bind_refused system.descriptors request.pid fd port ∷ [])
    (success_with_table 0 [] (table_after_bind system.descriptors request.pid fd port))

-- the outcome of connect(fd, addr)
abbrev pub connect_outcome : System → Request → Outcome
connect_outcome system request =
    let port = port_in (arg_text_at request 0) in
    unless_refused system (connect_refused system.descriptors request.pid (register request 0) port ∷ [])
    (success_with_table 0 [] (table_after_connect system.descriptors request.pid (register request 0) port))
