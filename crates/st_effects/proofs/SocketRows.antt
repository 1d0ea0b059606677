-- Examples of the calls socket, bind and connect, computed from the table of calls: their refusals in order, and their changes of
-- ports. In the world, descriptor 3 of process 1 is a new socket, 4 is a connected socket with port 80, and 9 is a socket with port
-- 2000. Descriptor 2 of process 3 is a socket with port 90.
use Rattle.std.proofs.Common.{◌≡◌, ℕ, Bool, true, false, List, [], ◌∷◌, ◌++◌, map, Option, Some, None, refl, codes, replicate}
use Rattle.std.specs.Prelude.{◌^◌, ◌+◌, ◌-◌, take, drop}
use Rattle.st_model.specs.Descriptors.{Table}
use Rattle.st_base.specs.declared.errno.Errno.TheVariants.{EBADF, EACCES, EINVAL, EMFILE, EADDRINUSE, ECONNREFUSED}
use Rattle.st_model.specs.declared.open_file.FileKind.TheVariants as file
use Rattle.st_model.specs.declared.open_file.OpenFile.{OpenFile}
use Rattle.st_calls.specs.declared.call.SysCall.{SysCall}
use Rattle.st_calls.specs.declared.call.SysCall.TheVariants.{Close, Dup, Fork, Socket, Bind, Connect}
use Rattle.st_effects.specs.Sockets.{port_in}
use Rattle.st_effects.specs.System.{System}
use Rattle.st_trace.specs.declared.entry.CallResult.{CallResult}
use Rattle.st_trace.specs.declared.entry.CallResult.TheVariants.{Value, Failed}
use Rattle.st_effects.proofs.World.{world, descriptors, user, root, made, results, root_results}
use Rattle.st_effects.proofs.Outcomes.{file_for, new_socket, led_to, with_changed, with_new, table_with, table_of, done, failed, after, after_calls, results_in}

-- a new open file for reading and writing, whatever the domain and the type are; process 2 has no free descriptor
socket_gives : made world 1 user Socket [] (2 ∷ 1 ∷ []) ∷ made world 1 user Socket [] (1 ∷ 2 ∷ []) ∷
    made world 1 user Socket [] (0 ∷ (2 ^ 64 - 1) ∷ []) ∷ made world 2 root Socket [] (2 ∷ 1 ∷ []) ∷ []
    ≡ replicate 3 (done 8 [] (table_with (led_to 8 (Some 10)) (with_new (file_for true true false 0 (file.Socket None false))))) ++
    failed EMFILE ∷ []
socket_gives = refl

socket_of_another_process : made world 3 user Socket [] (2 ∷ 1 ∷ [])
    ≡ done 3 [] (record {
      processes = take 2 descriptors.processes ++ (3, Some 0 ∷ Some 1 ∷ Some 9 ∷ Some 10 ∷ replicate 60 None) ∷ [];
      files = with_new new_socket;
    })
socket_of_another_process = refl

-- the number after the last colon
ports : map port_in (codes "inet-[10.0.0.1]:8080" ∷ codes "inet-[0.0.0.0]:0" ∷ codes "inet-[255.255.255.255]:65535" ∷
    codes "inet-[1.2.3.4]:907" ∷ [])
    ≡ 8080 ∷ 0 ∷ 65535 ∷ 907 ∷ []
ports = refl

-- the reasons: not open; no socket, already bound, or port 0; a low port; a port in use
bind_refusals : results Bind (
    (codes "inet-[0.0.0.0]:0" ∷ [], 8 ∷ []) ∷
    (codes "inet-[0.0.0.0]:80" ∷ [], 8 ∷ []) ∷
    (codes "inet-[0.0.0.0]:1024" ∷ [], 64 ∷ []) ∷
    (codes "inet-[0.0.0.0]:81" ∷ [], 0 ∷ []) ∷
    (codes "inet-[0.0.0.0]:1024" ∷ [], 0 ∷ []) ∷
    (codes "inet-[0.0.0.0]:80" ∷ [], 1 ∷ []) ∷
    (codes "inet-[0.0.0.0]:2000" ∷ [], 2 ∷ []) ∷
    (codes "inet-[0.0.0.0]:81" ∷ [], 4 ∷ []) ∷
    (codes "inet-[0.0.0.0]:80" ∷ [], 4 ∷ []) ∷
    (codes "inet-[0.0.0.0]:1024" ∷ [], 9 ∷ []) ∷
    (codes "inet-[0.0.0.0]:2000" ∷ [], 9 ∷ []) ∷
    (codes "inet-[0.0.0.0]:0" ∷ [], 3 ∷ []) ∷
    (codes "inet-[0.0.0.0]:80" ∷ [], 3 ∷ []) ∷
    (codes "inet-[0.0.0.0]:81" ∷ [], 3 ∷ []) ∷
    (codes "inet-[0.0.0.0]:1023" ∷ [], 3 ∷ []) ∷
    (codes "inet-[0.0.0.0]:2000" ∷ [], 3 ∷ []) ∷
    (codes "inet-[0.0.0.0]:1024" ∷ [], 3 ∷ []) ∷
    (codes "inet-[0.0.0.0]:65535" ∷ [], 3 ∷ []) ∷ [])
    ≡ replicate 3 (Failed EBADF) ++ replicate 9 (Failed EINVAL) ++ replicate 3 (Failed EACCES) ++
    (Failed EADDRINUSE ∷ Value 0 ∷ Value 0 ∷ [])
bind_refusals = refl

-- root may bind low ports, but no port in use, also by another process, and not port 0
bind_of_root : root_results Bind (
    (codes "inet-[0.0.0.0]:0" ∷ [], 3 ∷ []) ∷
    (codes "inet-[0.0.0.0]:81" ∷ [], 4 ∷ []) ∷
    (codes "inet-[0.0.0.0]:80" ∷ [], 3 ∷ []) ∷
    (codes "inet-[0.0.0.0]:90" ∷ [], 3 ∷ []) ∷
    (codes "inet-[0.0.0.0]:2000" ∷ [], 3 ∷ []) ∷
    (codes "inet-[0.0.0.0]:1" ∷ [], 3 ∷ []) ∷
    (codes "inet-[0.0.0.0]:81" ∷ [], 3 ∷ []) ∷
    (codes "inet-[0.0.0.0]:1023" ∷ [], 3 ∷ []) ∷ [])
    ≡ Failed EINVAL ∷ Failed EINVAL ∷ Failed EADDRINUSE ∷ Failed EADDRINUSE ∷ Failed EADDRINUSE ∷ Value 0 ∷ Value 0 ∷ Value 0 ∷ []
bind_of_root = refl

-- the effective user counts for low ports, and no other id
bind_by_effective_user : map (λ ids. (made world 1 ids Bind (codes "inet-[0.0.0.0]:81" ∷ []) (3 ∷ [])).result)
    (record user { euid = 0 } ∷ record user { ruid = 0 } ∷ record user { rgid = 0; egid = 0 } ∷ [])
    ≡ Value 0 ∷ Failed EACCES ∷ Failed EACCES ∷ []
bind_by_effective_user = refl

abbrev a_socket : Option ℕ → Bool → OpenFile
a_socket port connected = file_for true true false 0 (file.Socket port connected)

-- the world's table in which descriptor 3 is this socket
abbrev socket_as : Option ℕ → Bool → Table
socket_as port connected = table_of (with_changed 3 (a_socket port connected))

-- the socket has the port, and nothing else changes
bind_gives : made world 1 user Bind (codes "inet-[0.0.0.0]:1024" ∷ []) (3 ∷ []) ∷
    made world 1 root Bind (codes "inet-[0.0.0.0]:81" ∷ []) (3 ∷ []) ∷
    made world 1 user Bind (codes "inet-[0.0.0.0]:81" ∷ []) (3 ∷ []) ∷ []
    ≡ done 0 [] (socket_as (Some 1024) false) ∷ done 0 [] (socket_as (Some 81) false) ∷ failed EACCES ∷ []
bind_gives = refl

-- the descriptors after some calls
abbrev table_after : List (SysCall × List (List ℕ) × List ℕ) → Table
table_after calls = (after_calls world calls).descriptors

-- a socket is bound once, and a connected socket stays connected
bind_after_calls :
    table_after ((Connect, codes "inet-[0.0.0.0]:80" ∷ [], 3 ∷ []) ∷ (Bind, codes "inet-[0.0.0.0]:1024" ∷ [], 3 ∷ []) ∷ []) ∷
    table_after ((Bind, codes "inet-[0.0.0.0]:1024" ∷ [], 3 ∷ []) ∷ (Bind, codes "inet-[0.0.0.0]:1025" ∷ [], 3 ∷ []) ∷ []) ∷ []
    ≡ socket_as (Some 1024) true ∷ socket_as (Some 1024) false ∷ []
bind_after_calls = refl

-- the result of a bind to the port of descriptor 9 after some calls
abbrev port_after : List (SysCall × List (List ℕ) × List ℕ) → CallResult
port_after calls = (made (after_calls world calls) 1 user Bind (codes "inet-[0.0.0.0]:2000" ∷ []) (3 ∷ [])).result

-- the world in which descriptors 3 and 4 of process 3 are new sockets, whose open files are 10 and 11; its descriptor 9 isn't open, and
-- its descriptor 2 has port 90
abbrev third_world : System
third_world = after once (made once 3 user Socket [] (2 ∷ 1 ∷ [])) where
  once : System
  once = after world (made world 3 user Socket [] (2 ∷ 1 ∷ []))

-- each process binds and connects its own descriptors: 4 and 9 are bound in process 1, and 2 is a directory there
bind_by_process : results_in third_world 3 user Bind (map (λ fd. (codes "inet-[0.0.0.0]:1024" ∷ [], fd ∷ [])) (1 ∷ 2 ∷ 3 ∷ 4 ∷ 9 ∷ []))
    ≡ Failed EINVAL ∷ Failed EINVAL ∷ Value 0 ∷ Value 0 ∷ Failed EBADF ∷ []
bind_by_process = refl

connect_by_process : results_in third_world 3 user Connect (map (λ fd. (codes "inet-[0.0.0.0]:80" ∷ [], fd ∷ [])) (1 ∷ 2 ∷ 3 ∷ 4 ∷ 9 ∷ []))
    ≡ Failed EINVAL ∷ Value 0 ∷ Value 0 ∷ Value 0 ∷ Failed EBADF ∷ []
connect_by_process = refl

-- the open files from number 9 on
bind_and_connect_change_by_process : map (drop 9) (
    third_world.descriptors.files ∷
    (made third_world 3 user Bind (codes "inet-[0.0.0.0]:1024" ∷ []) (4 ∷ [])).descriptors.files ∷
    (made third_world 3 user Connect (codes "inet-[0.0.0.0]:80" ∷ []) (2 ∷ [])).descriptors.files ∷
    (made third_world 3 user Connect (codes "inet-[0.0.0.0]:80" ∷ []) (3 ∷ [])).descriptors.files ∷ [])
    ≡ (a_socket (Some 90) false ∷ new_socket ∷ new_socket ∷ []) ∷ (a_socket (Some 90) false ∷ new_socket ∷ a_socket (Some 1024) false ∷ []) ∷
    (a_socket (Some 90) true ∷ new_socket ∷ new_socket ∷ []) ∷ (a_socket (Some 90) false ∷ a_socket None true ∷ new_socket ∷ []) ∷ []
bind_and_connect_change_by_process = refl

-- A port is in use while one descriptor of its open file is open, across dups and forks.
port_is_free_after :
    port_after ((Close, [], 9 ∷ []) ∷ []) ∷
    port_after ((Dup, [], 9 ∷ []) ∷ (Close, [], 9 ∷ []) ∷ []) ∷
    port_after ((Dup, [], 9 ∷ []) ∷ (Close, [], 9 ∷ []) ∷ (Close, [], 8 ∷ []) ∷ []) ∷
    port_after ((Fork, [], []) ∷ (Close, [], 9 ∷ []) ∷ []) ∷ []
    ≡ Value 0 ∷ Failed EADDRINUSE ∷ Value 0 ∷ Failed EADDRINUSE ∷ []
port_is_free_after = refl

-- the result of a bind by root to the port of process 3 after that process closed one of its descriptors
abbrev port_after_close : ℕ → CallResult
port_after_close fd =
    (made (after world (made world 3 user Close [] (fd ∷ []))) 1 root Bind (codes "inet-[0.0.0.0]:90" ∷ []) (3 ∷ [])).result

port_of_another_process : port_after_close 2 ∷ port_after_close 0 ∷ [] ≡ Value 0 ∷ Failed EADDRINUSE ∷ []
port_of_another_process = refl

-- the reasons: not open; no socket, or a connected socket; a port that isn't in use
connect_refusals : results Connect (
    (codes "inet-[0.0.0.0]:81" ∷ [], 8 ∷ []) ∷
    (codes "inet-[0.0.0.0]:80" ∷ [], (2 ^ 32 + 3) ∷ []) ∷
    (codes "inet-[0.0.0.0]:81" ∷ [], 0 ∷ []) ∷
    (codes "inet-[0.0.0.0]:80" ∷ [], 0 ∷ []) ∷
    (codes "inet-[0.0.0.0]:81" ∷ [], 1 ∷ []) ∷
    (codes "inet-[0.0.0.0]:80" ∷ [], 2 ∷ []) ∷
    (codes "inet-[0.0.0.0]:81" ∷ [], 4 ∷ []) ∷
    (codes "inet-[0.0.0.0]:2000" ∷ [], 4 ∷ []) ∷
    (codes "inet-[0.0.0.0]:81" ∷ [], 3 ∷ []) ∷
    (codes "inet-[0.0.0.0]:0" ∷ [], 3 ∷ []) ∷
    (codes "inet-[0.0.0.0]:3" ∷ [], 9 ∷ []) ∷
    (codes "inet-[0.0.0.0]:80" ∷ [], 3 ∷ []) ∷
    (codes "inet-[0.0.0.0]:90" ∷ [], 3 ∷ []) ∷
    (codes "inet-[0.0.0.0]:2000" ∷ [], 3 ∷ []) ∷
    (codes "inet-[0.0.0.0]:2000" ∷ [], 9 ∷ []) ∷ [])
    ≡ replicate 2 (Failed EBADF) ++ replicate 6 (Failed EINVAL) ++ replicate 3 (Failed ECONNREFUSED) ++ replicate 4 (Value 0)
connect_refusals = refl

-- the socket is connected and keeps its port, and nothing else changes
connect_gives : made world 1 user Connect (codes "inet-[0.0.0.0]:90" ∷ []) (3 ∷ []) ∷
    made world 1 user Connect (codes "inet-[0.0.0.0]:80" ∷ []) (9 ∷ []) ∷
    made world 1 user Connect (codes "inet-[0.0.0.0]:81" ∷ []) (3 ∷ []) ∷ []
    ≡ done 0 [] (socket_as None true) ∷
    done 0 [] (table_of (with_changed 8 (a_socket (Some 2000) true))) ∷ failed ECONNREFUSED ∷ []
connect_gives = refl

-- the result of a connect of a descriptor to an address after one call
abbrev connect_after : SysCall × List (List ℕ) × List ℕ → ℕ → List ℕ → CallResult
connect_after call fd address = (made (after_calls world (call ∷ [])) 1 user Connect (address ∷ []) (fd ∷ [])).result

-- a socket is connected once, across all of its descriptors; a bound port can be connected to, and a closed port can't
connect_after_calls :
    connect_after (Connect, codes "inet-[0.0.0.0]:80" ∷ [], 3 ∷ []) 3 (codes "inet-[0.0.0.0]:80") ∷
    connect_after (Dup, [], 4 ∷ []) 8 (codes "inet-[0.0.0.0]:80") ∷
    connect_after (Close, [], 4 ∷ []) 3 (codes "inet-[0.0.0.0]:80") ∷
    connect_after (Bind, codes "inet-[0.0.0.0]:4000" ∷ [], 3 ∷ []) 9 (codes "inet-[0.0.0.0]:4000") ∷ []
    ≡ Failed EINVAL ∷ Failed EINVAL ∷ Failed ECONNREFUSED ∷ Value 0 ∷ []
connect_after_calls = refl
