-- Examples of the calls close, read, write, lseek and dup, computed from the table of calls: their refusals in order, their outcomes,
-- and the changes of open files that several descriptors share. Descriptors 1 and 10 of process 1 and descriptor 1 of process 3
-- share the open file 1.
use Rattle.std.proofs.Common.{◌≡◌, ℕ, true, false, [], ◌∷◌, ◌++◌, map, Some, None, refl, codes, replicate}
use Rattle.std.specs.Prelude.{◌^◌, ◌-◌, take}
use Rattle.st_model.specs.Descriptors.{Table}
use Rattle.st_base.specs.declared.errno.Errno.TheVariants.{EBADF, EFAULT, EISDIR, EINVAL, EMFILE, ENOSPC}
use Rattle.st_model.specs.declared.open_file.FileKind.TheVariants as file
use Rattle.st_calls.specs.declared.call.SysCall.TheVariants.{Open, Close, Read, Write, Lseek, Dup, Socket}
use Rattle.st_model.specs.Tree.{node_with_number}
use Rattle.st_effects.specs.System.{System}
use Rattle.st_trace.specs.declared.entry.CallResult.TheVariants.{Value, Failed}
use Rattle.st_trace.specs.declared.entry.Change.TheVariants.{Put, Written}
use Rattle.st_effects.proofs.World.{world, descriptors, user, root, made, results, changes}
use Rattle.st_effects.proofs.Outcomes.{file_for, led_to, with_changed, with_new, table_with, table_of, done, gave, failed, after_calls, results_in}

-- a descriptor that isn't open can't be closed; all bits of the register count
close_refusals : results Close (map (λ fd. ([], fd ∷ []))
    (8 ∷ 11 ∷ 63 ∷ 64 ∷ (2 ^ 32) ∷ (2 ^ 64 - 1) ∷ 0 ∷ 1 ∷ 2 ∷ 3 ∷ 4 ∷ 5 ∷ 6 ∷ 7 ∷ 9 ∷ 10 ∷ []))
    ≡ replicate 6 (Failed EBADF) ++ replicate 10 (Value 0)
close_refusals = refl

-- the descriptor is free, and nothing else changes: the open file stays for the descriptors that share it
close_frees : made world 1 user Close [] (1 ∷ []) ∷ made world 1 user Close [] (4 ∷ []) ∷ made world 1 user Close [] (8 ∷ []) ∷ []
    ≡ done 0 [] (table_with (led_to 1 None) descriptors.files) ∷ done 0 [] (table_with (led_to 4 None) descriptors.files) ∷
    failed EBADF ∷ []
close_frees = refl

-- each process has its own descriptors: the descriptors of process 1 other than 0, 1 and 2 aren't open in process 3
close_by_process : results_in world 3 user Close (map (λ fd. ([], fd ∷ [])) (0 ∷ 1 ∷ 2 ∷ 3 ∷ 5 ∷ 10 ∷ [])) ++
    results_in world 2 root Close (map (λ fd. ([], fd ∷ [])) (8 ∷ 63 ∷ 64 ∷ []))
    ≡ replicate 3 (Value 0) ++ replicate 3 (Failed EBADF) ++ (Value 0 ∷ Value 0 ∷ Failed EBADF ∷ [])
close_by_process = refl

close_of_another_process : made world 3 user Close [] (1 ∷ [])
    ≡ done 0 [] (record {
      processes = take 2 descriptors.processes ++ (3, Some 0 ∷ None ∷ Some 9 ∷ replicate 61 None) ∷ [];
      files = descriptors.files;
    })
close_of_another_process = refl

abbrev closed : System
closed = after_calls world ((Close, [], 1 ∷ []) ∷ [])

-- after descriptor 1 is closed, descriptor 10 and process 3 still read, and descriptor 1 can neither be read nor closed again
close_leaves_shares :
    (made closed 1 user Read [] (10 ∷ 8 ∷ 9 ∷ [])).result ∷ (made closed 3 user Read [] (1 ∷ 8 ∷ 9 ∷ [])).result ∷
    (made closed 1 user Read [] (1 ∷ 8 ∷ 9 ∷ [])).result ∷ (made closed 1 user Close [] (1 ∷ [])).result ∷ []
    ≡ Value 2 ∷ Value 2 ∷ Failed EBADF ∷ Failed EBADF ∷ []
close_leaves_shares = refl

-- the world in which process 1 has open files that no call opens: a socket and a directory that aren't open for reading, a socket that
-- isn't open for writing, and a link; they show the order of reasons that can't otherwise hold together
abbrev odd_world : System
odd_world = record world {
  descriptors = record {
    processes = (1, Some 0 ∷ Some 1 ∷ Some 2 ∷ Some 3 ∷ replicate 60 None) ∷ [];
    files = file_for false true false 0 (file.Socket None false) ∷ file_for false true false 0 (file.Node 2) ∷
        file_for true false false 0 (file.Socket None false) ∷ file_for true true false 0 (file.Node 8) ∷ [];
  };
}

-- the reasons: not open, or not open for reading; a socket; a directory; a buffer outside memory
read_refusals : results Read (
    ([], 8 ∷ 65536 ∷ 1 ∷ []) ∷
    ([], 64 ∷ 8 ∷ 1 ∷ []) ∷
    ([], (2 ^ 32) ∷ 8 ∷ 1 ∷ []) ∷
    ([], 5 ∷ 65536 ∷ 1 ∷ []) ∷
    ([], 5 ∷ 8 ∷ 1 ∷ []) ∷
    ([], 6 ∷ 8 ∷ 0 ∷ []) ∷
    ([], 3 ∷ 65536 ∷ 1 ∷ []) ∷
    ([], 4 ∷ 8 ∷ 0 ∷ []) ∷
    ([], 2 ∷ 65536 ∷ 1 ∷ []) ∷
    ([], 2 ∷ 8 ∷ 0 ∷ []) ∷
    ([], 1 ∷ 65536 ∷ 1 ∷ []) ∷
    ([], 1 ∷ 65535 ∷ 2 ∷ []) ∷
    ([], 1 ∷ 65537 ∷ 0 ∷ []) ∷
    ([], 1 ∷ 8 ∷ (2 ^ 64 - 8) ∷ []) ∷
    ([], 0 ∷ 65536 ∷ 1 ∷ []) ∷ [])
    ≡ replicate 6 (Failed EBADF) ++ (Failed EINVAL ∷ Failed EINVAL ∷ Failed EISDIR ∷ Failed EISDIR ∷ replicate 5 (Failed EFAULT))
read_refusals = refl

-- descriptor 2 of process 3 is a socket, and its descriptor 7 isn't open; descriptor 0 of process 2 refers to the open file 1
read_by_process : results_in world 3 user Read (map (λ fd. ([], fd ∷ 8 ∷ 9 ∷ [])) (0 ∷ 1 ∷ 2 ∷ 7 ∷ [])) ++
    results_in world 2 root Read (map (λ fd. ([], fd ∷ 8 ∷ 9 ∷ [])) (0 ∷ 1 ∷ 2 ∷ 3 ∷ []))
    ≡ Value 0 ∷ Value 2 ∷ Failed EINVAL ∷ Failed EBADF ∷ Value 2 ∷ Failed EISDIR ∷ Failed EINVAL ∷ Value 0 ∷ []
read_by_process = refl

read_refusals_in_order : results_in odd_world 1 user Read (map (λ fd. ([], fd ∷ 65536 ∷ 1 ∷ [])) (0 ∷ 1 ∷ 2 ∷ []))
    ≡ Failed EBADF ∷ Failed EBADF ∷ Failed EINVAL ∷ []
read_refusals_in_order = refl

-- the bytes from the offset on, as many as are requested and exist, also up to the end of memory; the console has none
read_gives : results Read (
    ([], 1 ∷ 8 ∷ 9 ∷ []) ∷
    ([], 1 ∷ 8 ∷ 2 ∷ []) ∷
    ([], 1 ∷ 8 ∷ 1 ∷ []) ∷
    ([], 1 ∷ 8 ∷ 0 ∷ []) ∷
    ([], 7 ∷ 8 ∷ 9 ∷ []) ∷
    ([], 1 ∷ 65534 ∷ 2 ∷ []) ∷
    ([], 1 ∷ 65536 ∷ 0 ∷ []) ∷
    ([], 1 ∷ 0 ∷ 65536 ∷ []) ∷
    ([], 0 ∷ 8 ∷ 9 ∷ []) ∷
    ([], 0 ∷ 65528 ∷ 8 ∷ []) ∷ [])
    ≡ Value 2 ∷ Value 2 ∷ Value 1 ∷ Value 0 ∷ Value 1 ∷ Value 2 ∷ Value 0 ∷ Value 2 ∷ Value 0 ∷ Value 0 ∷ []
read_gives = refl

read_puts : changes Read [] (1 ∷ 8 ∷ 9 ∷ []) ∷ changes Read [] (10 ∷ 9 ∷ 1 ∷ []) ∷ changes Read [] (7 ∷ 65528 ∷ 8 ∷ []) ∷
    changes Read [] (1 ∷ 8 ∷ 0 ∷ []) ∷ changes Read [] (0 ∷ 8 ∷ 9 ∷ []) ∷ []
    ≡ (Put 1 8 (codes "bc") ∷ []) ∷ (Put 1 9 (codes "b") ∷ []) ∷ (Put 1 65528 (codes "c") ∷ []) ∷ [] ∷ [] ∷ []
read_puts = refl

-- the bytes go to the memory of the process that reads: process 3 has memory 6
read_puts_into_own_memory :
    (made world 2 root Read [] (0 ∷ 8 ∷ 9 ∷ [])).changes ∷ (made world 3 user Read [] (1 ∷ 16 ∷ 1 ∷ [])).changes ∷ []
    ≡ (Put 2 8 (codes "bc") ∷ []) ∷ (Put 6 16 (codes "b") ∷ []) ∷ []
read_puts_into_own_memory = refl

-- the world's table in which the open file 1 has this offset
abbrev reader_at : ℕ → Table
reader_at offset = table_of (with_changed 1 (file_for true false false offset (file.Node 3)))

-- the offset moves by the number of bytes that were read, for all descriptors that share the open file, and for no other open file of
-- the same object
read_moves : (made world 1 user Read [] (1 ∷ 8 ∷ 1 ∷ [])).descriptors ∷ (made world 1 user Read [] (10 ∷ 8 ∷ 1 ∷ [])).descriptors ∷
    (made world 3 user Read [] (1 ∷ 8 ∷ 1 ∷ [])).descriptors ∷ (made world 1 user Read [] (1 ∷ 8 ∷ 9 ∷ [])).descriptors ∷
    (made world 1 user Read [] (7 ∷ 8 ∷ 9 ∷ [])).descriptors ∷ (made world 1 user Read [] (1 ∷ 8 ∷ 0 ∷ [])).descriptors ∷
    (made world 1 user Read [] (0 ∷ 8 ∷ 9 ∷ [])).descriptors ∷ []
    ≡ reader_at 2 ∷ reader_at 2 ∷ reader_at 2 ∷ reader_at 3 ∷ table_of (with_changed 7 (file_for true true false 3 (file.Node 3))) ∷
    descriptors ∷ descriptors ∷ []
read_moves = refl

-- one descriptor continues reading where another of the same open file stopped; past the end there are no bytes, and the offset stays
read_goes_on : (made (after_calls world ((Read, [], 1 ∷ 8 ∷ 1 ∷ []) ∷ [])) 3 user Read [] (1 ∷ 8 ∷ 9 ∷ [])).changes ∷
    (made (after_calls world ((Read, [], 1 ∷ 8 ∷ 2 ∷ []) ∷ [])) 1 user Read [] (10 ∷ 8 ∷ 9 ∷ [])).changes ∷
    (made (after_calls world ((Lseek, [], 1 ∷ 100 ∷ 0 ∷ []) ∷ [])) 1 user Read [] (1 ∷ 8 ∷ 9 ∷ [])).changes ∷ []
    ≡ (Put 6 8 (codes "c") ∷ []) ∷ [] ∷ [] ∷ []
read_goes_on = refl

read_after_the_end :
    (after_calls world ((Lseek, [], 1 ∷ 100 ∷ 0 ∷ []) ∷ (Read, [], 1 ∷ 8 ∷ 9 ∷ []) ∷ [])).descriptors ≡ reader_at 100
read_after_the_end = refl

-- the reasons: not open, or not open for writing; a socket; a buffer outside memory; no room
write_refusals : results Write (
    ([], 8 ∷ 65536 ∷ 1 ∷ []) ∷
    ([], (2 ^ 64 - 1) ∷ 8 ∷ 1 ∷ []) ∷
    ([], 1 ∷ 65536 ∷ 1 ∷ []) ∷
    ([], 1 ∷ 8 ∷ 0 ∷ []) ∷
    ([], 2 ∷ 8 ∷ 1 ∷ []) ∷
    ([], 3 ∷ 65536 ∷ 1 ∷ []) ∷
    ([], 4 ∷ 8 ∷ 0 ∷ []) ∷
    ([], 5 ∷ 65536 ∷ 3 ∷ []) ∷
    ([], 5 ∷ 65534 ∷ 3 ∷ []) ∷
    ([], 7 ∷ 65537 ∷ 0 ∷ []) ∷
    ([], 7 ∷ 8 ∷ (2 ^ 64 - 8) ∷ []) ∷
    ([], 0 ∷ 65536 ∷ 1 ∷ []) ∷
    ([], 5 ∷ 8 ∷ 3 ∷ []) ∷
    ([], 6 ∷ 0 ∷ 65534 ∷ []) ∷
    ([], 7 ∷ 0 ∷ 65535 ∷ []) ∷ [])
    ≡ replicate 5 (Failed EBADF) ++ (Failed EINVAL ∷ Failed EINVAL ∷ replicate 5 (Failed EFAULT) ++ replicate 3 (Failed ENOSPC))
write_refusals = refl

write_by_process : results_in world 3 user Write (map (λ fd. ([], fd ∷ 8 ∷ 9 ∷ [])) (0 ∷ 1 ∷ 2 ∷ 7 ∷ [])) ++
    results_in world 2 root Write (map (λ fd. ([], fd ∷ 8 ∷ 9 ∷ [])) (0 ∷ 2 ∷ 3 ∷ 7 ∷ []))
    ≡ Value 9 ∷ Failed EBADF ∷ Failed EINVAL ∷ Failed EBADF ∷ Failed EBADF ∷ Failed EINVAL ∷ Value 9 ∷ Value 9 ∷ []
write_by_process = refl

write_refusals_in_order : (made odd_world 1 user Write [] (2 ∷ 8 ∷ 1 ∷ [])).result ∷ []
    ≡ Failed EBADF ∷ []
write_refusals_in_order = refl

-- bytes up to the greatest length of a file are written, and the console accepts all bytes
write_gives : results Write (
    ([], 5 ∷ 8 ∷ 2 ∷ []) ∷
    ([], 5 ∷ 65534 ∷ 2 ∷ []) ∷
    ([], 5 ∷ 65536 ∷ 0 ∷ []) ∷
    ([], 6 ∷ 0 ∷ 1 ∷ []) ∷
    ([], 7 ∷ 8 ∷ 7 ∷ []) ∷
    ([], 0 ∷ 8 ∷ 9 ∷ []) ∷
    ([], 0 ∷ 0 ∷ 65536 ∷ []) ∷
    ([], 0 ∷ 65536 ∷ 0 ∷ []) ∷ [])
    ≡ Value 2 ∷ Value 2 ∷ Value 0 ∷ Value 1 ∷ Value 7 ∷ Value 9 ∷ Value 65536 ∷ Value 0 ∷ []
write_gives = refl

-- Byte b of memory s is b + s here. The bytes go to the offset, the end of the written bytes is the new offset, and nothing else changes.
write_changes : made world 1 user Write [] (7 ∷ 8 ∷ 2 ∷ [])
    ≡ done 2 (Written 3 2 (9 ∷ 10 ∷ []) ∷ []) (table_of (with_changed 7 (file_for true true false 4 (file.Node 3))))
write_changes = refl

write_near_the_end : made world 1 user Write [] (5 ∷ 100 ∷ 2 ∷ [])
    ≡ done 2 (Written 3 65534 (101 ∷ 102 ∷ []) ∷ []) (table_of (with_changed 5 (file_for false true false 65536 (file.Node 3))))
write_near_the_end = refl

-- with append the bytes go to the file's end, wherever the offset is
write_appends : made world 1 user Write [] (6 ∷ 8 ∷ 2 ∷ [])
    ≡ done 2 (Written 3 3 (9 ∷ 10 ∷ []) ∷ []) (table_of (with_changed 6 (file_for false true true 5 (file.Node 3))))
write_appends = refl

-- the world after an append, and after an append and a seek to the start
abbrev appended : System
appended = after_calls world ((Write, [], 6 ∷ 8 ∷ 2 ∷ []) ∷ [])

abbrev sought_back : System
sought_back = after_calls world ((Write, [], 6 ∷ 8 ∷ 2 ∷ []) ∷ (Lseek, [], 6 ∷ 0 ∷ 0 ∷ []) ∷ [])

-- the file is longer by two bytes then; an open file without append writes at its own offset
write_appends_again : (made appended 1 user Write [] (6 ∷ 8 ∷ 1 ∷ [])).changes ∷ (made sought_back 1 user Write [] (6 ∷ 8 ∷ 1 ∷
    [])).changes ∷
    (made appended 1 user Write [] (7 ∷ 8 ∷ 1 ∷ [])).changes ∷ []
    ≡ (Written 3 5 (9 ∷ []) ∷ []) ∷ (Written 3 5 (9 ∷ []) ∷ []) ∷ (Written 3 2 (9 ∷ []) ∷ []) ∷ []
write_appends_again = refl

-- a write of no bytes changes nothing, and a write to the console changes nothing
write_of_no_bytes : made world 1 user Write [] (7 ∷ 8 ∷ 0 ∷ []) ∷ made world 1 user Write [] (6 ∷ 8 ∷ 0 ∷ []) ∷
    made world 1 user Write [] (5 ∷ 65536 ∷ 0 ∷ []) ∷ made world 1 user Write [] (0 ∷ 8 ∷ 9 ∷ []) ∷
    made world 1 user Write [] (5 ∷ 8 ∷ 3 ∷ []) ∷ []
    ≡ gave 0 [] ∷ gave 0 [] ∷ gave 0 [] ∷ gave 9 [] ∷ failed ENOSPC ∷ []
write_of_no_bytes = refl

-- the world's table in which descriptor 3 of process 3 is /d/f, open for reading and writing
abbrev written_by_third : Table
written_by_third = record {
  processes = take 2 descriptors.processes ++ (3, Some 0 ∷ Some 1 ∷ Some 9 ∷ Some 10 ∷ replicate 60 None) ∷ [];
  files = with_new (file_for true true false 0 (file.Node 3));
}

-- the bytes come from the memory of the process that writes: process 3 has memory 6, and writes to its own open file
write_from_own_memory : made (record world { descriptors = written_by_third }) 3 user Write [] (3 ∷ 8 ∷ 2 ∷ [])
    ≡ done 2 (Written 3 0 (14 ∷ 15 ∷ []) ∷ []) (record written_by_third { files = with_new (file_for true true false 2 (file.Node 3)) })
write_from_own_memory = refl

-- a gap is filled with zeros, and the bytes before and after don't change
write_makes : (node_with_number (after_calls world ((Write, [], 7 ∷ 8 ∷ 2 ∷ []) ∷ [])).tree 3).content ∷
    (node_with_number (after_calls world ((Lseek, [], 7 ∷ 1 ∷ 0 ∷ []) ∷ (Write, [], 7 ∷ 8 ∷ 1 ∷ []) ∷ [])).tree 3).content ∷
    (node_with_number (after_calls world ((Lseek, [], 7 ∷ 5 ∷ 0 ∷ []) ∷ (Write, [], 7 ∷ 8 ∷ 1 ∷ []) ∷ [])).tree 3).content ∷ []
    ≡ (97 ∷ 98 ∷ 9 ∷ 10 ∷ []) ∷ (97 ∷ 9 ∷ 99 ∷ []) ∷ (97 ∷ 98 ∷ 99 ∷ 0 ∷ 0 ∷ 9 ∷ []) ∷ []
write_makes = refl

-- the reasons: not open; no file; no such `whence`; an offset below 0 or above 65,536
lseek_refusals : results Lseek (
    ([], 8 ∷ 0 ∷ 3 ∷ []) ∷
    ([], 64 ∷ 0 ∷ 0 ∷ []) ∷
    ([], 0 ∷ 0 ∷ 0 ∷ []) ∷
    ([], 2 ∷ 0 ∷ 0 ∷ []) ∷
    ([], 3 ∷ 0 ∷ 0 ∷ []) ∷
    ([], 4 ∷ 0 ∷ 2 ∷ []) ∷
    ([], 1 ∷ 0 ∷ 3 ∷ []) ∷
    ([], 1 ∷ 0 ∷ (2 ^ 32) ∷ []) ∷
    ([], 1 ∷ (2 ^ 64 - 1) ∷ 0 ∷ []) ∷
    ([], 1 ∷ (2 ^ 63) ∷ 0 ∷ []) ∷
    ([], 1 ∷ (2 ^ 63 - 1) ∷ 0 ∷ []) ∷
    ([], 1 ∷ 65537 ∷ 0 ∷ []) ∷
    ([], 1 ∷ (2 ^ 64 - 2) ∷ 1 ∷ []) ∷
    ([], 5 ∷ 3 ∷ 1 ∷ []) ∷
    ([], 1 ∷ (2 ^ 64 - 4) ∷ 2 ∷ []) ∷
    ([], 1 ∷ 65534 ∷ 2 ∷ []) ∷ [])
    ≡ Failed EBADF ∷ Failed EBADF ∷ replicate 14 (Failed EINVAL)
lseek_refusals = refl

-- from the start, from the offset, from the size of the file, forwards and backwards; registers that aren't given are 0
lseek_gives : results Lseek (
    ([], 1 ∷ 0 ∷ 0 ∷ []) ∷
    ([], 1 ∷ 5 ∷ 0 ∷ []) ∷
    ([], 1 ∷ 65536 ∷ 0 ∷ []) ∷
    ([], 1 ∷ 0 ∷ 1 ∷ []) ∷
    ([], 1 ∷ 2 ∷ 1 ∷ []) ∷
    ([], 1 ∷ (2 ^ 64 - 1) ∷ 1 ∷ []) ∷
    ([], 5 ∷ 2 ∷ 1 ∷ []) ∷
    ([], 5 ∷ (2 ^ 64 - 65534) ∷ 1 ∷ []) ∷
    ([], 1 ∷ 0 ∷ 2 ∷ []) ∷
    ([], 1 ∷ (2 ^ 64 - 3) ∷ 2 ∷ []) ∷
    ([], 1 ∷ 65533 ∷ 2 ∷ []) ∷
    ([], 6 ∷ 1 ∷ 2 ∷ []) ∷
    ([], 5 ∷ (2 ^ 64 - 4) ∷ 1 ∷ []) ∷
    ([], 1 ∷ (2 ^ 64 - 1) ∷ 2 ∷ []) ∷
    ([], 1 ∷ []) ∷ [])
    ≡ Value 0 ∷ Value 5 ∷ Value 65536 ∷ Value 1 ∷ Value 3 ∷ Value 0 ∷ Value 65536 ∷ Value 0 ∷ Value 3 ∷ Value 0 ∷ Value 65536 ∷
    Value 4 ∷ Value 65530 ∷ Value 2 ∷ Value 0 ∷ []
lseek_gives = refl

lseek_by_process : results_in world 3 user Lseek (map (λ fd. ([], fd ∷ 0 ∷ 1 ∷ [])) (0 ∷ 1 ∷ 2 ∷ 7 ∷ [])) ++
    results_in world 2 root Lseek (map (λ fd. ([], fd ∷ 0 ∷ 1 ∷ [])) (0 ∷ 1 ∷ 7 ∷ [])) ++
    ((made world 2 root Lseek [] (0 ∷ 7 ∷ 0 ∷ [])).result ∷ [])
    ≡ Failed EINVAL ∷ Value 1 ∷ Failed EINVAL ∷ Failed EBADF ∷ Value 1 ∷ Failed EINVAL ∷ Failed EINVAL ∷ Value 7 ∷ []
lseek_by_process = refl

-- the open file is that of the calling process: descriptor 0 differs between process 2 and process 1
read_and_lseek_move_by_process : (made world 2 root Read [] (0 ∷ 8 ∷ 1 ∷ [])).descriptors ∷
    (made world 2 root Lseek [] (0 ∷ 7 ∷ 0 ∷ [])).descriptors ∷ [] ≡ reader_at 2 ∷ reader_at 7 ∷ []
read_and_lseek_move_by_process = refl

-- a link has no offsets
lseek_of_a_link : results_in odd_world 1 user Lseek (([], 3 ∷ 0 ∷ 0 ∷ []) ∷ []) ≡ Failed EINVAL ∷ []
lseek_of_a_link = refl

-- the offset changes for all descriptors that share the open file, and for no other open file of the same object
lseek_moves : made world 1 user Lseek [] (10 ∷ 7 ∷ 0 ∷ []) ∷ made world 3 user Lseek [] (1 ∷ 7 ∷ 0 ∷ []) ∷
    made world 1 user Lseek [] (7 ∷ 7 ∷ 1 ∷ []) ∷ made world 1 user Lseek [] (1 ∷ 65537 ∷ 0 ∷ []) ∷ []
    ≡ done 7 [] (reader_at 7) ∷ done 7 [] (reader_at 7) ∷ done 9 [] (table_of (with_changed 7 (file_for true true false 9 (file.Node 3)))) ∷
    failed EINVAL ∷ []
lseek_moves = refl

-- a descriptor that isn't open is reported before the lack of a free descriptor: process 2 has none free
dup_refusals : results Dup (map (λ fd. ([], fd ∷ [])) (8 ∷ 70 ∷ (2 ^ 64 - 1) ∷ [])) ++
    results_in world 2 root Dup (map (λ fd. ([], fd ∷ [])) (64 ∷ 70 ∷ 0 ∷ 3 ∷ 63 ∷ []))
    ≡ replicate 5 (Failed EBADF) ++ replicate 3 (Failed EMFILE)
dup_refusals = refl

-- the least free descriptor refers to the same open file, and nothing else changes
dup_gives : made world 1 user Dup [] (1 ∷ []) ∷ made world 1 user Dup [] (4 ∷ []) ∷ made world 1 user Dup [] (9 ∷ []) ∷
    made world 1 user Dup [] (8 ∷ []) ∷ []
    ≡ done 8 [] (table_with (led_to 8 (Some 1)) descriptors.files) ∷ done 8 [] (table_with (led_to 8 (Some 4)) descriptors.files) ∷
    done 8 [] (table_with (led_to 8 (Some 8)) descriptors.files) ∷ failed EBADF ∷ []
dup_gives = refl

dup_by_process : results_in world 3 user Dup (map (λ fd. ([], fd ∷ [])) (0 ∷ 1 ∷ 2 ∷ 3 ∷ 7 ∷ []))
    ≡ Value 3 ∷ Value 3 ∷ Value 3 ∷ Failed EBADF ∷ Failed EBADF ∷ []
dup_by_process = refl

dup_of_another_process : made world 3 user Dup [] (2 ∷ [])
    ≡ done 3 [] (record {
      processes = take 2 descriptors.processes ++ (3, Some 0 ∷ Some 1 ∷ Some 9 ∷ Some 9 ∷ replicate 60 None) ∷ [];
      files = descriptors.files;
    })
dup_of_another_process = refl

-- an offset that one descriptor moves is the offset of the other
dup_shares :
    (made (after_calls world ((Dup, [], 7 ∷ []) ∷ (Lseek, [], 8 ∷ 0 ∷ 0 ∷ []) ∷ [])) 1 user Read [] (7 ∷ 8 ∷ 9 ∷ [])).changes
    ≡ Put 1 8 (codes "abc") ∷ []
dup_shares = refl

abbrev nearly_all_taken : System
nearly_all_taken = record world {
  descriptors = record {
    processes = (1, replicate 63 (Some 1) ++ None ∷ []) ∷ [];
    files = descriptors.files;
  };
}

-- descriptor 63 is the last: a process with 63 open descriptors gets it, and then no descriptor is free
last_descriptor : results_in nearly_all_taken 1 user Dup (([], 0 ∷ []) ∷ []) ++
    results_in nearly_all_taken 1 user Open ((codes "/d/f" ∷ [], 0 ∷ 0 ∷ []) ∷ []) ++
    results_in nearly_all_taken 1 user Socket (([], 2 ∷ 1 ∷ []) ∷ []) ++
    results_in (after_calls nearly_all_taken ((Dup, [], 0 ∷ []) ∷ [])) 1 user Dup (([], 63 ∷ []) ∷ []) ++
    results_in (after_calls nearly_all_taken ((Dup, [], 0 ∷ []) ∷ (Close, [], 63 ∷ []) ∷ [])) 1 user Dup (([], 62 ∷ []) ∷ [])
    ≡ Value 63 ∷ Value 63 ∷ Value 63 ∷ Failed EMFILE ∷ Value 63 ∷ []
last_descriptor = refl
