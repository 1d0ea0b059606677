-- Examples of how each kind of argument is spelled by its register and the words that were copied for it.
use Rattle.std.proofs.Common.{◌≡◌, ℕ, zero, suc, List, [], ◌∷◌, ◌++◌, map, refl, replicate, codes, take, drop}
use Rattle.std.specs.Prelude.{◌+◌, ◌-◌, ◌/◌, ◌^◌}
use Rattle.std.specs.Fmt.{digits}
use Rattle.std.specs.Int.{w64, from_le_bytes}
use Rattle.st_base.specs.declared.errno.Errno.TheVariants.{E2BIG, EFAULT, EINVAL, ENAMETOOLONG}
use Rattle.st_model.specs.Spelling.{Spelled, Text, Fault, More, spell}
use Rattle.st_calls.specs.declared.argument.PartKind.{PartKind}
use Rattle.st_calls.specs.declared.argument.PartKind.TheVariants as kind

-- this many words of these bytes, with zeros after them
abbrev pub words_of : ℕ → List ℕ → List ℕ
words_of zero bytes = []
words_of (suc count) bytes = from_le_bytes w64 (take 8 (bytes ++ replicate 8 0)) ∷ words_of count (drop 8 bytes)

-- every byte of a word
abbrev eight : List ℕ
eight = 0 ∷ 1 ∷ 2 ∷ 3 ∷ 4 ∷ 5 ∷ 6 ∷ 7 ∷ []

-- the spelling of a text that begins at this byte of a word, if the words have the whole text and a zero byte
abbrev spelled_from : PartKind → List ℕ → ℕ → Spelled
spelled_from kind text byte = spell kind (80 + byte) (words_of 200 (replicate byte 120 ++ text))

-- the first word is the word in which the text begins, if memory has it
name_begins : map (λ at. spell kind.Name at []) (0 ∷ 8 ∷ 15 ∷ 16 ∷ 65535 ∷ 65536 ∷ (2 ^ 64 - 1) ∷ []) ≡
    More 0 ∷ More 1 ∷ More 1 ∷ More 2 ∷ More 8191 ∷ Fault EFAULT ∷ Fault EFAULT ∷ []
name_begins = refl

-- one more word is needed until a zero byte is among the bytes from the first on: a text of six bytes, from every byte of its first
-- word
name_goes_on : map (λ byte. spell kind.Name (80 + byte) (words_of 1 (replicate byte 0 ++ codes "/a/b/c"))) eight ≡
    Text (codes "/a/b/c") ∷ Text (codes "/a/b/c") ∷ More 11 ∷ More 11 ∷ More 11 ∷ More 11 ∷ More 11 ∷ More 11 ∷ []
name_goes_on = refl

name_goes_on_twice : map (λ byte. spell kind.Name (80 + byte) (words_of 2 (replicate byte 0 ++ codes "/a/b/c/d/e"))) eight ≡
    Text (codes "/a/b/c/d/e") ∷ Text (codes "/a/b/c/d/e") ∷ Text (codes "/a/b/c/d/e") ∷ Text (codes "/a/b/c/d/e") ∷ Text (codes "/a/b/c/d/e") ∷
    Text (codes "/a/b/c/d/e") ∷ More 12 ∷ More 12 ∷ []
name_goes_on_twice = refl

-- a text may be empty, and may end with memory; bytes after its zero byte don't belong to it
name_ends : spell kind.Name 8 (0 ∷ []) ∷
    spell kind.Name 8 (words_of 1 (codes "ab" ++ (0 ∷ codes "cd"))) ∷
    spell kind.Name 65528 (words_of 1 (codes "1234567")) ∷
    spell kind.Name 65535 (words_of 1 (codes "1234567")) ∷ [] ≡
    Text [] ∷ Text (codes "ab") ∷ Text (codes "1234567") ∷ Text [] ∷ []
name_ends = refl

name_goes_on_after_memory : spell kind.Name 65528 (words_of 1 (codes "12345678")) ∷ spell kind.Name 65535 (words_of 1 (codes "12345678")) ∷
    spell kind.Name 65520 (words_of 1 (codes "12345678")) ∷ [] ≡
    Fault EFAULT ∷ Fault EFAULT ∷ More 8191 ∷ []
name_goes_on_after_memory = refl

-- a name has up to 1,024 bytes, from whichever byte of a word
name_of_1024_bytes : map (spelled_from kind.Name (replicate 1024 97)) eight ≡ replicate 8 (Text (replicate 1024 97))
name_of_1024_bytes = refl

name_of_1025_bytes : map (spelled_from kind.Name (replicate 1025 97)) eight ≡ replicate 8 (Fault ENAMETOOLONG)
name_of_1025_bytes = refl

-- 1,024 bytes don't show whether one more follows; the last word shows it, also if it ends with memory
name_of_1024_bytes_so_far : spell kind.Name 80 (words_of 128 (replicate 1024 97)) ∷
    spell kind.Name 64512 (words_of 128 (replicate 1024 97)) ∷
    spell kind.Name 64511 (words_of 129 (replicate 1032 97)) ∷ [] ≡
    More 138 ∷ Fault EFAULT ∷ Fault ENAMETOOLONG ∷ []
name_of_1024_bytes_so_far = refl

-- a plain text is spelled in the same way, and has up to 255 bytes
plain_text : spell kind.Plain 19 [] ∷
    spell kind.Plain 65536 [] ∷
    spell kind.Plain 19 (words_of 1 (codes "xxxhello")) ∷
    spell kind.Plain 19 (words_of 2 (codes "xxxhello world")) ∷
    spell kind.Plain 19 (words_of 1 (codes "xxx")) ∷
    spell kind.Plain 65528 (words_of 1 (codes "12345678")) ∷ [] ≡
    More 2 ∷ Fault EFAULT ∷ More 3 ∷ Text (codes "hello world") ∷ Text [] ∷ Fault EFAULT ∷ []
plain_text = refl

text_of_255_bytes : map (spelled_from kind.Plain (replicate 255 97)) eight ≡ replicate 8 (Text (replicate 255 97))
text_of_255_bytes = refl

text_of_256_bytes : map (spelled_from kind.Plain (replicate 256 97)) eight ≡ replicate 8 (Fault ENAMETOOLONG)
text_of_256_bytes = refl

-- an address is one word, and begins at a word
address_places : map (λ at. spell kind.Addr at []) (0 ∷ 8 ∷ 9 ∷ 12 ∷ 15 ∷ 65528 ∷ 65529 ∷ 65536 ∷ (2 ^ 64 - 8) ∷ []) ≡
    More 0 ∷ More 1 ∷ Fault EFAULT ∷ Fault EFAULT ∷ Fault EFAULT ∷ More 8191 ∷ Fault EFAULT ∷ Fault EFAULT ∷ Fault EFAULT ∷ []
address_places = refl

-- its length is ignored, its family has to be 2, and its port has the high byte first
addresses : map (λ bytes. spell kind.Addr 65528 (words_of 1 bytes)) (
    (16 ∷ 2 ∷ 31 ∷ 144 ∷ 10 ∷ 20 ∷ 30 ∷ 1 ∷ []) ∷
    (0 ∷ 2 ∷ 0 ∷ 0 ∷ 0 ∷ 0 ∷ 0 ∷ 0 ∷ []) ∷
    (255 ∷ 2 ∷ 255 ∷ 255 ∷ 255 ∷ 254 ∷ 253 ∷ 252 ∷ []) ∷
    (16 ∷ 1 ∷ 0 ∷ 80 ∷ 10 ∷ 0 ∷ 0 ∷ 1 ∷ []) ∷
    (2 ∷ 0 ∷ 0 ∷ 80 ∷ 10 ∷ 0 ∷ 0 ∷ 1 ∷ []) ∷
    (16 ∷ 3 ∷ 0 ∷ 80 ∷ 10 ∷ 0 ∷ 0 ∷ 1 ∷ []) ∷ []) ≡
    Text (codes "inet-[10.20.30.1]:8080") ∷ Text (codes "inet-[0.0.0.0]:0") ∷ Text (codes "inet-[255.254.253.252]:65535") ∷ Fault EINVAL ∷
    Fault EINVAL ∷ Fault EINVAL ∷ []
unfolding digits
addresses = refl

-- the pointers of an argument vector begin at a word in memory
argv_places : map (λ at. spell kind.Argv at []) (0 ∷ 8 ∷ 9 ∷ 12 ∷ 15 ∷ 65528 ∷ 65529 ∷ 65536 ∷ (2 ^ 64 - 8) ∷ []) ≡
    More 0 ∷ More 1 ∷ Fault EFAULT ∷ Fault EFAULT ∷ Fault EFAULT ∷ More 8191 ∷ Fault EFAULT ∷ Fault EFAULT ∷ Fault EFAULT ∷ []
argv_places = refl

argv_places_of_zero : map (λ at. spell kind.Argv at (0 ∷ [])) (8 ∷ 65528 ∷ 12 ∷ []) ≡ Text [] ∷ Text [] ∷ Fault EFAULT ∷ []
argv_places_of_zero = refl

-- a pointer, the words of its text, the next pointer, and so on up to a zero pointer: pointers from word 1 on, texts at bytes 33 and 46
argv_word_by_word :
    spell kind.Argv 8 (33 ∷ []) ∷
    spell kind.Argv 8 (33 ∷ words_of 1 (codes "xabcdefg")) ∷
    spell kind.Argv 8 (33 ∷ words_of 2 (codes "xabcdefghi")) ∷
    spell kind.Argv 8 (33 ∷ words_of 2 (codes "xabcdefghi") ++ (46 ∷ [])) ∷
    spell kind.Argv 8 (33 ∷ words_of 2 (codes "xabcdefghi") ++ (46 ∷ words_of 1 (codes "xxxxxx-l"))) ∷
    spell kind.Argv 8 (33 ∷ words_of 2 (codes "xabcdefghi") ++ (46 ∷ words_of 2 (codes "xxxxxx-l"))) ∷
    spell kind.Argv 8 (33 ∷ words_of 2 (codes "xabcdefghi") ++ (46 ∷ words_of 2 (codes "xxxxxx-l") ++ (0 ∷ []))) ∷ [] ≡
    More 4 ∷ More 5 ∷ More 2 ∷ More 5 ∷ More 6 ∷ More 3 ∷ Text (codes "abcdefghi -l") ∷ []
argv_word_by_word = refl

-- a text may begin at any byte of a word, and needs the words that contain it
argv_from_each_byte : map (λ byte. spell kind.Argv 8 ((80 + byte) ∷ words_of 1 (replicate byte 0 ++ codes "abc"))) eight ≡
    More 2 ∷ More 2 ∷ More 2 ∷ More 2 ∷ More 2 ∷ More 11 ∷ More 11 ∷ More 11 ∷ []
argv_from_each_byte = refl

argv_from_each_byte_ended : map (λ byte. spell kind.Argv 8 ((80 + byte) ∷ words_of 2 (replicate byte 120 ++ codes "abcdefgh") ++ (0 ∷ []))) eight ≡
    replicate 8 (Text (codes "abcdefgh"))
argv_from_each_byte_ended = refl

-- blanks are only between the parts; a part may be empty, and may have blanks
argv_joined :
    spell kind.Argv 8 (80 ∷ 0 ∷ 0 ∷ []) ∷
    spell kind.Argv 8 (80 ∷ 0 ∷ 80 ∷ 0 ∷ 0 ∷ []) ∷
    spell kind.Argv 8 (80 ∷ words_of 1 (codes "a b") ++ (80 ∷ 0 ∷ 80 ∷ words_of 1 (codes "c") ++ (0 ∷ []))) ∷ [] ≡
    Text [] ∷ Text (codes " ") ∷ Text (codes "a b  c") ∷ []
argv_joined = refl

-- the text at a pointer has to be in memory, and so does the next pointer
argv_outside :
    spell kind.Argv 8 (65535 ∷ []) ∷
    spell kind.Argv 8 (65536 ∷ []) ∷
    spell kind.Argv 8 ((2 ^ 64 - 1) ∷ []) ∷
    spell kind.Argv 8 (65535 ∷ words_of 1 (codes "1234567a")) ∷
    spell kind.Argv 8 (65535 ∷ words_of 1 (codes "1234567")) ∷
    spell kind.Argv 65528 (80 ∷ []) ∷
    spell kind.Argv 65528 (80 ∷ words_of 1 (codes "a")) ∷ [] ≡
    More 8191 ∷ Fault EFAULT ∷ Fault EFAULT ∷ Fault EFAULT ∷ More 2 ∷ More 10 ∷ Fault EFAULT ∷ []
argv_outside = refl

-- the words of this many parts of one byte
abbrev parts : ℕ → List ℕ
parts zero = []
parts (suc count) = 800 ∷ 97 ∷ parts count

-- sixteen parts are allowed, and one more pointer is a fault, even if it points outside memory
argv_of_sixteen :
    spell kind.Argv 8 (parts 15) ∷
    spell kind.Argv 8 (parts 16) ∷
    spell kind.Argv 8 (parts 16 ++ (0 ∷ [])) ∷
    spell kind.Argv 8 (parts 16 ++ (800 ∷ [])) ∷
    spell kind.Argv 8 (parts 16 ++ (65536 ∷ [])) ∷ [] ≡
    More 16 ∷ More 17 ∷ Text (codes "a a a a a a a a a a a a a a a a") ∷ Fault E2BIG ∷ Fault E2BIG ∷ []
argv_of_sixteen = refl

-- the spelling of an argument vector of one part, or of two parts of which the first has 600 bytes
abbrev argv_of_one : ℕ → ℕ → Spelled
argv_of_one count byte =
    spell kind.Argv 8 ((80 + byte) ∷ words_of ((byte + count) / 8 + 1) (replicate byte 120 ++ replicate count 97) ++ (0 ∷ []))

abbrev argv_of_two : ℕ → ℕ → Spelled
argv_of_two count byte =
    spell kind.Argv 8 (80 ∷ words_of 76 (replicate 600 97) ++
    ((80 + byte) ∷ words_of ((byte + count) / 8 + 1) (replicate byte 120 ++ replicate count 97) ++ (0 ∷ [])))

-- the parts have up to 1,024 bytes together, from whichever bytes of words; the blanks between them don't count
argv_of_1024_bytes : map (argv_of_one 1024) eight ≡ replicate 8 (Text (replicate 1024 97))
argv_of_1024_bytes = refl

argv_of_1025_bytes : map (argv_of_one 1025) eight ≡ replicate 8 (Fault E2BIG)
argv_of_1025_bytes = refl

argv_of_1024_bytes_together : map (argv_of_two 424) eight ≡ replicate 8 (Text (replicate 600 97 ++ (32 ∷ replicate 424 97)))
argv_of_1024_bytes_together = refl

argv_of_1025_bytes_together : map (argv_of_two 425) eight ≡ replicate 8 (Fault E2BIG)
argv_of_1025_bytes_together = refl

-- a byte too many is a fault at once, and is found before the end of memory
argv_of_many_bytes_so_far :
    spell kind.Argv 8 (80 ∷ words_of 128 (replicate 1024 97)) ∷
    spell kind.Argv 8 (80 ∷ words_of 129 (replicate 1025 97)) ∷
    spell kind.Argv 8 (64512 ∷ words_of 128 (replicate 1024 97)) ∷
    spell kind.Argv 8 (64511 ∷ words_of 129 (replicate 1032 97)) ∷ [] ≡
    More 138 ∷ Fault E2BIG ∷ Fault EFAULT ∷ Fault E2BIG ∷ []
argv_of_many_bytes_so_far = refl

-- numbers are in registers; all bits of a register are printed
decimals : map (λ n. spell kind.Decimal n []) (0 ∷ 7 ∷ 10 ∷ 1000 ∷ 2 ^ 32 ∷ (2 ^ 64 - 1) ∷ []) ≡
    Text (codes "0") ∷ Text (codes "7") ∷ Text (codes "10") ∷ Text (codes "1000") ∷ Text (codes "4294967296") ∷
    Text (codes "18446744073709551615") ∷ []
unfolding digits
decimals = refl

-- a mode is printed as its low nine bits in octal
modes : map (λ n. spell kind.Octal n []) (0 ∷ 7 ∷ 8 ∷ 64 ∷ 420 ∷ 493 ∷ 511 ∷ 512 ∷ 520 ∷ 4589 ∷ (2 ^ 64 - 1) ∷ []) ≡
    Text (codes "0") ∷ Text (codes "7") ∷ Text (codes "10") ∷ Text (codes "100") ∷ Text (codes "644") ∷ Text (codes "755") ∷
    Text (codes "777") ∷ Text (codes "0") ∷ Text (codes "10") ∷ Text (codes "755") ∷ Text (codes "777") ∷ []
unfolding digits
modes = refl

domains : map (λ n. spell kind.Domain n []) (0 ∷ 1 ∷ 2 ∷ 3 ∷ 24 ∷ (2 ^ 64 - 1) ∷ []) ≡
    Text (codes "0") ∷ Text (codes "AF_UNIX") ∷ Text (codes "AF_INET") ∷ Text (codes "3") ∷ Text (codes "24") ∷
    Text (codes "18446744073709551615") ∷ []
unfolding digits
domains = refl

socket_types : map (λ n. spell kind.SockType n []) (0 ∷ 1 ∷ 2 ∷ 3 ∷ 10 ∷ (2 ^ 32 + 1) ∷ []) ≡
    Text (codes "0") ∷ Text (codes "SOCK_STREAM") ∷ Text (codes "SOCK_DGRAM") ∷ Text (codes "3") ∷ Text (codes "10") ∷
    Text (codes "4294967297") ∷ []
unfolding digits
socket_types = refl
