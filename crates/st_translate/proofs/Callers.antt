-- What a caller learns of a part from the results of its calls.
use Rattle.std.proofs.Common.{◌≡◌, None}
use Rattle.st_model.specs.Spelling.{Spelled, Text, Fault, More}
use Rattle.st_translate.specs.Copied.{HasAllWords, asked_word, copy_fault}
use Rattle.st_translate.specs.Taken.{took_of}
use Rattle.st_translate.specs.declared.copying.Took.TheVariants as took

-- a part whose last word was taken is complete
pub done_once_taken : (s : Spelled) → took.Part ≡ took_of s → HasAllWords s
done_once_taken (Text text) e = tt
done_once_taken (Fault errno) e = cc
done_once_taken (More place) e = cc

-- a part that needs no word and has no fault is complete
pub done_without_need : (s : Spelled) → None ≡ asked_word s → None ≡ copy_fault s → HasAllWords s
done_without_need (Text text) e f = tt
done_without_need (Fault errno) e f = cc
done_without_need (More place) e f = cc
