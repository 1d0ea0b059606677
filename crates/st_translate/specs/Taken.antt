-- What one more word of a part leads to.
use Rattle.st_model.specs.Spelling.{Spelled, Text, Fault, More}
use Rattle.st_translate.specs.declared.copying.Took.{Took}
use Rattle.st_translate.specs.declared.copying.Took.TheVariants as took

-- whether more words are needed, the part is complete, or there is a fault
abbrev pub took_of : Spelled → Took
took_of (Text text) = took.Part
took_of (Fault errno) = took.Fault errno
took_of (More place) = took.More
