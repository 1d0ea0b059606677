-- The results of looks at names, independent of where the bytes are in memory.
use Rattle.st_names.specs.declared.seen.Seen.{Seen}
use Rattle.st_names.specs.declared.seen.Seen.TheVariants as seen
use Rattle.st_names.specs.declared.seen.SeenText.{SeenText}
use Rattle.st_names.specs.declared.seen.SeenText.TheVariants.{Missing, NotDir, Dir, File, Link}

-- the same result, with the bytes of a link's target
abbrev pub seen_text : Seen → SeenText
seen_text seen.Missing = Missing
seen_text seen.NotDir = NotDir
seen_text seen.Dir = Dir
seen_text seen.File = File
seen_text (seen.Link target) = Link target.now
