use Rattle.std.proofs.Common.{◌≡◌, arith, sym, ◌∙◌, true, false}
use Rattle.std.specs.Str.{bytes_eq}
use Rattle.st_outside.proofs.ContentsLemmas.{held_of-more, later-same, later-other}
use Rattle.st_outside.proofs.memory_files.content_of.Goals as goal
use Rattle.st_outside.proofs.memory_files.content_of.Goals.{then-eq, else-eq}

pub loop-file-preserved : goal.loop-file-preserved
loop-file-preserved c =
    let more = held_of-more c.args.files.now c.loop-file.file-index c.file-item.result c.args.name.now (omega arith) c.file-item.is in
    elim c.if-eq.branch [
      | then-eq w ↦
          let same : bytes_eq c.file-item.result.name c.args.name.now ≡ true = rw (← c.bytes.ensures, ← c.bytes-in-loop-file.ensures) (sym c.eq.ensures ∙ w.if-eq.true) in
          rw (w.found-is, more) (later-same c.file-item.result c.args.name.now _ same)
      | else-eq w ↦
          let other : bytes_eq c.file-item.result.name c.args.name.now ≡ false = rw (← c.bytes.ensures, ← c.bytes-in-loop-file.ensures) (sym c.eq.ensures ∙ w.if-eq.false) in
          rw (w.found-is, more, later-other c.file-item.result c.args.name.now _ other) c.loop-file.invariant
    ]
