use Rattle.std.proofs.Common.{◌∙◌, ◌++◌, codes}
use Rattle.std.proofs.lemmas.List.{append_assoc}
use Rattle.std.proofs.lemmas.Result.{on_ok_weaker}
use Rattle.st_emulation.specs.Words.{word_of}
use Rattle.st_lex.specs.Pieces.{piece_bytes}
use Rattle.st_printing.specs.Canon.{binary_piece}
use Rattle.st_printing.proofs.Appends.{three_appended}
use Rattle.st_printing.proofs.print.append_header.Goals as goal

pub returns : goal.returns
returns c =
    on_ok_weaker c.append_emulation.result (λ last.
    three_appended c.append.new.self c.append_binary.new.out c.append_emulation.new.out c.args.out.now
    (codes "Policy: ") (piece_bytes (binary_piece c.args.binary.now)) (codes ", Emulation: " ++ (word_of c.args.emulation ++ codes "\n"))
    c.in_ok-append.ensures.ok c.in_ok-append_binary.ensures
    (last ∙ append_assoc (c.append_binary.new.out ++ codes ", Emulation: ") (word_of c.args.emulation) (codes "\n") ∙ append_assoc c.append_binary.new.out (codes ", Emulation: ") (word_of c.args.emulation ++ codes "\n")))
    c.append_emulation.ensures
