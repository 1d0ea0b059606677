-- Headers of policies, read and printed.
use Rattle.std.proofs.Common.{◌≡◌, Bool, true, false, cond, nat_eq, List, [], ◌∷◌, codes, Some, None, ℕ, refl, ap, sym, subst, ◌∙◌}
use Rattle.std.specs.List.{starts_with}
use Rattle.st_lex.specs.declared.token.TokenKind.TheVariants as kind
use Rattle.st_grammar.proofs.Common.{AreBytes, binary_of, is_word_text, IsHeader, Piece, PlainWord, Quoted, QuotedText, Sign, Space, CanBeReadBack, Symbol, unquoted, Word}
use Rattle.st_grammar.specs.declared.env.Env.{Env}
use Rattle.st_lex.specs.Quote.{quoted}
use Rattle.st_lex.proofs.Unquotes.{unquoted-quoted}
use Rattle.st_emulation.specs.Words.{word_of}
use Rattle.st_emulation.specs.declared.emulation.Emulation.{Emulation}
use Rattle.st_emulation.specs.declared.emulation.Emulation.TheVariants.{Native, Linux}
use Rattle.st_grammar.specs.Grammar.{if_absolute}
use Rattle.st_printing.specs.Canon.{header_pieces}
use Rattle.st_reread.proofs.Symbols.{piece_symbols, IsPrintable, ArePrintable}

-- the printed text of the binary is read as this binary
pub record IsReadableBinary (binary : List ℕ) : Type 0 where
  pub absolute : if_absolute binary ≡ Some binary
  pub bytes : is_word_text binary ≡ false → AreBytes binary

absolute_by : (b : Bool) (name binary : List ℕ) → cond b (Some name) None ≡ Some binary → name ≡ binary
absolute_by true name binary e = cc
absolute_by false name binary e = absurd (cc)

absolute : (name binary : List ℕ) → if_absolute name ≡ Some binary → (is_word_text name ≡ false → AreBytes name) → IsReadableBinary binary
absolute name binary e bytes =
    let same : name ≡ binary = absolute_by (starts_with nat_eq name (codes "/")) name binary e in
    subst IsReadableBinary same (record { absolute = e ∙ ap Some (sym same); bytes = bytes })

readable_symbol : (env : Env) (s : Symbol) (binary : List ℕ) → IsPrintable env s → binary_of env s ≡ Some binary → IsReadableBinary binary
readable_symbol env (Word w) binary p e = absolute w binary e (λ no. absurd (cc))
readable_symbol env (Quoted source) binary p e = absolute (unquoted env.dollars source) binary e (λ no. p)
readable_symbol env _ binary p e = absurd (cc)

-- the binary of a header that was read can be read again
pub readable_binary : (env : Env) (row : List Symbol) (binary : List ℕ) → IsHeader env row binary → ArePrintable env row → IsReadableBinary binary
readable_binary env row binary is p = readable_symbol env is.spelled binary (subst (ArePrintable env) is.parts p).1.1.0 is.binary_is

-- a header's pieces, by whether its binary is a Word
abbrev header_by : Bool → List ℕ → Emulation → List Piece
header_by b binary emulation =
    PlainWord (codes "Policy") ∷ Sign kind.Colon ∷ Space ∷ cond b (PlainWord binary) (QuotedText binary) ∷ Sign kind.Comma ∷ Space ∷
    PlainWord (codes "Emulation") ∷ Sign kind.Colon ∷ Space ∷ PlainWord (word_of emulation) ∷ []

is_header_by : (env : Env) (b : Bool) (binary : List ℕ) → is_word_text binary ≡ b → IsReadableBinary binary → IsHeader env (piece_symbols (header_by b binary env.emulation)) binary
is_header_by env true binary e r = record { spelled = Word binary; parts = refl; binary_is = r.absolute }
is_header_by env false binary e r = record {
  spelled = Quoted (quoted binary);
  parts = refl;
  binary_is = ap if_absolute (unquoted-quoted env.dollars binary (r.bytes e)) ∙ r.absolute;
}

pub is_header : (env : Env) (binary : List ℕ) → IsReadableBinary binary → IsHeader env (piece_symbols (header_pieces binary env.emulation)) binary
is_header env binary r = is_header_by env (is_word_text binary) binary refl r

-- the word of an emulation is a Word
pub emulation_is_word : (emulation : Emulation) → is_word_text (word_of emulation) ≡ true
emulation_is_word Native = refl
emulation_is_word Linux = refl

well_header_by : (b : Bool) (binary : List ℕ) (emulation : Emulation) → is_word_text binary ≡ b → IsReadableBinary binary → CanBeReadBack (header_by b binary emulation)
well_header_by true binary emulation e r = (refl, tt, (refl, (e, tt, (refl, (refl, tt, (refl, (emulation_is_word emulation, tt, tt)))))))
well_header_by false binary emulation e r = (refl, tt, (refl, (r.bytes e, (refl, (refl, tt, (refl, (emulation_is_word emulation, tt, tt)))))))

pub well_header : (binary : List ℕ) (emulation : Emulation) → IsReadableBinary binary → CanBeReadBack (header_pieces binary emulation)
well_header binary emulation r = well_header_by (is_word_text binary) binary emulation refl r
