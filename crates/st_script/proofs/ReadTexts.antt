-- A script that is read from a text is what the text's lines say, and these have no fault.
use Rattle.std.proofs.Common.{◌≡◌, ℕ, false, List, Option, Some, None, Result, Ok, Err, refl, subst}
use Rattle.std.specs.Prelude.{IfOk, is_some}
use Rattle.st_emulation.specs.declared.emulation.Emulation.{Emulation}
use Rattle.st_law.specs.declared.input.Options.{Options}
use Rattle.st_lex.specs.Tokens.{lexed_text}
use Rattle.st_lex.specs.declared.token.LexFault.{LexFault}
use Rattle.st_script_faults.specs.Faults.{WholeScript, first_fault, first_of, script_lexical_fault, script_fault, whole_of}
use Rattle.st_script_names.specs.Names.{no_names}
use Rattle.st_script_faults.specs.declared.fault.ScriptFault.{ScriptFault}
use Rattle.st_statements.specs.Statements.{lines_in}
use Rattle.st_script.specs.Reading.{script_in, script_with, unless_fault}
use Rattle.st_script.specs.declared.reading.ReadScript.{ReadScript}

no_first : (a b : Option ScriptFault) → first_of a b ≡ None → (a ≡ None) × (b ≡ None)
no_first (Some fault) b e = absurd (cc)
no_first None b e = (refl, e)

not_cut : (broken : Option LexFault) → script_lexical_fault broken ≡ None → is_some broken ≡ false
not_cut (Some fault) e = absurd (cc)
not_cut None e = refl

-- what the rows of a text are read with
abbrev pub whole_in : List ℕ → Options → Emulation → WholeScript
whole_in text options emulation = whole_of (is_some (lexed_text text).fault) options (lines_in text) emulation

module _ (P : ReadScript → Type 0) (text : List ℕ) (options : Options) (emulation : Emulation)
    (faultless : (whole_in text options emulation).is_cut ≡ false → first_fault (whole_in text options emulation) no_names (lines_in text) ≡ None → P (script_with (whole_in text options emulation).env (lines_in text))) where
  by_fault : (o : Option ScriptFault) → script_fault options (lexed_text text).fault (lines_in text) emulation ≡ o → (script : ReadScript) → unless_fault o (script_with (whole_in text options emulation).env (lines_in text)) ≡ Ok script → P script
  by_fault (Some fault) here script is = absurd (cc)
  by_fault None here script is =
      let none = no_first (first_fault (whole_in text options emulation) no_names (lines_in text)) (script_lexical_fault (lexed_text text).fault) here in
      let same : script_with (whole_in text options emulation).env (lines_in text) ≡ script = cc in
      subst P same (faultless (not_cut (lexed_text text).fault none.1) none.0)

  -- a property holds of a script that is read, if it holds of every script of lines without a fault and without a lexical fault after them
  pub read_has : (script : ReadScript) → script_in text options emulation ≡ Ok script → P script
  read_has script is = by_fault (script_fault options (lexed_text text).fault (lines_in text) emulation) refl script is

-- the environment of a script that is read has the emulation that it was read for
pub emulation_is : (text : List ℕ) (options : Options) (emulation : Emulation) (script : ReadScript) → script_in text options emulation ≡ Ok script → script.env.emulation ≡ emulation
emulation_is text options emulation = read_has (λ (script : ReadScript). script.env.emulation ≡ emulation) text options emulation (λ uncut none. refl)

-- the same of a result
pub result_has : {E : Type 0} (P : ReadScript → Type 0) (text : List ℕ) (options : Options) (emulation : Emulation) → ((script : ReadScript) → script_in text options emulation ≡ Ok script → P script) → (r : Result ReadScript E) → IfOk r (λ script. script_in text options emulation ≡ Ok script) → IfOk r P
result_has P text options emulation has (Ok script) is = has script is
result_has P text options emulation has (Err error) is = tt
