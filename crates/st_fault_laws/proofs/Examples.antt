-- Texts whose first fault is at an offset that is computed: at a token, at the text's end, and where no token begins.
use Rattle.std.proofs.Common.{◌≡◌, ◌++◌, ◌∷◌, [], Some, refl, codes}
use Rattle.st_lex.specs.declared.token.LexFault.TheVariants.{OpenQuote}
use Rattle.st_emulation.specs.declared.emulation.Emulation.TheVariants.{Linux}
use Rattle.st_grammar.specs.Words.{no_env}
use Rattle.st_grammar.specs.declared.env.Env.{Env}
use Rattle.st_grammar.specs.declared.fault.Unsupported.TheVariants as unsupported
use Rattle.st_grammar.specs.Reading.{refusal_in}
use Rattle.st_grammar.specs.declared.fault.PolicyFault.TheVariants.{Expected, Lex, NotSupported, UnknownCall}
use Rattle.st_grammar.specs.declared.place.Place.TheVariants as place

at_a_token : refusal_in (codes "Policy: /bin/a, Emulation: native" ++ 10 ∷ codes "getpid: permit") no_env [] ≡ Some (record { fault = UnknownCall 34; place = place.Row })
at_a_token = refl

at_the_end : refusal_in (codes "Policy: /bin/a") no_env [] ≡ Some (record { fault = Expected 14; place = place.Comma })
at_the_end = refl

at_no_token : refusal_in (codes "Policy: \"/bin/a") no_env [] ≡ Some (record { fault = Lex (OpenQuote 8); place = place.Binary })
at_no_token = refl

-- under Linux the native word and the native prefix are other ones
abbrev under_linux : Env
under_linux = record no_env { emulation = Linux }

at_another_word : refusal_in (codes "Policy: /bin/a, Emulation: native") under_linux [] ≡ Some (record { fault = NotSupported 27 unsupported.Emulation; place = place.System })
at_another_word = refl

at_another_prefix : refusal_in (codes "Policy: /bin/a, Emulation: linux" ++ 10 ∷ codes "native-getpid: permit") under_linux [] ≡ Some (record { fault = UnknownCall 33; place = place.Row })
at_another_prefix = refl
