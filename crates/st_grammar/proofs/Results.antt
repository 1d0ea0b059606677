-- What the grammar says of a text that was read, and of its first fault.
use Rattle.std.proofs.Common.{◌≡◌, ◌≤◌, List, ℕ, Some, Ok, Err, refl, subst}
use Rattle.st_grammar.proofs.Common.{BinaryPolicy, Env, filters_in, MOST_FILTERS, policies_in, reading_of, Reads, refusal_in, refusal_of, Refusable, set_of}
use Rattle.st_grammar.specs.declared.fault.PolicyRefusal.{PolicyRefusal}
use Rattle.st_grammar.proofs.Sound.{reading-is_sound}

module _ (text : List ℕ) (env : Env) (old : List BinaryPolicy) where
  reads-by : (set : List BinaryPolicy) (r : Refusable) → filters_in old ≤ MOST_FILTERS → reading_of text env old ≡ r → set_of r ≡ Ok set → Reads text env old set
  reads-by set (Ok r) few is e = let same : r.set ≡ set = cc in subst (Reads text env old) same (reading-is_sound text env old r few is)
  reads-by set (Err refusal) few is e = absurd (cc)

  pub policies_read : (set : List BinaryPolicy) → filters_in old ≤ MOST_FILTERS → policies_in text env old ≡ Ok set → Reads text env old set
  policies_read set few e = reads-by set (reading_of text env old) few refl e

  refused-by : (refusal : PolicyRefusal) (r : Refusable) → set_of r ≡ Err refusal → refusal_of r ≡ Some refusal
  refused-by refusal (Ok r) e = absurd (cc)
  refused-by refusal (Err found) e = cc

  pub refusal_found : (refusal : PolicyRefusal) → policies_in text env old ≡ Err refusal → refusal_in text env old ≡ Some refusal
  refusal_found refusal e = refused-by refusal (reading_of text env old) e
