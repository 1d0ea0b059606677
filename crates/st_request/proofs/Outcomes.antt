-- Whole outcomes, from what a call returned.
use Rattle.std.proofs.Common.{◌≡◌, ◌∙◌, sym, ℕ, List, [], ◌∷◌, length, Result, Ok, Err, IfOk}
use Rattle.st_base.specs.declared.errno.Errno.{Errno}
use Rattle.st_trace.specs.declared.entry.CallResult.TheVariants.{Value, Failed}
use Rattle.st_trace.specs.declared.entry.Change.{Change}
use Rattle.st_trace.specs.declared.entry.Change.TheVariants.{Put}
use Rattle.st_effects.specs.System.{System, Request, failure, register, space_of_caller, success}
use Rattle.st_effects.specs.System as effects
use Rattle.st_request.specs.Outcome.{outcome_of}
use Rattle.st_request.specs.declared.outcome.Outcome.{Outcome}

-- a call that failed
pub failed : (given : Outcome) (system : System) (errno : Errno) → given.result ≡ Failed errno → given.changes ≡ [] → outcome_of given system.descriptors ≡ failure system errno
failed given system errno result changes = λ i. record { result = result i; changes = changes i; descriptors = system.descriptors }

-- a call that returned a number
pub succeeded : (given : Outcome) (system : System) (value : ℕ) (made : List Change) → given.result ≡ Value value → given.changes ≡ made → outcome_of given system.descriptors ≡ success system value made
succeeded given system value made result changes = λ i. record { result = result i; changes = changes i; descriptors = system.descriptors }

-- the same for the result of a call, if it is an outcome
pub succeeded_if_ok : {E : Type 0} (given : Result Outcome E) (value : ℕ) (made : List Change) (outcome : System → effects.Outcome) → IfOk given (λ o. o.result ≡ Value value) → IfOk given (λ o. o.changes ≡ made)
    → ((system : System) → outcome system ≡ success system value made) → IfOk given (λ o. (system : System) → outcome_of o system.descriptors ≡ outcome system)
succeeded_if_ok (Ok given) value made outcome result changes is = λ system. succeeded given system value made result changes ∙ sym (is system)
succeeded_if_ok (Err error) value made outcome result changes is = tt

-- bytes are put where the call asks for them
pub put_same : (system : System) (request : Request) (value space at : ℕ) (bytes put : List ℕ) → space ≡ space_of_caller system request → at ≡ register request 1 → put ≡ bytes
    → success system value (Put (space_of_caller system request) (register request 1) bytes ∷ []) ≡ success system value (Put space at put ∷ [])
put_same system request value space at bytes put space_is at_is bytes_is = λ i. success system value (Put (sym space_is i) (sym at_is i) (sym bytes_is i) ∷ [])

-- bytes are put, and the call returns their count
pub put_counted : (system : System) (request : Request) (space at : ℕ) (bytes put : List ℕ) → space ≡ space_of_caller system request → at ≡ register request 1 → put ≡ bytes
    → success system (length bytes) (Put (space_of_caller system request) (register request 1) bytes ∷ []) ≡ success system (length put) (Put space at put ∷ [])
put_counted system request space at bytes put space_is at_is bytes_is = λ i. success system (length (sym bytes_is i)) (Put (sym space_is i) (sym at_is i) (sym bytes_is i) ∷ [])
