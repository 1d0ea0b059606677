-- The policies in force and the filters that a session has added, read again.
use Rattle.std.specs.Prelude.{◌≡◌, ◌≢◌, ℕ, List, []}
use Rattle.std.specs.List.{All}
use Rattle.st_base.specs.declared.ids.Ids.{Ids}
use Rattle.st_emulation.specs.declared.emulation.Emulation.{Emulation}
use Rattle.st_filter.specs.Policies.{PoliciesValue, in_force}
use Rattle.st_filter.specs.declared.set.BinaryPolicy.{BinaryPolicy}
use Rattle.st_law.specs.Sessions.{SessionFilter}
use Rattle.st_law.specs.State.{State}
use Rattle.st_law.specs.declared.input.Input.{Input}
use Rattle.st_law.specs.declared.input.Mode.TheVariants.{AskText, Learn}
use Rattle.st_learn.specs.Learnt.{learnt_in}
use Rattle.st_learn.specs.Permitted.{IsPermittedBy}
use Rattle.st_printing.specs.Canon.{canon}
use Rattle.st_grammar.specs.Grammar.{Reads}
use Rattle.st_grammar.specs.declared.env.Env.{Env}
use Rattle.st_relearn.specs.Writable.{IsWritableBinary, IsWritableFilter, IsWritablePolicy}

-- a filter of a session can be written, and so can the binary whose policy it is for
pub record IsWritableKept (env : Env) (kept : SessionFilter) : Type 0 where
  pub policy : IsWritableBinary kept.policy
  pub filter : IsWritableFilter env kept.filter

-- if the operator gives replies, their filters can be written
abbrev pub HasWritableReplies : Env → Input → Type 0
HasWritableReplies env i = i.options.mode ≡ AskText → All (λ reply. IsWritableFilter env reply.filter) i.replies

-- if policies can be reloaded, those of the script can be written
abbrev pub HasWritableBlocks : Env → Input → Type 0
HasWritableBlocks env i = i.options.mode ≢ Learn → All (IsWritablePolicy env) i.policies.blocks

-- the filters in force at these versions can be written
abbrev pub AreWritableInForce : Env → PoliciesValue → (List ℕ → ℕ) → Type 0
AreWritableInForce env policies versions = (binary : List ℕ) → All (IsWritableFilter env) (in_force policies binary (versions binary))

-- the canonical text under an emulation of the policies in a state, with the filters in force and what the session has added
abbrev pub learnt_policy_text : Input → State → Emulation → List ℕ
learnt_policy_text i st emulation = canon (learnt_in i st) emulation

-- a text is read alone as these policies and no others, and they permit the call of a number under these ids
pub record ReadsAndPermits (text : List ℕ) (env : Env) (st : State) (q : ℕ) (ids : Ids) : Type 0 where
  pub set : List BinaryPolicy
  pub reads : Reads text env [] set
  pub alone : (other : List BinaryPolicy) → Reads text env [] other → other ≡ set
  pub permitted : IsPermittedBy set st q ids
