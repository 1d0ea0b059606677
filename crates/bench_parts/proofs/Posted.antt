-- Messages that are posted: which threads they are of, and how many numbers are in use.
use native.Mathlib.Omega.{arith}
use Rattle.std.proofs.Common.{◌≡◌, ◌<◌, ◌⊎◌, ℕ, ◌+◌, Bool, true, false, cond, List, [], ◌∷◌, ◌++◌, Option, Some, None, inl, inr, ap, length-append, subst}
use Rattle.std.specs.Option.{option_map}
use Rattle.std.specs.Prelude.{find}
use Rattle.st_messages.specs.Messages.{HeldCalls, calls_after_post, count_in_use, is_message_of, next_seq, thread_of_drawing, waiting_message}
use Rattle.st_messages.specs.declared.message.Message.{Message}

-- if a thread has a message after one more was added, it had one before, or the added message is its
last_by : (b : Bool) (x : Message) (o p : Option Message) (t : ℕ) → ((option_map (λ (m : Message). m.tid) p ≡ Some t) → (option_map (λ (m : Message). m.tid) o ≡ Some t) ⊎ (t ≡ x.tid))
    → (y : Message) → option_map (λ (m : Message). m.tid) (cond b (Some y) p) ≡ Some t → (option_map (λ (m : Message). m.tid) (cond b (Some y) o) ≡ Some t) ⊎ (t ≡ x.tid)
last_by true x o p t more y e = inl e
last_by false x o p t more y e = more e

alone : (b : Bool) (x : Message) (t : ℕ) → option_map (λ (m : Message). m.tid) (cond b (Some x) None) ≡ Some t → t ≡ x.tid
alone true x t e = cc
alone false x t e = absurd cc

last : (live : List Message) (x : Message) (q t : ℕ) → option_map (λ (m : Message). m.tid) (find (is_message_of q) (live ++ x ∷ [])) ≡ Some t → (option_map (λ (m : Message). m.tid) (find (is_message_of q) live) ≡ Some t) ⊎ (t ≡ x.tid)
last [] x q t e = inr (alone (is_message_of q x) x t e)
last (y ∷ live) x q t e = last_by (is_message_of q y) x (find (is_message_of q) live) (find (is_message_of q) (live ++ x ∷ [])) t (last live x q t) y e

below : (t tid : ℕ) (P : Type 0) → (P → t < tid) → P ⊎ (t ≡ tid) → t < tid + 1
below t tid P f (inl p) = let less = f p in omega (arith, less)
below t tid P f (inr e) = omega (arith, e)

-- if only threads below a number have messages, and the thread of this number gets one, only threads up to it have messages
pub posted : (calls new : HeldCalls) (tid : ℕ) → ((q t : ℕ) → thread_of_drawing calls q ≡ Some t → t < tid) → new ≡ calls_after_post calls tid → (q t : ℕ) → thread_of_drawing new q ≡ Some t → t < tid + 1
posted calls new tid all is q t e = below t tid (thread_of_drawing calls q ≡ Some t) (all q t) (last calls.live (waiting_message calls.next (next_seq calls) tid) q t (subst (λ (c : HeldCalls). thread_of_drawing c q ≡ Some t) is e))

-- one more number is in use
pub counted : (calls new : HeldCalls) (tid count : ℕ) → new ≡ calls_after_post calls tid → count_in_use calls ≡ count → count_in_use new ≡ count + 1
counted calls new tid count is has = omega (arith, ap count_in_use is, has, length-append calls.live (waiting_message calls.next (next_seq calls) tid ∷ []))
