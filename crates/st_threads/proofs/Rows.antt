-- What a row says of the call that its thread holds.
use Rattle.std.proofs.Common.{◌≡◌, ◌∙◌, ℕ, Bool, true, false, cond, Option, Some, None, refl, ap}
use Rattle.std.proofs.lemmas.Option.{none-some, same_Some}
use Rattle.st_trace.specs.declared.entry.Way.{Way}
use Rattle.st_trace.specs.declared.entry.Way.TheVariants.{Fast, Barred, Held, Untraced}
use Rattle.st_law.specs.Threads.{PendingCall}
use Rattle.st_threads.specs.Renewing.{call_of}
use Rattle.st_threads.specs.Thread.{ThreadRow, drawing_by_way, drawing_held, drawing_pending}

-- a thread holds a call under this number, and isn't dying
pub record Holds (row : ThreadRow) (q : ℕ) : Type 0 where
  pub undying : row.dying ≡ false
  pub number : row.number ≡ q
  pub entered : PendingCall
  pub first : ℕ
  pub pending : row.pending ≡ Some entered
  pub way : entered.way ≡ Held first

by_way : (row : ThreadRow) (q : ℕ) → row.dying ≡ false → (entered : PendingCall) → row.pending ≡ Some entered → (way : Way) → entered.way ≡ way → drawing_by_way row.number way ≡ Some q → Holds row q
by_way row q undying entered pending (Held first) way e = record { undying = undying; number = same_Some row.number q e; entered = entered; first = first; pending = pending; way = way }
by_way row q undying entered pending Fast way e = absurd (none-some q e)
by_way row q undying entered pending (Barred n) way e = absurd (none-some q e)
by_way row q undying entered pending Untraced way e = absurd (none-some q e)

by_row : (row : ThreadRow) (q : ℕ) (b : Bool) → row.dying ≡ b → (o : Option PendingCall) → row.pending ≡ o → cond b None (drawing_pending row.number o) ≡ Some q → Holds row q
by_row row q true dying o pending e = absurd (none-some q e)
by_row row q false dying None pending e = absurd (none-some q e)
by_row row q false dying (Some entered) pending e = by_way row q dying entered pending entered.way refl e

-- what a held number says of its row
pub holds : (row : ThreadRow) (q : ℕ) → drawing_held row ≡ Some q → Holds row q
holds row q e = by_row row q row.dying refl row.pending refl e

-- a row that fulfils this holds the number
pub drawing_of_held : (row : ThreadRow) → row.dying ≡ false → (entered : PendingCall) → row.pending ≡ Some entered → (first : ℕ) → entered.way ≡ Held first → drawing_held row ≡ Some row.number
drawing_of_held row undying entered pending first way = (λ k. cond (undying k) None (drawing_pending row.number (pending k))) ∙ ap (drawing_by_way row.number) way

-- a row that is dying, or has no pending call, holds no number
pub none_dying : (row : ThreadRow) → row.dying ≡ true → drawing_held row ≡ None
none_dying row dying = ap (λ (b : Bool). cond b None (drawing_pending row.number row.pending)) dying

pub either_none : (b : Bool) → cond {A = Option ℕ} b None None ≡ None
either_none true = refl
either_none false = refl

pub none_closed : (row : ThreadRow) → drawing_held (record row { pending = None }) ≡ None
none_closed row = either_none row.dying

-- a thread that holds no call has none that is renewed
pub no_call : (pid : Option ℕ) → call_of pid None ≡ None
no_call None = refl
no_call (Some pid) = refl
