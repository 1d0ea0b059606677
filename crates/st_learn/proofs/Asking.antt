-- A filter that decides on a call asks for no text first, or for one of the call's.
use Rattle.std.proofs.Common.{◌≡◌, ◌&&◌, ◌||◌, Bool, true, false, [], refl}
use Rattle.std.specs.List.{list_any}
use Rattle.st_calls.specs.declared.argument.ArgText.{ArgText}
use Rattle.st_calls.specs.declared.judged.Snapshot.{Snapshot}
use Rattle.st_compile.proofs.Asking.{asked_of, left_of, right_of}
use Rattle.st_filter.specs.Judging.{holds, ids_match, is_true}
use Rattle.st_law.specs.Sessions.{SessionFilter, is_kept_for}
use Rattle.st_learn.specs.Deciding.{asks_first, decides}

follows : (b d : Bool) → (d ≡ true → b ≡ true) → (b && d) ≡ d
follows true d e = refl
follows false true e = e refl
follows false false e = refl

-- a filter that decides on a call asks for no text first, or for the text of one of the call's arguments
pub asks_of_call : (s : Snapshot) (kept : SessionFilter) → ((asks_first [] kept || list_any (λ (arg : ArgText). asks_first arg.text kept) s.parts) && decides s kept) ≡ decides s kept
asks_of_call s kept =
    follows (asks_first [] kept || list_any (λ (arg : ArgText). asks_first arg.text kept) s.parts) (decides s kept)
    (λ e. asked_of kept.filter.formula s.parts (left_of (is_true kept.filter.formula s.parts) (ids_match kept.filter.predicate s.ids) (right_of (is_kept_for s.policy s.rule kept) (holds kept.filter s) e)))
