-- Arguments that aren't a prefix of a path.
use Rattle.std.proofs.Common.{◌≡◌, ℕ, ◌+◌, ◌<◌, false, List, [], ◌∷◌, length, drop, get_or, refl, ap, arith, ◌∙◌}
use Rattle.std.proofs.lemmas.List.{drop_more}
use Rattle.st_filter.specs.Judging.{is_path_prefix}

leads_nowhere : (a : ℕ) (argument path : List ℕ) → length path < 1 → is_path_prefix (a ∷ argument) path ≡ false
leads_nowhere a argument [] short = refl
leads_nowhere a argument (b ∷ path) short = absurd (omega (arith, short))

-- the rest of an argument that isn't empty isn't a prefix of an empty path
pub is_path_prefix-ended : (argument path : List ℕ) (i : ℕ) → i < length argument → length path < 1 → is_path_prefix (drop i argument) path ≡ false
is_path_prefix-ended argument path i within short =
    ap (λ (bytes : List ℕ). is_path_prefix bytes path) (drop_more argument i 0 within) ∙ leads_nowhere (get_or argument i 0) (drop (i + 1) argument) path short
