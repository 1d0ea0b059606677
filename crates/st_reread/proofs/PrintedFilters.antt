-- Filters, read and printed.
use Rattle.std.proofs.Common.{◌≡◌, List, ◌∷◌, ◌++◌, refl, ap, subst, ◌∙◌, append_assoc}
use Rattle.st_grammar.proofs.Common.{Colon, FilterValue, IsFilter, Piece, CanBeReadBack, Symbol, Word}
use Rattle.st_grammar.specs.declared.env.Env.{Env}
use Rattle.st_lex.proofs.Pieces.{StandWell-append}
use Rattle.st_emulation.specs.Words.{prefix_of}
use Rattle.st_printing.specs.Canon.{condition_pieces, action_pieces, grant_pieces, log_pieces, predicate_pieces, call_word, filter_pieces}
use Rattle.st_reread.specs.Readable.{HasSmallIds}
use Rattle.st_reread.proofs.Names.{IsReadableName, readable_name}
use Rattle.st_reread.proofs.PrintedClauses.{IsReadableCondition, readable_condition, is_condition, well_condition, IsReadableAction, readable_action, is_action, well_action, IsReadableGrant, readable_grant, is_tail, well_grant, apart_grant, well_log, apart_log, IsReadablePredicate, readable_predicate, is_predicate, well_predicate, apart_predicate}
use Rattle.st_reread.proofs.Symbols.{piece_symbols, piece_symbols-append, ArePrintable, ArePrintable-parts}

-- the printed text of the filter is read as this filter
pub record IsReadableFilter (env : Env) (f : FilterValue) : Type 0 where
  pub name : IsReadableName env.emulation f.name
  pub condition : IsReadableCondition f.name f.formula
  pub action : IsReadableAction env f.action
  pub grant : IsReadableGrant env f.name f.action f.grant
  pub predicate : IsReadablePredicate f.predicate

-- a filter that was read can be read again
pub readable_filter : (env : Env) (row : List Symbol) (f : FilterValue) → HasSmallIds env → IsFilter env row f → ArePrintable env row → IsReadableFilter env f
readable_filter env row f small is p =
    let all : ArePrintable env (Word is.spelled ∷ Colon ∷ is.condition ++ is.action ++ is.tail ++ is.predicate) = subst (ArePrintable env) is.parts p in
    let a = ArePrintable-parts env (is.condition ++ is.action ++ is.tail) is.predicate all.1.1 in
    let b = ArePrintable-parts env (is.condition ++ is.action) is.tail a.0 in
    let c = ArePrintable-parts env is.condition is.action b.0 in
    record {
      name = readable_name env.emulation is.spelled f.name all.0 is.name_is;
      condition = readable_condition env f.name is.condition_is c.0;
      action = readable_action env is.action_is;
      grant = readable_grant env f.name f.action small is.tail_is;
      predicate = readable_predicate env small is.predicate_is;
    }

-- the symbols of the parts, one after the other
parted : (c a g l p : List Piece) → piece_symbols (c ++ a ++ g ++ l ++ p) ≡ piece_symbols c ++ piece_symbols a ++ piece_symbols (g ++ l) ++ piece_symbols p
parted c a g l p =
    ap (λ (ps : List Piece). piece_symbols (ps ++ p)) (append_assoc (c ++ a) g l)
    ∙ piece_symbols-append ((c ++ a) ++ (g ++ l)) p
    ∙ ap (λ (ts : List Symbol). ts ++ piece_symbols p) (piece_symbols-append (c ++ a) (g ++ l) ∙ ap (λ (ts : List Symbol). ts ++ piece_symbols (g ++ l)) (piece_symbols-append c a))

pub is_filter : (env : Env) (f : FilterValue) → IsReadableFilter env f → IsFilter env (piece_symbols (filter_pieces f env.emulation)) f
is_filter env f r = record {
  spelled = prefix_of env.emulation ++ call_word f.name;
  condition = piece_symbols (condition_pieces f.formula);
  action = piece_symbols (action_pieces f.action);
  tail = piece_symbols (grant_pieces f.grant ++ log_pieces f.log);
  predicate = piece_symbols (predicate_pieces f.predicate);
  parts = ap (λ (ts : List Symbol). Word (prefix_of env.emulation ++ call_word f.name) ∷ Colon ∷ ts) (parted (condition_pieces f.formula) (action_pieces f.action) (grant_pieces f.grant) (log_pieces f.log) (predicate_pieces f.predicate));
  name_is = r.name.is_read;
  condition_is = is_condition env f.name f.formula r.condition;
  action_is = is_action env f.action r.action;
  tail_is = is_tail env f.name f.action f.grant f.log r.grant;
  predicate_is = is_predicate env f.predicate r.predicate;
}

pub well_filter : (env : Env) (f : FilterValue) → IsReadableFilter env f → CanBeReadBack (filter_pieces f env.emulation)
well_filter env f r =
    let a : CanBeReadBack (condition_pieces f.formula ++ action_pieces f.action) = well_condition f.name f.formula (action_pieces f.action) r.condition (well_action f.action) in
    let g = StandWell-append (condition_pieces f.formula ++ action_pieces f.action) (grant_pieces f.grant) a (well_grant env f.name f.action f.grant r.grant) (apart_grant f.grant) in
    let l = StandWell-append (condition_pieces f.formula ++ action_pieces f.action ++ grant_pieces f.grant) (log_pieces f.log) g (well_log f.log) (apart_log f.log) in
    let p = StandWell-append (condition_pieces f.formula ++ action_pieces f.action ++ grant_pieces f.grant ++ log_pieces f.log) (predicate_pieces f.predicate) l (well_predicate f.predicate r.predicate) (apart_predicate f.predicate) in
    (r.name.is_word, tt, (refl, p))
