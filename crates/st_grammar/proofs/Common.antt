-- Re-exports the names that most proofs of the language cite. Declares nothing.
pub use Rattle.st_base.specs.Errno.{error_named}
pub use Rattle.st_base.specs.declared.errno.Errno.{Errno}
pub use Rattle.st_base.specs.declared.errno.Errno.TheVariants.{EPERM}
pub use Rattle.st_calls.specs.declared.rule.Rule.TheVariants.{Call, FsRead}
pub use Rattle.st_filter.specs.Formula.{And, Conjunction, Disjunction, FilterValue, Formula, Level, Not, Operand, Or, Test, True}
pub use Rattle.st_filter.specs.Policies.{add_filter, filters_in, has_policy, names_set_id_call, with_filter}
pub use Rattle.st_filter.specs.declared.filter.Action.{Action}
pub use Rattle.st_filter.specs.declared.filter.Action.TheVariants.{Ask, Deny, Permit}
pub use Rattle.st_filter.specs.declared.filter.Cmp.{Cmp}
pub use Rattle.st_filter.specs.declared.filter.FilterName.{FilterName}
pub use Rattle.st_filter.specs.declared.filter.Grant.{Grant}
pub use Rattle.st_filter.specs.declared.filter.Op.{Op}
pub use Rattle.st_filter.specs.declared.filter.Predicate.{Predicate}
pub use Rattle.st_filter.specs.declared.filter.Who.{Who}
pub use Rattle.st_filter.specs.declared.set.BinaryPolicy.{BinaryPolicy}
pub use Rattle.st_filter.specs.declared.set.TheConstants.{MOST_FILTERS}
pub use Rattle.st_grammar.specs.Diagram.{acts, completed, concluded, found, fresh, GrammarState, grants, is_action, is_close_bracket, is_colon_symbol, is_comma_symbol, is_word_symbol, is_line_symbol, with_joint, lexical, next, only, step, step_action, step_as, step_binary, step_comparison, step_denial, step_error, step_grant, step_group, step_id, step_indexed, step_joint, step_label, step_name, step_operand, step_operator, step_predicate, step_row, step_start, step_system, step_tail, step_text, step_to, step_user, step_who, StepResult, waits, with_group, word_index, word_who}
pub use Rattle.st_grammar.specs.Expression.{close_either, close_group, joins_both, joins_either, PendingOperand, Reduced, reduced, settle, with_operand, with_pending, without_either}
pub use Rattle.st_grammar.specs.Grammar.{Always, AreNew, AreRows, Asks, binary_of, Blank, Both, comparison, Denies, DeniesWith, Either, FilterRow, First, Grants, GrantsAndLogs, Grouped, Header, If, Indexed, is_join, IsAction, IsCondition, IsFilter, IsGrant, IsHeader, IsPredicate, IsTail, Logs, LogsAndGrants, MayGrant, most_joins, Negated, NoRow, OfBoth, OfGroup, OfUser, OneConjunction, OneOperand, Permits, Plain, Reads, Short, Spells, symbols_in, Then, who_named, Whoever}
pub use Rattle.st_grammar.specs.OneFilter.{filter_in, FilterResult}
pub use Rattle.st_grammar.specs.Reading.{as_reading, binaries, ends_filter, fault_in, fault_of, filter_of, first_reading, is_between_rows, is_binary_place, new_policy, or_refused, policies_in, read_end, read_from, read_step, Reading, reading_after, reading_of, reading_step, refusal_in, refusal_of, Refusable, set_of, taken, unless_lexical}
pub use Rattle.st_grammar.specs.Symbol.{Broken, Close, CloseBracket, Colon, Comma, Equal, Line, Open, OpenBracket, Quoted, Symbol, symbol_by, symbol_of, Word}
pub use Rattle.st_grammar.specs.Words.{filter_name, id_in, index_in, is_label, may_test, may_test_label, names_for, op_named}
pub use Rattle.st_grammar.specs.declared.env.Env.{Env}
pub use Rattle.st_grammar.specs.declared.env.NamedId.{NamedId}
pub use Rattle.st_grammar.specs.declared.fault.PolicyFault.{PolicyFault}
pub use Rattle.st_grammar.specs.declared.fault.PolicyFault.TheVariants.{AskWithLearn, DuplicatePolicy, ElevateOnSetId, ElevateWithoutIds, Expected, Lex, NotSupported, TooMany, UnknownArgument, UnknownCall, UnknownError, UnknownUser}
pub use Rattle.st_grammar.specs.declared.place.Place.{Place}
pub use Rattle.st_lex.specs.Pieces.{is_word_text, Piece, piece_tokens, PlainWord, print, QuotedText, Sign, Space, spelled_tokens, CanBeReadBack}
pub use Rattle.st_lex.specs.Quote.{AreBytes}
pub use Rattle.st_lex.specs.Quoted.{shifted_fault, optional_fault_after}
pub use Rattle.st_lex.specs.Tokens.{lexed_text}
pub use Rattle.st_lex.specs.Unquote.{unquoted}
pub use Rattle.st_lex.specs.declared.token.LexFault.{LexFault}
pub use Rattle.st_lex.specs.declared.token.Lexed.{Lexed}
pub use Rattle.st_lex.specs.declared.token.Token.{Token}
pub use Rattle.st_lex.specs.declared.token.TokenKind.{TokenKind}
