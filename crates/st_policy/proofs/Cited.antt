-- Facts of the language's texts that the reader's steps cite.
pub use Rattle.st_grammar.proofs.OneFilters.{stands_elsewhere}
pub use Rattle.st_grammar.proofs.Between.{has_room, old_is_kept}
