-- The words of one page.
use Rattle.std.specs.Prelude.{ℕ, ◌-◌, List, ◌++◌, length, replicate}
use Rattle.st_memory.specs.declared.page.TheConstants.{PAGE_WORDS}

-- the words of a page, if these were stored: those after them are zeros
abbrev pub filled_up : List ℕ → List ℕ
filled_up words = words ++ replicate (PAGE_WORDS - length words) 0
