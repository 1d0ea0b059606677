-- What a script needs to have, so that what its run learns can be written.
use Rattle.std.specs.List.{All}
use Rattle.st_reread.specs.Readable.{HasPlainDollars, HasSmallIds}
use Rattle.st_script.specs.Startable.{run_start}
use Rattle.st_script.specs.declared.reading.ReadScript.{ReadScript}
use Rattle.st_relearn.specs.Plain.{HasPlainTexts}
use Rattle.st_relearn.specs.Writable.{IsWritableFilter, IsWritablePolicy}

-- the three texts and the texts of the start that is run can be quoted, ids have 32 bits, and the filters of replies and the policies can
-- be written
pub record HasPlainScript (script : ReadScript) : Type 0 where
  pub dollars : HasPlainDollars script.env
  pub ids : HasSmallIds script.env
  pub texts : HasPlainTexts (run_start script)
  pub replies : All (λ reply. IsWritableFilter script.env reply.filter) script.replies
  pub blocks : All (IsWritablePolicy script.env) script.blocks
