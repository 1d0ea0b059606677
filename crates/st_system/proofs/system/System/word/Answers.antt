use Rattle.std.proofs.Common.{◌≡◌, ◌∙◌, ap, subst, sym}
use Rattle.st_memory.specs.Memory.{byte_in}
use Rattle.st_model.specs.Memory.{word_of}
use Rattle.st_model.specs.Processes.{IsPid, process_at}
use Rattle.st_system.specs.System.{IsSystem, Parts}
use Rattle.st_system.proofs.Kept.{word_is}
use Rattle.st_system.proofs.system.System.word.Goals as goal

pub returns-clause-word : goal.returns-clause-word
returns-clause-word c = subst (λ (v : Parts). c.in-Some.word ≡ word_of (byte_in v.memories (process_at v.processes c.args.pid).space) c.args.place) c.self.view_is
    (c.in-Some.ensures.value ∙ ap (λ s. word_of (byte_in c.self.inside.spaces s) c.args.place) c.space.ensures)

pub returns-clause-law : goal.returns-clause-law
returns-clause-law c = λ i st x.
    word_is i st _ (subst (IsSystem i st) (sym c.self.view_is) x) c.args.pid c.args.place
    (c.self.invariant.ready c.args.pid (subst (λ (v : Parts). IsPid v.processes c.args.pid) (sym c.self.view_is) c.requires.process)).space
    c.in-Some.word (c.in-Some.ensures.value ∙ ap (λ s. word_of (byte_in c.self.inside.spaces s) c.args.place) c.space.ensures)
