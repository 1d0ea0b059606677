use Rattle.std.proofs.Common.{◌≡◌, ◌∙◌, ◌-◌, ap, sym, subst, length, take, set, None}
use Rattle.std.specs.BTreeMap.{insert_entry}
use Rattle.std.specs.Ordering.{nat_cmp}
use Rattle.st_model.specs.Descriptors.{Table, places_in}
use Rattle.st_fds.specs.Table.{IsValidTable, WasOpened}
use Rattle.st_fds.proofs.Undone.{files_back, given_within, processes_back, still_has}
use Rattle.st_fds.proofs.Whole.{fields_have, places_at}
use Rattle.st_fds.proofs.fds.Fds.unopen.Goals.{After-pop}
use Rattle.st_fds.proofs.fds.Fds.unopen.Goals as goal

pub set_place-requires-clause-has : goal.set_place-requires-clause-has
set_place-requires-clause-has c = fields_have _ _ c.args.pid c.self.view_is (still_has c.requires.0 c.args.pid c.args.fd c.args.self.now c.requires.1)

pub set_place-requires-clause-within : goal.set_place-requires-clause-within
set_place-requires-clause-within c =
    let was = c.requires.1 in
    given_within 64 c.requires.0 c.args.pid c.args.fd c.args.self.now was (places_at (length c.requires.0.files) c.requires.0.processes c.args.pid was.has was.whole).0

processes : (c : After-pop) (before : Table) → WasOpened before c.args.pid c.args.fd c.args.self.now → c.set_place.new.processes.entries ≡ before.processes
processes c before was =
    c.set_place.ensures.entries
    ∙ ap (λ (t : Table). insert_entry nat_cmp t.processes c.args.pid (set (places_in t.processes c.args.pid) c.args.fd None)) c.self.view_is
    ∙ processes_back before c.args.pid c.args.fd c.args.self.now was

files : (c : After-pop) (before : Table) → WasOpened before c.args.pid c.args.fd c.args.self.now → c.pop.new.self.items ≡ before.files
files c before was =
    c.pop.ensures.rest ∙ ap (λ n. take (n - 1) c.self.inside.files.items) c.self.inside.files.ok.0 ∙ ap (λ (t : Table). take (length t.files - 1) t.files) c.self.view_is ∙ files_back before c.args.pid c.args.fd c.args.self.now was

pub invariant_of-self : goal.invariant_of-self
invariant_of-self c =
    let was = c.requires.1 in
    let kept : IsValidTable c.requires.0.processes (length c.pop.new.self.items) = subst (λ fs. IsValidTable c.requires.0.processes (length fs)) (sym (files c c.requires.0 was)) was.whole in
    subst (λ es. IsValidTable es (length c.pop.new.self.items)) (sym (processes c c.requires.0 was)) kept

pub returns : goal.returns
returns c = λ before was. λ i. record { processes = processes c before was i; files = files c before was i }
