use Rattle.std.proofs.Common.{◌≡◌, ◌∙◌, false, List, length, map, ap, sym}
use Rattle.std.proofs.lemmas.List.{length-map}
use Rattle.st_lookaside.specs.Slot.{Slot, kept_slot, renewed}
use Rattle.st_lookaside.specs.declared.part.Part.{Part}
use Rattle.st_lookaside.proofs.Turns.{begun_anew, whole_again}
use Rattle.st_lookaside.proofs.slot.Slot.renew.Goals as goal

pub returns : goal.returns
returns c =
    let head = record c.self.inside.head { drawing = c.args.new.drawing; seq = c.args.new.seq; ids = c.args.renewal.ids; cwd = c.args.renewal.cwd; version = c.args.renewal.version } in
    let old : List Part = c.self.inside.parts.items in
    let new : List Part = c.restart.new.parts in
    let specs : map (λ (p : Part). p.spec) new ≡ map (λ (p : Part). p.spec) old = c.restart.ensures.specs ∙ ap (map (λ (p : Part). p.spec)) c.deref_mut.ensures.value in
    let long : length new ≡ length old = sym (length-map new (λ (p : Part). p.spec)) ∙ ap length specs ∙ length-map old (λ (p : Part). p.spec) in
    ap (λ (l : List Part). kept_slot head l false) (whole_again new old c.self.inside.parts.len c.self.inside.parts.ok.0 long)
    ∙ begun_anew head new (specs ∙ c.self.invariant.slot.specs) c.restart.ensures.filled
    ∙ ap (λ (s : Slot). renewed s c.args.new.drawing c.args.new.seq c.args.renewal) c.self.view_is
