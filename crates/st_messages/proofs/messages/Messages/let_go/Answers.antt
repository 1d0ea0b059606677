use Rattle.std.proofs.Common.{◌≡◌, ◌∙◌, None, false, ap, sym, subst}
use Rattle.st_messages.specs.Messages.{HeldCalls, calls_after_let_go, AreValidCalls, ChangesSeq, ChangesKept}
use Rattle.st_messages.proofs.Ahead.{ahead_let_go, AreAhead}
use Rattle.st_messages.proofs.Seqs.{seqs_let_go, kept_let_go}
use Rattle.st_messages.proofs.Whole.{whole-let_go}
use Rattle.st_messages.proofs.messages.Messages.let_go.Goals as goal

whole : (c : goal.After-remove) → AreValidCalls c.args.self.now
whole c = subst AreValidCalls c.self.view_is c.self.invariant.0

left : (c : goal.After-remove) → record { workers = c.self.inside.workers; next = c.self.inside.next; greatest = 65535; last = c.self.inside.last; live = c.self.inside.live.items; kept = c.remove.new.self } ≡ calls_after_let_go c.args.self.now c.args.drawing
left c =
    let inside : HeldCalls = record { workers = c.self.inside.workers; next = c.self.inside.next; greatest = 65535; last = c.self.inside.last; live = c.self.inside.live.items; kept = c.self.inside.kept } in
    ap (λ kept. record inside { kept = kept }) c.remove.ensures ∙ ap (λ (calls : HeldCalls). calls_after_let_go calls c.args.drawing) c.self.view_is

pub invariant_of-self : goal.invariant_of-self
invariant_of-self c = (
  subst AreValidCalls (sym (left c)) (whole-let_go c.args.self.now c.args.drawing (whole c) c.requires),
  subst (AreAhead c.self.inside.ahead) (sym (left c)) (ahead_let_go c.args.self.now c.self.inside.ahead c.args.drawing (whole c) c.requires (subst (AreAhead c.self.inside.ahead) c.self.view_is c.self.invariant.1)),
)

pub returns-clause-seqs : goal.returns-clause-seqs
returns-clause-seqs c = subst (ChangesSeq c.args.self.now c.args.drawing None) (sym (left c)) (seqs_let_go c.args.self.now c.args.drawing (whole c) c.requires)

pub returns-clause-kept : goal.returns-clause-kept
returns-clause-kept c = subst (ChangesKept c.args.self.now c.args.drawing false) (sym (left c)) (kept_let_go c.args.self.now c.args.drawing)
