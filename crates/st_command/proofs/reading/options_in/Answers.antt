use Rattle.std.proofs.Common.{map, ap, sym, ◌∙◌, [], ◌∷◌}
use Rattle.std.proofs.lemmas.List.{map-append}
use Rattle.st_command.specs.Given.{options_in}
use Rattle.st_command.specs.Reading.{option_value}
use Rattle.st_command.proofs.Options.{with_options, next_taken, no_next_taken, one_more, no_more}
use Rattle.st_command.proofs.reading.options_in.Goals as goal

pub loop-option-smaller : goal.loop-option-smaller
loop-option-smaller c = c.in-Some.ensures.shorter

pub loop-option-preserved : goal.loop-option-preserved
loop-option-preserved c =
    ap (λ given. with_options (map option_value given) (options_in c.in-Some.following.now)) c.in_ok-push.ensures.ok ∙
    ap (λ given. with_options given (options_in c.in-Some.following.now)) (map-append option_value c.loop-option.given (c.in-Some.option ∷ [])) ∙
    one_more (map option_value c.loop-option.given) (option_value c.in-Some.option) (options_in c.in-Some.following.now) ∙
    ap (with_options (map option_value c.loop-option.given)) (sym (next_taken c.loop-option.rest.now (option_value c.in-Some.option) c.in-Some.following.now c.in-Some.ensures.is)) ∙
    c.loop-option.invariant

pub returns : goal.returns
returns c =
    sym (no_more (map option_value c.loop-option.given) c.loop-option.rest.now) ∙
    ap (with_options (map option_value c.loop-option.given)) (sym (no_next_taken c.loop-option.rest.now c.in_default.ensures.is)) ∙
    c.loop-option.invariant
