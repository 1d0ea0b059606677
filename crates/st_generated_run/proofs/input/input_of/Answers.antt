use Rattle.std.proofs.Common.{◌≡◌, [], ◌∙◌, ap, subst, sym}
use Rattle.st_emulation.specs.declared.emulation.Emulation.TheVariants.{Native}
use Rattle.st_law.specs.declared.input.Input.{Input}
use Rattle.st_law.specs.declared.input.Options.{Options}
use Rattle.st_reached.specs.Runnable.{CanRun}
use Rattle.st_script.proofs.ReadTexts.{emulation_is}
use Rattle.st_script.specs.Startable.{input_with}
use Rattle.st_generated_run.specs.Generated.{generated_options}
use Rattle.st_generated_run.proofs.Meant.{meant_can_run, native_input, none_granted}
use Rattle.st_generated_run.proofs.input.input_of.Goals as goal

pub returns-clause-meant : goal.returns-clause-meant
returns-clause-meant c = record {
  script = c.in_ok-script.script;
  policies = c.in_ok-read.read;
  script_is = c.in_ok-script.ensures.script;
  policies_are = c.in_ok-read.ensures.policies;
  input_is =
      c.input_with.ensures ∙ native_input c.in_ok-read.read c.generated_options.result c.in_ok-script.script (emulation_is c.args.text.now generated_options Native c.in_ok-script.script c.in_ok-script.ensures.script)
      ∙ ap (λ (options : Options). input_with c.in_ok-read.read options c.in_ok-script.script) c.generated_options.ensures;
}

pub returns-clause-can_run : goal.returns-clause-can_run
returns-clause-can_run c =
    let read = c.in_ok-script in
    let policies = c.in_ok-read.read in
    let ungranted = c.what_is_read_grants_no_ids_for_setting.ensures c.args.policy.now read.script.env [] policies c.in_ok-read.ensures.policies none_granted in
    let replies = c.what_is_replied_grants_no_ids_for_setting.ensures c.args.text.now generated_options Native read.script read.ensures.script in
    let blocks = c.what_is_reloaded_grants_no_ids_for_setting.ensures c.args.text.now generated_options Native read.script read.ensures.script in
    let own : read.script.env.emulation ≡ Native = emulation_is c.args.text.now generated_options Native read.script read.ensures.script in
    subst (λ (i : Input). CanRun i) (sym (c.input_with.ensures ∙ native_input policies c.generated_options.result read.script own))
    (subst (λ (options : Options). CanRun (input_with policies options read.script)) (sym c.generated_options.ensures) (meant_can_run read.script policies read.ensures.can_start ungranted blocks replies))
