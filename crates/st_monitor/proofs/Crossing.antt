-- Which types that hold expressions may cross threads. Expressions hold expressions, and what holds a type of this kind has no derived proof.
use denote.Param.Send.{IsSend, IsSync, sendable}
use denote.Ref.{NamedLft}
use Rattle.std.proofs.Crossing.{crosses}
use Rattle.st_base.proofs.sequence.Sequence.TheSendSync as sequence
use Rattle.st_base.proofs.shared.Shared.TheSendSync as shared
use Rattle.st_base.proofs.text.Text.TheSendSync as text
use Rattle.st_calls.proofs.judged.Snapshot.TheSendSync as snapshot
use Rattle.st_calls.proofs.judged.Verdict.TheSendSync as verdict
use Rattle.st_calls.proofs.rule.Rule.TheSendSync as rule
use Rattle.st_trace.proofs.start.Start.TheSendSync as start
use Rattle.st_filter.proofs.filter.Expr.TheLaws.TheKnot as expr
use Rattle.st_filter.specs.contracts.filter.Expr as Expr
use Rattle.st_filter.specs.contracts.filter.Filter as Filter
use Rattle.st_filter.specs.contracts.judged.Judged as Judged
use Rattle.st_filter.specs.contracts.policies.Policies as Policies
use Rattle.st_filter.specs.contracts.set.BinaryPolicy as BinaryPolicy
use Rattle.st_filter.specs.contracts.set.PolicySet as PolicySet
use Rattle.st_filter.specs.contracts.set.Reply as Reply
use Rattle.st_law.proofs.input.Options.TheSendSync as options
use Rattle.st_law.specs.contracts.input.Input as Input
use Rattle.st_compile.proofs.expr.CompiledExpr.TheLaws.TheKnot as compiled
use Rattle.st_compile.proofs.places.Places.TheSendSync as places
use Rattle.st_compile.proofs.table.FastTable.TheSendSync as table
use Rattle.st_compile.specs.contracts.compiled.Compiled as Compiled
use Rattle.st_compile.specs.contracts.filter.CompiledFilter as CompiledFilter
use Rattle.st_compile.specs.contracts.policy.PolicyFilters as PolicyFilters
use Rattle.st_compile.specs.contracts.rule.RuleFilters as RuleFilters
use Rattle.st_kernel.specs.contracts.runners.AnswerFault as AnswerFault
use Rattle.st_learn.specs.contracts.added_filter.AddedFilter as AddedFilter
use Rattle.st_learn.specs.contracts.answers.Answers as Answers
use Rattle.st_learn.specs.contracts.kept_filter.KeptFilter as KeptFilter
use Rattle.st_learn.specs.contracts.operator.Operator as Operator
use Rattle.st_learn.specs.contracts.session.Session as Session
use Rattle.st_system.proofs.system.System.TheSendSync as system
use Rattle.st_workers.proofs.workers.Workers.TheSendSync as workers
use Rattle.st_threads.proofs.thread.Thread.TheSendSync as thread
use Rattle.st_decide.specs.contracts.view.View as View
use Rattle.st_report.proofs.schedule.Repeat.TheSendSync as repeat
use Rattle.st_machine.specs.contracts.machine.Machine as Machine
use Rattle.st_kernel.specs.contracts.kernel.Kernel as Kernel

pub expr_sync : IsSync Expr.the_row
expr_sync = search (expr.crosses, crosses, sendable) depth 60 fits 2000

pub expr_send : IsSend Expr.the_row
expr_send = search (expr.crosses, crosses, sendable) depth 60 fits 2000

pub filter_sync : IsSync Filter.the_row
filter_sync = search (expr.crosses, crosses, sendable) depth 60 fits 2000

pub filter_send : IsSend Filter.the_row
filter_send = search (expr.crosses, crosses, sendable) depth 60 fits 2000

pub reply_sync : IsSync Reply.the_row
reply_sync = search (filter_sync, crosses, sendable) depth 60 fits 2000

pub reply_send : IsSend Reply.the_row
reply_send = search (filter_send, crosses, sendable) depth 60 fits 2000

pub binary_policy_sync : IsSync BinaryPolicy.the_row
binary_policy_sync = search (filter_sync, sequence.the_sync, crosses, sendable) depth 60 fits 2000

pub binary_policy_send : IsSend BinaryPolicy.the_row
binary_policy_send = search (filter_send, sequence.the_send, crosses, sendable) depth 60 fits 2000

pub policy_set_sync : IsSync PolicySet.the_row
policy_set_sync = search (filter_sync, sequence.the_sync, crosses, sendable) depth 60 fits 2000

pub policy_set_send : IsSend PolicySet.the_row
policy_set_send = search (filter_send, sequence.the_send, crosses, sendable) depth 60 fits 2000

pub policies_sync : IsSync Policies.the_row
policies_sync = search (policy_set_sync, binary_policy_sync, filter_sync, sequence.the_sync, crosses, sendable) depth 60 fits 2000

pub policies_send : IsSend Policies.the_row
policies_send = search (policy_set_send, binary_policy_send, filter_send, sequence.the_send, crosses, sendable) depth 60 fits 2000

pub input_sync : IsSync Input.the_row
input_sync = search (policies_sync, reply_sync, start.the_field_sync, options.the_field_sync, sequence.the_sync, crosses, sendable) depth 60 fits 2000

pub input_send : IsSend Input.the_row
input_send = search (policies_send, reply_send, start.the_field_send, options.the_field_send, sequence.the_send, crosses, sendable) depth 60 fits 2000

pub kept_filter_sync : (κ : NamedLft) → IsSync ((KeptFilter.the_field κ).row)
kept_filter_sync κ = search (filter_sync, crosses, sendable) depth 60 fits 2000

pub added_filter_sync : (κ : NamedLft) → IsSync (AddedFilter.the_row κ)
added_filter_sync κ = search (kept_filter_sync, shared.the_sync, text.the_send, text.the_sync, rule.the_field_sync, crosses, sendable) depth 60 fits 2000

pub kept_filter_send : (κ : NamedLft) → IsSend ((KeptFilter.the_field κ).row)
kept_filter_send κ = search (filter_sync, filter_send, crosses, sendable) depth 60 fits 2000

pub added_filter_send : (κ : NamedLft) → IsSend (AddedFilter.the_row κ)
added_filter_send κ = search (kept_filter_send, shared.the_send, text.the_send, text.the_sync, rule.the_field_send, crosses, sendable) depth 60 fits 2000

pub session_sync : (κ : NamedLft) → IsSync (Session.the_row κ)
session_sync κ = search (added_filter_sync, places.the_sync, crosses, sendable) depth 60 fits 2000

pub session_send : (κ : NamedLft) → IsSend (Session.the_row κ)
session_send κ = search (added_filter_send, places.the_send, crosses, sendable) depth 60 fits 2000

pub judged_sync : (κ : NamedLft) → IsSync (Judged.the_row κ)
judged_sync κ = search (policies_sync, shared.the_sync, snapshot.the_send, snapshot.the_sync, verdict.the_field_sync, crosses, sendable) depth 60 fits 2000

pub judged_send : (κ : NamedLft) → IsSend (Judged.the_row κ)
judged_send κ = search (policies_sync, shared.the_send, snapshot.the_send, snapshot.the_sync, verdict.the_field_send, crosses, sendable) depth 60 fits 2000

pub answer_fault_sync : (κ : NamedLft) → IsSync (AnswerFault.the_row κ)
answer_fault_sync κ = search (judged_sync, crosses, sendable) depth 60 fits 2000

pub answer_fault_send : (κ : NamedLft) → IsSend (AnswerFault.the_row κ)
answer_fault_send κ = search (judged_send, crosses, sendable) depth 60 fits 2000

pub compiled_filter_sync : (κ : NamedLft) → IsSync (CompiledFilter.the_row κ)
compiled_filter_sync κ = search (filter_sync, compiled.crosses, crosses, sendable) depth 60 fits 2000

pub compiled_filter_send : (κ : NamedLft) → IsSend (CompiledFilter.the_row κ)
compiled_filter_send κ = search (filter_sync, compiled.crosses, crosses, sendable) depth 60 fits 2000

pub rule_filters_sync : (κ : NamedLft) → IsSync (RuleFilters.the_row κ)
rule_filters_sync κ = search (compiled_filter_sync, crosses, sendable) depth 60 fits 2000

pub rule_filters_send : (κ : NamedLft) → IsSend (RuleFilters.the_row κ)
rule_filters_send κ = search (compiled_filter_send, crosses, sendable) depth 60 fits 2000

pub policy_filters_sync : (κ : NamedLft) → IsSync (PolicyFilters.the_row κ)
policy_filters_sync κ = search (rule_filters_sync, filter_sync, sequence.the_sync, crosses, sendable) depth 60 fits 2000

pub policy_filters_send : (κ : NamedLft) → IsSend (PolicyFilters.the_row κ)
policy_filters_send κ = search (rule_filters_send, filter_sync, sequence.the_sync, crosses, sendable) depth 60 fits 2000

pub compiled_sync : (κ : NamedLft) → IsSync (Compiled.the_row κ)
compiled_sync κ = search (rule_filters_sync, policy_filters_sync, policies_sync, crosses, sendable) depth 60 fits 2000

pub compiled_send : (κ : NamedLft) → IsSend (Compiled.the_row κ)
compiled_send κ = search (rule_filters_send, policy_filters_send, policies_sync, crosses, sendable) depth 60 fits 2000

pub operator_sync : (κ : NamedLft) → IsSync (Operator.the_row κ)
operator_sync κ = search (session_sync, reply_sync, places.the_sync, crosses, sendable) depth 60 fits 2000

pub operator_send : (κ : NamedLft) → IsSend (Operator.the_row κ)
operator_send κ = search (session_send, reply_sync, places.the_send, crosses, sendable) depth 60 fits 2000

pub answers_sync : (κ : NamedLft) → IsSync (Answers.the_row κ)
answers_sync κ = search (compiled_sync, table.the_sync, crosses, sendable) depth 60 fits 2000

pub answers_send : (κ : NamedLft) → IsSend (Answers.the_row κ)
answers_send κ = search (compiled_send, table.the_send, crosses, sendable) depth 60 fits 2000

pub view_sync : (ν κ : NamedLft) → IsSync (View.the_row ν κ)
view_sync ν κ = search (input_sync, system.the_sync, workers.the_sync, thread.the_sync, answers_sync, operator_sync, crosses, sendable) depth 60 fits 2000

pub view_send : (ν κ : NamedLft) → IsSend (View.the_row ν κ)
view_send ν κ = search (input_sync, system.the_sync, workers.the_sync, thread.the_sync, answers_sync, operator_sync, crosses, sendable) depth 60 fits 2000

pub machine_sync : (κ : NamedLft) → IsSync (Machine.the_row κ)
machine_sync κ = search (input_sync, system.the_sync, workers.the_sync, thread.the_sync, answers_sync, operator_sync, crosses, sendable) depth 60 fits 2000

pub machine_send : (κ : NamedLft) → IsSend (Machine.the_row κ)
machine_send κ = search (input_sync, system.the_send, workers.the_send, thread.the_send, answers_send, operator_send, crosses, sendable) depth 60 fits 2000

pub kernel_sync : (κ : NamedLft) → IsSync (Kernel.the_row κ)
kernel_sync κ = search (machine_sync, repeat.the_sync, crosses, sendable) depth 60 fits 2000

pub kernel_send : (κ : NamedLft) → IsSend (Kernel.the_row κ)
kernel_send κ = search (machine_send, repeat.the_send, crosses, sendable) depth 60 fits 2000
