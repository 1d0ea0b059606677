-- What is required of policies and replies beyond a startable input: a filter of a call that sets ids has no grant.
use Rattle.std.specs.Prelude.{◌≡◌, true, List, None}
use Rattle.std.specs.List.{All}
use Rattle.st_filter.specs.Formula.{FilterValue}
use Rattle.st_filter.specs.Policies.{PoliciesValue, names_set_id_call}
use Rattle.st_filter.specs.declared.set.BinaryPolicy.{BinaryPolicy}
use Rattle.st_filter.specs.declared.set.Reply.{Reply}

-- a filter has no grant, if it is for calls that set ids
abbrev pub IsUngrantedForSetting : FilterValue → Type 0
IsUngrantedForSetting filter = names_set_id_call filter.name ≡ true → filter.grant ≡ None

-- no filter of these policies grants ids for a call that sets ids
abbrev pub SetIdsUngranted : List BinaryPolicy → Type 0
SetIdsUngranted policies = All (λ policy. All IsUngrantedForSetting policy.filters) policies

-- no filter of the policies of a run grants ids for a call that sets ids
abbrev pub AllUngranted : PoliciesValue → Type 0
AllUngranted policies = SetIdsUngranted policies.read × SetIdsUngranted policies.blocks

-- no reply grants ids for a call that sets ids
abbrev pub RepliesUngranted : List Reply → Type 0
RepliesUngranted replies = All (λ reply. IsUngrantedForSetting reply.filter) replies
