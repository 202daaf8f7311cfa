-- A log of what was done on an operator's connection, which exists in proofs alone (own).
use Rattle.std.specs.Prelude.{ℕ, List, [], ◌∷◌, ◌++◌, take}
use Rattle.operator_connection.specs.Acts.{Act, waited, looked, read, wrote, octet_count}
use Rattle.operator_connection.specs.declared.line_log.LineLog.{LineLog, Nothing, Waited', Looked', Read'}
use Rattle.operator_connection.specs.declared.line_log.LineLog.{Begun', Offered', Wrote'}

-- the octets that the write which was begun was offered so far
abbrev pub offered_octets : LineLog → List ℕ
offered_octets Nothing = []
offered_octets (Waited' marker before longest any) = []
offered_octets (Looked' marker before moment) = []
offered_octets (Read' marker before came chunk) = []
offered_octets (Begun' marker before) = []
offered_octets (Offered' marker before octet) = offered_octets before ++ octet.value ∷ []
offered_octets (Wrote' marker before came) = []

-- what was done, oldest first
abbrev pub act_list : LineLog → List Act
act_list Nothing = []
act_list (Waited' marker before longest any) = act_list before ++ waited longest.value any.value ∷ []
act_list (Looked' marker before moment) = act_list before ++ looked moment.value ∷ []
act_list (Read' marker before came chunk) =
    act_list before ++ read came.value (take (octet_count came.value) chunk.value.items) ∷ []
act_list (Begun' marker before) = act_list before
act_list (Offered' marker before octet) = act_list before
act_list (Wrote' marker before came) = act_list before ++ wrote came.value (offered_octets before) ∷ []
