-- Where all lists of a notice lead.
use Rattle.std.proofs.Common.{◌≡◌, ℕ, List, length, sym, ap, ◌∙◌, arith}
use Rattle.std.proofs.lemmas.List.{take_all}
use Rattle.desk_rows.specs.Desk.{Desk, count_of}
use Rattle.desk_rows.specs.Edit.{EditOf}
use Rattle.desk_rows.specs.declared.key.Kind.{Kind}
use Rattle.desk_edit.specs.Calls.{desk_now}
use Rattle.published_desk.specs.Published.{after_lists}
use Rattle.operator_desk.specs.Entry.{EntryOf}
use Rattle.operator_desk.specs.LegalLogs.{after_log}
use Rattle.operator_desk.specs.Published.{AreDesks}

all_lead : (start : Desk) (log : List EntryOf) (lists : List (List EditOf)) → AreDesks start log lists
    → after_lists start lists ≡ desk_now (after_log start log)
all_lead start log lists desks =
    let many = desks.many in
    ap (after_lists start) (sym (take_all (length log) lists (omega arith)))
    ∙ (desks.lead (length log) (omega arith)
    ∙ ap (λ l. desk_now (after_log start l)) (take_all (length log) log (omega arith)))

-- what a reader counts at the version of a call is counted after the call's log
pub count_at_call : (start first : Desk) (log : List EntryOf) (lists : List (List EditOf)) (kind : Kind)
    (number version count : ℕ)
    → first ≡ start → AreDesks start log lists → length log ≡ number
    → (version ≡ length lists → count ≡ count_of kind (after_lists first lists)) → version ≡ number
    → count ≡ count_of kind (desk_now (after_log start log))
count_at_call start first log lists kind number version count same desks at counted is =
    let many = desks.many in
    counted (omega arith)
    ∙ (ap (λ d. count_of kind (after_lists d lists)) same ∙ ap (count_of kind) (all_lead start log lists desks))
