-- What commands that are not refused lead to.
use Rattle.std.specs.Prelude.{◌≡◌}
use Rattle.desk_edit.proofs.Words.{true, Some, None, refl, Desk, good, form_of, desk_led, first_case, cases_of}
use Rattle.std.specs.Prelude.{Option, option_map, Result, Ok, Err}
use Rattle.desk_edit.specs.declared.refusal.Reason.{Reason}
use Rattle.desk_edit.specs.declared.refusal.Reason.TheVariants as reasons
use Rattle.desk_edit.specs.declared.refusal.Refusal.{Refusal}
use Rattle.desk_edit.specs.declared.refusal.Refusal.TheVariants as refusals
use Rattle.desk_edit.specs.Reasons.{refusal_for}
use Rattle.desk_edit.specs.declared.command.Command.{Command}
use Rattle.desk_edit.specs.declared.command.Form.{Form}
use Rattle.desk_edit.specs.declared.command.Form.TheVariants.{Put, Remove, Move}
use Rattle.desk_edit.specs.Commands.{desk_after}
use Rattle.desk_edit.specs.inner.Edits.{edit_for}
use Rattle.desk_edit.specs.Refusals.{reason_against, refused}
use Rattle.desk_edit.proofs.Fitting.{Leads}
use Rattle.desk_edit.proofs.Placing.{put_leads}
use Rattle.desk_edit.proofs.Taking.{take_leads}
use Rattle.desk_edit.proofs.Relocating.{move_leads}

led : (d : Desk) (f : Form) → good d ≡ true → first_case (cases_of d f) ≡ None → Leads d (edit_for d f) (desk_led d f)
unfolding edit_for
led d (Put r) g h = put_leads d r g h
led d (Remove key) g h = take_leads d key g
led d (Move member room) g h = move_leads d member room g h

-- nothing stands against a command that is not refused
pub unopposed : (d : Desk) (c : Command) → refused d c ≡ None → reason_against d c ≡ None
unfolding refused reason_against
unopposed d c h = none (first_case (cases_of d (form_of c))) h where
  none : (why : Option Reason) → option_map refusal_for why ≡ None → why ≡ None
  none None h = refl
  none (Some why) h = absurd cc

pub planned : (d : Desk) (c : Command) → good d ≡ true → reason_against d c ≡ None
    → Leads d (edit_for d (form_of c)) (desk_after d c)
unfolding desk_after reason_against
planned d c g h = led d (form_of c) g h

-- out of memory is no reason against a command
pub never_memory : (why : Reason) → refusal_for why ≡ refusals.OutOfMemory → ⊥
never_memory (reasons.Exists) h = cc
never_memory (reasons.NoRoom) h = cc
never_memory (reasons.NoMember) h = cc
never_memory (reasons.NoSource) h = cc
never_memory (reasons.NoSlot) h = cc
never_memory (reasons.WrongKind) h = cc
never_memory (reasons.OtherRoom) h = cc
never_memory (reasons.SsrcTaken) h = cc
never_memory (reasons.BadValue) h = cc
never_memory (reasons.Already) h = cc
never_memory (reasons.NotThere) h = cc
never_memory (reasons.Full table limit) h = cc
never_memory (reasons.RateMismatch) h = cc

-- the error, or else this refusal
abbrev pub error_or : {X : Type 0} → Refusal → Result X Refusal → Refusal
error_or why (Ok x) = why
error_or why (Err e) = e

-- a refused command is refused for a reason
pub refused_for : (d : Desk) (c : Command) → refused d c ≡ option_map refusal_for (reason_against d c)
unfolding refused reason_against
refused_for d c = refl
