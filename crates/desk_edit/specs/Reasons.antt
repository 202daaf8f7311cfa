-- Each reason against a command is a refusal of the call that asks for it.
use Rattle.std.specs.Prelude.{ℕ}
use Rattle.desk_edit.specs.declared.refusal.Reason.{Reason}
use Rattle.desk_edit.specs.declared.refusal.Reason.TheVariants as reasons
use Rattle.desk_edit.specs.declared.refusal.GroupRefusal.{GroupRefusal}
use Rattle.desk_edit.specs.declared.refusal.GroupRefusal.TheVariants as groups
use Rattle.desk_edit.specs.declared.refusal.Refusal.{Refusal}
use Rattle.desk_edit.specs.declared.refusal.Refusal.TheVariants as refusals

-- the most commands of a group (own)
abbrev pub group_limit : ℕ
group_limit = 64

-- what a command is refused by
abbrev pub refusal_for : Reason → Refusal
refusal_for reasons.Exists = refusals.Exists
refusal_for reasons.NoRoom = refusals.NoRoom
refusal_for reasons.NoMember = refusals.NoMember
refusal_for reasons.NoSource = refusals.NoSource
refusal_for reasons.NoSlot = refusals.NoSlot
refusal_for reasons.WrongKind = refusals.WrongKind
refusal_for reasons.OtherRoom = refusals.OtherRoom
refusal_for reasons.SsrcTaken = refusals.SsrcTaken
refusal_for reasons.BadValue = refusals.BadValue
refusal_for reasons.Already = refusals.Already
refusal_for reasons.NotThere = refusals.NotThere
refusal_for (reasons.Full table limit) = refusals.Full table limit
refusal_for reasons.RateMismatch = refusals.RateMismatch

-- what a group is refused by
abbrev pub refusal_of_group : GroupRefusal → Refusal
refusal_of_group groups.Empty = refusals.EmptyGroup
refusal_of_group groups.TooLong = refusals.GroupTooLong group_limit
refusal_of_group (groups.Part part why) = refusals.PartRefused part why
refusal_of_group groups.OutOfMemory = refusals.OutOfMemory
