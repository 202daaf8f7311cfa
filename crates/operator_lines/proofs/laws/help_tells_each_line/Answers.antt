use Rattle.std.proofs.Common.{◌≡◌, Some, length, refl, arith}
use Rattle.std.specs.List.{Contains}
use Rattle.desk_text.specs.declared.name.Head.TheVariants as heads
use Rattle.desk_text.specs.declared.name.Name.TheVariants as names
use Rattle.operator_lines.specs.Forms.{form_of, all_topics}
use Rattle.operator_lines.specs.Topics.{topic_of}
use Rattle.operator_lines.specs.Why.{word_behind}
use Rattle.operator_lines.specs.declared.own.Own.TheVariants as owns
use Rattle.operator_lines.specs.declared.topic.Topic.{Topic}
use Rattle.operator_lines.specs.declared.topic.Topic.TheVariants as topics
use Rattle.operator_lines.proofs.laws.help_tells_each_line.Goals as goal

count : length all_topics ≡ 35
count = refl

all : (topic : Topic) → Contains all_topics topic
all (topics.Command names.AddRoom) = (0, omega (arith, count), refl)
all (topics.Command names.RemoveRoom) = (1, omega (arith, count), refl)
all (topics.Command names.AddMember) = (2, omega (arith, count), refl)
all (topics.Command names.RemoveMember) = (3, omega (arith, count), refl)
all (topics.Command names.MoveMember) = (4, omega (arith, count), refl)
all (topics.Command names.AddSource) = (5, omega (arith, count), refl)
all (topics.Command names.RemoveSource) = (6, omega (arith, count), refl)
all (topics.Command names.AddSlot) = (7, omega (arith, count), refl)
all (topics.Command names.RemoveSlot) = (8, omega (arith, count), refl)
all (topics.Command names.Subscribe) = (9, omega (arith, count), refl)
all (topics.Command names.Unsubscribe) = (10, omega (arith, count), refl)
all (topics.Command names.SetGain) = (11, omega (arith, count), refl)
all (topics.Command names.Mute) = (12, omega (arith, count), refl)
all (topics.Command names.Unmute) = (13, omega (arith, count), refl)
all (topics.Command names.Pin) = (14, omega (arith, count), refl)
all (topics.Command names.Unpin) = (15, omega (arith, count), refl)
all (topics.Command names.GiveFloor) = (16, omega (arith, count), refl)
all (topics.Command names.TakeFloor) = (17, omega (arith, count), refl)
all (topics.Head heads.Undo) = (18, omega (arith, count), refl)
all (topics.Head heads.Redo) = (19, omega (arith, count), refl)
all (topics.Head heads.Revert) = (20, omega (arith, count), refl)
all (topics.Head heads.Group) = (21, omega (arith, count), refl)
all (topics.Own owns.Show) = (22, omega (arith, count), refl)
all (topics.Own owns.Groups) = (23, omega (arith, count), refl)
all (topics.Own owns.History) = (24, omega (arith, count), refl)
all (topics.Own owns.Calls) = (25, omega (arith, count), refl)
all (topics.Own owns.Stats) = (26, omega (arith, count), refl)
all (topics.Own owns.Levels) = (27, omega (arith, count), refl)
all (topics.Own owns.Watch) = (28, omega (arith, count), refl)
all (topics.Own owns.As) = (29, omega (arith, count), refl)
all (topics.Own owns.Lease) = (30, omega (arith, count), refl)
all (topics.Own owns.Why) = (31, omega (arith, count), refl)
all (topics.Own owns.Help) = (32, omega (arith, count), refl)
all (topics.Own owns.Quit) = (33, omega (arith, count), refl)
all (topics.Own owns.Stop) = (34, omega (arith, count), refl)

begins : (topic : Topic) → topic_of (word_behind 0 (form_of topic)) ≡ Some topic
begins (topics.Command names.AddRoom) = refl
begins (topics.Command names.RemoveRoom) = refl
begins (topics.Command names.AddMember) = refl
begins (topics.Command names.RemoveMember) = refl
begins (topics.Command names.MoveMember) = refl
begins (topics.Command names.AddSource) = refl
begins (topics.Command names.RemoveSource) = refl
begins (topics.Command names.AddSlot) = refl
begins (topics.Command names.RemoveSlot) = refl
begins (topics.Command names.Subscribe) = refl
begins (topics.Command names.Unsubscribe) = refl
begins (topics.Command names.SetGain) = refl
begins (topics.Command names.Mute) = refl
begins (topics.Command names.Unmute) = refl
begins (topics.Command names.Pin) = refl
begins (topics.Command names.Unpin) = refl
begins (topics.Command names.GiveFloor) = refl
begins (topics.Command names.TakeFloor) = refl
begins (topics.Head heads.Undo) = refl
begins (topics.Head heads.Redo) = refl
begins (topics.Head heads.Revert) = refl
begins (topics.Head heads.Group) = refl
begins (topics.Own owns.Show) = refl
begins (topics.Own owns.Groups) = refl
begins (topics.Own owns.History) = refl
begins (topics.Own owns.Calls) = refl
begins (topics.Own owns.Stats) = refl
begins (topics.Own owns.Levels) = refl
begins (topics.Own owns.Watch) = refl
begins (topics.Own owns.As) = refl
begins (topics.Own owns.Lease) = refl
begins (topics.Own owns.Why) = refl
begins (topics.Own owns.Help) = refl
begins (topics.Own owns.Quit) = refl
begins (topics.Own owns.Stop) = refl

pub returns-clause-all : goal.returns-clause-all
returns-clause-all c = all

pub returns-clause-begins : goal.returns-clause-begins
returns-clause-begins c = begins
