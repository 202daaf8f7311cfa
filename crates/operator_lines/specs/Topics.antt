-- What the first word of a line says that it is (own).
use Rattle.std.specs.Prelude.{ℕ, List, Option, Some, None}
use Rattle.desk_text.specs.declared.name.Name.{Name}
use Rattle.desk_text.specs.declared.name.Head.{Head}
use Rattle.desk_text.specs.Calls.{name_of, head_of}
use Rattle.operator_lines.specs.Own.{own_of}
use Rattle.operator_lines.specs.declared.own.Own.{Own}
use Rattle.operator_lines.specs.declared.topic.Topic.{Topic}
use Rattle.operator_lines.specs.declared.topic.Topic.TheVariants as topics

-- by what the word is: no call's, a head's or a command's
abbrev pub topic_by : Option Own → Option Head → Option Name → Option Topic
topic_by (Some own) head name = Some (topics.Own own)
topic_by None (Some head) name = Some (topics.Head head)
topic_by None None (Some name) = Some (topics.Command name)
topic_by None None None = None

-- what a word says
abbrev pub topic_of : List ℕ → Option Topic
topic_of word = topic_by (own_of word) (head_of word) (name_of word)
