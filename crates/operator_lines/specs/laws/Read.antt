-- What a word of a line is read as.
use Rattle.std.specs.Prelude.{Option, Some, None}
use Rattle.desk_text.specs.declared.value.Field.{Field}
use Rattle.desk_text.specs.declared.value.Field.TheVariants as fields
use Rattle.operator_lines.specs.declared.form_word.FormWord.{FormWord}
use Rattle.operator_lines.specs.declared.form_word.FormWord.TheVariants as form_words

-- the field of a call that a word is, if it is one
abbrev pub field_of_word : FormWord → Option Field
field_of_word form_words.Room = Some fields.U32
field_of_word form_words.Rate = Some fields.U32
field_of_word form_words.Member = Some fields.U32
field_of_word form_words.Address = Some fields.Address
field_of_word form_words.Codec = Some fields.Codec
field_of_word form_words.OutAudio = Some fields.U32
field_of_word form_words.FirstSeq = Some fields.U16
field_of_word form_words.FirstTs = Some fields.U32
field_of_word form_words.Ssrc = Some fields.U32
field_of_word form_words.Kind = Some fields.Media
field_of_word form_words.OutSsrc = Some fields.U32
field_of_word form_words.Index = Some fields.U32
field_of_word form_words.Source = Some fields.U32
field_of_word form_words.Gain = Some fields.U32
field_of_word form_words.Last = Some fields.U64
field_of_word form_words.Call = Some fields.U64
field_of_word form_words.Commands = None
field_of_word form_words.Most = None
field_of_word form_words.Names = None
field_of_word form_words.Name = None
field_of_word form_words.Lease = None
field_of_word form_words.Word = None
