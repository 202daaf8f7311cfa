-- No file so far has the name: those that are left decide.
use Rattle.std.proofs.Common.{◌≡◌, drop}
use Rattle.desk_http.specs.Files.{content_of}
use Rattle.desk_http.proofs.files.content_of.Given as goal

abbrev pub invariant-loop-file : goal.invariant-loop-file
invariant-loop-file l = content_of l.name (drop l.file-index l.files) ≡ content_of l.name l.files
