-- The page's files, by their names (own).
use Rattle.std.specs.Prelude.{ℕ, ◌-◌, Bool, ◌&&◌, ◌||◌, if◌then◌else◌, nat_le, nat_lt, nat_eq, List}
use Rattle.std.specs.Prelude.{[], ◌∷◌, length, take, drop, codes, Option, Some, None}
use Rattle.std.specs.List.{list_all}
use Rattle.std.specs.Str.{bytes_eq}
use Rattle.desk_http.specs.declared.files.FileKind.{FileKind}
use Rattle.desk_http.specs.declared.files.FileKind.TheVariants.{Script, Style}
use Rattle.desk_http.specs.declared.files.AssetFile.{AssetFile}

-- an octet from `a` to `z`, from `0` to `9`, `-` or `_`: neither a dot nor a slash
abbrev pub is_name_octet : ℕ → Bool
is_name_octet octet =
    (nat_le 97 octet && nat_le octet 122) || (nat_le 48 octet && nat_le octet 57) || nat_eq octet 45 || nat_eq octet 95

-- the name without an ending of so many octets
abbrev pub stem_of : ℕ → List ℕ → List ℕ
stem_of count name = take (length name - count) name

-- the name is one or more such octets, and this ending
abbrev pub has_ending : List ℕ → List ℕ → Bool
has_ending ending name =
    nat_lt (length ending) (length name) && bytes_eq (drop (length name - length ending) name) ending
    && list_all is_name_octet (stem_of (length ending) name)

-- what kind of file has this name
abbrev pub named_kind : List ℕ → Option FileKind
named_kind name =
    if has_ending (codes ".js") name then Some Script
    else if has_ending (codes ".css") name then Some Style
    else None

-- the path without the slash (47) that it begins with, or nothing
abbrev pub name_at : List ℕ → List ℕ
name_at [] = []
name_at (octet ∷ name) = if nat_eq octet 47 then name else []

-- what kind of file is at a path
abbrev pub kind_at : List ℕ → Option FileKind
kind_at path = named_kind (name_at path)

-- the content of the first of these files with that name
abbrev pub content_of : List ℕ → List AssetFile → Option (List ℕ)
content_of name [] = None
content_of name (file ∷ files) = if bytes_eq file.name.now name then Some file.content.now else content_of name files

-- the name of the page itself in a folder
abbrev pub page_name : List ℕ
page_name = codes "page.html"

-- a name, if it is that of a file of the page
abbrev pub named_if : Option FileKind → List ℕ → Option (List ℕ)
named_if None name = None
named_if (Some kind) name = Some name

-- which file of a folder is served at a path: the page at `/`, and elsewhere a file of a kind that it has
abbrev pub folder_name : List ℕ → Option (List ℕ)
folder_name path =
    if bytes_eq path (codes "/") then Some page_name else named_if (kind_at path) (name_at path)
