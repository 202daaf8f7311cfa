-- Which route a request takes (own).
use Rattle.std.specs.Prelude.{ℕ, Bool, true, false, not, ◌&&◌, ◌||◌, if◌then◌else◌, List, ◌-◌, length, take, drop}
use Rattle.std.specs.Prelude.{nat_le, codes, Option, Some, None}
use Rattle.std.specs.Str.{bytes_eq}
use Rattle.std.specs.Option.{is_some}
use Rattle.http.specs.declared.request.Request.{Request}
use Rattle.http.specs.Request.{head_of, body_of}
use Rattle.http_header.specs.FieldValue.{FieldValue}
use Rattle.http_header.specs.HeaderMap.{get}
use Rattle.http_uri.specs.Uri.{uri_path}
use Rattle.desk_http.specs.declared.site.Site.{Site}
use Rattle.desk_http.specs.declared.routing.Route.{Route}
use Rattle.desk_http.specs.declared.routing.Route.TheVariants as routes
use Rattle.desk_http.specs.declared.routing.PageRefusal.TheVariants.{ForeignHost, ForeignOrigin, NotFound, NotAllowed}
use Rattle.desk_http.specs.declared.routing.PageRefusal.TheVariants.{NoToken, NoPerson, NoVersion, NoLine}
use Rattle.desk_http.specs.declared.routing.PageRefusal.TheVariants.{Reserved, NoNames}
use Rattle.desk_http.specs.declared.query.Query.TheVariants.{Desk, History, Calls, Stats}
use Rattle.desk_http.specs.declared.query.AnswerForm.TheVariants.{Lines, Json, Metrics}
use Rattle.desk_http.specs.declared.routing.Resource.{Resource}
use Rattle.desk_http.specs.declared.routing.Resource.TheVariants as resources
use Rattle.desk_http.specs.Lines.{is_line, is_person, is_reserved, is_change}
use Rattle.desk_http.specs.Versions.{version_of}
use Rattle.desk_http.specs.declared.files.FileKind.{FileKind}
use Rattle.desk_http.specs.Files.{kind_at}

-- the name ends with port 80
abbrev pub has_port_80 : List ℕ → Bool
has_port_80 name = nat_le 3 (length name) && bytes_eq (drop (length name - 3) name) (codes ":80")

-- the host is this name, or this name without port 80, which browsers leave out (RFC 9110 section 4.2.1)
abbrev pub is_named : List ℕ → List ℕ → Bool
is_named name host = bytes_eq host name || (has_port_80 name && bytes_eq host (take (length name - 3) name))

-- the page's own host, by its address or by name
abbrev pub is_host_of : Site → List ℕ → Bool
is_host_of site host = is_named site.host.items host || is_named site.local.items host

-- the page's own origin (RFC 6454 section 6.2)
abbrev pub is_origin_of : Site → List ℕ → Bool
is_origin_of site origin =
    nat_le 7 (length origin) && bytes_eq (take 7 origin) (codes "http://") && is_host_of site (drop 7 origin)

-- the first field of this name
abbrev pub header_field : Request (List ℕ) → List ℕ → Option FieldValue
header_field request name = get (head_of request).headers name

-- the field's value passes a test, or there is no such field and this holds
abbrev pub test_or : Bool → (List ℕ → Bool) → Option FieldValue → Bool
test_or otherwise test None = otherwise
test_or otherwise test (Some value) = test value.bytes

-- the request names the page's host
abbrev pub has_own_host : Site → Request (List ℕ) → Bool
has_own_host site request = test_or false (is_host_of site) (header_field request (codes "host"))

-- the request comes from the page itself, or from no web page
abbrev pub has_own_origin : Site → Request (List ℕ) → Bool
has_own_origin site request = test_or true (is_origin_of site) (header_field request (codes "origin"))

-- the request has the page's token
abbrev pub has_token : Site → Request (List ℕ) → Bool
has_token site request =
    test_or false (λ value. bytes_eq value site.token.items) (header_field request (codes "x-desk-token"))

-- the field's value, or another one where there is no such field
abbrev pub value_or : List ℕ → Option FieldValue → List ℕ
value_or otherwise None = otherwise
value_or otherwise (Some value) = value.bytes

-- who gives the request's line: `page` where the request doesn't say it
abbrev pub person_of : Request (List ℕ) → List ℕ
person_of request = value_or (codes "page") (header_field request (codes "x-desk-person"))

-- the bridge takes the person's name
abbrev pub has_person : Request (List ℕ) → Bool
has_person request = is_person (person_of request)

-- the version that a field says, if it is there
abbrev pub seen_in : Option FieldValue → Option ℕ
seen_in None = None
seen_in (Some value) = version_of value.bytes

-- the version of the desk that the person saw, where the request says it
abbrev pub seen_of : Request (List ℕ) → Option ℕ
seen_of request = seen_in (header_field request (codes "x-desk-seen"))

-- the request says a version, or none
abbrev pub has_seen : Request (List ℕ) → Bool
has_seen request = test_or true (λ value. is_some (version_of value)) (header_field request (codes "x-desk-seen"))

-- the request has this method
abbrev pub is_method : Request (List ℕ) → List ℕ → Bool
is_method request method = bytes_eq (head_of request).method method

-- a kind of file as what the page has
abbrev pub file_of : Option FileKind → Option Resource
file_of None = None
file_of (Some kind) = Some (resources.File kind)

-- the file at a path
abbrev pub file_at : List ℕ → Option Resource
file_at path = file_of (kind_at path)

-- what is written at a path, or the file there
abbrev pub written_at : List ℕ → Option Resource
written_at path =
    if bytes_eq path (codes "/call") then Some resources.Call
    else if bytes_eq path (codes "/names") then Some resources.Names
    else file_at path

-- what the page has at a path
abbrev pub resource_at : List ℕ → Option Resource
resource_at path =
    if bytes_eq path (codes "/") then Some resources.Page
    else if bytes_eq path (codes "/desk") then Some (resources.Read Desk Json)
    else if bytes_eq path (codes "/desk.txt") then Some (resources.Read Desk Lines)
    else if bytes_eq path (codes "/history") then Some (resources.Read History Json)
    else if bytes_eq path (codes "/history.txt") then Some (resources.Read History Lines)
    else if bytes_eq path (codes "/past") then Some (resources.Read Calls Json)
    else if bytes_eq path (codes "/past.txt") then Some (resources.Read Calls Lines)
    else if bytes_eq path (codes "/stats") then Some (resources.Read Stats Json)
    else if bytes_eq path (codes "/metrics") then Some (resources.Read Stats Metrics)
    else if bytes_eq path (codes "/events") then Some resources.Events
    else written_at path

-- the route of a call with this body
abbrev pub line_route : List ℕ → Route
line_route body =
    if not (is_line body) then routes.Refused NoLine
    else if is_reserved body then routes.Refused Reserved
    else routes.Call

-- the route of a request to `/call`
abbrev pub call_route : Site → Request (List ℕ) → Route
call_route site request =
    if not (is_method request (codes "POST")) then routes.Refused NotAllowed
    else if not (has_token site request) then routes.Refused NoToken
    else if not (has_person request) then routes.Refused NoPerson
    else if not (has_seen request) then routes.Refused NoVersion
    else line_route (body_of request)

-- the route if the method is GET; other methods are refused
abbrev pub get_only : Request (List ℕ) → Route → Route
get_only request route = if is_method request (codes "GET") then route else routes.Refused NotAllowed

-- the route of a change of names with this body
abbrev pub change_route : List ℕ → Route
change_route body = if is_change body then routes.ChangeNames else routes.Refused NoNames

-- the route of a POST to `/names`, which needs the token
abbrev pub post_names_route : Site → Request (List ℕ) → Route
post_names_route site request =
    if has_token site request then change_route (body_of request) else routes.Refused NoToken

-- the route of a request to `/names`
abbrev pub names_route : Site → Request (List ℕ) → Route
names_route site request =
    if is_method request (codes "POST") then post_names_route site request else get_only request routes.Names

-- the route to what the page has at a path
abbrev pub resource_route : Site → Request (List ℕ) → Option Resource → Route
resource_route site request None = routes.Refused NotFound
resource_route site request (Some resources.Page) = get_only request routes.Page
resource_route site request (Some (resources.File kind)) = get_only request (routes.File kind)
resource_route site request (Some (resources.Read query form)) = get_only request (routes.Read query form)
resource_route site request (Some resources.Events) = get_only request routes.Events
resource_route site request (Some resources.Call) = call_route site request
resource_route site request (Some resources.Names) = names_route site request

-- the route of a request: host, origin, path, method, token, person, version and body are tested in this order
abbrev pub route_of : Site → Request (List ℕ) → Route
route_of site request =
    if not (has_own_host site request) then routes.Refused ForeignHost
    else if not (has_own_origin site request) then routes.Refused ForeignOrigin
    else resource_route site request (resource_at (uri_path (head_of request).uri))
