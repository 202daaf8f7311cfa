-- The responses to requests (own; the status codes are those of RFC 9110 section 15).
use Rattle.std.specs.Prelude.{ℕ, List, [], ◌∷◌, ◌++◌, codes, Option, Some, None}
use Rattle.http1.specs.Fields.{Header}
use Rattle.http_server.specs.declared.response.Response.{Response}
use Rattle.http_server.specs.Response.{IsResponse}
use Rattle.desk_http.specs.declared.site.Site.{Site}
use Rattle.desk_http.specs.declared.site.Assets.{Assets}
use Rattle.desk_http.specs.declared.files.FileKind.{FileKind}
use Rattle.desk_http.specs.declared.files.FileKind.TheVariants.{Script, Style}
use Rattle.desk_http.specs.Files.{content_of, name_at}
use Rattle.desk_http.specs.declared.routing.Route.{Route}
use Rattle.desk_http.specs.declared.routing.Route.TheVariants as routes
use Rattle.desk_http.specs.declared.routing.PageRefusal.{PageRefusal}
use Rattle.desk_http.specs.declared.routing.PageRefusal.TheVariants.{ForeignHost, ForeignOrigin, NotFound, NotAllowed}
use Rattle.desk_http.specs.declared.routing.PageRefusal.TheVariants.{NoToken, NoPerson, NoVersion, NoLine}
use Rattle.desk_http.specs.declared.routing.PageRefusal.TheVariants.{Reserved, NoNames}

-- a status, a content type and a body
pub record PageResponse : Type 0 where
  pub status : ℕ
  pub content_type : List ℕ
  pub body : List ℕ

-- the page fetches from itself alone, and stands in no frame (Content Security Policy Level 3)
abbrev pub policy : List ℕ
policy =
    codes "default-src 'none'; script-src 'self'; style-src 'self'; connect-src 'self'; "
    ++ codes "base-uri 'none'; form-action 'none'; frame-ancestors 'none'"

-- the headers of all responses: each is the last one of its connection, and other sites' pages can't load it
abbrev pub common_headers : List Header
common_headers =
    (codes "connection", codes "close") ∷ (codes "cache-control", codes "no-store")
    ∷ (codes "content-security-policy", policy)
    ∷ (codes "x-content-type-options", codes "nosniff") ∷ (codes "referrer-policy", codes "no-referrer")
    ∷ (codes "cross-origin-resource-policy", codes "same-origin") ∷ []

-- the response has this status, content type and body, and the headers of all responses
abbrev pub IsPageResponse : PageResponse → Response → Type 0
IsPageResponse page response =
    IsResponse page.status (common_headers ++ (codes "content-type", page.content_type) ∷ []) page.body response

-- the content types (RFC 9110 section 8.3)
abbrev pub html_type : List ℕ
html_type = codes "text/html; charset=utf-8"

abbrev pub script_type : List ℕ
script_type = codes "text/javascript; charset=utf-8"

abbrev pub style_type : List ℕ
style_type = codes "text/css; charset=utf-8"

abbrev pub text_type : List ℕ
text_type = codes "text/plain; charset=utf-8"

-- plain text
abbrev pub text_response : ℕ → List ℕ → PageResponse
text_response status text = record { status = status; content_type = text_type; body = text }

-- the page, with its token
abbrev pub page_response : Assets → List ℕ → PageResponse
page_response assets token =
    record { status = 200; content_type = html_type; body = assets.html_before.now ++ token ++ assets.html_after.now }

-- the content type of a file
abbrev pub media_type : FileKind → List ℕ
media_type Script = script_type
media_type Style = style_type

-- the status of a refusal
abbrev pub refusal_status : PageRefusal → ℕ
refusal_status ForeignHost = 403
refusal_status ForeignOrigin = 403
refusal_status NotFound = 404
refusal_status NotAllowed = 405
refusal_status NoToken = 403
refusal_status NoPerson = 400
refusal_status NoVersion = 400
refusal_status NoLine = 400
refusal_status Reserved = 400
refusal_status NoNames = 400

-- a refusal in words, its name first
abbrev pub refusal_text : PageRefusal → List ℕ
refusal_text ForeignHost = codes "ForeignHost: this page answers to its own address alone\n"
refusal_text ForeignOrigin = codes "ForeignOrigin: this page takes nothing from other pages\n"
refusal_text NotFound =
    codes "NotFound: there are /, /desk, /history, /past, /stats, /metrics, /events, /call and /names\n"
refusal_text NotAllowed = codes "NotAllowed: POST to /call, GET or POST to /names, GET elsewhere\n"
refusal_text NoToken = codes "NoToken: load the page again, its token is of an earlier run\n"
refusal_text NoPerson = codes "NoPerson: X-Desk-Person is a name of 1 to 64 octets from ! to ~, or isn't there\n"
refusal_text NoVersion = codes "NoVersion: X-Desk-Seen is the number of a version of the desk, or isn't there\n"
refusal_text NoLine = codes "NoLine: a call is one line of 1 to 4096 printed octets\n"
refusal_text Reserved = codes "Reserved: calls alone are for the page, and no line such as show, watch, as or help\n"
refusal_text NoNames =
    codes "NoNames: a change is the word names, the version that was seen, and a JSON object of texts\n"

-- the response to a request that is refused
abbrev pub refusal_response : PageRefusal → PageResponse
refusal_response refusal = text_response (refusal_status refusal) (refusal_text refusal)

-- the response where there is no such file
abbrev pub missing_response : PageResponse
missing_response = refusal_response NotFound

-- a file of this kind, if it is there
abbrev pub file_response : FileKind → Option (List ℕ) → PageResponse
file_response kind None = missing_response
file_response kind (Some content) = record { status = 200; content_type = media_type kind; body = content }

-- a placeholder while the bridge or the store of names is asked, or a stream begins, which no browser gets
abbrev pub waiting_response : PageResponse
waiting_response = text_response 503 (codes "Waiting: the bridge is asked\n")

-- the response that needs no bridge, to a request for this path
abbrev pub direct_response : Site → Assets → List ℕ → Route → PageResponse
direct_response site assets path routes.Page = page_response assets site.token.items
direct_response site assets path (routes.File kind) =
    file_response kind (content_of (name_at path) assets.files.items)
direct_response site assets path (routes.Read query form) = waiting_response
direct_response site assets path routes.Events = waiting_response
direct_response site assets path routes.Call = waiting_response
direct_response site assets path routes.Names = waiting_response
direct_response site assets path routes.ChangeNames = waiting_response
direct_response site assets path (routes.Refused refusal) = refusal_response refusal

-- the response to a request whose line isn't the one that was replied to
abbrev pub mismatch_response : PageResponse
mismatch_response = text_response 500 (codes "Other: the bridge was asked for another request\n")

-- the response to a request for what its browser has already (RFC 9110 section 15.3.5)
abbrev pub known_response : PageResponse
known_response = text_response 204 []
