-- How the page's two services respond (own).
use Rattle.std.specs.Prelude.{◌≡◌, ℕ, Bool, true, false, ◌&&◌, if◌then◌else◌, List, codes, Option, Some, None}
use Rattle.std.specs.Prelude.{option_map}
use Rattle.std.specs.Str.{bytes_eq}
use Rattle.http.specs.declared.request.Request.{Request}
use Rattle.http.specs.Request.{head_of, body_of}
use Rattle.http_uri.specs.Uri.{uri_path, uri_query}
use Rattle.http_server.specs.declared.response.Response.{Response}
use Rattle.desk_http.specs.declared.services.Router.{Router}
use Rattle.desk_http.specs.declared.services.Responder.{Responder}
use Rattle.desk_http.specs.declared.site.Site.{Site}
use Rattle.desk_http.specs.declared.routing.Route.{Route}
use Rattle.desk_http.specs.declared.routing.Route.TheVariants as routes
use Rattle.desk_http.specs.Queries.{query_line}
use Rattle.desk_http.specs.Routes.{route_of, person_of, seen_of}
use Rattle.desk_http.specs.declared.responding.BridgeReply.{BridgeReply}
use Rattle.desk_http.specs.declared.relaying.Tables.{Tables}
use Rattle.desk_http.specs.Responses.{PageResponse, IsPageResponse, direct_response, mismatch_response, known_response}
use Rattle.desk_http.specs.Relays.{relayed_response}
use Rattle.desk_http.specs.States.{is_known}

-- the line that a route hands to the bridge, to the store of names or to the stream of events: that of a call is the
-- body, octet by octet
abbrev pub bridge_line : Route → List ℕ → Option (List ℕ)
bridge_line routes.Page body = None
bridge_line (routes.File kind) body = None
bridge_line (routes.Read query form) body = Some (query_line query)
bridge_line routes.Events body = Some (codes "events")
bridge_line routes.Call body = Some body
bridge_line routes.Names body = Some (codes "names")
bridge_line routes.ChangeNames body = Some body
bridge_line (routes.Refused refusal) body = None

-- the route is to a file of the page
abbrev pub is_file : Route → Bool
is_file routes.Page = true
is_file (routes.File kind) = true
is_file (routes.Read query form) = false
is_file routes.Events = false
is_file routes.Call = false
is_file routes.Names = false
is_file routes.ChangeNames = false
is_file (routes.Refused refusal) = false

-- the line of a request: its path where it asks for a file of a folder, and else what its route hands over
abbrev pub requested_line : Site → Request (List ℕ) → Option (List ℕ)
requested_line site request =
    if site.has_folder && is_file (route_of site request) then Some (uri_path (head_of request).uri)
    else bridge_line (route_of site request) (body_of request)

-- the line of the request that a router was called with
abbrev pub wanted_line : Router → Option (List ℕ)
wanted_line router = option_map (λ line. line.items) router.line

-- a request is responded to at once, or its line is named, who gives it, and which desk that person saw
pub record RoutesRequest (old : Router) (request : Request (List ℕ)) (response : Response) (new : Router)
    : Type 0 where
  pub content : IsPageResponse
      (direct_response old.site old.assets (uri_path (head_of request).uri) (route_of old.site request)) response
  pub line : wanted_line new ≡ requested_line old.site request
  pub person : new.person.items ≡ person_of request
  pub seen : new.seen ≡ seen_of request
  pub site : new.site ≡ old.site
  pub assets : new.assets ≡ old.assets

-- the line is the one that was wanted
abbrev pub is_line_wanted : List ℕ → Option (List ℕ) → Bool
is_line_wanted line None = false
is_line_wanted line (Some wanted) = bytes_eq line wanted

-- the response by the reply to a request's line: nothing, where the browser has it already
abbrev pub own_response : Tables → Route → Option (List ℕ) → BridgeReply → PageResponse
own_response tables route query reply =
    if is_known route query reply then known_response else relayed_response tables route reply

-- a request is responded to by the reply to its own line, and to no other
pub record Responds (old : Responder) (request : Request (List ℕ)) (response : Response) (new : Responder)
    : Type 0 where
  pub kept : new ≡ old
  pub content : IsPageResponse
      (if is_line_wanted old.line.now (requested_line old.site.now request)
      then own_response old.tables.now (route_of old.site.now request) (uri_query (head_of request).uri)
      old.reply.now
      else mismatch_response) response
