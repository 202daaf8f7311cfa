-- Each call passes all tests.
use Rattle.std.proofs.Common.{◌≡◌, ℕ, Bool, true, false, not, if◌then◌else◌, List, codes, Option, Some, None, refl}
use Rattle.http.specs.declared.request.Request.{Request}
use Rattle.http.specs.Request.{head_of, body_of}
use Rattle.http_uri.specs.Uri.{uri_path}
use Rattle.desk_http.specs.declared.site.Site.{Site}
use Rattle.desk_http.specs.declared.routing.Route.{Route}
use Rattle.desk_http.specs.declared.routing.Route.TheVariants.{Page, File, Read, Events, Call, Names}
use Rattle.desk_http.specs.declared.routing.Route.TheVariants.{ChangeNames, Refused}
use Rattle.desk_http.specs.declared.routing.PageRefusal.{PageRefusal}
use Rattle.desk_http.specs.declared.routing.PageRefusal.TheVariants.{ForeignHost, ForeignOrigin, NotAllowed, NoToken}
use Rattle.desk_http.specs.declared.routing.PageRefusal.TheVariants.{NoPerson, NoVersion, NoLine, Reserved, NoNames}
use Rattle.desk_http.specs.declared.routing.Resource.{Resource}
use Rattle.desk_http.specs.declared.routing.Resource.TheVariants as resources
use Rattle.desk_http.specs.Routes.{route_of, resource_route, call_route, names_route, line_route, resource_at}
use Rattle.desk_http.specs.Routes.{has_own_host, has_own_origin, has_token, has_person, has_seen, is_method}
use Rattle.desk_http.specs.Lines.{is_line, is_reserved, is_change}
use Rattle.desk_http.specs.Guarded.{Passes}

-- a route that follows two tests is a call only where both pass
two_tests : (a b : Bool) (x y : PageRefusal) (w : Route)
    → (if not a then Refused x else if not b then Refused y else w) ≡ Call
    → (a ≡ true) × (b ≡ true) × (w ≡ Call)
two_tests false b x y w e = absurd (cc)
two_tests true false x y w e = absurd (cc)
two_tests true true x y w e = (refl, refl, e)

-- a route that follows one test is a call only where it passes
one_test : (a : Bool) (x : PageRefusal) (w : Route) → (if not a then Refused x else w) ≡ Call → (a ≡ true) × (w ≡ Call)
one_test false x w e = absurd (cc)
one_test true x w e = (refl, e)

-- a line is a call only if it is one, and not reserved
line_tests : (a b : Bool) → (if not a then Refused NoLine else if b then Refused Reserved else Call) ≡ Call
    → (a ≡ true) × (b ≡ false)
line_tests false b e = absurd (cc)
line_tests true true e = absurd (cc)
line_tests true false e = (refl, refl)

-- what a GET alone may have is no call
get_no : (a : Bool) (w : Route) → (w ≡ Call → ⊥) → (if a then w else Refused NotAllowed) ≡ Call → ⊥
get_no true w h e = h e
get_no false w h e = cc

-- a change of names is no call
change_no : (a : Bool) → (if a then ChangeNames else Refused NoNames) ≡ Call → ⊥
change_no true e = cc
change_no false e = cc

-- and neither is another request for names
names_no : (a b c d : Bool) → (if a then (if c then (if d then ChangeNames else Refused NoNames) else Refused NoToken)
    else (if b then Names else Refused NotAllowed)) ≡ Call → ⊥
names_no false b c d e = get_no b Names (λ h. cc) e
names_no true b false d e = cc
names_no true b true d e = change_no d e

no_names_call : (site : Site) (request : Request (List ℕ)) → names_route site request ≡ Call → ⊥
no_names_call site request e =
    names_no (is_method request (codes "POST")) (is_method request (codes "GET")) (has_token site request)
    (is_change (body_of request)) e

-- a call is at its path
at_call : (site : Site) (request : Request (List ℕ)) (p : Option Resource) → resource_route site request p ≡ Call
    → call_route site request ≡ Call
at_call site request None e = absurd (cc)
at_call site request (Some resources.Page) e = absurd (get_no (is_method request (codes "GET")) Page (λ h. cc) e)
at_call site request (Some (resources.File kind)) e =
    absurd (get_no (is_method request (codes "GET")) (File kind) (λ h. cc) e)
at_call site request (Some (resources.Read query form)) e =
    absurd (get_no (is_method request (codes "GET")) (Read query form) (λ h. cc) e)
at_call site request (Some resources.Events) e = absurd (get_no (is_method request (codes "GET")) Events (λ h. cc) e)
at_call site request (Some resources.Call) e = e
at_call site request (Some resources.Names) e = absurd (no_names_call site request e)

pub call-passes : (site : Site) (request : Request (List ℕ)) → route_of site request ≡ Call → Passes site request
call-passes site request e =
    let resource = resource_at (uri_path (head_of request).uri) in
    let own = two_tests (has_own_host site request) (has_own_origin site request) ForeignHost ForeignOrigin
    (resource_route site request resource) e in
    let called = at_call site request resource own.2 in
    let posted = two_tests (is_method request (codes "POST")) (has_token site request) NotAllowed NoToken
    (if not (has_person request) then Refused NoPerson else if not (has_seen request) then Refused NoVersion
    else line_route (body_of request)) called in
    let named = two_tests (has_person request) (has_seen request) NoPerson NoVersion (line_route (body_of request))
    posted.2 in
    let line = line_tests (is_line (body_of request)) (is_reserved (body_of request)) named.2 in
    record {
      host = own.0;
      origin = own.1;
      method = posted.0;
      token = posted.1;
      person = named.0;
      seen = named.1;
      line = line.0;
      open_word = line.1;
    }
