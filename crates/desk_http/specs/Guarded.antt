-- What holds of each request whose line goes to the bridge as a call (own).
use Rattle.std.specs.Prelude.{◌≡◌, ℕ, true, false, List, codes}
use Rattle.http.specs.declared.request.Request.{Request}
use Rattle.http.specs.Request.{body_of}
use Rattle.desk_http.specs.declared.site.Site.{Site}
use Rattle.desk_http.specs.declared.routing.Route.TheVariants.{Call}
use Rattle.desk_http.specs.Routes.{route_of, has_own_host, has_own_origin, has_token, has_person, has_seen, is_method}
use Rattle.desk_http.specs.Lines.{is_line, is_reserved}

-- a call passes all of these
pub record Passes (site : Site) (request : Request (List ℕ)) : Type 0 where
  pub host : has_own_host site request ≡ true
  pub origin : has_own_origin site request ≡ true
  pub method : is_method request (codes "POST") ≡ true
  pub token : has_token site request ≡ true
  pub person : has_person request ≡ true
  pub seen : has_seen request ≡ true
  pub line : is_line (body_of request) ≡ true
  pub open_word : is_reserved (body_of request) ≡ false

-- each call passes
abbrev pub IsGuarded : Type 0
IsGuarded = (site : Site) (request : Request (List ℕ)) → route_of site request ≡ Call → Passes site request
