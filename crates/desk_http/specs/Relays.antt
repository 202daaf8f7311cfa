-- The responses that hand on what the bridge said (own; the status codes are those of RFC 9110 section 15).
use Rattle.std.specs.Prelude.{ℕ, not, ◌&&◌, if◌then◌else◌, List, ◌++◌, codes, Option, Some, None, option_map}
use Rattle.std.specs.Borrow.{Bor}
use Rattle.std.specs.Str.{is_utf8}
use Rattle.desk_http.specs.declared.rows.RowShape.{RowShape}
use Rattle.desk_http.specs.declared.metrics.Family.{Family}
use Rattle.desk_http.specs.declared.relaying.Tables.{Tables}
use Rattle.desk_http.specs.declared.query.Query.{Query}
use Rattle.desk_http.specs.declared.query.Query.TheVariants.{Desk, History, Calls, Stats}
use Rattle.desk_http.specs.declared.query.AnswerForm.{AnswerForm}
use Rattle.desk_http.specs.declared.query.AnswerForm.TheVariants.{Lines, Json, Metrics}
use Rattle.desk_http.specs.declared.routing.Route.{Route}
use Rattle.desk_http.specs.declared.routing.Route.TheVariants as routes
use Rattle.desk_http.specs.declared.responding.BridgeReply.{BridgeReply}
use Rattle.desk_http.specs.declared.responding.BridgeReply.TheVariants.{Text, Busy, Gone, Lost, Full, Newer}
use Rattle.desk_http.specs.declared.responding.BridgeReply.TheVariants.{Missing}
use Rattle.desk_http.specs.BridgeRequests.{is_fault}
use Rattle.desk_http.specs.Metrics.{metrics_text}
use Rattle.desk_http.specs.Rows.{json_text}
use Rattle.desk_http.specs.Responses.{PageResponse, text_response, html_type, media_type, missing_response}

-- the content types (RFC 8259 section 11, and the text format of Prometheus)
abbrev pub json_type : List ℕ
json_type = codes "application/json"

abbrev pub metrics_type : List ℕ
metrics_type = codes "text/plain; version=0.0.4; charset=utf-8"

-- an answer as a text, if it is one and no fault
abbrev pub readable_text : List ℕ → Option (List ℕ)
readable_text answer = if not (is_fault answer) && is_utf8 answer then Some answer else None

-- the shapes of the answer to a query
abbrev pub shapes_of : Tables → Query → List RowShape
shapes_of tables Desk = tables.desk.now
shapes_of tables History = tables.history.now
shapes_of tables Calls = tables.calls.now
shapes_of tables Stats = tables.stats.now

-- an answer as JSON, if it is a text and no fault
abbrev pub json_body : List RowShape → List ℕ → Option (List ℕ)
json_body shapes answer = option_map (json_text shapes) (readable_text answer)

-- an answer as metrics, if it is a text and no fault
abbrev pub metrics_body : List (Bor (List Family)) → List ℕ → Option (List ℕ)
metrics_body families answer = option_map (metrics_text families) (readable_text answer)

-- a text of this type, or the word that the bridge doesn't know the question
abbrev pub told_response : List ℕ → Option (List ℕ) → PageResponse
told_response type_told (Some body) = record { status = 200; content_type = type_told; body = body }
told_response type_told None =
    text_response 501 (codes "Unknown: this bridge doesn't know the question, it is an older one\n")

-- the bridge's answer to a query, handed on in a form
abbrev pub form_response : Tables → Query → AnswerForm → List ℕ → PageResponse
form_response tables query Lines answer = text_response 200 answer
form_response tables query Json answer = told_response json_type (json_body (shapes_of tables query) answer)
form_response tables query Metrics answer = told_response metrics_type (metrics_body tables.families answer)

-- the response to a request of this route by the bridge's answer, which goes on octet by octet to all but the queries,
-- or by what a file has
abbrev pub text_response_of : Tables → Route → List ℕ → PageResponse
text_response_of tables (routes.Read query form) answer = form_response tables query form answer
text_response_of tables routes.Page answer = record { status = 200; content_type = html_type; body = answer }
text_response_of tables (routes.File kind) answer =
    record { status = 200; content_type = media_type kind; body = answer }
text_response_of tables routes.Events answer = text_response 200 answer
text_response_of tables routes.Call answer = text_response 200 answer
text_response_of tables routes.Names answer = text_response 200 answer
text_response_of tables routes.ChangeNames answer = text_response 200 answer
text_response_of tables (routes.Refused refusal) answer = text_response 200 answer

-- the response to a call that isn't sent, since this one of the log came first
abbrev pub newer_response : List ℕ → PageResponse
newer_response call =
    text_response 409
    (codes "Newer: another person touched that row after this desk was seen, nothing was sent\n" ++ call ++ codes "\n")

-- the response by the bridge's reply, or by why there is none
abbrev pub relayed_response : Tables → Route → BridgeReply → PageResponse
relayed_response tables route (Text answer) = text_response_of tables route answer.items
relayed_response tables route Busy =
    text_response 503 (codes "Busy: all seats of the bridge are taken, nothing was done\n")
relayed_response tables route Gone = text_response 502 (codes "Gone: the bridge is not there, nothing was sent\n")
relayed_response tables route Lost =
    text_response 504 (codes "Lost: no answer came, look at the desk before sending the line again\n")
relayed_response tables route Full =
    text_response 503 (codes "Full: 24 pages have the events, ask for the desk now and then\n")
relayed_response tables route (Newer call) = newer_response call.items
relayed_response tables route Missing = missing_response
