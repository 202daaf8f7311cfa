-- Which sources wait to be asked for a picture, and which may be asked (RFC 4585 section 6.3.1, a PLI; the rule is
-- own).
use Rattle.std.specs.Prelude.{ℕ, Bool, not, ◌&&◌, ◌-◌, nat_lt, if◌then◌else◌, List, [], ◌∷◌, ◌++◌, map, filter}
use Rattle.desk_rows.specs.Desk.{Desk}
use Rattle.picture_requests.specs.declared.source.VideoSource.{VideoSource}
use Rattle.picture_requests.specs.declared.choosing.SlotChoice.{SlotChoice}
use Rattle.picture_requests.specs.declared.sending.SentRequest.{SentRequest}
use Rattle.picture_requests.specs.Sources.{is_among, without_source, each_once}
use Rattle.picture_requests.specs.Choices.{choices_of, chosen_sources, changed_to}

-- the choices of the desk that was seen last, the sources that wait to be asked, and the requests that were sent lately
pub record RequestsOf : Type 0 where
  pub choices : List SlotChoice
  pub waiting : List VideoSource
  pub sent : List SentRequest

-- no desk was seen, and nothing waits
abbrev pub no_requests : RequestsOf
no_requests = record { choices = []; waiting = []; sent = [] }

-- ---- what may be asked

-- the least time between two requests to a source, in nanoseconds: half a second
abbrev pub request_gap : ℕ
request_gap = 500000000

-- the request was sent less than that before a moment, or behind it where moments went back
abbrev pub is_recent : ℕ → SentRequest → Bool
is_recent moment r = nat_lt (moment - r.moment) request_gap && nat_lt (r.moment - moment) request_gap

-- the sources of recent requests
abbrev pub asked_lately : ℕ → List SentRequest → List VideoSource
asked_lately moment sent = map (λ r. r.source) (filter (is_recent moment) sent)

-- those of the sources that were not asked lately
abbrev pub may_be_asked : ℕ → List SentRequest → List VideoSource → List VideoSource
may_be_asked moment sent sources = filter (λ s. not (is_among (asked_lately moment sent) s)) sources

-- the sources that wait and may be asked at a moment
abbrev pub due : ℕ → RequestsOf → List VideoSource
due moment r = may_be_asked moment r.sent r.waiting

-- ---- what waits

-- those of the sources that some slot chose
abbrev pub still_chosen : List SlotChoice → List VideoSource → List VideoSource
still_chosen choices sources = filter (is_among (chosen_sources choices)) sources

-- what waits after choices changed: what waited and is still chosen, and then the sources to which choices changed,
-- each once
abbrev pub waiting_after : List SlotChoice → List SlotChoice → List VideoSource → List VideoSource
waiting_after before after waiting = each_once (still_chosen after waiting ++ changed_to before after)

-- a desk was seen at a moment
abbrev pub after_seeing : Desk → ℕ → RequestsOf → RequestsOf
after_seeing desk moment r = record {
  choices = choices_of desk;
  waiting = waiting_after r.choices (choices_of desk) r.waiting;
  sent = filter (is_recent moment) r.sent;
}

-- a source is to be asked for another reason
abbrev pub after_wanting : VideoSource → ℕ → RequestsOf → RequestsOf
after_wanting source moment r =
    if is_among r.waiting source then r
    else record { choices = r.choices; waiting = r.waiting ++ source ∷ []; sent = filter (is_recent moment) r.sent }

-- a source was asked at a moment; one that did not wait changes nothing
abbrev pub after_asking : VideoSource → ℕ → RequestsOf → RequestsOf
after_asking source moment r =
    if is_among r.waiting source
    then record {
      choices = r.choices;
      waiting = without_source source r.waiting;
      sent = r.sent ++ (record { source = source; moment = moment }) ∷ [];
    }
    else r
