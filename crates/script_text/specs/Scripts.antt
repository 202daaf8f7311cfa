-- What a script asks for, and what it is answered, request by request (own).
use Rattle.std.specs.Prelude.{ℕ, ◌+◌, List, [], ◌∷◌, ◌++◌, Result, Ok, Err}
use Rattle.bridge_core.specs.Sent.{Sent}
use Rattle.bridge_core.specs.Steps.{Step}
use Rattle.desk_text.specs.declared.fault.Fault.{Fault}
use Rattle.sender_feedback.specs.Upstream.{Asker}
use Rattle.desk_text.specs.Lines.{lines_of}
use Rattle.script_text.specs.Requests.{Request, Nothing, Begin, Desk, Item, Rx, Wait, Report, Show}
use Rattle.script_text.specs.FirstLine.{request_at}
use Rattle.script_text.specs.Decodings.{Decoding, script_asker}
use Rattle.script_text.specs.Bridge.{Bridge, opening_bridge, Answer, silence, replied, sent}
use Rattle.script_text.specs.Bridge.{heard, waited, reports, shown, answer, bridge_after}

-- a request before others; a line with a fault ends them
abbrev pub followed : Result Request (ℕ × Fault) → List Request → List Request
followed (Ok request) others = request ∷ others
followed (Err e) others = []

-- what lines ask for, up to the first fault, where the first of them has this number
unfoldable pub requests_from : ℕ → List (List ℕ) → List Request
requests_from number [] = []
requests_from number (line ∷ lines) = followed (request_at number line) (requests_from (number + 1) lines)

-- what the lines of a script ask for, up to the first fault
abbrev pub requests_of : List (List ℕ) → List Request
requests_of lines = requests_from 1 lines

-- who the bridge is by the first of these requests
abbrev pub named_by : List Request → Asker
named_by [] = script_asker
named_by (Nothing ∷ requests) = script_asker
named_by (Begin who renews ∷ requests) = who
named_by (Desk op call ∷ requests) = script_asker
named_by (Item item ∷ requests) = script_asker
named_by (Rx moment from octets ∷ requests) = script_asker
named_by (Wait moment from ssrc ∷ requests) = script_asker
named_by (Report moment ∷ requests) = script_asker
named_by (Show ∷ requests) = script_asker

-- who the bridge of a script is
abbrev pub speaker_of : List ℕ → Asker
speaker_of input = named_by (requests_of (lines_of input))

-- the answers to requests, one after another
abbrev pub answers_to : Bridge → List Request → List Answer
answers_to bridge [] = []
answers_to bridge (request ∷ requests) = (answer bridge request).0 ∷ answers_to (bridge_after bridge request) requests

-- the bridge after them
abbrev pub after_all : Bridge → List Request → Bridge
after_all bridge [] = bridge
after_all bridge (request ∷ requests) = after_all (bridge_after bridge request) requests

-- what goes out for items, and nothing for what else is answered
abbrev pub sent_in : List Answer → List (List Sent)
sent_in [] = []
sent_in (silence ∷ answers) = sent_in answers
sent_in (replied reply ∷ answers) = sent_in answers
sent_in (sent out ∷ answers) = out ∷ sent_in answers
sent_in (heard outcome up out ∷ answers) = out ++ sent_in answers
sent_in (waited up out ∷ answers) = out ++ sent_in answers
sent_in (reports up out ∷ answers) = out ∷ sent_in answers
sent_in (shown desk version ∷ answers) = sent_in answers

-- the answers to a script
abbrev pub answers_of : Decoding → List ℕ → List Answer
answers_of decoding input = answers_to (opening_bridge decoding) (requests_of (lines_of input))

-- the accepted calls of a script, as the desks that they leave, and its items
abbrev pub steps_of : Decoding → List ℕ → List Step
steps_of decoding input = (after_all (opening_bridge decoding) (requests_of (lines_of input))).steps
