-- A lane's part of a trace is read.
use Rattle.std.proofs.Common.{◌≡◌, ℕ, ◌≤◌, true, false, List, ◌∷◌, ◌++◌, length, map}
use Rattle.std.proofs.Common.{codes, Ok, refl, ap, ◌∙◌, arith, append_assoc, leb, ltb}
use Rattle.std.specs.Fmt.{decimal}
use Rattle.std.specs.List.{list_all}
use Rattle.std.proofs.lemmas.Bool.{and_parts, and_from, leb-true}
use Rattle.std.proofs.lemmas.Fmt.{length-decimal-le}
use Rattle.std.proofs.lemmas.List.{length-append}
use Rattle.sender_feedback.specs.Upstream.{Asker}
use Rattle.media_workers.specs.LaneRuns.{Versioned}
use Rattle.desk_text.specs.Lines.{lines_of, is_printable}
use Rattle.desk_text.specs.Words.{words_of}
use Rattle.script_text.specs.Requests.{Request, Begin}
use Rattle.script_text.specs.FirstLine.{bridge_word, first_request, request_at, bridge_line}
use Rattle.script_text.specs.Scripts.{requests_from, requests_of}
use Rattle.script_text.proofs.FirstLineLaws.{bridge_again}
use Rattle.call_history.specs.AcceptedCall.{AcceptedOf}
use Rattle.trace_text.specs.TraceLines.{first_line}
use Rattle.trace_text.specs.declared.speaker.Speaker.TheVariants.{Front, Lane}
use Rattle.trace_scripts.specs.Scripts.{item_done, script_lines}
use Rattle.trace_laws.specs.Traces.{IsWritten, AreToldCalls, AreWithin, AreToldItems, lane_script, lane_asked}
use Rattle.trace_laws.proofs.VisibleLemmas.{IsWord, visible_test, visible_number, word_printable}
use Rattle.trace_laws.proofs.CallLines.{words_asked}
use Rattle.trace_laws.proofs.ScriptReads.{line_first, items_read}

-- ---- the first line

pub bridge_printable : (who : Asker) → IsWritten who → list_all is_printable (bridge_line who false) ≡ true
bridge_printable who h =
    let ssrc : IsWord (decimal who.ssrc) = visible_number who.ssrc (omega (arith, h.named.ssrc)) in
    let behind : list_all is_printable (32 ∷ who.cname) ≡ true =
    and_from true (list_all is_printable who.cname) refl h.name in
    let number = word_printable (decimal who.ssrc) (32 ∷ who.cname) ssrc behind in
    word_printable bridge_word (32 ∷ decimal who.ssrc ++ 32 ∷ who.cname) (visible_test bridge_word refl)
    (and_from true (list_all is_printable (decimal who.ssrc ++ 32 ∷ who.cname)) refl number)

bridge_few : (who : Asker) → IsWritten who → length (bridge_line who false) ≤ 65536
bridge_few who h =
    let ssrc : length (decimal who.ssrc) ≤ 10 =
    length-decimal-le 10 who.ssrc (omega arith) (omega (arith, h.named.ssrc)) (omega (arith, h.named.ssrc)) in
    let name : length who.cname ≤ 255 =
    (let sizes = and_parts (ltb 0 (length who.cname)) (leb (length who.cname) 255) h.named.name in
    leb-true (length who.cname) 255 sizes.1) in
    omega (arith, ssrc, name, length-append (decimal who.ssrc) (32 ∷ who.cname))

bridge_read : (who : Asker) → IsWritten who → request_at 1 (bridge_line who false) ≡ Ok (Begin who false)
bridge_read who h =
    let line = bridge_line who false in
    let rest = codes "ridge" ++ 32 ∷ decimal who.ssrc ++ 32 ∷ who.cname in
    words_asked (first_request (words_of line)) line rest 98 65536 refl refl refl (bridge_few who h)
    (bridge_printable who h)
    ∙ bridge_again who false h.named

pub bridge_ended : (lane : ℕ) (who : Asker) (rest : List ℕ)
    → first_line (Lane lane) who.ssrc who.cname ++ rest ≡ bridge_line who false ++ 10 ∷ rest
bridge_ended lane who rest = simp append_assoc refl

-- ---- all lines

pub script_read : (lane : ℕ) (who : Asker) (calls : List AcceptedOf) (items : List Versioned) → IsWritten who
    → AreToldCalls calls → AreWithin calls → AreToldItems items
    → requests_of (lines_of (lane_script lane who calls items)) ≡ lane_asked who calls items
unfolding requests_from
script_read lane who calls items h said within given =
    let rest = script_lines Front 0 (map item_done items) calls in
    let line = bridge_line who false in
    ap (λ (t : List ℕ). requests_of (lines_of t)) (bridge_ended lane who rest)
    ∙ rw (line_first line rest (bridge_printable who h), bridge_read who h)
    (ap (λ (rs : List Request). Begin who false ∷ rs) (items_read 0 calls items said within given 2 (omega arith)))
