-- The lines of a lane's part of a trace are those of its script, each behind the words that name the lane.
use Rattle.std.proofs.Common.{◌≡◌, ℕ, ◌-◌, ◌<◌, ◌^◌, true, false, List, [], ◌∷◌, ◌++◌, map}
use Rattle.std.proofs.Common.{drop, max, codes, refl, sym, ap, ◌∙◌, append_assoc}
use Rattle.std.specs.Fmt.{decimal}
use Rattle.std.specs.List.{list_all}
use Rattle.std.specs.Str.Lines.{strip_carriage_return}
use Rattle.std.proofs.lemmas.Bool.{and_parts, and_from}
use Rattle.sender_feedback.specs.Upstream.{Asker}
use Rattle.media_workers.specs.LaneRuns.{Versioned}
use Rattle.desk_text.specs.Lines.{parts_of, lines_by, ended, ended_lines, is_printable}
use Rattle.desk_text.proofs.Cuts.{parts_some}
use Rattle.desk_text.specs.HistoryText.{called_line}
use Rattle.script_text.specs.Requests.{desk_line}
use Rattle.script_text.specs.ItemLines.{item_line, item_text}
use Rattle.call_history.specs.AcceptedCall.{AcceptedOf}
use Rattle.script_text.specs.FirstLine.{bridge_line}
use Rattle.trace_text.specs.TraceLines.{mark_of, marked, first_line, calls_text}
use Rattle.trace_text.specs.declared.speaker.Speaker.TheVariants.{Front, Lane}
use Rattle.trace_scripts.specs.Scripts.{item_done, between, script_lines}
use Rattle.trace_laws.specs.Traces.{IsWritten, IsToldCall, AreToldCalls, AreToldItems, lane_script, lane_part}
use Rattle.trace_laws.proofs.VisibleLemmas.{visible_number, word_printable}
use Rattle.trace_laws.proofs.ItemLaws.{item_printable}
use Rattle.trace_laws.proofs.CallLines.{desk_printable}
use Rattle.trace_laws.proofs.ScriptReads.{line_free, unstripped, split_first, call_ended, all_drop, all_take}
use Rattle.trace_laws.proofs.TraceReads.{bridge_printable, bridge_ended}

-- ---- lines that an LF ends

ended_more : (line : List ℕ) (parts : List (List ℕ)) (part : List ℕ) (more : List (List ℕ)) → parts ≡ part ∷ more
    → lines_by ended (line ∷ parts) ≡ strip_carriage_return line ∷ lines_by ended parts
ended_more line parts part more is = rw is refl

ended_first : (line rest : List ℕ) → list_all is_printable line ≡ true
    → ended_lines (line ++ 10 ∷ rest) ≡ line ∷ ended_lines rest
ended_first line rest h =
    let some = parts_some 10 rest in
    ap (lines_by ended) (split_first line rest (line_free line h))
    ∙ (ended_more line (parts_of rest) some.0 some.1 some.2
    ∙ ap (λ (l : List ℕ). l ∷ ended_lines rest) (unstripped line h))

-- ---- and begin with words that name a lane

printable_both : (xs ys : List ℕ) → list_all is_printable xs ≡ true → list_all is_printable ys ≡ true
    → list_all is_printable (xs ++ ys) ≡ true
printable_both [] ys h k = k
printable_both (x ∷ xs) ys h k =
    let parts = and_parts (is_printable x) (list_all is_printable xs) h in
    and_from (is_printable x) (list_all is_printable (xs ++ ys)) parts.0 (printable_both xs ys parts.1 k)

mark_printable : (lane : ℕ) → lane < 2 ^ 64 → list_all is_printable (mark_of (Lane lane)) ≡ true
mark_printable lane small =
    printable_both (codes "lane ") (decimal lane ++ codes " ") refl
    (word_printable (decimal lane) (codes " ") (visible_number lane small) refl)

-- the lines of the first text are those of the other, each behind the words that name this lane
abbrev AreMarked : ℕ → List ℕ → List ℕ → Type 0
AreMarked lane text plain = ended_lines text ≡ map (marked (Lane lane)) (ended_lines plain)

one_marked : (lane : ℕ) (line text plain : List ℕ) → lane < 2 ^ 64 → list_all is_printable line ≡ true
    → AreMarked lane text plain → AreMarked lane (marked (Lane lane) line ++ 10 ∷ text) (line ++ 10 ∷ plain)
one_marked lane line text plain small seen others =
    let both = printable_both (mark_of (Lane lane)) line (mark_printable lane small) seen in
    ended_first (marked (Lane lane) line) text both
    ∙ (ap (λ (ls : List (List ℕ)). marked (Lane lane) line ∷ ls) others
    ∙ ap (map (marked (Lane lane))) (sym (ended_first line plain seen)))

-- the same of a line with its LF
text_marked : (lane : ℕ) (whole line text plain : List ℕ) → lane < 2 ^ 64 → list_all is_printable line ≡ true
    → ((rest : List ℕ) → whole ++ rest ≡ line ++ 10 ∷ rest) → AreMarked lane text plain
    → AreMarked lane (marked (Lane lane) whole ++ text) (whole ++ plain)
text_marked lane whole line text plain small seen is others =
    let mark = mark_of (Lane lane) in
    let first : marked (Lane lane) whole ++ text ≡ marked (Lane lane) line ++ 10 ∷ text =
    append_assoc mark whole text
    ∙ (ap (λ (t : List ℕ). mark ++ t) (is text) ∙ sym (append_assoc mark line (10 ∷ text))) in
    ap ended_lines first
    ∙ (one_marked lane line text plain small seen others
    ∙ ap (λ (t : List ℕ). map (marked (Lane lane)) (ended_lines t)) (sym (is plain)))

calls_marked : (lane : ℕ) (ms : List AcceptedOf) (text plain : List ℕ) → lane < 2 ^ 64 → AreToldCalls ms
    → AreMarked lane text plain → AreMarked lane (calls_text (Lane lane) ms ++ text) (calls_text Front ms ++ plain)
calls_marked lane [] text plain small said others = others
calls_marked lane (m ∷ ms) text plain small said others =
    let rest = calls_marked lane ms text plain small said.1 others in
    ap ended_lines (append_assoc (marked (Lane lane) (called_line m)) (calls_text (Lane lane) ms) text)
    ∙ (text_marked lane (called_line m) (desk_line m.op m.call) (calls_text (Lane lane) ms ++ text)
    (calls_text Front ms ++ plain) small (desk_printable m.op m.call said.0.op said.0.call) (call_ended m) rest
    ∙ ap (λ (t : List ℕ). map (marked (Lane lane)) (ended_lines t))
    (sym (append_assoc (called_line m) (calls_text Front ms) plain)))

item_ended : (x : Versioned) (rest : List ℕ) → item_text x.input ++ rest ≡ item_line x.input ++ 10 ∷ rest
item_ended x rest = append_assoc (item_line x.input) (10 ∷ []) rest

items_marked : (lane told : ℕ) (calls : List AcceptedOf) (items : List Versioned) → lane < 2 ^ 64 → AreToldCalls calls
    → AreToldItems items
    → AreMarked lane (script_lines (Lane lane) told (map item_done items) calls)
    (script_lines Front told (map item_done items) calls)
items_marked lane told calls [] small said given = refl
items_marked lane told calls (x ∷ xs) small said given =
    let n : ℕ = x.version - told in
    let before = between told x.version calls in
    let text = script_lines (Lane lane) (max told x.version) (map item_done xs) calls in
    let plain = script_lines Front (max told x.version) (map item_done xs) calls in
    let own =
    text_marked lane (item_text x.input) (item_line x.input) text plain small (item_printable x.input given.0.input)
    (item_ended x) (items_marked lane (max told x.version) calls xs small said given.1) in
    ap ended_lines (append_assoc (calls_text (Lane lane) before) (marked (Lane lane) (item_text x.input)) text)
    ∙ (calls_marked lane before (marked (Lane lane) (item_text x.input) ++ text) (item_text x.input ++ plain) small
    (all_take IsToldCall n (drop told calls) (all_drop IsToldCall told calls said)) own
    ∙ ap (λ (t : List ℕ). map (marked (Lane lane)) (ended_lines t))
    (sym (append_assoc (calls_text Front before) (item_text x.input) plain)))

pub part_marked : (lane : ℕ) (who : Asker) (calls : List AcceptedOf) (items : List Versioned) → lane < 2 ^ 64
    → IsWritten who → AreToldCalls calls → AreToldItems items
    → ended_lines (lane_part lane who calls items)
    ≡ map (marked (Lane lane)) (ended_lines (lane_script lane who calls items))
part_marked lane who calls items small written said given =
    text_marked lane (first_line (Lane lane) who.ssrc who.cname) (bridge_line who false)
    (script_lines (Lane lane) 0 (map item_done items) calls) (script_lines Front 0 (map item_done items) calls) small
    (bridge_printable who written) (bridge_ended lane who) (items_marked lane 0 calls items small said given)
