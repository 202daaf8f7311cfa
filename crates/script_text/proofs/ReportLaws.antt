-- The laws of the lines of reports.
use Rattle.std.proofs.Common.{◌≡◌, ℕ, ◌<◌, ◌^◌, List, [], ◌∷◌, ◌++◌, Option, Some, None, Ok, refl, sym, ap, ◌∙◌, subst}
use Rattle.std.proofs.Common.{map, arith}
use Rattle.std.specs.List.{join_with_byte}
use Rattle.std.proofs.lemmas.List.Splits.{join_with_byte-slice_split}
use Rattle.frame_gate.specs.declared.frame.FrameFault.{FrameFault}
use Rattle.frame_gate.specs.Frame.{fault_of}
use Rattle.media_items.specs.Frame.{SourceFrame}
use Rattle.desk_text.specs.declared.fault.Fault.TheVariants.{UnknownWord}
use Rattle.desk_text.specs.declared.value.Value.{Value}
use Rattle.desk_text.specs.Words.{words_of, word_at, none_left, value_or}
use Rattle.desk_text.specs.Values.{value_text, AllFit, values_of, number_at}
use Rattle.desk_text.specs.Calls.{call_of}
use Rattle.desk_text.proofs.Joined.{free_test, parts_joined}
use Rattle.desk_text.proofs.ValueLaws.{found_text, free_values, bind_ok, word_back, or_back, values_back, values_again}
use Rattle.script_text.specs.declared.name.LineKind.{LineKind}
use Rattle.script_text.specs.declared.name.LineKind.TheVariants as kinds
use Rattle.script_text.specs.Requests.{Report, kind_text, line_kind_of, line_kinds, front_of, some_packets, sighted}
use Rattle.script_text.specs.Requests.{framed, frame_of, some_octets, rx_of, request_with, words_request, report_words}
use Rattle.script_text.specs.Requests.{report_line}
use Rattle.script_text.proofs.KindLaws.{kind_free}
use Rattle.script_text.proofs.TickLaws.{front, none_back, front_of_one}

words_again : (moment : ℕ) → AllFit (front moment) → words_request (report_words moment) ≡ Ok (Report moment)
unfolding words_request
words_again moment fit = rw (values_again 2 (front moment) [] fit) refl

pub report_again : (moment : ℕ) → moment < 2 ^ 64 → words_request (words_of (report_line moment)) ≡ Ok (Report moment)
report_again moment small =
    let fit : AllFit (front moment) = (omega (arith, small), tt) in
    ap words_request (parts_joined 32 (kind_text kinds.Report) (map value_text (front moment))
    (free_test 32 (kind_text kinds.Report) (kind_free kinds.Report)) (free_values (front moment) fit))
    ∙ words_again moment fit

-- ---- what is read as reports

report_by : (kind : LineKind) (vs : List Value) (words : List (List ℕ)) (moment : ℕ)
    → request_with kind vs words ≡ Ok (Report moment) → (kind ≡ kinds.Report) × (words ≡ []) × (number_at 0 vs ≡ moment)
unfolding frame_of rx_of
report_by kinds.Desk vs words moment e = let c = bind_ok (call_of 2 words) _ (Report moment) e in absurd cc
report_by kinds.Wait vs words moment e = let none = bind_ok (none_left 5 words) _ (Report moment) e in absurd cc
report_by kinds.Tick vs words moment e = let none = bind_ok (none_left 3 words) _ (Report moment) e in absurd cc
report_by kinds.Show vs words moment e = let none = bind_ok (none_left 2 words) _ (Report moment) e in absurd cc
report_by kinds.Rx vs words moment e =
    let w = bind_ok (word_at 4 words) _ (Report moment) e in
    let o = bind_ok (some_octets 4 w.0.0) _ (Report moment) w.2 in
    let n = bind_ok (none_left 5 w.0.1) _ (Report moment) o.2 in
    absurd cc
report_by kinds.Frame vs words moment e =
    let p = bind_ok (some_packets 7 words) _ (Report moment) e in
    never (sighted vs p.0) (fault_of p.0) p.2
  where
    never : (sighting : SourceFrame) (fault : Option FrameFault) {P : Type 0}
        → framed 7 sighting fault ≡ Ok (Report moment) → P
    never sighting None e = absurd cc
    never sighting (Some fault) e = absurd cc
report_by kinds.Report vs words moment e =
    let n = bind_ok (none_left 3 words) _ (Report moment) e in
    let is : Report (number_at 0 vs) ≡ Report moment = cc (n.2) in
    (refl, none_back words n.1, cc)

pub report_back : (line : List ℕ) (moment : ℕ) → words_request (words_of line) ≡ Ok (Report moment)
    → (line ≡ report_line moment) × (moment < 2 ^ 64)
unfolding words_request
report_back line moment e =
    let w = bind_ok (word_at 1 (words_of line)) _ (Report moment) e in
    let k = bind_ok (value_or 1 UnknownWord (line_kind_of w.0.0)) _ (Report moment) w.2 in
    let r = bind_ok (values_of 2 (front_of k.0) w.0.1) _ (Report moment) k.2 in
    let d = report_by k.0 r.0.0 r.0.1 moment r.2 in
    let v = values_back 2 (front_of k.0) w.0.1 r.0 r.1 in
    let first : w.0.0 ≡ kind_text kinds.Report =
    found_text kind_text w.0.0 line_kinds k.0 (or_back 1 UnknownWord (line_kind_of w.0.0) k.0 k.1) ∙ ap kind_text d.0 in
    let values : r.0.0 ≡ front moment = front_of_one r.0.0 (v.1 ∙ ap front_of d.0) ∙ ap front d.2 in
    let others : w.0.1 ≡ map value_text (front moment) ++ [] =
    v.0
    ∙ (ap (λ (vs : List Value). map value_text vs ++ r.0.1) values
    ∙ ap (λ (t : List (List ℕ)). map value_text (front moment) ++ t) d.1) in
    let all : words_of line ≡ report_words moment =
    word_back 1 (words_of line) w.0 w.1
    ∙ (ap (λ (t : List ℕ). t ∷ w.0.1) first ∙ ap (λ (t : List (List ℕ)). kind_text kinds.Report ∷ t) others) in
    (sym (join_with_byte-slice_split 32 line) ∙ ap (join_with_byte 32) all, omega (arith, (subst AllFit values v.2).0))
