-- The laws of the lines of waits.
use Rattle.std.proofs.Common.{◌≡◌, ℕ, List, [], ◌∷◌, ◌++◌, Option, Some, None, Ok, refl, sym, ap, ◌∙◌, subst, map}
use Rattle.std.specs.List.{join_with_byte}
use Rattle.std.proofs.lemmas.List.Splits.{join_with_byte-slice_split}
use Rattle.rtp_codec.specs.declared.address.Address.{Address}
use Rattle.frame_gate.specs.declared.frame.FrameFault.{FrameFault}
use Rattle.frame_gate.specs.Frame.{fault_of}
use Rattle.media_items.specs.Frame.{SourceFrame}
use Rattle.desk_text.specs.declared.fault.Fault.TheVariants.{UnknownWord}
use Rattle.desk_text.specs.declared.value.Value.{Value}
use Rattle.desk_text.specs.Words.{words_of, word_at, none_left, value_or}
use Rattle.desk_text.specs.Values.{field_of, value_text, AllFit, values_of, number_at, address_at}
use Rattle.desk_text.specs.Calls.{call_of}
use Rattle.desk_text.proofs.Joined.{free_test, parts_joined}
use Rattle.desk_text.proofs.ValueLaws.{found_text, free_values, bind_ok, word_back, or_back, values_back, values_again}
use Rattle.desk_text.proofs.CommandLaws.{read_from, with_field, read_all}
use Rattle.script_text.specs.declared.name.LineKind.{LineKind}
use Rattle.script_text.specs.declared.name.LineKind.TheVariants as kinds
use Rattle.script_text.specs.Requests.{Wait, kind_text, line_kind_of, line_kinds, front_of, some_packets, sighted}
use Rattle.script_text.specs.Requests.{framed, frame_of, some_octets, rx_of, request_with, words_request, wait_values}
use Rattle.script_text.specs.Requests.{wait_words, wait_line}
use Rattle.script_text.proofs.KindLaws.{kind_free}
use Rattle.script_text.proofs.RxLaws.{none_back}

words_again : (moment : ℕ) (from : Address) (ssrc : ℕ) → AllFit (wait_values moment from ssrc)
    → words_request (wait_words moment from ssrc) ≡ Ok (Wait moment from ssrc)
unfolding words_request
words_again moment from ssrc fit = rw (values_again 2 (wait_values moment from ssrc) [] fit) refl

pub wait_again : (moment : ℕ) (from : Address) (ssrc : ℕ) → AllFit (wait_values moment from ssrc)
    → words_request (words_of (wait_line moment from ssrc)) ≡ Ok (Wait moment from ssrc)
wait_again moment from ssrc fit =
    let values = wait_values moment from ssrc in
    ap words_request (parts_joined 32 (kind_text kinds.Wait) (map value_text values)
    (free_test 32 (kind_text kinds.Wait) (kind_free kinds.Wait)) (free_values values fit))
    ∙ words_again moment from ssrc fit

-- ---- what is read as a wait

wait_by : (kind : LineKind) (vs : List Value) (words : List (List ℕ)) (moment : ℕ) (from : Address) (ssrc : ℕ)
    → request_with kind vs words ≡ Ok (Wait moment from ssrc)
    → (kind ≡ kinds.Wait) × (words ≡ []) × (number_at 0 vs ≡ moment) × (address_at 1 vs ≡ from)
    × (number_at 2 vs ≡ ssrc)
unfolding frame_of rx_of
wait_by kinds.Desk vs words moment from ssrc e =
    let c = bind_ok (call_of 2 words) _ (Wait moment from ssrc) e in absurd cc
wait_by kinds.Tick vs words moment from ssrc e =
    let none = bind_ok (none_left 3 words) _ (Wait moment from ssrc) e in absurd cc
wait_by kinds.Report vs words moment from ssrc e =
    let none = bind_ok (none_left 3 words) _ (Wait moment from ssrc) e in absurd cc
wait_by kinds.Show vs words moment from ssrc e =
    let none = bind_ok (none_left 2 words) _ (Wait moment from ssrc) e in absurd cc
wait_by kinds.Rx vs words moment from ssrc e =
    let w = bind_ok (word_at 4 words) _ (Wait moment from ssrc) e in
    let o = bind_ok (some_octets 4 w.0.0) _ (Wait moment from ssrc) w.2 in
    let n = bind_ok (none_left 5 w.0.1) _ (Wait moment from ssrc) o.2 in
    absurd cc
wait_by kinds.Frame vs words moment from ssrc e =
    let p = bind_ok (some_packets 7 words) _ (Wait moment from ssrc) e in
    never (sighted vs p.0) (fault_of p.0) p.2
  where
    never : (sighting : SourceFrame) (fault : Option FrameFault) {P : Type 0}
        → framed 7 sighting fault ≡ Ok (Wait moment from ssrc) → P
    never sighting None e = absurd cc
    never sighting (Some fault) e = absurd cc
wait_by kinds.Wait vs words moment from ssrc e =
    let n = bind_ok (none_left 5 words) _ (Wait moment from ssrc) e in
    let is : Wait (number_at 0 vs) (address_at 1 vs) (number_at 2 vs) ≡ Wait moment from ssrc = cc (n.2) in
    (refl, none_back words n.0 n.1, cc, cc, cc)

-- the values of the three fields
values_in : (vs : List Value) → map field_of vs ≡ front_of kinds.Wait
    → vs ≡ wait_values (number_at 0 vs) (address_at 1 vs) (number_at 2 vs)
unfolding read_from with_field
values_in vs h = sym (read_all (front_of kinds.Wait) vs h)

pub wait_back : (line : List ℕ) (moment : ℕ) (from : Address) (ssrc : ℕ)
    → words_request (words_of line) ≡ Ok (Wait moment from ssrc)
    → (line ≡ wait_line moment from ssrc) × AllFit (wait_values moment from ssrc)
unfolding words_request
wait_back line moment from ssrc e =
    let w = bind_ok (word_at 1 (words_of line)) _ (Wait moment from ssrc) e in
    let k = bind_ok (value_or 1 UnknownWord (line_kind_of w.0.0)) _ (Wait moment from ssrc) w.2 in
    let r = bind_ok (values_of 2 (front_of k.0) w.0.1) _ (Wait moment from ssrc) k.2 in
    let d = wait_by k.0 r.0.0 r.0.1 moment from ssrc r.2 in
    let v = values_back 2 (front_of k.0) w.0.1 r.0 r.1 in
    let first : w.0.0 ≡ kind_text kinds.Wait =
    found_text kind_text w.0.0 line_kinds k.0 (or_back 1 UnknownWord (line_kind_of w.0.0) k.0 k.1) ∙ ap kind_text d.0 in
    let values : r.0.0 ≡ wait_values moment from ssrc =
    values_in r.0.0 (v.1 ∙ ap front_of d.0) ∙ rw (d.2, d.3, d.4) refl in
    let others : w.0.1 ≡ map value_text (wait_values moment from ssrc) ++ [] =
    v.0
    ∙ (ap (λ (vs : List Value). map value_text vs ++ r.0.1) values
    ∙ ap (λ (t : List (List ℕ)). map value_text (wait_values moment from ssrc) ++ t) d.1) in
    let all : words_of line ≡ wait_words moment from ssrc =
    word_back 1 (words_of line) w.0 w.1
    ∙ (ap (λ (t : List ℕ). t ∷ w.0.1) first ∙ ap (λ (t : List (List ℕ)). kind_text kinds.Wait ∷ t) others) in
    (sym (join_with_byte-slice_split 32 line) ∙ ap (join_with_byte 32) all, subst AllFit values v.2)
