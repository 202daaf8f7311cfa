-- The laws of an operator's line, and of the lines of accepted calls.
use Rattle.std.proofs.Common.{◌≡◌, ℕ, ◌≤◌, List, [], ◌∷◌, ◌++◌, Option, Some, None, Ok, refl, sym, ap, ◌∙◌, subst}
use Rattle.std.proofs.Common.{map, append_assoc, codes, decimal}
use Rattle.std.specs.List.{join_with_byte}
use Rattle.std.proofs.lemmas.List.Splits.{join_with_byte-slice_split}
use Rattle.desk_edit.specs.Asked.{CallOf}
use Rattle.desk_edit.specs.Asked.CallOf.{Apply, Group, Undo, Redo, Revert}
use Rattle.call_history.specs.AcceptedCall.{AcceptedOf}
use Rattle.desk_text.specs.declared.fault.Fault.TheVariants.{UnknownWord}
use Rattle.desk_text.specs.declared.value.Field.TheVariants as fields
use Rattle.desk_text.specs.declared.value.Value.{Value}
use Rattle.desk_text.specs.declared.value.Value.TheVariants as values
use Rattle.desk_text.specs.Words.{words_of, word_at, none_left, value_or}
use Rattle.desk_text.specs.Values.{field_of, value_text, AllFit, values_of, value_at, number_at, address_at, number_in}
use Rattle.desk_text.specs.Calls.{call_of, call_words, SpellCall, call_line, IsCall}
use Rattle.desk_text.specs.HistoryText.{said_by}
use Rattle.desk_text.proofs.Joined.{free_test, parts_joined}
use Rattle.desk_text.proofs.ValueLaws.{found_text, free_values, bind_ok, word_back, or_back, values_back, values_again}
use Rattle.frame_gate.specs.declared.frame.FrameFault.{FrameFault}
use Rattle.frame_gate.specs.Frame.{fault_of}
use Rattle.media_items.specs.Frame.{SourceFrame}
use Rattle.rtp_codec.specs.declared.address.Address.{Address as Endpoint}
use Rattle.desk_text.proofs.CallLaws.{call_spelt, call_again, call_back, words_free}
use Rattle.script_text.specs.declared.name.LineKind.{LineKind}
use Rattle.script_text.specs.declared.name.LineKind.TheVariants as kinds
use Rattle.script_text.specs.Requests.{Desk, kind_text, line_kind_of, line_kinds, front_of, some_packets, sighted}
use Rattle.script_text.specs.Requests.{framed, frame_of, some_octets, rx_of, request_with, words_request, desk_words}
use Rattle.script_text.specs.Requests.{desk_line}
use Rattle.script_text.proofs.KindLaws.{kind_free}

frame_is_none : (words : List (List ℕ)) (vs : List Value) (op : ℕ) (c : CallOf) {P : Type 0}
    → frame_of 7 (sighted vs) words ≡ Ok (Desk op c) → P
unfolding frame_of
frame_is_none words vs op c e =
    let p = bind_ok (some_packets 7 words) _ (Desk op c) e in
    never (sighted vs p.0) (fault_of p.0) p.2
  where
    never : (sighting : SourceFrame) (fault : Option FrameFault) {P : Type 0} → framed 7 sighting fault ≡ Ok (Desk op c)
        → P
    never sighting None e = absurd cc
    never sighting (Some fault) e = absurd cc

rx_is_none : (moment : ℕ) (from : Endpoint) (words : List (List ℕ)) (op : ℕ) (c : CallOf) {P : Type 0}
    → rx_of moment from words ≡ Ok (Desk op c) → P
unfolding rx_of
rx_is_none moment from words op c e =
    let w = bind_ok (word_at 4 words) _ (Desk op c) e in
    let o = bind_ok (some_octets 4 w.0.0) _ (Desk op c) w.2 in
    let n = bind_ok (none_left 5 w.0.1) _ (Desk op c) o.2 in
    absurd cc

desk_by : (kind : LineKind) (vs : List Value) (words : List (List ℕ)) (op : ℕ) (c : CallOf)
    → request_with kind vs words ≡ Ok (Desk op c)
    → (kind ≡ kinds.Desk) × (number_in (value_at 0 vs) ≡ op) × (call_of 2 words ≡ Ok c)
desk_by kinds.Desk vs words op c e =
    let r = bind_ok (call_of 2 words) _ (Desk op c) e in
    let is : Desk (number_in (value_at 0 vs)) r.0 ≡ Desk op c = cc (r.2) in
    let same : r.0 ≡ c = cc in
    (refl, cc, r.1 ∙ ap Ok same)
desk_by kinds.Frame vs words op c e = frame_is_none words vs op c e
desk_by kinds.Rx vs words op c e = rx_is_none (number_at 0 vs) (address_at 1 vs) words op c e
desk_by kinds.Wait vs words op c e = let none = bind_ok (none_left 5 words) _ (Desk op c) e in absurd cc
desk_by kinds.Tick vs words op c e = let none = bind_ok (none_left 3 words) _ (Desk op c) e in absurd cc
desk_by kinds.Report vs words op c e = let none = bind_ok (none_left 3 words) _ (Desk op c) e in absurd cc
desk_by kinds.Show vs words op c e = let none = bind_ok (none_left 2 words) _ (Desk op c) e in absurd cc

operator_again : (op : ℕ) (c : CallOf) → op ≤ 15 → IsCall c
    → words_request (desk_words op (call_words c)) ≡ Ok (Desk op c)
unfolding words_request
operator_again op c small h =
    rw (
      values_again 2 (values.Operator op ∷ []) (call_words c) (small, tt),
      call_again 2 (call_words c) c (call_spelt c h) h,
    )
    refl

pub desk_again : (op : ℕ) (c : CallOf) → op ≤ 15 → IsCall c → words_request (words_of (desk_line op c)) ≡ Ok (Desk op c)
desk_again op c small h =
    let texts = free_values (values.Operator op ∷ []) (small, tt) in
    ap words_request (parts_joined 32 (kind_text kinds.Desk) (value_text (values.Operator op) ∷ call_words c)
    (free_test 32 (kind_text kinds.Desk) (kind_free kinds.Desk)) (texts.0, words_free c h))
    ∙ operator_again op c small h

-- an operator's value
operator_of : (vs : List Value) → map field_of vs ≡ fields.Operator ∷ [] → AllFit vs
    → (op : ℕ) × (vs ≡ values.Operator op ∷ []) × (op ≤ 15)
operator_of [] h fit = absurd cc
operator_of (values.Operator op ∷ []) h fit = (op, refl, fit.0)
operator_of (values.Operator op ∷ v ∷ vs) h fit = absurd cc
operator_of (values.U16 n ∷ vs) h fit = absurd cc
operator_of (values.U32 n ∷ vs) h fit = absurd cc
operator_of (values.U64 n ∷ vs) h fit = absurd cc
operator_of (values.Address a ∷ vs) h fit = absurd cc
operator_of (values.Codec codec ∷ vs) h fit = absurd cc
operator_of (values.Media media ∷ vs) h fit = absurd cc

pub desk_back : (line : List ℕ) (op : ℕ) (c : CallOf) → words_request (words_of line) ≡ Ok (Desk op c)
    → (words : List (List ℕ)) × (line ≡ join_with_byte 32 (desk_words op words)) × SpellCall words c × (op ≤ 15)
    × IsCall c
unfolding words_request
desk_back line op c e =
    let w = bind_ok (word_at 1 (words_of line)) _ (Desk op c) e in
    let k = bind_ok (value_or 1 UnknownWord (line_kind_of w.0.0)) _ (Desk op c) w.2 in
    let r = bind_ok (values_of 2 (front_of k.0) w.0.1) _ (Desk op c) k.2 in
    let d = desk_by k.0 r.0.0 r.0.1 op c r.2 in
    let v = values_back 2 (front_of k.0) w.0.1 r.0 r.1 in
    let b = call_back 2 r.0.1 c d.2 in
    let o = operator_of r.0.0 (v.1 ∙ ap front_of d.0) v.2 in
    let same : o.0 ≡ op = ap (λ (vs : List Value). number_in (value_at 0 vs)) (sym o.1) ∙ d.1 in
    let first : w.0.0 ≡ kind_text kinds.Desk =
    found_text kind_text w.0.0 line_kinds k.0 (or_back 1 UnknownWord (line_kind_of w.0.0) k.0 k.1) ∙ ap kind_text d.0 in
    let others : w.0.1 ≡ value_text (values.Operator op) ∷ r.0.1 =
    v.0
    ∙ (ap (λ (vs : List Value). map value_text vs ++ r.0.1) o.1
    ∙ ap (λ (n : ℕ). value_text (values.Operator n) ∷ r.0.1) same) in
    let all : words_of line ≡ desk_words op r.0.1 =
    word_back 1 (words_of line) w.0 w.1
    ∙ (ap (λ (t : List ℕ). t ∷ w.0.1) first ∙ ap (λ (t : List (List ℕ)). kind_text kinds.Desk ∷ t) others) in (
      r.0.1,
      sym (join_with_byte-slice_split 32 line) ∙ ap (join_with_byte 32) all,
      b.0,
      subst (λ (n : ℕ). n ≤ 15) same o.2,
      b.1,
    )

-- ---- the line of an accepted call

apart : (op : ℕ) (call : CallOf)
    → codes "desk " ++ (decimal op ++ codes " " ++ call_line call)
    ≡ codes "desk " ++ (decimal op ++ (codes " " ++ call_line call))
apart op call = ap (λ (t : List ℕ). codes "desk " ++ t) (append_assoc (decimal op) (codes " ") (call_line call))

-- what an operator said is the line of a script behind its first word
pub desk_joined : (m : AcceptedOf) → codes "desk " ++ said_by m ≡ desk_line m.op m.call
desk_joined m = by m.op m.call
  where
    by : (op : ℕ) (call : CallOf)
        → codes "desk " ++ said_by (record { number = 0; op = op; call = call }) ≡ desk_line op call
    by op (Apply command) = apart op (Apply command)
    by op (Group commands) = apart op (Group commands)
    by op (Undo last) = apart op (Undo last)
    by op (Redo last) = apart op (Redo last)
    by op (Revert number) = apart op (Revert number)
