-- The laws of the lines of ticks.
use Rattle.std.proofs.Common.{◌≡◌, ℕ, ◌<◌, ◌^◌, List, [], ◌∷◌, ◌++◌, Option, Some, None, Ok, refl, sym, ap, ◌∙◌, subst}
use Rattle.std.proofs.Common.{map, arith}
use Rattle.std.specs.List.{join_with_byte}
use Rattle.std.proofs.lemmas.List.Splits.{join_with_byte-slice_split}
use Rattle.frame_gate.specs.declared.frame.FrameFault.{FrameFault}
use Rattle.frame_gate.specs.Frame.{fault_of}
use Rattle.media_items.specs.Frame.{SourceFrame}
use Rattle.media_items.specs.Inputs.Input.{tick}
use Rattle.desk_text.specs.declared.fault.Fault.TheVariants.{UnknownWord}
use Rattle.desk_text.specs.declared.value.Value.{Value}
use Rattle.desk_text.specs.declared.value.Value.TheVariants as values
use Rattle.desk_text.specs.declared.value.Field.TheVariants as fields
use Rattle.desk_text.specs.Words.{words_of, word_at, none_left, value_or}
use Rattle.desk_text.specs.Values.{field_of, value_text, AllFit, values_of, number_at}
use Rattle.desk_text.specs.Calls.{call_of}
use Rattle.desk_text.proofs.Joined.{free_test, parts_joined}
use Rattle.desk_text.proofs.ValueLaws.{found_text, free_values, bind_ok, word_back, or_back, values_back, values_again}
use Rattle.desk_text.proofs.CommandLaws.{read_from, with_field, read_all}
use Rattle.script_text.specs.declared.name.LineKind.{LineKind}
use Rattle.script_text.specs.declared.name.LineKind.TheVariants as kinds
use Rattle.script_text.specs.Requests.{Item, kind_text, line_kind_of, line_kinds, front_of, some_packets, sighted}
use Rattle.script_text.specs.Requests.{framed, frame_of, some_octets, rx_of, request_with, words_request, tick_words}
use Rattle.script_text.specs.Requests.{tick_line}
use Rattle.script_text.proofs.KindLaws.{kind_free}

-- the value that stands first
abbrev pub front : ℕ → List Value
front moment = values.U64 moment ∷ []

words_again : (moment : ℕ) → AllFit (front moment) → words_request (tick_words moment) ≡ Ok (Item (tick moment))
unfolding words_request
words_again moment fit = rw (values_again 2 (front moment) [] fit) refl

pub tick_again : (moment : ℕ) → moment < 2 ^ 64 → words_request (words_of (tick_line moment)) ≡ Ok (Item (tick moment))
tick_again moment small =
    let fit : AllFit (front moment) = (omega (arith, small), tt) in
    ap words_request (parts_joined 32 (kind_text kinds.Tick) (map value_text (front moment))
    (free_test 32 (kind_text kinds.Tick) (kind_free kinds.Tick)) (free_values (front moment) fit))
    ∙ words_again moment fit

-- ---- what is read as a tick

pub none_back : (words : List (List ℕ)) → none_left 3 words ≡ Ok tt → words ≡ []
none_back [] e = refl
none_back (w ∷ ws) e = absurd cc

tick_by : (kind : LineKind) (vs : List Value) (words : List (List ℕ)) (moment : ℕ)
    → request_with kind vs words ≡ Ok (Item (tick moment))
    → (kind ≡ kinds.Tick) × (words ≡ []) × (number_at 0 vs ≡ moment)
unfolding frame_of rx_of
tick_by kinds.Desk vs words moment e = let c = bind_ok (call_of 2 words) _ (Item (tick moment)) e in absurd cc
tick_by kinds.Wait vs words moment e = let none = bind_ok (none_left 5 words) _ (Item (tick moment)) e in absurd cc
tick_by kinds.Report vs words moment e = let none = bind_ok (none_left 3 words) _ (Item (tick moment)) e in absurd cc
tick_by kinds.Show vs words moment e = let none = bind_ok (none_left 2 words) _ (Item (tick moment)) e in absurd cc
tick_by kinds.Rx vs words moment e =
    let w = bind_ok (word_at 4 words) _ (Item (tick moment)) e in
    let o = bind_ok (some_octets 4 w.0.0) _ (Item (tick moment)) w.2 in
    let n = bind_ok (none_left 5 w.0.1) _ (Item (tick moment)) o.2 in
    absurd cc
tick_by kinds.Frame vs words moment e =
    let p = bind_ok (some_packets 7 words) _ (Item (tick moment)) e in
    never (sighted vs p.0) (fault_of p.0) p.2
  where
    never : (sighting : SourceFrame) (fault : Option FrameFault) {P : Type 0}
        → framed 7 sighting fault ≡ Ok (Item (tick moment)) → P
    never sighting None e = absurd cc
    never sighting (Some fault) e = absurd cc
tick_by kinds.Tick vs words moment e =
    let n = bind_ok (none_left 3 words) _ (Item (tick moment)) e in
    let is : Item (tick (number_at 0 vs)) ≡ Item (tick moment) = cc (n.2) in
    (refl, none_back words n.1, cc)

-- the value of the one field
pub front_of_one : (vs : List Value) → map field_of vs ≡ fields.U64 ∷ [] → vs ≡ front (number_at 0 vs)
unfolding read_from with_field
front_of_one vs h = sym (read_all (fields.U64 ∷ []) vs h)

pub tick_back : (line : List ℕ) (moment : ℕ) → words_request (words_of line) ≡ Ok (Item (tick moment))
    → (line ≡ tick_line moment) × (moment < 2 ^ 64)
unfolding words_request
tick_back line moment e =
    let w = bind_ok (word_at 1 (words_of line)) _ (Item (tick moment)) e in
    let k = bind_ok (value_or 1 UnknownWord (line_kind_of w.0.0)) _ (Item (tick moment)) w.2 in
    let r = bind_ok (values_of 2 (front_of k.0) w.0.1) _ (Item (tick moment)) k.2 in
    let d = tick_by k.0 r.0.0 r.0.1 moment r.2 in
    let v = values_back 2 (front_of k.0) w.0.1 r.0 r.1 in
    let first : w.0.0 ≡ kind_text kinds.Tick =
    found_text kind_text w.0.0 line_kinds k.0 (or_back 1 UnknownWord (line_kind_of w.0.0) k.0 k.1) ∙ ap kind_text d.0 in
    let values : r.0.0 ≡ front moment = front_of_one r.0.0 (v.1 ∙ ap front_of d.0) ∙ ap front d.2 in
    let others : w.0.1 ≡ map value_text (front moment) ++ [] =
    v.0
    ∙ (ap (λ (vs : List Value). map value_text vs ++ r.0.1) values
    ∙ ap (λ (t : List (List ℕ)). map value_text (front moment) ++ t) d.1) in
    let all : words_of line ≡ tick_words moment =
    word_back 1 (words_of line) w.0 w.1
    ∙ (ap (λ (t : List ℕ). t ∷ w.0.1) first ∙ ap (λ (t : List (List ℕ)). kind_text kinds.Tick ∷ t) others) in
    (sym (join_with_byte-slice_split 32 line) ∙ ap (join_with_byte 32) all, omega (arith, (subst AllFit values v.2).0))
