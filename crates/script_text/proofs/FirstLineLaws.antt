-- The laws of the first line.
use Rattle.std.proofs.Common.{◌≡◌, ◌≤◌, ◌<◌, ◌^◌, ◌==◌, ℕ, Bool, true, false, List, [], ◌∷◌, Option, Some, None, Result}
use Rattle.std.proofs.Common.{Ok, Err, refl, sym, ap, ◌∙◌, subst, inl, inr, arith, if◌then◌else◌}
use Rattle.std.specs.List.{All, join_with_byte}
use Rattle.std.specs.Str.{bytes_eq}
use Rattle.std.specs.Fmt.{decimal}
use Rattle.std.proofs.lemmas.Bool.{cases_Bool, eqb-true}
use Rattle.std.proofs.lemmas.Slice.Eq.{bytes_eq-Decides}
use Rattle.std.proofs.lemmas.List.Splits.{join_with_byte-slice_split}
use Rattle.sender_feedback.specs.Upstream.{Asker}
use Rattle.ingress.specs.Names.{is_name}
use Rattle.desk_text.specs.declared.fault.Fault.{Fault}
use Rattle.desk_text.specs.declared.fault.Fault.TheVariants.{UnknownWord, BadNumber}
use Rattle.desk_text.specs.Numbers.{decimal_of}
use Rattle.desk_text.specs.Words.{words_of, word_at, none_left, value_or, Lacks}
use Rattle.desk_text.proofs.NumberLemmas.{spelled, read}
use Rattle.desk_text.proofs.Joined.{AllFree, all_free, free_test, free_number, parts_joined, parts_lack}
use Rattle.desk_text.proofs.ValueLaws.{bind_ok, word_back, or_back}
use Rattle.script_text.specs.Requests.{Request, Begin}
use Rattle.script_text.specs.FirstLine.{bridge_word, renew_word, asker_of, renew_alone, renews_of, bridge_of}
use Rattle.script_text.specs.FirstLine.{first_request, request_at, renew_words, bridge_words, bridge_line, IsNamed}
use Rattle.script_text.proofs.FirstLineLemmas.{later_words_never_begin, later_never_begins}

-- ---- what is written is read

words_again : (who : Asker) (renews : Bool) → IsNamed who
    → first_request (bridge_words who renews) ≡ Ok (Begin who renews)
unfolding first_request bridge_of
words_again who true h = rw (read 4294967295 who.ssrc (omega arith) (omega (arith, h.ssrc)), h.name) refl
words_again who false h = rw (read 4294967295 who.ssrc (omega arith) (omega (arith, h.ssrc)), h.name) refl

renew_free : (renews : Bool) → AllFree 32 (renew_words renews)
renew_free true = (free_test 32 renew_word refl, tt)
renew_free false = tt

pub bridge_again : (who : Asker) (renews : Bool) → IsNamed who
    → first_request (words_of (bridge_line who renews)) ≡ Ok (Begin who renews)
bridge_again who renews h =
    ap first_request (parts_joined 32 bridge_word (decimal who.ssrc ∷ who.cname ∷ renew_words renews)
    (free_test 32 bridge_word refl)
    (free_number who.ssrc (omega (arith, h.ssrc)), (all_free 32 who.cname h.word, renew_free renews)))
    ∙ words_again who renews h

-- ---- what is read was written so

asker_if : Bool → ℕ → List ℕ → Result Asker (ℕ × Fault)
asker_if b ssrc word = if b then Ok (record { ssrc = ssrc; cname = word }) else Err (3, UnknownWord)

asker_by : (b : Bool) (ssrc : ℕ) (word : List ℕ) (who : Asker) → asker_if b ssrc word ≡ Ok who
    → (b ≡ true) × (record { ssrc = ssrc; cname = word } ≡ who)
unfolding asker_if
asker_by true ssrc word who e = (refl, cc)
asker_by false ssrc word who e = absurd cc

none_back : (words : List (List ℕ)) (renews : Bool) → renew_alone words ≡ Ok renews → (words ≡ []) × (renews ≡ true)
none_back [] renews e = (refl, cc)
none_back (w ∷ ws) renews e = absurd cc

renew_if : Bool → List (List ℕ) → Result Bool (ℕ × Fault)
renew_if b words = if b then renew_alone words else Err (4, UnknownWord)

renew_by : (b : Bool) (words : List (List ℕ)) (renews : Bool) → renew_if b words ≡ Ok renews
    → (b ≡ true) × (words ≡ []) × (renews ≡ true)
unfolding renew_if
renew_by true words renews e = let none = none_back words renews e in (refl, none.0, none.1)
renew_by false words renews e = absurd cc

renews_back : (words : List (List ℕ)) (renews : Bool) → renews_of words ≡ Ok renews → words ≡ renew_words renews
unfolding renew_if
renews_back [] true e = absurd cc
renews_back [] false e = refl
renews_back (word ∷ words) renews e =
    let b = renew_by (bytes_eq word renew_word) words renews e in
    rw b.2 (ap (λ (w : List ℕ). w ∷ words) ((bytes_eq-Decides word renew_word).0 b.0)
    ∙ ap (λ (ws : List (List ℕ)). renew_word ∷ ws) b.1)

-- what the words behind the first say of who the bridge is
abbrev Says : List (List ℕ) → Asker → Bool → Type 0
Says words who renews =
    (words ≡ decimal who.ssrc ∷ who.cname ∷ renew_words renews) × (who.ssrc ≤ 4294967295) × (is_name who.cname ≡ true)

of_back : (words : List (List ℕ)) (who : Asker) (renews : Bool) → bridge_of words ≡ Ok (Begin who renews)
    → Says words who renews
unfolding bridge_of asker_if
of_back words who renews e =
    let w = bind_ok (word_at 2 words) _ (Begin who renews) e in
    let s = bind_ok (value_or 2 BadNumber (decimal_of 4294967295 w.0.0)) _ (Begin who renews) w.2 in
    let n = bind_ok (word_at 3 w.0.1) _ (Begin who renews) s.2 in
    let a = bind_ok (asker_of s.0 n.0.0) _ (Begin who renews) n.2 in
    let r = bind_ok (renews_of n.0.1) _ (Begin who renews) a.2 in
    let is : Begin a.0 r.0 ≡ Begin who renews = cc (r.2) in
    let same : r.0 ≡ renews = cc in
    let number =
    spelled 4294967295 s.0 w.0.0 (omega arith) (or_back 2 BadNumber (decimal_of 4294967295 w.0.0) s.0 s.1) in
    let named = asker_by (is_name n.0.0) s.0 n.0.0 a.0 a.1 in
    let this : record { ssrc = s.0; cname = n.0.0 } ≡ who = named.1 ∙ cc in
    let all : words ≡ decimal s.0 ∷ n.0.0 ∷ renew_words renews =
    word_back 2 words w.0 w.1
    ∙ (ap (λ (t : List ℕ). t ∷ w.0.1) number.0
    ∙ ap (λ (t : List (List ℕ)). decimal s.0 ∷ t) (word_back 3 w.0.1 n.0 n.1
    ∙ (ap (λ (t : List (List ℕ)). n.0.0 ∷ t) (renews_back n.0.1 r.0 r.1)
    ∙ ap (λ (b : Bool). n.0.0 ∷ renew_words b) same))) in
    subst (λ (x : Asker). Says words x renews) this (all, number.1, named.0)

first_back : (words : List (List ℕ)) (who : Asker) (renews : Bool) → first_request words ≡ Ok (Begin who renews)
    → (rest : List (List ℕ)) × (words ≡ bridge_word ∷ rest) × Says rest who renews
unfolding first_request
first_back [] who renews e = absurd (later_words_never_begin [] who renews e)
first_back (word ∷ words) who renews e =
    elim (cases_Bool (bytes_eq word bridge_word)) [
      | inl is ↦ (
        words,
        ap (λ (w : List ℕ). w ∷ words) ((bytes_eq-Decides word bridge_word).0 is),
        of_back words who renews (rw is at e),
      )
      | inr isnt ↦ absurd (later_words_never_begin (word ∷ words) who renews (rw isnt at e))
    ]

name_lacks : (who : Asker) (renews : Bool) → All (Lacks 32) (bridge_words who renews) → Lacks 32 who.cname
name_lacks who renews h = h 2 [] (omega arith)

pub bridge_back : (line : List ℕ) (who : Asker) (renews : Bool) → first_request (words_of line) ≡ Ok (Begin who renews)
    → (line ≡ bridge_line who renews) × IsNamed who
bridge_back line who renews e =
    let b = first_back (words_of line) who renews e in
    let all : words_of line ≡ bridge_words who renews = b.1 ∙ ap (λ (ws : List (List ℕ)). bridge_word ∷ ws) b.2.0 in (
      sym (join_with_byte-slice_split 32 line) ∙ ap (join_with_byte 32) all,
      record {
        ssrc = omega (arith, b.2.1);
        name = b.2.2;
        word = name_lacks who renews (subst (All (Lacks 32)) all (parts_lack 32 line));
      },
    )

-- ---- it is the first line alone

pub first_alone : (number : ℕ) (line : List ℕ) (who : Asker) (renews : Bool)
    → request_at number line ≡ Ok (Begin who renews) → number ≡ 1
first_alone number line who renews e =
    elim (cases_Bool (number == 1)) [
      | inl is ↦ eqb-true number 1 is
      | inr isnt ↦ absurd (later_never_begins number line who renews isnt e)
    ]
