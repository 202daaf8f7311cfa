-- What was listened to is the sound of the definition.
use Rattle.std.proofs.Common.{◌≡◌, ℕ, ℤ, ◌<◌, false, is_some, List, [], ◌∷◌, length, map, take, Some, ap, sym, subst}
use Rattle.std.proofs.Common.{◌∙◌, arith, refl}
use Rattle.std.specs.Prelude.{Result, Ok, Err, IfOk, IfSome, Option, None}
use Rattle.std.proofs.lemmas.List.{length-take-le}
use Rattle.std.specs.List.{range_with_len}
use Rattle.rtp_codec.specs.Packet.{most_csrcs}
use Rattle.media_items.specs.declared.format.Format.{Format}
use Rattle.media_items.specs.Formats.{tick_at}
use Rattle.mix_minus.specs.declared.contributors.Contributors.{Contributors}
use Rattle.desk_rows.specs.declared.row.Member.{Member as MemberRow}
use Rattle.desk_rows.specs.Desk.{Desk}
use Rattle.forward_rewrite.specs.Mixes.{sound_of, format_of}
use Rattle.mixer.specs.Hearing.{Voice, member_rate, sound_by, sound_for, contributors, heard_at}
use Rattle.std.proofs.lemmas.List.{nil_from_length}
use Rattle.forward_rewrite.specs.declared.mix_packets.Named.{Named}
use Rattle.mixer.specs.inner.Named.{IsHeardOf}
use Rattle.mixer.specs.inner.Rooms.{IsHeard}
use Rattle.mixer.specs.inner.Ready.{hears_any}

no_sound : (format : Format) (named : List ℕ) (samples : List ℤ) → take most_csrcs named ≡ []
    → is_some (sound_by format named samples) ≡ false
no_sound format [] samples none = refl
no_sound format (s ∷ ss) samples none = absurd (omega (arith, ap length none))

a_sound : (format : Format) (named csrcs : List ℕ) (samples : List ℤ) → csrcs ≡ take most_csrcs named → 0 < length csrcs
    → sound_by format named samples ≡ Some (sound_of format csrcs samples)
a_sound format [] csrcs samples are some = absurd (omega (arith, ap length are, some))
a_sound format (s ∷ ss) csrcs samples are some = ap (λ cs. Some (sound_of format cs samples)) (sym are)

-- nobody is named: nothing is heard
pub nothing_heard : (d : Desk) (voices : List Voice) (m : MemberRow) (samples : List ℤ) (named : Contributors)
    → IsHeard d voices m samples named → named.count ≡ 0 → hears_any d voices m ≡ false
nothing_heard d voices m samples named is none =
    no_sound (format_of m.codec (member_rate d m)) (contributors voices d m)
    (map (heard_at voices d m) (range_with_len 0 (tick_at (member_rate d m))))
    (sym is.named ∙ ap (λ n. take n named.ssrcs) none)

-- a number that isn't 0
pub many : {n : ℕ} → ¬ (n ≡ 0) → 0 < n
many ne = omega (arith, ne)

-- somebody is named: that is the sound
pub something_heard : (d : Desk) (voices : List Voice) (m : MemberRow) (samples : List ℤ) (named : Contributors)
    → IsHeard d voices m samples named → 0 < named.count
    → sound_for voices d m
    ≡ Some (sound_of (format_of m.codec (member_rate d m)) (take named.count named.ssrcs) samples)
something_heard d voices m samples named is some =
    let csrcs = take named.count named.ssrcs in
    let format = format_of m.codec (member_rate d m) in
    a_sound format (contributors voices d m) csrcs
    (map (heard_at voices d m) (range_with_len 0 (tick_at (member_rate d m)))) is.named
    (subst (λ n. 0 < n) (sym (length-take-le named.count named.ssrcs is.few)) some)
    ∙ ap (λ xs. Some (sound_of format csrcs xs)) (sym is.samples)

-- ---- without gains

-- nobody is named: nothing is heard
pub nothing_of : (d : Desk) (voices : List Voice) (m : MemberRow) (out : List ℤ) (named : Named)
    → IsHeardOf d voices m out named → named.count ≡ 0 → hears_any d voices m ≡ false
nothing_of d voices m out named is none =
    no_sound (format_of m.codec (member_rate d m)) (contributors voices d m)
    (map (heard_at voices d m) (range_with_len 0 (tick_at (member_rate d m)))) (nil_from_length _ (is.who.count ∙ none))

-- somebody is named: that is the sound
pub something_of : (d : Desk) (voices : List Voice) (m : MemberRow) (out : List ℤ) (named : Named)
    → IsHeardOf d voices m out named → 0 < named.count
    → sound_for voices d m
    ≡ Some (sound_of (format_of m.codec (member_rate d m)) (take most_csrcs (contributors voices d m)) out)
something_of d voices m out named is some =
    let csrcs = take most_csrcs (contributors voices d m) in
    let format = format_of m.codec (member_rate d m) in
    a_sound format (contributors voices d m) csrcs
    (map (heard_at voices d m) (range_with_len 0 (tick_at (member_rate d m)))) refl
    (subst (λ n. 0 < n) (sym is.who.count) some)
    ∙ ap (λ xs. Some (sound_of format csrcs xs)) (sym is.samples)

-- ---- what holds of a packet, if there is one

pub some_then : {X : Type 0} (P Q : X → Type 0) (o : Option X) → ((x : X) → P x → Q x) → IfSome o P → IfSome o Q
some_then P Q None f h = tt
some_then P Q (Some x) f h = f x h

pub ok_then : {X E : Type 0} (P Q : X → Type 0) (r : Result X E) → ((x : X) → P x → Q x) → IfOk r P → IfOk r Q
ok_then P Q (Ok x) f h = f x h
ok_then P Q (Err e) f h = tt
