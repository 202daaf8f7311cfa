-- Mixes over all ticks.
use Rattle.std.proofs.Common.{◌≡◌, ℕ, ℤ, ◌+◌, ◌%◌, ◌^◌, Bool, true, false, cond, List, [], ◌∷◌, ◌++◌, length, drop}
use Rattle.std.proofs.Common.{Option, Some, None, refl, sym, ap, subst, ◌∙◌, arith, append_assoc, append-nil}
use Rattle.std.specs.Prelude.{is_some, not, unwrap_or}
use Rattle.std.specs.Option.{option_map}
use Rattle.std.proofs.lemmas.List.{drop_at}
use Rattle.rtp_codec.specs.declared.address.Address.{Address}
use Rattle.desk_rows.specs.Desk.{Desk}
use Rattle.forward_rewrite.specs.Sending.{Numbered}
use Rattle.media_items.specs.Formats.{tick_at}
use Rattle.forward_rewrite.specs.Mixes.{Sound, MixTick, mix_packet, packets_in, mixed, mixed_from, begun, mix_list}
use Rattle.mixer.specs.Hearing.{Given, put, tick, renew}
use Rattle.mixer.specs.Mixes.{Hears, Turn, turn_of, turns_after, turns, tick_of, ticks_of, packets_of, mixes, mixes_at}
use Rattle.mixer.specs.MixLists.{GoOn, AreInARow, Carries}
use Rattle.mixer.proofs.Ticks.{rate_behind, ticks_push}

-- ---- what one more tick adds

-- these come behind the packets before, and carry what was heard
record IsMore (ssrc : ℕ) (heard : Option Hears) (before after : List Numbered) : Type 0 where
  more : List Numbered
  behind : after ≡ before ++ more
  carries : Carries ssrc heard more

-- a tick in which this is heard
abbrev tick_with : Option Hears → ℕ → ℕ → MixTick
tick_with heard rate moment = record { sound = option_map (λ (h : Hears). h.sound) heard; rate = rate; moment = moment }

mixed-more : (ssrc number ts : ℕ) (spoke : Bool) (xs : List MixTick) (heard : Option Hears) (rate moment : ℕ)
    → IsMore ssrc heard (mixed ssrc number ts spoke xs)
    (mixed ssrc number ts spoke (xs ++ tick_with heard rate moment ∷ []))
mixed-more ssrc number ts spoke [] None rate moment = record { more = []; behind = refl; carries = refl }
mixed-more ssrc number ts spoke [] (Some h) rate moment = record {
  more = mix_packet ssrc number (ts + tick_at rate) (not spoke) h.sound ∷ [];
  behind = refl;
  carries = record { number = number; ts = ts + tick_at rate; marker = not spoke; packet = refl };
}
mixed-more ssrc number ts spoke (x ∷ xs) heard rate moment =
    let here = ts + tick_at x.rate in
    let sent = packets_in ssrc number here (not spoke) x.sound in
    let rest = mixed-more ssrc (number + length sent) here (is_some x.sound) xs heard rate moment in
    record {
      more = rest.more;
      behind =
          ap (λ ps. sent ++ ps) rest.behind
          ∙ sym (append_assoc sent (mixed ssrc (number + length sent) here (is_some x.sound) xs) rest.more);
      carries = rest.carries;
    }

from-more : (ssrc first_seq first_ts : ℕ) (xs : List MixTick) (heard : Option Hears) (rate moment : ℕ)
    → IsMore ssrc heard (mixed_from ssrc first_seq first_ts xs)
    (mixed_from ssrc first_seq first_ts (xs ++ tick_with heard rate moment ∷ []))
from-more ssrc first_seq first_ts [] None rate moment = record { more = []; behind = refl; carries = refl }
from-more ssrc first_seq first_ts [] (Some h) rate moment = record {
  more = mix_packet ssrc first_seq first_ts true h.sound ∷ [];
  behind = refl;
  carries = record { number = first_seq; ts = first_ts; marker = true; packet = refl };
}
from-more ssrc first_seq first_ts (x ∷ xs) heard rate moment =
    let sent = packets_in ssrc first_seq first_ts true x.sound in
    let rest = mixed-more ssrc (first_seq + length sent) first_ts (is_some x.sound) xs heard rate moment in
    record {
      more = rest.more;
      behind =
          ap (λ ps. sent ++ ps) rest.behind
          ∙ sym (append_assoc sent (mixed ssrc (first_seq + length sent) first_ts (is_some x.sound) xs) rest.more);
      carries = rest.carries;
    }

list-more : (ssrc first_seq first_ts : ℕ) (before : List MixTick) (heard : Option Hears) (rate moment : ℕ)
    → IsMore ssrc heard (mix_list ssrc first_seq first_ts before)
    (mix_list ssrc first_seq first_ts (before ++ tick_with heard rate moment ∷ []))
list-more ssrc first_seq first_ts [] None rate moment = record { more = []; behind = refl; carries = refl }
list-more ssrc first_seq first_ts [] (Some h) rate moment = from-more ssrc first_seq first_ts [] (Some h) rate moment
list-more ssrc first_seq first_ts (x ∷ xs) heard rate moment =
    let next = tick_with heard rate moment in
    elim (is_some x.sound) as (λ b.
    IsMore ssrc heard (mixed_from ssrc first_seq first_ts (cond b (x ∷ xs) (begun xs)))
    (mixed_from ssrc first_seq first_ts (cond b (x ∷ xs ++ next ∷ []) (begun (xs ++ next ∷ []))))) [
      | true ↦ from-more ssrc first_seq first_ts (x ∷ xs) heard rate moment
      | false ↦ list-more ssrc first_seq first_ts xs heard rate moment
    ]

packets-more : (ssrc : ℕ) (ts : List Turn) (heard : Option Hears) (rate : Option ℕ) (moment : ℕ)
    → IsMore ssrc heard (packets_of ssrc ts)
    (packets_of ssrc (ts ++ record { heard = heard; rate = rate; moment = moment } ∷ []))
packets-more ssrc [] None rate moment = record { more = []; behind = refl; carries = refl }
packets-more ssrc [] (Some h) rate moment =
    let next : Turn = record { heard = Some h; rate = rate; moment = moment } in
    list-more ssrc h.member.first_seq h.member.first_ts [] (Some h) (tick_of 0 next).rate moment
packets-more ssrc (t ∷ ts) heard rate moment =
    let next : Turn = record { heard = heard; rate = rate; moment = moment } in
    let list = λ (turns : List Turn) (h : Hears). mix_list ssrc h.member.first_seq h.member.first_ts (ticks_of turns) in
    elim t.heard as (λ o.
    IsMore ssrc heard (unwrap_or (option_map (list (t ∷ ts)) o) (packets_of ssrc ts))
    (unwrap_or (option_map (list (t ∷ ts ++ next ∷ [])) o) (packets_of ssrc (ts ++ next ∷ [])))) [
      | None ↦ packets-more ssrc ts heard rate moment
      | Some h ↦
          let now =
          list-more ssrc h.member.first_seq h.member.first_ts (ticks_of (t ∷ ts)) heard
          (tick_of (rate_behind 0 (t ∷ ts)) next).rate moment in
          record {
            more = now.more;
            behind = ap (mix_list ssrc h.member.first_seq h.member.first_ts) (ticks_push 0 (t ∷ ts) next) ∙ now.behind;
            carries = now.carries;
          }
    ]

turns_after-more : (ssrc : ℕ) (before given : List Given) (next : Given)
    → turns_after ssrc before (given ++ next ∷ [])
    ≡ turns_after ssrc before given ++ turns_after ssrc (before ++ given) (next ∷ [])
turns_after-more ssrc before [] next = ap (λ b. turns_after ssrc b (next ∷ [])) (sym (append-nil before))
turns_after-more ssrc before (put source address rate ts samples ∷ given) next =
    let after = before ++ put source address rate ts samples ∷ [] in
    turns_after-more ssrc after given next
    ∙ ap (λ b. turns_after ssrc after given ++ turns_after ssrc b (next ∷ []))
    (append_assoc before (put source address rate ts samples ∷ []) given)
turns_after-more ssrc before (tick d moment ∷ given) next =
    let after = before ++ tick d moment ∷ [] in
    ap (λ ts. turn_of ssrc before d moment ∷ ts)
    (turns_after-more ssrc after given next
    ∙ ap (λ b. turns_after ssrc after given ++ turns_after ssrc b (next ∷ []))
    (append_assoc before (tick d moment ∷ []) given))
turns_after-more ssrc before (renew ∷ given) next =
    let after = before ++ renew ∷ [] in
    turns_after-more ssrc after given next
    ∙ ap (λ b. turns_after ssrc after given ++ turns_after ssrc b (next ∷ [])) (append_assoc before (renew ∷ []) given)

tick_adds : (ssrc : ℕ) (before : List Given) (d : Desk) (moment : ℕ)
    → IsMore ssrc (turn_of ssrc before d moment).heard (mixes ssrc before) (mixes ssrc (before ++ tick d moment ∷ []))
tick_adds ssrc before d moment =
    let next = turn_of ssrc before d moment in
    let now = packets-more ssrc (turns ssrc before) next.heard next.rate moment in
    record {
      more = now.more;
      behind = ap (packets_of ssrc) (turns_after-more ssrc [] before (tick d moment)) ∙ now.behind;
      carries = now.carries;
    }

added : (ssrc : ℕ) (before : List Given) (d : Desk) (moment : ℕ)
    → mixes_at ssrc before d moment ≡ (tick_adds ssrc before d moment).more
added ssrc before d moment =
    let now = tick_adds ssrc before d moment in
    ap (drop (length (mixes ssrc before))) now.behind
    ∙ drop_at (mixes ssrc before) now.more (length (mixes ssrc before)) refl

pub tick_behind : (ssrc : ℕ) (before : List Given) (d : Desk) (moment : ℕ)
    → mixes ssrc (before ++ tick d moment ∷ []) ≡ mixes ssrc before ++ mixes_at ssrc before d moment
tick_behind ssrc before d moment =
    (tick_adds ssrc before d moment).behind ∙ ap (λ ps. mixes ssrc before ++ ps) (sym (added ssrc before d moment))

pub tick_heard : (ssrc : ℕ) (before : List Given) (d : Desk) (moment : ℕ)
    → Carries ssrc (turn_of ssrc before d moment).heard (mixes_at ssrc before d moment)
tick_heard ssrc before d moment =
    subst (Carries ssrc (turn_of ssrc before d moment).heard) (sym (added ssrc before d moment))
    (tick_adds ssrc before d moment).carries

pub put_adds_nothing : (ssrc : ℕ) (before : List Given) (source : ℕ) (address : Address) (rate ts : ℕ)
    (samples : List ℤ)
    → mixes ssrc (before ++ put source address rate ts samples ∷ []) ≡ mixes ssrc before
put_adds_nothing ssrc before source address rate ts samples =
    ap (packets_of ssrc)
    (turns_after-more ssrc [] before (put source address rate ts samples) ∙ append-nil (turns ssrc before))

pub renew_adds_nothing : (ssrc : ℕ) (before : List Given) → mixes ssrc (before ++ renew ∷ []) ≡ mixes ssrc before
renew_adds_nothing ssrc before =
    ap (packets_of ssrc) (turns_after-more ssrc [] before renew ∙ append-nil (turns ssrc before))

-- ---- numbers

go_on : (ssrc number next ts : ℕ) (spoke : Bool) (xs : List MixTick) → next ≡ number + 1
    → GoOn (number % 2 ^ 16) (mixed ssrc next ts spoke xs)
go_on ssrc number next ts spoke [] is = tt
go_on ssrc number next ts spoke (x ∷ xs) is = by x.sound (λ n m b same. go_on ssrc n m (ts + tick_at x.rate) b xs same)
  where
    here : ℕ
    here = ts + tick_at x.rate

    by : (o : Option Sound) → ((n m : ℕ) (b : Bool) → m ≡ n + 1 → GoOn (n % 2 ^ 16) (mixed ssrc m here b xs))
        → GoOn (number % 2 ^ 16) (packets_in ssrc next here (not spoke) o
        ++ mixed ssrc (next + length (packets_in ssrc next here (not spoke) o)) here (is_some o) xs)
    by None rest = rest number (next + 0) false (omega (arith, is))
    by (Some sound) rest = (omega (arith, is), rest next (next + 1) true (omega arith))

in_a_row : (ssrc number ts : ℕ) (spoke : Bool) (xs : List MixTick) → AreInARow (mixed ssrc number ts spoke xs)
in_a_row ssrc number ts spoke [] = tt
in_a_row ssrc number ts spoke (x ∷ xs) = by x.sound (λ n b. in_a_row ssrc n (ts + tick_at x.rate) b xs)
  where
    here : ℕ
    here = ts + tick_at x.rate

    by : (o : Option Sound) → ((n : ℕ) (b : Bool) → AreInARow (mixed ssrc n here b xs))
        → AreInARow (packets_in ssrc number here (not spoke) o
        ++ mixed ssrc (number + length (packets_in ssrc number here (not spoke) o)) here (is_some o) xs)
    by None rest = rest (number + 0) false
    by (Some sound) rest = go_on ssrc number (number + 1) here true xs (omega arith)

row_from : (ssrc first_seq first_ts : ℕ) (xs : List MixTick) → AreInARow (mixed_from ssrc first_seq first_ts xs)
row_from ssrc first_seq first_ts [] = tt
row_from ssrc first_seq first_ts (x ∷ xs) = by x.sound
  where
    by : (o : Option Sound)
        → AreInARow (packets_in ssrc first_seq first_ts true o
        ++ mixed ssrc (first_seq + length (packets_in ssrc first_seq first_ts true o)) first_ts (is_some o) xs)
    by None = in_a_row ssrc (first_seq + 0) first_ts false xs
    by (Some sound) = go_on ssrc first_seq (first_seq + 1) first_ts true xs (omega arith)

pub row_of : (ssrc : ℕ) (ts : List Turn) → AreInARow (packets_of ssrc ts)
row_of ssrc [] = tt
row_of ssrc (t ∷ ts) =
    elim t.heard as (λ o.
    AreInARow (unwrap_or
    (option_map (λ (h : Hears). mix_list ssrc h.member.first_seq h.member.first_ts (ticks_of (t ∷ ts))) o)
    (packets_of ssrc ts))) [
      | None ↦ row_of ssrc ts
      | Some h ↦ row_from ssrc h.member.first_seq h.member.first_ts (begun (ticks_of (t ∷ ts)))
    ]
