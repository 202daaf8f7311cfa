-- All lanes of a bridge.
use Rattle.std.proofs.Common.{Bool, ◌≡◌, ◌⊎◌, ◌<◌, ℕ, min, zip, length-append, suc, List, [], ◌∷◌, ◌++◌, length, map}
use Rattle.std.proofs.Common.{take, drop, All, Some, get_or, slice_get, slice_set, refl, ap, sym, subst, ◌∙◌, ⊎_elim}
use Rattle.std.proofs.Common.{arith}
use Rattle.std.proofs.lemmas.Option.{slice_get-get_or}
use Rattle.std.proofs.lemmas.List.{append-nil}
use Rattle.std.proofs.lemmas.Slice.Zip.{length-zip}
use Rattle.std.proofs.Math.Seq.{map-set_same, take-append_seam}
use mathlib.Core.List.{IsPrefix}
use Rattle.rtrb.specs.Ring.{received}
use Rattle.bridge_core.specs.Sent.{sent_of}
use Rattle.media_workers.specs.declared.parcel.Parcel.TheVariants.{End}
use Rattle.media_workers.specs.Parcels.{works}
use Rattle.media_workers.specs.LaneRuns.{Ran, Versioned, versioned, Hears, run_end}
use Rattle.media_workers.specs.declared.lane_end.LaneEnd.{LaneEnd}
use Rattle.media_workers.specs.Ports.{PortOf, accept}
use Rattle.media_workers.specs.Bridges.{Taking, Hearing, Taker, EndsAs, AllEnded, StillFeeds, AllFeed}
use Rattle.media_workers.specs.Bridges.{EndsTold, AllTold}
use Rattle.media_workers.specs.inner.Threads.{Lasting, lasting}

pub AllEnded-push : {N P S : Type 0} (answers : P → ℕ → Bool → Type 0) (taken : Taking S) (ps : List (PortOf P S))
    (es : List (LaneEnd N S)) (p : PortOf P S) (e : LaneEnd N S)
    → AllEnded answers taken ps es → EndsAs answers taken p e → AllEnded answers taken (ps ++ p ∷ []) (es ++ e ∷ [])
AllEnded-push answers taken [] [] p e old one = (one, tt)
AllEnded-push answers taken [] (d ∷ es) p e old one = absurd old
AllEnded-push answers taken (q ∷ ps) [] p e old one = absurd old
AllEnded-push answers taken (q ∷ ps) (d ∷ es) p e old one = (old.0, AllEnded-push answers taken ps es p e old.1 one)

ends_alike : {N P S : Type 0} (answers : P → ℕ → Bool → Type 0) (taken : Taking S) (p q : PortOf P S) (e : LaneEnd N S)
    → lasting p ≡ lasting q → EndsAs answers taken q e → EndsAs answers taken p e
ends_alike {N} {P} {S} answers taken p q e same ends = record {
  ran =
      subst
      (λ (c : Lasting P S). Ran c.lane (answers c.pace) (received e.consumer) (map sent_of (taken e.sink)) (run_end e))
      (sym same) ends.ran;
  some = subst (λ (c : Lasting P S). IsPrefix (works (received e.consumer)) c.accepted) (sym same) ends.some;
  all = λ front is. ends.all front is ∙ ap (λ (c : Lasting P S). c.accepted) (sym same);
}

pub AllEnded-alike : {N P S : Type 0} (answers : P → ℕ → Bool → Type 0) (taken : Taking S) (ps qs : List (PortOf P S))
    (es : List (LaneEnd N S))
    → map lasting ps ≡ map lasting qs → AllEnded answers taken qs es → AllEnded answers taken ps es
AllEnded-alike answers taken [] [] es same ends = ends
AllEnded-alike answers taken [] (q ∷ qs) es same ends = absurd (cc (same))
AllEnded-alike answers taken (p ∷ ps) [] es same ends = absurd (cc (same))
AllEnded-alike answers taken (p ∷ ps) (q ∷ qs) [] same ends = ends
AllEnded-alike answers taken (p ∷ ps) (q ∷ qs) (e ∷ es) same ends =
    (ends_alike answers taken p q e (cc (same)) ends.0, AllEnded-alike answers taken ps qs es (cc (same)) ends.1)

pub AllFeed-push : {N P S : Type 0} (feeds : S → Taker → Type 0) (ps : List (PortOf P S)) (es : List (LaneEnd N S))
    (p : PortOf P S) (e : LaneEnd N S)
    → AllFeed feeds ps es → StillFeeds feeds p e → AllFeed feeds (ps ++ p ∷ []) (es ++ e ∷ [])
AllFeed-push feeds [] [] p e old one = (one, tt)
AllFeed-push feeds [] (d ∷ es) p e old one = absurd old
AllFeed-push feeds (q ∷ ps) [] p e old one = absurd old
AllFeed-push feeds (q ∷ ps) (d ∷ es) p e old one = (old.0, AllFeed-push feeds ps es p e old.1 one)

feed_alike : {N P S : Type 0} (feeds : S → Taker → Type 0) (p q : PortOf P S) (e : LaneEnd N S) → lasting p ≡ lasting q
    → StillFeeds feeds q e → StillFeeds feeds p e
feed_alike {N} {P} {S} feeds p q e same still c fed = still c (subst (λ (l : Lasting P S). feeds l.sink c) same fed)

pub AllFeed-alike : {N P S : Type 0} (feeds : S → Taker → Type 0) (ps qs : List (PortOf P S)) (es : List (LaneEnd N S))
    → map lasting ps ≡ map lasting qs → AllFeed feeds qs es → AllFeed feeds ps es
AllFeed-alike feeds [] [] es same fed = fed
AllFeed-alike feeds [] (q ∷ qs) es same fed = absurd (cc (same))
AllFeed-alike feeds (p ∷ ps) [] es same fed = absurd (cc (same))
AllFeed-alike feeds (p ∷ ps) (q ∷ qs) [] same fed = fed
AllFeed-alike feeds (p ∷ ps) (q ∷ qs) (e ∷ es) same fed =
    (feed_alike feeds p q e (cc (same)) fed.0, AllFeed-alike feeds ps qs es (cc (same)) fed.1)

pub AllTold-push : {N P S : Type 0} (answers : P → ℕ → Bool → Type 0) (taken : Taking S) (hearing : Hearing S)
    (ps : List (PortOf P S)) (es : List (LaneEnd N S)) (p : PortOf P S) (e : LaneEnd N S)
    → AllTold answers taken hearing ps es → EndsTold answers taken hearing p e
    → AllTold answers taken hearing (ps ++ p ∷ []) (es ++ e ∷ [])
AllTold-push answers taken hearing [] [] p e old one = (one, tt)
AllTold-push answers taken hearing [] (d ∷ es) p e old one = absurd old
AllTold-push answers taken hearing (q ∷ ps) [] p e old one = absurd old
AllTold-push answers taken hearing (q ∷ ps) (d ∷ es) p e old one =
    (old.0, AllTold-push answers taken hearing ps es p e old.1 one)

-- a run of what stays of a lane, and that its sink was told of it
abbrev RanTold : {N P S : Type 0} → (P → ℕ → Bool → Type 0) → Taking S → Hearing S → LaneEnd N S → Lasting P S → Type 0
RanTold answers taken hearing e c =
    (ran : Ran c.lane (answers c.pace) (received e.consumer) (map sent_of (taken e.sink)) (run_end e))
    × Hears hearing c.sink e.sink (map versioned ran.served)

told_alike : {N P S : Type 0} (answers : P → ℕ → Bool → Type 0) (taken : Taking S) (hearing : Hearing S)
    (p q : PortOf P S) (e : LaneEnd N S)
    → lasting p ≡ lasting q → EndsTold answers taken hearing q e → EndsTold answers taken hearing p e
told_alike {N} {P} {S} answers taken hearing p q e same told =
    let both : RanTold answers taken hearing e (lasting p) =
    subst (RanTold answers taken hearing e) (sym same) (told.ended.ran, told.heard) in
    record {
      ended = record {
        ran = both.0;
        some =
            subst (λ (c : Lasting P S). IsPrefix (works (received e.consumer)) c.accepted) (sym same) told.ended.some;
        all = λ front is. told.ended.all front is ∙ ap (λ (c : Lasting P S). c.accepted) (sym same);
      };
      heard = both.1;
    }

pub AllTold-alike : {N P S : Type 0} (answers : P → ℕ → Bool → Type 0) (taken : Taking S) (hearing : Hearing S)
    (ps qs : List (PortOf P S)) (es : List (LaneEnd N S))
    → map lasting ps ≡ map lasting qs → AllTold answers taken hearing qs es → AllTold answers taken hearing ps es
AllTold-alike answers taken hearing [] [] es same told = told
AllTold-alike answers taken hearing [] (q ∷ qs) es same told = absurd (cc (same))
AllTold-alike answers taken hearing (p ∷ ps) [] es same told = absurd (cc (same))
AllTold-alike answers taken hearing (p ∷ ps) (q ∷ qs) [] same told = told
AllTold-alike answers taken hearing (p ∷ ps) (q ∷ qs) (e ∷ es) same told = (
  told_alike answers taken hearing p q e (cc (same)) told.0,
  AllTold-alike answers taken hearing ps qs es (cc (same)) told.1,
)

-- one lane is given its End, or none is
pub one_ends : {P S : Type 0} (ps qs : List (PortOf P S)) (at : ℕ) → at < length ps
    → ((port : PortOf P S) → slice_get ps at ≡ Some port → (qs ≡ ps) ⊎ (qs ≡ slice_set ps at (accept End port)))
    → map lasting qs ≡ map lasting ps
one_ends [] qs at lt ends = absurd (omega arith)
one_ends {P} {S} (p ∷ ps) qs at lt ends =
    let all : List (PortOf P S) = p ∷ ps in
    let port : PortOf P S = get_or all at p in
    ⊎_elim
    (λ (same : qs ≡ all). ap (map lasting) same)
    (λ (changed : qs ≡ slice_set all at (accept End port)).
    ap (map lasting) changed ∙ map-set_same lasting all at (accept End port) p refl)
    (ends port (slice_get-get_or all at p lt))

-- what a slice of a whole vector was changed to is the vector
pub put_whole : {X : Type 0} (n : ℕ) (now old : List X) → length now ≡ n → take n (now ++ drop (length now) old) ≡ now
put_whole n now old is =
    subst (λ (k : ℕ). take k (now ++ drop (length now) old) ≡ now) is (take-append_seam now (drop (length now) old))

-- ---- lanes and paces, one after the other

pub zip_done : {A B : Type 0} (xs : List A) (bs : List B) (ys all : List (A × B)) → ys ++ zip xs bs ≡ all
    → (length xs ≡ 0) ⊎ (length bs ≡ 0) → ys ≡ all
zip_done [] bs ys all e none = sym (append-nil ys) ∙ e
zip_done (a ∷ xs) [] ys all e none = sym (append-nil ys) ∙ e
zip_done (a ∷ xs) (b ∷ bs) ys all e none =
    absurd (⊎_elim (λ (h : length (a ∷ xs) ≡ 0). absurd (omega arith))
    (λ (h : length (b ∷ bs) ≡ 0). absurd (omega arith)) none)

pub zip_few : {A B : Type 0} (a : A) (b : B) (xs xs' : List A) (bs bs' : List B) (ys : List (A × B)) (lanes : List A)
    (paces : List B)
    → xs ≡ a ∷ xs' → bs ≡ b ∷ bs' → ys ++ zip xs bs ≡ zip lanes paces → length ys < length lanes
zip_few {A} {B} a b xs xs' bs bs' ys lanes paces ea eb e =
    let two : ys ++ zip (a ∷ xs') (b ∷ bs') ≡ zip lanes paces =
    subst (λ (x : List A). ys ++ zip x (b ∷ bs') ≡ zip lanes paces) ea
    (subst (λ (w : List B). ys ++ zip xs w ≡ zip lanes paces) eb e) in
    let whole : length (ys ++ zip (a ∷ xs') (b ∷ bs')) ≡ min (length lanes) (length paces) =
    ap length two ∙ length-zip lanes paces in
    omega (arith, whole, length-append ys (zip (a ∷ xs') (b ∷ bs')))

-- what holds of each lane and of each outfit holds of the next ones
zip_here : {A B : Type 0} (Q : A → Type 0) (R : B → Type 0) (a : A) (b : B) (xs : List A) (bs : List B)
    (ys : List (A × B)) (lanes : List A) (outfits : List B)
    → ys ++ zip (a ∷ xs) (b ∷ bs) ≡ zip lanes outfits → All Q lanes → All R outfits → Q a × R b
zip_here Q R a b xs bs [] [] outfits e qs rs = absurd (cc (e))
zip_here Q R a b xs bs [] (l ∷ lanes) [] e qs rs = absurd (cc (e))
zip_here {A} {B} Q R a b xs bs [] (l ∷ lanes) (o ∷ outfits) e qs rs =
    let both : ◌≡◌ {A = A × B} (l, o) (a, b) = cc (e) in (
      subst Q (ap (λ (x : A × B). x.0) both) (qs 0 l (omega arith)),
      subst R (ap (λ (x : A × B). x.1) both) (rs 0 o (omega arith)),
    )
zip_here Q R a b xs bs (y ∷ ys) [] outfits e qs rs = absurd (cc (e))
zip_here Q R a b xs bs (y ∷ ys) (l ∷ lanes) [] e qs rs = absurd (cc (e))
zip_here Q R a b xs bs (y ∷ ys) (l ∷ lanes) (o ∷ outfits) e qs rs =
    zip_here Q R a b xs bs ys lanes outfits (cc (e)) (λ k d low. qs (suc k) d (omega (arith, low)))
    (λ k d low. rs (suc k) d (omega (arith, low)))

pub zip_next : {A B : Type 0} (Q : A → Type 0) (R : B → Type 0) (a : A) (b : B) (xs xs' : List A) (bs bs' : List B)
    (ys : List (A × B)) (lanes : List A) (outfits : List B)
    → xs ≡ a ∷ xs' → bs ≡ b ∷ bs' → ys ++ zip xs bs ≡ zip lanes outfits → All Q lanes → All R outfits → Q a × R b
zip_next {A} {B} Q R a b xs xs' bs bs' ys lanes outfits ea eb e qs rs =
    zip_here Q R a b xs' bs' ys lanes outfits
    (subst (λ (x : List A). ys ++ zip x (b ∷ bs') ≡ zip lanes outfits) ea
    (subst (λ (w : List B). ys ++ zip xs w ≡ zip lanes outfits) eb e))
    qs rs
