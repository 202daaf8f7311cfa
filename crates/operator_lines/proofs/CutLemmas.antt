-- A cut, octet by octet.
use Rattle.std.proofs.lemmas.Bool.Decides.{nat_tests}
use Rattle.std.proofs.Common.{◌≡◌, ◌⊎◌, inl, inr, ℕ, ◌+◌, Bool, true, false, cond, not, ◌&&◌, if◌then◌else◌, nat_eq}
use Rattle.std.proofs.Common.{List, [], ◌∷◌, ◌++◌, length, map, take, refl, sym, ap, ◌∙◌, subst, arith, append_assoc}
use Rattle.std.proofs.Common.{length-append}
use Rattle.std.specs.Prelude.{fold, Result, Ok, is_ok}
use Rattle.std.specs.List.{take_while, list_all}
use Rattle.std.specs.Str.Lines.{strip_carriage_return}
use Rattle.std.proofs.lemmas.Bool.{and_parts, and_cases, and_left, and_right}
use Rattle.std.proofs.lemmas.List.Folds.{list_all-append}
use Rattle.std.proofs.lemmas.List.Sums.{take_while-cons, fold-append}
use Rattle.std.proofs.lemmas.List.{map-append, append-nil}
use Rattle.operator_lines.specs.Cut.{Cut, cut, with_octet, uncut, is_short, lines_in, too_long_in, is_too_long}
use Rattle.operator_lines.specs.Cut.{lines_of}
use Rattle.operator_lines.specs.Fed.{Kept, Stands, texts}
use Rattle.operator_lines.specs.inner.Holds.{Holds, in_place, unless}
use Rattle.std.specs.declared.vec.Vec.{Vec}

cons_short : {X : Type 0} (b : Bool) (x y : X) (s t : List X) → b ≡ true → s ≡ t ++ y ∷ []
    → cond b (x ∷ s) [] ≡ cond b (x ∷ t) [] ++ y ∷ []
cons_short {X = X} b x y s t h k = rw h (ap (λ (z : List X). x ∷ z) k)

-- one more that passes, after those that all pass
take_while-pass : {X : Type 0} (p : X → Bool) (xs : List X) (y : X) → list_all p xs ≡ true → p y ≡ true
    → take_while p (xs ++ y ∷ []) ≡ take_while p xs ++ y ∷ []
take_while-pass {X = X} p [] y h k = take_while-cons p y [] ∙ ap (λ (b : Bool). cond b (y ∷ []) []) k
take_while-pass {X = X} p (x ∷ xs) y h k =
    let both = and_parts (p x) (list_all p xs) h in
    take_while-cons p x (xs ++ y ∷ [])
    ∙ (cons_short (p x) x y (take_while p (xs ++ y ∷ [])) (take_while p xs) both.0 (take_while-pass p xs y both.1 k)
    ∙ ap (λ (z : List X). z ++ y ∷ []) (sym (take_while-cons p x xs)))

cons_fail : {X : Type 0} (b r : Bool) (x : X) (s t : List X) → (b && r) ≡ false → (r ≡ false → s ≡ t)
    → cond b (x ∷ s) [] ≡ cond b (x ∷ t) []
cons_fail {X = X} true r x s t h k = ap (λ (z : List X). x ∷ z) (k h)
cons_fail {X = X} false r x s t h k = refl

first_fails : {X : Type 0} (b : Bool) (y : X) → (b && true) ≡ false → cond b (y ∷ []) [] ≡ []
first_fails true y e = absurd (let x : false ≡ true = sym e in cc)
first_fails false y e = refl

-- one more, where one does not pass
take_while-fail : {X : Type 0} (p : X → Bool) (xs : List X) (y : X) → list_all p (xs ++ y ∷ []) ≡ false
    → take_while p (xs ++ y ∷ []) ≡ take_while p xs
take_while-fail {X = X} p [] y h = take_while-cons p y [] ∙ first_fails (p y) y h
take_while-fail {X = X} p (x ∷ xs) y h =
    take_while-cons p x (xs ++ y ∷ [])
    ∙ (cons_fail (p x) (list_all p (xs ++ y ∷ [])) x (take_while p (xs ++ y ∷ [])) (take_while p xs) h
    (λ e. take_while-fail p xs y e)
    ∙ sym (take_while-cons p x xs))

and_true : (b : Bool) → (b && true) ≡ b
and_true true = refl
and_true false = refl

not_true : (b : Bool) → not b ≡ true → b ≡ false
not_true true h = sym h
not_true false h = refl

not_false : (b : Bool) → not b ≡ false → b ≡ true
not_false true h = refl
not_false false h = sym h

abbrev pub lf : Cut → Cut
lf c = record { ended = c.ended ++ c.rest ∷ []; rest = [] }

abbrev pub octet_on : Cut → ℕ → Cut
octet_on c x = record { ended = c.ended; rest = c.rest ++ x ∷ [] }

pub with_lf : (c : Cut) (x : ℕ) → nat_eq x 10 ≡ true → with_octet c x ≡ lf c
with_lf c x e = rw e refl

pub with_other : (c : Cut) (x : ℕ) → nat_eq x 10 ≡ false → with_octet c x ≡ octet_on c x
with_other c x e = rw e refl

too_long_in-lf : (c : Cut) → too_long_in (lf c) ≡ too_long_in c
too_long_in-lf c = ap not (list_all-append is_short (c.ended ++ c.rest ∷ []) ([] ∷ []) ∙ and_true _)

rest_long : (rest : List ℕ) (x : ℕ) → is_short rest ≡ false → is_short (rest ++ x ∷ []) ≡ false
rest_long rest x h =
    let n : length (rest ++ x ∷ []) ≡ length rest + 1 = length-append rest (x ∷ []) in rw n (grind (arith, nat_tests))

too_long_in-octet : (c : Cut) (x : ℕ) → too_long_in c ≡ true → too_long_in (octet_on c x) ≡ true
too_long_in-octet c x h =
    ap not (list_all-append is_short c.ended ((c.rest ++ x ∷ []) ∷ [])
    ∙ parts (and_cases _ _ (sym (list_all-append is_short c.ended (c.rest ∷ [])) ∙ not_true _ h)))
  where
    parts : (list_all is_short c.ended ≡ false) ⊎ ((is_short c.rest && true) ≡ false)
        → (list_all is_short c.ended && (is_short (c.rest ++ x ∷ []) && true)) ≡ false
    parts (inl e) = and_left _ _ e
    parts (inr e) = and_right _ _ (and_left _ _ (rest_long c.rest x (sym (and_true _) ∙ e)))

-- what is too long stays so, and gets no line
pub long_stays : (c : Cut) (x : ℕ) → too_long_in c ≡ true
    → (too_long_in (with_octet c x) ≡ true) × (lines_in (with_octet c x) ≡ lines_in c)
long_stays c x h =
    elim (nat_eq x 10) as (λ (b : Bool).
    nat_eq x 10 ≡ b → (too_long_in (with_octet c x) ≡ true) × (lines_in (with_octet c x) ≡ lines_in c)) [
      | true ↦ λ e.
          rw (with_lf c x e) (
            too_long_in-lf c ∙ h,
            ap (map strip_carriage_return) (take_while-fail is_short c.ended c.rest (not_true _ h)),
          )
      | false ↦ λ e. rw (with_other c x e) (too_long_in-octet c x h, refl)
    ] refl

pub fold_stays_long : (ys : List ℕ) (c : Cut) → too_long_in c ≡ true
    → (too_long_in (fold with_octet c ys) ≡ true) × (lines_in (fold with_octet c ys) ≡ lines_in c)
fold_stays_long [] c h = (h, refl)
fold_stays_long (y ∷ ys) c h =
    let one = long_stays c y h in
    let more = fold_stays_long ys (with_octet c y) one.0 in
    (more.0, more.1 ∙ one.1)

pub long_step : (before : List (List ℕ)) (c : Cut) (k : Kept) (given : List (List ℕ)) (x : ℕ) → k.too_long ≡ true
    → Holds before c k given → Holds before (with_octet c x) k given
long_step before c k given x long h =
    let l = long_stays c x (sym h.stands.long ∙ long) in
    record {
      stands =
          record { long = long ∙ sym l.0; pending = λ short. absurd (let e : false ≡ true = sym short ∙ long in cc) };
      lines = l.1 ∙ h.lines;
    }

parts_short : (c : Cut) → too_long_in c ≡ false → (list_all is_short c.ended ≡ true) × (is_short c.rest ≡ true)
parts_short c h =
    let both =
    and_parts (list_all is_short c.ended) (is_short c.rest && true)
    (sym (list_all-append is_short c.ended (c.rest ∷ [])) ∙ not_false _ h) in
    (both.0, sym (and_true _) ∙ both.1)

pub lf_step : (before : List (List ℕ)) (c : Cut) (k now : Kept) (given given_now : List (List ℕ)) (x : ℕ)
    → k.too_long ≡ false → nat_eq x 10 ≡ true → now.pending ≡ [] → now.too_long ≡ k.too_long
    → given_now ≡ given ++ strip_carriage_return k.pending ∷ []
    → Holds before c k given → Holds before (with_octet c x) now given_now
lf_step before c k now given given_now x short e empty same more h =
    let s = parts_short c (sym h.stands.long ∙ short) in
    rw (with_lf c x e)
    (record {
      stands = record { long = same ∙ (h.stands.long ∙ sym (too_long_in-lf c)); pending = λ u. empty };
      lines =
          ap (map strip_carriage_return) (take_while-pass is_short c.ended c.rest s.0 s.1)
          ∙ (map-append strip_carriage_return (take_while is_short c.ended) (c.rest ∷ [])
          ∙ (ap (λ (z : List (List ℕ)). z ++ strip_carriage_return c.rest ∷ []) h.lines
          ∙ (append_assoc before given (strip_carriage_return c.rest ∷ [])
          ∙ (ap (λ (z : List ℕ). before ++ (given ++ strip_carriage_return z ∷ [])) (sym (h.stands.pending short))
          ∙ ap (λ (z : List (List ℕ)). before ++ z) (sym more)))));
    })

-- after a stream, these octets
pub cut-append : (before octets : List ℕ) → cut (before ++ octets) ≡ fold with_octet (cut before) octets
cut-append before octets = fold-append with_octet uncut before octets

pub stays_too_long : (xs ys : List ℕ) → is_too_long xs ≡ true
    → (is_too_long (xs ++ ys) ≡ true) × (lines_of (xs ++ ys) ≡ lines_of xs)
stays_too_long xs ys h = rw (cut-append xs ys) (fold_stays_long ys (cut xs) h)

-- these octets were fed after a stream
pub fed_lines : (before octets : List ℕ) (now : Kept) (given : List (List ℕ))
    → Holds (lines_in (cut before)) (fold with_octet (cut before) octets) now given
    → (lines_of (before ++ octets) ≡ lines_of before ++ given) × Stands (cut (before ++ octets)) now
fed_lines before octets now given h = rw (cut-append before octets) (h.lines, h.stands)

pub at_first : (c : Cut) (k : Kept) → Stands c k → Holds (lines_in c) c k []
at_first c k h = record { stands = h; lines = sym (append-nil _) }

is_pushed : {X E : Type 0} (r : Result (Unit {0}) E) (xs ys zs : List X) → zs ≡ (if is_ok r then xs else ys) → r ≡ Ok tt
    → zs ≡ xs
is_pushed {X = X} {E = E} r xs ys zs e o = e ∙ ap (λ (q : Result (Unit {0}) E). if is_ok q then xs else ys) o

-- a line was pushed
pub texts_push : {A E : Type 0} (old now : List (Vec ℕ A)) (line : Vec ℕ A) (r : Result (Unit {0}) E) (text : List ℕ)
    → now ≡ (if is_ok r then old ++ line ∷ [] else old) → r ≡ Ok tt → line.items ≡ text
    → texts now ≡ texts old ++ text ∷ []
texts_push {A = A} old now line r text e o t =
    ap texts (is_pushed r (old ++ line ∷ []) old now e o)
    ∙ (map-append (λ (v : Vec ℕ A). v.items) old (line ∷ []) ∙ ap (λ (z : List ℕ). texts old ++ z ∷ []) t)

pub all_fed : (before : List (List ℕ)) (c : Cut) (k : Kept) (given : List (List ℕ)) (octets : List ℕ) (i : ℕ)
    → take i octets ≡ octets → Holds before (fold with_octet c (take i octets)) k given
    → Holds before (fold with_octet c octets) k given
all_fed before c k given octets i e h = subst (λ (z : List ℕ). Holds before (fold with_octet c z) k given) e h

pub unless-true : (e r f : Bool) (p : List ℕ) → r ≡ true → f ≡ true → unless r (unless e p) ≡ unless f p
unless-true e r f p h k = ap (λ (b : Bool). unless b (unless e p)) h ∙ sym (ap (λ (b : Bool). unless b p) k)

pub unless-false : (e r f : Bool) (p : List ℕ) → r ≡ false → f ≡ e → unless r (unless e p) ≡ unless f p
unless-false e r f p h k = ap (λ (b : Bool). unless b (unless e p)) h ∙ sym (ap (λ (b : Bool). unless b p) k)

-- an octet was taken into a line that began with what was carried over
pub carried_step : (before : List (List ℕ)) (c d : Cut) (old new : Kept) (given more : List (List ℕ))
    (carried p : List ℕ) (e r f : Bool)
    → carried ≡ unless e p → unless r (unless e p) ≡ unless f p
    → (Holds before c (in_place carried old) given → Holds before d (in_place (unless r carried) new) more)
    → Holds before c (in_place (unless e p) old) given → Holds before d (in_place (unless f p) new) more
carried_step before c d old new given more carried p e r f is same step h =
    subst (λ (z : List ℕ). Holds before d (in_place z new) more) (ap (unless r) is ∙ same)
    (step (subst (λ (z : List ℕ). Holds before c (in_place z old) given) (sym is) h))

pub kept_if_ended : (e : Bool) (p : List ℕ) (k now : Kept) → e ≡ true → now ≡ k → in_place (unless e p) k ≡ now
kept_if_ended e p k now h s = ap (λ (b : Bool). in_place (unless b p) k) h ∙ sym s

pub kept_if_not : (e : Bool) (p : List ℕ) (k now : Kept) → e ≡ false → now ≡ in_place p k
    → in_place (unless e p) k ≡ now
kept_if_not e p k now h s = ap (λ (b : Bool). in_place (unless b p) k) h ∙ sym s
