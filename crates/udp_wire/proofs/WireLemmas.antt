-- Attempts on a wire.
use Rattle.std.proofs.Common.{◌≡◌, ℕ, ◌+◌, ◌<◌, get_or, take, subst, List, [], ◌∷◌, ◌++◌, Option, None, Some, map}
use Rattle.std.proofs.Common.{length, filter, not, Bool, if◌then◌else◌, true, false, ap, sym, ◌∙◌, refl}
use Rattle.std.specs.List.{flat_map}
use Rattle.std.proofs.lemmas.List.{append_assoc, map-append, length-append, append-nil, take_more, map_more}
use Rattle.std.proofs.lemmas.Grind.{flat_map-append}
use Rattle.std.proofs.lemmas.List.Elements.{filter-append}
use Rattle.rtp_codec.specs.declared.address.Address.{Address}
use Rattle.bridge_core.specs.declared.egress.Egress.{Egress}
use Rattle.udp_wire.specs.Attempts.{Attempt, with_tried, GrewBy, Tried, tried_of, datagrams_of, failures}

pub with_both : (s t : List Attempt) (attempts : Option (List Attempt))
    → with_tried t (with_tried s attempts) ≡ with_tried (s ++ t) attempts
with_both s t None = refl
with_both s t (Some before) = ap Some (append_assoc before s t)

pub failures-append : (s t : List Attempt) → failures (s ++ t) ≡ failures s + failures t
failures-append s t =
    ap length (filter-append (λ attempt. not attempt.sent) s t)
    ∙ length-append (filter (λ attempt. not attempt.sent) s) (filter (λ attempt. not attempt.sent) t)

-- first for these, then for those
pub grew_both : {A : Type 0} (xs ys : List (Egress A)) (a b c : Option (List Attempt)) (m n : ℕ) → GrewBy xs a b m
    → GrewBy ys b c n → GrewBy (xs ++ ys) a c (m + n)
grew_both xs ys a b c m n g h = (
  g.0 ++ h.0,
  h.1 ∙ ap (with_tried h.0) g.1 ∙ with_both g.0 h.0 a,
  map-append tried_of g.0 h.0
      ∙ ap (λ l. l ++ map tried_of h.0) g.2
      ∙ ap (λ l. flat_map datagrams_of xs ++ l) h.2
      ∙ sym (flat_map-append datagrams_of xs ys),
  ap (λ k. k + n) g.3 ∙ ap (λ k. failures g.0 + k) h.3 ∙ sym (failures-append g.0 h.0),
)

pub failed_one : (to : Address) (octets : List ℕ) (sent : Bool)
    → (if sent then 0 else 1) ≡ failures (record { to = to; octets = octets; sent = sent } ∷ [])
failed_one to octets true = refl
failed_one to octets false = refl

-- the one datagram of an egress was tried
pub grew_one : {A : Type 0} (e : Egress A) (to : Address) (octets : List ℕ) (a b : Option (List Attempt)) (n : ℕ)
    → datagrams_of e ≡ (to, octets) ∷ [] → Tried to octets a b n → GrewBy (e ∷ []) a b n
grew_one e to octets a b n is t = (
  record { to = to; octets = octets; sent = t.0 } ∷ [],
  t.1,
  sym (append-nil (datagrams_of e) ∙ is),
  t.2 ∙ failed_one to octets t.0,
)

pub with_none : (attempts : Option (List Attempt)) → attempts ≡ with_tried [] attempts
with_none None = refl
with_none (Some before) = ap Some (sym (append-nil before))

-- an egress of which nothing goes out
pub grew_none : {A : Type 0} (e : Egress A) (a : Option (List Attempt)) → datagrams_of e ≡ [] → GrewBy (e ∷ []) a a 0
grew_none e a is = ([], with_none a, sym (append-nil (datagrams_of e) ∙ is), refl)

-- one egress more, of a list
pub grew_step : {A : Type 0} (xs : List (Egress A)) (i : ℕ) (x : Egress A) (a b c : Option (List Attempt)) (m n : ℕ)
    → i < length xs → x ≡ get_or xs i x → GrewBy (take i xs) a b m → GrewBy (x ∷ []) b c n
    → GrewBy (take (i + 1) xs) a c (m + n)
grew_step xs i x a b c m n less is g h =
    subst (λ l. GrewBy l a c (m + n)) (ap (λ y. take i xs ++ y ∷ []) is ∙ sym (take_more xs i x less))
    (grew_both (take i xs) (x ∷ []) a b c m n g h)

-- one more, of a list that holds egresses
pub grew_step_of : {A X : Type 0} (f : X → Egress A) (xs : List X) (i : ℕ) (x : X) (a b c : Option (List Attempt))
    (m n : ℕ)
    → i < length xs → x ≡ get_or xs i x → GrewBy (map f (take i xs)) a b m → GrewBy (f x ∷ []) b c n
    → GrewBy (map f (take (i + 1) xs)) a c (m + n)
grew_step_of f xs i x a b c m n less is g h =
    subst (λ l. GrewBy l a c (m + n)) (ap (λ y. map f (take i xs) ++ f y ∷ []) is ∙ sym (map_more f xs i x less))
    (grew_both (map f (take i xs)) (f x ∷ []) a b c m n g h)
