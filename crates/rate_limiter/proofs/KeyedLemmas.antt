-- Buckets under the keys of their addresses.
use Rattle.std.proofs.Common.{◌≡◌, ℕ, zero, suc, ◌-◌, ◌≤◌, true, false, List, [], ◌∷◌, length, take, Option, None, Some}
use Rattle.std.proofs.Common.{IfSome, refl, sym, ap, ◌∙◌, subst, arith}
use Rattle.std.proofs.lemmas.List.{take_all, length-map}
use Rattle.std.proofs.lemmas.Slice.Eq.{bytes_eq-Decides}
use Rattle.std.proofs.lemmas.Bool.{eqb-true, eq-eqb}
use Rattle.std.specs.Map.{lookup, lookup_entry, remove_entry}
use Rattle.std.specs.Option.{option_map_or}
use Rattle.std.specs.Str.{bytes_eq}
use Rattle.rtp_codec.specs.declared.address.Address.{Address}
use Rattle.rtp_codec.specs.Address.{same_address}
use Rattle.rate_limiter.specs.declared.bucket.Bucket.{Bucket}
use Rattle.rate_limiter.specs.declared.key.AddressKey.{AddressKey}
use Rattle.rate_limiter.specs.Buckets.{bucket_at, other_buckets, used, most_addresses}
use Rattle.rate_limiter.specs.inner.Keyed.{same_key, key_of, AreKeyed, buckets_in, put_within, drafted}

-- one address
pub same_address_is : (a b : Address) → same_address a b ≡ true → a ≡ b
same_address_is a b h = (elim (bytes_eq a.ip b.ip) as (λ y. bytes_eq a.ip b.ip ≡ y → a ≡ b) [
  | true ↦ λ t. let h' = rw t at h in
      let ip = (bytes_eq-Decides a.ip b.ip).0 t in
      let port = eqb-true a.port b.port h' in
      ap (λ (i : List ℕ). record { ip = i; port = a.port }) ip ∙ ap (λ (p : ℕ). record { ip = b.ip; port = p }) port
  | false ↦ λ t. let h' = rw t at h in cc
]) refl

pub same_itself : (a : Address) → same_address a a ≡ true
same_itself a =
    let ip : bytes_eq a.ip a.ip ≡ true = (bytes_eq-Decides a.ip a.ip).1 refl in rw ip (eq-eqb a.port a.port refl)

turned : (a b : Address) → same_address a b ≡ true → same_address b a ≡ true
turned a b t = subst (λ (x : Address). same_address b x ≡ true) (sym (same_address_is a b t)) (same_itself b)

same_turned : (a b : Address) → same_address a b ≡ same_address b a
same_turned a b = (elim (same_address a b) as (λ y. same_address a b ≡ y → y ≡ same_address b a) [
  | true ↦ λ t. sym (turned a b t)
  | false ↦ λ f. (elim (same_address b a) as (λ z. same_address b a ≡ z → false ≡ z) [
    | true ↦ λ t. sym f ∙ turned b a t
    | false ↦ λ g. refl
  ]) refl
]) refl

-- an entry passes the test of a key where its bucket is of that address
passes : (address : Address) (e : AddressKey × Bucket) → e.0 ≡ key_of e.1.address
    → same_key (key_of address) e.0 ≡ same_address e.1.address address
passes address e k = ap (same_key (key_of address)) k ∙ same_turned address e.1.address

pub found_at : (address : Address) (es : List (AddressKey × Bucket)) → AreKeyed es
    → lookup (same_key (key_of address)) es ≡ bucket_at address (buckets_in es)
found_at address [] k = refl
found_at address (e ∷ es) k =
    let is = passes address e k.0 in
    (elim (same_address e.1.address address) as (λ y.
    same_address e.1.address address ≡ y
    → lookup (same_key (key_of address)) (e ∷ es) ≡ bucket_at address (buckets_in (e ∷ es))) [
      | true ↦ λ t. let p = is ∙ t in rw p (rw t refl)
      | false ↦ λ f. let p = is ∙ f in rw p (rw f (found_at address es k.1))
    ]) refl

-- the entries without that of an address
record IsWithout (address : Address) (es : List (AddressKey × Bucket)) : Type 0 where
  pub none : lookup_entry (same_key (key_of address)) es ≡ None → remove_entry (same_key (key_of address)) es ≡ es
  pub some : (e : AddressKey × Bucket) → lookup_entry (same_key (key_of address)) es ≡ Some e
      → (e.0 ≡ key_of address) × (suc (length (remove_entry (same_key (key_of address)) es)) ≡ length es)
  pub others : buckets_in (remove_entry (same_key (key_of address)) es) ≡ other_buckets address (buckets_in es)
  pub keyed : AreKeyed (remove_entry (same_key (key_of address)) es)

without : (address : Address) (es : List (AddressKey × Bucket)) → AreKeyed es → IsWithout address es
without address [] k = record { none = λ h. refl; some = λ e h. cc; others = refl; keyed = tt }
without address (e ∷ es) k =
    let is = passes address e k.0 in
    (elim (same_address e.1.address address)
    as (λ y. same_address e.1.address address ≡ y → IsWithout address (e ∷ es)) [
      | true ↦ λ t. let p = is ∙ t in record {
        none = λ h. (let h' = rw p at h in cc);
        some = λ f h.
            let h' = rw p at h in
            let same : e ≡ f = cc in (
              subst (λ (x : AddressKey × Bucket). x.0 ≡ key_of address) same
                  (k.0 ∙ ap key_of (same_address_is e.1.address address t)),
              rw p refl,
            );
        others = rw p (rw t refl);
        keyed = rw p k.1;
      }
      | false ↦ λ f. let p = is ∙ f in let on = without address es k.1 in record {
        none = λ h. rw p (ap (λ (l : List (AddressKey × Bucket)). e ∷ l) (on.none (rw p at h)));
        some = λ x h. let at = on.some x (rw p at h) in (at.0, rw p (ap (λ n. suc n) at.1));
        others = rw p (rw f (ap (λ (l : List Bucket). e.1 ∷ l) on.others));
        keyed = rw p (k.0, on.keyed);
      }
    ]) refl

taken : (n : ℕ) (es : List (AddressKey × Bucket)) → buckets_in (take n es) ≡ take n (buckets_in es)
taken zero es = refl
taken (suc n) [] = refl
taken (suc n) (e ∷ es) = ap (λ (l : List Bucket). e.1 ∷ l) (taken n es)

keyed_front : (n : ℕ) (es : List (AddressKey × Bucket)) → AreKeyed es → AreKeyed (take n es)
keyed_front zero es k = tt
keyed_front (suc n) [] k = tt
keyed_front (suc n) (e ∷ es) k = (k.0, keyed_front n es k.1)

few_front : (n : ℕ) (es : List (AddressKey × Bucket)) → length (take n es) ≤ n
few_front zero es = omega arith
few_front (suc n) [] = omega arith
few_front (suc n) (e ∷ es) = let rest = few_front n es in omega (arith, rest)

-- a bucket that was put under its key
pub record IsPut (a : Bucket) (before after : List (AddressKey × Bucket)) : Type 0 where
  pub used : buckets_in after ≡ used a (buckets_in before)
  pub few : length after ≤ most_addresses
  pub keyed : AreKeyed after

pub is_put : (a : Bucket) (es : List (AddressKey × Bucket)) → length es ≤ most_addresses → AreKeyed es
    → IsPut a es (put_within most_addresses (key_of a.address) a es)
is_put a es few k =
    let w = without a.address es k in
    let test = same_key (key_of a.address) in
    (elim (lookup_entry test es) as (λ o.
    lookup_entry test es ≡ o
    → IsPut a es
    (option_map_or (λ e. (e.0, a) ∷ remove_entry test es) o ((key_of a.address, a) ∷ take (most_addresses - 1) es))) [
      | Some e ↦ λ is.
          let at = w.some e is in
          let len : length (buckets_in (remove_entry test es)) ≡ length (remove_entry test es) =
          length-map (remove_entry test es) (λ e. e.1) in
          let short : length (other_buckets a.address (buckets_in es)) ≤ 1023 =
          subst (λ (l : List Bucket). length l ≤ 1023) w.others (omega (arith, len, at.1, few)) in
          record {
            used =
                ap (λ (l : List Bucket). a ∷ l)
                (w.others ∙ sym (take_all 1023 (other_buckets a.address (buckets_in es)) short));
            few = omega (arith, at.1, few);
            keyed = (at.0, w.keyed);
          }
      | None ↦ λ is.
          let others : buckets_in es ≡ other_buckets a.address (buckets_in es) =
          ap buckets_in (sym (w.none is)) ∙ w.others in
          let short = few_front 1023 es in
          record {
            used = ap (λ (l : List Bucket). a ∷ l) (taken 1023 es ∙ ap (take 1023) others);
            few = omega (arith, short);
            keyed = (refl, keyed_front 1023 es k);
          }
    ]) refl

-- an address that was used twice in a row
take_again : (n : ℕ) (xs : List Bucket) → take n (take n xs) ≡ take n xs
take_again zero xs = refl
take_again (suc n) [] = refl
take_again (suc n) (x ∷ xs) = ap (λ (l : List Bucket). x ∷ l) (take_again n xs)

pub used_again : (a b : Bucket) (buckets : List Bucket) → a.address ≡ b.address
    → used b (used a buckets) ≡ used b buckets
used_again a b buckets same =
    let t : same_address a.address b.address ≡ true =
    subst (λ (x : Address). same_address a.address x ≡ true) same (same_itself a.address) in
    rw t (ap (λ (l : List Bucket). b ∷ l) (take_again 1023 (other_buckets a.address buckets)
    ∙ ap (λ (x : Address). take 1023 (other_buckets x buckets)) same))

-- a bucket of a draft's address is used after whatever the draft was
pub drafted_again : (b : Bucket) (address : Address) (o : Option Bucket) (buckets : List Bucket) → b.address ≡ address
    → IfSome o (λ a. a.address ≡ address)
    → used b (drafted o buckets) ≡ used b buckets
drafted_again b address None buckets same h = refl
drafted_again b address (Some a) buckets same h = used_again a b buckets (h ∙ sym same)
