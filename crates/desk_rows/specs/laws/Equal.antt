-- The tests of equality say what they mean.
use Rattle.std.specs.Prelude.{◌≡◌, ◌||◌, ◌∷◌, ◌++◌, if◌then◌else◌}
use Rattle.desk_rows.specs.laws.Words.{ℕ, zero, suc, true, false, List, [], length, refl, sym, ap, ◌∙◌, arith, nat_eq}
use Rattle.desk_rows.specs.laws.Words.{eq-eqb, eqb-true, and_parts, and_from, bytes_eq, bytes_eq-Decides, Address}
use Rattle.desk_rows.specs.laws.Words.{same_address, Claim, Codec, Key, Kind, Media, Row, Room, precedes, key_precedes}
use Rattle.desk_rows.specs.laws.Words.{same_row, has_key, rank, kind_of, own_numbers, key_numbers, key_of, same_key}
use Rattle.desk_rows.specs.laws.Words.{same_claim, claim_numbers, row_values, row_with, codec_number, media_number}
use Rattle.desk_rows.specs.laws.Words.{same_value, same_values}
use Rattle.desk_rows.specs.declared.values.RowValue.{RowValue}
use Rattle.desk_rows.specs.declared.values.RowValue.TheVariants as values
use Rattle.desk_rows.specs.declared.key.Kind.TheVariants as kinds
use Rattle.desk_rows.specs.declared.key.Key.TheVariants as keys
use Rattle.desk_rows.specs.declared.claim.Claim.TheVariants as claims
use Rattle.desk_rows.specs.laws.ListLaws.{true_false, or_turned}
use Rattle.desk_rows.specs.laws.NumberLaws.{same_numbers_is, numbers_themselves, numbers_not_before, numbers_precede_on}
use Rattle.desk_rows.specs.laws.NumberLaws.{one_list_precedes}

pub number_itself : (n : ℕ) → nat_eq n n ≡ true
number_itself n = eq-eqb n n refl

-- ---- keys

key_by : ℕ → ℕ → ℕ → Key
key_by r m n =
    if nat_eq r (rank kinds.Room) then keys.Room n else
    if nat_eq r (rank kinds.Member) then keys.Member n else
    if nat_eq r (rank kinds.Source) then keys.Source n else
    if nat_eq r (rank kinds.Slot) then keys.Slot n else
    if nat_eq r (rank kinds.Sub) then keys.Sub n else
    if nat_eq r (rank kinds.Mute) then keys.Mute n else
    if nat_eq r (rank kinds.Gain) then keys.Gain m n else
    if nat_eq r (rank kinds.Pin) then keys.Pin n else keys.Floor n

key_from : List ℕ → Key
key_from (kind ∷ first ∷ second ∷ xs) = key_by kind first second
key_from _ = keys.Room 0

-- a key is read off its numbers
key_back : (k : Key) → key_from (key_numbers k) ≡ k
unfolding key_from key_by
key_back (keys.Room n) = refl
key_back _ = refl

pub same_key_is : (a b : Key) → same_key a b ≡ true → a ≡ b
same_key_is a b e = sym (key_back a) ∙ ap key_from (same_numbers_is (key_numbers a) (key_numbers b) e) ∙ key_back b

pub key_itself : (k : Key) → same_key k k ≡ true
key_itself k = numbers_themselves (key_numbers k)

-- the row that has a key has no other
pub its_key : (k : Key) (r : Row) → has_key k r ≡ true → key_of r ≡ k
its_key k r e = same_key_is (key_of r) k e

pub keys_precede_on : (x y z : Key) → key_precedes x y ≡ true → key_precedes y z ≡ true → key_precedes x z ≡ true
keys_precede_on x y z e f = numbers_precede_on (key_numbers x) (key_numbers y) (key_numbers z) e f

-- no key stands before itself
pub not_before_itself : (r : Row) → precedes r r ≡ false
not_before_itself r = numbers_not_before (key_numbers (key_of r))

pub three_numbers : (k : Key) → ◌≡◌ {A = ℕ} (length (key_numbers k)) 3
three_numbers (keys.Room n) = refl
three_numbers _ = refl

-- of two keys that differ one stands before the other
pub one_precedes : (a b : Row) → has_key (key_of a) b ≡ false → (precedes a b || precedes b a) ≡ true
one_precedes a b e =
    or_turned (precedes a b) (precedes b a)
    ∙ one_list_precedes (key_numbers (key_of b)) (key_numbers (key_of a))
    (three_numbers (key_of b) ∙ sym (three_numbers (key_of a))) e

-- ---- values

pub same_address_is : (a b : Address) → same_address a b ≡ true → a ≡ b
same_address_is a b h =
    let both = and_parts (bytes_eq a.ip b.ip) (nat_eq a.port b.port) h in
    let ips : a.ip ≡ b.ip = (bytes_eq-Decides a.ip b.ip).0 both.0 in
    let ports : a.port ≡ b.port = eqb-true a.port b.port both.1 in
    λ i. record { ip = ips i; port = ports i }

same_codec_is : (a b : Codec) → nat_eq (codec_number a) (codec_number b) ≡ true → a ≡ b
same_codec_is a b e = grind arith

same_media_is : (a b : Media) → nat_eq (media_number a) (media_number b) ≡ true → a ≡ b
same_media_is a b e = grind arith

same_value_is : (x y : RowValue) → same_value x y ≡ true → x ≡ y
same_value_is (values.U16 m) (values.U16 n) e = ap values.U16 (eqb-true m n e)
same_value_is (values.U32 m) (values.U32 n) e = ap values.U32 (eqb-true m n e)
same_value_is (values.Address a) (values.Address b) e = ap values.Address (same_address_is a b e)
same_value_is (values.Codec a) (values.Codec b) e = ap values.Codec (same_codec_is a b e)
same_value_is (values.Media a) (values.Media b) e = ap values.Media (same_media_is a b e)
same_value_is _ _ e = absurd (true_false (sym e))

value_itself : (x : RowValue) → same_value x x ≡ true
value_itself (values.U16 n) = number_itself n
value_itself (values.U32 n) = number_itself n
value_itself (values.Address a) =
    and_from (bytes_eq a.ip a.ip) (nat_eq a.port a.port) ((bytes_eq-Decides a.ip a.ip).1 refl) (number_itself a.port)
value_itself (values.Codec c) = number_itself (codec_number c)
value_itself (values.Media m) = number_itself (media_number m)

same_values_is : (xs ys : List RowValue) → same_values xs ys ≡ true → xs ≡ ys
same_values_is [] [] e = refl
same_values_is (x ∷ xs) (y ∷ ys) e =
    let both = and_parts (same_value x y) (same_values xs ys) e in
    ap (λ (z : RowValue). z ∷ xs) (same_value_is x y both.0)
    ∙ ap (λ (zs : List RowValue). y ∷ zs) (same_values_is xs ys both.1)
same_values_is _ _ e = absurd (true_false (sym e))

values_themselves : (xs : List RowValue) → same_values xs xs ≡ true
values_themselves [] = refl
values_themselves (x ∷ xs) = and_from (same_value x x) (same_values xs xs) (value_itself x) (values_themselves xs)

-- ---- rows

kind_by : ℕ → Kind
kind_by r =
    if nat_eq r (rank kinds.Room) then kinds.Room else
    if nat_eq r (rank kinds.Member) then kinds.Member else
    if nat_eq r (rank kinds.Source) then kinds.Source else
    if nat_eq r (rank kinds.Slot) then kinds.Slot else
    if nat_eq r (rank kinds.Sub) then kinds.Sub else
    if nat_eq r (rank kinds.Mute) then kinds.Mute else
    if nat_eq r (rank kinds.Gain) then kinds.Gain else
    if nat_eq r (rank kinds.Pin) then kinds.Pin else kinds.Floor

-- a kind is read off its rank
kind_back : (kind : Kind) → kind_by (rank kind) ≡ kind
unfolding kind_by
kind_back kinds.Room = refl
kind_back _ = refl

-- a row is read off its kind and its values
row_back : (r : Row) → row_with (kind_of (key_of r)) (row_values r) ≡ r
row_back (Room r) = refl
row_back _ = refl

pub same_row_is : (a b : Row) → same_row a b ≡ true → a ≡ b
same_row_is a b e =
    let kind : Row → Kind = λ (r : Row). kind_of (key_of r) in
    let both = and_parts (nat_eq (rank (kind a)) (rank (kind b))) (same_values (row_values a) (row_values b)) e in
    let same : kind a ≡ kind b = sym (kind_back (kind a)) ∙ (ap kind_by (eqb-true _ _ both.0) ∙ kind_back (kind b)) in
    sym (row_back a)
    ∙ (ap (λ (k : Kind). row_with k (row_values a)) same
    ∙ (ap (row_with (kind b)) (same_values_is (row_values a) (row_values b) both.1) ∙ row_back b))

pub row_itself : (r : Row) → same_row r r ≡ true
row_itself r =
    and_from (nat_eq (rank (kind_of (key_of r))) (rank (kind_of (key_of r))))
    (same_values (row_values r) (row_values r)) (number_itself (rank (kind_of (key_of r))))
    (values_themselves (row_values r))

-- ---- claims

claim_by : ℕ → List ℕ → Claim
claim_by zero xs = claims.Key (key_from xs)
claim_by (suc zero) (port ∷ ip) = claims.Address record { ip = ip; port = port }
claim_by (suc (suc zero)) (ssrc ∷ xs) = claims.Ssrc ssrc
claim_by _ (member ∷ index ∷ xs) = claims.Place member index
claim_by _ xs = claims.Ssrc 0

claim_from : List ℕ → Claim
claim_from (which ∷ xs) = claim_by which xs
claim_from [] = claims.Ssrc 0

-- a claim is read off its numbers
claim_back : (c : Claim) → claim_from (claim_numbers c) ≡ c
unfolding claim_from claim_by key_from key_by
claim_back (claims.Key k) = ap claims.Key (padded k) where
  padded : (k : Key) → key_from (rank (kind_of k) ∷ own_numbers k ++ (0 ∷ 0 ∷ [])) ≡ k
  padded (keys.Room n) = refl
  padded _ = refl
claim_back _ = refl

pub same_claim_is : (a b : Claim) → same_claim a b ≡ true → a ≡ b
same_claim_is a b e =
    sym (claim_back a) ∙ ap claim_from (same_numbers_is (claim_numbers a) (claim_numbers b) e) ∙ claim_back b

pub claim_itself : (c : Claim) → same_claim c c ≡ true
claim_itself c = numbers_themselves (claim_numbers c)
