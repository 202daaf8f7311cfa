-- What is known of a writer's octets, step by step.
use Rattle.std.proofs.Math.Seq.{take-add}
use Rattle.std.proofs.Common.{◌≡◌, ℕ, zero, suc, ◌+◌, ◌-◌, ◌<◌, List, [], ◌∷◌, ◌++◌, length, take, drop, Option, Some}
use Rattle.std.proofs.Common.{None, refl, sym, ap, ◌∙◌, subst, append_assoc, arith}
use Rattle.std.specs.Io.KnownBytes.{Appends, Keeps}
use Rattle.std.proofs.lemmas.List.{append-nil}
use Rattle.desk_text.proofs.PartLemmas.{tail_is}
use Rattle.script_text.specs.Output.{IsCutOf}

pub Appends-none : (a : Option (List ℕ)) → Appends a a []
Appends-none None = tt
Appends-none (Some xs) = sym (append-nil xs)

pub Appends-keeps : (a b : Option (List ℕ)) → Keeps a b → Appends a b []
Appends-keeps None b h = tt
Appends-keeps (Some xs) None h = h
Appends-keeps (Some xs) (Some ys) h = h ∙ sym (append-nil xs)

pub Appends-then : (a b c : Option (List ℕ)) (x y : List ℕ) → Appends a b x → Appends b c y → Appends a c (x ++ y)
Appends-then None b c x y h k = tt
Appends-then (Some xs) None c x y h k = absurd h
Appends-then (Some xs) (Some ys) None x y h k = k
Appends-then (Some xs) (Some ys) (Some zs) x y h k = k ∙ (ap (λ (t : List ℕ). t ++ y) h ∙ append_assoc xs x y)

pub Appends-same : (a b : Option (List ℕ)) (x y : List ℕ) → x ≡ y → Appends a b x → Appends a b y
Appends-same a b x y e h = subst (λ (t : List ℕ). Appends a b t) e h

pub Appends-then_keeps : (a b c : Option (List ℕ)) (x : List ℕ) → Appends a b x → Keeps b c → Appends a c x
Appends-then_keeps a b c x h k =
    Appends-same a c (x ++ []) x (append-nil x) (Appends-then a b c x [] h (Appends-keeps b c k))

-- a front went out, and then n more
pub Appends-more : (a b c : Option (List ℕ)) (xs : List ℕ) (i n : ℕ) → Appends a b (take i xs)
    → Appends b c (take n (take (length xs - i) (drop i xs))) → Appends a c (take (i + n) xs)
Appends-more a b c xs i n h k =
    Appends-same a c _ (take (i + n) xs) (sym (take-add i n xs)) (Appends-then a b c (take i xs) (take n (drop i xs)) h
    (subst (λ (t : List ℕ). Appends b c (take n t)) (tail_is i xs) k))

-- the octets before a place within them are a front and not all
pub cut_at : (octets : List ℕ) (at : ℕ) → at < length octets → IsCutOf (take at octets) octets
cut_at [] at h = absurd (omega arith)
cut_at (x ∷ xs) zero h = (x, xs, refl)
cut_at (x ∷ xs) (suc at) h =
    let rest = cut_at xs at (omega arith) in (rest.0, rest.1, ap (λ (t : List ℕ). x ∷ t) rest.2)
