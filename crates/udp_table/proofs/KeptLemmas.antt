use Rattle.std.proofs.Common.{◌≡◌, ℕ, Bool, true, false, List, [], ◌∷◌, ◌++◌, refl, sym, ap, ◌∙◌}
use Rattle.std.specs.Prelude.{fold, nat_eq, Option, None, Some, if◌then◌else◌}
use Rattle.std.proofs.lemmas.List.Sums.{fold-append}
use Rattle.udp_table.specs.Table.{Cut, with_octet, uncut, cut, longer, or_else, line_tells, first_told}
use Rattle.udp_table.specs.Kept.{Kept, IsReadOf, HasBeenFed}
use Rattle.udp_table.specs.inner.Steps.{kept_with, told_or}

or_none : {A : Type 0} (x : Option A) → x ≡ or_else x None
or_none None = refl
or_none (Some a) = refl

or_assoc : {A : Type 0} (x y z : Option A) → or_else (or_else x y) z ≡ or_else x (or_else y z)
or_assoc None y z = refl
or_assoc (Some a) y z = refl

first_more : (inode : ℕ) (lines : List (List ℕ)) (line : List ℕ)
    → or_else (first_told inode lines) (line_tells inode line) ≡ first_told inode (lines ++ line ∷ [])
first_more inode [] line = or_none (line_tells inode line)
first_more inode (one ∷ lines) line =
    or_assoc (line_tells inode one) (first_told inode lines) (line_tells inode line)
    ∙ ap (λ told. or_else (line_tells inode one) told) (first_more inode lines line)

told_more : (c : Cut) (k : Kept) → IsReadOf c k → told_or k ≡ first_told k.inode (c.ended ++ c.rest ∷ [])
told_more c k s =
    ap (λ told. or_else told (line_tells k.inode k.rest)) s.told
    ∙ ap (λ line. or_else (first_told k.inode c.ended) (line_tells k.inode line)) s.rest
    ∙ first_more k.inode c.ended c.rest

-- an octet that is an LF, or isn't
stepped : (is_end : Bool) (c : Cut) (k : Kept) (octet : ℕ) → IsReadOf c k
    → IsReadOf
    (if is_end then record { ended = c.ended ++ c.rest ∷ []; rest = [] }
    else record { ended = c.ended; rest = longer c.rest octet })
    (if is_end then record { inode = k.inode; told = told_or k; rest = [] }
    else record { inode = k.inode; told = k.told; rest = longer k.rest octet })
stepped true c k octet s = record { told = told_more c k s; rest = refl }
stepped false c k octet s = record { told = s.told; rest = ap (λ line. longer line octet) s.rest }

step : (c : Cut) (k : Kept) (octet : ℕ) → IsReadOf c k → IsReadOf (with_octet c octet) (kept_with k octet)
step c k octet s = stepped (nat_eq octet 10) c k octet s

steps : (octets : List ℕ) (c : Cut) (k : Kept) → IsReadOf c k
    → IsReadOf (fold with_octet c octets) (fold kept_with k octets)
steps [] c k s = s
steps (octet ∷ octets) c k s = steps octets (with_octet c octet) (kept_with k octet) (step c k octet s)

-- what is kept of a text and then of these octets is kept of both
pub fed : (before octets : List ℕ) (k : Kept) → HasBeenFed k before
    → HasBeenFed (fold kept_with k octets) (before ++ octets)
fed before octets k s = rw (fold-append with_octet uncut before octets) (steps octets (cut before) k s)

abbrev inode_of : Kept → ℕ
inode_of k = k.inode

of_both : (is_end : Bool) (k one other : Kept) → one.inode ≡ k.inode → other.inode ≡ k.inode
    → (inode_of (if is_end then one else other)) ≡ k.inode
of_both true k one other a b = a
of_both false k one other a b = b

stays : (k : Kept) (octet : ℕ) → (kept_with k octet).inode ≡ k.inode
stays k octet = of_both (nat_eq octet 10) k _ _ refl refl

-- the socket stays the same
pub same_inode : (octets : List ℕ) (k : Kept) → (fold kept_with k octets).inode ≡ k.inode
same_inode [] k = refl
same_inode (octet ∷ octets) k = same_inode octets (kept_with k octet) ∙ stays k octet
