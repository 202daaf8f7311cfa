-- Facts of a good result, put together.
use Rattle.std.proofs.Common.{Result, Ok, Err, IfOk, OnOk}

pub with_fact : {T E P : Type 0} {Q R : T → Type 0} (r : Result T E) → OnOk r P → IfOk r Q → ((x : T) → P → Q x → R x)
    → IfOk r R
with_fact (Ok x) p q f = f x p q
with_fact (Err e) p q f = tt

pub from_fact : {T E : Type 0} {Q R : T → Type 0} (r : Result T E) → IfOk r Q → ((x : T) → Q x → R x) → IfOk r R
from_fact (Ok x) q f = f x q
from_fact (Err e) q f = tt

pub with_facts : {T E : Type 0} {P Q R : T → Type 0} (r : Result T E) → IfOk r P → IfOk r Q
    → ((x : T) → P x → Q x → R x) → IfOk r R
with_facts (Ok x) p q f = f x p q
with_facts (Err e) p q f = tt
