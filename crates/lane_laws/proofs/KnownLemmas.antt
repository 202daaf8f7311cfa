-- What lanes knew when they ended.
use Rattle.std.proofs.Common.{◌≡◌, ◌<◌, ◌+◌, ℕ, Bool, zero, suc, List, [], ◌∷◌, length, sym, subst, ◌∙◌, arith}
use Rattle.std.specs.Prelude.{slice_index_or}
use mathlib.Core.List.{IsPrefix}
use Rattle.logbook.specs.Pages.{Book}
use Rattle.desk_rows.specs.Edit.{EditOf}
use Rattle.published_desk.proofs.Prefixes.{prefix_length}
use Rattle.media_workers.specs.declared.lane_end.LaneEnd.{LaneEnd}
use Rattle.media_workers.specs.Ports.{PortOf}
use Rattle.media_workers.specs.Bridges.{Taking, AllEnded}
use Rattle.lane_laws.specs.Learnt.{HaveKnown, HaveEnded, AllRead, lanes_of}

-- what the first k of these lanes knew are beginnings of the lists
abbrev pub FirstKnown : {N S : Type 0} → ℕ → List (List EditOf) → List (LaneEnd N S) → Type 0
FirstKnown zero lists ends = Unit {0}
FirstKnown (suc k) lists [] = Unit {0}
FirstKnown (suc k) lists (e ∷ es) = IsPrefix e.known.lists lists × FirstKnown k lists es

pub first_more : {N S : Type 0} (k : ℕ) (lists : List (List EditOf)) (ends : List (LaneEnd N S)) (e : LaneEnd N S)
    → FirstKnown k lists ends → k < length ends → e ≡ slice_index_or ends k e
    → IsPrefix e.known.lists lists → FirstKnown (suc k) lists ends
first_more k lists [] e first low at known = tt
first_more {N} {S} zero lists (d ∷ es) e first low at known =
    (subst (λ (x : LaneEnd N S). IsPrefix x.known.lists lists) at known, tt)
first_more (suc k) lists (d ∷ es) e first low at known =
    (first.0, first_more k lists es e first.1 (omega (arith, low)) at known)

pub all_known : {N S : Type 0} (lists : List (List EditOf)) (ends : List (LaneEnd N S))
    → FirstKnown (length ends) lists ends → HaveKnown lists ends
all_known lists [] first = tt
all_known lists (e ∷ es) first = (first.0, all_known lists es first.1)

-- a lane that knew more
pub knew_more : {N S : Type 0} (k : ℕ) (lists : List (List EditOf)) (ends : List (LaneEnd N S)) (e : LaneEnd N S)
    → k < length ends → e ≡ slice_index_or ends k e
    → length lists < length e.known.lists → HaveKnown lists ends → ⊥
knew_more k lists [] e low at more known = absurd (omega (arith, low))
knew_more {N} {S} zero lists (d ∷ es) e low at more known =
    let few =
    prefix_length e.known.lists lists (subst (λ (x : LaneEnd N S). IsPrefix x.known.lists lists) (sym at) known.0) in
    absurd (omega (arith, few, more))
knew_more (suc k) lists (d ∷ es) e low at more known = knew_more k lists es e (omega (arith, low)) at more known.1

-- each lane's end names its reader's publisher
of_publisher : {N P S : Type 0} (answers : P → ℕ → Bool → Type 0) (taken : Taking S) (publisher : Book)
    (ports : List (PortOf P S)) (ends : List (LaneEnd N S))
    → AllEnded answers taken ports ends
    → AllRead publisher (lanes_of ports) → (k : ℕ) (e : LaneEnd N S) → k < length ends → e ≡ slice_index_or ends k e
    → e.known.publisher ≡ publisher
of_publisher answers taken publisher [] [] ended of k e low at = absurd (omega (arith, low))
of_publisher answers taken publisher [] (d ∷ es) ended of k e low at = absurd ended
of_publisher answers taken publisher (p ∷ ps) [] ended of k e low at = absurd ended
of_publisher {N} {P} {S} answers taken publisher (p ∷ ps) (d ∷ es) ended of zero e low at =
    subst (λ (x : LaneEnd N S). x.known.publisher ≡ publisher) (sym at)
    (ended.0.ran.known.publisher ∙ of 0 p.lane (omega arith))
of_publisher answers taken publisher (p ∷ ps) (d ∷ es) ended of (suc k) e low at =
    of_publisher answers taken publisher ps es ended.1 (λ j d less. of (suc j) d (omega (arith, less))) k e
    (omega (arith, low)) at

pub its_publisher : {N P S : Type 0} (answers : P → ℕ → Bool → Type 0) (taken : Taking S) (publisher : Book)
    (ends : List (LaneEnd N S))
    → HaveEnded answers taken publisher ends
    → (k : ℕ) (e : LaneEnd N S) → k < length ends → e ≡ slice_index_or ends k e → e.known.publisher ≡ publisher
its_publisher answers taken publisher ends ended k e low at =
    of_publisher answers taken publisher ended.0 ends ended.1 ended.2 k e low at

pub one_more : (k : ℕ) → suc k ≡ k + 1
one_more k = omega arith
