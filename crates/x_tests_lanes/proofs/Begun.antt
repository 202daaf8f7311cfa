-- Lanes that are made one after another.
use Rattle.std.proofs.Common.{◌≡◌, ◌+◌, ◌∙◌, ℕ, List, [], ◌∷◌, ◌++◌, All, length, Some, slice_get, codes, ap, subst}
use Rattle.std.proofs.Common.{sym}
use Rattle.std.proofs.lemmas.List.{length_push}
use Rattle.std.proofs.lemmas.List.Elements.{All-push}
use Rattle.logbook.specs.Pages.{Book}
use Rattle.desk_rows.specs.Desk.{Desk}
use Rattle.sender_feedback.specs.Upstream.{Asker}
use Rattle.published_desk.specs.Published.{ReaderOf, new_reader}
use Rattle.bridge_core.specs.LaneState.{LaneOf, HasHandled}
use Rattle.media_workers.specs.LaneRuns.{LaneNow}
use Rattle.media_workers.specs.Bridges.{IsNew, AreNew}
use Rattle.x_tests_lanes.proofs.Listed.{each_more}

-- the name of the tests' bridge
abbrev pub the_name : Asker
the_name = record { ssrc = 1; cname = codes "bridge" }

-- the lanes so far, of a bridge of so many
abbrev pub AreBegun : ℕ → List LaneNow → Type 0
AreBegun many lanes = (place : ℕ) (lane : LaneNow) → slice_get lanes place ≡ Some lane → IsNew the_name many place lane

-- the lanes so far are read by readers of this publisher
abbrev pub AreReadBy : Book → List LaneNow → Type 0
AreReadBy publisher lanes = All (λ (lane : LaneNow). lane.reader.publisher ≡ publisher) lanes

pub is_new : (lane : LaneNow) (state : LaneOf) (reader : ReaderOf) (many place : ℕ)
    → lane ≡ record { state = state; reader = reader } → HasHandled state []
    → (state.lane ≡ place) × (state.lanes ≡ many)
    → state.who ≡ the_name → IsNew the_name many place lane
is_new lane state reader many place is none at who =
    let new : LaneNow = record { state = state; reader = reader } in
    let here : IsNew the_name many place new = record { number = at.0; lanes = at.1; who = who; none = none } in
    subst (IsNew the_name many place) (sym is) here

pub is_read : (lane : LaneNow) (state : LaneOf) (reader : ReaderOf) (publisher : Book) (start : Desk)
    → lane ≡ record { state = state; reader = reader } → reader ≡ new_reader publisher start
    → lane.reader.publisher ≡ publisher
is_read lane state reader publisher start is same =
    ap (λ (l : LaneNow). l.reader.publisher) is ∙ ap (λ (r : ReaderOf). r.publisher) same

pub begun_more : (many place : ℕ) (old new : List LaneNow) (lane : LaneNow) → new ≡ old ++ lane ∷ [] → AreBegun many old
    → length old ≡ place → IsNew the_name many place lane → AreBegun many new
begun_more many place old new lane is begun count one =
    let last : IsNew the_name many (length old) lane = subst (λ (n : ℕ). IsNew the_name many n lane) (sym count) one in
    subst (AreBegun many) (sym is) (each_more (λ n l. IsNew the_name many n l) old lane begun last)

pub read_more : (publisher : Book) (old new : List LaneNow) (lane : LaneNow) → new ≡ old ++ lane ∷ []
    → AreReadBy publisher old → lane.reader.publisher ≡ publisher → AreReadBy publisher new
read_more publisher old new lane is all one =
    subst (AreReadBy publisher) (sym is) (All-push (λ (l : LaneNow). l.reader.publisher ≡ publisher) old lane all one)

pub count_more : (place : ℕ) (old new : List LaneNow) (lane : LaneNow) → new ≡ old ++ lane ∷ [] → length old ≡ place
    → length new ≡ place + 1
count_more place old new lane is count = ap length is ∙ length_push old lane ∙ ap (λ (n : ℕ). n + 1) count

pub are_new : (many : ℕ) (lanes : List LaneNow) → AreBegun many lanes → length lanes ≡ many → AreNew lanes
are_new many lanes begun count = (the_name, subst (λ (n : ℕ). AreBegun n lanes) (sym count) begun)
